-- The symbol of one token, and the symbols of a list of tokens one by one.
use Rattle.std.proofs.Common.{◌≡◌, ℕ, ◌+◌, ◌<◌, ◌≤◌, Bool, List, [], ◌∷◌, ◌++◌, Some, None, Result, Ok, Err, IfOk, IfErr, length, drop, map, get_or, refl, sym, ap, ◌∙◌, subst, append_assoc, add-one, drop-cons}
use Rattle.std.proofs.lemmas.List.{map-append, drop_all, append-nil}
use Rattle.mpc_values.specs.declared.owners.Level.{Level}
use Rattle.hls_pragma.specs.declared.directives.NameSpan.{NameSpan}
use Rattle.hls_pragma.specs.declared.directives.PragmaRefusal.{PragmaRefusal}
use Rattle.hls_pragma.specs.declared.directives.Pragma.{Pragma}
use Rattle.hls_pragma.specs.declared.directives.Pragma.TheVariants as pragma
use Rattle.hls_pragma.specs.Reads.{Reads}
use Rattle.c_lex.specs.declared.tokens.Token.{Token}
use Rattle.c_lex.specs.declared.tokens.Kind.TheVariants as kind
use Rattle.c_parse.specs.declared.symbols.Class.{Class}
use Rattle.c_parse.specs.declared.symbols.Class.TheVariants as class
use Rattle.c_parse.specs.declared.symbols.Symbol.{Symbol}
use Rattle.c_parse.specs.Symbols.{Sym, Symbols, Shows, none, shown, foreign, as_scope, as_single, as_barrier, as_refused, sym_of, bytes_of, named_in}
use Rattle.c_parse.specs.Seen.{Sees, made}

pub sees_some : (src : List ℕ) (t : Token) (c : Class) (names : List (List ℕ)) (s : Symbol) → s ≡ made t c names → Shows src t c names → Sees src t (Some s)
sees_some src t c names s e h = subst (λ s. Sees src t (Some s)) (sym e) (h, refl)

-- one more symbol in front
pub one_seen : (src : List ℕ) (t : Token) (ts : List Token) (s : Symbol) (ss : List Sym) → Sees src t (Some s) → Symbols src ts ss → Symbols src (t ∷ ts) (sym_of src s ∷ ss)
one_seen src t ts s ss h rest = subst (λ y. Symbols src (t ∷ ts) (y ∷ ss)) (sym h.1) (shown t ts s.class s.names ss h.0 rest)

pub none_seen : (src : List ℕ) (t : Token) (ts : List Token) (ss : List Sym) → Sees src t None → Symbols src ts ss → Symbols src (t ∷ ts) ss
none_seen src t ts ss h rest = foreign t ts ss h.0 h.1 rest

-- ---- a pragma, by what its line says

abbrev pub Read : Type 0
Read = Result Pragma PragmaRefusal

pub reads_in : (line : List ℕ) (r : Read) (p q : Pragma) → IfOk r (Reads line) → r ≡ Ok p → p ≡ q → Reads line q
reads_in line r p q h e f = subst (Reads line) f (subst (λ (s : Read). IfOk s (Reads line)) e h)

pub scope_seen : (src : List ℕ) (t : Token) (line : List ℕ) (level : Level) (names : List NameSpan) (list : List (List ℕ)) (s : Symbol) → t.kind ≡ kind.Pragma
    → line ≡ bytes_of src t → Reads line (pragma.Scope level names) → list ≡ named_in line names → s ≡ made t (class.Scope level) list → Sees src t (Some s)
scope_seen src t line level names list s k e h n i =
    sees_some src t (class.Scope level) list s i
    (subst (Shows src t (class.Scope level)) (sym (n ∙ ap (λ l. named_in l names) e)) (as_scope level names k (subst (λ l. Reads l (pragma.Scope level names)) e h)))

pub single_seen : (src : List ℕ) (t : Token) (line : List ℕ) (names : List NameSpan) (nowait : Bool) (list : List (List ℕ)) (s : Symbol) → t.kind ≡ kind.Pragma
    → line ≡ bytes_of src t → Reads line (pragma.Single names nowait) → list ≡ named_in line names → s ≡ made t (class.Single nowait) list → Sees src t (Some s)
single_seen src t line names nowait list s k e h n i =
    sees_some src t (class.Single nowait) list s i
    (subst (Shows src t (class.Single nowait)) (sym (n ∙ ap (λ l. named_in l names) e)) (as_single names nowait k (subst (λ l. Reads l (pragma.Single names nowait)) e h)))

pub barrier_seen : (src : List ℕ) (t : Token) (line : List ℕ) (names : List NameSpan) (list : List (List ℕ)) (s : Symbol) → t.kind ≡ kind.Pragma
    → line ≡ bytes_of src t → Reads line (pragma.Barrier names) → list ≡ named_in line names → s ≡ made t class.Barrier list → Sees src t (Some s)
barrier_seen src t line names list s k e h n i =
    sees_some src t class.Barrier list s i
    (subst (Shows src t class.Barrier) (sym (n ∙ ap (λ l. named_in l names) e)) (as_barrier names k (subst (λ l. Reads l (pragma.Barrier names)) e h)))

pub refused_seen : (src : List ℕ) (t : Token) (line : List ℕ) (r : Read) (f : PragmaRefusal) (s : Symbol) → t.kind ≡ kind.Pragma
    → line ≡ bytes_of src t → r ≡ Err f → IfErr r (λ _. (q : Pragma) → Reads line q → ⊥) → s ≡ made t class.Refused [] → Sees src t (Some s)
refused_seen src t line r f s k e g h i =
    let no : (q : Pragma) → Reads line q → ⊥ = subst (λ (x : Read). IfErr x (λ _. (q : Pragma) → Reads line q → ⊥)) g h in
    sees_some src t class.Refused [] s i (as_refused k (λ p reads. no p (subst (λ l. Reads l p) (sym e) reads)))

pub next_tokens : (xs : List Token) (i : ℕ) (d : Token) → i < length xs → drop i xs ≡ get_or xs i d ∷ drop (i + 1) xs
next_tokens xs i d lt = drop-cons xs i d lt ∙ ap (λ n. get_or xs i d ∷ drop n xs) (sym (add-one i))

-- a step of the loop over tokens
pub step_some : (src : List ℕ) (all : List Token) (i : ℕ) (d : Token) (before after : List Symbol) (s : Symbol)
    → ((ss : List Sym) → Symbols src (drop i all) ss → Symbols src all (map (sym_of src) before ++ ss)) → i < length all → Sees src (get_or all i d) (Some s)
    → after ≡ before ++ s ∷ [] → (ss : List Sym) → Symbols src (drop (i + 1) all) ss → Symbols src all (map (sym_of src) after ++ ss)
step_some src all i d before after s inv lt h e ss rest =
    let one = one_seen src (get_or all i d) (drop (i + 1) all) s ss h rest in
    let at = inv (sym_of src s ∷ ss) (subst (λ ts. Symbols src ts (sym_of src s ∷ ss)) (sym (next_tokens all i d lt)) one) in
    subst (Symbols src all) (sym (append_assoc (map (sym_of src) before) (sym_of src s ∷ []) ss) ∙ ap (λ l. l ++ ss) (sym (map-append (sym_of src) before (s ∷ [])) ∙ ap (map (sym_of src)) (sym e))) at

pub step_none : (src : List ℕ) (all : List Token) (i : ℕ) (d : Token) (before after : List Symbol)
    → ((ss : List Sym) → Symbols src (drop i all) ss → Symbols src all (map (sym_of src) before ++ ss)) → i < length all → Sees src (get_or all i d) None
    → after ≡ before → (ss : List Sym) → Symbols src (drop (i + 1) all) ss → Symbols src all (map (sym_of src) after ++ ss)
step_none src all i d before after inv lt h e ss rest =
    let one = none_seen src (get_or all i d) (drop (i + 1) all) ss h rest in
    let at = inv ss (subst (λ ts. Symbols src ts ss) (sym (next_tokens all i d lt)) one) in
    subst (λ l. Symbols src all (map (sym_of src) l ++ ss)) (sym e) at

pub at_the_end : (src : List ℕ) (all : List Token) (i : ℕ) (found : List Symbol) → ((ss : List Sym) → Symbols src (drop i all) ss → Symbols src all (map (sym_of src) found ++ ss))
    → length all ≤ i → Symbols src all (map (sym_of src) found)
at_the_end src all i found inv le = subst (Symbols src all) (append-nil (map (sym_of src) found)) (inv [] (subst (λ ts. Symbols src ts []) (sym (drop_all i all le)) none))
