-- The items of blocks: what a pass has made of them so far, and what it makes of the next.
use Rattle.std.proofs.Common.{◌≡◌, ℕ, ◌+◌, ◌<◌, Bool, true, false, List, [], ◌∷◌, ◌++◌, ◌||◌, refl, sym, subst, ap, ◌∙◌, Vec, Global, Option, None, Some, Result, Ok, Err, IfOk, length, drop, get_or, map}
use Rattle.std.specs.Borrow.{Bor}
use Rattle.std.specs.Prelude.{Box}
use Rattle.std.proofs.lemmas.List.{drop_more}
use Rattle.std.specs.Prelude.{option_map}
use Rattle.mpc_values.specs.declared.failures.Memory.{Memory}
use Rattle.mpc_values.specs.declared.owners.Level.{Level}
use Rattle.c_tree.specs.declared.program.HlsKind.{HlsKind}
use Rattle.c_tree.specs.declared.syntax.Declaration.{Declaration}
use Rattle.c_types.specs.Declarations.{declared, declaration_outline, declaration_made}
use Rattle.c_tree.specs.declared.program.Stmt.{Stmt}
use Rattle.c_tree.specs.declared.program.Expr as made
use Rattle.c_tree.specs.declared.syntax.Expr.{Expr}
use Rattle.c_tree.specs.declared.syntax.Place.{Place}
use Rattle.c_tree.specs.declared.syntax.Stmt as source
use Rattle.c_tree.specs.declared.syntax.Stmt.TheVariants as written
use Rattle.c_tree.specs.declared.program.Ending.{Ending}
use Rattle.c_tree.specs.ProgramOf.{expr_of, stmt_of, stmts_of, function_of}
use Rattle.c_tree.specs.Programs as p
use Rattle.c_tree.specs.SyntaxOf as syntax
use Rattle.c_tree.specs.Syntax as x
use Rattle.c_tree.proofs.ProgramRows as made_rows
use Rattle.c_tree.proofs.SyntaxRows as rows
use Rattle.c_types.specs.declared.kinds.Escapes.{Escapes}
use Rattle.c_types.specs.declared.refusals.TypeRefusal.{TypeRefusal}
use Rattle.c_types.specs.Env.{Env, first_some}
use Rattle.c_types.specs.Nodes.{first_of}
use Rattle.c_types.specs.Outcomes.{Appends}
use Rattle.c_types.specs.Answers.{Makes}
use Rattle.c_types.specs.Typed.{typed}
use Rattle.c_types.specs.Statements.{onto, after, after_all, escapes, escapes_all, escapes_both, stmt_outline, stmts_outline, stmt_made, stmts_made, items_of, declared_in, single_kind, levels_of, with_construct, with_single}

pub onto_done : (items : List Stmt) → stmts_of items ≡ onto (map stmt_of items) p.Done
onto_done [] = refl
onto_done (first ∷ rest) = ap (p.Then (stmt_of first)) (onto_done rest)

-- a block by the list of its items
pub block_of_items : (items : Vec Stmt Global) (end_line : ℕ) → stmt_of (Rattle.c_tree.specs.declared.program.Stmt.TheVariants.Block items end_line) ≡ p.Block (onto (map stmt_of items.items) p.Done) end_line
block_of_items items end_line = made_rows.block_is items end_line ∙ ap (λ l. p.Block l end_line) (onto_done items.items)

-- a definition by the list of its items
pub definition_of_items : (params : List Bool) (slots : ℕ) (items : Vec Stmt Global) (ending : Ending) (end_line : ℕ)
    → function_of (record { params = params; slots = slots; body = items; ending = ending; end_line = end_line })
    ≡ record { params = params; slots = slots; body = onto (map stmt_of items.items) p.Done; ending = ending; end_line = end_line }
definition_of_items params slots items ending end_line =
    let made : p.Stmts → p.Function = λ body. record { params = params; slots = slots; body = body; ending = ending; end_line = end_line } in
    ap made (onto_done items.items)

-- a block of a source by the list of its items
block_is : (at : Place) (block : Vec source.Stmt Global) (end_line : ℕ) (items : List source.Stmt) (s : source.Stmt) → s ≡ written.Block at block end_line → items ≡ block.items
    → syntax.stmt_of s ≡ x.Block at (syntax.stmts_of items) end_line
block_is at block end_line items s is listed = ap syntax.stmt_of is ∙ rows.block_is at block end_line ∙ ap (λ l. x.Block at (syntax.stmts_of l) end_line) (sym listed)

module _ (at : Place) (block : Vec source.Stmt Global) (end_line : ℕ) (items : List source.Stmt) (s : source.Stmt) (is : s ≡ written.Block at block end_line) (listed : items ≡ block.items) where
  pub block_escapes : (found : Escapes) → found ≡ escapes_all (syntax.stmts_of items) → found ≡ escapes (syntax.stmt_of s)
  block_escapes found made = made ∙ sym (ap escapes (block_is at block end_line items s is listed))

  pub block_names : (env new : Env) → new ≡ after env (x.Block at (syntax.stmts_of items) end_line) → new ≡ after env (syntax.stmt_of s)
  block_names env new made = made ∙ sym (ap (after env) (block_is at block end_line items s is listed))

  pub block_first : (env : Env) (in_loop : Bool) (o : Option TypeRefusal) → o ≡ first_of (stmt_outline env in_loop (x.Block at (syntax.stmts_of items) end_line)) → o ≡ first_of (stmt_outline env in_loop (syntax.stmt_of s))
  block_first env in_loop o made = made ∙ sym (ap (λ b. first_of (stmt_outline env in_loop b)) (block_is at block end_line items s is listed))

  pub block_made : (env : Env) (r : Result Stmt TypeRefusal) → IfOk r (λ made. stmt_of made ≡ stmt_made env (x.Block at (syntax.stmts_of items) end_line)) → IfOk r (λ made. stmt_of made ≡ stmt_made env (syntax.stmt_of s))
  block_made env (Err refusal) made = tt
  block_made env (Ok v) made = made ∙ sym (ap (stmt_made env) (block_is at block end_line items s is listed))

or_assoc : (a b c : Bool) → ((a || b) || c) ≡ (a || (b || c))
or_assoc true b c = refl
or_assoc false b c = refl

both_assoc : (a b c : Escapes) → escapes_both (escapes_both a b) c ≡ escapes_both a (escapes_both b c)
both_assoc a b c i = record { returns = or_assoc a.returns b.returns c.returns i; jumps = or_assoc a.jumps b.jumps c.jumps i; shares = or_assoc a.shares b.shares c.shares i }

here : {A : Type 0} (all : List A) (i : ℕ) (s : A) → i < length all → s ≡ get_or all i s → drop i all ≡ s ∷ drop (i + 1) all
here all i s h is = drop_more all i s h ∙ ap (λ y. y ∷ drop (i + 1) all) (sym is)

-- one more statement
pub escapes_on : (all : List source.Stmt) (i : ℕ) (s : source.Stmt) (old next new : Escapes) → i < length all → s ≡ get_or all i s → next ≡ escapes (syntax.stmt_of s) → new ≡ escapes_both old next
    → escapes_both old (escapes_all (syntax.stmts_of (drop i all))) ≡ escapes_all (syntax.stmts_of all) → escapes_both new (escapes_all (syntax.stmts_of (drop (i + 1) all))) ≡ escapes_all (syntax.stmts_of all)
escapes_on all i s old next new h is found made inv =
    ap (λ e. escapes_both e (escapes_all (syntax.stmts_of (drop (i + 1) all)))) (made ∙ ap (escapes_both old) found)
    ∙ both_assoc old (escapes (syntax.stmt_of s)) (escapes_all (syntax.stmts_of (drop (i + 1) all)))
    ∙ sym (ap (λ l. escapes_both old (escapes_all (syntax.stmts_of l))) (here all i s h is))
    ∙ inv

onto_append : (xs ys : List p.Stmt) (rest : p.Stmts) → onto (xs ++ ys) rest ≡ onto xs (onto ys rest)
onto_append [] ys rest = refl
onto_append (first ∷ others) ys rest = ap (p.Then first) (onto_append others ys rest)

map_append : (xs ys : List Stmt) → map stmt_of (xs ++ ys) ≡ map stmt_of xs ++ map stmt_of ys
map_append [] ys = refl
map_append (first ∷ others) ys = ap (λ l. stmt_of first ∷ l) (map_append others ys)

some_assoc : (a b c : Option TypeRefusal) → first_some (first_some a b) c ≡ first_some a (first_some b c)
some_assoc None b c = refl
some_assoc (Some r) b c = refl

pub names_on : (all : List source.Stmt) (i : ℕ) (s : source.Stmt) (env new goal : Env) → i < length all → s ≡ get_or all i s → new ≡ after env (syntax.stmt_of s)
    → after_all env (syntax.stmts_of (drop i all)) ≡ goal → after_all new (syntax.stmts_of (drop (i + 1) all)) ≡ goal
names_on all i s env new goal h is made inv =
    ap (λ e. after_all e (syntax.stmts_of (drop (i + 1) all))) made ∙ sym (ap (λ l. after_all env (syntax.stmts_of l)) (here all i s h is)) ∙ inv

pub first_on : (all : List source.Stmt) (i : ℕ) (s : source.Stmt) (in_loop : Bool) (env new : Env) (old next found goal : Option TypeRefusal) → i < length all → s ≡ get_or all i s
    → new ≡ after env (syntax.stmt_of s) → next ≡ first_of (stmt_outline env in_loop (syntax.stmt_of s)) → found ≡ first_some old next
    → first_some old (first_of (stmts_outline env in_loop (syntax.stmts_of (drop i all)))) ≡ goal → first_some found (first_of (stmts_outline new in_loop (syntax.stmts_of (drop (i + 1) all)))) ≡ goal
first_on all i s in_loop env new old next found goal h is en ex ef inv =
    ap (λ o. first_some o (first_of (stmts_outline new in_loop (syntax.stmts_of (drop (i + 1) all))))) (ef ∙ ap (first_some old) ex)
    ∙ ap (λ e. first_some (first_some old (first_of (stmt_outline env in_loop (syntax.stmt_of s)))) (first_of (stmts_outline e in_loop (syntax.stmts_of (drop (i + 1) all))))) en
    ∙ some_assoc old (first_of (stmt_outline env in_loop (syntax.stmt_of s))) (first_of (stmts_outline (after env (syntax.stmt_of s)) in_loop (syntax.stmts_of (drop (i + 1) all))))
    ∙ sym (ap (λ l. first_some old (first_of (stmts_outline env in_loop (syntax.stmts_of l)))) (here all i s h is))
    ∙ inv

one_on : (all : List source.Stmt) (i : ℕ) (s : source.Stmt) (env new : Env) (old next items : List Stmt) (goal : p.Stmts) → i < length all → s ≡ get_or all i s → new ≡ after env (syntax.stmt_of s)
    → items ≡ old ++ next → map stmt_of next ≡ items_of env (syntax.stmt_of s) (stmt_made env (syntax.stmt_of s))
    → onto (map stmt_of old) (stmts_made env (syntax.stmts_of (drop i all))) ≡ goal → onto (map stmt_of items) (stmts_made new (syntax.stmts_of (drop (i + 1) all))) ≡ goal
one_on all i s env new old next items goal h is en made ex inv =
    ap (λ l. onto (map stmt_of l) (stmts_made new (syntax.stmts_of (drop (i + 1) all)))) made
    ∙ ap (λ l. onto l (stmts_made new (syntax.stmts_of (drop (i + 1) all)))) (map_append old next)
    ∙ onto_append (map stmt_of old) (map stmt_of next) (stmts_made new (syntax.stmts_of (drop (i + 1) all)))
    ∙ ap (λ l. onto (map stmt_of old) (onto l (stmts_made new (syntax.stmts_of (drop (i + 1) all))))) ex
    ∙ ap (λ e. onto (map stmt_of old) (onto (items_of env (syntax.stmt_of s) (stmt_made env (syntax.stmt_of s))) (stmts_made e (syntax.stmts_of (drop (i + 1) all))))) en
    ∙ sym (ap (λ l. onto (map stmt_of old) (stmts_made env (syntax.stmts_of l))) (here all i s h is))
    ∙ inv

pub made_on : (all : List source.Stmt) (i : ℕ) (s : source.Stmt) (env new : Env) (old next made : Result (Vec Stmt Global) TypeRefusal) (goal : p.Stmts) → i < length all → s ≡ get_or all i s
    → new ≡ after env (syntax.stmt_of s) → IfOk made (λ v. Appends old next v.items) → IfOk next (λ v. map stmt_of v.items ≡ items_of env (syntax.stmt_of s) (stmt_made env (syntax.stmt_of s)))
    → IfOk old (λ v. onto (map stmt_of v.items) (stmts_made env (syntax.stmts_of (drop i all))) ≡ goal)
    → IfOk made (λ v. onto (map stmt_of v.items) (stmts_made new (syntax.stmts_of (drop (i + 1) all))) ≡ goal)
made_on all i s env new old next (Err r) goal h is en em ex inv = tt
made_on all i s env new (Err r) next (Ok v) goal h is en em ex inv = absurd em
made_on all i s env new (Ok u) (Err r) (Ok v) goal h is en em ex inv = absurd em
made_on all i s env new (Ok u) (Ok w) (Ok v) goal h is en em ex inv = one_on all i s env new u.items w.items v.items goal h is en em ex inv

pub at_env : (P : Env → Type 0) (a b : Env) → a ≡ b → P a → P b
at_env P a b e h = subst P e h

abbrev IsNone : Option x.Declaration → Type 0
IsNone None = Unit {0}
IsNone (Some d) = ⊥

abbrev or_this : x.Declaration → Option x.Declaration → x.Declaration
or_this d None = d
or_this d (Some e) = e

-- a statement that is no declaration is one item
no_declaration : (env : Env) (s : x.Stmt) (m : p.Stmt) → None ≡ declared_in s → items_of env s m ≡ m ∷ []
no_declaration env (x.Declare d) m e = absurd (let P : Option x.Declaration → Type 0 = λ o. IsNone o in let h : ⊥ = subst P e tt in h)
no_declaration env (x.Empty at) m e = refl
no_declaration env (x.Eval at value) m e = refl
no_declaration env (x.Block at items end_line) m e = refl
no_declaration env (x.If at test body) m e = refl
no_declaration env (x.IfElse at test body other) m e = refl
no_declaration env (x.While at test body) m e = refl
no_declaration env (x.DoWhile at body test) m e = refl
no_declaration env (x.For at head test step body) m e = refl
no_declaration env (x.Return at value) m e = refl
no_declaration env (x.Break at) m e = refl
no_declaration env (x.Continue at) m e = refl
no_declaration env (x.Single at names nowait body) m e = refl
no_declaration env (x.Barrier at names) m e = refl

is_declare : (s : x.Stmt) (d : x.Declaration) → Some d ≡ declared_in s → s ≡ x.Declare d
is_declare (x.Declare e) d h = ap x.Declare (sym (ap (or_this d) h))
is_declare (x.Empty at) d h = absurd (let P : Option x.Declaration → Type 0 = λ o. IsNone o in subst P (sym h) tt)
is_declare (x.Eval at value) d h = absurd (let P : Option x.Declaration → Type 0 = λ o. IsNone o in subst P (sym h) tt)
is_declare (x.Block at items end_line) d h = absurd (let P : Option x.Declaration → Type 0 = λ o. IsNone o in subst P (sym h) tt)
is_declare (x.If at test body) d h = absurd (let P : Option x.Declaration → Type 0 = λ o. IsNone o in subst P (sym h) tt)
is_declare (x.IfElse at test body other) d h = absurd (let P : Option x.Declaration → Type 0 = λ o. IsNone o in subst P (sym h) tt)
is_declare (x.While at test body) d h = absurd (let P : Option x.Declaration → Type 0 = λ o. IsNone o in subst P (sym h) tt)
is_declare (x.DoWhile at body test) d h = absurd (let P : Option x.Declaration → Type 0 = λ o. IsNone o in subst P (sym h) tt)
is_declare (x.For at head test step body) d h = absurd (let P : Option x.Declaration → Type 0 = λ o. IsNone o in subst P (sym h) tt)
is_declare (x.Return at value) d h = absurd (let P : Option x.Declaration → Type 0 = λ o. IsNone o in subst P (sym h) tt)
is_declare (x.Break at) d h = absurd (let P : Option x.Declaration → Type 0 = λ o. IsNone o in subst P (sym h) tt)
is_declare (x.Continue at) d h = absurd (let P : Option x.Declaration → Type 0 = λ o. IsNone o in subst P (sym h) tt)
is_declare (x.Single at names nowait body) d h = absurd (let P : Option x.Declaration → Type 0 = λ o. IsNone o in subst P (sym h) tt)
is_declare (x.Barrier at names) d h = absurd (let P : Option x.Declaration → Type 0 = λ o. IsNone o in subst P (sym h) tt)

abbrev seen : Option (Bor Declaration) → Option x.Declaration
seen r = option_map (λ d. syntax.declaration_of d.now) r

module _ (r : Option (Bor Declaration)) (d : Bor Declaration) (s : source.Stmt) (is : r ≡ Some d) (found : seen r ≡ declared_in (syntax.stmt_of s)) where
  it_is : syntax.stmt_of s ≡ x.Declare (syntax.declaration_of d.now)
  it_is = is_declare (syntax.stmt_of s) (syntax.declaration_of d.now) (sym (ap seen is) ∙ found)

  pub declared_names : (env new : Env) → new ≡ declared env (syntax.declaration_of d.now) → new ≡ after env (syntax.stmt_of s)
  declared_names env new made = made ∙ sym (ap (after env) it_is)

  pub declared_first : (env : Env) (in_loop : Bool) (o : Option TypeRefusal) → o ≡ first_of (declaration_outline env (syntax.declaration_of d.now)) → o ≡ first_of (stmt_outline env in_loop (syntax.stmt_of s))
  declared_first env in_loop o made = made ∙ sym (ap (λ b. first_of (stmt_outline env in_loop b)) it_is)

  pub declared_made : (env : Env) (items : Result (Vec Stmt Global) TypeRefusal) → IfOk items (λ v. map stmt_of v.items ≡ declaration_made env (syntax.declaration_of d.now))
      → IfOk items (λ v. map stmt_of v.items ≡ items_of env (syntax.stmt_of s) (stmt_made env (syntax.stmt_of s)))
  declared_made env (Err refusal) made = tt
  declared_made env (Ok v) made = made ∙ sym (ap (λ b. items_of env b (stmt_made env b)) it_is)

pub other_made : (r : Option (Bor Declaration)) (s : source.Stmt) (env : Env) (made : Result Stmt TypeRefusal) (items : Result (Vec Stmt Global) TypeRefusal) → r ≡ None → seen r ≡ declared_in (syntax.stmt_of s)
    → IfOk made (λ m. stmt_of m ≡ stmt_made env (syntax.stmt_of s)) → ((one : p.Stmt) → IfOk made (λ m. stmt_of m ≡ one) → IfOk items (λ v. map stmt_of v.items ≡ one ∷ []))
    → IfOk items (λ v. map stmt_of v.items ≡ items_of env (syntax.stmt_of s) (stmt_made env (syntax.stmt_of s)))
other_made r s env made (Err refusal) is found ex one = tt
other_made r s env made (Ok v) is found ex one =
    one (stmt_made env (syntax.stmt_of s)) ex ∙ sym (no_declaration env (syntax.stmt_of s) (stmt_made env (syntax.stmt_of s)) (sym (ap seen is) ∙ found))

pub single_done : (line : ℕ) (env n1 : Env) (names : List (List ℕ)) (nowait : Bool) (body : x.Stmt) (kind : HlsKind) (found : Option Level) (number : ℕ) (made : Result Stmt TypeRefusal)
    (result : Result (Result Stmt TypeRefusal) Memory) → kind ≡ single_kind nowait → found ≡ levels_of false env names → n1 ≡ with_construct kind found env → number ≡ length env.constructs
    → IfOk made (λ m. stmt_of m ≡ stmt_made n1 body) → ((b : p.Stmt) → IfOk made (λ m. stmt_of m ≡ b) → IfOk result (λ r. IfOk r (λ m. stmt_of m ≡ p.Single line number nowait b)))
    → IfOk result (λ r. IfOk r (λ m. stmt_of m ≡ p.Single line (length env.constructs) nowait (stmt_made (with_single names nowait env) body)))
single_done line env n1 names nowait body kind found number made (Err memory) ek ef e1 en ex one = tt
single_done line env n1 names nowait body kind found number made (Ok (Err refusal)) ek ef e1 en ex one = tt
single_done line env n1 names nowait body kind found number made (Ok (Ok v)) ek ef e1 en ex one =
    let behind : n1 ≡ with_single names nowait env = e1 ∙ ap (λ k. with_construct k found env) ek ∙ ap (λ f. with_construct (single_kind nowait) f env) ef in
    one (stmt_made n1 body) ex ∙ ap (λ n. p.Single line n nowait (stmt_made n1 body)) en ∙ ap (λ e. p.Single line (length env.constructs) nowait (stmt_made e body)) behind

pub if_else_done : (s : source.Stmt) (env : Env) (at : Place) (test : Expr) (b o : Box source.Stmt Global) (bn on : source.Stmt) (n1 : Env) (looked : Result made.Expr TypeRefusal) (body other : Result Stmt TypeRefusal)
    (result : Result (Result Stmt TypeRefusal) Memory) → s ≡ written.IfElse at test b o → bn ≡ b.value → on ≡ o.value → n1 ≡ after env (syntax.stmt_of bn)
    → IfOk looked (λ v. expr_of v ≡ typed env None (syntax.expr_of test)) → IfOk body (λ m. stmt_of m ≡ stmt_made env (syntax.stmt_of bn)) → IfOk other (λ m. stmt_of m ≡ stmt_made n1 (syntax.stmt_of on))
    → ((t : p.Expr) (m n : p.Stmt) → IfOk looked (λ v. expr_of v ≡ t) → IfOk body (λ v. stmt_of v ≡ m) → IfOk other (λ v. stmt_of v ≡ n) → IfOk result (λ r. IfOk r (λ v. stmt_of v ≡ p.If at.line t m n)))
    → IfOk result (λ r. IfOk r (λ v. stmt_of v ≡ stmt_made env (syntax.stmt_of s)))
if_else_done s env at test b o bn on n1 looked body other (Err memory) is eb eo en et em ex made = tt
if_else_done s env at test b o bn on n1 looked body other (Ok (Err refusal)) is eb eo en et em ex made = tt
if_else_done s env at test b o bn on n1 looked body other (Ok (Ok v)) is eb eo en et em ex made =
    made (typed env None (syntax.expr_of test)) (stmt_made env (syntax.stmt_of bn)) (stmt_made n1 (syntax.stmt_of on)) et em ex
    ∙ ap (λ e. p.If at.line (typed env None (syntax.expr_of test)) (stmt_made env (syntax.stmt_of bn)) (stmt_made e (syntax.stmt_of on))) en
    ∙ ap (λ y. p.If at.line (typed env None (syntax.expr_of test)) (stmt_made env (syntax.stmt_of y)) (stmt_made (after env (syntax.stmt_of y)) (syntax.stmt_of on))) eb
    ∙ ap (λ y. p.If at.line (typed env None (syntax.expr_of test)) (stmt_made env (syntax.stmt_of b.value)) (stmt_made (after env (syntax.stmt_of b.value)) (syntax.stmt_of y))) eo
    ∙ sym (ap (λ y. stmt_made env (syntax.stmt_of y)) is)

-- an expression that is made, as the clauses on statements speak of it
pub made_if : (r : Result made.Expr TypeRefusal) (wanted : p.Expr) → Makes r wanted → IfOk r (λ v. expr_of v ≡ wanted)
made_if (Ok v) wanted is = is
made_if (Err refusal) wanted is = tt
