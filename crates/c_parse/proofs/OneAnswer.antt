-- What the tokens of a source spell, and where they are refused: at most one of the two, and at most one way.
use Rattle.std.proofs.Common.{◌≡◌, ℕ, arith, Bool, List, [], ◌∷◌, ◌++◌, refl, sym, ap, ◌∙◌, subst}
use Rattle.std.proofs.lemmas.List.{append-nil}
use Rattle.c_lex.specs.declared.tokens.Token.{Token}
use Rattle.c_lex.specs.Places.{behind, start}
use Rattle.hls_pragma.specs.Laws.{ReadingLaws}
use Rattle.c_tree.specs.Syntax as x
use Rattle.c_parse.specs.declared.symbols.Class.TheVariants as class
use Rattle.c_parse.specs.declared.refusals.ParseRefusal.{ParseRefusal}
use Rattle.c_parse.specs.declared.refusals.ParseRefusal.TheVariants as refusal
use Rattle.c_parse.specs.Symbols.{Sym, Symbols, last_line}
use Rattle.c_parse.specs.Reading.{Read, Got, Fails, and_then, pure}
use Rattle.c_parse.specs.Sources as so
use Rattle.c_parse.specs.SourceGrammar as sc
use Rattle.c_parse.specs.Grammar as gr
use Rattle.c_parse.specs.Parsed.{Spelt, KeepsBound, GoesOn, NoneRefused, RefusedAt, at_symbol, at_end, at_pragma}
use Rattle.c_parse.proofs.Exact.{left, clean_append}
use Rattle.c_parse.proofs.SourcesRead.{items_read, read_spelt, spelt_read, fails_keeps, keeps_left, keeps_front, keeps_clean, fails_stops, stops_fails}
use Rattle.c_parse.proofs.Bounds.{keeps_goes, goes_keeps, ends_stops, stops_ends}
use Rattle.c_parse.proofs.OneShown.{same_symbols}

-- ---- what is spelt

tree_is : (t u : x.Tree) → t.items ≡ u.items → t.last_line ≡ u.last_line → t ≡ u
tree_is t u e f = ap (λ items. record { items = items; last_line = t.last_line }) e ∙ ap (λ line. record { items = u.items; last_line = line }) f

got_same : (a b : List x.Item) (r s : List Sym) → Got a r ≡ Got b s → a ≡ b
got_same a b r s e = cc

pub same_tree : ReadingLaws → (src : List ℕ) (ts : List Token) (t u : x.Tree) → Spelt src ts t → Spelt src ts u → t ≡ u
same_tree laws src ts t u h k =
    let e = same_symbols laws h.seen k.symbols k.seen in
    tree_is t u
    (got_same t.items u.items [] [] (sym (spelt_read h.symbols t.items h.items) ∙ spelt_read h.symbols u.items (subst (λ ss. (sc.unit gr.expression).spells ss u.items) (sym e) k.items)))
    (h.last ∙ (ap last_line e ∙ sym k.last))

-- ---- what is refused

-- how reading the symbols ends where the tokens are refused so
pub data Refuses (src : List ℕ) (ss : List Sym) : ParseRefusal → Type 0 where
  here_syntax : (c : Sym) (x : List Sym) → items_read ss ≡ Fails (c ∷ x) → (c.class ≡ class.Refused → ⊥) → Refuses src ss (refusal.Syntax c.at.line c.at.col)
  here_pragma : (c : Sym) (x : List Sym) → items_read ss ≡ Fails (c ∷ x) → c.class ≡ class.Refused → Refuses src ss (refusal.Pragma c.at.line)
  at_its_end : items_read ss ≡ Fails [] → Refuses src ss (refusal.Syntax (behind start src).line (behind start src).col)

last_clean : (before : List Sym) (s : Sym) → NoneRefused (before ++ s ∷ []) → s.class ≡ class.Refused → ⊥
last_clean [] s h = h.0
last_clean (c ∷ before) s h = last_clean before s h.1

ended_by : (ss : List Sym) → KeepsBound ss → ((items : List x.Item) → (sc.unit gr.expression).spells ss items → ⊥) → (o : Read (List x.Item)) → items_read ss ≡ o → items_read ss ≡ Fails []
ended_by ss h z (Got t rest) e = absurd (z t (read_spelt ss t rest e).1)
ended_by ss h z (Fails []) e = e
ended_by ss h z (Fails (c ∷ x)) e = absurd (omega (arith, ap left e, ap (λ l. left (items_read l)) (append-nil ss), keeps_left ss [] h))

pub refuses : (src : List ℕ) (ts : List Token) (r : ParseRefusal) → RefusedAt src ts r → (ss : List Sym) × Symbols src ts ss × Refuses src ss r
refuses src ts r (at_symbol ss before s k h c) = (ss, k, here_syntax s (ends_stops ss before s h).behind (stops_fails ss before s (ends_stops ss before s h)) (last_clean before s c))
refuses src ts r (at_pragma ss before s k h c e) = (ss, k, here_pragma s (ends_stops ss before s h).behind (stops_fails ss before s (ends_stops ss before s h)) e)
refuses src ts r (at_end ss k h z) = (ss, k, at_its_end (ended_by ss (goes_keeps ss (h ss [] (sym (append-nil ss)))) z (items_read ss) refl))

fails_same : (a b : List Sym) → ◌≡◌ {A = Read (List x.Item)} (Fails a) (Fails b) → a ≡ b
fails_same a b e = cc

one_refusal : (src : List ℕ) (ss : List Sym) (r s : ParseRefusal) → Refuses src ss r → Refuses src ss s → r ≡ s
one_refusal src ss r s (here_syntax c x e n) (here_syntax d y f m) = let q : c ∷ x ≡ d ∷ y = fails_same _ _ (sym e ∙ f) in let z : c ≡ d = cc in ap (λ (c : Sym). refusal.Syntax c.at.line c.at.col) z
one_refusal src ss r s (here_syntax c x e n) (here_pragma d y f m) = let q : c ∷ x ≡ d ∷ y = fails_same _ _ (sym e ∙ f) in let z : c ≡ d = cc in absurd (n (ap (λ (c : Sym). c.class) z ∙ m))
one_refusal src ss r s (here_syntax c x e n) (at_its_end f) = let q : c ∷ x ≡ [] = fails_same _ _ (sym e ∙ f) in cc
one_refusal src ss r s (here_pragma c x e n) (here_syntax d y f m) = let q : c ∷ x ≡ d ∷ y = fails_same _ _ (sym e ∙ f) in let z : c ≡ d = cc in absurd (m (ap (λ (c : Sym). c.class) (sym z) ∙ n))
one_refusal src ss r s (here_pragma c x e n) (here_pragma d y f m) = let q : c ∷ x ≡ d ∷ y = fails_same _ _ (sym e ∙ f) in let z : c ≡ d = cc in ap (λ (c : Sym). refusal.Pragma c.at.line) z
one_refusal src ss r s (here_pragma c x e n) (at_its_end f) = let q : c ∷ x ≡ [] = fails_same _ _ (sym e ∙ f) in cc
one_refusal src ss r s (at_its_end e) (here_syntax d y f m) = let q : [] ≡ d ∷ y = fails_same _ _ (sym e ∙ f) in cc
one_refusal src ss r s (at_its_end e) (here_pragma d y f m) = let q : [] ≡ d ∷ y = fails_same _ _ (sym e ∙ f) in cc
one_refusal src ss r s (at_its_end e) (at_its_end f) = refl

pub same_refusal : ReadingLaws → (src : List ℕ) (ts : List Token) (r s : ParseRefusal) → RefusedAt src ts r → RefusedAt src ts s → r ≡ s
same_refusal laws src ts r s h k =
    let a = refuses src ts r h in
    let b = refuses src ts s k in
    one_refusal src a.0 r s a.2 (subst (λ ss. Refuses src ss s) (sym (same_symbols laws a.1 b.0 b.1)) b.2)

never_got : (src : List ℕ) (ss : List Sym) (r : ParseRefusal) (t : List x.Item) → items_read ss ≡ Got t [] → Refuses src ss r → ⊥
never_got src ss r t e (here_syntax c x f m) = let q : Got t [] ≡ Fails (c ∷ x) = sym e ∙ f in cc
never_got src ss r t e (here_pragma c x f m) = let q : Got t [] ≡ Fails (c ∷ x) = sym e ∙ f in cc
never_got src ss r t e (at_its_end f) = let q : Got t [] ≡ Fails [] = sym e ∙ f in cc

-- no tokens spell a tree and are refused
pub never_both : ReadingLaws → (src : List ℕ) (ts : List Token) (t : x.Tree) (r : ParseRefusal) → Spelt src ts t → RefusedAt src ts r → ⊥
never_both laws src ts t r h k =
    let a = refuses src ts r k in
    never_got src h.symbols r t.items (spelt_read h.symbols t.items h.items) (subst (λ ss. Refuses src ss r) (sym (same_symbols laws h.seen a.0 a.1)) a.2)

-- ---- what reading the symbols of a source says

source_items : (ss : List Sym) (o : Read (List x.Item)) (t : x.Tree) (rest : List Sym) → items_read ss ≡ o → and_then o (λ found. pure (record { items = found; last_line = last_line ss })) ≡ Got t rest → (sc.unit gr.expression).spells ss t.items × (t.last_line ≡ last_line ss)
source_items ss (Got found us) t rest e f =
    let z : record { items = found; last_line = last_line ss } ≡ t = cc in
    (subst (λ (u : x.Tree). (sc.unit gr.expression).spells ss u.items) z (read_spelt ss found us e).1, sym (ap (λ (u : x.Tree). u.last_line) z))
source_items ss (Fails us) t rest e f = cc

tree_fails : (a b : List Sym) → ◌≡◌ {A = Read x.Tree} (Fails a) (Fails b) → a ≡ b
tree_fails a b e = cc

source_fails : (ss : List Sym) (o : Read (List x.Item)) (us : List Sym) → items_read ss ≡ o → and_then {A = List x.Item} {B = x.Tree} o (λ found. pure (record { items = found; last_line = last_line ss })) ≡ Fails us → items_read ss ≡ Fails us
source_fails ss (Got found vs) us e f = cc
source_fails ss (Fails vs) us e f = e ∙ ap Fails (tree_fails vs us f)

-- a source that is read has the tree that was read
pub spelt_by : (src : List ℕ) (ts : List Token) (ss : List Sym) (t : x.Tree) (rest : List Sym) → Symbols src ts ss → so.source ss ≡ Got t rest → Spelt src ts t
unfolding so.source
spelt_by src ts ss t rest h e = let k = source_items ss (items_read ss) t rest refl e in record { symbols = ss; seen = h; items = k.0; last = k.1 }

-- a source in which reading fails at a symbol is refused there
pub refused_by : (src : List ℕ) (ts : List Token) (ss : List Sym) (c : Sym) (x : List Sym) → Symbols src ts ss → so.source ss ≡ Fails (c ∷ x) → (c.class ≡ class.Refused → ⊥) → RefusedAt src ts (refusal.Syntax c.at.line c.at.col)
unfolding so.source
refused_by src ts ss c x h e n =
    let k = fails_stops ss c x (source_fails ss (items_read ss) (c ∷ x) refl e) in
    at_symbol ss k.0 c h (stops_ends ss k.0 c k.1) (clean_append k.0 (c ∷ []) (keeps_clean k.0 (k.1.keeps k.0 [] (sym (append-nil k.0)))) (n, tt))

-- and by its line where that symbol is a refused pragma
pub pragma_refused_by : (src : List ℕ) (ts : List Token) (ss : List Sym) (c : Sym) (x : List Sym) → Symbols src ts ss → so.source ss ≡ Fails (c ∷ x) → c.class ≡ class.Refused → RefusedAt src ts (refusal.Pragma c.at.line)
unfolding so.source
pragma_refused_by src ts ss c x h e n =
    let k = fails_stops ss c x (source_fails ss (items_read ss) (c ∷ x) refl e) in
    at_pragma ss k.0 c h (stops_ends ss k.0 c k.1) (keeps_clean k.0 (k.1.keeps k.0 [] (sym (append-nil k.0)))) n

-- a source in which reading fails at its end is refused just behind its last byte
pub refused_at_end : (src : List ℕ) (ts : List Token) (ss : List Sym) → Symbols src ts ss → so.source ss ≡ Fails [] → RefusedAt src ts (refusal.Syntax (behind start src).line (behind start src).col)
unfolding so.source
refused_at_end src ts ss h e =
    let f = source_fails ss (items_read ss) [] refl e in
    let u = fails_keeps ss [] f in
    at_end ss h
    (λ front more q. keeps_goes front (keeps_front front more (subst KeepsBound (sym (append-nil u.read) ∙ (sym u.is ∙ q)) u.holds)))
    (λ items k. (let z : Got items [] ≡ Fails [] = sym (spelt_read ss items k) ∙ f in cc))
