-- The names that are read are the names that are listed.
use Rattle.std.proofs.Common.{◌≡◌, ℕ, Bool, true, false, cond, List, [], ◌∷◌, ◌++◌, refl, ap, ◌∙◌, subst, Option, Some, None}
use Rattle.std.specs.Option.{option_map}
use Rattle.hls_pragma.specs.declared.directives.NameSpan.{NameSpan}
use Rattle.hls_pragma.specs.declared.items.Item.{Item}
use Rattle.hls_pragma.specs.declared.items.Item.TheVariants.{Word, Open, Comma, Close, Other}
use Rattle.hls_pragma.specs.Reads.{listed, AreNames}
use Rattle.hls_pragma.specs.Front.{begins_name, one_more, names_at}

pub if_true : {A : Type 0} (b : Bool) (x y : A) → b ≡ true → cond b x y ≡ x
if_true b x y e = rw e refl

pub if_false : {A : Type 0} (b : Bool) (x y : A) → b ≡ false → cond b x y ≡ y
if_false b x y e = rw e refl

pub bool_cases : (P : Bool → Type 0) (b : Bool) → (b ≡ true → P true) → (b ≡ false → P false) → P b
bool_cases P true t f = t refl
bool_cases P false t f = f refl

pub names_are : (line : List ℕ) (ns : List NameSpan) (rest : List Item) → AreNames line ns → names_at line (listed ns ++ Close ∷ rest) ≡ Some (ns, rest)
names_are line [] rest h = absurd h
names_are line (n ∷ []) rest h = if_true _ _ _ h
names_are line (n ∷ m ∷ ns) rest h = if_true _ _ _ h.0 ∙ ap (option_map (one_more n)) (names_are line (m ∷ ns) rest h.1)

pub record Listed (line : List ℕ) (items : List Item) (ns : List NameSpan) (rest : List Item) : Type 0 where
  pub is : items ≡ listed ns ++ Close ∷ rest
  pub names : AreNames line ns

longer : (line : List ℕ) (n : NameSpan) (items : List Item) (ns : List NameSpan) (rest : List Item) → begins_name line n ≡ true → Listed line items ns rest → Listed line (Word n ∷ Comma ∷ items) (n ∷ ns) rest
longer line n items [] rest b h = absurd h.names
longer line n items (m ∷ ns) rest b h = record { is = ap (λ l. Word n ∷ Comma ∷ l) h.is; names = (b, h.names) }

pub map_some : {A B : Type 0} (f : A → B) (o : Option A) (y : B) → option_map f o ≡ Some y → (x : A) × (o ≡ Some x) × (f x ≡ y)
map_some f None y e = cc
map_some f (Some x) y e = let h : f x ≡ y = cc in (x, refl, h)

pub names_listed : (line : List ℕ) (items : List Item) (ns : List NameSpan) (rest : List Item) → names_at line items ≡ Some (ns, rest) → Listed line items ns rest
names_listed line (Word n ∷ Close ∷ items) ns rest e = bool_cases (λ b. begins_name line n ≡ b → ◌≡◌ {A = Option (List NameSpan × List Item)} (cond {A = Option (List NameSpan × List Item)} b (Some (n ∷ [], items)) None) (Some (ns, rest)) → Listed line (Word n ∷ Close ∷ items) ns rest) (begins_name line n)
    (λ _ b g.
    let q : ◌≡◌ {A = List NameSpan × List Item} (n ∷ [], items) (ns, rest) = cc in
    let k : n ∷ [] ≡ ns = ap (λ (x : List NameSpan × List Item). x.0) q in
    let r : items ≡ rest = ap (λ (x : List NameSpan × List Item). x.1) q in
    subst (λ ns. Listed line (Word n ∷ Close ∷ items) ns rest) k (record { is = ap (λ l. Word n ∷ Close ∷ l) r; names = b }))
    (λ _ b g. cc) refl e
names_listed line (Word n ∷ Comma ∷ items) ns rest e = bool_cases (λ b. begins_name line n ≡ b → ◌≡◌ {A = Option (List NameSpan × List Item)} (cond {A = Option (List NameSpan × List Item)} b (option_map (one_more n) (names_at line items)) None) (Some (ns, rest)) → Listed line (Word n ∷ Comma ∷ items) ns rest) (begins_name line n)
    (λ _ b g.
    let m = map_some (one_more n) (names_at line items) (ns, rest) g in
    let k : n ∷ m.0.0 ≡ ns = ap (λ (x : List NameSpan × List Item). x.0) m.2 in
    let r : m.0.1 ≡ rest = ap (λ (x : List NameSpan × List Item). x.1) m.2 in
    subst (λ ns. Listed line (Word n ∷ Comma ∷ items) ns rest) k (subst (λ r. Listed line (Word n ∷ Comma ∷ items) (n ∷ m.0.0) r) r (longer line n items m.0.0 m.0.1 b (names_listed line items m.0.0 m.0.1 m.1))))
    (λ _ b g. cc) refl e
names_listed line [] ns rest e = cc
names_listed line (Word n ∷ []) ns rest e = cc
names_listed line (Word n ∷ Word m ∷ items) ns rest e = cc
names_listed line (Word n ∷ Open ∷ items) ns rest e = cc
names_listed line (Word n ∷ Other ∷ items) ns rest e = cc
names_listed line (Open ∷ items) ns rest e = cc
names_listed line (Comma ∷ items) ns rest e = cc
names_listed line (Close ∷ items) ns rest e = cc
names_listed line (Other ∷ items) ns rest e = cc
