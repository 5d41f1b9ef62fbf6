-- A typed program has a main among its functions: without one the whole would break its first rule, and the numbers of
-- definitions are below their count.
use Rattle.std.proofs.Common.{◌≡◌, ℕ, suc, ◌+◌, ◌<◌, ◌≤◌, Bool, true, false, cond, not, List, [], ◌∷◌, ◌++◌, length, Option, Some, None, refl, sym, ap, ◌∙◌, subst, arith}
use Rattle.std.specs.Prelude.{codes, is_some, unwrap_or, ◌&&◌, ◌||◌}
use Rattle.std.specs.Ordering.{eq_by_cmp, nat_cmp}
use Rattle.std.specs.Cmp.Lexicographic.{slice_cmp, nat_list_cmp_total}
use Rattle.std.specs.FinMap as fin
use Rattle.c_tree.specs.Programs as p
use Rattle.c_tree.specs.Syntax.{Tree, Item, Scope, Variables, Defined, Function, Body}
use Rattle.c_types.specs.Env as env
use Rattle.c_types.specs.Env.{Env}
use Rattle.c_types.specs.declared.kinds.Decl.TheVariants as decl
use Rattle.c_types.specs.Rules.{Rule1}
use Rattle.c_types.specs.Typing.{Typed}
use Rattle.c_types.specs.Units.{behind_params, body_made, item_made, after_item, functions_made, has_main, is_main, definitions_from, with_definition, numbered, start}

-- how many functions are defined, with an item before so many
abbrev counts : Item → ℕ → ℕ
counts (Scope at level names) n = n
counts (Variables declaration) n = n
counts (Defined f) n = cond (is_some f.body) (suc n) n

abbrev count : List Item → ℕ
count [] = 0
count (item ∷ rest) = counts item (count rest)

counted_body : (inner : Env) (f : Function) (body : Option Body) (more : List p.Function) (n : ℕ) → length more ≡ n → length (body_made inner f body ++ more) ≡ cond (is_some body) (suc n) n
counted_body inner f None more n e = e
counted_body inner f (Some body) more n e = ap suc e

counted_item : (env : Env) (item : Item) (more : List p.Function) (n : ℕ) → length more ≡ n → length (item_made env item ++ more) ≡ counts item n
counted_item env (Scope at level names) more n e = e
counted_item env (Variables declaration) more n e = e
counted_item env (Defined f) more n e = counted_body (behind_params env f) f f.body more n e

counted : (env : Env) (items : List Item) → length (functions_made env items) ≡ count items
counted env [] = refl
counted env (item ∷ rest) = counted_item env item (functions_made (after_item env item) rest) (count rest) (counted (after_item env item) rest)

-- every definition of a scope has a number below this
abbrev Below : env.Scope → ℕ → Type 0
Below found n = (name : env.Name) (m : ℕ) → numbered (fin.get found name) ≡ Some m → m < n

more_below : (found : env.Scope) (n k : ℕ) → n ≤ k → Below found n → Below found k
more_below found n k le b name m e = let lt = b name m e in omega (arith, lt, le)

inserted_below : (found : env.Scope) (name : env.Name) (n : ℕ) → Below found n → Below (fin.insert found name (decl.Function n)) (n + 1)
inserted_below found name n b q m e = by_case (eq_by_cmp (slice_cmp nat_cmp) q name) (sym (ap numbered (fin.get-insert nat_list_cmp_total found name (decl.Function n) q)) ∙ e)
  where
    by_case : (same : Bool) → numbered (cond same (Some (decl.Function n)) (fin.get found q)) ≡ Some m → m < n + 1
    by_case true h = let is : n ≡ m = cc h in omega (arith, is)
    by_case false h = let lt = b q m h in omega (arith, lt)

defined_below : (found : env.Scope) (name : env.Name) (n : ℕ) → Below found n → (there : Bool) → Below (cond there found (fin.insert found name (decl.Function n))) (n + 1)
defined_below found name n b true = more_below found n (n + 1) (omega arith) b
defined_below found name n b false = inserted_below found name n b

below_defined : (n : ℕ) (found : env.Scope) (f : Function) (rest : List Item) → Below found n → ((k : ℕ) (more : env.Scope) → Below more k → Below (definitions_from k more rest) (k + count rest)) → (has : Bool)
    → Below (cond has (definitions_from (n + 1) (with_definition f.name n found) rest) (definitions_from n found rest)) (n + cond has (suc (count rest)) (count rest))
below_defined n found f rest b go true =
    let inner = go (n + 1) (with_definition f.name n found) (defined_below found f.name n b (is_some (fin.get found f.name))) in
    more_below _ (n + 1 + count rest) (n + suc (count rest)) (omega arith) inner
below_defined n found f rest b go false = go n found b

numbers_below : (items : List Item) (n : ℕ) (found : env.Scope) → Below found n → Below (definitions_from n found items) (n + count items)
numbers_below [] n found b = more_below found n (n + 0) (omega arith) b
numbers_below (Scope at level names ∷ rest) n found b = numbers_below rest n found b
numbers_below (Variables declaration ∷ rest) n found b = numbers_below rest n found b
numbers_below (Defined f ∷ rest) n found b = below_defined n found f rest b (λ k more h. numbers_below rest k more h) (is_some f.body)

-- a unit with a main defines a function
some_here : (f : Function) (rest : List Item) → (has_main rest ≡ true → 0 < count rest) → (has : Bool) → ((has && is_main f) || has_main rest) ≡ true → 0 < cond has (suc (count rest)) (count rest)
some_here f rest go true e = omega arith
some_here f rest go false e = go e

some_defined : (items : List Item) → has_main items ≡ true → 0 < count items
some_defined [] h = absurd (cc h)
some_defined (Scope at level names ∷ rest) h = some_defined rest h
some_defined (Variables declaration ∷ rest) h = some_defined rest h
some_defined (Defined f ∷ rest) h = some_here f rest (some_defined rest) (is_some f.body) h

none_empty : Below fin.empty 0
none_empty name m e = let none : numbered (fin.get fin.empty name) ≡ None = ap numbered (fin.get-empty (slice_cmp nat_cmp) name) in absurd (cc (none, e))

number_below : (o : Option ℕ) (n : ℕ) → ((m : ℕ) → o ≡ Some m → m < n) → 0 < n → unwrap_or o 0 < n
number_below None n b some = some
number_below (Some m) n b some = b m refl

holds_main : (has : Bool) → (not has ≡ true → ⊥) → has ≡ true
holds_main true h = refl
holds_main false h = absurd (h refl)

-- A typed program has a main among its functions.
pub typed_has_main : (tree : Tree) (program : p.Program) → Typed tree program → program.main < length program.functions
typed_has_main tree program typed =
    let main = holds_main (has_main tree.items) (typed.sound.0 Rule1) in
    let below = number_below (numbered (fin.get (definitions_from 0 fin.empty tree.items) (codes "main"))) (0 + count tree.items) (numbers_below tree.items 0 fin.empty none_empty (codes "main")) (let some = some_defined tree.items main in omega (arith, some)) in
    let n = counted (start tree.items) tree.items in
    subst (λ z. z.main < length z.functions) (sym typed.made) (omega (arith, below, n))
