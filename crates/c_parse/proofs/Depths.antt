-- What is one deeper, by whether anything may be.
use Rattle.std.proofs.Common.{◌≡◌, ℕ, zero, suc, nat_lt, ◌-◌, ◌<◌, true, false, List, refl, ap, arith, rules, tests}
use Rattle.c_tree.specs.declared.syntax.Place.{Place}
use Rattle.c_tree.specs.Syntax as x
use Rattle.c_parse.specs.declared.grammar.Part.{Part}
use Rattle.c_parse.specs.Statements.{inside, statement}
use Rattle.c_parse.specs.Symbols.{Sym}
use Rattle.c_parse.specs.Reading.{Got, Fails, and_then, repeat}
use Rattle.c_parse.specs.Expressions.{Nest, nest, expr, climb, ends, operation}

pub no_nest : (d : ℕ) (part : Part) (ts : List Sym) → d ≡ 0 → (nest d).below part ts ≡ Fails ts
unfolding nest
no_nest d part ts e = ap (λ n. (nest n).below part ts) e

pub one_nest : (d : ℕ) (part : Part) (ts : List Sym) → 0 < d → (nest d).below part ts ≡ expr (d - 1) part ts
unfolding nest expr
one_nest d part ts lt = let e : d ≡ suc (d - 1) = omega arith in ap (λ n. (nest n).below part ts) e

pub no_depth : (d : ℕ) → d ≡ 0 → (nest d).deep ≡ false
unfolding nest
no_depth d e = ap (λ n. (nest n).deep) e

pub some_depth : (d : ℕ) → 0 < d → (nest d).deep ≡ true
unfolding nest
some_depth d lt = let e : d ≡ suc (d - 1) = omega arith in ap (λ n. (nest n).deep) e

pub is_deep : (d : ℕ) → nat_lt 0 d ≡ (nest d).deep
unfolding nest
is_deep zero = refl
is_deep (suc d) = search (rules, tests)

-- the operations of one more level
pub climb_more : (n : Nest) (levels : ℕ) (at : Place) (first : x.Expr) (ts : List Sym) → 0 < levels → climb n levels at first ts
    ≡ and_then (climb n (levels - 1) at first ts) (λ left. repeat (ends n (levels - 1)) (operation n (levels - 1) (climb n (levels - 1)) at) left)
unfolding climb
climb_more n levels at first ts lt = let e : levels ≡ suc (levels - 1) = omega arith in ap (λ m. climb n m at first ts) e

pub climb_none : (n : Nest) (levels : ℕ) (at : Place) (first : x.Expr) (ts : List Sym) → levels ≡ 0 → climb n levels at first ts ≡ Got first ts
unfolding climb
climb_none n levels at first ts e = ap (λ m. climb n m at first ts) e

-- ---- statements

pub no_inside : (d : ℕ) (ts : List Sym) → d ≡ 0 → (inside d).stmt ts ≡ Fails ts
unfolding inside
no_inside d ts e = ap (λ n. (inside n).stmt ts) e

pub one_inside : (d : ℕ) (ts : List Sym) → 0 < d → (inside d).stmt ts ≡ statement (d - 1) ts
unfolding inside statement
one_inside d ts lt = let e : d ≡ suc (d - 1) = omega arith in ap (λ n. (inside n).stmt ts) e

pub is_deep_inside : (d : ℕ) → nat_lt 0 d ≡ (inside d).deep
unfolding inside
is_deep_inside zero = refl
is_deep_inside (suc d) = search (rules, tests)

pub inner_depth : (d : ℕ) → d - 1 ≡ (inside d).depth
unfolding inside
inner_depth zero = refl
inner_depth (suc d) = omega arith
