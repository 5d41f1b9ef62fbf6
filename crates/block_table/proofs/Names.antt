-- Owners and objects by their numbers.
use Rattle.std.proofs.Common.{◌≡◌, ℕ, zero, suc, ◌+◌, ◌*◌, ◌<◌, true, false, cond, ◌&&◌, ◌==◌, Option, refl, sym, ap, ◌∙◌, inl, inr, ◌⊎◌, arith}
use Rattle.std.proofs.lemmas.Bool.{cases_eq}
use Rattle.std.proofs.lemmas.Bool.Decides.{nat_tests}
use Rattle.mpc_values.specs.declared.values.Obj.{Obj}
use Rattle.mpc_values.specs.declared.values.Obj.TheVariants.{Glob, Dyn}
use Rattle.mpc_values.specs.declared.owners.Level.TheVariants.{Core, L1, L2, L3, Numa, Node}
use Rattle.mpc_values.specs.declared.owners.Owner.{Owner}
use Rattle.mpc_values.specs.declared.owners.Owner.TheVariants.{Task, Inst}
use Rattle.block_table.specs.Places.{Grid, key_at, Sets, owner_kind, owner_id, line_of}
use Rattle.block_table.specs.Index.{Lines, indexed, IsSame, SetsKey}

-- the owner of a kind and a number
owner_from : ℕ → ℕ → Owner
owner_from zero id = Task id
owner_from (suc zero) id = Inst Core id
owner_from (suc (suc zero)) id = Inst L1 id
owner_from (suc (suc (suc zero))) id = Inst L2 id
owner_from (suc (suc (suc (suc zero)))) id = Inst L3 id
owner_from (suc (suc (suc (suc (suc zero))))) id = Inst Numa id
owner_from (suc (suc (suc (suc (suc (suc k)))))) id = Inst Node id

from_numbers : (owner : Owner) → owner_from (owner_kind owner) (owner_id owner) ≡ owner
unfolding owner_from
from_numbers (Task task) = refl
from_numbers (Inst Core id) = refl
from_numbers (Inst L1 id) = refl
from_numbers (Inst L2 id) = refl
from_numbers (Inst L3 id) = refl
from_numbers (Inst Numa id) = refl
from_numbers (Inst Node id) = refl

same_owner : (owner other : Owner) → owner_kind owner ≡ owner_kind other → owner_id owner ≡ owner_id other → owner ≡ other
same_owner owner other kinds ids =
    sym (from_numbers owner) ∙ (ap (λ k. owner_from k (owner_id owner)) kinds ∙ (ap (λ i. owner_from (owner_kind other) i) ids ∙ from_numbers other))

small_kind : (owner : Owner) → owner_kind owner < 7
small_kind (Task task) = omega arith
small_kind (Inst Core id) = omega arith
small_kind (Inst L1 id) = omega arith
small_kind (Inst L2 id) = omega arith
small_kind (Inst L3 id) = omega arith
small_kind (Inst Numa id) = omega arith
small_kind (Inst Node id) = omega arith

split_seven : (a b r s : ℕ) → r < 7 → s < 7 → 7 * a + r ≡ 7 * b + s → (a ≡ b) × (r ≡ s)
split_seven a b r s small less e = (omega arith, omega arith)

pub one_line : (owner other : Owner) → line_of owner ≡ line_of other → owner ≡ other
one_line owner other lines =
    let parts = split_seven (owner_id owner) (owner_id other) (owner_kind owner) (owner_kind other) (small_kind owner) (small_kind other) lines in
    same_owner owner other parts.1 parts.0

pub owner_cases : (owner other : Owner) → (owner ≡ other) ⊎ (owner ≡ other → ⊥)
owner_cases owner other = elim (cases_eq (line_of owner) (line_of other)) [
  | inl same ↦ inl (one_line owner other same)
  | inr differ ↦ inr (λ e. differ (ap line_of e))
]

number_of : Obj → ℕ
number_of (Glob variable) = variable
number_of (Dyn made) = made

obj_cases : (obj other : Obj) → (obj ≡ other) ⊎ (obj ≡ other → ⊥)
unfolding number_of
obj_cases (Glob a) (Glob b) = elim (cases_eq a b) [ inl same ↦ inl (ap Glob same) | inr differ ↦ inr (λ e. differ (ap number_of e)) ]
obj_cases (Glob a) (Dyn b) = inr (λ e. cc)
obj_cases (Dyn a) (Glob b) = inr (λ e. cc)
obj_cases (Dyn a) (Dyn b) = elim (cases_eq a b) [ inl same ↦ inl (ap Dyn same) | inr differ ↦ inr (λ e. differ (ap number_of e)) ]

-- the two are the same object, or not
pub same_cases : (owner : Owner) (obj : Obj) (other : Owner) (another : Obj) → IsSame owner obj other another ⊎ (IsSame owner obj other another → ⊥)
same_cases owner obj other another = elim (owner_cases owner other) [
  | inl owners ↦ elim (obj_cases obj another) [ inl objs ↦ inl (owners, objs) | inr differ ↦ inr (λ same. differ same.1) ]
  | inr differ ↦ inr (λ same. differ same.0)
]

here_key : (old new : Grid) (line place : ℕ) (key : Option ℕ) → Sets old new line place key → key_at new line place ≡ key
here_key old new line place key sets =
    sets line place ∙ ap (λ t. cond t key (key_at old line place)) (let e : ((line == line) && (place == place)) ≡ true = grind (arith, nat_tests) in e)

other_key : (old new : Grid) (line place a b : ℕ) (key : Option ℕ) → Sets old new line place key → ((a ≡ line) × (b ≡ place) → ⊥) → key_at new a b ≡ key_at old a b
other_key old new line place a b key sets differ =
    let no_match : ((a == line) && (b == place)) ≡ false =
    elim (cases_eq a line) [
      | inl same ↦ elim (cases_eq b place) [
        | inl also ↦ absurd (differ (same, also))
        | inr other ↦ grind (arith, nat_tests)
      ]
      | inr other ↦ grind (arith, nat_tests)
    ] in
    sets a b ∙ ap (λ t. cond t key (key_at old a b)) no_match

pub sets_glob : (old : Lines) (grid : Grid) (owner : Owner) (variable : ℕ) (key : Option ℕ) → Sets old.globs grid (line_of owner) variable key
    → SetsKey old (record { globs = grid; dyns = old.dyns }) owner (Glob variable) key
unfolding indexed
sets_glob old grid owner variable key sets = record {
  here = here_key old.globs grid (line_of owner) variable key sets;
  others = other_globs;
}
  where
    other_globs : (other : Owner) (another : Obj) → (IsSame other another owner (Glob variable) → ⊥) → indexed (record { globs = grid; dyns = old.dyns }) other another ≡ indexed old other another
    other_globs other (Glob v) differ = other_key old.globs grid (line_of owner) variable (line_of other) v key sets (λ same. differ (one_line other owner same.0, ap Glob same.1))
    other_globs other (Dyn k) differ = refl

pub sets_dyn : (old : Lines) (grid : Grid) (owner : Owner) (made : ℕ) (key : Option ℕ) → Sets old.dyns grid (line_of owner) made key
    → SetsKey old (record { globs = old.globs; dyns = grid }) owner (Dyn made) key
unfolding indexed
sets_dyn old grid owner made key sets = record {
  here = here_key old.dyns grid (line_of owner) made key sets;
  others = other_dyns;
}
  where
    other_dyns : (other : Owner) (another : Obj) → (IsSame other another owner (Dyn made) → ⊥) → indexed (record { globs = old.globs; dyns = grid }) other another ≡ indexed old other another
    other_dyns other (Glob v) differ = refl
    other_dyns other (Dyn k) differ = other_key old.dyns grid (line_of owner) made (line_of other) k key sets (λ same. differ (one_line other owner same.0, ap Dyn same.1))
