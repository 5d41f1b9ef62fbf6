-- The keys of names.
use Rattle.std.proofs.Common.{◌≡◌, ℕ, zero, suc, ◌<◌, Bool, true, false, cond, nat_lt, List, length, get_or, Option, Some, None, IsSomeAnd, refl, sym, ap, ◌∙◌, inl, inr, ◌⊎◌, arith}
use Rattle.std.specs.List.{position_or_len}
use Rattle.std.proofs.lemmas.Bool.{cases_lt, false≢true}
use Rattle.std.proofs.lemmas.Bool.Decides.{nat_tests}
use Rattle.std.proofs.lemmas.List.{get_or_past}
use Rattle.std.proofs.lemmas.List.Sums.{position_or_len_is, fails_before_first}
use Rattle.std.proofs.lemmas.List.Quantifiers.{position-Some}
use Rattle.mpc_values.specs.declared.values.Obj.{Obj}
use Rattle.mpc_values.specs.declared.values.Obj.TheVariants.{Glob, Dyn}
use Rattle.mpc_values.specs.declared.owners.Level.{Level}
use Rattle.mpc_values.specs.declared.owners.Level.TheVariants.{Core, L1, L2, L3, Numa, Node}
use Rattle.mpc_values.specs.declared.owners.Owner.{Owner}
use Rattle.mpc_values.specs.declared.owners.Owner.TheVariants.{Task, Inst}
use Rattle.memory_model.specs.Memory.{level_number, key_of, is_same_object}
use Rattle.memory_model.proofs.Maps.{same_key, alike}
use Rattle.block_table.specs.declared.rows.Row.{Row}
use Rattle.block_table.specs.Rows.{Live, Rows, live, row_in, IsNamed, IsNoName, IsNamedOnce}
use Rattle.object_heap.specs.Objects.{is_named, key_named}

level_from : ℕ → Level
level_from zero = Core
level_from (suc zero) = L1
level_from (suc (suc zero)) = L2
level_from (suc (suc (suc zero))) = L3
level_from (suc (suc (suc (suc zero)))) = Numa
level_from (suc (suc (suc (suc (suc k))))) = Node

from_number : (level : Level) → level_from (level_number level) ≡ level
unfolding level_from
from_number Core = refl
from_number L1 = refl
from_number L2 = refl
from_number L3 = refl
from_number Numa = refl
from_number Node = refl

one_level : (a b : Level) → level_number a ≡ level_number b → a ≡ b
one_level a b same = sym (from_number a) ∙ (ap level_from same ∙ from_number b)

-- the parts of a key
nth : ℕ → List ℕ → ℕ
nth k key = get_or key k 0

inst_of : (a b : Level) (i j : ℕ) → level_number a ≡ level_number b → i ≡ j → Inst a i ≡ Inst b j
inst_of a b i j levels ids = ap (λ l. Inst l i) (one_level a b levels) ∙ ap (Inst b) ids

pub key_owner : (owner other : Owner) (obj another : Obj) → key_of owner obj ≡ key_of other another → owner ≡ other
unfolding nth
key_owner (Task a) (Task b) (Glob v) (Glob w) same = ap Task (ap (nth 1) same)
key_owner (Task a) (Task b) (Glob v) (Dyn w) same = ap Task (ap (nth 1) same)
key_owner (Task a) (Task b) (Dyn v) (Glob w) same = ap Task (ap (nth 1) same)
key_owner (Task a) (Task b) (Dyn v) (Dyn w) same = ap Task (ap (nth 1) same)
key_owner (Task a) (Inst l i) (Glob v) (Glob w) same = cc
key_owner (Task a) (Inst l i) (Glob v) (Dyn w) same = cc
key_owner (Task a) (Inst l i) (Dyn v) (Glob w) same = cc
key_owner (Task a) (Inst l i) (Dyn v) (Dyn w) same = cc
key_owner (Inst l i) (Task b) (Glob v) (Glob w) same = cc
key_owner (Inst l i) (Task b) (Glob v) (Dyn w) same = cc
key_owner (Inst l i) (Task b) (Dyn v) (Glob w) same = cc
key_owner (Inst l i) (Task b) (Dyn v) (Dyn w) same = cc
key_owner (Inst l i) (Inst m j) (Glob v) (Glob w) same = inst_of l m i j (ap (nth 1) same) (ap (nth 2) same)
key_owner (Inst l i) (Inst m j) (Glob v) (Dyn w) same = inst_of l m i j (ap (nth 1) same) (ap (nth 2) same)
key_owner (Inst l i) (Inst m j) (Dyn v) (Glob w) same = inst_of l m i j (ap (nth 1) same) (ap (nth 2) same)
key_owner (Inst l i) (Inst m j) (Dyn v) (Dyn w) same = inst_of l m i j (ap (nth 1) same) (ap (nth 2) same)

pub key_obj : (owner other : Owner) (obj another : Obj) → key_of owner obj ≡ key_of other another → obj ≡ another
unfolding nth
key_obj (Task a) (Task b) (Glob v) (Glob w) same = ap Glob (ap (nth 3) same)
key_obj (Task a) (Task b) (Glob v) (Dyn w) same = cc
key_obj (Task a) (Task b) (Dyn v) (Glob w) same = cc
key_obj (Task a) (Task b) (Dyn v) (Dyn w) same = ap Dyn (ap (nth 3) same)
key_obj (Task a) (Inst l i) (Glob v) (Glob w) same = cc
key_obj (Task a) (Inst l i) (Glob v) (Dyn w) same = cc
key_obj (Task a) (Inst l i) (Dyn v) (Glob w) same = cc
key_obj (Task a) (Inst l i) (Dyn v) (Dyn w) same = cc
key_obj (Inst l i) (Task b) (Glob v) (Glob w) same = cc
key_obj (Inst l i) (Task b) (Glob v) (Dyn w) same = cc
key_obj (Inst l i) (Task b) (Dyn v) (Glob w) same = cc
key_obj (Inst l i) (Task b) (Dyn v) (Dyn w) same = cc
key_obj (Inst l i) (Inst m j) (Glob v) (Glob w) same = ap Glob (ap (nth 4) same)
key_obj (Inst l i) (Inst m j) (Glob v) (Dyn w) same = cc
key_obj (Inst l i) (Inst m j) (Dyn v) (Glob w) same = cc
key_obj (Inst l i) (Inst m j) (Dyn v) (Dyn w) same = ap Dyn (ap (nth 4) same)

-- the test of a name
pub named_slot : (owner : Owner) (obj : Obj) (slot : Option Live) → is_named owner obj slot ≡ true → IsSomeAnd slot (λ l. (l.row.owner ≡ owner) × (l.row.obj ≡ obj))
named_slot owner obj None passes = absurd (false≢true passes)
named_slot owner obj (Some l) passes =
    let same = same_key (key_of l.row.owner l.row.obj) (key_of owner obj) passes in
    (key_owner l.row.owner owner l.row.obj obj same, key_obj l.row.owner owner l.row.obj obj same)

pub slot_named : (owner : Owner) (obj : Obj) (slot : Option Live) → IsSomeAnd slot (λ l. (l.row.owner ≡ owner) × (l.row.obj ≡ obj)) → is_named owner obj slot ≡ true
slot_named owner obj None named = absurd named
slot_named owner obj (Some l) named =
    ap (λ o. is_same_object o l.row.obj owner obj) named.0 ∙ (ap (λ o. is_same_object owner o owner obj) named.1 ∙ alike (key_of owner obj))

not_named : (rows : Rows) (owner : Owner) (obj : Obj) (key : ℕ) → (IsNamed rows key owner obj → ⊥) → is_named owner obj (live rows key) ≡ false
not_named rows owner obj key never = by (is_named owner obj (live rows key)) refl
  where
    by : (b : Bool) → is_named owner obj (live rows key) ≡ b → is_named owner obj (live rows key) ≡ false
    by true is = absurd (never (named_slot owner obj (live rows key) is))
    by false is = is

named_there : (rows : Rows) (key : ℕ) (owner : Owner) (obj : Obj) → IsNamed rows key owner obj → key < length rows
named_there rows key owner obj named = elim (cases_lt key (length rows)) [
  | inl within ↦ within
  | inr past ↦ absurd (false≢true (ap (is_named owner obj) (sym (get_or_past rows key None past)) ∙ slot_named owner obj (live rows key) named))
]

-- a name's key, where it has one row at most
pub first_key : (rows : Rows) (key : ℕ) (owner : Owner) (obj : Obj) → IsNamedOnce rows → IsNamed rows key owner obj → key_named rows owner obj ≡ Some key
unfolding key_named
first_key rows key owner obj once named =
    let there = named_there rows key owner obj named in
    let at : position_or_len (is_named owner obj) rows ≡ key =
    position_or_len_is (is_named owner obj) rows key None (omega arith)
    (λ k before. not_named rows owner obj k (λ also. let e = once k key owner obj also named in absurd (omega arith)))
    (λ within. slot_named owner obj (live rows key) named) in
    ap (λ n. cond (nat_lt n (length rows)) (Some n) None) at
    ∙ ap (λ b. cond b (Some key) None) (let e : nat_lt key (length rows) ≡ true = grind (arith, nat_tests) in e)

-- a name without a row has no key
pub no_key : (rows : Rows) (owner : Owner) (obj : Obj) → IsNoName rows owner obj → key_named rows owner obj ≡ None
unfolding key_named
no_key rows owner obj never =
    let at : position_or_len (is_named owner obj) rows ≡ length rows =
    position_or_len_is (is_named owner obj) rows (length rows) None (omega arith)
    (λ k before. not_named rows owner obj k (never k))
    (λ within. absurd (omega arith)) in
    ap (λ n. cond (nat_lt n (length rows)) (Some n) None) at
    ∙ ap (λ b. cond b (Some (length rows)) None) (let e : nat_lt (length rows) (length rows) ≡ false = grind (arith, nat_tests) in e)

pub key_is : (rows : Rows) (owner : Owner) (obj : Obj) (key : ℕ) → key_named rows owner obj ≡ Some key → IsNamed rows key owner obj
unfolding key_named
key_is rows owner obj key found =
    named_slot owner obj (live rows key) (position-Some (is_named owner obj) rows key None found).1

-- a name without a key has no row
pub no_name : (rows : Rows) (owner : Owner) (obj : Obj) → key_named rows owner obj ≡ None → IsNoName rows owner obj
unfolding key_named
no_name rows owner obj none key named = elim (cases_lt (position_or_len (is_named owner obj) rows) (length rows)) [
  | inl within ↦
      let found : key_named rows owner obj ≡ Some (position_or_len (is_named owner obj) rows) =
      ap (λ b. cond b (Some (position_or_len (is_named owner obj) rows)) None) (let e : nat_lt (position_or_len (is_named owner obj) rows) (length rows) ≡ true = grind (arith, nat_tests) in e) in
      none_some (position_or_len (is_named owner obj) rows) (sym none ∙ found)
  | inr past ↦
      let there = named_there rows key owner obj named in
      false≢true (sym (fails_before_first (is_named owner obj) rows key None (omega arith)) ∙ slot_named owner obj (live rows key) named)
]
  where
    none_some : (k : ℕ) → None ≡ Some k → ⊥
    none_some k e = cc

-- each name has a row, or none
pub name_cases : (rows : Rows) (owner : Owner) (obj : Obj) → ((key : ℕ) × IsNamed rows key owner obj × (key_named rows owner obj ≡ Some key)) ⊎ (IsNoName rows owner obj × (key_named rows owner obj ≡ None))
name_cases rows owner obj = by (key_named rows owner obj) refl
  where
    by : (o : Option ℕ) → key_named rows owner obj ≡ o → ((key : ℕ) × IsNamed rows key owner obj × (key_named rows owner obj ≡ Some key)) ⊎ (IsNoName rows owner obj × (key_named rows owner obj ≡ None))
    by None is = inr (no_name rows owner obj is, is)
    by (Some key) is = inl (key, key_is rows owner obj key is, is)

-- the name of a key is that of its row alone
pub named_by_row : (rows other : Rows) (key second : ℕ) (owner : Owner) (obj : Obj) → row_in (live rows key) ≡ row_in (live other second) → IsNamed rows key owner obj → IsNamed other second owner obj
named_by_row rows other key second owner obj same named = by (live rows key) (live other second) same named
  where
    by : (a b : Option Live) → row_in a ≡ row_in b → IsSomeAnd a (λ l. (l.row.owner ≡ owner) × (l.row.obj ≡ obj)) → IsSomeAnd b (λ l. (l.row.owner ≡ owner) × (l.row.obj ≡ obj))
    by None b e n = absurd n
    by (Some l) None e n = absurd (some_none l.row e)
      where
        some_none : (row : Row) → Some row ≡ None → ⊥
        some_none row h = cc
    by (Some l) (Some m) e n = let rows_same : l.row ≡ m.row = cc in (ap (λ (r : Row). r.owner) (sym rows_same) ∙ n.0, ap (λ (r : Row). r.obj) (sym rows_same) ∙ n.1)

-- the key of a name, where all rows stand under their keys
pub same_key_named : (old new : Rows) (owner : Owner) (obj : Obj) → IsNamedOnce old → ((key : ℕ) → row_in (live new key) ≡ row_in (live old key)) → key_named new owner obj ≡ key_named old owner obj
same_key_named old new owner obj once same = elim (name_cases old owner obj) [
  | inl found ↦ first_key new found.0 owner obj (once_again old new once same) (named_by_row old new found.0 found.0 owner obj (sym (same found.0)) found.1) ∙ sym found.2
  | inr none ↦ no_key new owner obj (λ key named. none.0 key (named_by_row new old key key owner obj (same key) named)) ∙ sym none.1
]
  where
    once_again : (a b : Rows) → IsNamedOnce a → ((key : ℕ) → row_in (live b key) ≡ row_in (live a key)) → IsNamedOnce b
    once_again a b one alike_rows key other owner' obj' named also =
        one key other owner' obj' (named_by_row b a key key owner' obj' (alike_rows key) named) (named_by_row b a other other owner' obj' (alike_rows other) also)
