-- The memories of a run: each live object of each owner, with its kind and its words.
use Rattle.std.specs.Prelude.{ℕ, not, Bool, T, List, [], ◌∷◌, Option}
use Rattle.std.specs.declared.cmp.Ordering.{Ordering}
use Rattle.std.specs.Ordering.{nat_cmp, eq_by_cmp}
use Rattle.std.specs.Cmp.Lexicographic.{slice_cmp}
use Rattle.std.specs.FinMap.Entries.{find, put, where_key, is_sorted}
use Rattle.mpc_values.specs.declared.values.Word.{Word}
use Rattle.mpc_values.specs.declared.values.Obj.{Obj}
use Rattle.mpc_values.specs.declared.values.Obj.TheVariants.{Glob, Dyn}
use Rattle.mpc_values.specs.declared.owners.Level.{Level}
use Rattle.mpc_values.specs.declared.owners.Level.TheVariants.{Core, L1, L2, L3, Numa, Node}
use Rattle.mpc_values.specs.declared.owners.Owner.{Owner}
use Rattle.mpc_values.specs.declared.owners.Owner.TheVariants.{Task, Inst}
use Rattle.memory_model.specs.declared.kinds.Kind.{Kind}

-- the levels by widening
abbrev pub level_number : Level → ℕ
level_number Core = 0
level_number L1 = 1
level_number L2 = 2
level_number L3 = 3
level_number Numa = 4
level_number Node = 5

-- an object of an owner, as a list of numbers that no other object of any owner has
abbrev pub key_of : Owner → Obj → List ℕ
key_of (Task task) (Glob variable) = 0 ∷ task ∷ 0 ∷ variable ∷ []
key_of (Task task) (Dyn made) = 0 ∷ task ∷ 1 ∷ made ∷ []
key_of (Inst level id) (Glob variable) = 1 ∷ level_number level ∷ id ∷ 0 ∷ variable ∷ []
key_of (Inst level id) (Dyn made) = 1 ∷ level_number level ∷ id ∷ 1 ∷ made ∷ []

-- An object: its place of number k holds the k-th of its words, counted from 0. One without words has no places.
pub record Object : Type 0 where
  pub kind : Kind
  pub words : List Word

-- the order of the keys
abbrev pub key_cmp : List ℕ → List ℕ → Ordering
key_cmp = slice_cmp nat_cmp

-- The live objects by their keys, which rise: which objects live, of which kind and how long they are, and what each place
-- holds. It is the list in a finite map, and not the map, so that the check computes worked cases by itself.
abbrev pub Memory : Type 0
Memory = List (List ℕ × Object)

-- an object, where it lives
abbrev pub object_of : Memory → Owner → Obj → Option Object
object_of m owner obj = find key_cmp (key_of owner obj) m

-- the memory in which the object is this one
abbrev pub with_object : Memory → Owner → Obj → Object → Memory
with_object m owner obj object = put key_cmp (key_of owner obj) object m

-- the memory in which the object does not live
abbrev pub without : Memory → Owner → Obj → Memory
without m owner obj = where_key key_cmp (λ key. not (eq_by_cmp key_cmp (key_of owner obj) key)) m

-- The keys rise. So it is for every memory that is made of the empty one by `with_object` and `without`.
abbrev pub IsOrdered : Memory → Type 0
IsOrdered m = T (is_sorted key_cmp m)

-- the two names are of one object of one owner
abbrev pub is_same_object : Owner → Obj → Owner → Obj → Bool
is_same_object owner obj other another = eq_by_cmp key_cmp (key_of owner obj) (key_of other another)
