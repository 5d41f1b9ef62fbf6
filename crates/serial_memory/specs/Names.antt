-- The names of the objects that a task makes.
use Rattle.std.specs.Prelude.{◌≡◌, ◌<◌, ◌≤◌, ◌+◌, ℕ, ℤ, None}
use Rattle.mpc_values.specs.declared.values.Word.{Word}
use Rattle.mpc_values.specs.declared.values.Obj.{Obj}
use Rattle.mpc_values.specs.declared.values.Obj.TheVariants.{Dyn}
use Rattle.mpc_values.specs.declared.owners.Owner.{Owner}
use Rattle.mpc_values.specs.declared.owners.Owner.TheVariants.{Task}
use Rattle.serial_memory.specs.Memory.{object_of}
use Rattle.serial_memory.specs.Access.{Objects, Access, Answers, Breaks, load, store, new, malloc, drop, free}

-- no object of the task lives whose name it has not given yet
abbrev pub NamesAreLeft : ℕ → Objects → Type 0
NamesAreLeft task o = (number : ℕ) → o.made < number → object_of o.memory (Task task) (Dyn number) ≡ None

-- an access gives one name at most, and leaves the later ones
abbrev pub GivesOneName : ℕ → ℕ → Access → Type 0
GivesOneName task made (Answers answer o) = (o.made ≤ made + 1) × NamesAreLeft task o
GivesOneName task made (Breaks fault) = Unit {0}

-- No access gives a name again: the object that it makes has one under which nothing lives.
pub record NamesLast (task : ℕ) (o : Objects) : Type 0 where
  pub load : (owner_of : Obj → Owner) (at : Word) → GivesOneName task o.made (load owner_of o at)
  pub store : (owner_of : Obj → Owner) (at word : Word) → GivesOneName task o.made (store owner_of o at word)
  pub new : (quota len : ℕ) → GivesOneName task o.made (new quota task o len)
  pub malloc : (quota : ℕ) (n : ℤ) → GivesOneName task o.made (malloc quota task o n)
  pub drop : (obj : Obj) → GivesOneName task o.made (drop task o obj)
  pub free : (at : Word) → GivesOneName task o.made (free task o at)
