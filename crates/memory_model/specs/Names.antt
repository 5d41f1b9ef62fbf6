-- What holds of every access of a task, whichever it is.
use Rattle.std.specs.Prelude.{◌≡◌, ◌<◌, ◌≤◌, ◌+◌, ℕ, ℤ, None}
use Rattle.mpc_values.specs.declared.values.Word.{Word}
use Rattle.mpc_values.specs.declared.values.Obj.{Obj}
use Rattle.mpc_values.specs.declared.values.Obj.TheVariants.{Dyn}
use Rattle.mpc_values.specs.declared.owners.Owner.{Owner}
use Rattle.mpc_values.specs.declared.owners.Owner.TheVariants.{Task}
use Rattle.memory_model.specs.Memory.{Memory, IsOrdered, object_of}
use Rattle.memory_model.specs.Marks.{Marks}
use Rattle.memory_model.specs.Access.{Objects, Access, Answers, Breaks, load, store, new, malloc, drop, free}

-- Each access of a task has this: those of the copies that `owner_of` names to it, and those of its own objects.
pub record EveryAccess (P : Access → Type 0) (owner_of : Obj → Owner) (task : ℕ) (o : Objects) : Type 0 where
  pub load : (marks : Marks) (at : Word) → P (load owner_of marks o at)
  pub store : (marks : Marks) (at word : Word) → P (store owner_of marks o at word)
  pub new : (quota len : ℕ) → P (new quota task o len)
  pub malloc : (quota : ℕ) (n : ℤ) → P (malloc quota task o n)
  pub drop : (marks : Marks) (obj : Obj) → P (drop marks task o obj)
  pub free : (marks : Marks) (at : Word) → P (free marks task o at)

-- of the objects that a task makes none lives whose name it has not given yet, where it has given so many
abbrev pub NamesAreLeft : ℕ → ℕ → Memory → Type 0
NamesAreLeft task given m = (number : ℕ) → given < number → object_of m (Task task) (Dyn number) ≡ None

-- an access gives one name at most, and leaves the later ones
abbrev pub GivesOneName : ℕ → ℕ → Access → Type 0
GivesOneName task given (Answers answer o) = (given ≤ o.made) × (o.made ≤ given + 1) × NamesAreLeft task o.made o.memory
GivesOneName task given (Breaks fault) = Unit {0}

-- an access leaves an owner's object as it is
abbrev pub LeavesObject : Owner → Obj → Memory → Access → Type 0
LeavesObject owner obj m (Answers answer o) = object_of o.memory owner obj ≡ object_of m owner obj
LeavesObject owner obj m (Breaks fault) = Unit {0}

-- an access leaves the keys in order
abbrev pub LeavesOrder : Access → Type 0
LeavesOrder (Answers answer o) = IsOrdered o.memory
LeavesOrder (Breaks fault) = Unit {0}
