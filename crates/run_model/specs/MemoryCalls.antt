-- What the calls on memory come to: load, store, new, drop, malloc and free.
use Rattle.std.specs.Prelude.{ℕ, ℤ}
use Rattle.mpc_values.specs.declared.values.Word.{Word}
use Rattle.mpc_values.specs.declared.values.Obj.{Obj}
use Rattle.memory_model.specs.Access as access
use Rattle.memory_model.specs.Access.{Objects, Access, Answers, Breaks}
use Rattle.mpi_request.specs.Pending.{marks_of}
use Rattle.run_model.specs.Setup.{Setup}
use Rattle.run_model.specs.World.{Core}
use Rattle.run_model.specs.Owners.{owner_of}
use Rattle.run_model.specs.Outcomes.{Outcome, Does, Fails, state_of, with_state}

-- the objects that an access of a task finds
abbrev pub objects_of : Core → ℕ → Objects
objects_of core task = record { memory = core.memory; made = (state_of core task).made }

-- an access changes memory, and how many objects the task has made, alone
abbrev pub accessed : Core → ℕ → Access → Outcome
accessed core task (Answers answer o) =
    Does answer (with_state (record core { memory = o.memory }) task (record (state_of core task) { made = o.made }))
accessed core task (Breaks fault) = Fails fault

-- a load of a place (C99, section 6.3.2.1)
unfoldable pub load : Setup → Core → ℕ → Word → Outcome
load setup core task at = accessed core task (access.load (owner_of setup task) (marks_of core.requests) (objects_of core task) at)

-- a store to a place (C99, section 6.5.16)
unfoldable pub store : Setup → Core → ℕ → Word → Word → Outcome
store setup core task at word = accessed core task (access.store (owner_of setup task) (marks_of core.requests) (objects_of core task) at word)

-- a local in memory is made (C99, section 6.2.4)
unfoldable pub new : Setup → Core → ℕ → ℕ → Outcome
new setup core task len = accessed core task (access.new setup.quota task (objects_of core task) len)

-- a local in memory ends (C99, section 6.2.4)
unfoldable pub drop : Core → ℕ → Obj → Outcome
drop core task obj = accessed core task (access.drop (marks_of core.requests) task (objects_of core task) obj)

-- a block is made (C99, section 7.20.3.3)
unfoldable pub malloc : Setup → Core → ℕ → ℤ → Outcome
malloc setup core task n = accessed core task (access.malloc setup.quota task (objects_of core task) n)

-- a block ends (C99, section 7.20.3.2)
unfoldable pub free : Core → ℕ → Word → Outcome
free core task at = accessed core task (access.free (marks_of core.requests) task (objects_of core task) at)
