-- Whose copy of an object a task touches.
use Rattle.std.specs.Prelude.{ℕ, slice_index}
use Rattle.mpc_values.specs.declared.values.Obj.{Obj}
use Rattle.mpc_values.specs.declared.values.Obj.TheVariants.{Glob, Dyn}
use Rattle.mpc_values.specs.declared.owners.Level.{Level}
use Rattle.mpc_values.specs.declared.owners.Owner.{Owner}
use Rattle.mpc_values.specs.declared.owners.Owner.TheVariants.{Task}
use Rattle.topology.specs.Instances.{instance_of}
use Rattle.tls_levels.specs.Sharing.{Sharing, sharing_of, owner_in}
use Rattle.run_model.specs.Setup.{Setup}

-- the core of a task
abbrev pub core_of : Setup → ℕ → ℕ
core_of setup task = slice_index setup.cores task

-- the instance of a level that holds a task's core
abbrev pub instance_at : Setup → Level → ℕ → ℕ
instance_at setup level task = instance_of setup.machine level (core_of setup task)

-- a setup's variables, machine and cores
abbrev pub sharing : Setup → Sharing
sharing setup = sharing_of setup.program.variables setup.machine setup.cores

-- Of a variable that has a level, the copy of the instance of that level that holds the task's core. Of every other
-- object its own.
unfoldable pub owner_of : Setup → ℕ → Obj → Owner
owner_of setup task (Glob variable) = owner_in (sharing setup) task variable
owner_of setup task (Dyn made) = Task task
