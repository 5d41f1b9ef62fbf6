-- What the calls at the constructs of shared variables come to: enter, await, exit, bar and barwait.
use Rattle.std.specs.Prelude.{ℕ, Bool, true, false, if◌then◌else◌, slice_get, Option, Some, None}
use Rattle.mpc_values.specs.declared.answers.Answer.TheVariants.{Done, Entered}
use Rattle.c_tree.specs.declared.program.HlsKind.{HlsKind}
use Rattle.c_tree.specs.declared.program.HlsKind.TheVariants.{Single, Nowait, Barrier}
use Rattle.c_tree.specs.declared.program.Construct.{Construct}
use Rattle.hls_sync.specs.Meetings.{Site}
use Rattle.hls_sync.specs.Ways.{way_of, with_visit, may_go, running_visit, with_exit, may_leave_bar}
use Rattle.run_model.specs.Setup.{Setup, tasks_of}
use Rattle.run_model.specs.World.{Core}
use Rattle.run_model.specs.Owners.{instance_at}
use Rattle.run_model.specs.Outcomes.{Outcome, Does, Waits}

-- the construct of a number, where the program has it
abbrev pub construct_of : Setup → ℕ → Option Construct
construct_of setup number = slice_get setup.program.constructs number

-- where the tasks of a run meet at a construct: a task's instance is that of the construct's level that holds its core
abbrev pub site_of : Setup → ℕ → Construct → Site
site_of setup number c = record { kind = c.kind; construct = number; tasks = tasks_of setup; instance_of = instance_at setup c.level }

-- a single of either kind
abbrev pub is_single : HlsKind → Bool
is_single Single = true
is_single Nowait = true
is_single Barrier = false

-- a single at which tasks wait
abbrev pub is_waiting_single : HlsKind → Bool
is_waiting_single Single = true
is_waiting_single Nowait = false
is_waiting_single Barrier = false

-- a barrier
abbrev pub is_barrier : HlsKind → Bool
is_barrier Single = false
is_barrier Nowait = false
is_barrier Barrier = true

-- the same by the construct
abbrev pub at_construct : Setup → Core → (HlsKind → Bool) → ℕ → (Site → Outcome) → Option Construct → Outcome
at_construct setup core fits number outcome None = Does Done core
at_construct setup core fits number outcome (Some c) = if fits c.kind then outcome (site_of setup number c) else Does Done core

-- A call at a construct of this kind. At a construct that the program does not have, or of another kind, it is done at
-- once and changes nothing.
abbrev pub at_site : Setup → Core → (HlsKind → Bool) → ℕ → (Site → Outcome) → Outcome
at_site setup core fits number outcome = at_construct setup core fits number outcome (construct_of setup number)

-- the core with one arrival of the task more
abbrev pub visiting : Core → ℕ → ℕ → Core
visiting core task construct = record core { visits = with_visit core.visits construct task }

-- the arrival of a task at a single
unfoldable pub enter : Setup → Core → ℕ → ℕ → Outcome
enter setup core task construct =
    at_site setup core is_single construct (λ site. Does (Entered (way_of site core.visits task)) (visiting core task construct))

-- done, where it is enabled
abbrev pub done_or_waits : Core → Bool → Outcome
done_or_waits core enabled = if enabled then Does Done core else Waits

-- a held task goes on after the exit
unfoldable pub await : Setup → Core → ℕ → ℕ → Outcome
await setup core task construct =
    at_site setup core is_waiting_single construct (λ site. done_or_waits core (may_go site core.visits core.exits task))

-- the end of the latest meeting that the task runs and has not ended; where there is none, nothing changes
unfoldable pub exit : Setup → Core → ℕ → ℕ → Outcome
exit setup core task construct =
    at_site setup core is_single construct (λ site. Does Done (record core { exits = with_exit core.exits (running_visit site core.visits core.exits task) }))

-- the arrival of a task at a barrier
unfoldable pub bar : Setup → Core → ℕ → ℕ → Outcome
bar setup core task construct = at_site setup core is_barrier construct (λ site. Does Done (visiting core task construct))

-- a task goes on after a barrier
unfoldable pub barwait : Setup → Core → ℕ → ℕ → Outcome
barwait setup core task construct =
    at_site setup core is_barrier construct (λ site. done_or_waits core (may_leave_bar site core.visits task))
