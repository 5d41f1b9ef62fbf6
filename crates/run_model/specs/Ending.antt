-- How a run is in a world: whether it goes on, or how it has ended.
use Rattle.std.specs.Prelude.{ℕ, ◌||◌, Bool, if◌then◌else◌, Option, Some, None}
use Rattle.std.specs.List.{list_all, enumerate_from}
use Rattle.mpc_base.specs.declared.journals.End.{End}
use Rattle.mpc_base.specs.declared.journals.End.TheVariants as end
use Rattle.run_model.specs.declared.progress.Course.{Course}
use Rattle.run_model.specs.declared.progress.Last.{Last}
use Rattle.run_model.specs.declared.progress.Last.TheVariants.{Faulted, Aborted}
use Rattle.run_model.specs.Setup.{Setup}
use Rattle.run_model.specs.World.{World}
use Rattle.run_model.specs.Go.{has_finished, is_blocked}

-- the end by what ended the run
abbrev pub end_of_last : Last → End
end_of_last (Faulted task fault line) = end.Fault task fault line
end_of_last (Aborted task code line) = end.Abort task code line

-- the task has finished, or is blocked
abbrev pub is_over_or_blocked : Setup → World → ℕ × Course → Bool
is_over_or_blocked setup w e = has_finished e.1 || is_blocked setup w e.0 e.1

-- the same by what ended the run, if something did
abbrev pub end_in : Setup → World → Option Last → End
end_in setup w (Some last) = end_of_last last
end_in setup w None =
    if list_all has_finished w.log.courses then end.Finished
    else if list_all (is_over_or_blocked setup w) (enumerate_from 0 w.log.courses) then end.Stuck
    else end.Going

-- How the run is: it ended by a fault or an abort; or all tasks have finished; or some have not, and each such one is
-- blocked; or it goes on.
unfoldable pub ending : Setup → World → End
ending setup w = end_in setup w w.log.last
