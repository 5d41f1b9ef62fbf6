-- What the exit status of a run says of the run.
use Rattle.std.specs.Prelude.{◌≡◌, ◌≢◌, ◌↔◌, ℕ, ℤ, pos, List, [], ◌∷◌, ◌++◌, Option, Some, None}
use Rattle.std.specs.List.{All, Any}
use Rattle.mpc_base.specs.declared.journals.Out.{Out}
use Rattle.mpc_base.specs.declared.journals.Out.TheVariants.{Waits, Did, Broke}
use Rattle.mpc_base.specs.declared.journals.Entry.{Entry}
use Rattle.mpc_base.specs.declared.journals.End.TheVariants as end
use Rattle.serial_model.specs.declared.records.RunRecord.{RunRecord}
use Rattle.mpc_base.specs.declared.journals.RankState.{RankState}
use Rattle.mpc_base.specs.declared.journals.RankState.TheVariants as rank
use Rattle.serial_model.specs.Run.{status_of}

-- main ended with another exit code than 0
abbrev pub IsBadExit : RankState → Type 0
IsBadExit (rank.Exit code) = code ≢ pos 0
IsBadExit rank.Stopped = ⊥
IsBadExit (rank.Blocked call line) = ⊥
IsBadExit (rank.Fault fault line) = ⊥
IsBadExit (rank.Aborted code line) = ⊥

-- All ranks finished, each with the exit code 0.
pub record FinishedWell (run : RunRecord) : Type 0 where
  pub finished : run.end ≡ end.Finished
  pub exits : All (λ rank_end. rank_end.state ≡ rank.Exit (pos 0)) run.ranks

-- All ranks finished, one of them with another exit code.
pub record FinishedBadly (run : RunRecord) : Type 0 where
  pub finished : run.end ≡ end.Finished
  pub exit : Any (λ rank_end. IsBadExit rank_end.state) run.ranks

-- what became of a call is a fault
abbrev pub IsFault : Out → Type 0
IsFault Waits = ⊥
IsFault (Did answer) = ⊥
IsFault (Broke fault) = Unit {0}

-- The last entry is a fault.
pub record EndsInFault (entries : List Entry) : Type 0 where
  pub before : List Entry
  pub entry : Entry
  pub last : entries ≡ before ++ entry ∷ []
  pub fault : IsFault entry.out

-- The status is the run's: 0 exactly where all ranks finished with the exit code 0, 1 exactly where all finished and some
-- exit code is another, and 2 exactly where the journal's last entry is a fault.
pub record IsStatusOf (run : RunRecord) (status : ℕ) : Type 0 where
  pub is : status ≡ status_of run.end run.ranks
  pub zero_is : (status ≡ 0) ↔ FinishedWell run
  pub one_is : (status ≡ 1) ↔ FinishedBadly run
  pub two_is : (status ≡ 2) ↔ EndsInFault run.journal.entries

-- the status of what was made: that of the run, and 0 where there was none
abbrev pub made_status : Option RunRecord → ℕ
made_status None = 0
made_status (Some run) = status_of run.end run.ranks
