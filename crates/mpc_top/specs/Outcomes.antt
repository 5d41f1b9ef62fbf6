-- What a command writes, keeps and answers is a function of its words and of the files that the store tells.
use Rattle.std.specs.Prelude.{◌≡◌, ℕ, List, Option, Some, None}
use Rattle.mpc_base.specs.Told.{Store}
use Rattle.serial_model.specs.declared.records.RunRecord.{RunRecord}
use Rattle.serial_run.specs.OneRun.{SameRun}
use Rattle.mpc_top.specs.declared.command.Mode.{Mode}
use Rattle.mpc_top.specs.RunStatuses.{made_status}
use Rattle.mpc_top.specs.Answers.{Text}

-- the records tell the same run, or there are none
abbrev pub SameKept : Option RunRecord → Option RunRecord → Type 0
SameKept None None = Unit {0}
SameKept None (Some other) = ⊥
SameKept (Some run) None = ⊥
SameKept (Some run) (Some other) = SameRun run other

-- Two outcomes are the same: the text, the record of the run, and the status.
pub record SameOutcome (text text' : List ℕ) (kept kept' : Option RunRecord) : Type 0 where
  pub text_is : text ≡ text'
  pub kept_is : SameKept kept kept'
  pub status_is : made_status kept ≡ made_status kept'

-- all that is made for some words, of the files of one store, is the same
abbrev pub OneOutcome : Type 0
OneOutcome = (words : List (List ℕ)) (store : Store) (m n : Mode) (kept kept' : Option RunRecord) (text text' : List ℕ) → Text m words (Some store) kept text → Text n words (Some store) kept' text' → SameOutcome text text' kept kept'
