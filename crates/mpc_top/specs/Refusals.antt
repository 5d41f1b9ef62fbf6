-- Why nothing was done, and what a call of the top has done: it refused, it showed a text, or it found no memory.
use Rattle.std.specs.Prelude.{◌≡◌, ◌≢◌, ℕ, List, [], Option, Some, None, ◌⊎◌}
use Rattle.mpc_base.specs.Causes.{Rose}
use Rattle.mpc_base.specs.Told.{Store, Took, TookPrefix}
use Rattle.serial_model.specs.declared.records.RunRecord.{RunRecord}
use Rattle.c_tree.specs.Programs.{Program}
use Rattle.c_tree.specs.ProgramOf.{program_of}
use Rattle.journal.specs.Report.{report_of}
use Rattle.mpc_top.specs.declared.command.Mode.{Mode}
use Rattle.mpc_top.specs.declared.command.Mode.TheVariants.{Check, Serial}
use Rattle.mpc_top.specs.declared.sources.SourceRefusal.{SourceRefusal}
use Rattle.mpc_top.specs.declared.refusals.Refusal.{Refusal}
use Rattle.mpc_top.specs.declared.refusals.Refusal.TheVariants.{Usage, ReadFault, Source, Memory}
use Rattle.mpc_top.specs.Command.{NamesSource, NamesNone}
use Rattle.mpc_top.specs.Sources.{Accepted, Refuses, RefusesContent, refusal_line, accepted_line}
use Rattle.mpc_top.specs.Answers.{OfSource, WroteLine, IsPlainRun, Text, usage_line, read_fault_line}
use Rattle.mpc_top.specs.RunStatuses.{made_status}

abbrev pub status_for : Refusal → ℕ
status_for Usage = 6
status_for ReadFault = 7
status_for (Source refusal) = 5
status_for Memory = 10

abbrev pub line_for : Refusal → List ℕ
line_for Usage = usage_line
line_for ReadFault = read_fault_line
line_for (Source refusal) = refusal_line refusal
line_for Memory = []

abbrev pub IsAny : Option (List ℕ) → Type 0
IsAny file = Unit {0}

-- the cause of a refusal: the words, what the store tells, and its count of faults before and after
abbrev pub Holds : Refusal → List (List ℕ) → Option Store → ℕ → ℕ → Type 0
Holds Usage words told faults faults' = NamesNone words
Holds ReadFault words told faults faults' = (mode : Mode) × OfSource words mode told IsAny × Rose faults faults'
Holds (Source refusal) words told faults faults' = (mode : Mode) × OfSource words mode told (Refuses mode refusal) × (Rose faults faults' → ⊥)
Holds Memory words told faults faults' = (mode : Mode) × OfSource words mode told IsAny

-- the text was written whole, with the status of what was made, or a prefix of it because the sink failed, with status 8
abbrev pub Showed : ℕ → ℕ → List ℕ → Option (List ℕ) → Option (List ℕ) → ℕ → ℕ → Type 0
Showed made status text taken taken' faults faults' = ((status ≡ made) × Took taken text taken') ⊎ ((status ≡ 8) × TookPrefix taken text taken' × Rose faults faults')

-- What a mode makes of a source: a text, and the record of the run for `serial`.
abbrev pub MadeOf : Mode → List ℕ → List ℕ → Option RunRecord → Type 0
MadeOf Check src text None = (program : Program) × Accepted src program × (text ≡ accepted_line program)
MadeOf Check src text (Some run) = ⊥
MadeOf Serial src text None = ⊥
MadeOf Serial src text (Some run) = IsPlainRun run × Accepted src (program_of run.setup.program) × (text ≡ report_of run.ranks run.end)

-- the report of a run of a plain program, and the run's record
abbrev pub RunOf : Program → List ℕ → Option RunRecord → Type 0
RunOf program text None = ⊥
RunOf program text (Some run) = IsPlainRun run × (program_of run.setup.program ≡ program) × (text ≡ report_of run.ranks run.end)

-- Memory was wanted and not found, and nothing was written.
pub record WasShort (status : ℕ) (kept : Option RunRecord) (taken taken' : Option (List ℕ)) : Type 0 where
  pub status_is : status ≡ 10
  pub kept_none : kept ≡ None
  pub nothing : taken' ≡ taken

-- A refusal, with its cause, its status and its line.
pub record WasRefused (words : List (List ℕ)) (told : Option Store) (faults faults' status : ℕ) (kept : Option RunRecord) (taken taken' : Option (List ℕ)) (write_faults write_faults' : ℕ) : Type 0 where
  pub refusal : Refusal
  pub holds : Holds refusal words told faults faults'
  pub status_is : status ≡ status_for refusal
  pub kept_none : kept ≡ None
  pub line : WroteLine (line_for refusal) taken taken' write_faults write_faults'

-- The text of the mode was shown.
pub record WasShown (words : List (List ℕ)) (told : Option Store) (status : ℕ) (kept : Option RunRecord) (taken taken' : Option (List ℕ)) (write_faults write_faults' : ℕ) : Type 0 where
  pub mode : Mode
  pub text : List ℕ
  pub is : Text mode words told kept text
  pub showed : Showed (made_status kept) status text taken taken' write_faults write_faults'

-- A refusal was told: its status and its line.
pub record Closes (refusal : Refusal) (status : ℕ) (kept : Option RunRecord) (taken taken' : Option (List ℕ)) (write_faults write_faults' : ℕ) : Type 0 where
  pub status_is : status ≡ status_for refusal
  pub kept_none : kept ≡ None
  pub line : WroteLine (line_for refusal) taken taken' write_faults write_faults'

-- what was done with a source that was read
abbrev pub SourceAnswered : Mode → List ℕ → ℕ → Option RunRecord → Option (List ℕ) → Option (List ℕ) → ℕ → ℕ → Type 0
SourceAnswered mode src status kept taken taken' write_faults write_faults' =
    ((refusal : SourceRefusal) × RefusesContent mode refusal src × Closes (Source refusal) status kept taken taken' write_faults write_faults')
    ⊎ (((text : List ℕ) × MadeOf mode src text kept × Showed (made_status kept) status text taken taken' write_faults write_faults') ⊎ WasShort status kept taken taken')

-- what a call has done
abbrev pub Answered : List (List ℕ) → Option Store → ℕ → ℕ → ℕ → Option RunRecord → Option (List ℕ) → Option (List ℕ) → ℕ → ℕ → Type 0
Answered words told faults faults' status kept taken taken' write_faults write_faults' =
    WasRefused words told faults faults' status kept taken taken' write_faults write_faults'
    ⊎ (WasShown words told status kept taken taken' write_faults write_faults'
    ⊎ ((mode : Mode) × (name : List ℕ) × NamesSource words mode name × WasShort status kept taken taken'))
