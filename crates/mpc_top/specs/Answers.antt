-- What the top call answers, and what each answer says.
use Rattle.std.specs.Prelude.{◌≡◌, ◌≤◌, ◌⊎◌, ℕ, List, [], ◌∷◌, codes, Option, Some, None, IfSome, Bool, true, ◌==◌}
use Rattle.std.specs.List.{list_any}
use Rattle.mpc_base.specs.Causes.{Rose}
use Rattle.mpc_base.specs.Told.{Store, content_of, Took, TookPrefix}
use Rattle.c_tree.specs.Programs.{Program}
use Rattle.c_tree.specs.ProgramOf.{program_of}
use Rattle.c_compile.specs.Plain.{is_plain}
use Rattle.journal.specs.Report.{report_of}
use Rattle.serial_model.specs.declared.records.RunRecord.{RunRecord}
use Rattle.serial_model.specs.Run.{RecordsRun}
use Rattle.mpc_top.specs.declared.command.Mode.{Mode}
use Rattle.mpc_top.specs.declared.command.Mode.TheVariants.{Check, Serial}
use Rattle.mpc_top.specs.declared.sources.SourceRefusal.{SourceRefusal}
use Rattle.mpc_top.specs.Command.{NamesSource}
use Rattle.mpc_top.specs.Sources.{Accepted, Refuses, refusal_line, accepted_line}
use Rattle.mpc_top.specs.RunStatuses.{made_status}

abbrev pub usage_line : List ℕ
usage_line = codes "mpc: usage\n"

abbrev pub read_fault_line : List ℕ
read_fault_line = codes "mpc: cannot read source\n"

-- The words name a source in a mode, and its file, where the store tells it, is like this.
pub record OfSource (words : List (List ℕ)) (mode : Mode) (told : Option Store) (Like : Option (List ℕ) → Type 0) : Type 0 where
  pub name : List ℕ
  pub names : NamesSource words mode name
  pub file : IfSome told (λ store. Like (content_of store name))

-- The words name a source in a mode, the store tells its files, and the source's file is like this.
pub record ToldSource (words : List (List ℕ)) (mode : Mode) (told : Option Store) (Like : Option (List ℕ) → Type 0) : Type 0 where
  pub name : List ℕ
  pub names : NamesSource words mode name
  pub store : Store
  pub tells : told ≡ Some store
  pub like : Like (content_of store name)

-- the file's content is accepted, and this is its typed program
abbrev pub IsAccepted : Program → Option (List ℕ) → Type 0
IsAccepted program None = ⊥
IsAccepted program (Some src) = Accepted src program

-- what a mode asks for of a program, so that it is done: to be run it is a plain one
abbrev pub IsBuilt : Mode → Program → Type 0
IsBuilt Check program = Unit {0}
IsBuilt Serial program = is_plain program ≡ true

-- what a mode asks for of a source, so that it is done
abbrev pub IsGood : Mode → Option (List ℕ) → Type 0
IsGood mode file = (program : Program) × IsAccepted program file × IsBuilt mode program

-- The sink took the line, or a prefix of it where its count of faults rose.
pub record WroteLine (line : List ℕ) (taken taken' : Option (List ℕ)) (faults faults' : ℕ) : Type 0 where
  pub prefix : TookPrefix taken line taken'
  pub whole : (Rose faults faults' → ⊥) → Took taken line taken'

-- The record is that of a run, and the run's program is plain.
pub record IsPlainRun (run : RunRecord) : Type 0 where
  pub records : RecordsRun run
  pub plain : is_plain (program_of run.setup.program) ≡ true

-- What a mode writes of a source. For `check` it is the line that tells what was accepted, and no record is kept. For
-- `serial` it is the report of a run of the source's program, and that run's record is kept.
abbrev pub Text : Mode → List (List ℕ) → Option Store → Option RunRecord → List ℕ → Type 0
Text Check words told None text = (program : Program) × OfSource words Check told (IsAccepted program) × (text ≡ accepted_line program)
Text Check words told (Some run) text = ⊥
Text Serial words told None text = ⊥
Text Serial words told (Some run) text = IsPlainRun run × OfSource words Serial told (IsAccepted (program_of run.setup.program)) × (text ≡ report_of run.ranks run.end)

-- The sink took the mode's whole text, and the status is that of the run, or 0 for `check`.
pub record IsDone (words : List (List ℕ)) (told : Option Store) (status : ℕ) (kept : Option RunRecord) (taken taken' : Option (List ℕ)) : Type 0 where
  pub mode : Mode
  pub text : List ℕ
  pub is : Text mode words told kept text
  pub status_is : status ≡ made_status kept
  pub took : Took taken text taken'

-- The sink took a prefix of the mode's text.
pub record IsCutShort (words : List (List ℕ)) (told : Option Store) (kept : Option RunRecord) (taken taken' : Option (List ℕ)) : Type 0 where
  pub mode : Mode
  pub text : List ℕ
  pub is : Text mode words told kept text
  pub took : TookPrefix taken text taken'

-- The source is refused, and the sink took the line that says why.
pub record IsRefused (words : List (List ℕ)) (told : Option Store) (taken taken' : Option (List ℕ)) (faults faults' : ℕ) : Type 0 where
  pub mode : Mode
  pub refusal : SourceRefusal
  pub source : OfSource words mode told (Refuses mode refusal)
  pub line : WroteLine (refusal_line refusal) taken taken' faults faults'

-- the statuses that are answered
abbrev pub is_status : ℕ → Bool
is_status status = list_any (λ s. s == status) (0 ∷ 1 ∷ 2 ∷ 5 ∷ 6 ∷ 7 ∷ 8 ∷ 10 ∷ [])

-- the status is one behind a text, whole or cut short
abbrev pub IsMade : ℕ → Type 0
IsMade status = (status ≤ 2) ⊎ (status ≡ 8)

-- the words name a source to be run
abbrev pub RunsSource : List (List ℕ) → Type 0
RunsSource words = (name : List ℕ) × NamesSource words Serial name
