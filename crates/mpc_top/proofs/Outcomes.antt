-- Two outcomes of one command over the same files are the same.
use Rattle.std.proofs.Common.{◌≡◌, ℕ, List, Option, Some, None, refl, sym, ap, ◌∙◌, subst}
use Rattle.mpc_base.specs.Told.{Store, content_of}
use Rattle.c_lex.specs.Laws.{LexingLaws}
use Rattle.c_parse.specs.Laws.{ParsingLaws}
use Rattle.c_types.specs.Laws.{TypingLaws}
use Rattle.c_tree.specs.Programs.{Program}
use Rattle.c_tree.specs.ProgramOf.{program_of}
use Rattle.journal.specs.Report.{report_of}
use Rattle.serial_model.specs.declared.records.RunRecord.{RunRecord}
use Rattle.serial_model.specs.Run.{status_of}
use Rattle.serial_run.proofs.OneRun.{one_run}
use Rattle.mpc_top.specs.declared.command.Mode.{Mode}
use Rattle.mpc_top.specs.declared.command.Mode.TheVariants.{Check, Serial}
use Rattle.mpc_top.specs.Command.{NamesSource}
use Rattle.mpc_top.specs.Sources.{accepted_line}
use Rattle.mpc_top.specs.Answers.{IsAccepted, OfSource, Text}
use Rattle.mpc_top.specs.Outcomes.{SameOutcome, OneOutcome}
use Rattle.mpc_top.proofs.Reasons.{same_program}
use Rattle.mpc_top.proofs.Answering.{modes_same, names_same}

-- a file has one typed program
file_program : LexingLaws → ParsingLaws → TypingLaws → (file : Option (List ℕ)) (p q : Program) → IsAccepted p file → IsAccepted q file → p ≡ q
file_program lexing parsing typing None p q first second = absurd first
file_program lexing parsing typing (Some src) p q first second = same_program lexing parsing typing src p q first second

module _ (lexing : LexingLaws) (parsing : ParsingLaws) (typing : TypingLaws) (words : List (List ℕ)) (store : Store) where
  -- the sources that the words name have one typed program
  source_program : (m : Mode) (p q : Program) → OfSource words m (Some store) (IsAccepted p) → OfSource words m (Some store) (IsAccepted q) → p ≡ q
  source_program m p q first second =
      let name = names_same words m m first.name second.name first.names second.names in
      file_program lexing parsing typing (content_of store second.name) p q (subst (λ (n : List ℕ). IsAccepted p (content_of store n)) name first.file) second.file

  texts_same : (m : Mode) (kept kept' : Option RunRecord) (text text' : List ℕ) → Text m words (Some store) kept text → Text m words (Some store) kept' text' → SameOutcome text text' kept kept'
  texts_same Check None None text text' first second = record {
    text_is = first.2 ∙ ap accepted_line (source_program Check first.0 second.0 first.1 second.1) ∙ sym second.2;
    kept_is = tt;
    status_is = refl;
  }
  texts_same Check (Some run) kept' text text' first second = absurd first
  texts_same Check None (Some other) text text' first second = absurd second
  texts_same Serial None kept' text text' first second = absurd first
  texts_same Serial (Some run) None text text' first second = absurd second
  texts_same Serial (Some run) (Some other) text text' first second =
      let same = one_run run other first.0.records second.0.records (source_program Serial (program_of run.setup.program) (program_of other.setup.program) first.1 second.1) in
      record {
        text_is = first.2 ∙ ap (λ ranks. report_of ranks run.end) same.ranks ∙ ap (report_of other.ranks) same.ended ∙ sym second.2;
        kept_is = same;
        status_is = ap (status_of run.end) same.ranks ∙ ap (λ e. status_of e other.ranks) same.ended;
      }

text_name : (words : List (List ℕ)) (store : Store) (m : Mode) (kept : Option RunRecord) (text : List ℕ) → Text m words (Some store) kept text → (name : List ℕ) × NamesSource words m name
text_name words store Check None text is = (is.1.name, is.1.names)
text_name words store Check (Some run) text is = absurd is
text_name words store Serial None text is = absurd is
text_name words store Serial (Some run) text is = (is.1.name, is.1.names)

pub one_outcome : LexingLaws → ParsingLaws → TypingLaws → OneOutcome
one_outcome lexing parsing typing words store m n kept kept' text text' first second =
    let a = text_name words store m kept text first in
    let b = text_name words store n kept' text' second in
    let mode = modes_same words n m b.0 a.0 b.1 a.1 in
    texts_same lexing parsing typing words store m kept kept' text text' first (subst (λ (k : Mode). Text k words (Some store) kept' text') mode second)
