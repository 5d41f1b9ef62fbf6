-- A program has one run as one task.
use Rattle.std.specs.Prelude.{◌≡◌}
use Rattle.c_tree.specs.ProgramOf.{program_of}
use Rattle.serial_model.specs.declared.records.RunRecord.{RunRecord}
use Rattle.serial_model.specs.Run.{RecordsRun}

-- Two records tell the same run: its entries, how it ended, and the ends of its ranks.
pub record SameRun (a b : RunRecord) : Type 0 where
  pub entries : a.journal.entries ≡ b.journal.entries
  pub ended : a.end ≡ b.end
  pub ranks : a.ranks ≡ b.ranks

-- all records of runs of one program tell the same run
abbrev pub OneRun : Type 0
OneRun = (a b : RunRecord) → RecordsRun a → RecordsRun b → program_of a.setup.program ≡ program_of b.setup.program → SameRun a b
