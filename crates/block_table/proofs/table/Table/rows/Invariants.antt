use Rattle.std.proofs.Common.{◌≡◌, ℕ, ◌++◌, map}
use Rattle.block_table.specs.declared.entries.Entry.{Entry}
use Rattle.block_table.specs.Rows.{rows_of}
use Rattle.block_table.proofs.table.Table.rows.Given as goal

abbrev pub invariant-loop-entry : goal.invariant-loop-entry
invariant-loop-entry l = l.list.items ++ map (λ (e : ℕ × Entry). e.1.row) l.entry-iterator ≡ rows_of l.self
