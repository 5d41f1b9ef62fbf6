use Rattle.std.proofs.Common.{◌≡◌, ℕ, ◌<◌, ◌≤◌, true}
use Rattle.block_table.specs.Rows.{mark_at}
use Rattle.heap_runs.specs.Marks.{may}
use Rattle.heap_runs.proofs.marks.may_all.Given as goal

abbrev pub invariant-loop-p : goal.invariant-loop-p
invariant-loop-p l = (q : ℕ) → l.at ≤ q → q < l.p → may l.act (mark_at l.table l.key q) ≡ true
