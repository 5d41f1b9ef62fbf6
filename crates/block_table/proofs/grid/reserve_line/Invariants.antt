use Rattle.std.proofs.Common.{◌≡◌, ℕ, ◌≤◌, length}
use Rattle.block_table.specs.Places.{key_in}
use Rattle.block_table.proofs.grid.reserve_line.Given as goal

abbrev pub invariant-loop : goal.invariant-loop
invariant-loop l = record {
  keys : (a b : ℕ) → key_in l.lines.items a b ≡ key_in l.fn.lines.items a b;
  count : l.counter ≤ length l.lines.items;
}
