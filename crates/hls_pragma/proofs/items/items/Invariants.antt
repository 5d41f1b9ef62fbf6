use Rattle.std.proofs.Common.{◌≡◌, ◌≤◌, ◌++◌, drop}
use Rattle.hls_pragma.specs.Items.{items_of}
use Rattle.hls_pragma.proofs.items.items.Given as goal

abbrev pub invariant-loop-at : goal.invariant-loop-at
invariant-loop-at l = (l.len ≤ l.at) × (items_of 0 0 0 l.line ≡ l.items.items ++ items_of l.at l.start l.len (drop l.at l.line))
