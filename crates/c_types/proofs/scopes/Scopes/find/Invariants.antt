use Rattle.std.proofs.Common.{◌≡◌, ◌≤◌, length, reverse, take}
use Rattle.c_types.specs.Env.{find}
use Rattle.c_types.proofs.scopes.Scopes.find.Given as goal

abbrev pub invariant-loop-at : goal.invariant-loop-at
invariant-loop-at l = (l.at ≤ length l.self-inside.list.items) × (find l.name (reverse (take l.at l.self-inside.list.items)) ≡ find l.name (reverse l.self-inside.list.items))

abbrev pub decreases-loop-at : goal.decreases-loop-at
decreases-loop-at l = l.at
