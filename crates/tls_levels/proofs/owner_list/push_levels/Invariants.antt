use Rattle.std.proofs.Common.{◌≡◌, ◌++◌, take}
use Rattle.std.specs.List.{flat_map}
use Rattle.tls_levels.specs.Owners.{instances_at}
use Rattle.tls_levels.proofs.owner_list.push_levels.Given as goal

abbrev pub invariant-loop-level : goal.invariant-loop-level
invariant-loop-level l = l.owners.items ≡ l.fn.owners.items ++ flat_map (instances_at l.machine l.cores) (take l.level-index l.levels)
