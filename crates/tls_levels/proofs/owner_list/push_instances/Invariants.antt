use Rattle.std.proofs.Common.{◌≡◌, ◌++◌, map}
use Rattle.std.specs.List.{filter, range_with_len}
use Rattle.mpc_values.specs.declared.owners.Owner.TheVariants.{Inst}
use Rattle.tls_levels.specs.Owners.{holds_core}
use Rattle.tls_levels.proofs.owner_list.push_instances.Given as goal

abbrev pub invariant-loop-id : goal.invariant-loop-id
invariant-loop-id l = l.owners.items ≡ l.fn.owners.items ++ map (Inst l.level) (filter (holds_core l.machine l.cores l.level) (range_with_len 0 l.id))
