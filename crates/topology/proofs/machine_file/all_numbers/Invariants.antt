use Rattle.std.proofs.Common.{◌≡◌, ◌++◌, drop, map, option_map}
use Rattle.toml.specs.View.{view}
use Rattle.topology.specs.MachineFile.{numbers_of_core, together}
use Rattle.topology.proofs.machine_file.all_numbers.Given as goal

abbrev pub invariant-loop-table : goal.invariant-loop-table
invariant-loop-table l =
    together (map (λ v. numbers_of_core (view v)) l.tables)
    ≡ option_map (λ ms. l.cores.items ++ ms) (together (map (λ v. numbers_of_core (view v)) (drop l.table-index l.tables)))
