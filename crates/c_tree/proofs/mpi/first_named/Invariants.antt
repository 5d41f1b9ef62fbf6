use Rattle.std.proofs.Common.{◌≡◌, drop}
use Rattle.c_tree.specs.MpiTable.{first_named}
use Rattle.c_tree.proofs.mpi.first_named.Given as goal

abbrev pub invariant-loop-function : goal.invariant-loop-function
invariant-loop-function l = first_named l.name l.functions ≡ first_named l.name (drop l.function-index l.functions)
