use Rattle.c_tree.specs.MpiTable.{mpi_named}
use Rattle.c_tree.proofs.MpiNames.{found_is, none_other}
use Rattle.c_tree.proofs.mpi.MpiFunction.named.Goals as goal

pub returns : goal.returns
unfolding mpi_named
returns c = record {
  value = c.first_named.ensures;
  named = found_is _ _ c.first_named.ensures;
  others = none_other _ _ c.first_named.ensures;
}
