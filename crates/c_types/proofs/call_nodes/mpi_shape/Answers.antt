use Rattle.c_types.proofs.Applied.{row_shape}
use Rattle.c_types.proofs.call_nodes.mpi_shape.Goals as goal

pub returns-in_default : goal.returns-in_default
returns-in_default c =
    row_shape _ _ _ _ _ _ _ _ c.in_default.not-Init c.arguments.ensures c.arguments-in_default.ensures c.all_meet.ensures c.datatypes_agree.ensures
