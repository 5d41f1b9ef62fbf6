use Rattle.mpi_coll.proofs.Fields.{new_whole}
use Rattle.mpi_coll.proofs.rooms.Room.new.Goals as goal

pub invariant_of-result : goal.invariant_of-result
invariant_of-result c =
    new_whole c.args.members c.in_ok-zeros.field-0.items c.in_ok-zeros-2.field-0.items c.new.result.items c.new-2.result.items
    c.in_ok-zeros.ensures c.in_ok-zeros-2.ensures c.new.ensures.items c.new-2.ensures.items
