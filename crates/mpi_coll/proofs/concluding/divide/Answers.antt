use Rattle.std.proofs.Common.{◌∙◌, ap}
use Rattle.mpi_comm.specs.Seen.{members_at, split_up}
use Rattle.mpi_coll.proofs.Numbered.{chosen_is, divided}
use Rattle.mpi_coll.proofs.concluding.divide.Goals as goal

pub returns-clause-gets : goal.returns-clause-gets
returns-clause-gets c =
    c.number_all.ensures
    ∙ divided c.args.comms.now c.args.comm c.args.asked.now c.in_ok-numbers.numbers.items c.as_slice.result.now c.as_slice-2.result.now c.args.members
    (c.as_slice.ensures.value ∙ c.in_ok-colours.ensures) (c.as_slice-2.ensures.value ∙ c.in_ok-keys.ensures) c.in_ok-numbers.ensures.numbers c.requires.size

pub returns-clause-after : goal.returns-clause-after
returns-clause-after c =
    c.in_ok-numbers.ensures.after
    ∙ ap (split_up c.args.comms.now (members_at c.args.comms.now c.args.comm))
    (chosen_is c.args.asked.now c.as_slice.result.now c.as_slice-2.result.now (c.as_slice.ensures.value ∙ c.in_ok-colours.ensures) (c.as_slice-2.ensures.value ∙ c.in_ok-keys.ensures))
