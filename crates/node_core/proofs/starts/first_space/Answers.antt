use Rattle.run_model.specs.Setup.{setup_of}
use Rattle.node_core.proofs.FirstSpace.{first_stands}
use Rattle.node_core.proofs.starts.first_space.Goals as goal

pub returns-clause-stands : goal.returns-clause-stands
returns-clause-stands c =
    first_stands c.each_object_has_its_key.ensures.object c.each_object_has_its_key.ensures.owner (setup_of c.args.setup.now) c.globals-globals.result.now c.as_slice-cores.result.now c.in_ok-space.space
    c.globals-globals.ensures c.as_slice-cores.ensures c.in_ok-space.ensures.sharing c.in_ok-space.ensures.first c.in_ok-space.ensures.made c.in_ok-space.ensures.marks
