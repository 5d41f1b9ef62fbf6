use Rattle.std.proofs.Common.{length, refl, ap, sym}
use Rattle.run_model.specs.Setup.{setup_of}
use Rattle.node_core.proofs.Beginnings.{starts, all_fit_first}
use Rattle.node_core.proofs.parts.State.new.Goals as goal

pub returns-clause-stands : goal.returns-clause-stands
returns-clause-stands c =
    starts (setup_of c.args.setup.now) _ _ c.in_ok-parts.ensures.count c.in_ok-parts.ensures.first c.in_ok-comms.ensures refl (ap length (sym c.as_slice.ensures)) c.in_ok-first_space.ensures.stands

pub returns-clause-noted : goal.returns-clause-noted
returns-clause-noted c = all_fit_first c.in_ok-parts.parts.items c.in_ok-parts.ensures.first
