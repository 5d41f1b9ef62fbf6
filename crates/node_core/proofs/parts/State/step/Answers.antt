use Rattle.std.proofs.Common.{◌≡◌, slice_get, Some, refl}
use Rattle.std.proofs.lemmas.Option.{slice_get_read}
use Rattle.run_model.specs.Setup.{setup_of}
use Rattle.node_core.proofs.Stepping.{stepped, all_fit_after}
use Rattle.node_core.proofs.parts.State.step.Goals as goal

pub returns-clause-ok : goal.returns-clause-ok
returns-clause-ok c = λ w stands.
    let at : slice_get c.args.self.now.tasks.items c.args.task ≡ Some c.index_mut-part.result.now = slice_get_read _ _ _ _ refl c.requires.there c.index_mut-part.ensures.value in
    stepped (setup_of c.args.setup.now) w c.args.self.now _ c.args.task c.index_mut-part.result.now c.step_part.new.part c.args.call.now c.args.line c.in_ok-out.out stands at refl
    c.in_ok-out.ensures.course c.last_after-self.ensures c.in_ok-out.ensures.ok

pub returns-clause-noted : goal.returns-clause-noted
returns-clause-noted c = λ fits.
    all_fit_after c.args.self.now.tasks.items c.args.task c.index_mut-part.result.now c.step_part.new.part c.args.call.now c.args.line c.in_ok-out.out c.in_ok-out.ensures.course c.requires.built c.in_ok-out.ensures.waits fits
