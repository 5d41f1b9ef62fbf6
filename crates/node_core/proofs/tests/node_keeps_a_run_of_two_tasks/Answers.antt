use Rattle.std.proofs.Common.{◌≡◌, ◌∙◌, ap, [], inl, refl}
use Rattle.c_tree.specs.Next.{next_of}
use Rattle.run_model.specs.Setup.{setup_of}
use Rattle.run_model.specs.Steps.{answers_of}
use Rattle.node_core.specs.Held.{Held, world_in}
use Rattle.node_core.proofs.Beginnings.{none_asked}
use Rattle.node_core.proofs.tests.node_keeps_a_run_of_two_tasks.Goals as goal

pub visit-requires-clause-asks : goal.visit-requires-clause-asks
visit-requires-clause-asks g c =
    ap (λ (h : Held). next_of (setup_of h.setup).program (answers_of (world_in h) 1)) c.in_ok-node.ensures
    ∙ ap (next_of (setup_of c.in_ok-setup.setup).program) (none_asked (setup_of c.in_ok-setup.setup) 1)
    ∙ c.in_ok-setup.ensures.asks
