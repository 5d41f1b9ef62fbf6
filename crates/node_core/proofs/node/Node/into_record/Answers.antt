use Rattle.std.proofs.Common.{ap, sym, ◌∙◌}
use Rattle.run_model.specs.Setup.{setup_of}
use Rattle.run_model.specs.Run.{world_of}
use Rattle.node_core.specs.HandedBack.{ends_from}
use Rattle.node_core.proofs.HandingBack.{ranks_are}
use Rattle.node_core.proofs.Visiting.{how_is, few_parts}
use Rattle.node_core.proofs.node.Node.into_record.Goals as goal

pub rank_ends-requires : goal.rank_ends-requires
rank_ends-requires c = record { few = few_parts (setup_of c.self.inside.setup) c.self.inside.journal.entries c.self.inside.state c.self.inside.end c.self.inside.stop c.self.invariant.0 }

pub returns-clause-ranks : goal.returns-clause-ranks
returns-clause-ranks c =
    rw (← c.self.view_is)
    (ranks_are (world_of (setup_of c.self.inside.setup) c.self.inside.journal.entries) c.self.inside.state _ c.self.invariant.0.stands
    ∙ ap (λ e. ends_from 0 e c.self.inside.state.tasks.items) (sym (how_is (setup_of c.self.inside.setup) c.self.inside.journal.entries c.self.inside.state c.self.inside.end c.self.inside.stop c.self.invariant.0) ∙ sym c.how_stands-end.ensures)
    ∙ sym c.in_ok-ranks.ensures ∙ sym c.of.ensures)
