use Rattle.std.proofs.Common.{sym}
use Rattle.run_model.specs.Setup.{setup_of}
use Rattle.run_model.specs.Run.{world_of}
use Rattle.node_core.proofs.Visiting.{can_go_is, cannot_go, there_is}
use Rattle.node_core.proofs.node.Node.can_go.Goals as goal

pub returns-then-is_some-clause-goes : goal.returns-then-is_some-clause-goes
returns-then-is_some-clause-goes c =
    rw (← c.self.view_is) (cannot_go (setup_of c.self.inside.setup) c.self.inside.journal.entries c.self.inside.stop c.args.task (sym c.if-is_some.ensures))

pub returns-clause-goes : goal.returns-clause-goes
returns-clause-goes c =
    rw (← c.self.view_is) (can_go_is (setup_of c.self.inside.setup) c.self.inside.journal.entries c.self.inside.state c.self.inside.end c.self.inside.stop c.args.task c.may_go.result
    c.self.invariant.0 (sym c.if-is_some.ensures) (c.may_go.ensures.may (setup_of c.self.inside.setup) (world_of (setup_of c.self.inside.setup) c.self.inside.journal.entries) c.self.invariant.0.stands))

pub returns-clause-there : goal.returns-clause-there
returns-clause-there c = λ goes.
    rw (← c.self.view_is) (there_is (setup_of c.self.inside.setup) c.self.inside.journal.entries c.self.inside.state c.self.inside.end c.self.inside.stop c.self.invariant.0 c.args.task (c.may_go.ensures.there goes))
