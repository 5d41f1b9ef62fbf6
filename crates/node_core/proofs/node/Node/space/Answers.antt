use Rattle.node_core.proofs.node.Node.space.Goals as goal

pub returns-clause-stands : goal.returns-clause-stands
returns-clause-stands c = rw (← c.self.view_is) c.self.invariant.0.stands.core.all.space

pub returns-clause-set : goal.returns-clause-set
returns-clause-set c = rw (← c.self.view_is) c.self.invariant.0.set
