use Rattle.node_core.proofs.node.Node.journal.Goals as goal

pub returns-clause-legal : goal.returns-clause-legal
returns-clause-legal c = rw (← c.self.view_is) (record { tasks = c.self.invariant.1; entries = c.self.invariant.0.legal })
