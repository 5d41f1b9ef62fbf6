-- What a node keeps.
use Rattle.std.specs.Prelude.{◌≡◌}
use Rattle.run_model.specs.Setup.{setup_of, tasks_of}
use Rattle.node_core.specs.declared.node.Node.TheInside.{Inside}
use Rattle.node_core.specs.Held.{Held}
use Rattle.node_core.specs.IsRun.{IsRun}

abbrev pub held_of : Inside → Held
held_of a = record { setup = a.setup; entries = a.journal.entries; stop = a.stop }

abbrev pub Keeps : Inside → Type 0
Keeps a = IsRun (setup_of a.setup) a.journal.entries a.state a.end a.stop × (a.journal.tasks ≡ tasks_of (setup_of a.setup))
