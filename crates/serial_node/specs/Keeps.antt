-- What a node keeps.
use Rattle.serial_node.specs.declared.node.Node.TheInside.{Inside}
use Rattle.serial_node.specs.Held.{Held}
use Rattle.serial_node.specs.IsRun.{IsRun}

abbrev pub held_of : Inside → Held
held_of a = record { setup = a.setup; entries = a.entries.items }

abbrev pub Keeps : Inside → Type 0
Keeps a = IsRun a.setup a.entries.items a.state
