use Rattle.std.proofs.Common.{codes}
use Rattle.toml.proofs.Views.{table_get}
use Rattle.topology.proofs.machine_file.core_value.Goals as goal

pub returns : goal.returns
returns c = table_get c.get.result (codes "core") c.args.document.now.entries c.get.ensures.value
