-- Which gate it is.
use Rattle.atomic_table.specs.Seated.{TableId}
use Rattle.task_gate.specs.declared.gates.Gate.{Gate}

abbrev pub gate_id : {S : Type 0} → Gate S → TableId
gate_id g = g.table.shared.table_id
