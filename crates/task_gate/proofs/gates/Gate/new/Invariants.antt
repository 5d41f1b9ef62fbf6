use Rattle.std.proofs.Common.{◌≡◌, ℕ, [], vec_len, slice_get, Some, ◌≤◌}
use Rattle.task_gate.specs.Rule.{maker}
use Rattle.task_gate.specs.declared.passes.Pass.{Pass}
use Rattle.task_gate.specs.Passes.{IsNew}
use Rattle.task_gate.proofs.gates.Gate.new.Given as goal

abbrev pub invariant-loop : goal.invariant-loop
invariant-loop g l = record {
  table : l.seat.table_id ≡ l.gate.table.shared.table_id;
  gate : l.gate ≡ l.initial.gate;
  maker : l.seat.me ≡ (maker (g.S.Traced.base l.fn.first) l.counter, []);
  count : vec_len l.made ≡ l.counter;
  enough : l.counter ≤ l.passes;
  each : (k : ℕ) (p : Pass) → slice_get l.made.items k ≡ Some p → IsNew l.gate.table.shared.table_id (g.S.Traced.base l.fn.first) k p;
}
