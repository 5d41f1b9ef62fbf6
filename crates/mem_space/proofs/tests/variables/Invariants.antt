use Rattle.std.proofs.Common.{◌≡◌, ◌*◌, ◌≤◌, length, All}
use Rattle.std.specs.List.{sum_by}
use Rattle.mpc_values.specs.declared.owners.StaticVar.{StaticVar}
use Rattle.mem_space.proofs.tests.variables.Given as goal

abbrev pub invariant-loop-level : goal.invariant-loop-level
invariant-loop-level l = record {
  long : l.len ≡ l.level-index;
  count : length l.list.items ≡ l.level-index;
  words : sum_by (λ (var : StaticVar). var.len) l.list.items ≤ 3 * l.level-index;
  first : All (λ (var : StaticVar). length var.first ≡ var.len) l.list.items;
}
