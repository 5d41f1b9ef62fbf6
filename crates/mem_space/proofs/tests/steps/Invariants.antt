use Rattle.std.proofs.Common.{◌≡◌, ◌≤◌, ℕ, length}
use Rattle.mpc_values.specs.declared.values.Obj.{Obj}
use Rattle.mpc_values.specs.declared.owners.Owner.{Owner}
use Rattle.object_heap.specs.Marks.{mark_of}
use Rattle.mem_space.specs.Places.{sends}
use Rattle.mem_space.proofs.tests.steps.Given as goal

abbrev pub invariant-loop-second : goal.invariant-loop-second
invariant-loop-second g l = record {
  turns : l.turns ≡ l.second-index;
  two : length l.space.sharing.cores ≡ 2;
  few : (owner : Owner) (obj : Obj) (p : ℕ) → sends (mark_of l.space.heap owner obj p) ≤ l.turns;
}
