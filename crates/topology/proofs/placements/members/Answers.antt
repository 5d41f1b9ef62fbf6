use Rattle.std.proofs.Common.{◌≡◌, true, false, refl, arith}
use Rattle.std.proofs.lemmas.Bool.Decides.{nat_tests}
use Rattle.topology.specs.Places.{is_in}
use Rattle.topology.proofs.Ranges.{filter_push, filter_skip}
use Rattle.topology.proofs.placements.members.Goals as goal
use Rattle.topology.proofs.placements.members.Goals.{then-instance-id+in_ok-push, else-instance-id}

pub loop-core-preserved : goal.loop-core-preserved
loop-core-preserved c =
    let p = is_in c.args.machine.now c.args.id in
    elim c.if-instance-id.branch [
      | then-instance-id+in_ok-push w ↦
          let passes : p c.loop-core.core ≡ true = grind (arith, nat_tests) in
          filter_push p _ _ _ c.loop-core.invariant passes (rw w.list-is w.in_ok-push.ensures.items)
      | else-instance-id w ↦
          let fails : p c.loop-core.core ≡ false = grind (arith, nat_tests) in
          filter_skip p _ _ _ c.loop-core.invariant fails (rw w.list-is refl)
    ]
