-- The task goes on: no row gives an answer to the call that ends it.
use Rattle.std.specs.Prelude.{◌≡◌, false}
use Rattle.demand_tests.proofs.playing.play_one.Given as goal

abbrev pub invariant-loop-wanted : goal.invariant-loop-wanted
invariant-loop-wanted g l = l.task.over ≡ false
