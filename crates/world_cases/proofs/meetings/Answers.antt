use Rattle.std.specs.Prelude.{refl}
use Rattle.run_model.specs.Played.{computing}
use Rattle.world_cases.proofs.meetings.Goals as goal

pub returns : goal.returns
unfolding computing
returns c = record {
  barrier_of_two = refl;
  is_stuck = refl;
  ranks = refl;
  roots_differ = refl;
  is_fault = refl;
  states = refl;
  four = refl;
  five = refl;
  parts_of_all = refl;
}
