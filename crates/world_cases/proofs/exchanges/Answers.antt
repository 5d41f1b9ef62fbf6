use Rattle.std.specs.Prelude.{refl}
use Rattle.run_model.specs.Played.{computing}
use Rattle.world_cases.proofs.exchanges.Goals as goal

pub returns : goal.returns
unfolding computing
returns c = record {
  both_print_seven = refl;
  both_finish = refl;
  both_are_blocked = refl;
  is_stuck = refl;
  ranks = refl;
  four_words = refl;
  four_finish = refl;
  five_words = refl;
  five_are_stuck = refl;
}
