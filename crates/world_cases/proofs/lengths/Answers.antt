use Rattle.std.specs.Prelude.{refl}
use Rattle.run_model.specs.Played.{computing}
use Rattle.world_cases.proofs.lengths.Goals as goal

pub returns : goal.returns
unfolding computing
returns c = record {
  truncated = refl;
  shorter = refl;
  mistyped = refl;
  mistyped_too_long = refl;
  mistyped_of_none = refl;
  unset_words = refl;
  to_nobody = refl;
}
