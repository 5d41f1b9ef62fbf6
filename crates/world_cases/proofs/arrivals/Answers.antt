use Rattle.std.specs.Prelude.{refl}
use Rattle.run_model.specs.Played.{computing}
use Rattle.world_cases.proofs.arrivals.Goals as goal

pub returns : goal.returns
unfolding computing
returns c = record {
  kinds_differ = refl;
  kinds_without_words_differ = refl;
  roots_differ = refl;
  operations_differ = refl;
  datatypes_differ = refl;
  counts_differ = refl;
  scatter_counts_differ = refl;
  scatter_other_counts_agree = refl;
  colours_agree = refl;
  buffers_agree = refl;
  meetings_are_apart = refl;
  result_is_dead = refl;
  no_arrival_is_left = refl;
}
