use Rattle.std.specs.Prelude.{refl}
use Rattle.run_model.specs.Played.{computing}
use Rattle.world_cases.proofs.collectives.Goals as goal

pub returns : goal.returns
unfolding computing
returns c = record {
  folds = refl;
  not_looked_at = refl;
  scatter_elsewhere = refl;
  scatter_parts = refl;
  root_of_bcast = refl;
  first_of_exscan = refl;
  unset_in_fold = refl;
  unset_in_gather = refl;
  result_is_last = refl;
  goes = refl;
  comes = refl;
  is_stuck = refl;
  ranks = refl;
}
