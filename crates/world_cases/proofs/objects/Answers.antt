use Rattle.std.specs.Prelude.{refl}
use Rattle.run_model.specs.Played.{computing}
use Rattle.world_cases.proofs.objects.Goals as goal

pub returns : goal.returns
unfolding computing
returns c = record {
  own_objects = refl;
  dead = refl;
  no_block = refl;
  too_few = refl;
  just_enough = refl;
  calls = refl;
  abort_ends = refl;
  ends_aborted = refl;
  init_twice = refl;
  no_finalize = refl;
}
