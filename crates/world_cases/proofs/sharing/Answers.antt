use Rattle.std.specs.Prelude.{refl}
use Rattle.topology.specs.Places.{numa_instances}
use Rattle.run_model.specs.Played.{computing}
use Rattle.world_cases.proofs.sharing.Goals as goal

pub returns : goal.returns
unfolding computing numa_instances
returns c = record {
  scattered = refl;
  owner = refl;
  two_copies = refl;
  one_copy = refl;
  two_instances = refl;
  one_runs_each_round = refl;
  one_is_ahead = refl;
  from_the_inside = refl;
}
