use Rattle.std.specs.Prelude.{refl}
use Rattle.run_model.specs.Played.{computing}
use Rattle.rand_core.specs.Pcg32Seed.{pcg32_seed}
use Rattle.rand_core.specs.Steps.{word_bytes, u32_at}
use Rattle.world_cases.proofs.programs.Goals as goal

pub returns : goal.returns
unfolding computing pcg32_seed word_bytes u32_at
returns c = record {
  journal = refl;
  over = refl;
  finished = refl;
  status = refl;
  in_turn = refl;
  as_listed = refl;
  seeded = refl;
}
