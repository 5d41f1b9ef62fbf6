use Rattle.std.specs.Prelude.{refl}
use Rattle.run_model.specs.Played.{computing}
use Rattle.world_cases.proofs.endings.Goals as goal

pub returns : goal.returns
unfolding computing
returns c = record {
  dead_block = refl;
  null = refl;
  got = refl;
  exit = refl;
  exit_is = refl;
  exit_status = refl;
  broken = refl;
  broken_is = refl;
  abort = refl;
  abort_is = refl;
  abort_state = refl;
  waiting = refl;
  waiting_is = refl;
  waiting_states = refl;
}
