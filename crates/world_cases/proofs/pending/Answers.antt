use Rattle.std.specs.Prelude.{refl}
use Rattle.run_model.specs.Played.{computing}
use Rattle.world_cases.proofs.pending.Goals as goal

pub returns : goal.returns
unfolding computing
returns c = record {
  store_under_a_send = refl;
  marks_end = refl;
  load_under_a_receive = refl;
  send_under_a_receive = refl;
  free_after_completion = refl;
  whichever_task = refl;
  result_under_a_receive = refl;
}
