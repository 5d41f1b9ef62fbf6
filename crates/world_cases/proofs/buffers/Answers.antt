use Rattle.std.specs.Prelude.{refl}
use Rattle.run_model.specs.Played.{computing}
use Rattle.world_cases.proofs.buffers.Goals as goal

pub returns : goal.returns
unfolding computing
returns c = record {
  own_store = refl;
  store_of_another = refl;
  drop_under_a_send = refl;
  drop_under_a_receive = refl;
  free_under_a_send = refl;
  free_under_a_receive = refl;
  no_words = refl;
  finalized = refl;
  finished = refl;
}
