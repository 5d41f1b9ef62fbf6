use Rattle.std.specs.Prelude.{refl}
use Rattle.run_model.specs.Played.{computing}
use Rattle.world_cases.proofs.fault_orders.Goals as goal

pub returns : goal.returns
unfolding computing
returns c = record {
  send_before_init = refl;
  send_comm = refl;
  send_peer = refl;
  send_tag = refl;
  send_count = refl;
  send_range = refl;
  receive_before_init = refl;
  receive_comm = refl;
  receive_peer = refl;
  receive_tag = refl;
  receive_count = refl;
  receive_range = refl;
  peer_past_the_group = refl;
  tag_past_the_last = refl;
  last_tag = refl;
  nobody_before_init = refl;
  nobody_tag = refl;
  nobody_count = refl;
  no_pointer = refl;
  dead_and_outside = refl;
  outside_and_touched = refl;
  touched = refl;
  probe_before_init = refl;
  probe_comm = refl;
  probe_peer = refl;
  probe_tag = refl;
  iprobe_before_init = refl;
  iprobe_comm = refl;
  iprobe_peer = refl;
  iprobe_tag = refl;
  arrive_before_init = refl;
  arrive_comm = refl;
  arrive_root = refl;
  arrive_negative_root = refl;
  arrive_count = refl;
  arrive_other_count = refl;
  arrive_own_counts = refl;
  arrive_from = refl;
  arrive_unset = refl;
  arrive_into = refl;
  complete_before_init = refl;
  complete_request = refl;
  test_before_init = refl;
  test_request = refl;
  any_before_init = refl;
  any_request = refl;
  rank_before_init = refl;
  rank_comm = refl;
  size_before_init = refl;
  size_comm = refl;
  abort_before_init = refl;
  abort_comm = refl;
  finalize_before_init = refl;
  after_finalize = refl;
}
