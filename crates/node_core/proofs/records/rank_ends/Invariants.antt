use Rattle.std.proofs.Common.{◌≡◌, ◌++◌, ◌<◌, ◌^◌, length}
use Rattle.std.specs.Vec.Iter.{into_iter_items, into_iter_len}
use Rattle.node_core.specs.HandedBack.{ends_from}
use Rattle.node_core.proofs.records.rank_ends.Given as goal

abbrev pub invariant-loop-part : goal.invariant-loop-part
invariant-loop-part l = record {
  all : l.yielded ++ into_iter_items l.part-iterator ≡ into_iter_items l.initial.part-iterator;
  left : into_iter_len l.part-iterator ≡ length (into_iter_items l.part-iterator);
  made : l.ranks.items ≡ ends_from 0 l.end l.yielded;
  task : l.task ≡ length l.yielded;
  few : length (into_iter_items l.initial.part-iterator) < 2 ^ 32;
}
