use Rattle.std.proofs.Common.{ltb, sym, rules}
use Rattle.std.proofs.lemmas.List.Sorted.{IsPartitionPoint-from_clause}
use Rattle.hls_sync.proofs.Counts.{falling_parted, reached_at_point}
use Rattle.hls_sync.proofs.instances.place_of.Goals as goal

pub returns : goal.returns
returns c =
    let parted = falling_parted c.args.counts.now c.requires c.args.came in
    let point = IsPartitionPoint-from_clause (λ x. ltb c.args.came x) c.args.counts.now c.partition_point.result c.partition_point.ensures.partitioned parted (λ a r q k. search rules) in
    sym (reached_at_point c.args.counts.now c.args.came c.partition_point.result c.partition_point.ensures.bound point)
