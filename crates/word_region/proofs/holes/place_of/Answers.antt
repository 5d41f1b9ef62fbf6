use Rattle.std.proofs.Common.{◌+◌, ltb, ltb-true, ltb-false, arith, rules}
use Rattle.std.proofs.lemmas.List.Sorted.{IsPartitionPoint-from_clause, IsPartitionedBy-ltb}
use Rattle.word_region.specs.Holes.{no_hole}
use Rattle.word_region.proofs.Laid.{rising}
use Rattle.word_region.proofs.holes.place_of.Goals as goal

pub returns : goal.returns
returns c =
    let rises = rising 0 c.args.holes.now (c.args.end + 1) c.requires in
    let parted = IsPartitionedBy-ltb (λ h. h.base) _ c.args.base rises in
    let point = IsPartitionPoint-from_clause (λ h. ltb h.base c.args.base) _ _ c.partition_point.ensures.partitioned parted (λ a r q k. search rules) in
    record {
      within = c.partition_point.ensures.bound;
      before = λ j h. ltb-true _ _ (point.0 j no_hole (omega arith) h);
      behind = λ j h t. ltb-false _ _ (point.1 j no_hole h t);
    }
