use Rattle.std.proofs.Common.{◌≡◌, length, subst, sym, ap, arith}
use Rattle.word_region.specs.Places.{held_of}
use Rattle.word_region.specs.Holes.{cells_from, cells_of, AreLaid}
use Rattle.word_region.proofs.region.Region.new.Goals as goal

pub invariant_of-result : goal.invariant_of-result
unfolding cells_from
invariant_of-result c = record {
  laid = subst (λ hs. AreLaid c.new.result.items hs) (sym c.new-2.ensures.items) tt;
  held = ap (λ words. held_of (cells_of words c.new-2.result.items)) (sym c.new.ensures.items);
  room = let none : length c.new-2.result.items ≡ 0 = ap length c.new-2.ensures.items in omega arith;
}

pub returns : goal.returns
unfolding cells_from
returns c = ap (λ words. record { cells = cells_of words c.new-2.result.items; ranges = 0 }) c.new.ensures.items
