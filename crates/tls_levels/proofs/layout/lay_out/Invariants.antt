use Rattle.std.proofs.Common.{◌≡◌, ◌<◌, ℕ, length, map, take, get_or}
use Rattle.std.specs.List.{range_with_len}
use Rattle.tls_levels.specs.Images.{words_in, offset_in}
use Rattle.tls_levels.proofs.layout.lay_out.Given as goal

abbrev pub invariant-loop-shape : goal.invariant-loop-shape
invariant-loop-shape l = record {
  seven : length l.totals.items ≡ 7;
  words : (kind : ℕ) → kind < 7 → get_or l.totals.items kind 0 ≡ words_in (take l.shape-index l.shapes) kind;
  starts : l.offsets.items ≡ map (offset_in l.shapes) (range_with_len 0 l.shape-index);
}
