use Rattle.std.proofs.Common.{◌≡◌, length, subst, arith}
use Rattle.word_region.specs.Places.{Places}
use Rattle.word_region.proofs.Cells.{length-cells}
use Rattle.word_region.proofs.region.Region.len.Goals as goal

pub returns : goal.returns
returns c =
    let ok = c.self.inside.words.ok in
    let same = length-cells c.self.inside.holes.items 0 c.self.inside.words.items in
    subst (λ (v : Places). c.len.result ≡ length v.cells) c.self.view_is (omega (arith, c.len.ensures, ok.0, same))
