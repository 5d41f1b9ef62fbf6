use Rattle.std.proofs.Common.{set, subst, refl, sym}
use Rattle.std.specs.Vec.{with_item}
use Rattle.block_table.specs.Places.{Grid, IsThere, Sets, lines_seen}
use Rattle.block_table.proofs.Grids.{sets_in}
use Rattle.block_table.proofs.grid.Grid.set.Goals as goal

pub returns : goal.returns
returns c =
    let there = subst (λ (g : Grid). IsThere g c.args.line c.args.place) (sym c.self.view_is) c.requires in
    subst (λ (g : Grid). Sets g (lines_seen (set c.self.inside.lines.items c.args.line (with_item c.index_mut-keys.result.now c.args.place c.args.key))) c.args.line c.args.place c.args.key) c.self.view_is
    (sets_in c.self.inside.lines.items c.args.line c.args.place c.args.key c.index_mut-keys.result.now (with_item c.index_mut-keys.result.now c.args.place c.args.key) c.index_mut-keys.ensures.value there refl)
