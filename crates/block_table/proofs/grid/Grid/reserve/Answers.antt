use Rattle.std.proofs.Common.{◌≡◌, ◌∙◌, set, subst}
use Rattle.block_table.specs.Places.{Grid, key_at, key_in}
use Rattle.block_table.proofs.Grids.{same_keys, now_there}
use Rattle.block_table.proofs.grid.Grid.reserve.Goals as goal

pub returns-in_err-reserve_place-clause-keys : goal.returns-in_err-reserve_place-clause-keys
returns-in_err-reserve_place-clause-keys c =
    let kept = same_keys c.reserve_line.new.lines.items c.args.line c.index_mut-keys.result.now c.reserve_place.new.keys c.in_ok-reserve_line.ensures.there c.index_mut-keys.ensures.value c.reserve_place.ensures.keys in
    λ a b. subst (λ (g : Grid). key_in (set c.reserve_line.new.lines.items c.args.line c.reserve_place.new.keys) a b ≡ key_at g a b) c.self.view_is (kept a b ∙ c.reserve_line.ensures.keys a b)

pub returns-clause-keys : goal.returns-clause-keys
returns-clause-keys c =
    let kept = same_keys c.reserve_line.new.lines.items c.args.line c.index_mut-keys.result.now c.reserve_place.new.keys c.in_ok-reserve_line.ensures.there c.index_mut-keys.ensures.value c.reserve_place.ensures.keys in
    λ a b. subst (λ (g : Grid). key_in (set c.reserve_line.new.lines.items c.args.line c.reserve_place.new.keys) a b ≡ key_at g a b) c.self.view_is (kept a b ∙ c.reserve_line.ensures.keys a b)

pub returns-clause-there : goal.returns-clause-there
returns-clause-there c = now_there c.reserve_line.new.lines.items c.args.line c.args.place c.reserve_place.new.keys c.in_ok-reserve_line.ensures.there c.in_ok-reserve_place.ensures.there
