use Rattle.std.proofs.Common.{◌≡◌, ◌<◌, ℕ, length, get_or, map, ap, ◌∙◌, arith}
use Rattle.std.specs.List.{range_with_len}
use Rattle.std.proofs.lemmas.List.FromFn.{get_or-map-range_with_len, length-map-range_with_len}
use Rattle.tls_levels.specs.Images.{offset_in, image_number, words_in}
use Rattle.tls_levels.specs.Sharing.{Sharing}
use Rattle.tls_levels.proofs.ImageLaws.{ends_within, ends_before}
use Rattle.tls_levels.proofs.levels.Levels.offset.Goals as goal

pub index-requires : goal.index-requires
index-requires c =
    let shapes = c.self.inside.shapes.items in
    let seen = ap (λ (s : Sharing). length s.shapes) c.self.view_is in
    let long = ap length c.self.invariant.offsets ∙ length-map-range_with_len (offset_in shapes) 0 (length shapes) in
    omega (arith, seen, long, c.self.inside.offsets.ok.0)

-- the table's entry is the variable's offset
entry : (shapes offsets : _) (var x : ℕ) → offsets ≡ map (offset_in shapes) (range_with_len 0 (length shapes)) → var < length shapes → x ≡ get_or offsets var x → x ≡ offset_in shapes var
entry shapes offsets var x table there read =
    read ∙ ap (λ xs. get_or xs var x) table ∙ get_or-map-range_with_len (offset_in shapes) 0 (length shapes) var var x there (omega arith)

pub returns-clause-value : goal.returns-clause-value
returns-clause-value c =
    let seen = ap (λ (s : Sharing). length s.shapes) c.self.view_is in
    rw (← c.self.view_is) (entry c.self.inside.shapes.items c.self.inside.offsets.items c.args.var _ c.self.invariant.offsets (omega arith) c.index.ensures)

pub returns-clause-within : goal.returns-clause-within
returns-clause-within c owner same =
    let shapes = c.args.self.now.shapes in
    let value = returns-clause-value c in
    let ends = ends_within shapes c.args.var c.requires in
    let image = ap (λ level. words_in shapes (image_number level)) same in
    omega (arith, value, ends, image)

pub returns-clause-apart : goal.returns-clause-apart
returns-clause-apart c other before same =
    let value = returns-clause-value c in
    let ends = ends_before c.args.self.now.shapes other c.args.var c.requires before same in
    omega (arith, value, ends)
