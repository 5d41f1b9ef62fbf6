use Rattle.std.proofs.Common.{◌≡◌, Some, subst, sym, ap, ◌∙◌, arith}
use Rattle.std.proofs.lemmas.List.{get_or_read}
use Rattle.mpc_values.specs.declared.values.Word.TheVariants.{Undef}
use Rattle.word_region.specs.Places.{Places, cell}
use Rattle.word_region.proofs.Cells.{held_outside, held_word}
use Rattle.word_region.proofs.region.Region.read.Goals as goal

pub index-requires : goal.index-requires
index-requires c =
    let held = rw (← c.self.view_is) at c.requires in
    let within = (held_outside c.self.inside.words.items c.self.inside.holes.items c.args.at held).0 in
    let ok = c.self.inside.words.ok in
    omega (arith, within, ok.0)

pub returns : goal.returns
returns c =
    let held = rw (← c.self.view_is) at c.requires in
    let within = (held_outside c.self.inside.words.items c.self.inside.holes.items c.args.at held).0 in
    let is = get_or_read _ c.args.at _ within c.index.ensures Undef in
    subst (λ (v : Places). Some c.index.result.now ≡ cell v.cells c.args.at) c.self.view_is
    (ap Some is ∙ sym (held_word c.self.inside.words.items c.self.inside.holes.items c.args.at Undef held))
