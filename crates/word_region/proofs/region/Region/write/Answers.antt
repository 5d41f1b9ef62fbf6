use Rattle.std.proofs.Common.{◌≡◌, ◌+◌, set, Some, subst, sym, ap, ◌∙◌, arith}
use Rattle.std.proofs.lemmas.List.{length-set}
use Rattle.word_region.specs.Places.{Places, held_of}
use Rattle.word_region.specs.Holes.{cells_of, Lies}
use Rattle.word_region.proofs.Cells.{held_outside, cells_written}
use Rattle.word_region.proofs.Counts.{held_written}
use Rattle.word_region.proofs.region.Region.write.Goals as goal

pub index_mut-requires : goal.index_mut-requires
index_mut-requires c =
    let held = rw (← c.self.view_is) at c.requires in
    let within = (held_outside c.self.inside.words.items c.self.inside.holes.items c.args.at held).0 in
    let ok = c.self.inside.words.ok in
    omega (arith, within, ok.0)

pub invariant_of-self : goal.invariant_of-self
invariant_of-self c =
    let held = rw (← c.self.view_is) at c.requires in
    let cells = cells_written c.self.inside.words.items c.self.inside.holes.items c.args.at c.args.word held in
    record {
      laid = subst (λ n. Lies 0 c.self.inside.holes.items (n + 1)) (sym (length-set c.self.inside.words.items c.args.at c.args.word)) c.self.invariant.laid;
      held = c.self.invariant.held ∙ (sym (held_written (cells_of c.self.inside.words.items c.self.inside.holes.items) c.args.at c.args.word held) ∙ ap held_of (sym cells));
      room = c.self.invariant.room;
    }

pub returns : goal.returns
returns c =
    let held = rw (← c.self.view_is) at c.requires in
    let cells = cells_written c.self.inside.words.items c.self.inside.holes.items c.args.at c.args.word held in
    subst (λ (v : Places). record { cells = cells_of (set c.self.inside.words.items c.args.at c.args.word) c.self.inside.holes.items; ranges = c.self.inside.ranges } ≡ record v { cells = set v.cells c.args.at (Some c.args.word) }) c.self.view_is
    (ap (λ cs. record { cells = cs; ranges = c.self.inside.ranges }) cells)
