use Rattle.std.proofs.Common.{◌+◌, subst, sym, ◌∙◌}
use Rattle.word_region.specs.Places.{Places, IsHeld, Shifts}
use Rattle.word_region.specs.Holes.{cells_of, Lies}
use Rattle.word_region.proofs.Cells.{held_within, shifts}
use Rattle.word_region.proofs.Counts.{held_shifted}
use Rattle.word_region.proofs.region.Region.shift.Goals as goal

pub copy-requires-clause-source : goal.copy-requires-clause-source
copy-requires-clause-source c =
    let source : IsHeld (cells_of c.self.inside.words.items c.self.inside.holes.items) c.args.from c.args.len = subst (λ (v : Places). IsHeld v.cells c.args.from c.args.len) (sym c.self.view_is) c.requires.source in
    let target : IsHeld (cells_of c.self.inside.words.items c.self.inside.holes.items) c.args.to c.args.len = subst (λ (v : Places). IsHeld v.cells c.args.to c.args.len) (sym c.self.view_is) c.requires.target in
    held_within c.self.inside.words.items c.self.inside.holes.items c.args.from c.args.len c.if-len-gt0.true source

pub copy-requires-clause-target : goal.copy-requires-clause-target
copy-requires-clause-target c =
    let source : IsHeld (cells_of c.self.inside.words.items c.self.inside.holes.items) c.args.from c.args.len = subst (λ (v : Places). IsHeld v.cells c.args.from c.args.len) (sym c.self.view_is) c.requires.source in
    let target : IsHeld (cells_of c.self.inside.words.items c.self.inside.holes.items) c.args.to c.args.len = subst (λ (v : Places). IsHeld v.cells c.args.to c.args.len) (sym c.self.view_is) c.requires.target in
    held_within c.self.inside.words.items c.self.inside.holes.items c.args.to c.args.len c.if-len-gt0.true target

pub invariant_of-self : goal.invariant_of-self
invariant_of-self c =
    let source : IsHeld (cells_of c.self.inside.words.items c.self.inside.holes.items) c.args.from c.args.len = subst (λ (v : Places). IsHeld v.cells c.args.from c.args.len) (sym c.self.view_is) c.requires.source in
    let target : IsHeld (cells_of c.self.inside.words.items c.self.inside.holes.items) c.args.to c.args.len = subst (λ (v : Places). IsHeld v.cells c.args.to c.args.len) (sym c.self.view_is) c.requires.target in
    let shifted = shifts c.self.inside.words.items c.copy.new.words.items c.self.inside.holes.items c.args.from c.args.to c.args.len c.copy.ensures source target in
    record {
      laid = subst (λ n. Lies 0 c.self.inside.holes.items (n + 1)) (sym c.copy.ensures.end) c.self.invariant.laid;
      held = c.self.invariant.held ∙ sym (held_shifted (cells_of c.self.inside.words.items c.self.inside.holes.items) (cells_of c.copy.new.words.items c.self.inside.holes.items) c.args.from c.args.to c.args.len shifted source target);
      room = c.self.invariant.room;
    }

pub returns-then-len-gt0-clause-shifts : goal.returns-then-len-gt0-clause-shifts
returns-then-len-gt0-clause-shifts c =
    let source : IsHeld (cells_of c.self.inside.words.items c.self.inside.holes.items) c.args.from c.args.len = subst (λ (v : Places). IsHeld v.cells c.args.from c.args.len) (sym c.self.view_is) c.requires.source in
    let target : IsHeld (cells_of c.self.inside.words.items c.self.inside.holes.items) c.args.to c.args.len = subst (λ (v : Places). IsHeld v.cells c.args.to c.args.len) (sym c.self.view_is) c.requires.target in
    subst (λ (v : Places). Shifts v.cells (cells_of c.copy.new.words.items c.self.inside.holes.items) c.args.from c.args.to c.args.len) c.self.view_is
    (shifts c.self.inside.words.items c.copy.new.words.items c.self.inside.holes.items c.args.from c.args.to c.args.len c.copy.ensures source target)
