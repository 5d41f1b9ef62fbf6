use Rattle.std.proofs.Common.{subst, sym, refl}
use Rattle.word_region.specs.Places.{Places}
use Rattle.heap_runs.specs.Ranges.{AreHeld}
use Rattle.heap_runs.proofs.Slots.{unchanged, written, written_keep}
use Rattle.heap_runs.proofs.ranges.Ranges.write.Goals as goal

pub invariant_of-self : goal.invariant_of-self
invariant_of-self c = record {
  held = subst (λ (v : Places). AreHeld v c.args.self.now.slots.items) (sym c.write.ensures)
      (unchanged c.args.self.now.region (written c.args.self.now.region c.in-Some-place_in.place c.args.word) c.args.self.now.slots.items c.args.self.now.held
      (written_keep c.args.self.now.region.cells c.in-Some-place_in.place c.args.word) refl);
}
