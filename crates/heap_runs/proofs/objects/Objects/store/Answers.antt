use Rattle.std.proofs.Common.{subst, sym}
use Rattle.word_region.specs.Places.{Places}
use Rattle.heap_runs.specs.Objects.{Agree}
use Rattle.heap_runs.proofs.Slots.{written, written_keep}
use Rattle.heap_runs.proofs.Named.{agree_kept}
use Rattle.heap_runs.proofs.objects.Objects.store.Goals as goal

pub invariant_of-self : goal.invariant_of-self
invariant_of-self c = record {
  agree = subst (λ (v : Places). Agree c.args.self.now.table v) (sym c.write.ensures)
      (agree_kept c.args.self.now.table c.args.self.now.region (written c.args.self.now.region c.in-Some-checked_add.place c.args.word) c.args.self.now.agree
      (written_keep c.args.self.now.region.cells c.in-Some-checked_add.place c.args.word));
}
