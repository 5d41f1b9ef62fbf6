use Rattle.std.proofs.Common.{true, length, subst, sym}
use Rattle.mpc_values.specs.declared.answers.Answer.TheVariants.{Done}
use Rattle.memory_model.specs.Memory.{Memory}
use Rattle.memory_model.specs.Access.{store}
use Rattle.object_heap.specs.Objects.{Shows}
use Rattle.object_heap.specs.Marks.{marks_in}
use Rattle.mem_space.specs.Spaces.{Space, owner_for, objects_in}
use Rattle.mem_space.specs.Ranges.{IsRange}
use Rattle.mem_space.specs.Kept.{seen_of}
use Rattle.mem_space.specs.Accesses.{Answered}
use Rattle.mem_space.proofs.Stores.{store_is, store_sizes}
use Rattle.mem_space.proofs.Counts.{counted_same}
use Rattle.mem_space.proofs.space.Space.store.Goals as goal

pub invariant_of-self : goal.invariant_of-self
invariant_of-self c =
    let r = subst (λ (s : Space). IsRange s c.args.task c.args.at 1 true c.in_ok-span.span) (sym c.self.view_is) c.in_ok-span.ensures.ok in
    record {
      variables = c.self.invariant.variables;
      counted = counted_same c.self.inside.heap c.write.new.self (store_sizes (seen_of c.self.inside) c.write.new.self c.args.task c.args.at c.args.word c.in_ok-span.span r c.write.ensures.edits)
          c.self.inside.quota (length c.self.inside.levels.cores) c.self.inside.made.items c.self.inside.used.items c.self.invariant.counted;
    }

pub returns-clause-comes : goal.returns-clause-comes
returns-clause-comes c =
    let r = subst (λ (s : Space). IsRange s c.args.task c.args.at 1 true c.in_ok-span.span) (sym c.self.view_is) c.in_ok-span.ensures.ok in
    let after : Space = record (seen_of c.self.inside) { heap = c.write.new.self } in
    subst (λ (s : Space). (m : Memory) → Shows s.heap m → Answered after c.args.task Done (store (owner_for s.sharing c.args.task) (marks_in s.heap) (objects_in s m c.args.task) c.args.at c.args.word)) c.self.view_is
    (store_is (seen_of c.self.inside) c.write.new.self c.args.task c.args.at c.args.word c.in_ok-span.span r c.write.ensures.edits)
