use Rattle.std.proofs.Common.{◌≡◌, ◌-◌, ◌<◌, length, get_or, set, refl, subst, sym, ap, ◌∙◌, arith}
use Rattle.std.proofs.lemmas.List.{get_or_default}
use Rattle.mpc_values.specs.declared.values.Obj.TheVariants.{Dyn}
use Rattle.mpc_values.specs.declared.owners.Owner.TheVariants.{Task}
use Rattle.mpc_values.specs.declared.answers.Answer.TheVariants.{Done}
use Rattle.memory_model.specs.Memory.{Memory}
use Rattle.memory_model.specs.Access.{drop}
use Rattle.object_heap.specs.Objects.{Shows}
use Rattle.object_heap.specs.Marks.{marks_in}
use Rattle.mem_space.specs.Spaces.{Space, objects_in}
use Rattle.mem_space.specs.Kept.{seen_of}
use Rattle.mem_space.specs.Accesses.{Answered}
use Rattle.mem_space.proofs.Heaps.{found}
use Rattle.mem_space.proofs.Counts.{counted_words, all_counted_ended}
use Rattle.mem_space.proofs.Makes.{ends_is}
use Rattle.mem_space.proofs.space.Space.end.Goals as goal

pub overflow_sub-index_mut : goal.overflow_sub-index_mut
overflow_sub-index_mut c =
    let f = found c.self.inside.heap (Task c.args.task) (Dyn c.args.made) c.row-len.result (c.row-len.ensures.object (Task c.args.task) (Dyn c.args.made) c.in-Some.ensures.found) in
    let cores = ap (λ (s : Space). length s.sharing.cores) c.self.view_is in
    let below : c.args.task < length c.self.inside.levels.cores = omega (arith, cores, c.requires) in
    let counted = c.self.invariant.counted in
    let used : c.index_mut.result.now ≡ get_or c.self.inside.used.items c.args.task 0 = c.index_mut.ensures.value ∙ get_or_default c.self.inside.used.items c.args.task c.index_mut.result.now 0 (omega (arith, counted.all_used)) in
    let words = counted_words c.self.inside.heap c.self.inside.quota c.args.task c.args.made (get_or c.self.inside.made.items c.args.task 0) (get_or c.self.inside.used.items c.args.task 0) f.object f.is (counted.each c.args.task below) in
    omega (arith, f.len)

pub invariant_of-self : goal.invariant_of-self
invariant_of-self c =
    let f = found c.self.inside.heap (Task c.args.task) (Dyn c.args.made) c.row-len.result (c.row-len.ensures.object (Task c.args.task) (Dyn c.args.made) c.in-Some.ensures.found) in
    let cores = ap (λ (s : Space). length s.sharing.cores) c.self.view_is in
    let below : c.args.task < length c.self.inside.levels.cores = omega (arith, cores, c.requires) in
    let counted = c.self.invariant.counted in
    let used : c.index_mut.result.now ≡ get_or c.self.inside.used.items c.args.task 0 = c.index_mut.ensures.value ∙ get_or_default c.self.inside.used.items c.args.task c.index_mut.result.now 0 (omega (arith, counted.all_used)) in
    record {
      variables = c.self.invariant.variables;
      counted = all_counted_ended c.self.inside.heap c.close.new.self c.self.inside.quota (length c.self.inside.levels.cores) c.args.task c.self.inside.made.items c.self.inside.used.items c.self.inside.made.items
          (set c.self.inside.used.items c.args.task (c.index_mut.result.now - c.row-len.result.len)) below counted c.args.made f.object f.is
          (c.close.ensures.object (Task c.args.task) (Dyn c.args.made) c.in-Some.ensures.found) refl
          (ap (λ n. set c.self.inside.used.items c.args.task (n - c.row-len.result.len)) used ∙ ap (λ n. set c.self.inside.used.items c.args.task (get_or c.self.inside.used.items c.args.task 0 - n)) (sym f.len));
    }

pub returns-clause-comes : goal.returns-clause-comes
returns-clause-comes c =
    let f = found c.self.inside.heap (Task c.args.task) (Dyn c.args.made) c.row-len.result (c.row-len.ensures.object (Task c.args.task) (Dyn c.args.made) c.in-Some.ensures.found) in
    let after : Space = record (seen_of c.self.inside) { heap = c.close.new.self } in
    subst (λ (s : Space). (m : Memory) → Shows s.heap m → Answered after c.args.task Done (drop (marks_in s.heap) c.args.task (objects_in s m c.args.task) (Dyn c.args.made))) c.self.view_is
    (ends_is (seen_of c.self.inside) c.close.new.self c.args.task c.args.made f.object f.is
    (sym c.if-not-clear.false ∙ c.clear.ensures.places (Task c.args.task) (Dyn c.args.made) f.object c.in-Some.ensures.found f.is)
    (c.close.ensures.object (Task c.args.task) (Dyn c.args.made) c.in-Some.ensures.found))
