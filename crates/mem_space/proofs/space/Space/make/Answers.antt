use Rattle.std.proofs.Common.{◌≡◌, ◌+◌, ◌<◌, length, get_or, set, Some, subst, sym, ap, ◌∙◌, arith}
use Rattle.std.proofs.lemmas.List.{get_or_default, get_or-set_same, length-replicate}
use Rattle.mpc_values.specs.declared.values.Word.TheVariants.{Undef, Ptr}
use Rattle.mpc_values.specs.declared.values.Obj.TheVariants.{Dyn}
use Rattle.mpc_values.specs.declared.owners.Owner.TheVariants.{Task}
use Rattle.mpc_values.specs.declared.answers.Answer.TheVariants.{Gives}
use Rattle.memory_model.specs.Memory.{Memory}
use Rattle.memory_model.specs.Access.{makes}
use Rattle.object_heap.specs.Objects.{Shows}
use Rattle.object_heap.specs.Changes.{Puts}
use Rattle.mem_space.specs.Spaces.{Space, made_in, objects_in}
use Rattle.mem_space.specs.Words.{live_of}
use Rattle.mem_space.specs.Kept.{seen_of}
use Rattle.mem_space.specs.Accesses.{Answered}
use Rattle.mem_space.proofs.Counts.{all_counted_made}
use Rattle.mem_space.proofs.Makes.{new_object, makes_is}
use Rattle.mem_space.proofs.space.Space.make.Goals as goal
use Rattle.mem_space.proofs.space.Space.make.Goals.{After-add}

pub invariant_of-self-2 : goal.invariant_of-self-2
invariant_of-self-2 c =
    let cores = ap (λ (s : Space). length s.sharing.cores) c.self.view_is in
    let below : c.args.task < length c.self.inside.levels.cores = omega (arith, cores, c.requires.task) in
    let counted = c.self.invariant.counted in
    let one = counted.each c.args.task below in
    let made : c.in-Some.made ≡ get_or c.self.inside.made.items c.args.task 0 + 1 = omega (arith, c.in-Some.ensures.1, c.index.ensures ∙ get_or_default c.self.inside.made.items c.args.task c.index.result.now 0 (omega (arith, counted.all_made))) in
    let live : c.args.words ≡ live_of c.self.inside.heap c.args.task (get_or c.self.inside.made.items c.args.task 0) + c.args.len = c.requires.words ∙ ap (λ (s : Space). live_of s.heap c.args.task (made_in s c.args.task) + c.args.len) (sym c.self.view_is) in
    let quota = ap (λ (s : Space). s.quota) c.self.view_is in
    let long = length-replicate {A = _} c.args.len Undef in
    let words : c.args.words ≡ get_or c.self.inside.used.items c.args.task 0 + length (new_object c.args.kind c.args.len).words = omega (arith, one.words) in
    record {
      variables = c.self.invariant.variables;
      counted = all_counted_made c.self.inside.heap c.add.new.self c.self.inside.quota (length c.self.inside.levels.cores) c.args.task c.self.inside.made.items c.self.inside.used.items
          (set c.self.inside.made.items c.args.task c.in-Some.made) (set c.self.inside.used.items c.args.task c.args.words) below counted (new_object c.args.kind c.args.len)
          (subst (λ n. Puts c.self.inside.heap c.add.new.self (Task c.args.task) (Dyn n) (Some (new_object c.args.kind c.args.len))) made c.in_ok-add.ensures.object)
          (omega (arith, c.requires.room, words))
          (ap (λ n. set c.self.inside.made.items c.args.task n) made) (ap (λ n. set c.self.inside.used.items c.args.task n) words);
    }

pub returns-clause-comes : goal.returns-clause-comes
returns-clause-comes c =
    let cores = ap (λ (s : Space). length s.sharing.cores) c.self.view_is in
    let below : c.args.task < length c.self.inside.levels.cores = omega (arith, cores, c.requires.task) in
    let counted = c.self.invariant.counted in
    let made : c.in-Some.made ≡ get_or c.self.inside.made.items c.args.task 0 + 1 = omega (arith, c.in-Some.ensures.1, c.index.ensures ∙ get_or_default c.self.inside.made.items c.args.task c.index.result.now 0 (omega (arith, counted.all_made))) in
    let after : Space = record (seen_of c.self.inside) { heap = c.add.new.self; made = set c.self.inside.made.items c.args.task c.in-Some.made } in
    subst (λ (s : Space). (m : Memory) → Shows s.heap m → Answered after c.args.task (Gives (Ptr (Dyn c.in-Some.made) 0)) (makes c.args.task (objects_in s m c.args.task) c.args.kind c.args.len)) c.self.view_is
    (makes_is (seen_of c.self.inside) c.add.new.self c.args.task c.args.kind c.args.len c.in-Some.made (set c.self.inside.made.items c.args.task c.in-Some.made) made
    (get_or-set_same c.self.inside.made.items c.args.task c.in-Some.made 0 (omega (arith, counted.all_made))) c.in_ok-add.ensures.object)
