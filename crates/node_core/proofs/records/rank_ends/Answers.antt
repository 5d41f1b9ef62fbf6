use Rattle.std.proofs.Common.{◌≡◌, ◌∷◌, [], ◌++◌, ◌+◌, List, length, refl, sym, ap, ◌∙◌, append_assoc, arith}
use Rattle.std.proofs.lemmas.List.{length-append}
use Rattle.std.specs.Vec.Iter.{into_iter_items}
use Rattle.node_core.specs.HandedBack.{end_of, ends_from}
use Rattle.node_core.proofs.HandingBack.{ends_more}
use Rattle.node_core.proofs.records.rank_ends.Goals as goal

nothing_left : {X : Type 0} (l : List X) → length l ≡ 0 → l ≡ []
nothing_left [] h = refl
nothing_left (x ∷ xs) h = absurd (omega arith)

pub loop-part-preserved : goal.loop-part-preserved
loop-part-preserved c =
    let at = c.loop-part in
    let x = c.in-Some.part in
    let steps : into_iter_items at.part-iterator ≡ x ∷ into_iter_items c.next.new.self = c.in-Some.ensures.steps.0 in
    let longer : length (at.yielded ++ x ∷ []) ≡ length at.yielded + 1 = length-append at.yielded (x ∷ []) in
    record {
      all = append_assoc at.yielded (x ∷ []) _ ∙ rw (← steps) at.invariant.all;
      left = let was = at.invariant.left in let gone = c.in-Some.ensures.steps.1 in let short = ap length steps in omega arith;
      made =
          c.in_ok-push.ensures.items ∙ ap (λ xs. xs ++ c.rank_end.result ∷ []) at.invariant.made
          ∙ ap (λ r. ends_from 0 c.args.end at.yielded ++ r ∷ []) (c.rank_end.ensures ∙ ap (λ n. end_of n c.args.end x) (at.invariant.task ∙ (let none : length at.yielded ≡ 0 + length at.yielded = omega arith in none)))
          ∙ sym (ends_more 0 c.args.end at.yielded x);
      task = ap (λ n. n + 1) at.invariant.task ∙ sym longer;
      few = at.invariant.few;
    }
