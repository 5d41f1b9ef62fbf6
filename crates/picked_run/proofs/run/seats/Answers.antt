use Rattle.std.proofs.Common.{◌∷◌, ◌+◌, [], length, All, sym, ap, subst, ◌∙◌}
use Rattle.std.proofs.lemmas.List.{length-append}
use Rattle.std.proofs.lemmas.List.Elements.{All-append, All-cons, All-nil}
use Rattle.c_code.specs.FlatCode.{FlatCode}
use Rattle.task_rounds.specs.Rounds.{IsNew}
use Rattle.picked_run.proofs.run.seats.Goals as goal

pub loop-task-preserved : goal.loop-task-preserved
loop-task-preserved c =
    let at = c.loop-task in
    let seat = c.in_ok-new.field-0 in
    let new : IsNew c.args.code.now.value seat = subst (λ (f : FlatCode). IsNew f seat) c.in_ok-own.ensures.cases c.in_ok-new.ensures in
    record {
      count = ap length c.in_ok-push.ensures.items ∙ length-append at.all.items (seat ∷ []) ∙ ap (λ n. n + 1) at.invariant.count;
      fresh = subst (All (IsNew c.args.code.now.value)) (sym c.in_ok-push.ensures.items)
          (All-append (IsNew c.args.code.now.value) at.all.items (seat ∷ []) at.invariant.fresh (All-cons (IsNew c.args.code.now.value) seat [] new (All-nil (IsNew c.args.code.now.value))));
    }
