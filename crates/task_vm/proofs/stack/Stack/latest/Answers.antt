use Rattle.std.proofs.Common.{rules, ◌≡◌, ◌-◌, ap, ◌∙◌, length, drop}
use Rattle.std.proofs.lemmas.List.{take_rest}
use Rattle.task_vm.proofs.Ends.{latest}
use Rattle.task_vm.proofs.stack.Stack.latest.Goals as goal

pub returns : goal.returns
returns c =
    let e : c.saturating_sub.result ≡ length c.self.inside.words.items - c.args.count = search rules in
    rw (← c.self.view_is)
    (take_rest c.deref.result.now c.saturating_sub.result
    ∙ ap (drop c.saturating_sub.result) c.deref.ensures.value
    ∙ latest c.self.inside.words.items c.args.count c.saturating_sub.result e)
