use Rattle.std.proofs.Common.{rules, ◌≡◌, ◌-◌, length}
use Rattle.task_vm.proofs.Ends.{below}
use Rattle.task_vm.proofs.stack.Stack.drop_top.Goals as goal

pub returns : goal.returns
returns c =
    let e : c.saturating_sub.result ≡ length c.self.inside.words.items - c.args.count = search rules in
    rw (c.truncate.ensures.items, ← c.self.view_is) (below c.self.inside.words.items c.args.count c.saturating_sub.result e)
