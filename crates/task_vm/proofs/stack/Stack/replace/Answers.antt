use Rattle.std.proofs.Common.{rules, ◌≡◌, ◌+◌, ◌-◌, ◌≤◌, length, reverse, arith}
use Rattle.std.proofs.lemmas.List.{length-reverse}
use Rattle.task_vm.proofs.Ends.{replaced}
use Rattle.task_vm.proofs.stack.Stack.replace.Goals as goal

pub returns : goal.returns
returns c =
    let n : 1 ≤ length (reverse c.self.inside.words.items) = rw c.self.view_is c.requires in
    let l : c.len-top.result ≡ length c.self.inside.words.items = search rules in
    let e : c.len-top.result - 1 + 1 ≡ length c.self.inside.words.items = omega (arith, l, n, length-reverse c.self.inside.words.items) in
    rw (← c.self.view_is) (replaced c.self.inside.words.items (c.len-top.result - 1) c.args.word e)
