use Rattle.std.proofs.Common.{rules, ◌≡◌, sym, ◌∙◌, length}
use Rattle.std.proofs.lemmas.List.{length-reverse}
use Rattle.task_vm.proofs.Slots.{length-frames_in}
use Rattle.task_vm.proofs.frames.Frames.depth.Goals as goal

pub returns : goal.returns
returns c =
    let l : c.len.result ≡ length c.self.inside.callers.items = search rules in
    rw (← c.self.view_is, length-frames_in) (l ∙ sym (length-reverse c.self.inside.callers.items))
