use Rattle.std.proofs.Common.{◌∙◌, ap, slice_set}
use Rattle.task_vm.specs.Framed.{Framed}
use Rattle.task_vm.proofs.Slots.{framed-set}
use Rattle.task_vm.proofs.frames.Frames.set.Goals as goal

pub returns-then-at-len : goal.returns-then-at-len
returns-then-at-len c =
    framed-set _ _ _ _ _ ∙ ap (λ (v : Framed). record v { slots = slice_set v.slots c.args.slot c.args.word }) c.self.view_is
