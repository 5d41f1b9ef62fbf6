use Rattle.std.proofs.Common.{◌≡◌, List, [], ◌∷◌, sym, ap, ◌∙◌, subst}
use Rattle.c_code.specs.declared.instr.Instr.{Instr}
use Rattle.c_code.specs.declared.code.Entry.{Entry}
use Rattle.c_code.specs.FlatCode.{FlatCode, flat}
use Rattle.c_code.specs.Following.{NeverSticks}
use Rattle.task_vm.specs.Sample.{sample_instrs, sample_entry, sample_code}
use Rattle.task_vm.proofs.Sample.{sample_lives}
use Rattle.task_vm.proofs.tests.sample.Goals as goal

pub of-requires : goal.of-requires
of-requires c =
    let i : c.in_ok-instrs.instrs.items ≡ sample_instrs = c.in_ok-instrs.ensures.items in
    let e : c.in_ok-entries.entries.items ≡ sample_entry ∷ [] = c.in_ok-entries.ensures.items in
    let is : sample_code ≡ flat c.in_ok-instrs.instrs.items c.in_ok-entries.entries.items 0 0 =
    ap (λ (l : List Instr). flat l (sample_entry ∷ []) 0 0) (sym i) ∙ ap (λ (l : List Entry). flat c.in_ok-instrs.instrs.items l 0 0) (sym e) in
    subst (λ (code : FlatCode). NeverSticks code) is sample_lives
