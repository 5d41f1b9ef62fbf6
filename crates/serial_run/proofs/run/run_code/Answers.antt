use Rattle.std.proofs.Common.{◌≡◌, sym, subst, ◌∙◌}
use Rattle.c_tree.specs.ProgramOf.{program_of}
use Rattle.c_code.specs.FlatCode.{FlatCode}
use Rattle.c_compile.specs.Correct.{Behaves}
use Rattle.serial_run.proofs.Turning.{begun}
use Rattle.serial_run.proofs.run.run_code.Goals as goal

pub run_to_end-requires-clause-together : goal.run_to_end-requires-clause-together
run_to_end-requires-clause-together c =
    let code : c.in_ok-task.task.code ≡ c.args.code = c.in_ok-task.ensures.code ∙ c.in_ok-new.ensures.ok in
    begun c.in_ok-task.task c.in_ok-node.node c.args.setup c.in_ok-node.ensures c.requires.plain (subst (λ (f : FlatCode). Behaves f (program_of c.args.setup.program)) (sym code) c.requires.behaves) c.in_ok-task.ensures.begun c.in_ok-task.ensures.still.2
