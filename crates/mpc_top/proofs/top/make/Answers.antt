use Rattle.c_tree.specs.ProgramOf.{program_of}
use Rattle.mpc_top.specs.Sources.{Accepted}
use Rattle.mpc_top.proofs.top.make.Goals as goal

pub serial_text-requires-clause-main : goal.serial_text-requires-clause-main
serial_text-requires-clause-main c =
    let accepted : Accepted c.args.src.now (program_of c.in-Ok.program) = rw c.in-Ok.is at c.in_ok-program.ensures.program in
    c.typed_programs_have_a_main.ensures accepted.tree (program_of c.in-Ok.program) accepted.typed
