use Rattle.std.proofs.Common.{◌≡◌, ◌∙◌, ap, [], pos}
use Rattle.c_tree.specs.Next.{next_of}
use Rattle.c_tree.specs.ProgramOf.{program_of}
use Rattle.serial_model.specs.Go.{answers_of}
use Rattle.serial_model.specs.Run.{world_of}
use Rattle.serial_node.specs.Held.{Held}
use Rattle.serial_node.proofs.Leads.{run_laws}
use Rattle.serial_node.proofs.tests.run_of_an_empty_main_has_one_entry.Goals as goal

pub visit-requires-clause-asks : goal.visit-requires-clause-asks
visit-requires-clause-asks g c =
    ap (λ (h : Held). next_of (program_of h.setup.program) (answers_of (world_of h.setup h.entries) 0)) c.in_ok-node.ensures
    ∙ ap (next_of (program_of c.in_ok-program.program)) (run_laws.starts_without (record { program = c.in_ok-program.program }))
    ∙ c.in_ok-program.ensures
