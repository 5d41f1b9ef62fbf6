use Rattle.std.proofs.Common.{ap, ◌∙◌, map}
use Rattle.std.specs.Prelude.{slice_get}
use Rattle.c_tree.specs.ProgramOf.{function_of, program_of}
use Rattle.c_compile.specs.Compiled.{functions_code, entries_from, params_of}
use Rattle.c_compile.proofs.Parameters.{flat_is, flat_never_sticks, flat_behaves}
use Rattle.c_compile.proofs.compiling.compile.Goals as goal

pub of-code-requires : goal.of-code-requires
of-code-requires c =
    let same = c.as_slice-functions.ensures.value in
    flat_never_sticks (program_of c.args.program.now) _ _ _ (c.into_instrs.ensures ∙ c.in_ok-lengths.ensures.code ∙ ap (λ l. functions_code (map function_of l)) same)
    (c.in_ok-entries.ensures ∙ ap (λ l. entries_from 0 (map function_of l)) same) (c.in_ok-arguments.ensures ∙ ap (λ l. params_of (slice_get (map function_of l) c.args.program.now.main)) same) c.requires.main

pub returns-clause-behaves : goal.returns-clause-behaves
returns-clause-behaves c =
    let same = c.as_slice-functions.ensures.value in
    flat_behaves (program_of c.args.program.now) _
    (c.of-code.ensures
    ∙ flat_is (program_of c.args.program.now) _ _ _ (c.into_instrs.ensures ∙ c.in_ok-lengths.ensures.code ∙ ap (λ l. functions_code (map function_of l)) same) (c.in_ok-entries.ensures ∙ ap (λ l. entries_from 0 (map function_of l)) same)
    (c.in_ok-arguments.ensures ∙ ap (λ l. params_of (slice_get (map function_of l) c.args.program.now.main)) same))
