-- What the pass over a whole tree answers, as the laws of typing say it.
use Rattle.std.proofs.Common.{◌≡◌, sym, Result, Ok, Err, IfOk}
use Rattle.std.specs.Prelude.{IfErr}
use Rattle.mpc_values.specs.declared.failures.Memory.{Memory}
use Rattle.c_tree.specs.declared.program.Program.{Program}
use Rattle.c_tree.specs.ProgramOf.{program_of}
use Rattle.c_tree.specs.Syntax.{Tree}
use Rattle.c_types.specs.declared.refusals.TypeRefusal.{TypeRefusal}
use Rattle.c_types.specs.Nodes.{first_of}
use Rattle.c_types.specs.Outcomes.{fault}
use Rattle.c_types.specs.Typing.{Typed, Refused}
use Rattle.c_types.specs.Units.{tree_outline, program_made}
use Rattle.c_types.proofs.Laws.{typed_of, refused_of}

pub checked_program : (tree : Tree) (r : Result (Result Program TypeRefusal) Memory) → IfOk r (λ v. fault v ≡ first_of (tree_outline tree))
    → IfOk r (λ v. IfOk v (λ made. program_of made ≡ program_made tree)) → IfOk r (λ v. IfOk v (λ made. Typed tree (program_of made)))
checked_program tree (Err memory) h g = tt
checked_program tree (Ok (Err refusal)) h g = tt
checked_program tree (Ok (Ok made)) h g = typed_of tree (program_of made) (sym h) g

pub checked_refusal : (tree : Tree) (r : Result (Result Program TypeRefusal) Memory) → IfOk r (λ v. fault v ≡ first_of (tree_outline tree))
    → IfOk r (λ v. IfErr v (λ refusal. Refused tree refusal))
checked_refusal tree (Err memory) h = tt
checked_refusal tree (Ok (Err refusal)) h = refused_of tree refusal (sym h)
checked_refusal tree (Ok (Ok made)) h = tt
