use Rattle.std.proofs.Common.{◌∙◌, refl, ap, length, ◌||◌}
use Rattle.mpc_values.specs.declared.values.Obj.TheVariants.{Dyn}
use Rattle.mpc_values.specs.declared.owners.Owner.TheVariants.{Task}
use Rattle.memory_model.specs.Marks.{barred_to_stores}
use Rattle.memory_model.specs.Access.{drop_in}
use Rattle.memory_model.proofs.Accesses.{some_place}
use Rattle.memory_model.proofs.laws.pending_places_are_barred.Goals as goal

pub returns-clause-dropped : goal.returns-clause-dropped
returns-clause-dropped c = λ marks task o made at object lives inside is.
    ap (drop_in marks task o (Dyn made)) lives
    ∙ rw (some_place (barred_to_stores marks) (Task task) (Dyn made) (length object.words) at inside (ap (λ b. b || marks.received (Task task) (Dyn made) at) is)) refl
