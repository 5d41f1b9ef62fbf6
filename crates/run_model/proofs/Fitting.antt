-- Answers that are of their kind.
use Rattle.std.specs.Prelude.{ℕ, Bool, true, false, T, if◌then◌else◌, Option, Some, None}
use Rattle.mpc_values.specs.declared.values.Word.{Word}
use Rattle.mpc_values.specs.declared.answers.Answer.{Answer}
use Rattle.mpc_values.specs.declared.faults.Fault.{Fault}
use Rattle.c_tree.specs.Asking.{AnswerKind, is_of}
use Rattle.run_model.specs.World.{Core}
use Rattle.mpi_comm.specs.Communicators.{Group, group_of}
use Rattle.run_model.specs.Outcomes.{Outcome, Does, Fails, Waits, Partly, Gave, Broke, on_part, inside_mpi, in_group, in_found}

-- where the call is answered, the answer is of the kind
unfoldable pub Fits : AnswerKind → Outcome → Type 0
Fits kind (Does answer core) = T (is_of kind answer)
Fits kind (Fails fault) = Unit {0}
Fits kind Waits = Unit {0}

pub fails_fits : (kind : AnswerKind) (fault : Fault) → Fits kind (Fails fault)
unfolding Fits
fails_fits kind fault = tt

pub does_fits : (kind : AnswerKind) (answer : Answer) (core : Core) → T (is_of kind answer) → Fits kind (Does answer core)
unfolding Fits
does_fits kind answer core h = h

pub fits_if : (kind : AnswerKind) (b : Bool) (x y : Outcome) → Fits kind x → Fits kind y → Fits kind (if b then x else y)
fits_if kind true x y h g = h
fits_if kind false x y h g = g

pub fits_inside : (kind : AnswerKind) (core : Core) (task : ℕ) (o : Outcome) → Fits kind o → Fits kind (inside_mpi core task o)
fits_inside kind core task o h = search (fits_if, fails_fits, h)

pub fits_found : (kind : AnswerKind) (g : Option Group) (o : Group → Outcome) → ((group : Group) → Fits kind (o group)) → Fits kind (in_found g o)
unfolding Fits
fits_found kind None o h = tt
fits_found kind (Some group) o h = h group

pub fits_group : (kind : AnswerKind) (core : Core) (task : ℕ) (word : Word) (o : Group → Outcome) → ((group : Group) → Fits kind (o group)) → Fits kind (in_group core task word o)
fits_group kind core task word o h = fits_inside kind core task _ (fits_found kind (group_of core.comms task word) o h)

-- the answer of a call that changes one part at most
unfoldable pub FitsPart : {A : Type 0} → AnswerKind → Partly A → Type 0
FitsPart kind (Gave answer part) = T (is_of kind answer)
FitsPart kind (Broke fault) = Unit {0}

pub fits_part : {A : Type 0} (kind : AnswerKind) (core_with : A → Core) (p : Partly A) → FitsPart kind p → Fits kind (on_part core_with p)
unfolding Fits FitsPart
fits_part kind core_with (Gave answer part) h = h
fits_part kind core_with (Broke fault) h = tt
