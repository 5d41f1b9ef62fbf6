-- The machine takes the script of an MPI function as its meaning does.
use Rattle.std.proofs.Common.{◌≡◌, ℕ, zero, suc, ◌+◌, Bool, true, false, List, [], ◌∷◌, length, Some, ℤ, pos, negsuc, refl, ap, ◌∙◌, subst}
use Rattle.std.specs.Prelude.{slice_get, if◌then◌else◌}
use Rattle.mpc_values.specs.declared.values.Word.{Word}
use Rattle.mpc_values.specs.declared.values.Word.TheVariants.{Int}
use Rattle.mpc_values.specs.declared.faults.Fault.TheVariants.{BadCount}
use Rattle.mpc_values.specs.declared.answers.Answer.{Answer}
use Rattle.c_tree.specs.declared.program.MpiCall.{MpiCall}
use Rattle.c_tree.specs.declared.scripts.ScriptStep.{ScriptStep}
use Rattle.c_tree.specs.MpiScripts.{steps_of, each_of, last_of}
use Rattle.c_tree.specs.Asking.{Next, State}
use Rattle.c_tree.specs.Scripts.{Found, nothing_found, Wanted, Wants, Skips, Breaks, wanted, found_behind, number_at, ends_run, over, take_step, take_steps, take_each, take_requests, asks_of}
use Rattle.c_code.specs.declared.instr.Instr.TheVariants as i
use Rattle.c_code.specs.FlatCode.{FlatCode}
use Rattle.c_code.specs.Machine.{Frame, Mach, Scripting, Phase, First, Requests, Last, Moves, step, step_of, resume, script_wants, behind_first, arguments_on}
use Rattle.c_code.specs.Demands.{exec, behind, Reaches}
use Rattle.c_compile.proofs.Steps.{at, To, goes, goes_on, asks_on, fails_on}
use Rattle.c_compile.proofs.Arguments.{pushed, taken, dropped}

module _ (code : FlatCode) (frames : List Frame) (ln pc : ℕ) (stack : List Word) (mpi : MpiCall) (arguments : List Word) (line : ℕ) where
  scripting : Phase → List ScriptStep → ℕ → Found → Scripting
  scripting phase steps index found = record { mpi = mpi; arguments = arguments; line = line; phase = phase; steps = steps; index = index; found = found }

  -- the machine within the script
  abbrev within : State → Phase → List ScriptStep → ℕ → Found → Mach
  within s phase steps index found = record (at pc stack frames ln s.slots s.turns) { script = Some (record { mpi = mpi; arguments = arguments; line = line; phase = phase; steps = steps; index = index; found = found }) }

  abbrev Reads : State → Phase → List ScriptStep → ℕ → Found → List Answer → Next → Type 0
  Reads s phase steps index found answers o = Reaches code (within s phase steps index found) answers o

  -- behind an answer the run ends, or the rest of the script is taken
  answered : (s : State) (phase : Phase) (t : ScriptStep) (rest : List ScriptStep) (index : ℕ) (found : Found) (k : Found → State → Next)
      → ((found' : Found) (more : List Answer) → Reads s phase rest index found' more (k found' (record s { answers = more })))
      → (a : Answer) (more : List Answer) (ends : Bool)
      → (n : ℕ) × (behind (exec code n) ends (resume code (within s phase (t ∷ rest) index found) a (within s phase (t ∷ rest) index found).script) more ≡ Some (if ends then over more else k (found_behind t found a) (record s { answers = more })))
  answered s phase t rest index found k r a more true = (zero, refl)
  answered s phase t rest index found k r a more false = let here = r (found_behind t found a) more in (here.steps, here.ends)

  step_ok : (s : State) (phase : Phase) (t : ScriptStep) (rest : List ScriptStep) (index : ℕ) (found : Found) (k : Found → State → Next)
      → ((found' : Found) (more : List Answer) → Reads s phase rest index found' more (k found' (record s { answers = more })))
      → (w : Wanted) → wanted mpi arguments index found t ≡ w → Reads s phase (t ∷ rest) index found s.answers (take_step t line found w k s)
  step_ok s phase t rest index found k r (Wants c) e =
      let m = within s phase (t ∷ rest) index found in
      asks_on code m c line s (λ a s'. if ends_run c then over s'.answers else k (found_behind t found a) s')
      (ap (script_wants m (record { mpi = mpi; arguments = arguments; line = line; phase = phase; steps = t ∷ rest; index = index; found = found }) rest) e)
      (λ a more. answered s phase t rest index found k r a more (ends_run c))
  step_ok s phase t rest index found k r Skips e =
      let m = within s phase (t ∷ rest) index found in
      goes_on code m (within s phase rest index found) s.answers _
      (ap (script_wants m (record { mpi = mpi; arguments = arguments; line = line; phase = phase; steps = t ∷ rest; index = index; found = found }) rest) e)
      (r found s.answers)
  step_ok s phase t rest index found k r (Breaks f) e =
      let m = within s phase (t ∷ rest) index found in
      fails_on code m f line s k
      (ap (script_wants m (record { mpi = mpi; arguments = arguments; line = line; phase = phase; steps = t ∷ rest; index = index; found = found }) rest) e)

  steps_ok : (s : State) (phase : Phase) (steps : List ScriptStep) (index : ℕ) (found : Found) (k : Found → State → Next)
      → ((found' : Found) (more : List Answer) → Reads s phase [] index found' more (k found' (record s { answers = more })))
      → Reads s phase steps index found s.answers (take_steps mpi arguments line index steps found k s)
  steps_ok s phase [] index found k r = r found s.answers
  steps_ok s phase (t ∷ rest) index found k r =
      step_ok s phase t rest index found (λ found' s'. take_steps mpi arguments line index rest found' k s')
      (λ found' more. steps_ok (record s { answers = more }) phase rest index found' k r) (wanted mpi arguments index found t) refl

  -- the steps for each request, and behind them the last part
  each_ok : (more index : ℕ) (s : State) (found : Found) (k : Found → State → Next)
      → ((found' : Found) (answers : List Answer) → Reads s Last (last_of mpi.function) 0 found' answers (k found' (record s { answers = answers })))
      → Reads s (Requests more) (each_of mpi.function) index found s.answers (take_each mpi arguments line (each_of mpi.function) index (suc more) found k s)
  each_ok zero index s found k r =
      steps_ok s (Requests zero) (each_of mpi.function) index found k
      (λ found' answers. goes_on code (within s (Requests zero) [] index found') (within s Last (last_of mpi.function) 0 found') answers _ refl (r found' answers))
  each_ok (suc more) index s found k r =
      steps_ok s (Requests (suc more)) (each_of mpi.function) index found (λ found' s'. take_each mpi arguments line (each_of mpi.function) (index + 1) (suc more) found' k s')
      (λ found' answers. goes_on code (within s (Requests (suc more)) [] index found') (within s (Requests more) (each_of mpi.function) (index + 1) found') answers _ refl
      (each_ok more (index + 1) (record s { answers = answers }) found' k r))

  requests_ok : (s : State) (found : Found) (k : Found → State → Next)
      → ((found' : Found) (answers : List Answer) → Reads s Last (last_of mpi.function) 0 found' answers (k found' (record s { answers = answers })))
      → (each : List ScriptStep) (count : ℤ) → each_of mpi.function ≡ each → number_at arguments 0 ≡ count
      → Reads s First [] 0 found s.answers (take_requests mpi arguments line each count found k s)
  requests_ok s found k r each count ee ec = by_count each count ee ec
    where
      sc : Scripting
      sc = record { mpi = mpi; arguments = arguments; line = line; phase = First; steps = []; index = 0; found = found }

      m : Mach
      m = within s First [] 0 found

      opens : (each : List ScriptStep) (count : ℤ) → each_of mpi.function ≡ each → number_at arguments 0 ≡ count → step code m m.script ≡ behind_first m sc each count
      opens each count ee ec = ap (λ l. behind_first m sc l (number_at arguments 0)) ee ∙ ap (behind_first m sc each) ec

      by_count : (each : List ScriptStep) (count : ℤ) → each_of mpi.function ≡ each → number_at arguments 0 ≡ count → Reads s First [] 0 found s.answers (take_requests mpi arguments line each count found k s)
      by_count [] count ee ec = goes_on code m (within s Last (last_of mpi.function) 0 found) s.answers _ (opens [] count ee ec) (r found s.answers)
      by_count (t ∷ rest) (pos zero) ee ec = goes_on code m (within s Last (last_of mpi.function) 0 found) s.answers _ (opens (t ∷ rest) (pos zero) ee ec) (r found s.answers)
      by_count (t ∷ rest) (pos (suc more)) ee ec =
          goes_on code m (within s (Requests more) (t ∷ rest) 0 found) s.answers _ (opens (t ∷ rest) (pos (suc more)) ee ec)
          (subst (λ l. Reads s (Requests more) l 0 found s.answers (take_each mpi arguments line l 0 (suc more) found k s)) ee (each_ok more 0 s found k r))
      by_count (t ∷ rest) (negsuc count) ee ec = fails_on code m BadCount line s k (opens (t ∷ rest) (negsuc count) ee ec)

  -- what the function asks, and then the next instruction with 0 on the stack
  script_ok : (s : State) (k : Found → State → Next)
      → ((found' : Found) (answers : List Answer) → Reaches code (at (pc + 1) (Int (pos 0) ∷ stack) frames ln s.slots s.turns) answers (k found' (record s { answers = answers })))
      → Reads s First (steps_of mpi.function) 0 nothing_found s.answers (asks_of mpi arguments line k s)
  script_ok s k r =
      steps_ok s First (steps_of mpi.function) 0 nothing_found _ (λ found answers.
      requests_ok (record s { answers = answers }) found (λ found' s'. take_steps mpi arguments line 0 (last_of mpi.function) found' k s') (λ found' answers'.
      steps_ok (record s { answers = answers' }) Last (last_of mpi.function) 0 found' k (λ found'' answers''.
      goes_on code (within s Last [] 0 found'') (at (pc + 1) (Int (pos 0) ∷ stack) frames ln s.slots s.turns) answers'' _ refl (r found'' answers'')))
      (each_of mpi.function) (number_at arguments 0) refl refl)

-- An MPI function's instruction asks what the function asks of the words that were put on the stack.
pub mpi_ok : (code : FlatCode) (frames : List Frame) (ln pc : ℕ) (mpi : MpiCall) (count line : ℕ) (args stack : List Word) (s : State) (k : Word → State → Next) → slice_get code.instrs pc ≡ Some (i.Mpi mpi count line) → length args ≡ count
    → ((answers : List Answer) → Reaches code (at (pc + 1) (Int (pos 0) ∷ stack) frames ln s.slots s.turns) answers (k (Int (pos 0)) (record s { answers = answers })))
    → To code pc (pushed args stack) frames ln s (asks_of mpi args line (λ found s'. k (Int (pos 0)) s') s)
unfolding step_of
mpi_ok code frames ln pc mpi count line args stack s k h n r =
    let begin : List Word → List Word → Mach = λ rest given. record (at pc rest frames ln s.slots s.turns) { script = Some (record { mpi = mpi; arguments = given; line = line; phase = First; steps = steps_of mpi.function; index = 0; found = nothing_found }) } in
    goes code (at pc (pushed args stack) frames ln s.slots s.turns) (begin stack args) (i.Mpi mpi count line) s.answers _ refl h
    (ap (λ rest. Moves (begin rest (arguments_on count (pushed args stack)))) (dropped count args stack n) ∙ ap (λ given. Moves (begin stack given)) (taken count args stack n))
    (script_ok code frames ln pc stack mpi args line s (λ found s'. k (Int (pos 0)) s') (λ found answers. r answers))
