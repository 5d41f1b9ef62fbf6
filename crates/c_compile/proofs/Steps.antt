-- One step of the machine, and instructions that stand at a place.
use Rattle.std.proofs.Common.{◌≡◌, ℕ, zero, suc, ◌+◌, Bool, true, false, cond, List, [], ◌∷◌, ◌++◌, length, Option, Some, None, refl, ap, ◌∙◌, subst, arith}
use Rattle.std.specs.Prelude.{slice_get}
use Rattle.mpc_values.specs.declared.values.Word.{Word}
use Rattle.mpc_values.specs.declared.calls.Call.{Call}
use Rattle.mpc_values.specs.declared.calls.Call.TheVariants as call
use Rattle.mpc_values.specs.declared.faults.Fault.{Fault}
use Rattle.mpc_values.specs.declared.answers.Answer.{Answer}
use Rattle.c_tree.specs.Asking.{Next, Misfit, State, fits, asked, ask, fault}
use Rattle.c_tree.specs.Scripts.{ends_run}
use Rattle.c_code.specs.declared.instr.Instr.{Instr}
use Rattle.c_code.specs.FlatCode.{FlatCode}
use Rattle.c_code.specs.Machine.{Frame, Mach, Moves, Asks, Behind, Goes, step, step_of, resume, resume_of, fetched, fetched_resume, breaks}
use Rattle.c_code.specs.Demands.{demanded, behind, stepped, exec, Reaches}

-- the machine at a place of the code, with no script begun
abbrev pub at : ℕ → List Word → List Frame → ℕ → List Word → ℕ → Mach
at pc stack frames line slots turns = record { pc = pc; stack = stack; frames = frames; line = line; slots = slots; turns = turns; script = None }

module _ (code : FlatCode) where
  -- the instructions stand in the code at this place
  abbrev pub HasAt : ℕ → List Instr → Type 0
  HasAt pc [] = Unit {0}
  HasAt pc (i ∷ is) = (slice_get code.instrs pc ≡ Some i) × HasAt (pc + 1) is

  pub has_front : (pc : ℕ) (a b : List Instr) → HasAt pc (a ++ b) → HasAt pc a
  has_front pc [] b h = tt
  has_front pc (i ∷ a) b h = (h.0, has_front (pc + 1) a b h.1)

  pub has_back : (pc : ℕ) (a b : List Instr) → HasAt pc (a ++ b) → HasAt (pc + length a) b
  has_back pc [] b h = let e : pc ≡ pc + 0 = omega arith in subst (λ n. HasAt n b) e h
  has_back pc (i ∷ a) b h =
      let e : pc + 1 + length a ≡ pc + length (i ∷ a) = omega arith in
      subst (λ n. HasAt n b) e (has_back (pc + 1) a b h.1)

  -- From a place, with a function's stack, open calls, line and state, the code demands this.
  abbrev pub To : ℕ → List Word → List Frame → ℕ → State → Next → Type 0
  To pc stack frames line s o = Reaches code (at pc stack frames line s.slots s.turns) s.answers o

  pub moved_to : (p q : ℕ) (stack : List Word) (frames : List Frame) (line : ℕ) (s : State) (o : Next) → p ≡ q → To p stack frames line s o → To q stack frames line s o
  moved_to p q stack frames line s o e r = subst (λ n. To n stack frames line s o) e r

  -- a step that leads to another state
  pub goes_on : (m m' : Mach) (answers : List Answer) (o : Next) → step code m m.script ≡ Moves m' → Reaches code m' answers o → Reaches code m answers o
  goes_on m m' answers o h r = record { steps = suc r.steps; ends = ap (λ x. stepped code (exec code r.steps) m x answers) h ∙ r.ends }

  -- an instruction that leads to another state
  pub goes : (m m' : Mach) (i : Instr) (answers : List Answer) (o : Next) → m.script ≡ None → slice_get code.instrs m.pc ≡ Some i → step_of code i m ≡ Moves m' → Reaches code m' answers o → Reaches code m answers o
  goes m m' i answers o none h st r = goes_on m m' answers o (ap (step code m) none ∙ ap (fetched code m) h ∙ st) r

  -- an answer to a call, where it fits
  fit_ok : (k : Answer → List Answer → Next) (b : Answer → Behind) (ends : Bool) (a : Answer) (more : List Answer) → (n : ℕ) → behind (exec code n) ends (b a) more ≡ Some (k a more) → (fit : Bool)
      → cond fit (behind (exec code n) ends (b a) more) (Some Misfit) ≡ Some (cond fit (k a more) Misfit)
  fit_ok k b ends a more n e true = e
  fit_ok k b ends a more n e false = refl

  asked_ok : (c : Call) (line : ℕ) (k : Answer → List Answer → Next) (b : Answer → Behind) → ((a : Answer) (more : List Answer) → (n : ℕ) × (behind (exec code n) (ends_run c) (b a) more ≡ Some (k a more)))
      → (answers : List Answer) → (n : ℕ) × (demanded c line (λ a more. behind (exec code n) (ends_run c) (b a) more) answers ≡ Some (asked c line k answers))
  asked_ok c line k b h [] = (zero, refl)
  asked_ok c line k b h (a ∷ more) = let r = h a more in (r.0, fit_ok k b (ends_run c) a more r.0 r.1 (fits c a))

  -- a step that asks: what comes behind each answer decides
  pub asks_on : (m : Mach) (c : Call) (line : ℕ) (s : State) (k : Answer → State → Next) → step code m m.script ≡ Asks c line
      → ((a : Answer) (more : List Answer) → (n : ℕ) × (behind (exec code n) (ends_run c) (resume code m a m.script) more ≡ Some (k a (record s { answers = more }))))
      → Reaches code m s.answers (ask c line k s)
  asks_on m c line s k h r =
      let a = asked_ok c line (λ a more. k a (record s { answers = more })) (λ a. resume code m a m.script) r s.answers in
      record { steps = suc a.0; ends = ap (λ x. stepped code (exec code a.0) m x s.answers) h ∙ a.1 }

  -- an instruction that asks, and goes on behind each answer
  pub asks_ok : (m : Mach) (i : Instr) (c : Call) (line : ℕ) (s : State) (m' : Answer → Mach) (k : Answer → State → Next) → m.script ≡ None → slice_get code.instrs m.pc ≡ Some i → step_of code i m ≡ Asks c line
      → ends_run c ≡ false → ((a : Answer) → resume_of i m a ≡ Goes (m' a)) → ((a : Answer) (more : List Answer) → Reaches code (m' a) more (k a (record s { answers = more })))
      → Reaches code m s.answers (ask c line k s)
  asks_ok m i c line s m' k none h st goes_on' res r =
      asks_on m c line s k (ap (step code m) none ∙ ap (fetched code m) h ∙ st)
      (λ a more. let here = r a more in (
        here.steps,
        ap (λ b. behind (exec code here.steps) b (resume code m a m.script) more) goes_on'
            ∙ ap (λ b. behind (exec code here.steps) false b more) (ap (resume code m a) none ∙ ap (fetched_resume m a) h ∙ res a)
            ∙ here.ends,
      ))

  broke_ok : (f : Fault) (line : ℕ) (go : Answer → List Answer → Option Next) (answers : List Answer) → demanded (call.Broke f) line go answers ≡ Some (asked (call.Broke f) line (λ a more. Misfit) answers)
  broke_ok f line go [] = refl
  broke_ok f line go (a ∷ more) = refl

  -- a step that fails
  pub fails_on : {A : Type 0} (m : Mach) (f : Fault) (line : ℕ) (s : State) (k : A → State → Next) → step code m m.script ≡ breaks f line → Reaches code m s.answers (fault f line k s)
  fails_on m f line s k h = record { steps = suc zero; ends = ap (λ x. stepped code (exec code zero) m x s.answers) h ∙ broke_ok f line (λ a more. behind (exec code zero) (ends_run (call.Broke f)) (resume code m a m.script) more) s.answers }

  -- an instruction that fails
  pub faults : {A : Type 0} (m : Mach) (i : Instr) (f : Fault) (line : ℕ) (s : State) (k : A → State → Next) → m.script ≡ None → slice_get code.instrs m.pc ≡ Some i → step_of code i m ≡ breaks f line
      → Reaches code m s.answers (fault f line k s)
  faults m i f line s k none h st = fails_on m f line s k (ap (step code m) none ∙ ap (fetched code m) h ∙ st)
