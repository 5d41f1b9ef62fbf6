-- Jumps back and the turns that they count, and instructions that ask beside the stack.
use Rattle.std.proofs.Common.{◌≡◌, ℕ, zero, suc, ◌+◌, ◌-◌, ◌≤◌, true, false, cond, List, ◌∷◌, refl, sym, ap, ◌∙◌, subst, arith}
use Rattle.std.specs.Prelude.{slice_set, slice_index_or}
use Rattle.mpc_values.specs.declared.values.Word.{Word}
use Rattle.mpc_values.specs.declared.values.Word.TheVariants.{Undef}
use Rattle.mpc_values.specs.declared.calls.Call.TheVariants as call
use Rattle.mpc_values.specs.declared.faults.Fault.TheVariants.{Turns}
use Rattle.mpc_values.specs.declared.answers.Answer.{Answer}
use Rattle.c_tree.specs.Words.{holds, pointer_of}
use Rattle.c_tree.specs.Asking.{Next, State, ask, fault, tick, tick_from, word_of}
use Rattle.c_tree.specs.Execution.{object_of, release, make}
use Rattle.c_code.specs.declared.instr.Instr.TheVariants as i
use Rattle.c_code.specs.FlatCode.{FlatCode}
use Rattle.c_code.specs.Machine.{Frame, Mach, Stepped, Moves, step_of, resume_of, next, turned}
use Rattle.c_compile.proofs.Steps.{at, goes, asks_ok, faults}
use Rattle.c_compile.proofs.Operations.{Runs, Is}

module _ (code : FlatCode) (frames : List Frame) (ln : ℕ) where
  -- a turn is counted before what follows
  pub tick_ok : (pc line : ℕ) (stack : List Word) (s : State) (k : Unit {0} → State → Next) → Is code frames ln pc (i.Tick line)
      → ((left : ℕ) → s.turns ≡ suc left → Runs code frames ln (pc + 1) stack (record s { turns = left }) (k tt (record s { turns = left }))) → Runs code frames ln pc stack s (tick line k s)
  unfolding step_of
  tick_ok pc line stack s k h r = by_turns s.turns refl
    where
      m : Mach
      m = at pc stack frames ln s.slots s.turns

      by_turns : (t : ℕ) → s.turns ≡ t → Runs code frames ln pc stack s (tick_from t line k s)
      by_turns zero e = faults code m (i.Tick line) Turns line s k refl h (ap (λ t. turned m line t (λ left. Moves (record m { pc = pc + 1; turns = left }))) e)
      by_turns (suc left) e =
          goes code m (at (pc + 1) stack frames ln s.slots left) (i.Tick line) s.answers _ refl h (ap (λ t. turned m line t (λ left. Moves (record m { pc = pc + 1; turns = left }))) e) (r left e)

  -- the jump back of a condition that holds counts a turn
  pub again_ok : (pc n line target : ℕ) (v : Word) (stack : List Word) (s : State) (k : Unit {0} → State → Next) → Is code frames ln pc (i.Again n line) → holds v ≡ true → pc - n ≡ target
      → ((left : ℕ) → s.turns ≡ suc left → Runs code frames ln target stack (record s { turns = left }) (k tt (record s { turns = left }))) → Runs code frames ln pc (v ∷ stack) s (tick line k s)
  unfolding step_of
  again_ok pc n line target v stack s k h so back r = by_turns s.turns refl
    where
      m : Mach
      m = at pc (v ∷ stack) frames ln s.slots s.turns

      jump : ℕ → Stepped
      jump t = turned m line t (λ left. Moves (record m { pc = pc - n; stack = stack; turns = left }))

      opens : (t : ℕ) → s.turns ≡ t → cond (holds v) (jump s.turns) (next m stack) ≡ jump t
      opens t e = ap (λ b. cond b (jump s.turns) (next m stack)) so ∙ ap jump e

      by_turns : (t : ℕ) → s.turns ≡ t → Runs code frames ln pc (v ∷ stack) s (tick_from t line k s)
      by_turns zero e = faults code m (i.Again n line) Turns line s k refl h (opens zero e)
      by_turns (suc left) e =
          goes code m (at (pc - n) stack frames ln s.slots left) (i.Again n line) s.answers _ refl h (opens (suc left) e)
          (subst (λ q. Runs code frames ln q stack (record s { turns = left }) (k tt (record s { turns = left }))) (sym back) (r left e))

  -- where no turn is left, the jump back of a condition that holds fails
  pub again_fails : {A : Type 0} (pc n line : ℕ) (v : Word) (stack : List Word) (s : State) (k : A → State → Next) → Is code frames ln pc (i.Again n line) → holds v ≡ true → s.turns ≡ zero → Runs code frames ln pc (v ∷ stack) s (fault Turns line k s)
  unfolding step_of
  again_fails pc n line v stack s k h so none =
      let m = at pc (v ∷ stack) frames ln s.slots s.turns in
      let jump : ℕ → Stepped = λ t. turned m line t (λ left. Moves (record m { pc = pc - n; stack = stack; turns = left })) in
      faults code m (i.Again n line) Turns line s k refl h (ap (λ b. cond b (jump s.turns) (next m stack)) so ∙ ap jump none)

  -- a condition that does not hold goes on behind the jump
  pub again_ends : (pc n line : ℕ) (v : Word) (stack : List Word) (s : State) (o : Next) → Is code frames ln pc (i.Again n line) → holds v ≡ false → Runs code frames ln (pc + 1) stack s o → Runs code frames ln pc (v ∷ stack) s o
  unfolding step_of
  again_ends pc n line v stack s o h ends r =
      let m = at pc (v ∷ stack) frames ln s.slots s.turns in
      let jump : Stepped = turned m line s.turns (λ left. Moves (record m { pc = pc - n; stack = stack; turns = left })) in
      goes code m (at (pc + 1) stack frames ln s.slots s.turns) (i.Again n line) s.answers o refl h (ap (λ b. cond b jump (next m stack)) ends) r

  -- the drop of a local in memory
  pub release_ok : (slot line pc : ℕ) (stack : List Word) (s : State) (k : Answer → State → Next) → Is code frames ln pc (i.Release slot line)
      → ((a : Answer) (s' : State) → s'.turns ≤ s.turns → Runs code frames ln (pc + 1) stack s' (k a s')) → Runs code frames ln pc stack s (release slot line k s)
  unfolding step_of resume_of
  release_ok slot line pc stack s k h r =
      asks_ok code (at pc stack frames ln s.slots s.turns) (i.Release slot line) (call.Drop (object_of (slice_index_or s.slots slot Undef))) line s (λ a. at (pc + 1) stack frames ln s.slots s.turns) k refl h refl refl (λ a. refl)
      (λ a more. r a (record s { answers = more }) (omega arith))

  -- the object of a local in memory
  pub make_ok : (line slot words pc : ℕ) (stack : List Word) (s : State) (k : Word → State → Next) → Is code frames ln pc (i.New slot words line)
      → ((v : Word) (s' : State) → s'.turns ≤ s.turns → Runs code frames ln (pc + 1) stack s' (k v s')) → Runs code frames ln pc stack s (make line slot words k s)
  unfolding step_of resume_of
  make_ok line slot words pc stack s k h r =
      asks_ok code (at pc stack frames ln s.slots s.turns) (i.New slot words line) (call.New words) line s (λ a. at (pc + 1) stack frames ln (slice_set s.slots slot (pointer_of (word_of a))) s.turns)
      (λ a s'. k (pointer_of (word_of a)) (record s' { slots = slice_set s'.slots slot (pointer_of (word_of a)) })) refl h refl refl (λ a. refl)
      (λ a more. r (pointer_of (word_of a)) (record s { answers = more; slots = slice_set s.slots slot (pointer_of (word_of a)) }) (omega arith))

  -- where no turn is left, none is counted
  pub tick_fails : {A : Type 0} (pc line : ℕ) (stack : List Word) (s : State) (k : A → State → Next) → Is code frames ln pc (i.Tick line) → s.turns ≡ zero → Runs code frames ln pc stack s (fault Turns line k s)
  unfolding step_of
  tick_fails pc line stack s k h none =
      let m = at pc stack frames ln s.slots s.turns in
      faults code m (i.Tick line) Turns line s k refl h (ap (λ t. turned m line t (λ left. Moves (record m { pc = pc + 1; turns = left }))) none)

  -- ---- sharing statements, but for the arrival at a single

  pub wait_ok : (construct line pc : ℕ) (stack : List Word) (s : State) (k : Answer → State → Next) → Is code frames ln pc (i.HlsWait construct line)
      → ((a : Answer) (s' : State) → s'.turns ≤ s.turns → Runs code frames ln (pc + 1) stack s' (k a s')) → Runs code frames ln pc stack s (ask (call.HlsWait construct) line k s)
  unfolding step_of resume_of
  wait_ok construct line pc stack s k h r =
      asks_ok code (at pc stack frames ln s.slots s.turns) (i.HlsWait construct line) (call.HlsWait construct) line s (λ a. at (pc + 1) stack frames ln s.slots s.turns) k refl h refl refl (λ a. refl) (λ a more. r a (record s { answers = more }) (omega arith))

  pub exit_ok : (construct line pc : ℕ) (stack : List Word) (s : State) (k : Answer → State → Next) → Is code frames ln pc (i.HlsExit construct line)
      → ((a : Answer) (s' : State) → s'.turns ≤ s.turns → Runs code frames ln (pc + 1) stack s' (k a s')) → Runs code frames ln pc stack s (ask (call.HlsExit construct) line k s)
  unfolding step_of resume_of
  exit_ok construct line pc stack s k h r =
      asks_ok code (at pc stack frames ln s.slots s.turns) (i.HlsExit construct line) (call.HlsExit construct) line s (λ a. at (pc + 1) stack frames ln s.slots s.turns) k refl h refl refl (λ a. refl) (λ a more. r a (record s { answers = more }) (omega arith))

  pub bar_ok : (construct line pc : ℕ) (stack : List Word) (s : State) (k : Answer → State → Next) → Is code frames ln pc (i.HlsBar construct line)
      → ((a : Answer) (s' : State) → s'.turns ≤ s.turns → Runs code frames ln (pc + 1) stack s' (k a s')) → Runs code frames ln pc stack s (ask (call.HlsBar construct) line k s)
  unfolding step_of resume_of
  bar_ok construct line pc stack s k h r =
      asks_ok code (at pc stack frames ln s.slots s.turns) (i.HlsBar construct line) (call.HlsBar construct) line s (λ a. at (pc + 1) stack frames ln s.slots s.turns) k refl h refl refl (λ a. refl) (λ a more. r a (record s { answers = more }) (omega arith))

  pub bar_wait_ok : (construct line pc : ℕ) (stack : List Word) (s : State) (k : Answer → State → Next) → Is code frames ln pc (i.HlsBarWait construct line)
      → ((a : Answer) (s' : State) → s'.turns ≤ s.turns → Runs code frames ln (pc + 1) stack s' (k a s')) → Runs code frames ln pc stack s (ask (call.HlsBarWait construct) line k s)
  unfolding step_of resume_of
  bar_wait_ok construct line pc stack s k h r =
      asks_ok code (at pc stack frames ln s.slots s.turns) (i.HlsBarWait construct line) (call.HlsBarWait construct) line s (λ a. at (pc + 1) stack frames ln s.slots s.turns) k refl h refl refl (λ a. refl) (λ a more. r a (record s { answers = more }) (omega arith))

  pub unset_ok : (slot pc : ℕ) (stack : List Word) (s : State) (o : Next) → Is code frames ln pc (i.Unset slot) → Runs code frames ln (pc + 1) stack (record s { slots = slice_set s.slots slot Undef }) o → Runs code frames ln pc stack s o
  unfolding step_of
  unset_ok slot pc stack s o h r = goes code (at pc stack frames ln s.slots s.turns) (at (pc + 1) stack frames ln (slice_set s.slots slot Undef) s.turns) (i.Unset slot) s.answers o refl h refl r
