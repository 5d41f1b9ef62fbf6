-- What each instruction on the stack does is what its step of an expression does.
use Rattle.std.proofs.Common.{◌≡◌, ℕ, ◌+◌, ◌≤◌, Bool, true, false, not, cond, List, [], ◌∷◌, ◌++◌, length, Some, Result, Ok, Err, ℤ, pos, refl, ap, arith, length-append}
use Rattle.std.specs.Prelude.{slice_get, slice_set, slice_index_or}
use Rattle.mpc_values.specs.declared.values.Word.{Word}
use Rattle.mpc_values.specs.declared.values.Word.TheVariants.{Undef, Int, Null, Ptr, Comm, Req}
use Rattle.mpc_values.specs.declared.calls.Call.TheVariants as call
use Rattle.mpc_values.specs.declared.faults.Fault.{Fault}
use Rattle.mpc_values.specs.declared.faults.Fault.TheVariants as fault_of
use Rattle.c_tree.specs.declared.program.Scalar.{Scalar}
use Rattle.c_tree.specs.declared.program.Width.{Width}
use Rattle.c_tree.specs.declared.program.Width.TheVariants as width
use Rattle.c_tree.specs.declared.program.Operation.{Operation}
use Rattle.c_tree.specs.declared.program.Comparison.{Comparison}
use Rattle.c_tree.specs.declared.program.Update.{Update}
use Rattle.c_tree.specs.declared.program.Update.TheVariants as update_of
use Rattle.c_tree.specs.Numbers.{number_of}
use Rattle.c_tree.specs.Arithmetic.{operated, negated, complemented, compared}
use Rattle.c_tree.specs.Words.{pointer_of, read_as, holds, truth, same_word, moved, elements, malloc_words}
use Rattle.c_tree.specs.Asking.{Next, State, Step, ◌>>=◌, pure, ask, get, set, word_of}
use Rattle.c_tree.specs.Evaluation.{known, value_of_local, number_or_fault, word_or_fault, load, store, updated, narrowed, offset}
use Rattle.c_code.specs.declared.instr.Instr.{Instr}
use Rattle.c_code.specs.declared.instr.Instr.TheVariants as i
use Rattle.c_code.specs.FlatCode.{FlatCode}
use Rattle.c_code.specs.Machine.{Frame, Moves, step_of, resume_of, next, number_next, word_next, known_next}
use Rattle.c_compile.proofs.Steps.{at, HasAt, has_front, has_back, To, moved_to, goes, asks_ok, faults}

module _ (code : FlatCode) (frames : List Frame) (ln : ℕ) where
  abbrev pub Runs : ℕ → List Word → State → Next → Type 0
  Runs pc stack s o = To code pc stack frames ln s o

  abbrev pub Is : ℕ → Instr → Type 0
  Is pc instr = slice_get code.instrs pc ≡ Some instr

  -- Code that begins with these words on top of the stack, and puts what a step gives on top of them.
  abbrev pub GivesFrom : List Word → List Instr → Step Word → Type 0
  GivesFrom front c m = (pc : ℕ) (stack : List Word) (s : State) (k : Word → State → Next) → HasAt code pc c
      → ((v : Word) (s' : State) → s'.turns ≤ s.turns → Runs (pc + length c) (v ∷ (front ++ stack)) s' (k v s')) → Runs pc (front ++ stack) s (m k s)

  abbrev pub Gives : List Instr → Step Word → Type 0
  Gives c m = GivesFrom [] c m

  -- An instruction that makes of the word on top what a step gives of it.
  abbrev pub Unary : Instr → (Word → Step Word) → Type 0
  Unary instr f = (pc : ℕ) (v : Word) (stack : List Word) (s : State) (k : Word → State → Next) → Is pc instr
      → ((u : Word) (s' : State) → s'.turns ≤ s.turns → Runs (pc + 1) (u ∷ stack) s' (k u s')) → Runs pc (v ∷ stack) s (f v k s)

  -- the same of the two words on top, the right one above
  abbrev pub Binary : Instr → (Word → Word → Step Word) → Type 0
  Binary instr g = (pc : ℕ) (x y : Word) (stack : List Word) (s : State) (k : Word → State → Next) → Is pc instr
      → ((u : Word) (s' : State) → s'.turns ≤ s.turns → Runs (pc + 1) (u ∷ stack) s' (k u s')) → Runs pc (y ∷ x ∷ stack) s (g x y k s)

  pub one_ok : (front : List Word) (c : List Instr) (m : Step Word) (instr : Instr) (f : Word → Step Word) → GivesFrom front c m → Unary instr f → GivesFrom front (c ++ instr ∷ []) (m >>= f)
  one_ok front c m instr f g u pc stack s k has r =
      let len : pc + length (c ++ instr ∷ []) ≡ pc + length c + 1 = omega (arith, length-append c (instr ∷ [])) in
      g pc stack s (λ v s'. f v k s') (has_front code pc c _ has) (λ v s1 le1.
      u (pc + length c) v (front ++ stack) s1 k (has_back code pc c _ has).0 (λ w s2 le2.
      moved_to code _ _ (w ∷ (front ++ stack)) frames ln s2 _ len (r w s2 (omega (arith, le1, le2)))))

  pub two_ok : (front : List Word) (a b : List Instr) (ma : Step Word) (mb : Word → Step Word) (instr : Instr) (g : Word → Word → Step Word) → GivesFrom front a ma → ((x : Word) → GivesFrom (x ∷ []) b (mb x)) → Binary instr g
      → GivesFrom front (a ++ (b ++ instr ∷ [])) (ma >>= (λ x. mb x >>= (λ y. g x y)))
  two_ok front a b ma mb instr g ga gb bin pc stack s k has r =
      let len : pc + length (a ++ (b ++ instr ∷ [])) ≡ pc + length a + length b + 1 = omega (arith, length-append a (b ++ instr ∷ []), length-append b (instr ∷ [])) in
      let h = has_back code pc a _ has in
      ga pc stack s (λ x s'. mb x (λ y s''. g x y k s'') s') (has_front code pc a _ has) (λ x s1 le1.
      gb x (pc + length a) (front ++ stack) s1 (λ y s'. g x y k s') (has_front code _ b _ h) (λ y s2 le2.
      bin (pc + length a + length b) x y (front ++ stack) s2 k (has_back code _ b _ h).0 (λ w s3 le3.
      moved_to code _ _ (w ∷ (front ++ stack)) frames ln s3 _ len (r w s3 (omega (arith, le1, le2, le3))))))

  -- ---- instructions that put a word on the stack

  pub push_ok : (front : List Word) (w : Word) → GivesFrom front (i.Push w ∷ []) (pure w)
  unfolding step_of
  push_ok front w pc stack s k has r = goes code (at pc (front ++ stack) frames ln s.slots s.turns) _ (i.Push w) s.answers _ refl has.0 refl (r w s (omega arith))

  known_ok : (w : Word) (slot line pc : ℕ) (stack : List Word) (s : State) (k : Word → State → Next) → slice_index_or s.slots slot Undef ≡ w → Is pc (i.Get slot line) → Runs (pc + 1) (w ∷ stack) s (k w s) → Runs pc stack s (known w line k s)
  unfolding step_of
  known_ok Undef slot line pc stack s k e h r =
      faults code (at pc stack frames ln s.slots s.turns) (i.Get slot line) fault_of.Uninit line s k refl h (ap (known_next (at pc stack frames ln s.slots s.turns) line) e)
  known_ok (Int z) slot line pc stack s k e h r = goes code (at pc stack frames ln s.slots s.turns) _ (i.Get slot line) s.answers _ refl h (ap (known_next (at pc stack frames ln s.slots s.turns) line) e) r
  known_ok Null slot line pc stack s k e h r = goes code (at pc stack frames ln s.slots s.turns) _ (i.Get slot line) s.answers _ refl h (ap (known_next (at pc stack frames ln s.slots s.turns) line) e) r
  known_ok (Ptr obj a) slot line pc stack s k e h r = goes code (at pc stack frames ln s.slots s.turns) _ (i.Get slot line) s.answers _ refl h (ap (known_next (at pc stack frames ln s.slots s.turns) line) e) r
  known_ok (Comm c) slot line pc stack s k e h r = goes code (at pc stack frames ln s.slots s.turns) _ (i.Get slot line) s.answers _ refl h (ap (known_next (at pc stack frames ln s.slots s.turns) line) e) r
  known_ok (Req q) slot line pc stack s k e h r = goes code (at pc stack frames ln s.slots s.turns) _ (i.Get slot line) s.answers _ refl h (ap (known_next (at pc stack frames ln s.slots s.turns) line) e) r

  pub get_ok : (slot line : ℕ) → Gives (i.Get slot line ∷ []) (value_of_local slot line)
  get_ok slot line pc stack s k has r = known_ok (slice_index_or s.slots slot Undef) slot line pc stack s k refl has.0 (r _ s (omega arith))

  pub object_ok : (slot : ℕ) → Gives (i.Object slot ∷ []) (get slot >>= (λ word. pure (pointer_of word)))
  unfolding step_of
  object_ok slot pc stack s k has r = goes code (at pc stack frames ln s.slots s.turns) _ (i.Object slot) s.answers _ refl has.0 refl (r _ s (omega arith))

  -- ---- instructions on the word on top

  pub set_ok : (slot : ℕ) → Unary (i.Set slot) (set slot)
  unfolding step_of
  set_ok slot pc v stack s k h r =
      goes code (at pc (v ∷ stack) frames ln s.slots s.turns) _ (i.Set slot) s.answers _ refl h refl (r v (record s { slots = slice_set s.slots slot v }) (omega arith))

  pub load_ok : (scalar : Scalar) (line : ℕ) → Unary (i.Load scalar line) (λ p. load scalar p line)
  unfolding step_of resume_of
  load_ok scalar line pc v stack s k h r =
      asks_ok code (at pc (v ∷ stack) frames ln s.slots s.turns) (i.Load scalar line) (call.Load v) line s (λ a. at (pc + 1) (read_as scalar (word_of a) ∷ stack) frames ln s.slots s.turns) (λ a s'. k (read_as scalar (word_of a)) s') refl h refl refl (λ a. refl)
      (λ a more. r (read_as scalar (word_of a)) (record s { answers = more }) (omega arith))

  number_ok : (instr : Instr) (line pc : ℕ) (stack rest : List Word) (s : State) (k : Word → State → Next) (result : Result ℤ Fault) → Is pc instr
      → step_of code instr (at pc stack frames ln s.slots s.turns) ≡ number_next (at pc stack frames ln s.slots s.turns) rest line result
      → ((u : Word) → Runs (pc + 1) (u ∷ rest) s (k u s)) → Runs pc stack s (number_or_fault result line k s)
  number_ok instr line pc stack rest s k (Ok z) h st r = goes code (at pc stack frames ln s.slots s.turns) _ instr s.answers _ refl h st (r (Int z))
  number_ok instr line pc stack rest s k (Err f) h st r = faults code (at pc stack frames ln s.slots s.turns) instr f line s k refl h st

  word_ok : (instr : Instr) (line pc : ℕ) (stack rest : List Word) (s : State) (k : Word → State → Next) (result : Result Word Fault) → Is pc instr
      → step_of code instr (at pc stack frames ln s.slots s.turns) ≡ word_next (at pc stack frames ln s.slots s.turns) rest line result
      → ((u : Word) → Runs (pc + 1) (u ∷ rest) s (k u s)) → Runs pc stack s (word_or_fault result line k s)
  word_ok instr line pc stack rest s k (Ok w) h st r = goes code (at pc stack frames ln s.slots s.turns) _ instr s.answers _ refl h st (r w)
  word_ok instr line pc stack rest s k (Err f) h st r = faults code (at pc stack frames ln s.slots s.turns) instr f line s k refl h st

  pub negate_ok : (w : Width) (line : ℕ) → Unary (i.Negate w line) (λ x. number_or_fault (negated w (number_of width.Long x)) line)
  unfolding step_of
  negate_ok w line pc v stack s k h r = number_ok (i.Negate w line) line pc (v ∷ stack) stack s k (negated w (number_of width.Long v)) h refl (λ u. r u s (omega arith))

  pub complement_ok : Unary i.Complement (λ x. pure (Int (complemented (number_of width.Long x))))
  unfolding step_of
  complement_ok pc v stack s k h r = goes code (at pc (v ∷ stack) frames ln s.slots s.turns) _ i.Complement s.answers _ refl h refl (r _ s (omega arith))

  pub not_ok : Unary i.Not (λ x. pure (truth (not (holds x))))
  unfolding step_of
  not_ok pc v stack s k h r = goes code (at pc (v ∷ stack) frames ln s.slots s.turns) _ i.Not s.answers _ refl h refl (r _ s (omega arith))

  pub narrow_ok : Unary i.Narrow (λ x. pure (Int (number_of width.Int x)))
  unfolding step_of
  narrow_ok pc v stack s k h r = goes code (at pc (v ∷ stack) frames ln s.slots s.turns) _ i.Narrow s.answers _ refl h refl (r _ s (omega arith))

  pub truth_ok : Unary i.Truth (λ x. pure (truth (holds x)))
  unfolding step_of
  truth_ok pc v stack s k h r = goes code (at pc (v ∷ stack) frames ln s.slots s.turns) _ i.Truth s.answers _ refl h refl (r _ s (omega arith))

  pub malloc_ok : (size line : ℕ) → Unary (i.Malloc size line) (λ n. ask (call.Malloc (malloc_words size (number_of width.Long n))) line >>= (λ a. pure (pointer_of (word_of a))))
  unfolding step_of resume_of
  malloc_ok size line pc v stack s k h r =
      asks_ok code (at pc (v ∷ stack) frames ln s.slots s.turns) (i.Malloc size line) (call.Malloc (malloc_words size (number_of width.Long v))) line s (λ a. at (pc + 1) (pointer_of (word_of a) ∷ stack) frames ln s.slots s.turns) (λ a s'. k (pointer_of (word_of a)) s') refl h refl refl (λ a. refl)
      (λ a more. r (pointer_of (word_of a)) (record s { answers = more }) (omega arith))

  pub free_ok : (line : ℕ) → Unary (i.Free line) (λ p. ask (call.Free p) line >>= (λ a. pure (Int (pos 0))))
  unfolding step_of resume_of
  free_ok line pc v stack s k h r =
      asks_ok code (at pc (v ∷ stack) frames ln s.slots s.turns) (i.Free line) (call.Free v) line s (λ a. at (pc + 1) (Int (pos 0) ∷ stack) frames ln s.slots s.turns) (λ a s'. k (Int (pos 0)) s') refl h refl refl (λ a. refl)
      (λ a more. r (Int (pos 0)) (record s { answers = more }) (omega arith))

  -- ---- instructions on the two words on top

  pub store_ok : (line : ℕ) → Binary (i.Store line) (λ p w. store p w line)
  unfolding step_of resume_of
  store_ok line pc x y stack s k h r =
      asks_ok code (at pc (y ∷ x ∷ stack) frames ln s.slots s.turns) (i.Store line) (call.Store x y) line s (λ a. at (pc + 1) (y ∷ stack) frames ln s.slots s.turns) (λ a s'. k y s') refl h refl refl (λ a. refl)
      (λ a more. r y (record s { answers = more }) (omega arith))

  pub arithmetic_ok : (w : Width) (operation : Operation) (line : ℕ) → Binary (i.Arithmetic w operation line) (λ x y. number_or_fault (operated w operation (number_of width.Long x) (number_of width.Long y)) line)
  unfolding step_of
  arithmetic_ok w operation line pc x y stack s k h r =
      number_ok (i.Arithmetic w operation line) line pc (y ∷ x ∷ stack) stack s k (operated w operation (number_of width.Long x) (number_of width.Long y)) h refl (λ u. r u s (omega arith))

  pub compare_ok : (comparison : Comparison) → Binary (i.Compare comparison) (λ x y. pure (truth (compared comparison (number_of width.Long x) (number_of width.Long y))))
  unfolding step_of
  compare_ok comparison pc x y stack s k h r = goes code (at pc (y ∷ x ∷ stack) frames ln s.slots s.turns) _ (i.Compare comparison) s.answers _ refl h refl (r _ s (omega arith))

  pub same_ok : (wanted : Bool) → Binary (i.Same wanted) (λ x y. pure (truth (cond wanted (same_word x y) (not (same_word x y)))))
  unfolding step_of
  same_ok wanted pc x y stack s k h r = goes code (at pc (y ∷ x ∷ stack) frames ln s.slots s.turns) _ (i.Same wanted) s.answers _ refl h refl (r _ s (omega arith))

  pub offset_ok : (back : Bool) (words line : ℕ) → Binary (i.Offset back words line) (λ p n. offset back words p n line)
  unfolding step_of
  offset_ok back words line pc x y stack s k h r =
      word_ok (i.Offset back words line) line pc (y ∷ x ∷ stack) stack s k (moved x (elements back words (number_of width.Long y))) h refl (λ u. r u s (omega arith))

  pub update_ok : (u : Update) (line : ℕ) → Binary (i.Update u line) (λ old right. updated u old right line)
  unfolding step_of
  update_ok (update_of.Number operation w target) line pc x y stack s k h r =
      number_ok (i.Update (update_of.Number operation w target) line) line pc (y ∷ x ∷ stack) stack s k (narrowed target (operated w operation (number_of w x) (number_of width.Long y))) h refl (λ u. r u s (omega arith))
  update_ok (update_of.Pointer back words) line pc x y stack s k h r =
      word_ok (i.Update (update_of.Pointer back words) line) line pc (y ∷ x ∷ stack) stack s k (moved x (elements back words (number_of width.Long y))) h refl (λ u. r u s (omega arith))

  -- the word at the place on top, which stays
  pub peek_ok : (scalar : Scalar) (line : ℕ) (p : Word) → GivesFrom (p ∷ []) (i.Peek scalar line ∷ []) (load scalar p line)
  unfolding step_of resume_of
  peek_ok scalar line p pc stack s k has r =
      asks_ok code (at pc (p ∷ stack) frames ln s.slots s.turns) (i.Peek scalar line) (call.Load p) line s (λ a. at (pc + 1) (read_as scalar (word_of a) ∷ p ∷ stack) frames ln s.slots s.turns) (λ a s'. k (read_as scalar (word_of a)) s') refl has.0 refl refl (λ a. refl)
      (λ a more. r (read_as scalar (word_of a)) (record s { answers = more }) (omega arith))

  -- ---- jumps

  -- the jump that a condition decides
  pub unless_ok : {A : Type 0} (pc n : ℕ) (v : Word) (stack : List Word) (s : State) (yes' no' : Step A) (k : A → State → Next) → Is pc (i.Unless n)
      → Runs (pc + 1) stack s (yes' k s) → Runs (pc + 1 + n) stack s (no' k s) → (b : Bool) → holds v ≡ b → Runs pc (v ∷ stack) s (cond b yes' no' k s)
  unfolding step_of
  unless_ok pc n v stack s yes' no' k h ry rn true e =
      let m = at pc (v ∷ stack) frames ln s.slots s.turns in
      goes code m (at (pc + 1) stack frames ln s.slots s.turns) (i.Unless n) s.answers _ refl h (ap (λ b. cond b (next m stack) (Moves (record m { pc = pc + 1 + n; stack = stack }))) e) ry
  unless_ok pc n v stack s yes' no' k h ry rn false e =
      let m = at pc (v ∷ stack) frames ln s.slots s.turns in
      goes code m (at (pc + 1 + n) stack frames ln s.slots s.turns) (i.Unless n) s.answers _ refl h (ap (λ b. cond b (next m stack) (Moves (record m { pc = pc + 1 + n; stack = stack }))) e) rn

  pub skip_ok : (pc n : ℕ) (stack : List Word) (s : State) (o : Next) → Is pc (i.Skip n) → Runs (pc + 1 + n) stack s o → Runs pc stack s o
  unfolding step_of
  skip_ok pc n stack s o h r = goes code (at pc stack frames ln s.slots s.turns) (at (pc + 1 + n) stack frames ln s.slots s.turns) (i.Skip n) s.answers o refl h refl r

  pub pop_ok : (pc : ℕ) (v : Word) (stack : List Word) (s : State) (o : Next) → Is pc i.Pop → Runs (pc + 1) stack s o → Runs pc (v ∷ stack) s o
  unfolding step_of
  pop_ok pc v stack s o h r = goes code (at pc (v ∷ stack) frames ln s.slots s.turns) (at (pc + 1) stack frames ln s.slots s.turns) i.Pop s.answers o refl h refl r
