-- Codes of expressions that evaluate one side or the other, and of `++` and `--`.
use Rattle.std.proofs.Common.{◌≡◌, ℕ, ◌+◌, ◌≤◌, Bool, true, false, cond, List, [], ◌∷◌, ◌++◌, length, pos, refl, arith, length-append}
use Rattle.mpc_values.specs.declared.values.Word.{Word}
use Rattle.mpc_values.specs.declared.values.Word.TheVariants.{Int}
use Rattle.c_tree.specs.declared.program.Update.{Update}
use Rattle.c_tree.specs.Words.{holds, truth}
use Rattle.c_tree.specs.Asking.{Next, State, Step, ◌>>=◌, pure, set}
use Rattle.c_tree.specs.Evaluation.{value_of_local, load, store, updated, if_holds, scalar_of}
use Rattle.c_code.specs.declared.instr.Instr.{Instr}
use Rattle.c_code.specs.declared.instr.Instr.TheVariants as i
use Rattle.c_code.specs.FlatCode.{FlatCode}
use Rattle.c_code.specs.Machine.{Frame, step_of}
use Rattle.c_compile.specs.Compiled.{and_code, or_code, choice_code, step_local, step_store}
use Rattle.c_compile.proofs.Steps.{at, HasAt, has_front, has_back, moved_to, goes}
use Rattle.c_compile.proofs.Operations.{Runs, Is, Gives, get_ok, set_ok, store_ok, update_ok, peek_ok, unless_ok, skip_ok, pop_ok}

module _ (code : FlatCode) (frames : List Frame) (ln : ℕ) where
  -- a word that is put on the stack at a place
  push_at : (pc : ℕ) (w : Word) (stack : List Word) (s : State) (o : Next) → Is code frames ln pc (i.Push w) → Runs code frames ln (pc + 1) (w ∷ stack) s o → Runs code frames ln pc stack s o
  unfolding step_of
  push_at pc w stack s o h r = goes code (at pc stack frames ln s.slots s.turns) (at (pc + 1) (w ∷ stack) frames ln s.slots s.turns) (i.Push w) s.answers o refl h refl r

  truth_at : (pc : ℕ) (v : Word) (stack : List Word) (s : State) (o : Next) → Is code frames ln pc i.Truth → Runs code frames ln (pc + 1) (truth (holds v) ∷ stack) s o → Runs code frames ln pc (v ∷ stack) s o
  unfolding step_of
  truth_at pc v stack s o h r = goes code (at pc (v ∷ stack) frames ln s.slots s.turns) (at (pc + 1) (truth (holds v) ∷ stack) frames ln s.slots s.turns) i.Truth s.answers o refl h refl r

  pub and_ok : (a b : List Instr) (ma mb : Step Word) → Gives code frames ln a ma → Gives code frames ln b mb
      → Gives code frames ln (and_code a b) (ma >>= (λ x. if_holds x (mb >>= (λ y. pure (truth (holds y)))) (pure (truth false))))
  and_ok a b ma mb ga gb pc stack s k has r =
      let tail = i.Truth ∷ i.Skip 1 ∷ i.Push (Int (pos 0)) ∷ [] in
      let p = pc + length a + 1 in
      let h = has_back code pc a _ has in
      let hb = has_back code p b _ h.1 in
      let end : pc + length (and_code a b) ≡ p + length b + 1 + 1 + 1 = omega (arith, length-append a (i.Unless (length b + 2) ∷ (b ++ tail)), length-append b tail) in
      ga pc stack s (λ x s'. if_holds x (mb >>= (λ y. pure (truth (holds y)))) (pure (truth false)) k s') (has_front code pc a _ has) (λ x s1 le1.
      unless_ok code frames ln (pc + length a) (length b + 2) x stack s1 (mb >>= (λ y. pure (truth (holds y)))) (pure (truth false)) k h.0
      (gb p stack s1 (λ y s'. k (truth (holds y)) s') (has_front code p b _ h.1) (λ y s2 le2.
      truth_at (p + length b) y stack s2 (k (truth (holds y)) s2) hb.0
      (skip_ok code frames ln (p + length b + 1) 1 (truth (holds y) ∷ stack) s2 (k (truth (holds y)) s2) hb.1.0
      (moved_to code _ _ (truth (holds y) ∷ stack) frames ln s2 _ end (r (truth (holds y)) s2 (omega (arith, le1, le2)))))))
      (let e : p + length b + 1 + 1 ≡ p + (length b + 2) = omega arith in
      moved_to code _ _ stack frames ln s1 _ e
      (push_at (p + length b + 1 + 1) (Int (pos 0)) stack s1 (k (truth false) s1) hb.1.1.0
      (moved_to code _ _ (Int (pos 0) ∷ stack) frames ln s1 _ end (r (truth false) s1 le1))))
      (holds x) refl)

  pub or_ok : (a b : List Instr) (ma mb : Step Word) → Gives code frames ln a ma → Gives code frames ln b mb
      → Gives code frames ln (or_code a b) (ma >>= (λ x. if_holds x (pure (truth true)) (mb >>= (λ y. pure (truth (holds y))))))
  or_ok a b ma mb ga gb pc stack s k has r =
      let tail = i.Truth ∷ [] in
      let p = pc + length a + 1 in
      let h = has_back code pc a _ has in
      let q = p + 1 + 1 in
      let hb = has_back code q b _ h.1.1.1 in
      let end : pc + length (or_code a b) ≡ q + length b + 1 = omega (arith, length-append a (i.Unless 2 ∷ i.Push (Int (pos 1)) ∷ i.Skip (length b + 1) ∷ (b ++ tail)), length-append b tail) in
      ga pc stack s (λ x s'. if_holds x (pure (truth true)) (mb >>= (λ y. pure (truth (holds y)))) k s') (has_front code pc a _ has) (λ x s1 le1.
      unless_ok code frames ln (pc + length a) 2 x stack s1 (pure (truth true)) (mb >>= (λ y. pure (truth (holds y)))) k h.0
      (push_at p (Int (pos 1)) stack s1 (k (truth true) s1) h.1.0
      (skip_ok code frames ln (p + 1) (length b + 1) (Int (pos 1) ∷ stack) s1 (k (truth true) s1) h.1.1.0
      (let e : pc + length (or_code a b) ≡ p + 1 + 1 + (length b + 1) = omega (arith, end) in
      moved_to code _ _ (Int (pos 1) ∷ stack) frames ln s1 _ e (r (truth true) s1 le1))))
      (let e : q ≡ p + 2 = omega arith in
      moved_to code _ _ stack frames ln s1 _ e
      (gb q stack s1 (λ y s'. k (truth (holds y)) s') (has_front code q b _ h.1.1.1) (λ y s2 le2.
      truth_at (q + length b) y stack s2 (k (truth (holds y)) s2) hb.0
      (moved_to code _ _ (truth (holds y) ∷ stack) frames ln s2 _ end (r (truth (holds y)) s2 (omega (arith, le1, le2)))))))
      (holds x) refl)

  pub choice_ok : (c a b : List Instr) (mc ma mb : Step Word) → Gives code frames ln c mc → Gives code frames ln a ma → Gives code frames ln b mb
      → Gives code frames ln (choice_code c a b) (mc >>= (λ x. if_holds x ma mb))
  choice_ok c a b mc ma mb gc ga gb pc stack s k has r =
      let p = pc + length c + 1 in
      let h = has_back code pc c _ has in
      let ha = has_back code p a _ h.1 in
      let q = p + length a + 1 in
      let end : pc + length (choice_code c a b) ≡ q + length b = omega (arith, length-append c (i.Unless (length a + 1) ∷ (a ++ (i.Skip (length b) ∷ b))), length-append a (i.Skip (length b) ∷ b)) in
      gc pc stack s (λ x s'. if_holds x ma mb k s') (has_front code pc c _ has) (λ x s1 le1.
      unless_ok code frames ln (pc + length c) (length a + 1) x stack s1 ma mb k h.0
      (ga p stack s1 k (has_front code p a _ h.1) (λ y s2 le2.
      skip_ok code frames ln (p + length a) (length b) (y ∷ stack) s2 (k y s2) ha.0
      (moved_to code _ _ (y ∷ stack) frames ln s2 _ end (r y s2 (omega (arith, le1, le2))))))
      (let e : q ≡ p + (length a + 1) = omega arith in
      moved_to code _ _ stack frames ln s1 _ e
      (gb q stack s1 k ha.1 (λ y s2 le2. moved_to code _ _ (y ∷ stack) frames ln s2 _ end (r y s2 (omega (arith, le1, le2))))))
      (holds x) refl)

  -- ---- `++` and `--`

  -- code that makes of the word on top what a step gives of it
  abbrev pub OnTop : List Instr → (Word → Step Word) → Type 0
  OnTop c f = (pc : ℕ) (v : Word) (stack : List Word) (s : State) (k : Word → State → Next) → HasAt code pc c
      → ((u : Word) (s' : State) → s'.turns ≤ s.turns → Runs code frames ln (pc + length c) (u ∷ stack) s' (k u s')) → Runs code frames ln pc (v ∷ stack) s (f v k s)

  pub then_ok : (a c : List Instr) (ma : Step Word) (f : Word → Step Word) → Gives code frames ln a ma → OnTop c f → Gives code frames ln (a ++ c) (ma >>= f)
  then_ok a c ma f ga gc pc stack s k has r =
      let len : pc + length (a ++ c) ≡ pc + length a + length c = omega (arith, length-append a c) in
      ga pc stack s (λ x s'. f x k s') (has_front code pc a c has) (λ x s1 le1.
      gc (pc + length a) x stack s1 k (has_back code pc a c has) (λ u s2 le2.
      moved_to code _ _ (u ∷ stack) frames ln s2 _ len (r u s2 (omega (arith, le1, le2)))))

  -- the new value of a variable, whose old one is on top
  updated_at : (pc : ℕ) (update : Update) (line : ℕ) (old : Word) (stack : List Word) (s : State) (k : Word → State → Next) → Is code frames ln pc (i.Push (Int (pos 1))) → Is code frames ln (pc + 1) (i.Update update line)
      → ((u : Word) (s' : State) → s'.turns ≤ s.turns → Runs code frames ln (pc + 1 + 1) (u ∷ stack) s' (k u s')) → Runs code frames ln pc (old ∷ stack) s (updated update old (Int (pos 1)) line k s)
  updated_at pc update line old stack s k h1 h2 r =
      push_at pc (Int (pos 1)) (old ∷ stack) s (updated update old (Int (pos 1)) line k s) h1
      (update_ok code frames ln update line (pc + 1) old (Int (pos 1)) stack s k h2 r)

  duplicate_at : (pc : ℕ) (v : Word) (stack : List Word) (s : State) (o : Next) → Is code frames ln pc i.Duplicate → Runs code frames ln (pc + 1) (v ∷ v ∷ stack) s o → Runs code frames ln pc (v ∷ stack) s o
  unfolding step_of
  duplicate_at pc v stack s o h r = goes code (at pc (v ∷ stack) frames ln s.slots s.turns) (at (pc + 1) (v ∷ v ∷ stack) frames ln s.slots s.turns) i.Duplicate s.answers o refl h refl r

  tuck_at : (pc : ℕ) (v p : Word) (stack : List Word) (s : State) (o : Next) → Is code frames ln pc i.Tuck → Runs code frames ln (pc + 1) (v ∷ p ∷ v ∷ stack) s o → Runs code frames ln pc (v ∷ p ∷ stack) s o
  unfolding step_of
  tuck_at pc v p stack s o h r = goes code (at pc (v ∷ p ∷ stack) frames ln s.slots s.turns) (at (pc + 1) (v ∷ p ∷ v ∷ stack) frames ln s.slots s.turns) i.Tuck s.answers o refl h refl r

  pub step_local_ok : (update : Update) (before : Bool) (slot line : ℕ) → Gives code frames ln (step_local update before slot line)
      (value_of_local slot line >>= (λ old. updated update old (Int (pos 1)) line >>= (λ new. set slot new >>= (λ w. pure (cond before new old)))))
  step_local_ok update true slot line pc stack s k has r =
      get_ok code frames ln slot line pc stack s _ (has.0, tt) (λ old s1 le1.
      updated_at (pc + 1) update line old stack s1 (λ new s'. set slot new (λ w s''. k new s'') s') has.1.0 has.1.1.0 (λ new s2 le2.
      set_ok code frames ln slot (pc + 1 + 1 + 1) new stack s2 k has.1.1.1.0 (λ u s3 le3.
      let e : pc + 4 ≡ pc + 1 + 1 + 1 + 1 = omega arith in
      moved_to code _ _ (u ∷ stack) frames ln s3 _ e (r u s3 (omega (arith, le1, le2, le3))))))
  step_local_ok update false slot line pc stack s k has r =
      get_ok code frames ln slot line pc stack s _ (has.0, tt) (λ old s1 le1.
      duplicate_at (pc + 1) old stack s1 _ has.1.0
      (updated_at (pc + 1 + 1) update line old (old ∷ stack) s1 (λ new s'. set slot new (λ w s''. k old s'') s') has.1.1.0 has.1.1.1.0 (λ new s2 le2.
      set_ok code frames ln slot (pc + 1 + 1 + 1 + 1) new (old ∷ stack) s2 (λ u s'. k old s') has.1.1.1.1.0 (λ u s3 le3.
      pop_ok code frames ln (pc + 1 + 1 + 1 + 1 + 1) u (old ∷ stack) s3 (k old s3) has.1.1.1.1.1.0
      (let e : pc + 6 ≡ pc + 1 + 1 + 1 + 1 + 1 + 1 = omega arith in
      moved_to code _ _ (old ∷ stack) frames ln s3 _ e (r old s3 (omega (arith, le1, le2, le3))))))))

  pub step_store_ok : (update : Update) (before : Bool) (line : ℕ) → OnTop (step_store update before line)
      (λ p. load (scalar_of update) p line >>= (λ old. updated update old (Int (pos 1)) line >>= (λ new. store p new line >>= (λ w. pure (cond before new old)))))
  step_store_ok update true line pc p stack s k has r =
      peek_ok code frames ln (scalar_of update) line p pc stack s _ (has.0, tt) (λ old s1 le1.
      updated_at (pc + 1) update line old (p ∷ stack) s1 (λ new s'. store p new line (λ w s''. k new s'') s') has.1.0 has.1.1.0 (λ new s2 le2.
      store_ok code frames ln line (pc + 1 + 1 + 1) p new stack s2 k has.1.1.1.0 (λ u s3 le3.
      let e : pc + 4 ≡ pc + 1 + 1 + 1 + 1 = omega arith in
      moved_to code _ _ (u ∷ stack) frames ln s3 _ e (r u s3 (omega (arith, le1, le2, le3))))))
  step_store_ok update false line pc p stack s k has r =
      peek_ok code frames ln (scalar_of update) line p pc stack s _ (has.0, tt) (λ old s1 le1.
      tuck_at (pc + 1) old p stack s1 _ has.1.0
      (updated_at (pc + 1 + 1) update line old (p ∷ old ∷ stack) s1 (λ new s'. store p new line (λ w s''. k old s'') s') has.1.1.0 has.1.1.1.0 (λ new s2 le2.
      store_ok code frames ln line (pc + 1 + 1 + 1 + 1) p new (old ∷ stack) s2 (λ w s'. k old s') has.1.1.1.1.0 (λ u s3 le3.
      pop_ok code frames ln (pc + 1 + 1 + 1 + 1 + 1) u (old ∷ stack) s3 (k old s3) has.1.1.1.1.1.0
      (let e : pc + 6 ≡ pc + 1 + 1 + 1 + 1 + 1 + 1 = omega arith in
      moved_to code _ _ (old ∷ stack) frames ln s3 _ e (r old s3 (omega (arith, le1, le2, le3))))))))
