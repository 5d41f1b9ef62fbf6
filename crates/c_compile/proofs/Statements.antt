-- The code of a statement does what the statement does, on each way out of it.
use Rattle.std.proofs.Common.{◌≡◌, ℕ, suc, ◌+◌, ◌≤◌, List, [], ◌∷◌, ◌++◌, length, refl, sym, ◌∙◌, subst, arith, length-append}
use Rattle.mpc_values.specs.declared.values.Word.{Word}
use Rattle.c_tree.specs.Words.{holds}
use Rattle.c_tree.specs.Asking.{Next, State, Step, ◌>>=◌, pure}
use Rattle.c_tree.specs.Evaluation.{if_holds}
use Rattle.c_tree.specs.Execution.{Exit, Normal, Broken, Continued, Returned, then, drop_line, release, make}
use Rattle.c_code.specs.declared.instr.Instr.{Instr}
use Rattle.c_code.specs.declared.instr.Instr.TheVariants as i
use Rattle.c_code.specs.FlatCode.{FlatCode}
use Rattle.c_code.specs.Machine.{Frame}
use Rattle.c_compile.specs.Compiled.{Place, drops, before, inside, if_code}
use Rattle.c_compile.proofs.Steps.{HasAt, has_front, has_back, moved_to}
use Rattle.c_compile.proofs.Operations.{Runs, Gives, unless_ok, skip_ok, pop_ok}
use Rattle.c_compile.proofs.Turns.{release_ok, make_ok}

module _ (code : FlatCode) (frames : List Frame) (ln : ℕ) where
  abbrev Has : ℕ → List Instr → Type 0
  Has pc c = HasAt code pc c

  abbrev Goes' : ℕ → List Word → State → Next → Type 0
  Goes' pc stack s o = Runs code frames ln pc stack s o

  -- What stands behind a statement that ends at q does what k does, with at most t turns left.
  pub record Exits (place : Place) (q : ℕ) (stack : List Word) (t : ℕ) (k : Exit → State → Next) : Type 0 where
    pub next : (s : State) → s.turns ≤ t → Goes' q stack s (k Normal s)
    pub breaks : (line pc n : ℕ) → Has pc (drops line place.in_loop ++ i.Skip n ∷ []) → pc + length (drops line place.in_loop) + 1 + n ≡ q + place.exit
        → (s : State) → s.turns ≤ t → Goes' pc stack s (k (Broken line) s)
    pub continues : (line pc n : ℕ) → Has pc (drops line place.in_loop ++ i.Skip n ∷ []) → pc + length (drops line place.in_loop) + 1 + n ≡ q + place.again
        → (s : State) → s.turns ≤ t → Goes' pc stack s (k (Continued line) s)
    pub returns : (line pc : ℕ) → Has pc (drops line place.in_function ++ i.Return line ∷ []) → (w : Word) (s : State) → s.turns ≤ t → Goes' pc (w ∷ stack) s (k (Returned line w) s)

  -- The code does what a step of statements does.
  abbrev pub Does : Place → List Instr → Step Exit → Type 0
  Does place c m = (pc : ℕ) (stack : List Word) (s : State) (k : Exit → State → Next) → Has pc c → Exits place (pc + length c) stack s.turns k → Goes' pc stack s (m k s)

  abbrev pub GivesHere : List Instr → Step Word → Type 0
  GivesHere c m = Gives code frames ln c m

  -- code whose value nobody reads
  abbrev pub Leaves : List Instr → Step Word → Type 0
  Leaves c m = (pc : ℕ) (stack : List Word) (s : State) (k : Word → State → Next) → Has pc c → ((v : Word) (s' : State) → s'.turns ≤ s.turns → Goes' (pc + length c) stack s' (k v s')) → Goes' pc stack s (m k s)

  -- with fewer turns the same ways out are there
  pub fewer : (place : Place) (q : ℕ) (stack : List Word) (t t' : ℕ) (k : Exit → State → Next) → t' ≤ t → Exits place q stack t k → Exits place q stack t' k
  fewer place q stack t t' k le x = record {
    next = λ s l. x.next s (omega (arith, le, l));
    breaks = λ line pc n h d s l. x.breaks line pc n h d s (omega (arith, le, l));
    continues = λ line pc n h d s l. x.continues line pc n h d s (omega (arith, le, l));
    returns = λ line pc h w s l. x.returns line pc h w s (omega (arith, le, l));
  }

  pub pop_behind : (c : List Instr) (m : Step Word) → GivesHere c m → Leaves (c ++ i.Pop ∷ []) m
  pop_behind c m g pc stack s k has r =
      let len : pc + length (c ++ i.Pop ∷ []) ≡ pc + length c + 1 = omega (arith, length-append c (i.Pop ∷ [])) in
      g pc stack s k (has_front code pc c _ has) (λ v s1 le1.
      pop_ok code frames ln (pc + length c) v stack s1 (k v s1) (has_back code pc c _ has).0 (moved_to code _ _ stack frames ln s1 _ len (r v s1 le1)))

  pub eval_ok : (place : Place) (c : List Instr) (m : Step Word) → GivesHere c m → Does place (c ++ i.Pop ∷ []) (m >>= (λ v. pure Normal))
  eval_ok place c m g pc stack s k has x = pop_behind c m g pc stack s (λ v s'. k Normal s') has (λ v s1 le1. x.next s1 le1)

  -- one statement and what stands behind it
  pub seq_ok : (place : Place) (a b : List Instr) (ma mb : Step Exit) → Does (before (length b) place) a ma → Does place b mb → Does place (a ++ b) (ma >>= (λ e. then e mb))
  seq_ok place a b ma mb ga gb pc stack s k has x =
      let len : pc + length (a ++ b) ≡ pc + length a + length b = omega (arith, length-append a b) in
      let far : (n : ℕ) → pc + length (a ++ b) + n ≡ pc + length a + (length b + n) = λ n. omega (arith, length-append a b) in
      ga pc stack s (λ e s'. then e mb k s') (has_front code pc a b has) (record {
        next = λ s1 le1. gb (pc + length a) stack s1 k (has_back code pc a b has) (subst (λ q. Exits place q stack s1.turns k) len (fewer place _ stack _ _ k le1 x));
        breaks = λ line p' n h d s1 le1. x.breaks line p' n h (d ∙ sym (far place.exit)) s1 le1;
        continues = λ line p' n h d s1 le1. x.continues line p' n h (d ∙ sym (far place.again)) s1 le1;
        returns = λ line p' h w s1 le1. x.returns line p' h w s1 le1;
      })

  -- what stands in front of the drop of a local, which comes on each way out
  pub dropped_ok : (place : Place) (slot end : ℕ) (c : List Instr) (m : Step Exit) → Does (inside slot place) c m
      → Does place (c ++ i.Release slot end ∷ []) (m >>= (λ e. release slot (drop_line e end) >>= (λ a. pure e)))
  dropped_ok place slot end c m g pc stack s k has x =
      let size : pc + length (c ++ i.Release slot end ∷ []) ≡ pc + length c + 1 = omega (arith, length-append c (i.Release slot end ∷ [])) in
      g pc stack s (λ e s'. release slot (drop_line e end) (λ a s''. k e s'') s') (has_front code pc c _ has) (record {
        next = λ s2 l2. release_ok code frames ln slot end (pc + length c) stack s2 (λ a s''. k Normal s'') (has_back code pc c _ has).0 (λ a s3 l3. moved_to code _ _ stack frames ln s3 _ size (x.next s3 (omega (arith, l2, l3))));
        breaks = λ line' p' n h d s2 l2. release_ok code frames ln slot line' p' stack s2 (λ a s''. k (Broken line') s'') h.0 (λ a s3 l3. x.breaks line' (p' + 1) n h.1 (omega (arith, d, size)) s3 (omega (arith, l2, l3)));
        continues = λ line' p' n h d s2 l2. release_ok code frames ln slot line' p' stack s2 (λ a s''. k (Continued line') s'') h.0 (λ a s3 l3. x.continues line' (p' + 1) n h.1 (omega (arith, d, size)) s3 (omega (arith, l2, l3)));
        returns = λ line' p' h w' s2 l2. release_ok code frames ln slot line' p' (w' ∷ stack) s2 (λ a s''. k (Returned line' w') s'') h.0 (λ a s3 l3. x.returns line' (p' + 1) h.1 w' s3 (omega (arith, l2, l3)));
      })

  -- a local in memory, which is made before what stands behind it
  pub block_ok : (place : Place) (line slot words end : ℕ) (c : List Instr) (m : Step Exit) → Does (inside slot place) c m
      → Does place (i.New slot words line ∷ (c ++ i.Release slot end ∷ [])) (make line slot words >>= (λ w. m >>= (λ e. release slot (drop_line e end) >>= (λ a. pure e))))
  block_ok place line slot words end c m g pc stack s k has x =
      let far : pc + length (i.New slot words line ∷ (c ++ i.Release slot end ∷ [])) ≡ pc + 1 + length (c ++ i.Release slot end ∷ []) = omega arith in
      make_ok code frames ln line slot words pc stack s _ has.0 (λ w s1 le1.
      dropped_ok place slot end c m g (pc + 1) stack s1 k has.1 (subst (λ q. Exits place q stack s1.turns k) far (fewer place _ stack _ _ k le1 x)))

  -- one of two statements
  pub if_ok : (place : Place) (c a b : List Instr) (mc : Step Word) (ma mb : Step Exit) → GivesHere c mc → Does (before (suc (length b)) place) a ma → Does place b mb → Does place (if_code c a b) (mc >>= (λ w. if_holds w ma mb))
  if_ok place c a b mc ma mb gc ga gb pc stack s k has x =
      let p' = pc + length c + 1 in
      let h = has_back code pc c _ has in
      let ha = has_back code p' a _ h.1 in
      let q = p' + length a + 1 in
      let len : pc + length (if_code c a b) ≡ q + length b = omega (arith, length-append c (i.Unless (length a + 1) ∷ (a ++ (i.Skip (length b) ∷ b))), length-append a (i.Skip (length b) ∷ b)) in
      let far : (n : ℕ) → pc + length (if_code c a b) + n ≡ p' + length a + (suc (length b) + n) = λ n. omega (arith, len) in
      gc pc stack s (λ w s'. if_holds w ma mb k s') (has_front code pc c _ has) (λ w s1 le1.
      unless_ok code frames ln (pc + length c) (length a + 1) w stack s1 ma mb k h.0
      (ga p' stack s1 k (has_front code p' a _ h.1) (record {
        next = λ s2 l2. skip_ok code frames ln (p' + length a) (length b) stack s2 (k Normal s2) ha.0 (moved_to code _ _ stack frames ln s2 _ len (x.next s2 (omega (arith, le1, l2))));
        breaks = λ line p'' n hd d s2 l2. x.breaks line p'' n hd (d ∙ sym (far place.exit)) s2 (omega (arith, le1, l2));
        continues = λ line p'' n hd d s2 l2. x.continues line p'' n hd (d ∙ sym (far place.again)) s2 (omega (arith, le1, l2));
        returns = λ line p'' hd w' s2 l2. x.returns line p'' hd w' s2 (omega (arith, le1, l2));
      }))
      (let e : q ≡ p' + (length a + 1) = omega arith in
      moved_to code _ _ stack frames ln s1 _ e
      (gb q stack s1 k ha.1 (subst (λ z. Exits place z stack s1.turns k) len (fewer place _ stack _ _ k le1 x))))
      (holds w) refl)

  pub break_ok : (place : Place) (line : ℕ) → Does place (drops line place.in_loop ++ i.Skip place.exit ∷ []) (pure (Broken line))
  break_ok place line pc stack s k has x =
      x.breaks line pc place.exit has (omega (arith, length-append (drops line place.in_loop) (i.Skip place.exit ∷ []))) s (omega arith)

  pub continue_ok : (place : Place) (line : ℕ) → Does place (drops line place.in_loop ++ i.Skip place.again ∷ []) (pure (Continued line))
  continue_ok place line pc stack s k has x =
      x.continues line pc place.again has (omega (arith, length-append (drops line place.in_loop) (i.Skip place.again ∷ []))) s (omega arith)

  pub return_ok : (place : Place) (line : ℕ) (c : List Instr) (m : Step Word) → GivesHere c m → Does place (c ++ (drops line place.in_function ++ i.Return line ∷ [])) (m >>= (λ w. pure (Returned line w)))
  return_ok place line c m g pc stack s k has x =
      g pc stack s (λ w s'. k (Returned line w) s') (has_front code pc c _ has) (λ w s1 le. x.returns line (pc + length c) (has_back code pc c _ has) w s1 le)
