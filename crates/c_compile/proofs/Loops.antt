-- The codes of loops, of sharing statements, and of whole statements.
use Rattle.std.proofs.Common.{◌≡◌, ℕ, zero, suc, ◌+◌, ◌-◌, ◌≤◌, Bool, true, false, cond, List, [], ◌∷◌, ◌++◌, length, Option, Some, None, pos, refl, subst, arith, length-append}
use Rattle.std.specs.Prelude.{slice_set}
use Rattle.mpc_values.specs.declared.values.Word.{Word}
use Rattle.mpc_values.specs.declared.values.Word.TheVariants.{Undef, Int}
use Rattle.mpc_values.specs.declared.calls.Call.TheVariants as call
use Rattle.mpc_values.specs.declared.faults.Fault.TheVariants.{Turns}
use Rattle.mpc_values.specs.declared.answers.Way.{Way}
use Rattle.mpc_values.specs.declared.answers.Way.TheVariants as way
use Rattle.c_tree.specs.Programs as p
use Rattle.c_tree.specs.Words.{holds}
use Rattle.c_tree.specs.Asking.{Next, State, Step, ◌>>=◌, pure, ask, fault, set, tick}
use Rattle.c_tree.specs.Evaluation.{Calls, eval, if_holds}
use Rattle.c_tree.specs.Execution.{Exit, Normal, then, behind_body, test_of, step_of, loop, loop_from, do_loop, do_loop_from, in_way, way_of, returned, item, make, exec, run}
use Rattle.c_code.specs.declared.instr.Instr.{Instr}
use Rattle.c_code.specs.declared.instr.Instr.TheVariants as i
use Rattle.c_code.specs.FlatCode.{FlatCode}
use Rattle.c_code.specs.Machine.{Frame, Goes, resume_of, way_next}
use Rattle.c_code.specs.Machine as machine
use Rattle.c_compile.specs.Compiled.{expr_code, Place, before, inside, body_of, test_code, step_code, loop_code, do_code, single_code, return_code, no_ending, item_code, stmt_code, items_code}
use Rattle.c_compile.proofs.Steps.{at, HasAt, has_front, has_back, moved_to, asks_ok}
use Rattle.c_compile.proofs.Operations.{Runs, push_ok, skip_ok}
use Rattle.c_compile.proofs.Turns.{tick_ok, tick_fails, again_ok, again_fails, again_ends, make_ok, wait_ok, exit_ok, bar_ok, bar_wait_ok, unset_ok}
use Rattle.c_compile.proofs.Expressions.{CallsDo, expr_ok}
use Rattle.c_compile.proofs.Statements.{Exits, Does, GivesHere, Leaves, pop_behind, eval_ok, seq_ok, block_ok, if_ok, break_ok, continue_ok, return_ok}

module _ (code : FlatCode) (frames : List Frame) (ln : ℕ) where
  -- ---- a loop whose condition stands before its body
  module _ (place : Place) (line : ℕ) (t st b : List Instr) (mt ms : Step Word) (mb : Step Exit)
      (gt : GivesHere code frames ln t mt) (gs : Leaves code frames ln st ms) (gb : Does code frames ln (body_of (length st + length t + 1) 0 place) b mb)
      (pc : ℕ) (stack : List Word) (k : Exit → State → Next) (has : HasAt code pc (loop_code line t st b))
      (bound : ℕ) (x : Exits code frames ln place (pc + length (loop_code line t st b)) stack bound k) where
    abbrev jump : List Instr
    jump = i.Again (length t + length st + length b) line ∷ []

    abbrev at_body : ℕ
    at_body = pc + 1

    h_rest : HasAt code (at_body + length b) (st ++ (t ++ jump))
    h_rest = has_back code at_body b _ has.1

    h_test : HasAt code (at_body + length b + length st) (t ++ jump)
    h_test = has_back code (at_body + length b) st _ h_rest

    h_jump : HasAt code (at_body + length b + length st + length t) jump
    h_jump = has_back code (at_body + length b + length st) t jump h_test

    loop_end : pc + length (loop_code line t st b) ≡ at_body + length b + length st + length t + 1
    loop_end = omega (arith, length-append b (st ++ (t ++ jump)), length-append st (t ++ jump), length-append t jump)

    abbrev at_jump : ℕ
    at_jump = at_body + length b + length st + length t

    -- where no body may come any more
    last_decided : (s1 : State) → s1.turns ≡ zero → s1.turns ≤ bound → (w : Word) (b' : Bool) → holds w ≡ b' → Runs code frames ln at_jump (w ∷ stack) s1 (cond b' (fault Turns line) (pure Normal) k s1)
    last_decided s1 none le w true e = again_fails code frames ln at_jump (length t + length st + length b) line w stack s1 k h_jump.0 e none
    last_decided s1 none le w false e =
        again_ends code frames ln at_jump (length t + length st + length b) line w stack s1 (k Normal s1) h_jump.0 e (moved_to code _ _ stack frames ln s1 _ loop_end (x.next s1 le))

    -- where a body may come, by what comes at the condition behind it
    module _ (n : ℕ) (rec : (s : State) → s.turns ≤ n → s.turns ≤ bound → Runs code frames ln (at_body + length b + length st) stack s (loop mt mb ms line n k s)) where
      abbrev again : Step Exit
      again = tick line >>= (λ u. mb >>= (λ exit. behind_body exit (ms >>= (λ v. loop mt mb ms line n))))

      abbrev k' : Exit → State → Next
      k' exit s' = behind_body exit (ms >>= (λ v. loop mt mb ms line n)) k s'

      stepped : (left : ℕ) (s2 : State) → left ≤ n → left ≤ bound → s2.turns ≤ left → Runs code frames ln (at_body + length b) stack s2 (ms (λ v s'. loop mt mb ms line n k s') s2)
      stepped left s2 ln2 lb2 l2 =
          gs (at_body + length b) stack s2 (λ v s'. loop mt mb ms line n k s') (has_front code _ st _ h_rest) (λ v s3 l3. rec s3 (omega (arith, ln2, l2, l3)) (omega (arith, lb2, l2, l3)))

      ways : (left : ℕ) → left ≤ n → left ≤ bound → Exits code frames ln (body_of (length st + length t + 1) 0 place) (at_body + length b) stack left k'
      ways left ln2 lb2 = record {
        next = λ s2 l2. stepped left s2 ln2 lb2 l2;
        breaks = λ line' q m h d s2 l2.
            skip_ok code frames ln q m stack s2 (k Normal s2) h.0
            (let e : pc + length (loop_code line t st b) ≡ q + 1 + m = omega (arith, d, loop_end) in
            moved_to code _ _ stack frames ln s2 _ e (x.next s2 (omega (arith, lb2, l2))));
        continues = λ line' q m h d s2 l2.
            skip_ok code frames ln q m stack s2 (ms (λ v s'. loop mt mb ms line n k s') s2) h.0
            (let e : at_body + length b ≡ q + 1 + m = omega (arith, d) in
            moved_to code _ _ stack frames ln s2 _ e (stepped left s2 ln2 lb2 l2));
        returns = λ line' q h w s2 l2. x.returns line' q h w s2 (omega (arith, lb2, l2));
      }

      decided : (s1 : State) → s1.turns ≤ suc n → s1.turns ≤ bound → (w : Word) (b' : Bool) → holds w ≡ b' → Runs code frames ln at_jump (w ∷ stack) s1 (cond b' again (pure Normal) k s1)
      decided s1 few le w true e =
          let far : at_body + length b + length st + length t - (length t + length st + length b) ≡ at_body = omega arith in
          again_ok code frames ln at_jump (length t + length st + length b) line at_body w stack s1 (λ u s'. mb k' s') h_jump.0 e far
          (λ left is. gb at_body stack (record s1 { turns = left }) k' (has_front code at_body b _ has.1) (ways left (omega (arith, few, is)) (omega (arith, le, is))))
      decided s1 few le w false e =
          again_ends code frames ln at_jump (length t + length st + length b) line w stack s1 (k Normal s1) h_jump.0 e (moved_to code _ _ stack frames ln s1 _ loop_end (x.next s1 le))

    -- from the condition on, with at most so many bodies to come
    test_at : (n : ℕ) (s : State) → s.turns ≤ n → s.turns ≤ bound → Runs code frames ln (at_body + length b + length st) stack s (loop mt mb ms line n k s)
    test_at zero s few le =
        gt (at_body + length b + length st) stack s (λ w s'. if_holds w (fault Turns line) (pure Normal) k s') (has_front code _ t jump h_test)
        (λ w s1 l1. last_decided s1 (omega (arith, few, l1)) (omega (arith, le, l1)) w (holds w) refl)
    test_at (suc n) s few le =
        gt (at_body + length b + length st) stack s (λ w s'. if_holds w (again n (test_at n)) (pure Normal) k s') (has_front code _ t jump h_test)
        (λ w s1 l1. decided n (test_at n) s1 (omega (arith, few, l1)) (omega (arith, le, l1)) w (holds w) refl)

  pub loop_ok : (place : Place) (line : ℕ) (t st b : List Instr) (mt ms : Step Word) (mb : Step Exit) → GivesHere code frames ln t mt → Leaves code frames ln st ms
      → Does code frames ln (body_of (length st + length t + 1) 0 place) b mb → Does code frames ln place (loop_code line t st b) (loop_from mt mb ms line)
  loop_ok place line t st b mt ms mb gt gs gb pc stack s k has x =
      let e : pc + 1 + length b + length st ≡ pc + 1 + (length b + length st) = omega arith in
      skip_ok code frames ln pc (length b + length st) stack s (loop mt mb ms line s.turns k s) has.0
      (moved_to code _ _ stack frames ln s _ e (test_at place line t st b mt ms mb gt gs gb pc stack k has s.turns x s.turns s (omega arith) (omega arith)))

  -- ---- a loop whose condition stands behind its body
  module _ (place : Place) (line : ℕ) (t b : List Instr) (mt : Step Word) (mb : Step Exit)
      (gt : GivesHere code frames ln t mt) (gb : Does code frames ln (body_of (length t + 1) 0 place) b mb)
      (pc : ℕ) (stack : List Word) (k : Exit → State → Next) (has : HasAt code pc (do_code line t b))
      (bound : ℕ) (x : Exits code frames ln place (pc + length (do_code line t b)) stack bound k) where
    abbrev do_jump : List Instr
    do_jump = i.Again (length t + length b) line ∷ []

    do_test : HasAt code (pc + 1 + length b) (t ++ do_jump)
    do_test = has_back code (pc + 1) b _ has.1

    do_again : HasAt code (pc + 1 + length b + length t) do_jump
    do_again = has_back code (pc + 1 + length b) t do_jump do_test

    do_end : pc + length (do_code line t b) ≡ pc + 1 + length b + length t + 1
    do_end = omega (arith, length-append b (t ++ do_jump), length-append t do_jump)

    -- the condition, by what comes where it holds
    module _ (n : ℕ) (rec : (s : State) (w : Word) → s.turns ≤ n → s.turns ≤ bound → holds w ≡ true → Runs code frames ln (pc + 1 + length b + length t) (w ∷ stack) s (do_loop mt mb line n k s)) where
      do_stepped : (left : ℕ) (s2 : State) → left ≤ n → left ≤ bound → s2.turns ≤ left → Runs code frames ln (pc + 1 + length b) stack s2 (mt (λ w s'. if_holds w (do_loop mt mb line n) (pure Normal) k s') s2)
      do_stepped left s2 ln2 lb2 l2 =
          gt (pc + 1 + length b) stack s2 (λ w s'. if_holds w (do_loop mt mb line n) (pure Normal) k s') (has_front code _ t do_jump do_test)
          (λ w s3 l3. do_decided s3 (omega (arith, ln2, l2, l3)) (omega (arith, lb2, l2, l3)) w (holds w) refl)
        where
          do_decided : (s3 : State) → s3.turns ≤ n → s3.turns ≤ bound → (w : Word) (b' : Bool) → holds w ≡ b' → Runs code frames ln (pc + 1 + length b + length t) (w ∷ stack) s3 (cond b' (do_loop mt mb line n) (pure Normal) k s3)
          do_decided s3 few le w true e = rec s3 w few le e
          do_decided s3 few le w false e =
              again_ends code frames ln (pc + 1 + length b + length t) (length t + length b) line w stack s3 (k Normal s3) do_again.0 e (moved_to code _ _ stack frames ln s3 _ do_end (x.next s3 le))

      do_ways : (left : ℕ) → left ≤ n → left ≤ bound → Exits code frames ln (body_of (length t + 1) 0 place) (pc + 1 + length b) stack left (λ exit s'. behind_body exit (mt >>= (λ w. if_holds w (do_loop mt mb line n) (pure Normal))) k s')
      do_ways left ln2 lb2 = record {
        next = λ s2 l2. do_stepped left s2 ln2 lb2 l2;
        breaks = λ line' q m h d s2 l2.
            skip_ok code frames ln q m stack s2 (k Normal s2) h.0
            (let e : pc + length (do_code line t b) ≡ q + 1 + m = omega (arith, d, do_end) in
            moved_to code _ _ stack frames ln s2 _ e (x.next s2 (omega (arith, lb2, l2))));
        continues = λ line' q m h d s2 l2.
            skip_ok code frames ln q m stack s2 (mt (λ w s'. if_holds w (do_loop mt mb line n) (pure Normal) k s') s2) h.0
            (let e : pc + 1 + length b ≡ q + 1 + m = omega (arith, d) in
            moved_to code _ _ stack frames ln s2 _ e (do_stepped left s2 ln2 lb2 l2));
        returns = λ line' q h w s2 l2. x.returns line' q h w s2 (omega (arith, lb2, l2));
      }

      -- from the body on, behind which at most so many more may come
      do_at : (s : State) → s.turns ≤ n → s.turns ≤ bound → Runs code frames ln (pc + 1) stack s (mb (λ exit s'. behind_body exit (mt >>= (λ w. if_holds w (do_loop mt mb line n) (pure Normal))) k s') s)
      do_at s few le =
          gb (pc + 1) stack s (λ exit s'. behind_body exit (mt >>= (λ w. if_holds w (do_loop mt mb line n) (pure Normal))) k s') (has_front code (pc + 1) b _ has.1) (do_ways s.turns few le)

    -- from the jump back on, where the condition holds
    do_again_at : (n : ℕ) (s : State) (w : Word) → s.turns ≤ n → s.turns ≤ bound → holds w ≡ true → Runs code frames ln (pc + 1 + length b + length t) (w ∷ stack) s (do_loop mt mb line n k s)
    do_again_at zero s w few le e =
        let none : s.turns ≡ zero = omega (arith, few) in
        again_fails code frames ln (pc + 1 + length b + length t) (length t + length b) line w stack s k do_again.0 e none
    do_again_at (suc n) s w few le e =
        let far : pc + 1 + length b + length t - (length t + length b) ≡ pc + 1 = omega arith in
        again_ok code frames ln (pc + 1 + length b + length t) (length t + length b) line (pc + 1) w stack s _ do_again.0 e far
        (λ left is. do_at n (do_again_at n) (record s { turns = left }) (omega (arith, few, is)) (omega (arith, le, is)))

    -- from the first turn on
    do_from : (n : ℕ) (s : State) → s.turns ≡ n → s.turns ≤ bound → Runs code frames ln pc stack s (do_loop mt mb line n k s)
    do_from zero s is le = tick_fails code frames ln pc line stack s k has.0 is
    do_from (suc n) s is le =
        tick_ok code frames ln pc line stack s _ has.0 (λ left e. do_at n (do_again_at n) (record s { turns = left }) (omega (arith, is, e)) (omega (arith, le, e)))

  pub do_ok : (place : Place) (line : ℕ) (t b : List Instr) (mt : Step Word) (mb : Step Exit) → GivesHere code frames ln t mt
      → Does code frames ln (body_of (length t + 1) 0 place) b mb → Does code frames ln place (do_code line t b) (do_loop_from mt mb line)
  do_ok place line t b mt mb gt gb pc stack s k has x = do_from place line t b mt mb gt gb pc stack k has s.turns x s.turns s refl (omega arith)

  -- ---- sharing statements

  -- where a task goes on at a single
  way_place : ℕ → Way → ℕ
  way_place pc way.Run = pc + 1
  way_place pc way.Hold = pc + 2
  way_place pc way.Skip = pc + 3

  pub single_ok : (place : Place) (line construct : ℕ) (c : List Instr) (m : Step Exit) → Does code frames ln (before 1 place) c m
      → Does code frames ln place (single_code line construct c) (ask (call.HlsEnter construct) line >>= (λ a. in_way (way_of a) line construct m))
  unfolding resume_of way_place machine.step_of
  single_ok place line construct c m g pc stack s k has x =
      asks_ok code (at pc stack frames ln s.slots s.turns) (i.HlsEnter construct line) (call.HlsEnter construct) line s (λ a. at (way_place pc (way_of a)) stack frames ln s.slots s.turns) (λ a s'. in_way (way_of a) line construct m k s') refl has.0 refl refl
      (λ a. goes_by (way_of a)) (λ a more. by_way (way_of a) (record s { answers = more }) (omega arith))
    where
      goes_by : (w : Way) → way_next (at pc stack frames ln s.slots s.turns) w ≡ Goes (at (way_place pc w) stack frames ln s.slots s.turns)
      goes_by way.Run = refl
      goes_by way.Hold = refl
      goes_by way.Skip = refl

      size : pc + length (single_code line construct c) ≡ pc + 4 + length c + 1
      size = omega (arith, length-append c (i.HlsExit construct line ∷ []))

      skipped : (s1 : State) → s1.turns ≤ s.turns → Runs code frames ln (pc + 1 + 1 + 1) stack s1 (k Normal s1)
      skipped s1 l1 =
          skip_ok code frames ln (pc + 1 + 1 + 1) (length c + 1) stack s1 (k Normal s1) has.1.1.1.0
          (let e : pc + length (single_code line construct c) ≡ pc + 1 + 1 + 1 + 1 + (length c + 1) = omega (arith, size) in
          moved_to code _ _ stack frames ln s1 _ e (x.next s1 l1))

      k' : Exit → State → Next
      k' e s' = then e (ask (call.HlsExit construct) line >>= (λ a. pure Normal)) k s'

      by_way : (w : Way) (s1 : State) → s1.turns ≤ s.turns → Runs code frames ln (way_place pc w) stack s1 (in_way w line construct m k s1)
      by_way way.Run s1 l1 =
          skip_ok code frames ln (pc + 1) 2 stack s1 _ has.1.0
          (let e : pc + 1 + 1 + 1 + 1 ≡ pc + 1 + 1 + 2 = omega arith in
          moved_to code _ _ stack frames ln s1 _ e
          (g (pc + 1 + 1 + 1 + 1) stack s1 k' (has_front code (pc + 1 + 1 + 1 + 1) c _ has.1.1.1.1) (record {
            next = λ s2 l2. exit_ok code frames ln construct line (pc + 1 + 1 + 1 + 1 + length c) stack s2 (λ a s'. k Normal s') (has_back code (pc + 1 + 1 + 1 + 1) c _ has.1.1.1.1).0
                (λ a s3 l3. let e2 : pc + length (single_code line construct c) ≡ pc + 1 + 1 + 1 + 1 + length c + 1 = omega (arith, size) in
                moved_to code _ _ stack frames ln s3 _ e2 (x.next s3 (omega (arith, l1, l2, l3))));
            breaks = λ line' q n h d s2 l2. x.breaks line' q n h (omega (arith, d, size)) s2 (omega (arith, l1, l2));
            continues = λ line' q n h d s2 l2. x.continues line' q n h (omega (arith, d, size)) s2 (omega (arith, l1, l2));
            returns = λ line' q h w s2 l2. x.returns line' q h w s2 (omega (arith, l1, l2));
          })))
      by_way way.Hold s1 l1 =
          let e : pc + 1 + 1 ≡ pc + 2 = omega arith in
          moved_to code _ _ stack frames ln s1 _ e
          (wait_ok code frames ln construct line (pc + 1 + 1) stack s1 (λ a s'. k Normal s') has.1.1.0 (λ a s2 l2. skipped s2 (omega (arith, l1, l2))))
      by_way way.Skip s1 l1 =
          let e : pc + 1 + 1 + 1 ≡ pc + 3 = omega arith in
          moved_to code _ _ stack frames ln s1 _ e (skipped s1 l1)

  pub barrier_ok : (place : Place) (line construct : ℕ) → Does code frames ln place (i.HlsBar construct line ∷ i.HlsBarWait construct line ∷ []) (ask (call.HlsBar construct) line >>= (λ a. ask (call.HlsBarWait construct) line >>= (λ b. pure Normal)))
  barrier_ok place line construct pc stack s k has x =
      let e : pc + 2 ≡ pc + 1 + 1 = omega arith in
      bar_ok code frames ln construct line pc stack s _ has.0 (λ a s1 l1.
      bar_wait_ok code frames ln construct line (pc + 1) stack s1 (λ b s'. k Normal s') has.1.0 (λ b s2 l2. moved_to code _ _ stack frames ln s2 _ e (x.next s2 (omega (arith, l1, l2)))))

  -- ---- whole statements

  pub new_ok : (place : Place) (line slot words : ℕ) → Does code frames ln place (i.New slot words line ∷ []) (make line slot words >>= (λ w. pure Normal))
  new_ok place line slot words pc stack s k has x = make_ok code frames ln line slot words pc stack s (λ w s'. k Normal s') has.0 (λ w s1 l1. x.next s1 l1)

  unset_does : (place : Place) (slot : ℕ) → Does code frames ln place (i.Unset slot ∷ []) (set slot Undef >>= (λ w. pure Normal))
  unset_does place slot pc stack s k has x = unset_ok code frames ln slot pc stack s _ has.0 (x.next (record s { slots = slice_set s.slots slot Undef }) (omega arith))

  -- an item of a block, and what stands behind it
  pub item_ok : (place : Place) (end : ℕ) (first : p.Stmt) (alone rest : Place → List Instr) (ma mr : Step Exit) → ((q : Place) → Does code frames ln q (alone q) ma) → ((q : Place) → Does code frames ln q (rest q) mr)
      → Does code frames ln place (item_code place end first alone rest) (item end first ma mr)
  item_ok place end (p.New line slot words) alone rest ma mr ga gr = block_ok code frames ln place line slot words end (rest (inside slot place)) mr (gr (inside slot place))
  item_ok place end first alone rest ma mr ga gr = seq_ok code frames ln place (alone (before (length (rest place)) place)) (rest place) ma mr (ga (before (length (rest place)) place)) (gr place)

  module _ (calls : Calls) (call_ok : CallsDo code calls frames ln) where
    gives : (line : ℕ) (e : p.Expr) → GivesHere code frames ln (expr_code line e) (eval calls line e)
    gives line e = expr_ok code frames ln calls call_ok line e

    gives_test : (line : ℕ) (test : Option p.Expr) → GivesHere code frames ln (test_code line test) (test_of calls line test)
    gives_test line None = push_ok code frames ln [] (Int (pos 1))
    gives_test line (Some test) = gives line test

    leaves_step : (line : ℕ) (step : Option p.Expr) → Leaves code frames ln (step_code line step) (step_of calls line step)
    leaves_step line None = λ pc stack s k has r. let e : pc + 0 ≡ pc = omega arith in moved_to code _ _ stack frames ln s _ e (r (Int (pos 0)) s (omega arith))
    leaves_step line (Some step) = pop_behind code frames ln _ _ (gives line step)

    leaves_nothing : Leaves code frames ln [] (pure (Int (pos 0)))
    leaves_nothing = λ pc stack s k has r. let e : pc + 0 ≡ pc = omega arith in moved_to code _ _ stack frames ln s _ e (r (Int (pos 0)) s (omega arith))

    gives_return : (line : ℕ) (value : Option p.Expr) → GivesHere code frames ln (return_code line value) (returned calls line value)
    gives_return line None = push_ok code frames ln [] (Int (pos 0))
    gives_return line (Some value) = gives line value

    nothing_ok : (place : Place) → Does code frames ln place [] (pure Normal)
    nothing_ok place pc stack s k has x = let e : pc + 0 ≡ pc = omega arith in moved_to code _ _ stack frames ln s _ e (x.next s (omega arith))

    mutual
      pub stmt_ok : (st : p.Stmt) (place : Place) → Does code frames ln place (stmt_code st place) (exec calls st)
      stmt_ok (p.Eval line value) place = eval_ok code frames ln place _ _ (gives line value)
      stmt_ok (p.Unset slot) place = unset_does place slot
      stmt_ok (p.New line slot words) place = new_ok place line slot words
      stmt_ok (p.Block items end) place = items_ok end items place
      stmt_ok (p.If line test body other) place =
          if_ok code frames ln place _ _ _ _ _ _ (gives line test) (stmt_ok body (before (suc (length (stmt_code other place))) place)) (stmt_ok other place)
      stmt_ok (p.While line test body) place =
          let n = length (expr_code line test) + 1 in
          let e : n ≡ length {A = Instr} [] + length (expr_code line test) + 1 = omega arith in
          loop_ok place line (expr_code line test) [] _ _ _ _ (gives line test) leaves_nothing
          (subst (λ m. Does code frames ln (body_of m 0 place) (stmt_code body (body_of n 0 place)) (exec calls body)) e (stmt_ok body (body_of n 0 place)))
      stmt_ok (p.DoWhile line body test) place = do_ok place line (expr_code line test) _ _ _ (gives line test) (stmt_ok body (body_of (length (expr_code line test) + 1) 0 place))
      stmt_ok (p.For line test step body) place =
          loop_ok place line (test_code line test) (step_code line step) _ _ _ _ (gives_test line test) (leaves_step line step)
          (stmt_ok body (body_of (length (step_code line step) + length (test_code line test) + 1) 0 place))
      stmt_ok (p.Return line value) place = return_ok code frames ln place line _ _ (gives_return line value)
      stmt_ok (p.Break line) place = break_ok code frames ln place line
      stmt_ok (p.Continue line) place = continue_ok code frames ln place line
      stmt_ok (p.Single line construct nowait body) place = single_ok place line construct _ _ (stmt_ok body (before 1 place))
      stmt_ok (p.Barrier line construct) place = barrier_ok place line construct

      pub items_ok : (end : ℕ) (items : p.Stmts) (place : Place) → Does code frames ln place (items_code end no_ending items place) (run calls end items)
      items_ok end p.Done place = nothing_ok place
      items_ok end (p.Then first rest) place = item_ok place end first _ _ _ _ (stmt_ok first) (items_ok end rest)
