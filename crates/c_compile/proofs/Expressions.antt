-- The code of an expression gives its value, and asks what its evaluation asks.
use Rattle.std.proofs.Common.{◌≡◌, ℕ, suc, ◌+◌, ◌≤◌, not, cond, List, [], ◌∷◌, ◌++◌, length, Some, pos, refl, ap, arith, length-append}
use Rattle.std.specs.Prelude.{slice_get}
use Rattle.mpc_values.specs.declared.values.Word.{Word}
use Rattle.mpc_values.specs.declared.values.Word.TheVariants.{Int}
use Rattle.mpc_values.specs.declared.calls.Call.TheVariants as call
use Rattle.c_tree.specs.declared.formats.Piece.{Piece}
use Rattle.c_tree.specs.declared.program.Callee.{Callee}
use Rattle.c_tree.specs.declared.program.Callee.TheVariants as callee
use Rattle.c_tree.specs.declared.program.Width.TheVariants as width
use Rattle.c_tree.specs.Programs as p
use Rattle.c_tree.specs.Numbers.{number_of}
use Rattle.c_tree.specs.Arithmetic.{operated, compared}
use Rattle.c_tree.specs.Words.{printed, truth, same_word}
use Rattle.c_tree.specs.Asking.{Next, State, ◌>>=◌, pure, ask, set, word_of}
use Rattle.c_tree.specs.Evaluation.{Calls, eval, eval_all, applied, load, store, updated, offset, number_or_fault, scalar_of}
use Rattle.c_code.specs.declared.instr.Instr.TheVariants as i
use Rattle.c_code.specs.FlatCode.{FlatCode}
use Rattle.c_code.specs.Machine.{Frame, Asks, step_of, resume_of, go_next}
use Rattle.c_compile.specs.Compiled.{expr_code, exprs_code, callee_code, count_of}
use Rattle.c_compile.proofs.Steps.{at, HasAt, has_front, has_back, moved_to, asks_ok}
use Rattle.c_compile.proofs.Arguments.{pushed, taken, dropped}
use Rattle.c_compile.proofs.ScriptRuns.{mpi_ok}
use Rattle.c_compile.proofs.Operations.{Runs, Is, Gives, one_ok, two_ok, push_ok, get_ok, object_ok, set_ok, load_ok, peek_ok, negate_ok, complement_ok, not_ok, narrow_ok, malloc_ok, free_ok, store_ok, arithmetic_ok, compare_ok, same_ok, offset_ok, update_ok}
use Rattle.c_compile.proofs.Choices.{and_ok, or_ok, choice_ok, then_ok, step_local_ok, step_store_ok}

-- A call's instruction does what the call does.
pub record CallsDo (code : FlatCode) (calls : Calls) (frames : List Frame) (ln : ℕ) : Type 0 where
  pub call : (number count line pc : ℕ) (args stack : List Word) (s : State) (k : Word → State → Next) → slice_get code.instrs pc ≡ Some (i.Call number count line) → length args ≡ count
      → ((v : Word) (s' : State) → s'.turns ≤ s.turns → Runs code frames ln (pc + 1) (v ∷ stack) s' (k v s')) → Runs code frames ln pc (pushed args stack) s (calls number args line k s)

module _ (code : FlatCode) (frames : List Frame) (ln : ℕ) where
  print_ok : (format : List Piece) (count line pc : ℕ) (args stack : List Word) (s : State) (k : Word → State → Next) → Is code frames ln pc (i.Print (record { format = format; count = count }) line) → length args ≡ count
      → ((v : Word) (s' : State) → s'.turns ≤ s.turns → Runs code frames ln (pc + 1) (v ∷ stack) s' (k v s'))
      → Runs code frames ln pc (pushed args stack) s (ask (call.Print (printed format args)) line (λ a s'. k (Int (number_of width.Int (word_of a))) s') s)
  unfolding step_of resume_of
  print_ok format count line pc args stack s k h n r =
      let m = at pc (pushed args stack) frames ln s.slots s.turns in
      asks_ok code m (i.Print (record { format = format; count = count }) line) (call.Print (printed format args)) line s (λ a. at (pc + 1) (Int (number_of width.Int (word_of a)) ∷ stack) frames ln s.slots s.turns) (λ a s'. k (Int (number_of width.Int (word_of a))) s') refl h
      (ap (λ given. Asks (call.Print (printed format given)) line) (taken count args stack n)) refl
      (λ a. ap (λ rest. go_next m (Int (number_of width.Int (word_of a)) ∷ rest)) (dropped count args stack n))
      (λ a more. r (Int (number_of width.Int (word_of a))) (record s { answers = more }) (omega arith))

  module _ (calls : Calls) (call_ok : CallsDo code calls frames ln) (line : ℕ) where
    callee_ok : (c : Callee) (count pc : ℕ) (args stack : List Word) (s : State) (k : Word → State → Next) → HasAt code pc (callee_code line c count) → length args ≡ count
        → ((v : Word) (s' : State) → s'.turns ≤ s.turns → Runs code frames ln (pc + length (callee_code line c count)) (v ∷ stack) s' (k v s')) → Runs code frames ln pc (pushed args stack) s (applied calls line c args k s)
    callee_ok (callee.Function number) count pc args stack s k has n r = call_ok.call number count line pc args stack s k has.0 n r
    callee_ok (callee.Print format) count pc args stack s k has n r = print_ok format count line pc args stack s k has.0 n r
    callee_ok (callee.Mpi mpi) count pc args stack s k has n r =
        mpi_ok code frames ln pc mpi count line args stack s k has.0 n (λ answers. r (Int (pos 0)) (record s { answers = answers }) (omega arith))

    mutual
      pub expr_ok : (e : p.Expr) → Gives code frames ln (expr_code line e) (eval calls line e)
      expr_ok (p.Constant word) = push_ok code frames ln [] word
      expr_ok (p.Local slot) = get_ok code frames ln slot line
      expr_ok (p.Object slot) = object_ok code frames ln slot
      expr_ok (p.Load scalar place) = one_ok code frames ln [] _ _ (i.Load scalar line) (λ pointer. load scalar pointer line) (expr_ok place) (load_ok code frames ln scalar line)
      expr_ok (p.SetLocal slot value) = one_ok code frames ln [] _ _ (i.Set slot) (set slot) (expr_ok value) (set_ok code frames ln slot)
      expr_ok (p.Store place value) =
          two_ok code frames ln [] _ _ _ (λ x. eval calls line value) (i.Store line) (λ pointer word. store pointer word line) (expr_ok place)
          (λ x pc stack s k has r. expr_ok value pc (x ∷ stack) s k has r) (store_ok code frames ln line)
      expr_ok (p.UpdateLocal update slot value) =
          one_ok code frames ln [] (i.Get slot line ∷ (expr_code line value ++ i.Update update line ∷ [])) _ (i.Set slot) (set slot)
          (two_ok code frames ln [] (i.Get slot line ∷ []) _ _ (λ x. eval calls line value) (i.Update update line) (λ old right. updated update old right line) (get_ok code frames ln slot line)
          (λ x pc stack s k has r. expr_ok value pc (x ∷ stack) s k has r) (update_ok code frames ln update line))
          (set_ok code frames ln slot)
      expr_ok (p.UpdateStore update place value) =
          two_ok code frames ln [] _ (i.Peek (scalar_of update) line ∷ (expr_code line value ++ i.Update update line ∷ [])) _ (λ pointer. load (scalar_of update) pointer line >>= (λ old. eval calls line value >>= (λ right. updated update old right line))) (i.Store line) (λ pointer new. store pointer new line) (expr_ok place)
          (λ pointer. two_ok code frames ln (pointer ∷ []) (i.Peek (scalar_of update) line ∷ []) _ _ (λ old. eval calls line value) (i.Update update line) (λ old right. updated update old right line) (peek_ok code frames ln (scalar_of update) line pointer)
          (λ x pc stack s k has r. expr_ok value pc (x ∷ stack) s k has r) (update_ok code frames ln update line))
          (store_ok code frames ln line)
      expr_ok (p.StepLocal update before slot) = step_local_ok code frames ln update before slot line
      expr_ok (p.StepStore update before place) = then_ok code frames ln _ _ _ _ (expr_ok place) (step_store_ok code frames ln update before line)
      expr_ok (p.Negate w value) = one_ok code frames ln [] _ _ (i.Negate w line) _ (expr_ok value) (negate_ok code frames ln w line)
      expr_ok (p.Complement value) = one_ok code frames ln [] _ _ i.Complement _ (expr_ok value) (complement_ok code frames ln)
      expr_ok (p.Not value) = one_ok code frames ln [] _ _ i.Not _ (expr_ok value) (not_ok code frames ln)
      expr_ok (p.Narrow value) = one_ok code frames ln [] _ _ i.Narrow _ (expr_ok value) (narrow_ok code frames ln)
      expr_ok (p.Arithmetic w operation left right) =
          two_ok code frames ln [] _ _ _ (λ x. eval calls line right) (i.Arithmetic w operation line) (λ x y. number_or_fault (operated w operation (number_of width.Long x) (number_of width.Long y)) line) (expr_ok left)
          (λ x pc stack s k has r. expr_ok right pc (x ∷ stack) s k has r) (arithmetic_ok code frames ln w operation line)
      expr_ok (p.Compare comparison left right) =
          two_ok code frames ln [] _ _ _ (λ x. eval calls line right) (i.Compare comparison) (λ x y. pure (truth (compared comparison (number_of width.Long x) (number_of width.Long y)))) (expr_ok left)
          (λ x pc stack s k has r. expr_ok right pc (x ∷ stack) s k has r) (compare_ok code frames ln comparison)
      expr_ok (p.Same wanted left right) =
          two_ok code frames ln [] _ _ _ (λ x. eval calls line right) (i.Same wanted) (λ x y. pure (truth (cond wanted (same_word x y) (not (same_word x y))))) (expr_ok left)
          (λ x pc stack s k has r. expr_ok right pc (x ∷ stack) s k has r) (same_ok code frames ln wanted)
      expr_ok (p.And left right) = and_ok code frames ln _ _ _ _ (expr_ok left) (expr_ok right)
      expr_ok (p.Or left right) = or_ok code frames ln _ _ _ _ (expr_ok left) (expr_ok right)
      expr_ok (p.Choice test yes' no') = choice_ok code frames ln _ _ _ _ _ _ (expr_ok test) (expr_ok yes') (expr_ok no')
      expr_ok (p.Offset back words pointer index) =
          two_ok code frames ln [] _ _ _ (λ x. eval calls line index) (i.Offset back words line) (λ x n. offset back words x n line) (expr_ok pointer)
          (λ x pc stack s k has r. expr_ok index pc (x ∷ stack) s k has r) (offset_ok code frames ln back words line)
      expr_ok (p.Malloc size bytes) = one_ok code frames ln [] _ _ (i.Malloc size line) _ (expr_ok bytes) (malloc_ok code frames ln size line)
      expr_ok (p.Free pointer) = one_ok code frames ln [] _ _ (i.Free line) _ (expr_ok pointer) (free_ok code frames ln line)
      expr_ok (p.Apply c arguments) = λ pc stack s k has r.
          let a = exprs_code line arguments in
          let b = callee_code line c (count_of arguments) in
          let len : pc + length (a ++ b) ≡ pc + length a + length b = omega (arith, length-append a b) in
          exprs_ok arguments pc stack s _ (has_front code pc a b has) (λ ws s1 n le1.
          callee_ok c (count_of arguments) (pc + length a) ws stack s1 k (has_back code pc a b has) n
          (λ v s2 le2. moved_to code _ _ (v ∷ stack) frames ln s2 _ len (r v s2 (omega (arith, le1, le2)))))

      pub exprs_ok : (es : p.Exprs) (pc : ℕ) (stack : List Word) (s : State) (k : List Word → State → Next) → HasAt code pc (exprs_code line es)
          → ((ws : List Word) (s' : State) → length ws ≡ count_of es → s'.turns ≤ s.turns → Runs code frames ln (pc + length (exprs_code line es)) (pushed ws stack) s' (k ws s')) → Runs code frames ln pc stack s (eval_all calls line es k s)
      exprs_ok p.End pc stack s k has r =
          let e : pc + 0 ≡ pc = omega arith in
          moved_to code _ _ stack frames ln s _ e (r [] s refl (omega arith))
      exprs_ok (p.More e es) pc stack s k has r =
          let a = expr_code line e in
          let b = exprs_code line es in
          let len : pc + length (a ++ b) ≡ pc + length a + length b = omega (arith, length-append a b) in
          expr_ok e pc stack s _ (has_front code pc a b has) (λ w s1 le1.
          exprs_ok es (pc + length a) (w ∷ stack) s1 _ (has_back code pc a b has) (λ ws s2 n le2.
          moved_to code _ _ (pushed ws (w ∷ stack)) frames ln s2 _ len (r (w ∷ ws) s2 (ap suc n) (omega (arith, le1, le2)))))
