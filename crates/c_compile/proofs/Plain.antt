-- What a plain program asks: its code has no instruction that asks more.
use Rattle.std.proofs.Common.{◌-◌, ◌≡◌, ℕ, zero, suc, ◌+◌, Bool, true, false, cond, List, [], ◌∷◌, ◌++◌, length, Option, Some, None, refl, sym, ap, ◌∙◌, subst}
use Rattle.std.proofs.lemmas.Bool.{leb-true}
use Rattle.std.specs.Prelude.{slice_get, nat_le, nat_lt, ℤ, ◌&&◌, Result, Ok, Err}
use Rattle.std.specs.List.{list_all}
use Rattle.mpc_values.specs.declared.limits.TheConstants.{MAX_DEPTH, MAX_TURNS}
use Rattle.mpc_values.specs.declared.values.Word.{Word}
use Rattle.mpc_values.specs.declared.values.Word.TheVariants.{Undef, Int, Null, Ptr, Comm, Req}
use Rattle.mpc_values.specs.declared.calls.Call.{Call}
use Rattle.mpc_values.specs.declared.answers.Answer.{Answer}
use Rattle.mpc_values.specs.declared.faults.Fault.{Fault}
use Rattle.mpc_values.specs.CallTable.{call_number}
use Rattle.c_tree.specs.declared.program.Callee.{Callee}
use Rattle.c_tree.specs.declared.program.Callee.TheVariants as callee
use Rattle.c_tree.specs.declared.program.Ending.{Ending}
use Rattle.c_tree.specs.declared.program.Ending.TheVariants as ending
use Rattle.c_tree.specs.declared.program.Update.{Update}
use Rattle.c_tree.specs.declared.program.Update.TheVariants as update
use Rattle.c_tree.specs.Programs as p
use Rattle.c_tree.specs.Words.{holds}
use Rattle.c_tree.specs.Evaluation.{scalar_of}
use Rattle.c_tree.specs.Asking.{Misfit, fits}
use Rattle.c_tree.specs.Asking as asking
use Rattle.c_tree.specs.Scripts.{over, ends_run}
use Rattle.c_tree.specs.Next.{next_in}
use Rattle.c_code.specs.declared.instr.Instr.{Instr}
use Rattle.c_code.specs.declared.instr.Instr.TheVariants as i
use Rattle.c_code.specs.declared.code.Entry.{Entry}
use Rattle.c_code.specs.FlatCode.{FlatCode}
use Rattle.c_code.specs.Machine.{Mach, Frame, Stepped, Moves, Asks, Sticks, Behind, Goes, Ends, step, step_of, resume, resume_of, fetched, fetched_resume, on_top, number_next, word_next, known_next, updated_next, turned, entered, left, depth_limit}
use Rattle.c_code.specs.Demands.{behind, stepped, exec, begins, turn_limit}
use Rattle.c_compile.specs.Compiled.{callee_code, expr_code, exprs_code, Place, drops, inside, test_code, step_code, return_code, ending_code, no_ending, item_code, stmt_code, items_code, params_code, outside, function_code, functions_code, entries_from, count_of}
use Rattle.c_compile.specs.Correct.{compiled}
use Rattle.c_compile.specs.Plain.{is_plain_callee, is_plain_expr, are_plain_exprs, is_plain_option, is_plain_stmt, are_plain_stmts, is_plain_function, PlainAsks}
use Rattle.c_compile.proofs.Functions.{behaves}

-- an instruction that asks none of the calls of MPI and of shared variables
abbrev is_plain_instr : Instr → Bool
is_plain_instr (i.Mpi mpi count line) = false
is_plain_instr (i.HlsEnter construct line) = false
is_plain_instr (i.HlsWait construct line) = false
is_plain_instr (i.HlsExit construct line) = false
is_plain_instr (i.HlsBar construct line) = false
is_plain_instr (i.HlsBarWait construct line) = false
is_plain_instr other = true

abbrev AllPlain : List Instr → Type 0
AllPlain [] = Unit {0}
AllPlain (x ∷ xs) = (is_plain_instr x ≡ true) × AllPlain xs

joined : (xs ys : List Instr) → AllPlain xs → AllPlain ys → AllPlain (xs ++ ys)
joined [] ys a b = b
joined (x ∷ xs) ys a b = (a.0, joined xs ys a.1 b)

at_place : (xs : List Instr) (n : ℕ) (x : Instr) → AllPlain xs → slice_get xs n ≡ Some x → is_plain_instr x ≡ true
at_place [] n x a e = absurd (cc e)
at_place (y ∷ xs) zero x a e = let same : y ≡ x = cc e in subst (λ z. is_plain_instr z ≡ true) same a.0
at_place (y ∷ xs) (suc n) x a e = at_place xs n x a.1 e

both : (a b : Bool) → (a && b) ≡ true → (a ≡ true) × (b ≡ true)
both true b e = (refl, e)
both false b e = absurd (cc e)

-- Code of plain programs is plain.
callee_plain : (line : ℕ) (c : Callee) (count : ℕ) → is_plain_callee c ≡ true → AllPlain (callee_code line c count)
callee_plain line (callee.Function number) count h = (refl, tt)
callee_plain line (callee.Print format) count h = (refl, tt)
callee_plain line (callee.Mpi mpi) count h = absurd (cc h)

one : (x : Instr) → is_plain_instr x ≡ true → AllPlain (x ∷ [])
one x h = (h, tt)

-- the code of two operands, with an instruction behind them
pair : (a b : List Instr) (x : Instr) → is_plain_instr x ≡ true → AllPlain a → AllPlain b → AllPlain (a ++ (b ++ x ∷ []))
pair a b x h pa pb = joined a _ pa (joined b _ pb (h, tt))

-- an instruction before code
cons : (x : Instr) (xs : List Instr) → is_plain_instr x ≡ true → AllPlain xs → AllPlain (x ∷ xs)
cons x xs h a = (h, a)

mutual
  expr_plain : (line : ℕ) (e : p.Expr) → is_plain_expr e ≡ true → AllPlain (expr_code line e)
  expr_plain line (p.Constant word) h = (refl, tt)
  expr_plain line (p.Local slot) h = (refl, tt)
  expr_plain line (p.Object slot) h = (refl, tt)
  expr_plain line (p.Load scalar place) h = joined _ _ (expr_plain line place h) (refl, tt)
  expr_plain line (p.SetLocal slot value) h = joined _ _ (expr_plain line value h) (refl, tt)
  expr_plain line (p.Store place value) h = let q = both _ _ h in pair _ _ _ refl (expr_plain line place q.0) (expr_plain line value q.1)
  expr_plain line (p.UpdateLocal update slot value) h = joined (i.Get slot line ∷ (expr_code line value ++ i.Update update line ∷ [])) _ (cons (i.Get slot line) _ refl (joined _ _ (expr_plain line value h) (refl, tt))) (refl, tt)
  expr_plain line (p.UpdateStore update place value) h =
      let q = both _ _ h in
      joined (expr_code line place) _ (expr_plain line place q.0) (joined (i.Peek (scalar_of update) line ∷ (expr_code line value ++ i.Update update line ∷ [])) _ (cons (i.Peek (scalar_of update) line) _ refl (joined _ _ (expr_plain line value q.1) (refl, tt))) (refl, tt))
  expr_plain line (p.StepLocal update true slot) h = (refl, (refl, (refl, (refl, tt))))
  expr_plain line (p.StepLocal update false slot) h = (refl, (refl, (refl, (refl, (refl, (refl, tt))))))
  expr_plain line (p.StepStore update true place) h = joined _ _ (expr_plain line place h) (refl, (refl, (refl, (refl, tt))))
  expr_plain line (p.StepStore update false place) h = joined _ _ (expr_plain line place h) (refl, (refl, (refl, (refl, (refl, (refl, tt))))))
  expr_plain line (p.Negate width value) h = joined _ _ (expr_plain line value h) (refl, tt)
  expr_plain line (p.Complement value) h = joined _ _ (expr_plain line value h) (refl, tt)
  expr_plain line (p.Not value) h = joined _ _ (expr_plain line value h) (refl, tt)
  expr_plain line (p.Narrow value) h = joined _ _ (expr_plain line value h) (refl, tt)
  expr_plain line (p.Arithmetic width operation a b) h = let q = both _ _ h in pair _ _ _ refl (expr_plain line a q.0) (expr_plain line b q.1)
  expr_plain line (p.Compare comparison a b) h = let q = both _ _ h in pair _ _ _ refl (expr_plain line a q.0) (expr_plain line b q.1)
  expr_plain line (p.Same wanted a b) h = let q = both _ _ h in pair _ _ _ refl (expr_plain line a q.0) (expr_plain line b q.1)
  expr_plain line (p.And a b) h =
      let q = both _ _ h in joined _ _ (expr_plain line a q.0) (refl, joined _ _ (expr_plain line b q.1) (refl, (refl, (refl, tt))))
  expr_plain line (p.Or a b) h =
      let q = both _ _ h in joined _ _ (expr_plain line a q.0) (refl, (refl, (refl, joined _ _ (expr_plain line b q.1) (refl, tt))))
  expr_plain line (p.Choice test yes' no') h =
      let q = both _ _ h in let r = both _ _ q.1 in
      joined _ _ (expr_plain line test q.0) (refl, joined _ _ (expr_plain line yes' r.0) (refl, expr_plain line no' r.1))
  expr_plain line (p.Offset back words pointer index) h = let q = both _ _ h in pair _ _ _ refl (expr_plain line pointer q.0) (expr_plain line index q.1)
  expr_plain line (p.Malloc size bytes) h = joined _ _ (expr_plain line bytes h) (refl, tt)
  expr_plain line (p.Free pointer) h = joined _ _ (expr_plain line pointer h) (refl, tt)
  expr_plain line (p.Apply callee arguments) h = let q = both _ _ h in joined _ _ (exprs_plain line arguments q.1) (callee_plain line callee (count_of arguments) q.0)

  exprs_plain : (line : ℕ) (es : p.Exprs) → are_plain_exprs es ≡ true → AllPlain (exprs_code line es)
  exprs_plain line p.End h = tt
  exprs_plain line (p.More first rest) h = let q = both _ _ h in joined _ _ (expr_plain line first q.0) (exprs_plain line rest q.1)

drops_plain : (line : ℕ) (slots : List ℕ) → AllPlain (drops line slots)
drops_plain line [] = tt
drops_plain line (slot ∷ slots) = (refl, drops_plain line slots)

test_plain : (line : ℕ) (e : Option p.Expr) → is_plain_option e ≡ true → AllPlain (test_code line e)
test_plain line None h = (refl, tt)
test_plain line (Some e) h = expr_plain line e h

step_plain : (line : ℕ) (e : Option p.Expr) → is_plain_option e ≡ true → AllPlain (step_code line e)
step_plain line None h = tt
step_plain line (Some e) h = joined _ _ (expr_plain line e h) (refl, tt)

return_plain : (line : ℕ) (e : Option p.Expr) → is_plain_option e ≡ true → AllPlain (return_code line e)
return_plain line None h = (refl, tt)
return_plain line (Some e) h = expr_plain line e h

item_plain : (place : Place) (end : ℕ) (first : p.Stmt) (alone rest : Place → List Instr) → ((q : Place) → AllPlain (alone q)) → ((q : Place) → AllPlain (rest q)) → AllPlain (item_code place end first alone rest)
item_plain place end (p.New line slot words) alone rest a r = (refl, joined _ _ (r (inside slot place)) (refl, tt))
item_plain place end (p.Eval line value) alone rest a r = joined _ _ (a _) (r place)
item_plain place end (p.Unset slot) alone rest a r = joined _ _ (a _) (r place)
item_plain place end (p.Block items e) alone rest a r = joined _ _ (a _) (r place)
item_plain place end (p.If line test body other) alone rest a r = joined _ _ (a _) (r place)
item_plain place end (p.While line test body) alone rest a r = joined _ _ (a _) (r place)
item_plain place end (p.DoWhile line body test) alone rest a r = joined _ _ (a _) (r place)
item_plain place end (p.For line test step body) alone rest a r = joined _ _ (a _) (r place)
item_plain place end (p.Return line value) alone rest a r = joined _ _ (a _) (r place)
item_plain place end (p.Break line) alone rest a r = joined _ _ (a _) (r place)
item_plain place end (p.Continue line) alone rest a r = joined _ _ (a _) (r place)
item_plain place end (p.Single line construct nowait body) alone rest a r = joined _ _ (a _) (r place)
item_plain place end (p.Barrier line construct) alone rest a r = joined _ _ (a _) (r place)

mutual
  stmt_plain : (s : p.Stmt) → is_plain_stmt s ≡ true → (place : Place) → AllPlain (stmt_code s place)
  stmt_plain (p.Eval line value) h place = joined _ _ (expr_plain line value h) (refl, tt)
  stmt_plain (p.Unset slot) h place = (refl, tt)
  stmt_plain (p.New line slot words) h place = (refl, tt)
  stmt_plain (p.Block items end) h place = items_plain end no_ending items h (λ q. tt) place
  stmt_plain (p.If line test body other) h place =
      let q = both _ _ h in let r = both _ _ q.1 in
      joined _ _ (expr_plain line test q.0) (refl, joined _ _ (stmt_plain body r.0 _) (refl, stmt_plain other r.1 place))
  stmt_plain (p.While line test body) h place =
      let q = both _ _ h in (refl, joined _ _ (stmt_plain body q.1 _) (joined _ _ (expr_plain line test q.0) (refl, tt)))
  stmt_plain (p.DoWhile line body test) h place =
      let q = both _ _ h in (refl, joined _ _ (stmt_plain body q.0 _) (joined _ _ (expr_plain line test q.1) (refl, tt)))
  stmt_plain (p.For line test step body) h place =
      let q = both _ _ h in let r = both _ _ q.1 in
      (refl, joined _ _ (stmt_plain body r.1 _) (joined _ _ (step_plain line step r.0) (joined _ _ (test_plain line test q.0) (refl, tt))))
  stmt_plain (p.Return line value) h place = joined _ _ (return_plain line value h) (joined _ _ (drops_plain line place.in_function) (refl, tt))
  stmt_plain (p.Break line) h place = joined _ _ (drops_plain line place.in_loop) (refl, tt)
  stmt_plain (p.Continue line) h place = joined _ _ (drops_plain line place.in_loop) (refl, tt)
  stmt_plain (p.Single line construct nowait body) h place = absurd (cc h)
  stmt_plain (p.Barrier line construct) h place = absurd (cc h)

  items_plain : (end : ℕ) (tail : Place → List Instr) (items : p.Stmts) → are_plain_stmts items ≡ true → ((q : Place) → AllPlain (tail q)) → (place : Place) → AllPlain (items_code end tail items place)
  items_plain end tail p.Done h t place = t place
  items_plain end tail (p.Then first rest) h t place =
      let q = both _ _ h in item_plain place end first _ _ (stmt_plain first q.0) (items_plain end tail rest q.1 t)

ending_plain : (e : Ending) (line : ℕ) (place : Place) → AllPlain (ending_code e line place)
ending_plain ending.Void line place = tt
ending_plain ending.Zero line place = (refl, joined _ _ (drops_plain line place.in_function) (refl, tt))
ending_plain ending.Missing line place = (refl, tt)

params_plain : (end slot : ℕ) (params : List Bool) (place : Place) (body : Place → List Instr) → ((q : Place) → AllPlain (body q)) → AllPlain (params_code end slot params place body)
params_plain end slot [] place body h = h place
params_plain end slot (false ∷ more) place body h = params_plain end (suc slot) more place body h
params_plain end slot (true ∷ more) place body h = (refl, (refl, (refl, joined _ _ (params_plain end (suc slot) more (inside slot place) body h) (refl, tt))))

functions_plain : (fs : List p.Function) → list_all is_plain_function fs ≡ true → AllPlain (functions_code fs)
functions_plain [] h = tt
functions_plain (f ∷ fs) h =
    let q = both _ _ h in
    joined _ _ (joined _ _ (params_plain f.end_line 0 f.params outside _ (items_plain f.end_line (ending_code f.ending f.end_line) f.body q.0 (ending_plain f.ending f.end_line))) (refl, (refl, tt))) (functions_plain fs q.1)

-- What a step of a plain instruction leads to: a state without a script, or a call from load to finish.
abbrev IsPlainCall : Call → Type 0
IsPlainCall call = nat_le (call_number call) 9 ≡ true

abbrev PlainStep : Stepped → Type 0
PlainStep (Moves m) = m.script ≡ None
PlainStep (Asks call line) = IsPlainCall call
PlainStep Sticks = Unit {0}

abbrev PlainBehind : Behind → Type 0
PlainBehind (Goes m) = m.script ≡ None
PlainBehind Ends = Unit {0}

top_plain : (stack : List Word) (go : Word → List Word → Stepped) → ((w : Word) (ws : List Word) → PlainStep (go w ws)) → PlainStep (on_top stack go)
top_plain [] go h = tt
top_plain (w ∷ ws) go h = h w ws

module _ (m : Mach) (none : m.script ≡ None) where
  number_plain : (stack : List Word) (line : ℕ) (r : Result ℤ Fault) → PlainStep (number_next m stack line r)
  number_plain stack line (Ok z) = none
  number_plain stack line (Err f) = refl

  word_plain : (stack : List Word) (line : ℕ) (r : Result Word Fault) → PlainStep (word_next m stack line r)
  word_plain stack line (Ok w) = none
  word_plain stack line (Err f) = refl

  known_plain : (line : ℕ) (w : Word) → PlainStep (known_next m line w)
  known_plain line Undef = refl
  known_plain line (Int z) = none
  known_plain line Null = none
  known_plain line (Ptr obj at) = none
  known_plain line (Comm comm) = none
  known_plain line (Req req) = none

  updated_plain : (stack : List Word) (line : ℕ) (u : Update) (old right : Word) → PlainStep (updated_next m stack line u old right)
  updated_plain stack line (update.Number operation w target) old right = number_plain stack line _
  updated_plain stack line (update.Pointer back words) old right = word_plain stack line _

  turned_plain : (line turns : ℕ) (go : ℕ → Stepped) → ((n : ℕ) → PlainStep (go n)) → PlainStep (turned m line turns go)
  turned_plain line zero go h = refl
  turned_plain line (suc n) go h = h n

  chosen_plain : (b : Bool) (x y : Stepped) → PlainStep x → PlainStep y → PlainStep (cond b x y)
  chosen_plain true x y hx hy = hx
  chosen_plain false x y hx hy = hy

  entered_plain : (line turns : ℕ) (arguments stack : List Word) (e : Option Entry) → PlainStep (entered m line turns arguments stack e)
  entered_plain line turns arguments stack None = refl
  entered_plain line turns arguments stack (Some e) = none

  left_plain : (w : Word) (stack : List Word) (line : ℕ) (frames : List Frame) → PlainStep (left m w stack line frames)
  left_plain w stack line [] = refl
  left_plain w stack line (f ∷ frames) = none

  instr_plain : (code : FlatCode) (x : Instr) → is_plain_instr x ≡ true → PlainStep (step_of code x m)
  unfolding step_of
  instr_plain code (i.Push w) h = none
  instr_plain code i.Pop h = top_plain m.stack _ (λ w ws. none)
  instr_plain code i.Duplicate h = top_plain m.stack _ (λ w ws. none)
  instr_plain code i.Tuck h = top_plain m.stack _ (λ w ws. top_plain ws _ (λ v vs. none))
  instr_plain code (i.Get slot line) h = known_plain line _
  instr_plain code (i.Object slot) h = none
  instr_plain code (i.Set slot) h = top_plain m.stack _ (λ w ws. none)
  instr_plain code (i.Unset slot) h = none
  instr_plain code (i.Load scalar line) h = top_plain m.stack _ (λ w ws. refl)
  instr_plain code (i.Peek scalar line) h = top_plain m.stack _ (λ w ws. refl)
  instr_plain code (i.Store line) h = top_plain m.stack _ (λ w ws. top_plain ws _ (λ v vs. refl))
  instr_plain code (i.Update u line) h = top_plain m.stack _ (λ w ws. top_plain ws _ (λ v vs. updated_plain vs line u v w))
  instr_plain code (i.Negate w line) h = top_plain m.stack _ (λ x ws. number_plain ws line _)
  instr_plain code i.Complement h = top_plain m.stack _ (λ w ws. none)
  instr_plain code i.Not h = top_plain m.stack _ (λ w ws. none)
  instr_plain code i.Narrow h = top_plain m.stack _ (λ w ws. none)
  instr_plain code (i.Arithmetic w operation line) h = top_plain m.stack _ (λ y ys. top_plain ys _ (λ x ws. number_plain ws line _))
  instr_plain code (i.Compare comparison) h = top_plain m.stack _ (λ y ys. top_plain ys _ (λ x ws. none))
  instr_plain code (i.Same wanted) h = top_plain m.stack _ (λ y ys. top_plain ys _ (λ x ws. none))
  instr_plain code i.Truth h = top_plain m.stack _ (λ w ws. none)
  instr_plain code (i.Unless n) h = top_plain m.stack _ (λ x ws. chosen_plain (holds x) _ _ none none)
  instr_plain code (i.Skip n) h = none
  instr_plain code (i.Again n line) h = top_plain m.stack _ (λ x ws. chosen_plain (holds x) _ _ (turned_plain line m.turns _ (λ t. none)) none)
  instr_plain code (i.Tick line) h = turned_plain line m.turns _ (λ t. none)
  instr_plain code (i.Offset back words line) h = top_plain m.stack _ (λ n ns. top_plain ns _ (λ p ws. word_plain ws line _))
  instr_plain code (i.Malloc size line) h = top_plain m.stack _ (λ w ws. refl)
  instr_plain code (i.Free line) h = top_plain m.stack _ (λ w ws. refl)
  instr_plain code (i.Call function count line) h = turned_plain line m.turns _ (λ t. chosen_plain (nat_lt (length m.frames + 1) depth_limit) _ _ (entered_plain line t _ _ _) refl)
  instr_plain code (i.Print print line) h = refl
  instr_plain code (i.Mpi mpi count line) h = absurd (cc h)
  instr_plain code (i.New slot words line) h = refl
  instr_plain code (i.Release slot line) h = refl
  instr_plain code (i.SaveParam slot) h = none
  instr_plain code (i.NewParam slot) h = refl
  instr_plain code (i.StoreParam slot) h = top_plain m.stack _ (λ w ws. refl)
  instr_plain code (i.HlsEnter construct line) h = absurd (cc h)
  instr_plain code (i.HlsWait construct line) h = absurd (cc h)
  instr_plain code (i.HlsExit construct line) h = absurd (cc h)
  instr_plain code (i.HlsBar construct line) h = absurd (cc h)
  instr_plain code (i.HlsBarWait construct line) h = absurd (cc h)
  instr_plain code (i.Missing line) h = refl
  instr_plain code (i.Return line) h = top_plain m.stack _ (λ w ws. left_plain w ws line m.frames)

  behind_plain : (x : Instr) (a : Answer) → is_plain_instr x ≡ true → PlainBehind (resume_of x m a)
  unfolding resume_of
  behind_plain (i.Push w) a h = none
  behind_plain i.Pop a h = none
  behind_plain i.Duplicate a h = none
  behind_plain i.Tuck a h = none
  behind_plain (i.Get slot line) a h = none
  behind_plain (i.Object slot) a h = none
  behind_plain (i.Set slot) a h = none
  behind_plain (i.Unset slot) a h = none
  behind_plain (i.Load scalar line) a h = none
  behind_plain (i.Peek scalar line) a h = none
  behind_plain (i.Store line) a h = none
  behind_plain (i.Update u line) a h = none
  behind_plain (i.Negate w line) a h = none
  behind_plain i.Complement a h = none
  behind_plain i.Not a h = none
  behind_plain i.Narrow a h = none
  behind_plain (i.Arithmetic w operation line) a h = none
  behind_plain (i.Compare comparison) a h = none
  behind_plain (i.Same wanted) a h = none
  behind_plain i.Truth a h = none
  behind_plain (i.Unless n) a h = none
  behind_plain (i.Skip n) a h = none
  behind_plain (i.Again n line) a h = none
  behind_plain (i.Tick line) a h = none
  behind_plain (i.Offset back words line) a h = none
  behind_plain (i.Malloc size line) a h = none
  behind_plain (i.Free line) a h = none
  behind_plain (i.Call function count line) a h = none
  behind_plain (i.Print print line) a h = none
  behind_plain (i.Mpi mpi count line) a h = absurd (cc h)
  behind_plain (i.New slot words line) a h = none
  behind_plain (i.Release slot line) a h = none
  behind_plain (i.SaveParam slot) a h = none
  behind_plain (i.NewParam slot) a h = none
  behind_plain (i.StoreParam slot) a h = none
  behind_plain (i.HlsEnter construct line) a h = absurd (cc h)
  behind_plain (i.HlsWait construct line) a h = absurd (cc h)
  behind_plain (i.HlsExit construct line) a h = absurd (cc h)
  behind_plain (i.HlsBar construct line) a h = absurd (cc h)
  behind_plain (i.HlsBarWait construct line) a h = absurd (cc h)
  behind_plain (i.Missing line) a h = none
  behind_plain (i.Return line) a h = tt

-- What plain code demands.
module _ (code : FlatCode) (plain : AllPlain code.instrs) where
  fetched_plain : (m : Mach) → m.script ≡ None → (o : Option Instr) → slice_get code.instrs m.pc ≡ o → PlainStep (fetched code m o)
  fetched_plain m none None e = tt
  fetched_plain m none (Some x) e = instr_plain m none code x (at_place code.instrs m.pc x plain e)

  step_is_plain : (m : Mach) → m.script ≡ None → PlainStep (step code m m.script)
  step_is_plain m none = subst (λ s. PlainStep (step code m s)) (sym none) (fetched_plain m none _ refl)

  fetched_behind : (m : Mach) (a : Answer) → m.script ≡ None → (o : Option Instr) → slice_get code.instrs m.pc ≡ o → PlainBehind (fetched_resume m a o)
  fetched_behind m a none None e = none
  fetched_behind m a none (Some x) e = behind_plain m none x a (at_place code.instrs m.pc x plain e)

  resume_is_plain : (m : Mach) (a : Answer) → m.script ≡ None → PlainBehind (resume code m a m.script)
  resume_is_plain m a none = subst (λ s. PlainBehind (resume code m a s)) (sym none) (fetched_behind m a none _ refl)

  over_asks : (more : List Answer) (call : Call) (line : ℕ) → Some (over more) ≡ Some (asking.Asks call line) → IsPlainCall call
  over_asks [] call line e = absurd (cc e)
  over_asks (a ∷ more) call line e = absurd (cc e)

  -- so many steps from a state without a script come to no other call
  abbrev Within : ℕ → Type 0
  Within n = (m : Mach) (answers : List Answer) (call : Call) (line : ℕ) → m.script ≡ None → exec code n m answers ≡ Some (asking.Asks call line) → IsPlainCall call

  answered_plain : (n : ℕ) → Within n → (call : Call) (line : ℕ) (fit ends : Bool) (b : Behind) (more : List Answer) → PlainBehind b → cond fit (behind (exec code n) ends b more) (Some Misfit) ≡ Some (asking.Asks call line) → IsPlainCall call
  answered_plain n ih call line false ends b more h e = absurd (cc e)
  answered_plain n ih call line true true b more h e = over_asks more call line e
  answered_plain n ih call line true false (Goes m) more h e = ih m more call line h e
  answered_plain n ih call line true false Ends more h e = over_asks more call line e

  stepped_plain : (n : ℕ) → Within n → (m : Mach) (answers : List Answer) (call : Call) (line : ℕ) → m.script ≡ None → (st : Stepped) → PlainStep st → stepped code (exec code n) m st answers ≡ Some (asking.Asks call line) → IsPlainCall call
  stepped_plain n ih m answers call line none (Moves m') h e = ih m' answers call line h e
  stepped_plain n ih m [] call line none (Asks c l) h e = let same : c ≡ call = cc e in subst IsPlainCall same h
  stepped_plain n ih m (a ∷ more) call line none (Asks c l) h e = answered_plain n ih call line (fits c a) (ends_run c) (resume code m a m.script) more (resume_is_plain m a none) e
  stepped_plain n ih m answers call line none Sticks h e = absurd (cc e)

  exec_plain : (n : ℕ) → Within n
  exec_plain zero m answers call line none e = absurd (cc e)
  exec_plain (suc n) m answers call line none e = stepped_plain n (exec_plain n) m answers call line none (step code m m.script) (step_is_plain m none) e

-- A plain program asks none of the calls of MPI and of shared variables.
pub plain_asks : PlainAsks
plain_asks program answers call line h e = leb-true (call_number call) 9 (by_entry (slice_get (compiled program).entries program.main) refl)
  where
    all : AllPlain (compiled program).instrs
    all = functions_plain program.functions (both _ _ h).0

    by_entry : (o : Option Entry) → slice_get (compiled program).entries program.main ≡ o → IsPlainCall call
    by_entry (Some entry) some = let r = behaves program answers entry some in exec_plain (compiled program) all r.steps (begins (compiled program) entry turn_limit) answers call line refl (r.ends ∙ ap Some e)
    by_entry None none = by_main (slice_get program.functions program.main) refl none
      where
        entries_there : (fs : List p.Function) (start n : ℕ) (f : p.Function) → slice_get fs n ≡ Some f → slice_get (entries_from start fs) n ≡ None → ⊥
        entries_there [] start n f s e' = absurd (cc s)
        entries_there (g ∷ fs) start zero f s e' = absurd (cc e')
        entries_there (g ∷ fs) start (suc n) f s e' = entries_there fs (start + length (function_code g)) n f s e'

        by_main : (o : Option p.Function) → slice_get program.functions program.main ≡ o → slice_get (compiled program).entries program.main ≡ None → IsPlainCall call
        by_main None lacks none = over_is answers (ap (λ o. next_in program.functions o (MAX_DEPTH - 1) MAX_TURNS answers) (sym lacks) ∙ e)
          where
            over_is : (more : List Answer) → over more ≡ asking.Asks call line → IsPlainCall call
            over_is [] e' = absurd (cc e')
            over_is (a ∷ more) e' = absurd (cc e')
        by_main (Some f) some none = absurd (entries_there program.functions 0 program.main f some none)
