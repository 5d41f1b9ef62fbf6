-- The code of functions, their calls, and the whole program.
use Rattle.std.proofs.Common.{◌-◌, ◌≡◌, ℕ, zero, suc, ◌+◌, ◌<◌, ◌≤◌, Bool, true, false, cond, List, [], ◌∷◌, ◌++◌, length, Option, Some, None, pos, refl, sym, ap, ◌∙◌, subst, arith, append_assoc, length-append, drop}
use Rattle.std.specs.Prelude.{slice_get, slice_set, slice_index_or, nat_lt}
use Rattle.std.specs.Int.{int_wrap}
use Rattle.std.proofs.lemmas.Bool.{lt-ltb, le-ltb}
use Rattle.std.proofs.lemmas.Option.{slice_get-get_or}
use Rattle.std.proofs.Math.Seq.{get_or-append_seam}
use Rattle.mpc_values.specs.declared.limits.TheConstants.{MAX_DEPTH, MAX_TURNS}
use Rattle.mpc_values.specs.declared.values.Word.{Word}
use Rattle.mpc_values.specs.declared.values.Word.TheVariants.{Undef, Int}
use Rattle.mpc_values.specs.declared.calls.Call.TheVariants as call
use Rattle.mpc_values.specs.declared.faults.Fault.TheVariants as fault_of
use Rattle.mpc_values.specs.declared.answers.Answer.{Answer}
use Rattle.c_tree.specs.declared.program.Width.TheVariants as width
use Rattle.c_tree.specs.declared.program.Ending.{Ending}
use Rattle.c_tree.specs.declared.program.Ending.TheVariants as ending
use Rattle.c_tree.specs.Programs as p
use Rattle.c_tree.specs.Numbers.{number_of}
use Rattle.c_tree.specs.Words.{pointer_of}
use Rattle.c_tree.specs.Asking.{Next, State, Step, ◌>>=◌, pure, ask, fault, tick, tick_from, word_of}
use Rattle.c_tree.specs.Scripts.{over}
use Rattle.c_tree.specs.Evaluation.{Calls}
use Rattle.c_tree.specs.Execution.{Exit, Normal, Broken, Continued, Returned, drop_line, release, make, at_end, run_body, value_of, with_params, slots_of, exit_of, called}
use Rattle.c_tree.specs.Next.{calls_of, arguments_of_main, finish, finish_main, next_in, next_of}
use Rattle.c_code.specs.declared.instr.Instr.{Instr}
use Rattle.c_code.specs.declared.instr.Instr.TheVariants as i
use Rattle.c_code.specs.declared.code.Entry.{Entry}
use Rattle.c_code.specs.FlatCode.{FlatCode}
use Rattle.c_code.specs.Machine.{Frame, Mach, Stepped, Moves, step_of, resume_of, turned, entered, breaks, arguments_on, fetched, fetched_resume}
use Rattle.c_code.specs.Demands.{exec, behind, Reaches, begins, main_arguments, turn_limit}
use Rattle.c_compile.specs.Compiled.{Place, inside, outside, ending_code, items_code, params_code, function_code, functions_code, entries_from, params_of}
use Rattle.c_code.specs.Following.{NeverSticks}
use Rattle.c_compile.specs.Correct.{compiled, Behaves, HasMain}
use Rattle.c_compile.proofs.Steps.{at, HasAt, has_front, has_back, moved_to, goes, asks_ok, asks_on, faults}
use Rattle.c_compile.proofs.Arguments.{pushed, taken, dropped}
use Rattle.c_compile.proofs.Operations.{Runs, Is, push_ok, skip_ok}
use Rattle.c_compile.proofs.Expressions.{CallsDo}
use Rattle.c_compile.proofs.Statements.{Exits, Does, fewer, return_ok, dropped_ok}
use Rattle.c_compile.proofs.Loops.{stmt_ok, item_ok}

module _ (code : FlatCode) (frames : List Frame) (ln : ℕ) where
  missing_ok : (place : Place) (line : ℕ) → Does code frames ln place (i.Missing line ∷ []) (fault fault_of.Uninit line)
  unfolding step_of
  missing_ok place line pc stack s k has x = faults code (at pc stack frames ln s.slots s.turns) (i.Missing line) fault_of.Uninit line s k refl has.0 refl

  -- the end of a function's block
  ending_ok : (e : Ending) (line : ℕ) (place : Place) → Does code frames ln place (ending_code e line place) (at_end e line)
  ending_ok ending.Void line place = λ pc stack s k has x. let e : pc + 0 ≡ pc = omega arith in moved_to code _ _ stack frames ln s _ e (x.next s (omega arith))
  ending_ok ending.Zero line place = return_ok code frames ln place line (i.Push (Int (pos 0)) ∷ []) (pure (Int (pos 0))) (push_ok code frames ln [] (Int (pos 0)))
  ending_ok ending.Missing line place = missing_ok place line

  -- a function's block with its end
  body_ok : (calls : Calls) (call_ok : CallsDo code calls frames ln) (e : Ending) (end : ℕ) (items : p.Stmts) (place : Place) → Does code frames ln place (items_code end (ending_code e end) items place) (run_body calls e end items)
  body_ok calls call_ok e end p.Done place = ending_ok e end place
  body_ok calls call_ok e end (p.Then first rest) place = item_ok code frames ln place end first _ _ _ _ (stmt_ok code frames ln calls call_ok first) (body_ok calls call_ok e end rest)

  save_ok : (slot pc : ℕ) (stack : List Word) (s : State) (o : Next) → Is code frames ln pc (i.SaveParam slot) → Runs code frames ln (pc + 1) (slice_index_or s.slots slot Undef ∷ stack) s o → Runs code frames ln pc stack s o
  unfolding step_of
  save_ok slot pc stack s o h r = goes code (at pc stack frames ln s.slots s.turns) (at (pc + 1) (slice_index_or s.slots slot Undef ∷ stack) frames ln s.slots s.turns) (i.SaveParam slot) s.answers o refl h refl r

  made_ok : (slot pc : ℕ) (stack : List Word) (s : State) (k : Word → State → Next) → Is code frames ln pc (i.NewParam slot)
      → ((v : Word) (s' : State) → s'.turns ≤ s.turns → Runs code frames ln (pc + 1) stack s' (k v s')) → Runs code frames ln pc stack s (make ln slot 1 k s)
  unfolding step_of resume_of
  made_ok slot pc stack s k h r =
      asks_ok code (at pc stack frames ln s.slots s.turns) (i.NewParam slot) (call.New 1) ln s (λ a. at (pc + 1) stack frames ln (slice_set s.slots slot (pointer_of (word_of a))) s.turns)
      (λ a s'. k (pointer_of (word_of a)) (record s' { slots = slice_set s'.slots slot (pointer_of (word_of a)) })) refl h refl refl (λ a. refl)
      (λ a more. r (pointer_of (word_of a)) (record s { answers = more; slots = slice_set s.slots slot (pointer_of (word_of a)) }) (omega arith))

  kept_ok : (slot pc : ℕ) (w : Word) (stack : List Word) (s : State) (k : Answer → State → Next) → Is code frames ln pc (i.StoreParam slot)
      → ((a : Answer) (s' : State) → s'.turns ≤ s.turns → Runs code frames ln (pc + 1) stack s' (k a s')) → Runs code frames ln pc (w ∷ stack) s (ask (call.Store (pointer_of (slice_index_or s.slots slot Undef)) w) ln k s)
  unfolding step_of resume_of
  kept_ok slot pc w stack s k h r =
      asks_ok code (at pc (w ∷ stack) frames ln s.slots s.turns) (i.StoreParam slot) (call.Store (pointer_of (slice_index_or s.slots slot Undef)) w) ln s (λ a. at (pc + 1) stack frames ln s.slots s.turns) k refl h refl refl (λ a. refl)
      (λ a more. r a (record s { answers = more }) (omega arith))

  -- the parameters in memory, and behind them the block
  params_ok : (end slot : ℕ) (params : List Bool) (place : Place) (body : Place → List Instr) (mb : Step Exit) → ((q : Place) → Does code frames ln q (body q) mb)
      → Does code frames ln place (params_code end slot params place body) (with_params ln end slot params mb)
  params_ok end slot [] place body mb g = g place
  params_ok end slot (false ∷ more) place body mb g =
      let e : suc slot ≡ slot + 1 = omega arith in
      subst (λ n. Does code frames ln place (params_code end (suc slot) more place body) (with_params ln end n more mb)) e (params_ok end (suc slot) more place body mb g)
  params_ok end slot (true ∷ more) place body mb g = λ pc stack s k has x.
      let c = params_code end (suc slot) more (inside slot place) body ++ i.Release slot end ∷ [] in
      let m : Step Exit = with_params ln end (slot + 1) more mb >>= (λ e. release slot (drop_line e end) >>= (λ a. pure e)) in
      let e : suc slot ≡ slot + 1 = omega arith in
      let inner : Does code frames ln (inside slot place) (params_code end (suc slot) more (inside slot place) body) (with_params ln end (slot + 1) more mb) =
      subst (λ n. Does code frames ln (inside slot place) (params_code end (suc slot) more (inside slot place) body) (with_params ln end n more mb)) e (params_ok end (suc slot) more (inside slot place) body mb g) in
      let far : pc + length (i.SaveParam slot ∷ i.NewParam slot ∷ i.StoreParam slot ∷ c) ≡ pc + 1 + 1 + 1 + length c = omega arith in
      save_ok slot pc stack s _ has.0
      (made_ok slot (pc + 1) (slice_index_or s.slots slot Undef ∷ stack) s _ has.1.0 (λ v s1 l1.
      kept_ok slot (pc + 1 + 1) (slice_index_or s.slots slot Undef) stack s1 (λ a s'. m k s') has.1.1.0 (λ a s2 l2.
      dropped_ok code frames ln place slot end (params_code end (suc slot) more (inside slot place) body) (with_params ln end (slot + 1) more mb) inner (pc + 1 + 1 + 1) stack s2 k has.1.1.1
      (subst (λ q. Exits code frames ln place q stack s2.turns k) far (fewer code frames ln place _ stack _ _ k (omega (arith, l1, l2)) x)))))

push_zero : (code : FlatCode) (frames : List Frame) (ln pc : ℕ) (stack : List Word) (s : State) (o : Next) → slice_get code.instrs pc ≡ Some (i.Push (Int (pos 0))) → Runs code frames ln (pc + 1) (Int (pos 0) ∷ stack) s o → Runs code frames ln pc stack s o
unfolding step_of
push_zero code frames ln pc stack s o h r = goes code (at pc stack frames ln s.slots s.turns) (at (pc + 1) (Int (pos 0) ∷ stack) frames ln s.slots s.turns) (i.Push (Int (pos 0))) s.answers o refl h refl r

-- a return to the caller
return_to : (code : FlatCode) (f : Frame) (frames : List Frame) (ln line pc : ℕ) (w : Word) (stack : List Word) (s : State) (o : Next) → slice_get code.instrs pc ≡ Some (i.Return line)
    → Runs code frames f.line f.pc (w ∷ stack) (record s { slots = f.slots }) o → Runs code (f ∷ frames) ln pc (w ∷ stack) s o
unfolding step_of
return_to code f frames ln line pc w stack s o h r =
    goes code (at pc (w ∷ stack) (f ∷ frames) ln s.slots s.turns) (at f.pc (w ∷ stack) frames f.line f.slots s.turns) (i.Return line) s.answers o refl h refl r

-- the line of the return that an exit leads to: that of the return, or the end of the function
abbrev Lines : p.Function → Exit → ℕ → Type 0
Lines f Normal line = line ≡ f.end_line
Lines f (Broken l) line = line ≡ f.end_line
Lines f (Continued l) line = line ≡ f.end_line
Lines f (Returned l w) line = line ≡ l

-- A function's code does what the function does, and hands its value on to what comes behind its return.
function_ok : (code : FlatCode) (frames : List Frame) (ln : ℕ) (calls : Calls) → CallsDo code calls frames ln → (f : p.Function) (start : ℕ) (stack : List Word) (s : State) (k : Exit → State → Next) → HasAt code start (function_code f)
    → ((exit : Exit) (line pc : ℕ) (s' : State) → s'.turns ≤ s.turns → slice_get code.instrs pc ≡ Some (i.Return line) → Lines f exit line → Runs code frames ln pc (value_of exit ∷ stack) s' (k exit s'))
    → Runs code frames ln start stack s (with_params ln f.end_line 0 f.params (run_body calls f.ending f.end_line f.body) k s)
function_ok code frames ln calls call_ok f start stack s k has r =
    let c = params_code f.end_line 0 f.params outside (items_code f.end_line (ending_code f.ending f.end_line) f.body) in
    let tail = has_back code start c _ has in
    params_ok code frames ln f.end_line 0 f.params outside (items_code f.end_line (ending_code f.ending f.end_line) f.body) (run_body calls f.ending f.end_line f.body) (body_ok code frames ln calls call_ok f.ending f.end_line f.body)
    start stack s k (has_front code start c _ has) (record {
      next = λ s' le. zero_at (start + length c) s' tail Normal refl le refl;
      breaks = λ line pc n h d s' le. jumped pc n h.0 d s' (zero_at (start + length c) s' tail (Broken line) refl le refl);
      continues = λ line pc n h d s' le. jumped pc n h.0 d s' (zero_at (start + length c) s' tail (Continued line) refl le refl);
      returns = λ line pc h w s' le. r (Returned line w) line pc s' le h.0 refl;
    })
  where
    zero_at : (q : ℕ) (s' : State) → HasAt code q (i.Push (Int (pos 0)) ∷ i.Return f.end_line ∷ []) → (exit : Exit) → value_of exit ≡ Int (pos 0) → s'.turns ≤ s.turns → Lines f exit f.end_line → Runs code frames ln q stack s' (k exit s')
    zero_at q s' h exit is le lines = push_zero code frames ln q stack s' (k exit s') h.0 (subst (λ v. Runs code frames ln (q + 1) (v ∷ stack) s' (k exit s')) is (r exit f.end_line (q + 1) s' le h.1.0 lines))

    jumped : (pc n : ℕ) → slice_get code.instrs pc ≡ Some (i.Skip n) → pc + 0 + 1 + n ≡ start + length (params_code f.end_line 0 f.params outside (items_code f.end_line (ending_code f.ending f.end_line) f.body)) + 0 → (s' : State) {o : Next}
        → Runs code frames ln (start + length (params_code f.end_line 0 f.params outside (items_code f.end_line (ending_code f.ending f.end_line) f.body))) stack s' o → Runs code frames ln pc stack s' o
    jumped pc n h d s' {o} t =
        let e : start + length (params_code f.end_line 0 f.params outside (items_code f.end_line (ending_code f.ending f.end_line) f.body)) ≡ pc + 1 + n = omega (arith, d) in
        skip_ok code frames ln pc n stack s' o h (moved_to code _ _ stack frames ln s' o e t)

-- where a function's code stands
stands : (code : FlatCode) (fs : List p.Function) (start n : ℕ) (f : p.Function) → HasAt code start (functions_code fs) → slice_get fs n ≡ Some f
    → (e : Entry) × (slice_get (entries_from start fs) n ≡ Some e) × (e.slots ≡ f.slots) × HasAt code e.start (function_code f)
stands code [] start n f has h = absurd (cc h)
stands code (g ∷ more) start zero f has h =
    let same : g ≡ f = cc h in
    (record { start = start; slots = g.slots }, refl, ap (λ z. z.slots) same, subst (λ z. HasAt code start (function_code z)) same (has_front code start (function_code g) (functions_code more) has))
stands code (g ∷ more) start (suc n) f has h = stands code more (start + length (function_code g)) n f (has_back code start (function_code g) (functions_code more) has) h

absent : (fs : List p.Function) (start n : ℕ) → slice_get fs n ≡ None → slice_get (entries_from start fs) n ≡ None
absent [] start n h = refl
absent (g ∷ more) start zero h = absurd (cc h)
absent (g ∷ more) start (suc n) h = absent more (start + length (function_code g)) n h

module _ (code : FlatCode) (fs : List p.Function) (entries : code.entries ≡ entries_from 0 fs) (all : HasAt code 0 (functions_code fs)) where
  -- a call's instruction counts a turn before what it does
  module _ (frames : List Frame) (ln number count line pc : ℕ) (args stack : List Word) (s : State) (h : slice_get code.instrs pc ≡ Some (i.Call number count line)) where
    abbrev here : Mach
    here = at pc (pushed args stack) frames ln s.slots s.turns

    -- what the instruction does behind its turn
    abbrev goes_into : ℕ → Stepped
    goes_into left = cond (nat_lt (length frames + 1) MAX_DEPTH) (entered here line left (arguments_on count (pushed args stack)) (drop count (pushed args stack)) (slice_get code.entries number)) (breaks fault_of.Depth line)

    call_ticks : (k : Unit {0} → State → Next) → ((left : ℕ) → s.turns ≡ suc left → step_of code (i.Call number count line) here ≡ goes_into left → Reaches code here s.answers (k tt (record s { turns = left })))
        → Runs code frames ln pc (pushed args stack) s (tick line k s)
    unfolding step_of
    call_ticks k r = by_turns s.turns refl
      where
        by_turns : (t : ℕ) → s.turns ≡ t → Runs code frames ln pc (pushed args stack) s (tick_from t line k s)
        by_turns zero e = faults code here (i.Call number count line) fault_of.Turns line s k refl h (ap (λ t. turned here line t goes_into) e)
        by_turns (suc left) e = r left e (ap (λ t. turned here line t goes_into) e)

    too_deep : (k : Word → State → Next) → nat_lt (length frames + 1) MAX_DEPTH ≡ false → Runs code frames ln pc (pushed args stack) s (tick line (λ u s'. fault fault_of.Depth line k s') s)
    too_deep k deep =
        call_ticks (λ u s'. fault fault_of.Depth line k s') (λ left is st.
        faults code here (i.Call number count line) fault_of.Depth line (record s { turns = left }) k refl h
        (st ∙ ap (λ b. cond b (entered here line left (arguments_on count (pushed args stack)) (drop count (pushed args stack)) (slice_get code.entries number)) (breaks fault_of.Depth line)) deep))

    enter_ok : (calls : Calls) → ((fr : Frame) (l : ℕ) → CallsDo code calls (fr ∷ frames) l) → (k : Word → State → Next) → nat_lt (length frames + 1) MAX_DEPTH ≡ true → length args ≡ count
        → ((v : Word) (s' : State) → s'.turns ≤ s.turns → Runs code frames ln (pc + 1) (v ∷ stack) s' (k v s')) → (o : Option p.Function) → slice_get fs number ≡ o → Runs code frames ln pc (pushed args stack) s (called calls o args line k s)
    enter_ok calls calls_ok' k shallow n r None e =
        call_ticks (λ u s'. fault fault_of.Depth line k s') (λ left is st.
        faults code here (i.Call number count line) fault_of.Depth line (record s { turns = left }) k refl h
        (st ∙ ap (λ b. cond b (entered here line left (arguments_on count (pushed args stack)) (drop count (pushed args stack)) (slice_get code.entries number)) (breaks fault_of.Depth line)) shallow
        ∙ ap (entered here line left (arguments_on count (pushed args stack)) (drop count (pushed args stack))) (ap (λ l. slice_get l number) entries ∙ absent fs 0 number e)))
    enter_ok calls calls_ok' k shallow n r (Some f) e =
        let st' = stands code fs 0 number f all e in
        call_ticks (λ u s'. exit_of calls f args line (λ exit s''. k (value_of exit) s'') s') (λ left is st.
        let inner : State = record s { turns = left; slots = slots_of f.slots args } in
        let fr : Frame = record { pc = pc + 1; slots = s.slots; line = ln } in
        goes code here (at st'.0.start stack (fr ∷ frames) line (slots_of f.slots args) left) (i.Call number count line) s.answers _ refl h
        (st ∙ ap (λ b. cond b (entered here line left (arguments_on count (pushed args stack)) (drop count (pushed args stack)) (slice_get code.entries number)) (breaks fault_of.Depth line)) shallow
        ∙ ap (entered here line left (arguments_on count (pushed args stack)) (drop count (pushed args stack))) (ap (λ l. slice_get l number) entries ∙ st'.1)
        ∙ ap (λ given. entered here line left given (drop count (pushed args stack)) (Some st'.0)) (taken count args stack n)
        ∙ ap (λ rest. entered here line left args rest (Some st'.0)) (dropped count args stack n)
        ∙ ap (λ slots. Moves (at st'.0.start stack (fr ∷ frames) line (slots_of slots args) left)) st'.2)
        (function_ok code (fr ∷ frames) line calls (calls_ok' fr line) f st'.0.start stack inner (λ exit s''. k (value_of exit) (record s'' { slots = s.slots })) st'.3
        (λ exit line' pc' s' le hr lines.
        return_to code fr frames line line' pc' (value_of exit) stack s' (k (value_of exit) (record s' { slots = s.slots })) hr
        (r (value_of exit) (record s' { slots = s.slots }) (omega (arith, le, is))))))

  -- what a call's instruction does, where calls may go so much deeper
  calls_ok : (d : ℕ) (frames : List Frame) (ln : ℕ) → d + length frames + 1 ≡ MAX_DEPTH → CallsDo code (calls_of fs d) frames ln
  calls_ok zero frames ln deep = record {
    call = λ number count line pc args stack s k h n r.
        let over' : nat_lt (length frames + 1) MAX_DEPTH ≡ false = le-ltb (length frames + 1) MAX_DEPTH (omega (arith, deep)) in
        too_deep frames ln number count line pc args stack s h k over';
  }
  calls_ok (suc d) frames ln deep = record {
    call = λ number count line pc args stack s k h n r.
        let under : nat_lt (length frames + 1) MAX_DEPTH ≡ true = lt-ltb (length frames + 1) MAX_DEPTH (omega (arith, deep)) in
        enter_ok frames ln number count line pc args stack s h (calls_of fs d) (λ fr l. calls_ok d (fr ∷ frames) l (omega (arith, deep))) k under n r (slice_get fs number) refl;
  }

-- the whole code stands at its beginning
has_all : (code : FlatCode) (is before : List Instr) → code.instrs ≡ before ++ is → HasAt code (length before) is
has_all code [] before e = tt
has_all code (j ∷ is) before e =
    let within : length before < length (before ++ j ∷ is) = omega (arith, length-append before (j ∷ is)) in
    let here = ap (λ l. slice_get l (length before)) e ∙ slice_get-get_or (before ++ j ∷ is) (length before) j within ∙ ap Some (get_or-append_seam before j is j) in
    let n : length (before ++ j ∷ []) ≡ length before + 1 = omega (arith, length-append before (j ∷ [])) in
    let rest = has_all code is (before ++ j ∷ []) (e ∙ sym (append_assoc before (j ∷ []) is)) in
    (here, subst (λ m. HasAt code m is) n rest)

main_is : (params : List Bool) → main_arguments (length params) ≡ arguments_of_main params
main_is [] = refl
main_is (b ∷ more) = refl

zero_is : number_of width.Int (Int (pos 0)) ≡ pos 0
unfolding int_wrap
zero_is = refl

-- main's return asks the end of main
finish_ok : (code : FlatCode) (ln line pc : ℕ) (w : Word) (stack : List Word) (s : State) → slice_get code.instrs pc ≡ Some (i.Return line) → Runs code [] ln pc (w ∷ stack) s (finish line (number_of width.Int w) s)
unfolding step_of resume_of
finish_ok code ln line pc w stack s h =
    let m = at pc (w ∷ stack) [] ln s.slots s.turns in
    asks_on code m (call.Finish (number_of width.Int w)) line s (λ a s'. over s'.answers) (ap (fetched code m) h)
    (λ a more. (zero, ap (λ b. behind (exec code zero) false b more) (ap (fetched_resume m a) h)))

main_ends : (code : FlatCode) (ln line pc : ℕ) (f : p.Function) (exit : Exit) (stack : List Word) (s : State) (given : List Word) → slice_get code.instrs pc ≡ Some (i.Return line) → Lines f exit line → Runs code [] ln pc (value_of exit ∷ stack) s (finish_main f exit (record s { slots = given }))
main_ends code ln line pc f Normal stack s given h lines =
    subst (λ l. Runs code [] ln pc (Int (pos 0) ∷ stack) s (finish l (pos 0) (record s { slots = given }))) lines (subst (λ z. Runs code [] ln pc (Int (pos 0) ∷ stack) s (finish line z (record s { slots = given }))) zero_is (finish_ok code ln line pc (Int (pos 0)) stack s h))
main_ends code ln line pc f (Broken l) stack s given h lines =
    subst (λ l. Runs code [] ln pc (Int (pos 0) ∷ stack) s (finish l (pos 0) (record s { slots = given }))) lines (subst (λ z. Runs code [] ln pc (Int (pos 0) ∷ stack) s (finish line z (record s { slots = given }))) zero_is (finish_ok code ln line pc (Int (pos 0)) stack s h))
main_ends code ln line pc f (Continued l) stack s given h lines =
    subst (λ l. Runs code [] ln pc (Int (pos 0) ∷ stack) s (finish l (pos 0) (record s { slots = given }))) lines (subst (λ z. Runs code [] ln pc (Int (pos 0) ∷ stack) s (finish line z (record s { slots = given }))) zero_is (finish_ok code ln line pc (Int (pos 0)) stack s h))
main_ends code ln line pc f (Returned l w) stack s given h lines =
    subst (λ l. Runs code [] ln pc (w ∷ stack) s (finish l (number_of width.Int w) (record s { slots = given }))) lines (finish_ok code ln line pc w stack s h)

-- Behind every list of answers, the compiled program demands what the program asks.
pub behaves : (program : p.Program) → Behaves (compiled program) program
behaves program answers entry e = by_main (slice_get program.functions program.main) refl
  where
    code : FlatCode
    code = compiled program

    fs : List p.Function
    fs = program.functions

    all : HasAt code 0 (functions_code fs)
    all = has_all code (functions_code fs) [] refl

    by_main : (o : Option p.Function) → slice_get fs program.main ≡ o → Reaches code (begins code entry turn_limit) answers (next_in fs o (MAX_DEPTH - 1) MAX_TURNS answers)
    by_main None none = absurd (let no_entry = absent fs 0 program.main none in cc (no_entry, e))
    by_main (Some f) some =
        let st = stands code fs 0 program.main f all some in
        let same : st.0 ≡ entry = cc (st.1, e) in
        let s : State = record { slots = slots_of f.slots (arguments_of_main f.params); turns = MAX_TURNS; answers = answers } in
        let k : Exit → State → Next = λ exit s'. finish_main f exit (record s' { slots = [] }) in
        let runs : Runs code [] 0 st.0.start [] s (with_params 0 f.end_line 0 f.params (run_body (calls_of fs (MAX_DEPTH - 1)) f.ending f.end_line f.body) k s) =
        function_ok code [] 0 (calls_of fs (MAX_DEPTH - 1)) (calls_ok code fs refl all (MAX_DEPTH - 1) [] 0 refl) f st.0.start [] s k st.3
        (λ exit line pc s' le hr lines. main_ends code 0 line pc f exit [] s' [] hr lines) in
        let slots : slots_of st.0.slots (main_arguments (params_of (slice_get fs program.main))) ≡ slots_of f.slots (arguments_of_main f.params) =
        ap (λ n. slots_of n (main_arguments (params_of (slice_get fs program.main)))) st.2 ∙ ap (λ o. slots_of f.slots (main_arguments (params_of o))) some ∙ ap (slots_of f.slots) (main_is f.params) in
        subst (λ z. Reaches code (begins code z turn_limit) answers (next_in fs (Some f) (MAX_DEPTH - 1) MAX_TURNS answers)) same
        (subst (λ given. Reaches code (at st.0.start [] [] 0 given MAX_TURNS) answers (next_in fs (Some f) (MAX_DEPTH - 1) MAX_TURNS answers)) (sym slots) runs)

-- the code of a program with a main never sticks
pub never_sticks : (program : p.Program) → HasMain program → NeverSticks (compiled program)
never_sticks program within = by_main (slice_get program.functions program.main) refl
  where
    some_at : (fs : List p.Function) (n : ℕ) → n < length fs → slice_get fs n ≡ None → ⊥
    some_at [] n lt e = omega (arith, lt)
    some_at (f ∷ fs) zero lt e = absurd (cc e)
    some_at (f ∷ fs) (suc n) lt e = some_at fs n (omega (arith, lt)) e

    by_main : (o : Option p.Function) → slice_get program.functions program.main ≡ o → NeverSticks (compiled program)
    by_main None none = absurd (some_at program.functions program.main within none)
    by_main (Some f) some =
        let st = stands (compiled program) program.functions 0 program.main f (has_all (compiled program) (functions_code program.functions) [] refl) some in
        record { entry = st.0; main = st.1; demands = λ answers. (next_of program answers, behaves program answers st.0 st.1) }
