-- A task ends by the answer to a finish or an abort: nothing is asked after it, and it comes at no other place.
--
-- What a task asks is a tree of calls, as in the laws of c_tree, whose root always asks. The answer to a last call leads to
-- the end, and that to any other call to a tree again.
use Rattle.std.proofs.Common.{◌-◌, ◌<◌, ◌≡◌, ℕ, zero, suc, ◌+◌, Bool, true, false, cond, List, [], ◌∷◌, ◌++◌, length, Option, Some, None, Result, Ok, Err, ℤ, pos, negsuc, refl, sym, ap, subst, slice_get, slice_index_or, slice_set, arith}
use Rattle.mpc_values.specs.declared.limits.TheConstants.{MAX_DEPTH, MAX_TURNS}
use Rattle.mpc_values.specs.declared.values.Word.{Word}
use Rattle.mpc_values.specs.declared.values.Word.TheVariants.{Undef, Int, Null, Ptr, Comm, Req}
use Rattle.mpc_values.specs.declared.calls.Call.{Call}
use Rattle.mpc_values.specs.declared.calls.Call.TheVariants as call
use Rattle.mpc_values.specs.declared.faults.Fault.{Fault}
use Rattle.mpc_values.specs.declared.faults.Fault.TheVariants as fault_of
use Rattle.mpc_values.specs.declared.answers.Answer.{Answer}
use Rattle.mpc_values.specs.declared.answers.Answer.TheVariants.{Done, Gives, Posted, Got, Flag, Any, Entered}
use Rattle.mpc_values.specs.declared.answers.Status.{Status}
use Rattle.mpc_values.specs.declared.answers.Way.{Way}
use Rattle.mpc_values.specs.declared.answers.Way.TheVariants as way
use Rattle.c_tree.specs.declared.program.MpiCall.{MpiCall}
use Rattle.c_tree.specs.declared.program.Scalar.{Scalar}
use Rattle.c_tree.specs.declared.program.Update.{Update}
use Rattle.c_tree.specs.declared.program.Update.TheVariants as update_of
use Rattle.c_tree.specs.declared.program.Callee.{Callee}
use Rattle.c_tree.specs.declared.program.Callee.TheVariants as callee
use Rattle.c_tree.specs.declared.program.Ending.{Ending}
use Rattle.c_tree.specs.declared.program.Ending.TheVariants as ending
use Rattle.c_tree.specs.declared.scripts.ScriptStep.{ScriptStep}
use Rattle.c_tree.specs.declared.scripts.ScriptStep.TheVariants as step
use Rattle.c_tree.specs.Programs as p
use Rattle.c_tree.specs.MpiScripts.{steps_of, each_of, last_of}
use Rattle.c_tree.specs.Words.{holds, pointer_of, moved}
use Rattle.c_tree.specs.Asking.{Next, Asks, Over, Misfit, fits, State, Step, ◌>>=◌, pure, asked, ask, fault, get, set, tick, tick_from}
use Rattle.c_tree.specs.Scripts.{Found, nothing_found, Wanted, Wants, Skips, Breaks, loaded, stored, status_word, status_wanted, where_given, null_at_index, place_of, word_behind, pointer_at, wanted, found_behind, number_at, ends_run, over, take_step, take_steps, take_each, take_requests, asks_of}
use Rattle.c_tree.specs.Evaluation.{Calls, known, value_of_local, number_or_fault, word_or_fault, load, store, updated, applied, eval, eval_all}
use Rattle.c_tree.specs.Execution.{Exit, Normal, Broken, Continued, Returned, then, behind_body, drop_line, object_of, release, make, test_of, step_of, loop, loop_from, do_loop, do_loop_from, in_way, way_of, returned, item, exec, run, at_end, run_body, with_params, slots_of, exit_of, called}
use Rattle.c_tree.specs.Next.{calls_of, arguments_of_main, finish, finish_main, next_in, next_of}
use Rattle.node_core.proofs.Places.{get_there}

-- the calls after whose answer a task asks nothing more
abbrev pub is_last : Call → Bool
is_last (call.Finish code) = true
is_last (call.Abort comm code) = true
is_last other = false

-- It is over behind no answer, and any answer is a misfit.
pub record IsOver (g : List Answer → Next) : Type 0 where
  pub first : g [] ≡ Over
  pub other : (a : Answer) (more : List Answer) → g (a ∷ more) ≡ Misfit

-- what comes behind the answer to a last call, or else to another one
abbrev pub Further : ((List Answer → Next) → Type 0) → Bool → (List Answer → Next) → Type 0
Further again true g = IsOver g
Further again false g = again g

-- A call is asked behind no answer, and an answer of another kind is a misfit.
pub record AsksFirst (again : (List Answer → Next) → Type 0) (g : List Answer → Next) : Type 0 where
  pub call : Call
  pub line : ℕ
  pub first : g [] ≡ Asks call line
  pub other : (a : Answer) (more : List Answer) → fits call a ≡ false → g (a ∷ more) ≡ Misfit
  pub further : (a : Answer) → fits call a ≡ true → Further again (is_last call) (λ more. g (a ∷ more))

-- a tree of calls, looked at so many answers deep
abbrev pub Tree : ℕ → (List Answer → Next) → Type 0
Tree zero g = Unit {0}
Tree (suc n) g = AsksFirst (Tree n) g

nearer : (P Q : (List Answer → Next) → Type 0) (b : Bool) (g : List Answer → Next) → (P g → Q g) → Further P b g → Further Q b g
nearer P Q true g f h = h
nearer P Q false g f h = f h

shallower : (n : ℕ) (g : List Answer → Next) → Tree (suc n) g → Tree n g
shallower zero g t = tt
shallower (suc n) g t = record {
  call = t.call;
  line = t.line;
  first = t.first;
  other = t.other;
  further = λ a fit. nearer (Tree (suc n)) (Tree n) (is_last t.call) (λ more. g (a ∷ more)) (shallower n (λ more. g (a ∷ more))) (t.further a fit);
}

-- a step that hands on to trees of calls is one
pub record Fair {A : Type 0} (m : Step A) : Type 0 where
  pub by : (n : ℕ) (k : A → State → Next) → ((a : A) (s : State) → Tree n (λ l. k a (record s { answers = l }))) → (s : State) → Tree n (λ l. m k (record s { answers = l }))

pure_fair : {A : Type 0} (a : A) → Fair (pure a)
pure_fair a = record { by = λ n k t s. t a s }

bind_fair : {A B : Type 0} (m : Step A) (f : A → Step B) → Fair m → ((a : A) → Fair (f a)) → Fair (m >>= f)
bind_fair m f fm ff = record { by = λ n k t s. fm.by n (λ a s'. f a k s') (λ a s'. (ff a).by n k t s') s }

cond_misfit : (b : Bool) (o : Next) → b ≡ false → cond b o Misfit ≡ Misfit
cond_misfit true o e = absurd (cc e)
cond_misfit false o e = refl

-- what is asked, by what comes behind each answer
asked_tree : (n : ℕ) (c : Call) (line : ℕ) (k : Answer → List Answer → Next) → is_last c ≡ false → ((a : Answer) → Tree n (k a)) → Tree (suc n) (asked c line k)
asked_tree n c line k goes t = record {
  call = c;
  line = line;
  first = refl;
  other = λ a more no'. cond_misfit (fits c a) (k a more) no';
  further = λ a fit. subst (λ e. Further (Tree n) e (λ more. cond (fits c a) (k a more) Misfit)) (sym goes) (subst (λ b. Tree n (λ more. cond b (k a more) Misfit)) (sym fit) (t a));
}

-- the same of a last call
last_tree : (n : ℕ) (c : Call) (line : ℕ) (k : Answer → List Answer → Next) → is_last c ≡ true → ((a : Answer) → IsOver (k a)) → Tree (suc n) (asked c line k)
last_tree n c line k ends o = record {
  call = c;
  line = line;
  first = refl;
  other = λ a more no'. cond_misfit (fits c a) (k a more) no';
  further = λ a fit. subst (λ e. Further (Tree n) e (λ more. cond (fits c a) (k a more) Misfit)) (sym ends) (subst (λ b. IsOver (λ more. cond b (k a more) Misfit)) (sym fit) (o a));
}

ask_tree : (c : Call) (line n : ℕ) (k : Answer → State → Next) → is_last c ≡ false → ((a : Answer) (s : State) → Tree n (λ l. k a (record s { answers = l }))) → (s : State) → Tree n (λ l. ask c line k (record s { answers = l }))
ask_tree c line zero k goes t s = tt
ask_tree c line (suc n) k goes t s = asked_tree n c line (λ a more. k a (record s { answers = more })) goes (λ a. shallower n (λ l. k a (record s { answers = l })) (t a s))

ask_fair : (c : Call) (line : ℕ) → is_last c ≡ false → Fair (ask c line)
ask_fair c line goes = record { by = λ n k t s. ask_tree c line n k goes t s }

broke_fits : (f : Fault) (a : Answer) → fits (call.Broke f) a ≡ false
broke_fits f Done = refl
broke_fits f (Gives w) = refl
broke_fits f (Posted r q m w) = refl
broke_fits f (Got st) = refl
broke_fits f (Flag st) = refl
broke_fits f (Any i st) = refl
broke_fits f (Entered w) = refl

fault_tree : {A : Type 0} (f : Fault) (line n : ℕ) (k : A → State → Next) (s : State) → Tree n (λ l. fault f line k (record s { answers = l }))
fault_tree f line zero k s = tt
fault_tree f line (suc n) k s = record {
  call = call.Broke f;
  line = line;
  first = refl;
  other = λ a more no'. cond_misfit (fits (call.Broke f) a) Misfit no';
  further = λ a fit. absurd (cc (fit, broke_fits f a));
}

fault_fair : {A : Type 0} (f : Fault) (line : ℕ) → Fair {A = A} (fault f line)
fault_fair f line = record { by = λ n k t s. fault_tree f line n k s }

get_fair : (slot : ℕ) → Fair (get slot)
get_fair slot = record { by = λ n k t s. t (slice_index_or s.slots slot Undef) s }

set_fair : (slot : ℕ) (w : Word) → Fair (set slot w)
set_fair slot w = record { by = λ n k t s. t w (record s { slots = slice_set s.slots slot w }) }

tick_from_fair : (turns line : ℕ) → Fair (tick_from turns line)
tick_from_fair zero line = fault_fair fault_of.Turns line
tick_from_fair (suc left) line = record { by = λ n k t s. t tt (record s { turns = left }) }

tick_fair : (line : ℕ) → Fair (tick line)
tick_fair line = record { by = λ n k t s. (tick_from_fair s.turns line).by n k t s }

cond_fair : {A : Type 0} (b : Bool) (x y : Step A) → Fair x → Fair y → Fair (cond b x y)
cond_fair true x y fx fy = fx
cond_fair false x y fx fy = fy

-- ---- scripts

is_over : IsOver over
is_over = record { first = refl; other = λ a more. refl }

-- what a step wants is a last call only where the run ends behind its answer
GoesOn : Wanted → Type 0
GoesOn (Wants c) = is_last c ≡ ends_run c
GoesOn Skips = Unit {0}
GoesOn (Breaks f) = Unit {0}

module _ (st : ScriptStep) (line : ℕ) (found : Found) where
  take_tree : (c : Call) (b : Bool) → ends_run c ≡ b → is_last c ≡ b → (n : ℕ) (k : Found → State → Next) → ((a : Found) (s : State) → Tree n (λ l. k a (record s { answers = l }))) → (s : State)
      → Tree n (λ l. take_step st line found (Wants c) k (record s { answers = l }))
  take_tree c false ends goes n k t s =
      ask_tree c line n (λ a s'. cond (ends_run c) (over s'.answers) (k (found_behind st found a) s')) goes
      (λ a s'. subst (λ b. Tree n (λ l. cond b (over l) (k (found_behind st found a) (record s' { answers = l })))) (sym ends) (t (found_behind st found a) s')) s
  take_tree c true ends goes zero k t s = tt
  take_tree c true ends goes (suc n) k t s =
      last_tree n c line (λ a more. cond (ends_run c) (over more) (k (found_behind st found a) (record s { answers = more }))) goes
      (λ a. subst (λ b. IsOver (λ more. cond b (over more) (k (found_behind st found a) (record s { answers = more })))) (sym ends) is_over)

  take_step_fair : (w : Wanted) → GoesOn w → Fair (take_step st line found w)
  unfolding GoesOn
  take_step_fair (Wants c) goes = record { by = λ n k t s. take_tree c (ends_run c) refl goes n k t s }
  take_step_fair Skips goes = record { by = λ n k t s. t found s }
  take_step_fair (Breaks f) goes = fault_fair f line

loaded_goes : (r : Result Word Fault) → GoesOn (loaded r)
unfolding GoesOn
loaded_goes (Ok place) = refl
loaded_goes (Err f) = tt

stored_goes : (r : Result Word Fault) (word : Word) → GoesOn (stored r word)
unfolding GoesOn
stored_goes (Ok place) word = refl
stored_goes (Err f) word = tt

status_goes : (b : Bool) (status : Option Status) (place : Result Word Fault) (word : ℕ) → GoesOn (status_wanted b status place word)
unfolding GoesOn
status_goes true status place word = tt
status_goes false None place word = tt
status_goes false (Some status) place word = stored_goes (word_behind place word) (status_word status word)

given_goes : (status : Option Status) (w : Wanted) → GoesOn w → GoesOn (where_given status w)
unfolding GoesOn
given_goes None w h = tt
given_goes (Some status) w h = h

index_goes : (first : Word) (index : ℤ) → GoesOn (null_at_index first index)
unfolding GoesOn
index_goes first (pos index) = stored_goes (moved first (pos index)) (Req 0)
index_goes first (negsuc index) = tt

wanted_goes : (mpi : MpiCall) (arguments : List Word) (index : ℕ) (found : Found) (st : ScriptStep) → GoesOn (wanted mpi arguments index found st)
unfolding GoesOn
wanted_goes mpi arguments index found step.Init = refl
wanted_goes mpi arguments index found step.Finalize = refl
wanted_goes mpi arguments index found (step.Abort comm code) = refl
wanted_goes mpi arguments index found (step.Rank comm) = refl
wanted_goes mpi arguments index found (step.Size comm) = refl
wanted_goes mpi arguments index found (step.LoadComm place) = refl
wanted_goes mpi arguments index found (step.Arrive coll) = refl
wanted_goes mpi arguments index found (step.Leave comm) = refl
wanted_goes mpi arguments index found step.ArriveFree = refl
wanted_goes mpi arguments index found step.LeaveFree = refl
wanted_goes mpi arguments index found (step.StoreWord place) = refl
wanted_goes mpi arguments index found (step.StoreNullComm place) = refl
wanted_goes mpi arguments index found (step.Send p) = refl
wanted_goes mpi arguments index found (step.SyncSend p) = refl
wanted_goes mpi arguments index found (step.Recv p) = refl
wanted_goes mpi arguments index found step.Complete = refl
wanted_goes mpi arguments index found step.CompleteEarlier = refl
wanted_goes mpi arguments index found (step.StoreRequest place) = refl
wanted_goes mpi arguments index found (step.LoadRequest target) = loaded_goes (place_of arguments index target)
wanted_goes mpi arguments index found (step.CollectRequest target) = loaded_goes (place_of arguments index target)
wanted_goes mpi arguments index found step.Test = refl
wanted_goes mpi arguments index found (step.StoreNullRequest target) = given_goes found.status (stored (place_of arguments index target) (Req 0)) (stored_goes (place_of arguments index target) (Req 0))
wanted_goes mpi arguments index found step.AnyOf = refl
wanted_goes mpi arguments index found (step.StoreNullAtIndex place) = index_goes (pointer_at arguments place) found.index
wanted_goes mpi arguments index found (step.StoreIndex place) = refl
wanted_goes mpi arguments index found (step.StoreFlag place) = refl
wanted_goes mpi arguments index found (step.StoreStatus target word) = status_goes mpi.ignored found.status (place_of arguments index target) word
wanted_goes mpi arguments index found (step.Probe peer tag comm) = refl
wanted_goes mpi arguments index found (step.Iprobe peer tag comm) = refl
wanted_goes mpi arguments index found (step.LoadCount place) = loaded_goes (word_behind (Ok (pointer_at arguments place)) 2)

module _ (mpi : MpiCall) (arguments : List Word) (line : ℕ) where
  steps_fair : (index : ℕ) (steps : List ScriptStep) (found : Found) → Fair (take_steps mpi arguments line index steps found)
  steps_fair index [] found = pure_fair found
  steps_fair index (st ∷ rest) found =
      bind_fair (take_step st line found (wanted mpi arguments index found st)) (λ f. take_steps mpi arguments line index rest f) (take_step_fair st line found (wanted mpi arguments index found st) (wanted_goes mpi arguments index found st)) (λ f. steps_fair index rest f)

  each_fair : (steps : List ScriptStep) (index more : ℕ) (found : Found) → Fair (take_each mpi arguments line steps index more found)
  each_fair steps index zero found = pure_fair found
  each_fair steps index (suc more) found =
      bind_fair (take_steps mpi arguments line index steps found) (λ f. take_each mpi arguments line steps (index + 1) more f) (steps_fair index steps found) (λ f. each_fair steps (index + 1) more f)

  requests_fair : (steps : List ScriptStep) (count : ℤ) (found : Found) → Fair (take_requests mpi arguments line steps count found)
  requests_fair [] count found = pure_fair found
  requests_fair (st ∷ steps) (pos count) found = each_fair (st ∷ steps) 0 count found
  requests_fair (st ∷ steps) (negsuc count) found = fault_fair fault_of.BadCount line

  script_fair : Fair (asks_of mpi arguments line)
  script_fair =
      bind_fair (take_steps mpi arguments line 0 (steps_of mpi.function) nothing_found) _ (steps_fair 0 (steps_of mpi.function) nothing_found) (λ f.
      bind_fair (take_requests mpi arguments line (each_of mpi.function) (number_at arguments 0) f) _ (requests_fair (each_of mpi.function) (number_at arguments 0) f) (λ f'. steps_fair 0 (last_of mpi.function) f'))

-- ---- expressions

known_fair : (w : Word) (line : ℕ) → Fair (known w line)
known_fair Undef line = fault_fair fault_of.Uninit line
known_fair (Int z) line = pure_fair (Int z)
known_fair Null line = pure_fair Null
known_fair (Ptr obj at) line = pure_fair (Ptr obj at)
known_fair (Comm c) line = pure_fair (Comm c)
known_fair (Req r) line = pure_fair (Req r)

local_fair : (slot line : ℕ) → Fair (value_of_local slot line)
local_fair slot line = bind_fair (get slot) (λ w. known w line) (get_fair slot) (λ w. known_fair w line)

number_fair : (r : Result ℤ Fault) (line : ℕ) → Fair (number_or_fault r line)
number_fair (Ok z) line = pure_fair (Int z)
number_fair (Err f) line = fault_fair f line

word_fair : (r : Result Word Fault) (line : ℕ) → Fair (word_or_fault r line)
word_fair (Ok w) line = pure_fair w
word_fair (Err f) line = fault_fair f line

load_fair : (kind : Scalar) (place : Word) (line : ℕ) → Fair (load kind place line)
load_fair kind place line = bind_fair (ask (call.Load place) line) _ (ask_fair (call.Load place) line refl) (λ a. pure_fair _)

store_fair : (place w : Word) (line : ℕ) → Fair (store place w line)
store_fair place w line = bind_fair (ask (call.Store place w) line) _ (ask_fair (call.Store place w) line refl) (λ a. pure_fair w)

updated_fair : (u : Update) (old right : Word) (line : ℕ) → Fair (updated u old right line)
updated_fair (update_of.Number operation w target) old right line = number_fair _ line
updated_fair (update_of.Pointer back words) old right line = word_fair _ line

-- calls that are fair
abbrev pub FairCalls : Calls → Type 0
FairCalls calls = (number : ℕ) (arguments : List Word) (line : ℕ) → Fair (calls number arguments line)

module _ (calls : Calls) (fair : FairCalls calls) (line : ℕ) where
  applied_fair : (c : Callee) (arguments : List Word) → Fair (applied calls line c arguments)
  applied_fair (callee.Function number) arguments = fair number arguments line
  applied_fair (callee.Print format) arguments = bind_fair (ask _ line) _ (ask_fair _ line refl) (λ a. pure_fair _)
  applied_fair (callee.Mpi mpi) arguments = bind_fair (asks_of mpi arguments line) _ (script_fair mpi arguments line) (λ f. pure_fair _)

  mutual
    eval_fair : (e : p.Expr) → Fair (eval calls line e)
    eval_fair (p.Constant word) = pure_fair word
    eval_fair (p.Local slot) = local_fair slot line
    eval_fair (p.Object slot) = bind_fair (get slot) _ (get_fair slot) (λ w. pure_fair (pointer_of w))
    eval_fair (p.Load kind place) = bind_fair (eval calls line place) _ (eval_fair place) (λ w. load_fair kind w line)
    eval_fair (p.SetLocal slot value) = bind_fair (eval calls line value) _ (eval_fair value) (λ w. set_fair slot w)
    eval_fair (p.Store place value) = bind_fair (eval calls line place) _ (eval_fair place) (λ v. bind_fair (eval calls line value) _ (eval_fair value) (λ w. store_fair v w line))
    eval_fair (p.UpdateLocal u slot value) =
        bind_fair (value_of_local slot line) _ (local_fair slot line) (λ old. bind_fair (eval calls line value) _ (eval_fair value) (λ right. bind_fair (updated u old right line) _ (updated_fair u old right line) (λ new. set_fair slot new)))
    eval_fair (p.UpdateStore u place value) =
        bind_fair (eval calls line place) _ (eval_fair place) (λ v. bind_fair (load _ v line) _ (load_fair _ v line) (λ old. bind_fair (eval calls line value) _ (eval_fair value) (λ right. bind_fair (updated u old right line) _ (updated_fair u old right line) (λ new. store_fair v new line))))
    eval_fair (p.StepLocal u before slot) =
        bind_fair (value_of_local slot line) _ (local_fair slot line) (λ old. bind_fair (updated u old (Int (pos 1)) line) _ (updated_fair u old (Int (pos 1)) line) (λ new. bind_fair (set slot new) _ (set_fair slot new) (λ w. pure_fair (cond before new old))))
    eval_fair (p.StepStore u before place) =
        bind_fair (eval calls line place) _ (eval_fair place) (λ v. bind_fair (load _ v line) _ (load_fair _ v line) (λ old. bind_fair (updated u old (Int (pos 1)) line) _ (updated_fair u old (Int (pos 1)) line) (λ new. bind_fair (store v new line) _ (store_fair v new line) (λ w. pure_fair (cond before new old)))))
    eval_fair (p.Negate w value) = bind_fair (eval calls line value) _ (eval_fair value) (λ v. number_fair _ line)
    eval_fair (p.Complement value) = bind_fair (eval calls line value) _ (eval_fair value) (λ v. pure_fair _)
    eval_fair (p.Not value) = bind_fair (eval calls line value) _ (eval_fair value) (λ v. pure_fair _)
    eval_fair (p.Narrow value) = bind_fair (eval calls line value) _ (eval_fair value) (λ v. pure_fair _)
    eval_fair (p.Arithmetic w operation left right) = bind_fair (eval calls line left) _ (eval_fair left) (λ x. bind_fair (eval calls line right) _ (eval_fair right) (λ y. number_fair _ line))
    eval_fair (p.Compare comparison left right) = bind_fair (eval calls line left) _ (eval_fair left) (λ x. bind_fair (eval calls line right) _ (eval_fair right) (λ y. pure_fair _))
    eval_fair (p.Same wanted left right) = bind_fair (eval calls line left) _ (eval_fair left) (λ x. bind_fair (eval calls line right) _ (eval_fair right) (λ y. pure_fair _))
    eval_fair (p.And left right) = bind_fair (eval calls line left) _ (eval_fair left) (λ x. cond_fair (holds x) _ _ (bind_fair (eval calls line right) _ (eval_fair right) (λ y. pure_fair _)) (pure_fair _))
    eval_fair (p.Or left right) = bind_fair (eval calls line left) _ (eval_fair left) (λ x. cond_fair (holds x) _ _ (pure_fair _) (bind_fair (eval calls line right) _ (eval_fair right) (λ y. pure_fair _)))
    eval_fair (p.Choice test yes' no') = bind_fair (eval calls line test) _ (eval_fair test) (λ x. cond_fair (holds x) _ _ (eval_fair yes') (eval_fair no'))
    eval_fair (p.Offset back words pointer index) = bind_fair (eval calls line pointer) _ (eval_fair pointer) (λ x. bind_fair (eval calls line index) _ (eval_fair index) (λ y. word_fair _ line))
    eval_fair (p.Malloc size bytes) = bind_fair (eval calls line bytes) _ (eval_fair bytes) (λ x. bind_fair (ask _ line) _ (ask_fair _ line refl) (λ a. pure_fair _))
    eval_fair (p.Free pointer) = bind_fair (eval calls line pointer) _ (eval_fair pointer) (λ x. bind_fair (ask (call.Free x) line) _ (ask_fair (call.Free x) line refl) (λ a. pure_fair _))
    eval_fair (p.Apply c arguments) = bind_fair (eval_all calls line arguments) _ (all_fair arguments) (λ ws. applied_fair c ws)

    all_fair : (es : p.Exprs) → Fair (eval_all calls line es)
    all_fair p.End = pure_fair []
    all_fair (p.More e es) = bind_fair (eval calls line e) _ (eval_fair e) (λ w. bind_fair (eval_all calls line es) _ (all_fair es) (λ ws. pure_fair (w ∷ ws)))

-- ---- statements

then_fair : (e : Exit) (m : Step Exit) → Fair m → Fair (then e m)
then_fair Normal m f = f
then_fair (Broken l) m f = pure_fair (Broken l)
then_fair (Continued l) m f = pure_fair (Continued l)
then_fair (Returned l w) m f = pure_fair (Returned l w)

behind_fair : (e : Exit) (m : Step Exit) → Fair m → Fair (behind_body e m)
behind_fair Normal m f = f
behind_fair (Broken l) m f = pure_fair Normal
behind_fair (Continued l) m f = f
behind_fair (Returned l w) m f = pure_fair (Returned l w)

make_fair : (line slot words : ℕ) → Fair (make line slot words)
make_fair line slot words = bind_fair (ask (call.New words) line) _ (ask_fair (call.New words) line refl) (λ a. set_fair slot _)

release_fair : (slot line : ℕ) → Fair (release slot line)
release_fair slot line = bind_fair (get slot) _ (get_fair slot) (λ w. ask_fair (call.Drop (object_of w)) line refl)

loop_fair : (test : Step Word) (body : Step Exit) (st : Step Word) (line n : ℕ) → Fair test → Fair body → Fair st → Fair (loop test body st line n)
loop_fair test body st line zero ft fb fs = bind_fair test _ ft (λ w. cond_fair (holds w) _ _ (fault_fair fault_of.Turns line) (pure_fair Normal))
loop_fair test body st line (suc n) ft fb fs =
    bind_fair test _ ft (λ w. cond_fair (holds w) _ _
    (bind_fair (tick line) _ (tick_fair line) (λ u. bind_fair body _ fb (λ e. behind_fair e _ (bind_fair st _ fs (λ v. loop_fair test body st line n ft fb fs)))))
    (pure_fair Normal))

loop_from_fair : (test : Step Word) (body : Step Exit) (st : Step Word) (line : ℕ) → Fair test → Fair body → Fair st → Fair (loop_from test body st line)
loop_from_fair test body st line ft fb fs = record { by = λ n k t s. (loop_fair test body st line s.turns ft fb fs).by n k t s }

do_loop_fair : (test : Step Word) (body : Step Exit) (line n : ℕ) → Fair test → Fair body → Fair (do_loop test body line n)
do_loop_fair test body line zero ft fb = fault_fair fault_of.Turns line
do_loop_fair test body line (suc n) ft fb =
    bind_fair (tick line) _ (tick_fair line) (λ u. bind_fair body _ fb (λ e. behind_fair e _ (bind_fair test _ ft (λ w. cond_fair (holds w) _ _ (do_loop_fair test body line n ft fb) (pure_fair Normal)))))

do_loop_from_fair : (test : Step Word) (body : Step Exit) (line : ℕ) → Fair test → Fair body → Fair (do_loop_from test body line)
do_loop_from_fair test body line ft fb = record { by = λ n k t s. (do_loop_fair test body line s.turns ft fb).by n k t s }

way_fair : (w : Way) (line construct : ℕ) (m : Step Exit) → Fair m → Fair (in_way w line construct m)
way_fair way.Run line construct m f = bind_fair m _ f (λ e. then_fair e _ (bind_fair (ask (call.HlsExit construct) line) _ (ask_fair (call.HlsExit construct) line refl) (λ a. pure_fair Normal)))
way_fair way.Hold line construct m f = bind_fair (ask (call.HlsWait construct) line) _ (ask_fair (call.HlsWait construct) line refl) (λ a. pure_fair Normal)
way_fair way.Skip line construct m f = pure_fair Normal

dropped_fair : (slot end : ℕ) (m : Step Exit) → Fair m → Fair (m >>= (λ e. release slot (drop_line e end) >>= (λ a. pure e)))
dropped_fair slot end m f = bind_fair m (λ e. release slot (drop_line e end) >>= (λ a. pure e)) f (λ e. bind_fair (release slot (drop_line e end)) (λ a. pure e) (release_fair slot (drop_line e end)) (λ a. pure_fair e))

item_fair : (end : ℕ) (st : p.Stmt) (alone rest : Step Exit) → Fair alone → Fair rest → Fair (item end st alone rest)
item_fair end (p.New line slot words) alone rest fa fr = bind_fair (make line slot words) _ (make_fair line slot words) (λ w. dropped_fair slot end rest fr)
item_fair end st alone rest fa fr = bind_fair alone (λ e. then e rest) fa (λ e. then_fair e rest fr)

module _ (calls : Calls) (fair : FairCalls calls) where
  maybe_fair : (line : ℕ) (test : Option p.Expr) → Fair (test_of calls line test)
  maybe_fair line None = pure_fair _
  maybe_fair line (Some e) = eval_fair calls fair line e

  step_fair : (line : ℕ) (st : Option p.Expr) → Fair (step_of calls line st)
  step_fair line None = pure_fair _
  step_fair line (Some e) = eval_fair calls fair line e

  returned_fair : (line : ℕ) (value : Option p.Expr) → Fair (returned calls line value)
  returned_fair line None = pure_fair _
  returned_fair line (Some e) = eval_fair calls fair line e

  mutual
    exec_fair : (st : p.Stmt) → Fair (exec calls st)
    exec_fair (p.Eval line value) = bind_fair (eval calls line value) _ (eval_fair calls fair line value) (λ w. pure_fair Normal)
    exec_fair (p.Unset slot) = bind_fair (set slot Undef) _ (set_fair slot Undef) (λ w. pure_fair Normal)
    exec_fair (p.New line slot words) = bind_fair (make line slot words) _ (make_fair line slot words) (λ w. pure_fair Normal)
    exec_fair (p.Block items end) = run_fair end items
    exec_fair (p.If line test body other) = bind_fair (eval calls line test) _ (eval_fair calls fair line test) (λ w. cond_fair (holds w) _ _ (exec_fair body) (exec_fair other))
    exec_fair (p.While line test body) = loop_from_fair (eval calls line test) (exec calls body) (pure (Int (pos 0))) line (eval_fair calls fair line test) (exec_fair body) (pure_fair (Int (pos 0)))
    exec_fair (p.DoWhile line body test) = do_loop_from_fair (eval calls line test) (exec calls body) line (eval_fair calls fair line test) (exec_fair body)
    exec_fair (p.For line test st body) = loop_from_fair (test_of calls line test) (exec calls body) (step_of calls line st) line (maybe_fair line test) (exec_fair body) (step_fair line st)
    exec_fair (p.Return line value) = bind_fair (returned calls line value) _ (returned_fair line value) (λ w. pure_fair (Returned line w))
    exec_fair (p.Break line) = pure_fair (Broken line)
    exec_fair (p.Continue line) = pure_fair (Continued line)
    exec_fair (p.Single line construct nowait body) = bind_fair (ask (call.HlsEnter construct) line) _ (ask_fair (call.HlsEnter construct) line refl) (λ a. way_fair (way_of a) line construct (exec calls body) (exec_fair body))
    exec_fair (p.Barrier line construct) = bind_fair (ask (call.HlsBar construct) line) _ (ask_fair (call.HlsBar construct) line refl) (λ a. bind_fair (ask (call.HlsBarWait construct) line) _ (ask_fair (call.HlsBarWait construct) line refl) (λ b. pure_fair Normal))

    run_fair : (end : ℕ) (items : p.Stmts) → Fair (run calls end items)
    run_fair end p.Done = pure_fair Normal
    run_fair end (p.Then first rest) = item_fair end first (exec calls first) (run calls end rest) (exec_fair first) (run_fair end rest)

  -- ---- functions

  end_fair : (e : Ending) (line : ℕ) → Fair (at_end e line)
  end_fair ending.Void line = pure_fair Normal
  end_fair ending.Zero line = pure_fair _
  end_fair ending.Missing line = fault_fair fault_of.Uninit line

  body_fair : (e : Ending) (end : ℕ) (items : p.Stmts) → Fair (run_body calls e end items)
  body_fair e end p.Done = end_fair e end
  body_fair e end (p.Then first rest) = item_fair end first (exec calls first) (run_body calls e end rest) (exec_fair first) (body_fair e end rest)

  params_fair : (line end slot : ℕ) (params : List Bool) (m : Step Exit) → Fair m → Fair (with_params line end slot params m)
  params_fair line end slot [] m f = f
  params_fair line end slot (false ∷ more) m f = params_fair line end (slot + 1) more m f
  params_fair line end slot (true ∷ more) m f =
      bind_fair (get slot) _ (get_fair slot) (λ w. bind_fair (make line slot 1) _ (make_fair line slot 1) (λ v. bind_fair (get slot) _ (get_fair slot) (λ place. bind_fair (ask (call.Store (pointer_of place) w) line) _ (ask_fair (call.Store (pointer_of place) w) line refl) (λ a.
      dropped_fair slot end (with_params line end (slot + 1) more m) (params_fair line end (slot + 1) more m f)))))

  exit_fair : (f : p.Function) (arguments : List Word) (line : ℕ) → Fair (exit_of calls f arguments line)
  exit_fair f arguments line = record {
    by = λ n k t s.
        (params_fair line f.end_line 0 f.params (run_body calls f.ending f.end_line f.body) (body_fair f.ending f.end_line f.body)).by n
        (λ e s'. k e (record s' { slots = s.slots })) (λ e s'. t e (record s' { slots = s.slots })) (record s { slots = slots_of f.slots arguments });
  }

  called_fair : (f : Option p.Function) (arguments : List Word) (line : ℕ) → Fair (called calls f arguments line)
  called_fair None arguments line = bind_fair (tick line) _ (tick_fair line) (λ u. fault_fair fault_of.Depth line)
  called_fair (Some f) arguments line = bind_fair (tick line) _ (tick_fair line) (λ u. bind_fair (exit_of calls f arguments line) _ (exit_fair f arguments line) (λ e. pure_fair _))

calls_fair : (fs : List p.Function) (d : ℕ) → FairCalls (calls_of fs d)
calls_fair fs zero number arguments line = bind_fair (tick line) _ (tick_fair line) (λ u. fault_fair fault_of.Depth line)
calls_fair fs (suc d) number arguments line = called_fair (calls_of fs d) (calls_fair fs d) (slice_get fs number) arguments line

finish_tree : (n line : ℕ) (code : ℤ) (s : State) → Tree n (λ l. finish line code (record s { answers = l }))
finish_tree zero line code s = tt
finish_tree (suc n) line code s = last_tree n (call.Finish code) line (λ a more. over more) refl (λ a. is_over)

ends_main : (n : ℕ) (main : p.Function) (e : Exit) (s : State) → Tree n (λ l. finish_main main e (record s { answers = l }))
ends_main n main Normal s = finish_tree n main.end_line (pos 0) s
ends_main n main (Broken l) s = finish_tree n main.end_line (pos 0) s
ends_main n main (Continued l) s = finish_tree n main.end_line (pos 0) s
ends_main n main (Returned l w) s = finish_tree n l _ s

next_tree : (fs : List p.Function) (main : p.Function) (d t n : ℕ) → Tree n (λ l. next_in fs (Some main) d t l)
next_tree fs main d t n =
    (exit_fair (calls_of fs d) (calls_fair fs d) main (arguments_of_main main.params) 0).by n (finish_main main) (λ e s. ends_main n main e s) (record { slots = []; turns = t; answers = [] })

-- what a program asks whose main is one of its functions is a tree of calls
program_tree : (program : p.Program) (n : ℕ) → program.main < length program.functions → Tree n (next_of program)
program_tree program n there =
    let (main, at) = get_there program.functions program.main there in
    subst (λ o. Tree n (λ l. next_in program.functions o (MAX_DEPTH - 1) MAX_TURNS l)) (sym at) (next_tree program.functions main (MAX_DEPTH - 1) MAX_TURNS n)

-- ---- the laws

-- The last of these answers is that to a last call.
pub record EndsBy (g : List Answer → Next) (answers : List Answer) : Type 0 where
  pub before : List Answer
  pub answer : Answer
  pub cut : answers ≡ before ++ answer ∷ []
  pub call : Call
  pub line : ℕ
  pub asked : g before ≡ Asks call line
  pub last : is_last call ≡ true

further_ends : (g : List Answer → Next) (a : Answer) (more : List Answer) → EndsBy (λ l. g (a ∷ l)) more → EndsBy g (a ∷ more)
further_ends g a more e = record { before = a ∷ e.before; answer = e.answer; cut = ap (λ l. a ∷ l) e.cut; call = e.call; line = e.line; asked = e.asked; last = e.last }

no_more : (g : List Answer → Next) (more : List Answer) → IsOver g → g more ≡ Over → more ≡ []
no_more g [] o h = refl
no_more g (x ∷ more) o h = absurd (cc (o.other x more, h))

ends_by : (n : ℕ) (g : List Answer → Next) (a : Answer) (more : List Answer) (t : AsksFirst (Tree n) g) → g (a ∷ more) ≡ Over → (Tree n (λ l. g (a ∷ l)) → EndsBy (λ l. g (a ∷ l)) more)
    → (last : Bool) → is_last t.call ≡ last → Further (Tree n) last (λ l. g (a ∷ l)) → EndsBy g (a ∷ more)
ends_by n g a more t h rec false goes f = further_ends g a more (rec f)
ends_by n g a more t h rec true ends f = record {
  before = [];
  answer = a;
  cut = ap (λ l. a ∷ l) (no_more (λ l. g (a ∷ l)) more f h);
  call = t.call;
  line = t.line;
  asked = t.first;
  last = ends;
}

over_by : (n : ℕ) (g : List Answer → Next) (a : Answer) (more : List Answer) (t : AsksFirst (Tree n) g) → g (a ∷ more) ≡ Over → (Tree n (λ l. g (a ∷ l)) → EndsBy (λ l. g (a ∷ l)) more)
    → (fit : Bool) → fits t.call a ≡ fit → EndsBy g (a ∷ more)
over_by n g a more t h rec false unfit = absurd (cc (t.other a more unfit, h))
over_by n g a more t h rec true fit = ends_by n g a more t h rec (is_last t.call) refl (t.further a fit)

over_of : (n : ℕ) (g : List Answer → Next) (l : List Answer) → length l ≡ n → Tree (suc n) g → g l ≡ Over → EndsBy g l
over_of n g [] e t h = absurd (cc (t.first, h))
over_of zero g (a ∷ more) e t h = absurd (omega (arith, e))
over_of (suc n) g (a ∷ more) e t h = over_by (suc n) g a more t h (λ tree. over_of n (λ l. g (a ∷ l)) more (omega (arith, e)) tree h) (fits t.call a) refl

-- Where nothing is asked any more, the last answer is that to a finish or an abort.
pub over_ends : (program : p.Program) (answers : List Answer) → program.main < length program.functions → next_of program answers ≡ Over → EndsBy (next_of program) answers
over_ends program answers there h = over_of (length answers) (next_of program) answers refl (program_tree program (suc (length answers)) there) h
