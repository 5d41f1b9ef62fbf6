-- What statements and functions do (C99, sections 6.8 and 6.9).
use Rattle.std.specs.Prelude.{ℕ, zero, suc, ◌+◌, ◌-◌, pos, Bool, true, false, List, [], ◌∷◌, ◌++◌, length, replicate, Option, Some, None}
use Rattle.mpc_values.specs.declared.values.Word.{Word}
use Rattle.mpc_values.specs.declared.values.Word.TheVariants.{Undef, Int, Ptr}
use Rattle.mpc_values.specs.declared.values.Obj.{Obj}
use Rattle.mpc_values.specs.declared.values.Obj.TheVariants.{Dyn}
use Rattle.mpc_values.specs.declared.calls.Call.TheVariants as call
use Rattle.mpc_values.specs.declared.faults.Fault.TheVariants.{Uninit, Turns, Depth}
use Rattle.mpc_values.specs.declared.answers.Answer.{Answer}
use Rattle.mpc_values.specs.declared.answers.Answer.TheVariants.{Entered}
use Rattle.mpc_values.specs.declared.answers.Way.{Way}
use Rattle.mpc_values.specs.declared.answers.Way.TheVariants as way
use Rattle.c_tree.specs.declared.program.Ending.{Ending}
use Rattle.c_tree.specs.declared.program.Ending.TheVariants as ending
use Rattle.c_tree.specs.Programs.{Expr, Stmt, Eval, Unset, New, Block, If, While, DoWhile, For, Return, Break, Continue, Single, Barrier, Stmts, Done, Then, Function}
use Rattle.c_tree.specs.Words.{pointer_of}
use Rattle.c_tree.specs.Asking.{Step, ◌>>=◌, pure, ask, fault, get, set, tick, word_of}
use Rattle.c_tree.specs.Evaluation.{Calls, eval, if_holds}

-- How control leaves a statement: at its end, by a break, a continue or a return at a line. A return without a value has
-- the value 0, which nobody reads.
pub data Exit : Type 0 where
  Normal : Exit
  Broken : (line : ℕ) → Exit
  Continued : (line : ℕ) → Exit
  Returned : (line : ℕ) (value : Word) → Exit

-- goes on behind a statement only where control comes to its end
abbrev pub then : Exit → Step Exit → Step Exit
then Normal next = next
then (Broken line) next = pure (Broken line)
then (Continued line) next = pure (Continued line)
then (Returned line value) next = pure (Returned line value)

-- behind a loop's body: it is gone round again at the body's end and at a continue
abbrev pub behind_body : Exit → Step Exit → Step Exit
behind_body Normal again = again
behind_body (Broken line) again = pure Normal
behind_body (Continued line) again = again
behind_body (Returned line value) again = pure (Returned line value)

-- the line of a drop: that of the break, continue or return that leaves the block, else that of the block's end
abbrev pub drop_line : Exit → ℕ → ℕ
drop_line Normal end = end
drop_line (Broken line) end = line
drop_line (Continued line) end = line
drop_line (Returned line value) end = line

-- the object that a pointer points into; of another word one that no task makes
abbrev pub object_of : Word → Obj
object_of (Ptr obj at) = obj
object_of word = Dyn 0

-- makes the object of a local in memory, of so many words
abbrev pub make : ℕ → ℕ → ℕ → Step Word
make line slot words = do
  answer ← ask (call.New words) line
  set slot (pointer_of (word_of answer))

-- drops the object of a local in memory
abbrev pub release : ℕ → ℕ → Step Answer
release slot line = do
  word ← get slot
  ask (call.Drop (object_of word)) line

-- a condition, which always holds where there is none
abbrev pub test_of : Calls → ℕ → Option Expr → Step Word
test_of calls line None = pure (Int (pos 1))
test_of calls line (Some test) = eval calls line test

-- the step of a for, where there is one
abbrev pub step_of : Calls → ℕ → Option Expr → Step Word
step_of calls line None = pure (Int (pos 0))
step_of calls line (Some step) = eval calls line step

-- A loop with its condition before its body and a step behind it, in which at most so many bodies can begin: each
-- counts a turn. The number only bounds the recursion: it begins with the turns that are left, so it never ends
-- before they do.
abbrev pub loop : Step Word → Step Exit → Step Word → ℕ → ℕ → Step Exit
loop test body step line zero = do
  word ← test
  if_holds word (fault Turns line) (pure Normal)
loop test body step line (suc more) = do
  word ← test
  if_holds word (do
    _ ← tick line
    exit ← body
    behind_body exit (do
      _ ← step
      loop test body step line more)) (pure Normal)

-- as many bodies as turns are left
abbrev pub loop_from : Step Word → Step Exit → Step Word → ℕ → Step Exit
loop_from test body step line k s = loop test body step line s.turns k s

-- a loop with its condition behind its body, in which at most so many bodies can begin
abbrev pub do_loop : Step Word → Step Exit → ℕ → ℕ → Step Exit
do_loop test body line zero = fault Turns line
do_loop test body line (suc more) = do
  _ ← tick line
  exit ← body
  behind_body exit (do
    word ← test
    if_holds word (do_loop test body line more) (pure Normal))

abbrev pub do_loop_from : Step Word → Step Exit → ℕ → Step Exit
do_loop_from test body line k s = do_loop test body line s.turns k s

-- what a task does at a single; an answer that tells no way is read as Skip
abbrev pub way_of : Answer → Way
way_of (Entered w) = w
way_of answer = way.Skip

-- what a task does at a single, where the block is given
abbrev pub in_way : Way → ℕ → ℕ → Step Exit → Step Exit
in_way way.Run line construct body = do
  exit ← body
  then exit (do
    _ ← ask (call.HlsExit construct) line
    pure Normal)
in_way way.Hold line construct body = do
  _ ← ask (call.HlsWait construct) line
  pure Normal
in_way way.Skip line construct body = pure Normal

-- the value of a return
abbrev pub returned : Calls → ℕ → Option Expr → Step Word
returned calls line None = pure (Int (pos 0))
returned calls line (Some value) = eval calls line value

-- An item of a block, alone and with what stands behind it. A local in memory lives from its declaration on, and is
-- dropped where control leaves the block: so the latest is dropped first.
abbrev pub item : ℕ → Stmt → Step Exit → Step Exit → Step Exit
item end (New line slot words) alone rest = do
  _ ← make line slot words
  exit ← rest
  _ ← release slot (drop_line exit end)
  pure exit
item end first alone rest = do
  exit ← alone
  then exit rest

abbrev mutual
  -- what a statement does
  pub exec : Calls → Stmt → Step Exit
  exec calls (Eval line value) = do
    _ ← eval calls line value
    pure Normal
  exec calls (Unset slot) = do
    _ ← set slot Undef
    pure Normal
  exec calls (New line slot words) = do
    _ ← make line slot words
    pure Normal
  exec calls (Block items end) = run calls end items
  exec calls (If line test body other) = do
    word ← eval calls line test
    if_holds word (exec calls body) (exec calls other)
  exec calls (While line test body) = loop_from (eval calls line test) (exec calls body) (pure (Int (pos 0))) line
  exec calls (DoWhile line body test) = do_loop_from (eval calls line test) (exec calls body) line
  exec calls (For line test step body) = loop_from (test_of calls line test) (exec calls body) (step_of calls line step) line
  exec calls (Return line value) = do
    word ← returned calls line value
    pure (Returned line word)
  exec calls (Break line) = pure (Broken line)
  exec calls (Continue line) = pure (Continued line)
  exec calls (Single line construct nowait body) = do
    answer ← ask (call.HlsEnter construct) line
    in_way (way_of answer) line construct (exec calls body)
  exec calls (Barrier line construct) = do
    _ ← ask (call.HlsBar construct) line
    _ ← ask (call.HlsBarWait construct) line
    pure Normal

  -- what the items of a block do, one after another
  pub run : Calls → ℕ → Stmts → Step Exit
  run calls end Done = pure Normal
  run calls end (Then first rest) = item end first (exec calls first) (run calls end rest)

-- what stands at the end of a function's block, before its drops
abbrev pub at_end : Ending → ℕ → Step Exit
at_end ending.Void line = pure Normal
at_end ending.Zero line = pure (Returned line (Int (pos 0)))
at_end ending.Missing line = fault Uninit line

-- The items of a function's block with its end behind them.
abbrev pub run_body : Calls → Ending → ℕ → Stmts → Step Exit
run_body calls ending end Done = at_end ending end
run_body calls ending end (Then first rest) = item end first (exec calls first) (run_body calls ending end rest)

-- what a function gives
abbrev pub value_of : Exit → Word
value_of Normal = Int (pos 0)
value_of (Broken line) = Int (pos 0)
value_of (Continued line) = Int (pos 0)
value_of (Returned line value) = value

-- The parameters in memory are made and given their values at the line of the calling statement, in order, each before
-- the next one, and dropped behind the locals of the block, the latest first.
abbrev pub with_params : ℕ → ℕ → ℕ → List Bool → Step Exit → Step Exit
with_params line end slot [] body = body
with_params line end slot (false ∷ more) body = with_params line end (slot + 1) more body
with_params line end slot (true ∷ more) body = do
  word ← get slot
  _ ← make line slot 1
  place ← get slot
  _ ← ask (call.Store (pointer_of place) word) line
  exit ← with_params line end (slot + 1) more body
  _ ← release slot (drop_line exit end)
  pure exit

-- the slots as a function begins: its arguments, and nothing in the others
abbrev pub slots_of : ℕ → List Word → List Word
slots_of count arguments = arguments ++ replicate (count - length arguments) Undef

-- a step in slots of its own
abbrev pub apart : {A : Type 0} → List Word → Step A → Step A
apart slots m k s = m (λ a s'. k a (record s' { slots = s.slots })) (record s { slots = slots })

-- what a function does with its arguments, called at a line
abbrev pub exit_of : Calls → Function → List Word → ℕ → Step Exit
exit_of calls f arguments line =
    apart (slots_of f.slots arguments) (with_params line f.end_line 0 f.params (run_body calls f.ending f.end_line f.body))

-- A call counts a turn, and gives the function's value.
abbrev pub called : Calls → Option Function → List Word → ℕ → Step Word
called calls None arguments line = do
  _ ← tick line
  fault Depth line
called calls (Some f) arguments line = do
  _ ← tick line
  exit ← exit_of calls f arguments line
  pure (value_of exit)
