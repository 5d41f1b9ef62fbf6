-- The code of a typed program.
use Rattle.std.specs.Prelude.{ℕ, suc, ◌+◌, pos, Bool, true, false, List, [], ◌∷◌, ◌++◌, length, Option, Some, None}
use Rattle.mpc_values.specs.declared.values.Word.TheVariants.{Int}
use Rattle.c_tree.specs.declared.program.Update.{Update}
use Rattle.c_tree.specs.declared.program.Callee.{Callee}
use Rattle.c_tree.specs.declared.program.Callee.TheVariants as callee
use Rattle.c_tree.specs.declared.program.Ending.{Ending}
use Rattle.c_tree.specs.declared.program.Ending.TheVariants as ending
use Rattle.c_tree.specs.Programs as p
use Rattle.c_tree.specs.Evaluation.{scalar_of}
use Rattle.c_code.specs.declared.instr.Instr.{Instr}
use Rattle.c_code.specs.declared.instr.Instr.TheVariants as i
use Rattle.c_code.specs.declared.code.Entry.{Entry}

-- how many arguments there are
abbrev pub count_of : p.Exprs → ℕ
count_of p.End = 0
count_of (p.More first rest) = suc (count_of rest)

-- what is called with so many arguments
abbrev pub callee_code : ℕ → Callee → ℕ → List Instr
callee_code line (callee.Function number) count = i.Call number count line ∷ []
callee_code line (callee.Print format) count = i.Print (record { format = format; count = count }) line ∷ []
callee_code line (callee.Mpi mpi) count = i.Mpi mpi count line ∷ []

-- `++` or `--` of a local: where it stands behind, the old value is kept below
abbrev pub step_local : Update → Bool → ℕ → ℕ → List Instr
step_local update true slot line = i.Get slot line ∷ i.Push (Int (pos 1)) ∷ i.Update update line ∷ i.Set slot ∷ []
step_local update false slot line = i.Get slot line ∷ i.Duplicate ∷ i.Push (Int (pos 1)) ∷ i.Update update line ∷ i.Set slot ∷ i.Pop ∷ []

-- the same of a place that is on the stack
abbrev pub step_store : Update → Bool → ℕ → List Instr
step_store update true line = i.Peek (scalar_of update) line ∷ i.Push (Int (pos 1)) ∷ i.Update update line ∷ i.Store line ∷ []
step_store update false line = i.Peek (scalar_of update) line ∷ i.Tuck ∷ i.Push (Int (pos 1)) ∷ i.Update update line ∷ i.Store line ∷ i.Pop ∷ []

-- both sides of a sign, of which the right one is evaluated only where it decides
abbrev pub and_code : List Instr → List Instr → List Instr
and_code a b = a ++ (i.Unless (length b + 2) ∷ (b ++ (i.Truth ∷ i.Skip 1 ∷ i.Push (Int (pos 0)) ∷ [])))

abbrev pub or_code : List Instr → List Instr → List Instr
or_code a b = a ++ (i.Unless 2 ∷ i.Push (Int (pos 1)) ∷ i.Skip (length b + 1) ∷ (b ++ (i.Truth ∷ [])))

abbrev pub choice_code : List Instr → List Instr → List Instr → List Instr
choice_code test a b = test ++ (i.Unless (length a + 1) ∷ (a ++ (i.Skip (length b) ∷ b)))

abbrev mutual
  -- the code that puts an expression's value on the stack
  pub expr_code : ℕ → p.Expr → List Instr
  expr_code line (p.Constant word) = i.Push word ∷ []
  expr_code line (p.Local slot) = i.Get slot line ∷ []
  expr_code line (p.Object slot) = i.Object slot ∷ []
  expr_code line (p.Load scalar place) = expr_code line place ++ i.Load scalar line ∷ []
  expr_code line (p.SetLocal slot value) = expr_code line value ++ i.Set slot ∷ []
  expr_code line (p.Store place value) = expr_code line place ++ (expr_code line value ++ i.Store line ∷ [])
  expr_code line (p.UpdateLocal update slot value) = (i.Get slot line ∷ (expr_code line value ++ i.Update update line ∷ [])) ++ i.Set slot ∷ []
  expr_code line (p.UpdateStore update place value) =
      expr_code line place ++ ((i.Peek (scalar_of update) line ∷ (expr_code line value ++ i.Update update line ∷ [])) ++ i.Store line ∷ [])
  expr_code line (p.StepLocal update before slot) = step_local update before slot line
  expr_code line (p.StepStore update before place) = expr_code line place ++ step_store update before line
  expr_code line (p.Negate width value) = expr_code line value ++ i.Negate width line ∷ []
  expr_code line (p.Complement value) = expr_code line value ++ i.Complement ∷ []
  expr_code line (p.Not value) = expr_code line value ++ i.Not ∷ []
  expr_code line (p.Narrow value) = expr_code line value ++ i.Narrow ∷ []
  expr_code line (p.Arithmetic width operation left right) = expr_code line left ++ (expr_code line right ++ i.Arithmetic width operation line ∷ [])
  expr_code line (p.Compare comparison left right) = expr_code line left ++ (expr_code line right ++ i.Compare comparison ∷ [])
  expr_code line (p.Same wanted left right) = expr_code line left ++ (expr_code line right ++ i.Same wanted ∷ [])
  expr_code line (p.And left right) = and_code (expr_code line left) (expr_code line right)
  expr_code line (p.Or left right) = or_code (expr_code line left) (expr_code line right)
  expr_code line (p.Choice test yes' no') = choice_code (expr_code line test) (expr_code line yes') (expr_code line no')
  expr_code line (p.Offset back words pointer index) = expr_code line pointer ++ (expr_code line index ++ i.Offset back words line ∷ [])
  expr_code line (p.Malloc size bytes) = expr_code line bytes ++ i.Malloc size line ∷ []
  expr_code line (p.Free pointer) = expr_code line pointer ++ i.Free line ∷ []
  expr_code line (p.Apply callee arguments) = exprs_code line arguments ++ callee_code line callee (count_of arguments)

  pub exprs_code : ℕ → p.Exprs → List Instr
  exprs_code line p.End = []
  exprs_code line (p.More first rest) = expr_code line first ++ exprs_code line rest

-- Where a statement stands: how far behind its end the loop's end and the place of its next turn lie, and the slots of the
-- locals in memory of the blocks round it, the innermost first: those in the loop, and those in the function.
pub record Place : Type 0 where
  pub exit : ℕ
  pub again : ℕ
  pub in_loop : List ℕ
  pub in_function : List ℕ

abbrev pub drops : ℕ → List ℕ → List Instr
drops line [] = []
drops line (slot ∷ slots) = i.Release slot line ∷ drops line slots

-- the place of a statement behind which so many instructions stand
abbrev pub before : ℕ → Place → Place
before n place = record place { exit = n + place.exit; again = n + place.again }

-- the place behind the declaration of a local in memory, whose drop is one instruction
abbrev pub inside : ℕ → Place → Place
inside slot place = record { exit = 1 + place.exit; again = 1 + place.again; in_loop = slot ∷ place.in_loop; in_function = slot ∷ place.in_function }

-- the place of a loop's body, behind which so many instructions come before the next turn and the loop's end
abbrev pub body_of : ℕ → ℕ → Place → Place
body_of exit again place = record { exit = exit; again = again; in_loop = []; in_function = place.in_function }

abbrev pub test_code : ℕ → Option p.Expr → List Instr
test_code line None = i.Push (Int (pos 1)) ∷ []
test_code line (Some test) = expr_code line test

abbrev pub step_code : ℕ → Option p.Expr → List Instr
step_code line None = []
step_code line (Some step) = expr_code line step ++ i.Pop ∷ []

-- over the body and the step to the condition, and from there back
abbrev pub loop_code : ℕ → List Instr → List Instr → List Instr → List Instr
loop_code line test step body =
    i.Skip (length body + length step) ∷ (body ++ (step ++ (test ++ i.Again (length test + length step + length body) line ∷ [])))

-- the first turn is counted before the body, each further one at the jump back
abbrev pub do_code : ℕ → List Instr → List Instr → List Instr
do_code line test body = i.Tick line ∷ (body ++ (test ++ i.Again (length test + length body) line ∷ []))

abbrev pub if_code : List Instr → List Instr → List Instr → List Instr
if_code test a b = test ++ (i.Unless (length a + 1) ∷ (a ++ (i.Skip (length b) ∷ b)))

-- a task that runs the block, one that waits for it, and one that goes on
abbrev pub single_code : ℕ → ℕ → List Instr → List Instr
single_code line construct body =
    i.HlsEnter construct line ∷ i.Skip 2 ∷ i.HlsWait construct line ∷ i.Skip (length body + 1) ∷ (body ++ i.HlsExit construct line ∷ [])

abbrev pub return_code : ℕ → Option p.Expr → List Instr
return_code line None = i.Push (Int (pos 0)) ∷ []
return_code line (Some value) = expr_code line value

-- what stands at the end of a function's block, before its drops
abbrev pub ending_code : Ending → ℕ → Place → List Instr
ending_code ending.Void line place = []
ending_code ending.Zero line place = i.Push (Int (pos 0)) ∷ (drops line place.in_function ++ i.Return line ∷ [])
ending_code ending.Missing line place = i.Missing line ∷ []

-- nothing stands at the end of any other block
abbrev pub no_ending : Place → List Instr
no_ending place = []

-- An item of a block: its code by its place, and the code of what stands behind it by the place of that.
abbrev pub item_code : Place → ℕ → p.Stmt → (Place → List Instr) → (Place → List Instr) → List Instr
item_code place end (p.New line slot words) alone rest = i.New slot words line ∷ (rest (inside slot place) ++ i.Release slot end ∷ [])
item_code place end first alone rest = alone (before (length (rest place)) place) ++ rest place

abbrev mutual
  -- the code of a statement at a place
  pub stmt_code : p.Stmt → Place → List Instr
  stmt_code (p.Eval line value) place = expr_code line value ++ i.Pop ∷ []
  stmt_code (p.Unset slot) place = i.Unset slot ∷ []
  stmt_code (p.New line slot words) place = i.New slot words line ∷ []
  stmt_code (p.Block items end) place = items_code end no_ending items place
  stmt_code (p.If line test body other) place =
      let b = stmt_code other place in
      if_code (expr_code line test) (stmt_code body (before (suc (length b)) place)) b
  stmt_code (p.While line test body) place =
      let t = expr_code line test in
      loop_code line t [] (stmt_code body (body_of (length t + 1) 0 place))
  stmt_code (p.DoWhile line body test) place =
      let t = expr_code line test in
      do_code line t (stmt_code body (body_of (length t + 1) 0 place))
  stmt_code (p.For line test step body) place =
      let t = test_code line test in
      let s = step_code line step in
      loop_code line t s (stmt_code body (body_of (length s + length t + 1) 0 place))
  stmt_code (p.Return line value) place = return_code line value ++ (drops line place.in_function ++ i.Return line ∷ [])
  stmt_code (p.Break line) place = drops line place.in_loop ++ i.Skip place.exit ∷ []
  stmt_code (p.Continue line) place = drops line place.in_loop ++ i.Skip place.again ∷ []
  stmt_code (p.Single line construct nowait body) place = single_code line construct (stmt_code body (before 1 place))
  stmt_code (p.Barrier line construct) place = i.HlsBar construct line ∷ i.HlsBarWait construct line ∷ []

  -- the code of a block's items, with what stands at its end
  pub items_code : ℕ → (Place → List Instr) → p.Stmts → Place → List Instr
  items_code end tail p.Done place = tail place
  items_code end tail (p.Then first rest) place = item_code place end first (stmt_code first) (items_code end tail rest)

-- the parameters in memory, from a slot on, and behind them the body
abbrev pub params_code : ℕ → ℕ → List Bool → Place → (Place → List Instr) → List Instr
params_code end slot [] place body = body place
params_code end slot (false ∷ more) place body = params_code end (suc slot) more place body
params_code end slot (true ∷ more) place body =
    i.SaveParam slot ∷ i.NewParam slot ∷ i.StoreParam slot ∷ (params_code end (suc slot) more (inside slot place) body ++ i.Release slot end ∷ [])

abbrev pub outside : Place
outside = record { exit = 0; again = 0; in_loop = []; in_function = [] }

-- A function's code: a call of it comes to its first instruction, and control that comes to its end leaves with 0.
abbrev pub function_code : p.Function → List Instr
function_code f =
    params_code f.end_line 0 f.params outside (items_code f.end_line (ending_code f.ending f.end_line) f.body)
    ++ (i.Push (Int (pos 0)) ∷ i.Return f.end_line ∷ [])

-- the code of functions, one behind the other
abbrev pub functions_code : List p.Function → List Instr
functions_code [] = []
functions_code (f ∷ more) = function_code f ++ functions_code more

-- where each function's code begins, the first one at a place
abbrev pub entries_from : ℕ → List p.Function → List Entry
entries_from start [] = []
entries_from start (f ∷ more) = record { start = start; slots = f.slots } ∷ entries_from (start + length (function_code f)) more

-- how many parameters a function has, where it is there
abbrev pub params_of : Option p.Function → ℕ
params_of None = 0
params_of (Some f) = length f.params
