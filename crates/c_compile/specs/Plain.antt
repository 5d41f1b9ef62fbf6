-- Programs that use no MPI function and no directive that shares variables.
use Rattle.std.specs.Prelude.{◌≡◌, ℕ, ◌≤◌, Bool, true, false, not, ◌&&◌, List, Option, Some, None, is_some}
use Rattle.std.specs.List.{list_all}
use Rattle.mpc_values.specs.declared.owners.StaticVar.{StaticVar}
use Rattle.mpc_values.specs.declared.calls.Call.{Call}
use Rattle.mpc_values.specs.declared.answers.Answer.{Answer}
use Rattle.mpc_values.specs.CallTable.{call_number}
use Rattle.c_tree.specs.declared.program.Callee.{Callee}
use Rattle.c_tree.specs.declared.program.Callee.TheVariants as callee
use Rattle.c_tree.specs.Programs as p
use Rattle.c_tree.specs.Asking.{Asks}
use Rattle.c_tree.specs.Next.{next_of}

-- what is called is no MPI function
abbrev pub is_plain_callee : Callee → Bool
is_plain_callee (callee.Function number) = true
is_plain_callee (callee.Print format) = true
is_plain_callee (callee.Mpi mpi) = false

abbrev mutual
  -- no MPI function is called in an expression
  pub is_plain_expr : p.Expr → Bool
  is_plain_expr (p.Constant word) = true
  is_plain_expr (p.Local slot) = true
  is_plain_expr (p.Object slot) = true
  is_plain_expr (p.Load scalar place) = is_plain_expr place
  is_plain_expr (p.SetLocal slot value) = is_plain_expr value
  is_plain_expr (p.Store place value) = is_plain_expr place && is_plain_expr value
  is_plain_expr (p.UpdateLocal update slot value) = is_plain_expr value
  is_plain_expr (p.UpdateStore update place value) = is_plain_expr place && is_plain_expr value
  is_plain_expr (p.StepLocal update before slot) = true
  is_plain_expr (p.StepStore update before place) = is_plain_expr place
  is_plain_expr (p.Negate width value) = is_plain_expr value
  is_plain_expr (p.Complement value) = is_plain_expr value
  is_plain_expr (p.Not value) = is_plain_expr value
  is_plain_expr (p.Narrow value) = is_plain_expr value
  is_plain_expr (p.Arithmetic width operation left right) = is_plain_expr left && is_plain_expr right
  is_plain_expr (p.Compare comparison left right) = is_plain_expr left && is_plain_expr right
  is_plain_expr (p.Same wanted left right) = is_plain_expr left && is_plain_expr right
  is_plain_expr (p.And left right) = is_plain_expr left && is_plain_expr right
  is_plain_expr (p.Or left right) = is_plain_expr left && is_plain_expr right
  is_plain_expr (p.Choice test yes' no') = is_plain_expr test && (is_plain_expr yes' && is_plain_expr no')
  is_plain_expr (p.Offset back words pointer index) = is_plain_expr pointer && is_plain_expr index
  is_plain_expr (p.Malloc size bytes) = is_plain_expr bytes
  is_plain_expr (p.Free pointer) = is_plain_expr pointer
  is_plain_expr (p.Apply callee arguments) = is_plain_callee callee && are_plain_exprs arguments

  pub are_plain_exprs : p.Exprs → Bool
  are_plain_exprs p.End = true
  are_plain_exprs (p.More first rest) = is_plain_expr first && are_plain_exprs rest

abbrev pub is_plain_option : Option p.Expr → Bool
is_plain_option None = true
is_plain_option (Some value) = is_plain_expr value

abbrev mutual
  -- no MPI function is called in a statement, and no part of it is a single or a barrier
  pub is_plain_stmt : p.Stmt → Bool
  is_plain_stmt (p.Eval line value) = is_plain_expr value
  is_plain_stmt (p.Unset slot) = true
  is_plain_stmt (p.New line slot words) = true
  is_plain_stmt (p.Block items end) = are_plain_stmts items
  is_plain_stmt (p.If line test body other) = is_plain_expr test && (is_plain_stmt body && is_plain_stmt other)
  is_plain_stmt (p.While line test body) = is_plain_expr test && is_plain_stmt body
  is_plain_stmt (p.DoWhile line body test) = is_plain_stmt body && is_plain_expr test
  is_plain_stmt (p.For line test step body) = is_plain_option test && (is_plain_option step && is_plain_stmt body)
  is_plain_stmt (p.Return line value) = is_plain_option value
  is_plain_stmt (p.Break line) = true
  is_plain_stmt (p.Continue line) = true
  is_plain_stmt (p.Single line construct nowait body) = false
  is_plain_stmt (p.Barrier line construct) = false

  pub are_plain_stmts : p.Stmts → Bool
  are_plain_stmts p.Done = true
  are_plain_stmts (p.Then first rest) = is_plain_stmt first && are_plain_stmts rest

abbrev pub is_plain_function : p.Function → Bool
is_plain_function f = are_plain_stmts f.body

-- the variable has no level
abbrev pub is_plain_variable : StaticVar → Bool
is_plain_variable v = not (is_some v.level)

-- the program calls no MPI function, has no single and no barrier, and none of its variables has a level
abbrev pub is_plain : p.Program → Bool
is_plain program = list_all is_plain_function program.functions && list_all is_plain_variable program.variables

-- what a plain program asks is one of the calls that every program may ask, from load to finish
abbrev pub PlainAsks : Type 0
PlainAsks = (program : p.Program) (answers : List Answer) (call : Call) (line : ℕ) → is_plain program ≡ true → next_of program answers ≡ Asks call line → call_number call ≤ 9
