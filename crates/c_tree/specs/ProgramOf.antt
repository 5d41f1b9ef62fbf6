-- The code's typed program, without its pointers.
use Rattle.std.specs.Prelude.{List, [], ◌∷◌, Option, None, Some, map}
use Rattle.c_tree.specs.declared.program.Expr.{Expr, Constant, Local, Object, Load', SetLocal', Store', UpdateLocal', UpdateStore', StepLocal, StepStore', Negate', Complement', Not', Narrow', Arithmetic', Compare', Same', And', Or', Choice', Offset', Malloc', Free', Apply', Row_of-Expr, end_of-Expr, more_of-Expr}
use Rattle.c_tree.specs.declared.program.Stmt.{Stmt, Eval, Unset, New, Block', If', While', DoWhile', For', Return, Break, Continue, Single', Barrier, Row_of-Stmt, end_of-Stmt, more_of-Stmt}
use Rattle.c_tree.specs.declared.program.Function.{Function}
use Rattle.c_tree.specs.declared.program.Program.{Program}
use Rattle.c_tree.specs.Programs as p

abbrev mutual
  pub expr_of : Expr → p.Expr
  expr_of (Constant word) = p.Constant word
  expr_of (Local slot) = p.Local slot
  expr_of (Object slot) = p.Object slot
  expr_of (Load' scalar a place) = p.Load scalar (expr_of place)
  expr_of (SetLocal' slot a value) = p.SetLocal slot (expr_of value)
  expr_of (Store' a place b value) = p.Store (expr_of place) (expr_of value)
  expr_of (UpdateLocal' update slot a value) = p.UpdateLocal update slot (expr_of value)
  expr_of (UpdateStore' update a place b value) = p.UpdateStore update (expr_of place) (expr_of value)
  expr_of (StepLocal update before slot) = p.StepLocal update before slot
  expr_of (StepStore' update before a place) = p.StepStore update before (expr_of place)
  expr_of (Negate' width a value) = p.Negate width (expr_of value)
  expr_of (Complement' a value) = p.Complement (expr_of value)
  expr_of (Not' a value) = p.Not (expr_of value)
  expr_of (Narrow' a value) = p.Narrow (expr_of value)
  expr_of (Arithmetic' width operation a left b right) = p.Arithmetic width operation (expr_of left) (expr_of right)
  expr_of (Compare' comparison a left b right) = p.Compare comparison (expr_of left) (expr_of right)
  expr_of (Same' wanted a left b right) = p.Same wanted (expr_of left) (expr_of right)
  expr_of (And' a left b right) = p.And (expr_of left) (expr_of right)
  expr_of (Or' a left b right) = p.Or (expr_of left) (expr_of right)
  expr_of (Choice' a test b yes' c no') = p.Choice (expr_of test) (expr_of yes') (expr_of no')
  expr_of (Offset' back words a pointer b index) = p.Offset back words (expr_of pointer) (expr_of index)
  expr_of (Malloc' size a bytes) = p.Malloc size (expr_of bytes)
  expr_of (Free' a pointer) = p.Free (expr_of pointer)
  expr_of (Apply' callee b arguments) = p.Apply callee (row_of arguments)

  pub row_of : {m : _} → Row_of-Expr m → p.Exprs
  row_of end_of-Expr = p.End
  row_of (more_of-Expr first rest) = p.More (expr_of first) (row_of rest)

-- the same of a list
abbrev pub exprs_of : List Expr → p.Exprs
exprs_of [] = p.End
exprs_of (first ∷ rest) = p.More (expr_of first) (exprs_of rest)

abbrev pub maybe_of : Option Expr → Option p.Expr
maybe_of None = None
maybe_of (Some value) = Some (expr_of value)

abbrev mutual
  pub stmt_of : Stmt → p.Stmt
  stmt_of (Eval line value) = p.Eval line (expr_of value)
  stmt_of (Unset slot) = p.Unset slot
  stmt_of (New line slot words) = p.New line slot words
  stmt_of (Block' b items end_line) = p.Block (stmt_row_of items) end_line
  stmt_of (If' line test a body b other) = p.If line (expr_of test) (stmt_of body) (stmt_of other)
  stmt_of (While' line test a body) = p.While line (expr_of test) (stmt_of body)
  stmt_of (DoWhile' line a body test) = p.DoWhile line (stmt_of body) (expr_of test)
  stmt_of (For' line test step a body) = p.For line (maybe_of test) (maybe_of step) (stmt_of body)
  stmt_of (Return line value) = p.Return line (maybe_of value)
  stmt_of (Break line) = p.Break line
  stmt_of (Continue line) = p.Continue line
  stmt_of (Single' line construct nowait a body) = p.Single line construct nowait (stmt_of body)
  stmt_of (Barrier line construct) = p.Barrier line construct

  pub stmt_row_of : {m : _} → Row_of-Stmt m → p.Stmts
  stmt_row_of end_of-Stmt = p.Done
  stmt_row_of (more_of-Stmt first rest) = p.Then (stmt_of first) (stmt_row_of rest)

-- the same of a list
abbrev pub stmts_of : List Stmt → p.Stmts
stmts_of [] = p.Done
stmts_of (first ∷ rest) = p.Then (stmt_of first) (stmts_of rest)

abbrev pub function_of : Function → p.Function
function_of f = record { params = f.params; slots = f.slots; body = stmts_of f.body.items; ending = f.ending; end_line = f.end_line }

-- the typed program
abbrev pub program_of : Program → p.Program
program_of program = record {
  variables = program.variables;
  functions = map function_of program.functions.items;
  main = program.main;
  constructs = program.constructs;
  lines = program.lines;
}
