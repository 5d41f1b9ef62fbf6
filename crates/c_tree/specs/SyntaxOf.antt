-- The code's tree of a source, without its pointers.
use Rattle.std.specs.Prelude.{List, [], ◌∷◌, Option, None, Some, map}
use Rattle.c_tree.specs.declared.syntax.Expr.{Expr, Name, Number, Text, Call', Index', Field', Postfix', Prefix', Unary', Cast', SizeOf, Binary', Choice', Assign', Row_of-Expr, end_of-Expr, more_of-Expr}
use Rattle.c_tree.specs.declared.syntax.Initializer.{Initializer}
use Rattle.c_tree.specs.declared.syntax.Initializer.TheVariants as init
use Rattle.c_tree.specs.declared.syntax.Declarator.{Declarator}
use Rattle.c_tree.specs.declared.syntax.Declaration.{Declaration}
use Rattle.c_tree.specs.declared.syntax.ForHead.{ForHead}
use Rattle.c_tree.specs.declared.syntax.ForHead.TheVariants as head
use Rattle.c_tree.specs.declared.syntax.Stmt.{Stmt, Empty, Eval, Declare, Block', If', IfElse', While', DoWhile', For', Return, Break, Continue, Single', Barrier, Row_of-Stmt, end_of-Stmt, more_of-Stmt}
use Rattle.c_tree.specs.declared.syntax.Body.{Body}
use Rattle.c_tree.specs.declared.syntax.Function.{Function}
use Rattle.c_tree.specs.declared.syntax.Item.{Item}
use Rattle.c_tree.specs.declared.syntax.Item.TheVariants as item
use Rattle.c_tree.specs.declared.syntax.Tree.{Tree}
use Rattle.c_tree.specs.Syntax as x

abbrev mutual
  pub expr_of : Expr → x.Expr
  expr_of (Name at name) = x.Name at name
  expr_of (Number at value long) = x.Number at value long
  expr_of (Text at text) = x.Text at text
  expr_of (Call' at name b arguments) = x.Call at name (row_of arguments)
  expr_of (Index' at p array q index) = x.Index at (expr_of array) (expr_of index)
  expr_of (Field' at p operand name) = x.Field at (expr_of operand) name
  expr_of (Postfix' at change p operand) = x.Postfix at change (expr_of operand)
  expr_of (Prefix' at change p operand) = x.Prefix at change (expr_of operand)
  expr_of (Unary' at sign p operand) = x.Unary' at sign (expr_of operand)
  expr_of (Cast' at to p operand) = x.Cast at to (expr_of operand)
  expr_of (SizeOf at base) = x.SizeOf at base
  expr_of (Binary' at sign p left q right) = x.Binary' at sign (expr_of left) (expr_of right)
  expr_of (Choice' at p test q yes' r no') = x.Choice at (expr_of test) (expr_of yes') (expr_of no')
  expr_of (Assign' at sign p left q right) = x.Assign at sign (expr_of left) (expr_of right)

  pub row_of : {m : _} → Row_of-Expr m → x.Exprs
  row_of end_of-Expr = x.End
  row_of (more_of-Expr first rest) = x.More (expr_of first) (row_of rest)

-- the same of a list
abbrev pub exprs_of : List Expr → x.Exprs
exprs_of [] = x.End
exprs_of (first ∷ rest) = x.More (expr_of first) (exprs_of rest)

abbrev pub maybe_of : Option Expr → Option x.Expr
maybe_of None = None
maybe_of (Some value) = Some (expr_of value)

abbrev pub initializer_of : Initializer → x.Initializer
initializer_of init.Nothing = x.Nothing
initializer_of (init.Value value) = x.Value (expr_of value)
initializer_of (init.List values) = x.Values (map expr_of values.items)

abbrev pub declarator_of : Declarator → x.Declarator
declarator_of d = record { at = d.at; pointer = d.pointer; name = d.name; len = maybe_of d.len; initializer = initializer_of d.initializer }

abbrev pub declaration_of : Declaration → x.Declaration
declaration_of d = record { at = d.at; is_static = d.is_static; base = d.base; declarators = map declarator_of d.declarators.items }

abbrev pub head_of : ForHead → x.ForHead
head_of head.Nothing = x.Bare
head_of (head.Declared declaration) = x.Declared (declaration_of declaration)
head_of (head.Evaluated value) = x.Evaluated (expr_of value)

abbrev mutual
  pub stmt_of : Stmt → x.Stmt
  stmt_of (Empty at) = x.Empty at
  stmt_of (Eval at value) = x.Eval at (expr_of value)
  stmt_of (Declare declaration) = x.Declare (declaration_of declaration)
  stmt_of (Block' at b items end_line) = x.Block at (stmt_row_of items) end_line
  stmt_of (If' at test p body) = x.If at (expr_of test) (stmt_of body)
  stmt_of (IfElse' at test p body q other) = x.IfElse at (expr_of test) (stmt_of body) (stmt_of other)
  stmt_of (While' at test p body) = x.While at (expr_of test) (stmt_of body)
  stmt_of (DoWhile' at p body test) = x.DoWhile at (stmt_of body) (expr_of test)
  stmt_of (For' at head test step p body) = x.For at (head_of head) (maybe_of test) (maybe_of step) (stmt_of body)
  stmt_of (Return at value) = x.Return at (maybe_of value)
  stmt_of (Break at) = x.Break at
  stmt_of (Continue at) = x.Continue at
  stmt_of (Single' at names nowait p body) = x.Single at names nowait (stmt_of body)
  stmt_of (Barrier at names) = x.Barrier at names

  pub stmt_row_of : {m : _} → Row_of-Stmt m → x.Stmts
  stmt_row_of end_of-Stmt = x.Done
  stmt_row_of (more_of-Stmt first rest) = x.Then (stmt_of first) (stmt_row_of rest)

-- the same of a list
abbrev pub stmts_of : List Stmt → x.Stmts
stmts_of [] = x.Done
stmts_of (first ∷ rest) = x.Then (stmt_of first) (stmts_of rest)

abbrev pub body_of : Body → x.Body
body_of b = record { at = b.at; items = stmts_of b.items.items; end_line = b.end_line }

abbrev pub maybe_body_of : Option Body → Option x.Body
maybe_body_of None = None
maybe_body_of (Some body) = Some (body_of body)

abbrev pub function_of : Function → x.Function
function_of f = record { at = f.at; is_static = f.is_static; returns = f.returns; name = f.name; params = f.params.items; body = maybe_body_of f.body }

abbrev pub item_of : Item → x.Item
item_of (item.Scope at level names) = x.Scope at level names
item_of (item.Declare declaration) = x.Variables (declaration_of declaration)
item_of (item.Function function) = x.Defined (function_of function)

-- the tree of a source
abbrev pub tree_of : Tree → x.Tree
tree_of t = record { items = map item_of t.items.items; last_line = t.last_line }
