-- The arguments of a call and the items of a block, by their lists.
use Rattle.std.proofs.Common.{◌≡◌, ℕ, List, refl, ap, ◌∙◌, Vec, Global}
use mathlib.Core.Former.{Count}
use Rattle.c_tree.specs.declared.syntax.Place.{Place}
use Rattle.c_tree.specs.declared.syntax.Expr as e
use Rattle.c_tree.specs.declared.syntax.Expr.TheVariants.{Call}
use Rattle.c_tree.specs.declared.syntax.Stmt as s
use Rattle.c_tree.specs.declared.syntax.Stmt.TheVariants.{Block}
use Rattle.c_tree.specs.Syntax as x
use Rattle.c_tree.specs.SyntaxOf.{expr_of, row_of, exprs_of, stmt_of, stmt_row_of, stmts_of}

abbrev call_row : e.Expr → (n : Count) × e.Row_of-Expr n
call_row (e.Call' at name _ row) = (_, row)
call_row _ = (_, e.end_of-Expr)

arguments_of : (n : _) (r : e.Row_of-Expr n) → row_of r ≡ exprs_of (e.items-the_row-Expr n r)
arguments_of n e.end_of-Expr = refl
arguments_of n (e.more_of-Expr first rest) = ap (x.More (expr_of first)) (arguments_of _ rest)

pub call_is : (at : Place) (name : List ℕ) (arguments : Vec e.Expr Global) → expr_of (Call at name arguments) ≡ x.Call at name (exprs_of arguments.items)
call_is at name arguments =
    let row = call_row (Call at name arguments) in
    ap (x.Call at name) (arguments_of row.0 row.1 ∙ ap exprs_of (e.items_hidden-the_row-Expr-0 arguments))

abbrev block_row : s.Stmt → (n : Count) × s.Row_of-Stmt n
block_row (s.Block' at _ row end_line) = (_, row)
block_row _ = (_, s.end_of-Stmt)

items_of : (n : _) (r : s.Row_of-Stmt n) → stmt_row_of r ≡ stmts_of (s.items-the_row-Stmt n r)
items_of n s.end_of-Stmt = refl
items_of n (s.more_of-Stmt first rest) = ap (x.Then (stmt_of first)) (items_of _ rest)

pub block_is : (at : Place) (items : Vec s.Stmt Global) (end_line : ℕ) → stmt_of (Block at items end_line) ≡ x.Block at (stmts_of items.items) end_line
block_is at items end_line =
    let row = block_row (Block at items end_line) in
    ap (λ r. x.Block at r end_line) (items_of row.0 row.1 ∙ ap stmts_of (s.items_hidden-the_row-Stmt-0 items))
