-- The arguments of a call and the items of a block in a typed program, by their lists.
use Rattle.std.proofs.Common.{◌≡◌, ℕ, refl, ap, ◌∙◌, Vec, Global}
use mathlib.Core.Former.{Count}
use Rattle.c_tree.specs.declared.program.Callee.{Callee}
use Rattle.c_tree.specs.declared.program.Expr as e
use Rattle.c_tree.specs.declared.program.Expr.TheVariants.{Apply}
use Rattle.c_tree.specs.declared.program.Stmt as s
use Rattle.c_tree.specs.declared.program.Stmt.TheVariants.{Block}
use Rattle.c_tree.specs.Programs as p
use Rattle.c_tree.specs.ProgramOf.{expr_of, row_of, exprs_of, stmt_of, stmt_row_of, stmts_of}

abbrev apply_row : e.Expr → (n : Count) × e.Row_of-Expr n
apply_row (e.Apply' callee _ row) = (_, row)
apply_row _ = (_, e.end_of-Expr)

arguments_of : (n : _) (r : e.Row_of-Expr n) → row_of r ≡ exprs_of (e.items-the_row-Expr n r)
arguments_of n e.end_of-Expr = refl
arguments_of n (e.more_of-Expr first rest) = ap (p.More (expr_of first)) (arguments_of _ rest)

pub apply_is : (callee : Callee) (arguments : Vec e.Expr Global) → expr_of (Apply callee arguments) ≡ p.Apply callee (exprs_of arguments.items)
apply_is callee arguments =
    let row = apply_row (Apply callee arguments) in
    ap (p.Apply callee) (arguments_of row.0 row.1 ∙ ap exprs_of (e.items_hidden-the_row-Expr-0 arguments))

abbrev block_row : s.Stmt → (n : Count) × s.Row_of-Stmt n
block_row (s.Block' _ row end_line) = (_, row)
block_row _ = (_, s.end_of-Stmt)

items_of : (n : _) (r : s.Row_of-Stmt n) → stmt_row_of r ≡ stmts_of (s.items-the_row-Stmt n r)
items_of n s.end_of-Stmt = refl
items_of n (s.more_of-Stmt first rest) = ap (p.Then (stmt_of first)) (items_of _ rest)

pub block_is : (items : Vec s.Stmt Global) (end_line : ℕ) → stmt_of (Block items end_line) ≡ p.Block (stmts_of items.items) end_line
block_is items end_line =
    let row = block_row (Block items end_line) in
    ap (λ r. p.Block r end_line) (items_of row.0 row.1 ∙ ap stmts_of (s.items_hidden-the_row-Stmt-0 items))
