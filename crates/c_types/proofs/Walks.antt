-- The walk over a call and a block, by the lists of their arguments and items.
use Rattle.std.proofs.Common.{◌≡◌, ℕ, List, cond, sym, ap, ◌∙◌, Vec, Global}
use Rattle.c_tree.specs.declared.syntax.Place.{Place}
use Rattle.c_tree.specs.declared.syntax.Expr.{Expr}
use Rattle.c_tree.specs.declared.syntax.Expr.TheVariants.{Call}
use Rattle.c_tree.specs.declared.syntax.Stmt.{Stmt}
use Rattle.c_tree.specs.declared.syntax.Stmt.TheVariants.{Block}
use Rattle.c_tree.specs.SyntaxOf.{expr_of, exprs_of, stmt_of, stmts_of}
use Rattle.c_tree.proofs.SyntaxRows.{call_is, block_is}
use Rattle.c_types.specs.Addresses.{Frame, is_start, through, through_all, behind, behind_all, enter_frame, leave_frame}
use Rattle.c_types.specs.KnownNames.{known}

pub call_through : (at : Place) (name bytes : List ℕ) (arguments : Vec Expr Global) (items : List Expr) (e : Expr) (frame new : Frame)
    → e ≡ Call at name arguments → bytes ≡ name → items ≡ arguments.items
    → new ≡ cond (is_start (known bytes)) frame (through_all frame (exprs_of items)) → new ≡ through frame (expr_of e)
call_through at name bytes arguments items e frame new is named listed made =
    made
    ∙ ap (λ b. cond (is_start (known b)) frame (through_all frame (exprs_of items))) named
    ∙ ap (λ l. cond (is_start (known name)) frame (through_all frame (exprs_of l))) listed
    ∙ sym (ap (through frame) (ap expr_of is ∙ call_is at name arguments))

pub block_behind : (at : Place) (block : Vec Stmt Global) (end_line : ℕ) (items : List Stmt) (s : Stmt) (frame new : Frame)
    → s ≡ Block at block end_line → items ≡ block.items
    → new ≡ leave_frame (behind_all (enter_frame frame) (stmts_of items)) → new ≡ behind frame (stmt_of s)
block_behind at block end_line items s frame new is listed made =
    made
    ∙ ap (λ l. leave_frame (behind_all (enter_frame frame) (stmts_of l))) listed
    ∙ sym (ap (behind frame) (ap stmt_of is ∙ block_is at block end_line))
