-- The arguments of calls and the items of blocks, one after the other.
use Rattle.std.proofs.Common.{◌≡◌, ℕ, ◌+◌, ◌<◌, ◌&&◌, Bool, true, false, List, [], ◌∷◌, length, map, drop, get_or, sym, ap, ◌∙◌, Vec, Global}
use Rattle.std.specs.List.{list_all}
use Rattle.std.proofs.lemmas.List.{drop_more}
use Rattle.std.proofs.lemmas.List.Folds.{list_all-map}
use Rattle.c_tree.specs.declared.program.Function.{Function}
use Rattle.c_tree.specs.declared.program.Callee.{Callee}
use Rattle.c_tree.specs.declared.program.Expr.{Expr}
use Rattle.c_tree.specs.declared.program.Expr.TheVariants.{Apply}
use Rattle.c_tree.specs.declared.program.Stmt.{Stmt}
use Rattle.c_tree.specs.declared.program.Stmt.TheVariants.{Block}
use Rattle.c_tree.specs.ProgramOf.{expr_of, exprs_of, stmt_of, stmts_of, function_of}
use Rattle.c_tree.proofs.ProgramRows.{apply_is, block_is}
use Rattle.c_compile.specs.Plain.{is_plain_callee, is_plain_expr, are_plain_exprs, is_plain_stmt, are_plain_stmts, is_plain_function}

here : {A : Type 0} (all : List A) (i : ℕ) (x : A) → i < length all → x ≡ get_or all i x → drop i all ≡ x ∷ drop (i + 1) all
here all i x h is = drop_more all i x h ∙ ap (λ y. y ∷ drop (i + 1) all) (sym is)

-- a call of a plain callee is plain where its arguments are
pub call_plain : (e : Expr) (callee : Callee) (arguments : Vec Expr Global) (listed : List Expr) (b r : Bool) → e ≡ Apply callee arguments → b ≡ is_plain_callee callee → b ≡ true → listed ≡ arguments.items
    → r ≡ are_plain_exprs (exprs_of listed) → r ≡ is_plain_expr (expr_of e)
call_plain e callee arguments listed b r is b_is plain lists r_is =
    let called : is_plain_callee callee ≡ true = sym b_is ∙ plain in
    sym (ap (λ x. is_plain_expr (expr_of x)) is ∙ ap is_plain_expr (apply_is callee arguments) ∙ ap (λ x. x && are_plain_exprs (exprs_of arguments.items)) called ∙ sym (r_is ∙ ap (λ l. are_plain_exprs (exprs_of l)) lists))

-- a block is plain where its items are
pub block_plain : (s : Stmt) (items : Vec Stmt Global) (end_line : ℕ) (listed : List Stmt) (r : Bool) → s ≡ Block items end_line → listed ≡ items.items → r ≡ are_plain_stmts (stmts_of listed) → r ≡ is_plain_stmt (stmt_of s)
block_plain s items end_line listed r is lists r_is =
    sym (ap (λ x. is_plain_stmt (stmt_of x)) is ∙ ap is_plain_stmt (block_is items end_line) ∙ sym (r_is ∙ ap (λ l. are_plain_stmts (stmts_of l)) lists))

-- an argument that is not plain decides for all
pub stop_expr : (all : List Expr) (i : ℕ) (e : Expr) (b : Bool) → i < length all → e ≡ get_or all i e → b ≡ is_plain_expr (expr_of e) → b ≡ false → are_plain_exprs (exprs_of (drop i all)) ≡ are_plain_exprs (exprs_of all)
    → false ≡ are_plain_exprs (exprs_of all)
stop_expr all i e b h is b_is fails same =
    sym (ap (λ l. are_plain_exprs (exprs_of l)) (here all i e h is) ∙ ap (λ x. x && are_plain_exprs (exprs_of (drop (i + 1) all))) (sym b_is ∙ fails)) ∙ same

-- and so does an item
pub stop_stmt : (all : List Stmt) (i : ℕ) (s : Stmt) (b : Bool) → i < length all → s ≡ get_or all i s → b ≡ is_plain_stmt (stmt_of s) → b ≡ false → are_plain_stmts (stmts_of (drop i all)) ≡ are_plain_stmts (stmts_of all)
    → false ≡ are_plain_stmts (stmts_of all)
stop_stmt all i s b h is b_is fails same =
    sym (ap (λ l. are_plain_stmts (stmts_of l)) (here all i s h is) ∙ ap (λ x. x && are_plain_stmts (stmts_of (drop (i + 1) all))) (sym b_is ∙ fails)) ∙ same

-- the functions of a typed program are plain where those of the code's program are
pub listed_plain : (functions : List Function) → list_all is_plain_function (map function_of functions) ≡ list_all (λ f. is_plain_function (function_of f)) functions
listed_plain functions = list_all-map is_plain_function function_of functions
