-- The arguments of a call, by the list that was read.
use Rattle.std.proofs.Common.{◌≡◌, ℕ, List, [], ◌∷◌, map, refl, ap, ◌∙◌, Vec, Global}
use Rattle.c_tree.specs.declared.syntax.Place.{Place}
use Rattle.c_tree.specs.declared.syntax.Expr.{Expr}
use Rattle.c_tree.specs.declared.syntax.Expr.TheVariants.{Call}
use Rattle.c_tree.specs.Syntax as x
use Rattle.c_tree.specs.SyntaxOf.{expr_of, exprs_of}
use Rattle.c_tree.proofs.SyntaxRows.{call_is}
use Rattle.c_parse.specs.Grammar.{arguments_of}

same_arguments : (es : List Expr) → exprs_of es ≡ arguments_of (map expr_of es)
same_arguments [] = refl
same_arguments (e ∷ es) = ap (x.More (expr_of e)) (same_arguments es)

pub call_read : (at : Place) (name : List ℕ) (arguments : Vec Expr Global) → expr_of (Call at name arguments) ≡ x.Call at name (arguments_of (map expr_of arguments.items))
call_read at name arguments = call_is at name arguments ∙ ap (x.Call at name) (same_arguments arguments.items)
