-- The items of a block, by the list that was read.
use Rattle.std.proofs.Common.{◌≡◌, List, [], ◌∷◌, map, refl, ap}
use Rattle.c_tree.specs.declared.syntax.Stmt.{Stmt}
use Rattle.c_tree.specs.Syntax as x
use Rattle.c_tree.specs.SyntaxOf.{stmt_of, stmts_of}
use Rattle.c_parse.specs.StatementGrammar.{items_of}

pub same_items : (ss : List Stmt) → stmts_of ss ≡ items_of (map stmt_of ss)
same_items [] = refl
same_items (s ∷ ss) = ap (x.Then (stmt_of s)) (same_items ss)
