use Rattle.std.proofs.Common.{◌≡◌, IfOk, drop, map}
use Rattle.c_tree.specs.ProgramOf.{stmt_of}
use Rattle.c_tree.specs.SyntaxOf.{stmts_of}
use Rattle.c_types.specs.Env.{first_some}
use Rattle.c_types.specs.Nodes.{first_of}
use Rattle.c_types.specs.Outcomes.{fault}
use Rattle.c_types.specs.Statements as statements
use Rattle.c_types.proofs.statements.+pass.Given as goal

abbrev pub invariant-pass_items-loop-s : goal.invariant-pass_items-loop-s
invariant-pass_items-loop-s l =
    (statements.after_all l.names (stmts_of (drop l.s-index l.all)) ≡ statements.after_all l.initial.names (stmts_of l.all))
    × (first_some (fault l.made) (first_of (statements.stmts_outline l.names l.in_loop (stmts_of (drop l.s-index l.all)))) ≡ first_of (statements.stmts_outline l.initial.names l.in_loop (stmts_of l.all)))
    × IfOk l.made (λ v. statements.onto (map stmt_of v.items) (statements.stmts_made l.names (stmts_of (drop l.s-index l.all))) ≡ statements.stmts_made l.initial.names (stmts_of l.all))
