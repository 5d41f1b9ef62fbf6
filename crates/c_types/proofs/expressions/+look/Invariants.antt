use Rattle.std.proofs.Common.{◌≡◌, ◌++◌, ◌-◌, ◌≤◌, drop}
use Rattle.c_tree.specs.SyntaxOf.{exprs_of}
use Rattle.c_types.specs.Answers.{MakesOnto}
use Rattle.c_types.specs.Calls as calls
use Rattle.c_types.specs.Env.{first_some}
use Rattle.c_types.specs.Expressions as expressions
use Rattle.c_types.specs.Nodes.{first_of}
use Rattle.c_types.specs.Outcomes.{fault}
use Rattle.c_types.specs.Typed as typed
use Rattle.c_types.proofs.expressions.+look.Given as goal

abbrev pub invariant-look_every-loop-i : goal.invariant-look_every-loop-i
invariant-look_every-loop-i l = record {
  from : l.fn.from ≤ l.i;
  kinds : l.kinds.items ++ expressions.kinds l.names (exprs_of (drop l.i l.arguments)) ≡ expressions.kinds l.names (exprs_of (drop l.fn.from l.arguments));
  first : first_some (fault l.made) (first_of (expressions.argument_outline calls.Every l.names (exprs_of (drop l.i l.arguments))))
      ≡ first_of (expressions.argument_outline calls.Every l.names (exprs_of (drop l.fn.from l.arguments)));
  made : MakesOnto l.made (typed.passed l.names (typed.Own (drop (l.i - l.fn.from) l.params)) (exprs_of (drop l.i l.arguments)))
      (typed.passed l.names (typed.Own l.params) (exprs_of (drop l.fn.from l.arguments)));
}

abbrev pub invariant-look_row-loop-i : goal.invariant-look_row-loop-i
invariant-look_row-loop-i l = record {
  givens : l.givens.items ++ expressions.givens l.names (exprs_of (drop l.i l.arguments)) ≡ expressions.givens l.names (exprs_of l.arguments);
  first : first_some (fault l.made) (first_of (expressions.argument_outline calls.Expressions l.names (exprs_of (drop l.i l.arguments))))
      ≡ first_of (expressions.argument_outline calls.Expressions l.names (exprs_of l.arguments));
  made : MakesOnto l.made (typed.passed l.names (typed.Row (drop l.i l.row)) (exprs_of (drop l.i l.arguments)))
      (typed.passed l.names (typed.Row l.row) (exprs_of l.arguments));
}
