use Rattle.c_tree.specs.SyntaxOf.{tree_of}
use Rattle.c_types.proofs.Checked.{checked_program, checked_refusal}
use Rattle.c_types.proofs.Laws.{same_refusal, never_both}
use Rattle.c_types.proofs.units.check.Goals as goal

pub returns-clause-program : goal.returns-clause-program
returns-clause-program c = checked_program (tree_of c.args.tree.now) _ c.program_of.ensures.first c.program_of.ensures.made

pub returns-clause-refused : goal.returns-clause-refused
returns-clause-refused c = checked_refusal (tree_of c.args.tree.now) _ c.program_of.ensures.first

pub returns-clause-one_refusal : goal.returns-clause-one_refusal
returns-clause-one_refusal c = same_refusal (tree_of c.args.tree.now)

pub returns-clause-not_both : goal.returns-clause-not_both
returns-clause-not_both c = never_both (tree_of c.args.tree.now)
