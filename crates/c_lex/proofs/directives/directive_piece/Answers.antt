use Rattle.std.proofs.Common.{sym, ◌∙◌}
use Rattle.c_lex.specs.Defined.{meanings}
use Rattle.c_lex.proofs.DirectiveSteps.{directive_is}
use Rattle.c_lex.proofs.directives.directive_piece.Goals as goal

pub returns : goal.returns
returns c = c.directive_named.ensures ∙ sym (directive_is c.args.src.now (meanings c.args.defines.now.numbers) c.args.at c.run-len.result c.run-len.ensures.count)
