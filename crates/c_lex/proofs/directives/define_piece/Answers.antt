use Rattle.std.proofs.Common.{sym, ◌∙◌}
use Rattle.c_lex.specs.Defined.{meanings}
use Rattle.c_lex.proofs.DirectiveSteps.{define_is}
use Rattle.c_lex.proofs.directives.define_piece.Goals as goal

pub returns : goal.returns
returns c = c.define_named.ensures ∙ sym (define_is c.args.src.now (meanings c.args.defines.now.numbers) c.args.at c.run-gap.result c.run-gap.ensures.count)
