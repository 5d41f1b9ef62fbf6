use Rattle.std.proofs.Common.{◌+◌, ◌-◌, take, drop, sym, ap, ◌∙◌}
use Rattle.c_lex.specs.Defined.{meanings}
use Rattle.c_lex.specs.Front.{define_agreed}
use Rattle.c_lex.proofs.DirectiveSteps.{named_is, if_true, if_false}
use Rattle.c_lex.proofs.directives.define_named.Goals as goal

pub returns-then-not-is_definable : goal.returns-then-not-is_definable
returns-then-not-is_definable c =
    sym (named_is c.args.src.now (meanings c.args.defines.now.numbers) c.args.gap c.args.at c.run-len.result c.run-len.ensures.count ∙ if_false _ _ _ c.if-not-is_definable.ensures)

pub returns : goal.returns
returns c =
    c.agreed.ensures ∙ (ap (define_agreed (meanings c.args.defines.now.numbers) c.args.gap (take (c.args.at + c.run-len.result - c.args.at) (drop c.args.at c.args.src.now)) c.run-len.result) c.numbered.ensures.value
    ∙ sym (named_is c.args.src.now (meanings c.args.defines.now.numbers) c.args.gap c.args.at c.run-len.result c.run-len.ensures.count ∙ if_true _ _ _ c.if-not-is_definable.ensures))
