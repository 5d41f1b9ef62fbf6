use Rattle.std.proofs.Common.{◌+◌, sym, ap, ◌∙◌}
use Rattle.std.specs.Option.{option_map}
use Rattle.c_lex.specs.Front.{value_found}
use Rattle.c_lex.proofs.DirectiveSteps.{numbered_is, if_true, if_false}
use Rattle.c_lex.proofs.directives.numbered.Goals as goal

pub returns-then-not-is_line_over-clause-value : goal.returns-then-not-is_line_over-clause-value
returns-then-not-is_line_over-clause-value c =
    sym (numbered_is c.args.src.now c.args.from c.run-space.result c.run-len.result c.run-space.ensures.count c.run-len.ensures.count
    ∙ if_false _ _ _ c.if-not-is_line_over.ensures)

pub returns-in-None-clause-value : goal.returns-in-None-clause-value
returns-in-None-clause-value c =
    sym (numbered_is c.args.src.now c.args.from c.run-space.result c.run-len.result c.run-space.ensures.count c.run-len.ensures.count
    ∙ (if_true _ _ _ c.if-not-is_line_over.ensures ∙ ap (option_map (value_found (c.run-space.result + c.run-len.result))) (sym c.in-None.ensures)))

pub returns-in-Some-clause-value : goal.returns-in-Some-clause-value
returns-in-Some-clause-value c =
    sym (numbered_is c.args.src.now c.args.from c.run-space.result c.run-len.result c.run-space.ensures.count c.run-len.ensures.count
    ∙ (if_true _ _ _ c.if-not-is_line_over.ensures ∙ ap (option_map (value_found (c.run-space.result + c.run-len.result))) (sym c.in-Some.ensures)))
