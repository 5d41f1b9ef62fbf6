use Rattle.std.proofs.Common.{◌≡◌, ap₂, ◌∙◌, rules, codes}
use Rattle.clap.specs.Words.{with_rule}
use Rattle.command_words.proofs.command.command.Goals as goal

pub returns : goal.returns
returns c =
    c.in_ok-command.ensures.shape (search rules)
    ∙ ap₂ with_rule (c.in_ok-arg-3.ensures.shape (search rules)
    ∙ ap₂ with_rule (c.in_ok-arg-2.ensures.shape (search rules)
    ∙ ap₂ with_rule (c.in_ok-arg.ensures.shape (search rules)
    ∙ ap₂ with_rule c.in_ok-with_bounds.ensures (search rules)) (search rules)) (search rules)) (search rules)
