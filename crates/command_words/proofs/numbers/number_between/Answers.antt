use Rattle.std.proofs.Common.{rules}
use Rattle.command_words.proofs.Parsed.{parse_fails}
use Rattle.command_words.proofs.numbers.number_between.Goals as goal

pub returns-in_default-3-clause-value : goal.returns-in_default-3-clause-value
returns-in_default-3-clause-value c = parse_fails c.args.low c.args.high c.args.text.now (search rules) (search rules) c.in_default.ensures.value.0
