use Rattle.std.proofs.Common.{◌≡◌, take}
use Rattle.c_parse.specs.Symbols.{named_in}
use Rattle.c_parse.proofs.tokens.named_in.Given as goal

abbrev pub invariant-loop-name : goal.invariant-loop-name
invariant-loop-name l = l.list.items ≡ named_in l.line (take l.name-index l.name-items)
