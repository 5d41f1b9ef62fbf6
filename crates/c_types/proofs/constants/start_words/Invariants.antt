use Rattle.std.proofs.Common.{◌≡◌, ◌++◌, drop, map, option_map}
use Rattle.c_tree.specs.SyntaxOf.{expr_of}
use Rattle.c_types.specs.Constants.{start_words}
use Rattle.c_types.proofs.constants.start_words.Given as goal

abbrev pub invariant-loop-value : goal.invariant-loop-value
invariant-loop-value l = option_map (λ ws. l.words.items ++ ws) (start_words l.due (map expr_of (drop l.value-index l.values))) ≡ start_words l.due (map expr_of l.values)
