use Rattle.std.proofs.Common.{◌≡◌, drop, map}
use Rattle.c_lex.specs.Lookups.{looked_up, row_of}
use Rattle.c_lex.proofs.keys.key_among.Given as goal

abbrev pub invariant-loop-text : goal.invariant-loop-text
invariant-loop-text l = looked_up (map row_of l.keys) l.word ≡ looked_up (map row_of (drop l.text-index l.keys)) l.word
