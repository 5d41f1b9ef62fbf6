use Rattle.std.proofs.Common.{◌≡◌, drop, map}
use Rattle.c_lex.specs.Lookups.{first_sign, row_of}
use Rattle.c_lex.proofs.signs.sign_among.Given as goal

abbrev pub invariant-loop-text : goal.invariant-loop-text
invariant-loop-text l = first_sign (map row_of l.signs) l.bytes ≡ first_sign (map row_of (drop l.text-index l.signs)) l.bytes
