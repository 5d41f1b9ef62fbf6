use Rattle.std.proofs.Common.{◌≡◌, ◌≤◌, drop}
use Rattle.c_lex.specs.Bytes.{is_digit}
use Rattle.c_lex.specs.Words.{digit_worth}
use Rattle.c_lex.specs.Front.{numeral_from}
use Rattle.c_lex.proofs.words.decimal_digits.Given as goal

abbrev pub invariant-loop-byte : goal.invariant-loop-byte
invariant-loop-byte l = (l.value ≤ 9223372036854775807) × (numeral_from is_digit 9 digit_worth 0 l.word ≡ numeral_from is_digit 9 digit_worth l.value (drop l.byte-index l.word))
