use Rattle.std.proofs.Common.{◌≡◌, ◌+◌, ◌≤◌, drop}
use Rattle.c_lex.specs.Places.{behind, start}
use Rattle.c_parse.proofs.parser.end_of.Given as goal

abbrev pub invariant-loop-byte : goal.invariant-loop-byte
invariant-loop-byte l =
    (l.line ≤ l.byte-index + 1) × (l.col ≤ l.byte-index + 1)
    × (behind (record { at = l.byte-index; line = l.line; col = l.col }) (drop l.byte-index l.src) ≡ behind start l.src)
