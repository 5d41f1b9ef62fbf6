use Rattle.std.proofs.Common.{◌≡◌, ◌+◌, ◌≤◌, take, drop}
use Rattle.c_lex.specs.Places.{behind}
use Rattle.c_lex.proofs.places.behind.Given as goal

abbrev pub invariant-loop-byte : goal.invariant-loop-byte
invariant-loop-byte l = (l.here.at ≡ l.fn.place.at + l.byte-index) × (l.here.line ≤ l.here.at + 1) × (l.here.col ≤ l.here.at + 1) × (behind l.here (drop l.byte-index l.byte-items) ≡ behind l.fn.place (take l.fn.len (drop l.fn.place.at l.src)))
