use Rattle.std.proofs.Common.{◌+◌, ◌-◌, ◌≤◌, List, ◌++◌, length, drop}
use Rattle.c_lex.specs.declared.tokens.Token.{Token}
use Rattle.c_lex.specs.declared.tokens.LexRefusal.{LexRefusal}
use Rattle.c_lex.specs.Defined.{meanings}
use Rattle.c_lex.specs.Lexed.{Pieces, Refuses, beginning}
use Rattle.c_lex.proofs.scan.tokens_of.Given as goal

abbrev pub invariant-loop-place : goal.invariant-loop-place
invariant-loop-place l = record {
  within : l.place.at ≤ length l.src;
  line : l.place.line ≤ l.place.at + 1;
  col : l.place.col ≤ l.place.at + 1;
  tokens : (ts : List Token) → Pieces (record { place = l.place; fresh = l.fresh; known = meanings l.defines.numbers }) (drop l.place.at l.src) ts → Pieces beginning l.src (l.tokens.items ++ ts);
  refused : (r : LexRefusal) → Refuses (record { place = l.place; fresh = l.fresh; known = meanings l.defines.numbers }) (drop l.place.at l.src) r → Refuses beginning l.src r;
}

abbrev pub decreases-loop-place : goal.decreases-loop-place
decreases-loop-place l = length l.src - l.place.at
