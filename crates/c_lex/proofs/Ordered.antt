-- The tokens of a source stand in order within it.
use Rattle.std.proofs.Common.{◌≡◌, ℕ, ◌+◌, ◌-◌, ◌≤◌, List, [], ◌∷◌, ◌++◌, length, take, drop, sym, ap, ◌∙◌, subst, arith, length-append, length-drop}
use Rattle.std.proofs.lemmas.List.{length-take-le}
use Rattle.c_lex.specs.declared.tokens.Kind.{Kind}
use Rattle.c_lex.specs.declared.tokens.Kind.TheVariants as kind
use Rattle.c_lex.specs.declared.tokens.Token.{Token}
use Rattle.c_lex.specs.declared.places.Place.{Place}
use Rattle.c_lex.specs.declared.pieces.Found.{Found}
use Rattle.c_lex.specs.declared.pieces.Found.TheVariants.{Feed, Blank, Comment, Include, Define, Pragma, Taken}
use Rattle.c_lex.specs.Places.{behind, behind_byte}
use Rattle.c_lex.specs.Lexed.{State, Takes, Pieces, given, token_at}
use Rattle.c_lex.specs.Lexed as lexed
use Rattle.c_lex.specs.Spans.{InOrder}

pub at_behind : (p : Place) (bytes : List ℕ) → (behind p bytes).at ≡ p.at + length bytes
at_behind p [] = omega arith
at_behind p (c ∷ cs) = at_behind (behind_byte p c) cs ∙ omega arith

from_earlier : (at from size : ℕ) (ts : List Token) → at ≤ from → InOrder from size ts → InOrder at size ts
from_earlier at from size [] le h = tt
from_earlier at from size (t ∷ ts) le h = (omega (arith, h.0), h.1, h.2)

-- a pragma is as long as its mark
pub marked_long : (s : State) (w rest : List ℕ) → Takes s Pragma w rest → 7 ≤ length w
marked_long s w rest h = let n : length w ≡ 7 + length h.1.line = ap length h.1.is ∙ simp length-append (omega arith) in omega (arith, n)

one_more : (p : Place) (k : Kind) (word : List ℕ) (from size : ℕ) (us : List Token) → from ≤ p.at → p.at + length word ≤ size → InOrder (p.at + length word) size us → InOrder from size (token_at p k word ∷ us)
one_more p k word from size us le within h = (le, within, h)

given_order : (s : State) (f : Found) (w rest : List ℕ) (size : ℕ) (us : List Token) → Takes s f w rest → s.place.at + length w ≤ size → InOrder (s.place.at + length w) size us → InOrder s.place.at size (given s f w ++ us)
given_order s (Taken k) w rest size us t within h = one_more s.place k w s.place.at size us (omega arith) within h
given_order s Pragma w rest size us t within h =
    let p = behind s.place (take 7 w) in
    let long = marked_long s w rest t in
    let m : length (take 7 w) ≡ 7 = length-take-le 7 w long in
    let a : p.at ≡ s.place.at + 7 = at_behind s.place (take 7 w) ∙ ap (λ n. s.place.at + n) m in
    let n : length (drop 7 w) ≡ length w - 7 = length-drop 7 w in
    let e : p.at + length (drop 7 w) ≡ s.place.at + length w = omega (arith, a, n, long) in
    one_more p kind.Pragma (drop 7 w) s.place.at size us (omega (arith, a)) (omega (arith, e)) (subst (λ k. InOrder k size us) (sym e) h)
given_order s Feed w rest size us t within h = from_earlier s.place.at (s.place.at + length w) size us (omega arith) h
given_order s Blank w rest size us t within h = from_earlier s.place.at (s.place.at + length w) size us (omega arith) h
given_order s Comment w rest size us t within h = from_earlier s.place.at (s.place.at + length w) size us (omega arith) h
given_order s Include w rest size us t within h = from_earlier s.place.at (s.place.at + length w) size us (omega arith) h
given_order s (Define from len number) w rest size us t within h = from_earlier s.place.at (s.place.at + length w) size us (omega arith) h

pub in_order : {s : State} {bytes : List ℕ} {ts : List Token} (size : ℕ) → s.place.at + length bytes ≡ size → Pieces s bytes ts → InOrder s.place.at size ts
in_order size e lexed.done = tt
in_order size e (lexed.piece {s} {bytes} {ts} f word rest us is t g h) =
    let n : length bytes ≡ length word + length rest = ap length is ∙ length-append word rest in
    let a = at_behind s.place word in
    let tail : InOrder (s.place.at + length word) size us = subst (λ k. InOrder k size us) a (in_order size (omega (arith, a, n, e)) h) in
    subst (InOrder s.place.at size) (sym g) (given_order s f word rest size us t (omega (arith, n, e)) tail)
