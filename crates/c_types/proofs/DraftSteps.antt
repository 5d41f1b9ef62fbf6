-- How a draft of a format grows.
use Rattle.std.proofs.lemmas.Bool.{false≢true}
use Rattle.std.proofs.Common.{rules, tests, arith, eq-eqb, ◌==◌, Vec, Global, vec_len, ◌≡◌, ℕ, Bool, false, cond, nat_eq, List, [], ◌∷◌, ◌++◌, Option, None, Some, option_map, refl, sym, ap, ◌∙◌, append_assoc, length, drop, get_or, ◌<◌, ◌+◌}
use Rattle.std.proofs.lemmas.List.{drop_more}
use Rattle.c_tree.specs.declared.program.Width.{Width}
use Rattle.c_tree.specs.declared.program.Width.TheVariants as width
use Rattle.c_tree.specs.declared.formats.Piece.{Piece}
use Rattle.c_tree.specs.declared.formats.Piece.TheVariants.{Text, Number}
use Rattle.c_types.specs.declared.formats.Begun.{Begun}
use Rattle.c_types.specs.declared.formats.Begun.TheVariants.{Outside, Percent, PercentL}
use Rattle.c_types.specs.declared.formats.Draft.{Draft}
use Rattle.c_types.specs.Drafts.{joined, completed, completed_from, parts_read}
use Rattle.c_types.specs.Formats as formats
use Rattle.c_types.specs.Formats.{Part, Byte, Conversion, with_byte, pieces_of, widths_of, parts_from, before}

-- one more byte of the run
pub joined_byte : (run new : List ℕ) (c : ℕ) (pieces : List Piece) → new ≡ run ++ c ∷ [] → joined new pieces ≡ joined run (with_byte c pieces)
joined_byte run new c pieces is = ap (λ r. joined r pieces) is ∙ more run c pieces
  where
    more : (run : List ℕ) (c : ℕ) (pieces : List Piece) → joined (run ++ c ∷ []) pieces ≡ joined run (with_byte c pieces)
    more [] c pieces = refl
    more (b ∷ run) c pieces = ap (with_byte b) (more run c pieces)

pub byte_put : (old : Draft) (run : List ℕ) (c : ℕ) → run ≡ old.run.items ++ c ∷ [] → (parts : List Part)
    → (old.pieces.items ++ joined run (pieces_of parts), old.widths.items ++ widths_of parts) ≡ completed old (Byte c ∷ parts)
byte_put old run c is parts = ap (λ ps. (old.pieces.items ++ ps, old.widths.items ++ widths_of parts)) (joined_byte old.run.items run c (pieces_of parts) is)

-- a run that has bytes is one piece
joined_text : (c : ℕ) (cs : List ℕ) → joined (c ∷ cs) [] ≡ Text (c ∷ cs) ∷ []
joined_text c [] = refl
joined_text c (d ∷ cs) = ap (with_byte c) (joined_text d cs)

pub run_ended : (old new : List Piece) (run taken : List ℕ) → (run ≡ [] → ⊥) → taken ≡ run → new ≡ old ++ Text taken ∷ [] → new ≡ old ++ joined run []
run_ended old new [] taken some same is = absurd (some refl)
run_ended old new (c ∷ cs) taken some same is = is ∙ ap (λ r. old ++ Text r ∷ []) same ∙ ap (λ l. old ++ l) (sym (joined_text c cs))

before_number : (c : ℕ) (cs : List ℕ) (pieces : List Piece) → joined (c ∷ cs) (Number ∷ pieces) ≡ Text (c ∷ cs) ∷ Number ∷ pieces
before_number c [] pieces = refl
before_number c (d ∷ cs) pieces = ap (with_byte c) (before_number d cs pieces)

-- a number ends the run
joined_number : (run : List ℕ) (pieces : List Piece) → joined run (Number ∷ pieces) ≡ joined run [] ++ Number ∷ pieces
joined_number [] pieces = refl
joined_number (c ∷ cs) pieces = before_number c cs pieces ∙ sym (ap (λ l. l ++ Number ∷ pieces) (joined_text c cs))

number_pieces : (old ended new : List Piece) (run rest : List ℕ) (pieces : List Piece) → ended ≡ old ++ joined run [] → rest ≡ [] → new ≡ ended ++ Number ∷ []
    → new ++ joined rest pieces ≡ old ++ joined run (Number ∷ pieces)
number_pieces old ended new run rest pieces e none n =
    ap (λ r. new ++ joined r pieces) none
    ∙ ap (λ l. l ++ pieces) (n ∙ ap (λ l. l ++ Number ∷ []) e)
    ∙ append_assoc (old ++ joined run []) (Number ∷ []) pieces
    ∙ append_assoc old (joined run []) (Number ∷ pieces)
    ∙ ap (λ l. old ++ l) (sym (joined_number run pieces))

pub number_put : (old : Draft) (ended new : List Piece) (rest : List ℕ) (mid widths : List Width) (width : Width)
    → ended ≡ old.pieces.items ++ joined old.run.items [] → rest ≡ [] → mid ≡ old.widths.items → new ≡ ended ++ Number ∷ [] → widths ≡ mid ++ width ∷ [] → (parts : List Part)
    → (new ++ joined rest (pieces_of parts), widths ++ widths_of parts) ≡ completed old (Conversion width ∷ parts)
number_put old ended new rest mid widths width e none m n w parts =
    ap (λ ps. (ps, widths ++ widths_of parts)) (number_pieces old.pieces.items ended new old.run.items rest (pieces_of parts) e none n)
    ∙ ap (λ ws. (old.pieces.items ++ joined old.run.items (Number ∷ pieces_of parts), ws)) (ap (λ l. l ++ widths_of parts) (w ∙ ap (λ l. l ++ width ∷ []) m) ∙ append_assoc old.widths.items (width ∷ []) (widths_of parts))

map_before : (old new : Draft) (part : Part) (rest : Option (List Part)) → ((parts : List Part) → completed new parts ≡ completed old (part ∷ parts))
    → option_map (completed old) (before part rest) ≡ option_map (completed new) rest
map_before old new part None h = refl
map_before old new part (Some parts) h = ap Some (sym (h parts))

other_byte : (c : ℕ) → (c ≡ 37 → ⊥) → nat_eq c 37 ≡ false
other_byte c other = search (rules, tests)

-- a byte outside of conversions
pub took_byte : (old new : Draft) (b : Begun) (c : ℕ) → b ≡ Outside → (c ≡ 37 → ⊥) → ((parts : List Part) → completed new parts ≡ completed old (Byte c ∷ parts)) → (bytes : List ℕ)
    → completed_from (Some b) (c ∷ bytes) old ≡ completed_from (Some Outside) bytes new
took_byte old new b c is other h bytes =
    ap (λ o. completed_from (Some o) (c ∷ bytes) old) is
    ∙ ap (λ t. option_map (completed old) (cond t (parts_from formats.Percent bytes) (before (Byte c) (parts_from formats.Outside bytes)))) (other_byte c other)
    ∙ map_before old new (Byte c) (parts_from formats.Outside bytes) h

-- %d
pub took_int : (old new : Draft) (c : ℕ) → c ≡ 100 → ((parts : List Part) → completed new parts ≡ completed old (Conversion width.Int ∷ parts)) → (bytes : List ℕ)
    → completed_from (Some Percent) (c ∷ bytes) old ≡ completed_from (Some Outside) bytes new
took_int old new c is h bytes =
    ap (λ d. completed_from (Some Percent) (d ∷ bytes) old) is ∙ map_before old new (Conversion width.Int) (parts_from formats.Outside bytes) h

-- %%
pub took_percent : (old new : Draft) (c : ℕ) → c ≡ 37 → ((parts : List Part) → completed new parts ≡ completed old (Byte c ∷ parts)) → (bytes : List ℕ)
    → completed_from (Some Percent) (c ∷ bytes) old ≡ completed_from (Some Outside) bytes new
took_percent old new c is h bytes =
    ap (λ d. completed_from (Some Percent) (d ∷ bytes) old) is
    ∙ map_before old new (Byte 37) (parts_from formats.Outside bytes) (λ parts. h parts ∙ ap (λ d. completed old (Byte d ∷ parts)) is)

-- %ld
pub took_long : (old new : Draft) (b : Begun) (c : ℕ) → b ≡ PercentL → c ≡ 100 → ((parts : List Part) → completed new parts ≡ completed old (Conversion width.Long ∷ parts)) → (bytes : List ℕ)
    → completed_from (Some b) (c ∷ bytes) old ≡ completed_from (Some Outside) bytes new
took_long old new b c is eq h bytes =
    ap (λ o. completed_from (Some o) (c ∷ bytes) old) is
    ∙ ap (λ d. completed_from (Some PercentL) (d ∷ bytes) old) eq
    ∙ map_before old new (Conversion width.Long) (parts_from formats.Outside bytes) h

-- a new draft
pub begun_new : (draft : Draft) → ((parts : List Part) → completed draft parts ≡ (pieces_of parts, widths_of parts)) → (parts : Option (List Part))
    → option_map (completed draft) parts ≡ option_map parts_read parts
begun_new draft h None = refl
begun_new draft h (Some parts) = ap Some (h parts)

-- one more byte is taken
took : (bytes : List ℕ) (i : ℕ) (old new : Draft) (b : Begun) (r : Option Begun) (goal : Option (List Piece × List Width)) → i < length bytes
    → ((rest : List ℕ) → completed_from (Some b) (get_or bytes i 0 ∷ rest) old ≡ completed_from r rest new)
    → completed_from (Some b) (drop i bytes) old ≡ goal → completed_from r (drop (i + 1) bytes) new ≡ goal
took bytes i old new b r goal h taken inv = sym (taken (drop (i + 1) bytes)) ∙ sym (ap (λ l. completed_from (Some b) l old) (drop_more bytes i 0 h)) ∙ inv

pub took_next : (bytes : List ℕ) (i : ℕ) (old new : Draft) (b next : Begun) (r : Option Begun) (goal : Option (List Piece × List Width)) → i < length bytes → r ≡ Some next
    → ((rest : List ℕ) → completed_from (Some b) (get_or bytes i 0 ∷ rest) old ≡ completed_from r rest new)
    → completed_from (Some b) (drop i bytes) old ≡ goal → completed_from (Some next) (drop (i + 1) bytes) new ≡ goal
took_next bytes i old new b next r goal h is taken inv = sym (ap (λ o. completed_from o (drop (i + 1) bytes) new) is) ∙ took bytes i old new b r goal h taken inv

pub took_none : (bytes : List ℕ) (i : ℕ) (old new : Draft) (b : Begun) (r : Option Begun) (goal : Option (List Piece × List Width)) → i < length bytes → r ≡ None
    → ((rest : List ℕ) → completed_from (Some b) (get_or bytes i 0 ∷ rest) old ≡ completed_from r rest new)
    → completed_from (Some b) (drop i bytes) old ≡ goal → None ≡ goal
took_none bytes i old new b r goal h is taken inv = sym (ap (λ o. completed_from o (drop (i + 1) bytes) new) is) ∙ took bytes i old new b r goal h taken inv

-- a vector that is not empty has items
pub has_items : (v : Vec ℕ Global) (r : Bool) → r ≡ (vec_len v == 0) → r ≡ false → v.items ≡ [] → ⊥
has_items v r is some e =
    let none : vec_len v ≡ 0 = omega (arith, v.ok.0, ap length e) in
    false≢true (sym some ∙ is ∙ eq-eqb (vec_len v) 0 none)
