-- Which words and signs a line has, from left to right.
use Rattle.std.specs.Prelude.{◌≡◌, ℕ, ◌+◌, true, false, List, [], ◌∷◌, ◌++◌, length}
use Rattle.hls_pragma.specs.declared.items.Item.{Item}
use Rattle.hls_pragma.specs.declared.items.Item.TheVariants.{Word}
use Rattle.hls_pragma.specs.Items.{is_blank, is_word_byte, sign_of}

-- each byte is of a word
abbrev pub AllInWord : List ℕ → Type 0
AllInWord [] = Unit {0}
AllInWord (c ∷ cs) = (is_word_byte c ≡ true) × AllInWord cs

-- no word goes on here
abbrev pub WordEnds : List ℕ → Type 0
WordEnds [] = Unit {0}
WordEnds (c ∷ cs) = is_word_byte c ≡ false

-- the bytes from a place on are these words and signs: blanks give none, a word is as long as it can be, and any other byte is a sign
pub data Cut : ℕ → List ℕ → List Item → Type 0 where
  over : {at : ℕ} → Cut at [] []
  blank : {at : ℕ} {bytes : List ℕ} {items : List Item} (c : ℕ) (rest : List ℕ) → bytes ≡ c ∷ rest → is_blank c ≡ true → Cut (at + 1) rest items → Cut at bytes items
  sign : {at : ℕ} {bytes : List ℕ} {items : List Item} (c : ℕ) (rest : List ℕ) (behind : List Item) → bytes ≡ c ∷ rest → is_blank c ≡ false → is_word_byte c ≡ false → items ≡ sign_of c ∷ behind → Cut (at + 1) rest behind → Cut at bytes items
  word : {at : ℕ} {bytes : List ℕ} {items : List Item} (c : ℕ) (cs rest : List ℕ) (behind : List Item) → bytes ≡ c ∷ (cs ++ rest) → AllInWord (c ∷ cs) → WordEnds rest → items ≡ Word (record { start = at; len = length (c ∷ cs) }) ∷ behind → Cut (at + length (c ∷ cs)) rest behind → Cut at bytes items
