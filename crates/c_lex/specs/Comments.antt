-- Comments, and lines that hold nothing but blanks and comments.
use Rattle.std.specs.Prelude.{◌≡◌, ℕ, Bool, true, false, ◌&&◌, ◌||◌, List, [], ◌∷◌, ◌++◌, nat_eq}
use Rattle.c_lex.specs.Bytes.{is_gap, is_line_byte, AllAre, Stops}

-- // and the rest of the line
pub record IsLineComment (word rest : List ℕ) : Type 0 where
  pub line : List ℕ
  pub is : word ≡ 47 ∷ 47 ∷ line
  pub all : AllAre is_line_byte line
  pub stops : Stops is_line_byte rest

-- from /* to the next */
pub record IsBlockComment (word : List ℕ) : Type 0 where
  pub body : List ℕ
  pub is : word ≡ 47 ∷ 42 ∷ (body ++ 42 ∷ 47 ∷ [])
  pub next : (a b : List ℕ) → body ++ 42 ∷ [] ≡ a ++ 42 ∷ 47 ∷ b → ⊥

-- a comment begins here
abbrev pub opens_comment : List ℕ → Bool
opens_comment [] = false
opens_comment (c ∷ []) = false
opens_comment (c ∷ d ∷ cs) = nat_eq c 47 && (nat_eq d 47 || nat_eq d 42)

-- what stands in a line is blanks and comments, of which the last may run over the line's end
pub data OnlyComments : List ℕ → Type 0 where
  none : OnlyComments []
  blank : (c : ℕ) {cs : List ℕ} → is_gap c ≡ true → OnlyComments cs → OnlyComments (c ∷ cs)
  block : {line : List ℕ} (word more : List ℕ) → line ≡ word ++ more → IsBlockComment word → OnlyComments more → OnlyComments line
  to_the_end : {line : List ℕ} (more : List ℕ) → line ≡ 47 ∷ 47 ∷ more → OnlyComments line
  over_the_end : {line : List ℕ} (more : List ℕ) → line ≡ 47 ∷ 42 ∷ more → ((word behind : List ℕ) → line ≡ word ++ behind → IsBlockComment word → ⊥) → OnlyComments line

-- nothing but blanks and comments stands up to the line's end
pub record IsLineOver (bytes : List ℕ) : Type 0 where
  pub line : List ℕ
  pub rest : List ℕ
  pub is : bytes ≡ line ++ rest
  pub all : AllAre is_line_byte line
  pub stops : Stops is_line_byte rest
  pub only : OnlyComments line
