-- The directives, each on a line of its own.
use Rattle.std.specs.Prelude.{◌≡◌, ℕ, ◌+◌, Bool, List, ◌++◌, length, Option, Some, None, codes}
use Rattle.c_lex.specs.declared.tokens.Literal.{Literal}
use Rattle.c_lex.specs.Bytes.{is_gap, is_letter, is_digit, is_name_byte, is_line_byte, AllAre, Begins, Stops}
use Rattle.c_lex.specs.Comments.{IsLineOver}
use Rattle.c_lex.specs.Spellings.{IsNoKey}
use Rattle.c_lex.specs.Words.{SpellsNumber}
use Rattle.c_lex.specs.Defined.{Meanings}

-- a word of letters, digits and underscores, as long as it can be, that begins with such a byte
pub record IsWord (first : ℕ → Bool) (word rest : List ℕ) : Type 0 where
  pub begins : Begins first word
  pub all : AllAre is_name_byte word
  pub stops : Stops is_name_byte rest

-- a mark, and then the rest of the line
pub record IsMarkedLine (mark word rest : List ℕ) : Type 0 where
  pub line : List ℕ
  pub is : word ≡ mark ++ line
  pub all : AllAre is_line_byte line
  pub stops : Stops is_line_byte rest
  pub whole : Stops is_name_byte (line ++ rest)

-- the name has no number yet, or this one
abbrev pub Agrees : Option Literal → Literal → Type 0
Agrees None number = Unit {0}
Agrees (Some other) number = other ≡ number

-- #define NAME NUMBER; the name is that many bytes, so far from the piece's first byte
pub record IsDefine (known : Meanings) (word rest : List ℕ) (from len : ℕ) (number : Literal) : Type 0 where
  pub gap : List ℕ
  pub name : List ℕ
  pub space : List ℕ
  pub digits : List ℕ
  pub is : word ≡ codes "#define" ++ (gap ++ (name ++ (space ++ digits)))
  pub gap_blank : AllAre is_gap gap
  pub whole : Stops is_name_byte (gap ++ (name ++ (space ++ (digits ++ rest))))
  pub named : IsWord is_letter name (space ++ (digits ++ rest))
  pub no_key : IsNoKey name
  pub space_blank : AllAre is_gap space
  pub spelt : IsWord is_digit digits rest
  pub spells : SpellsNumber digits number
  pub agrees : Agrees (known name) number
  pub over : IsLineOver rest
  pub begins : from ≡ 7 + length gap
  pub ends : len ≡ length name
