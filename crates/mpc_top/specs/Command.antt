-- The command: the words that the program was given.
use Rattle.std.specs.Prelude.{◌≡◌, ℕ, Bool, false, ◌==◌, List, [], ◌∷◌, codes}
use Rattle.mpc_top.specs.declared.command.Mode.{Mode}
use Rattle.mpc_top.specs.declared.command.Mode.TheVariants.{Check, Serial}

abbrev pub begins_with_dash : List ℕ → Bool
begins_with_dash [] = false
begins_with_dash (c ∷ cs) = c == 45

-- the word of a mode
abbrev pub mode_word : Mode → List ℕ
mode_word Check = codes "check"
mode_word Serial = codes "serial"

-- The words, as bytes, are the word of a mode and the name of a source file, which does not begin with a dash.
pub record NamesSource (words : List (List ℕ)) (mode : Mode) (name : List ℕ) : Type 0 where
  pub words_are : words ≡ mode_word mode ∷ name ∷ []
  pub no_option : begins_with_dash name ≡ false

-- the words are no command
abbrev pub NamesNone : List (List ℕ) → Type 0
NamesNone words = (mode : Mode) (name : List ℕ) → NamesSource words mode name → ⊥
