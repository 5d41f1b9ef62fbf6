-- Copies of messages in a heap. Nothing lists them at run time: a contract says what a call does to any list of all copies.
use Rattle.std.specs.Prelude.{◌≡◌, ℕ, ◌<◌, true, false, List, [], ◌∷◌, ◌++◌, length}
use Rattle.std.specs.List.{All}
use Rattle.mpc_values.specs.declared.values.Word.{Word}
use Rattle.mpi_copy.specs.declared.Held.{Held}
use Rattle.block_table.specs.Rows.{IsLive}
use Rattle.word_region.specs.Places.{is_in, IsHeld}
use Rattle.object_heap.specs.Layout.{Layout, is_in_row}
use Rattle.object_heap.specs.Objects.{words_from}

-- The copy has a word, its places are held, and none of them is a live row's.
pub record IsCopy (h : Layout) (copy : Held) : Type 0 where
  pub some : 0 < copy.len
  pub held : IsHeld h.cells copy.base copy.len
  pub apart : (key p : ℕ) → is_in copy.base copy.len p ≡ true → IsLive h.rows key (λ row. is_in_row row p ≡ true) → ⊥

-- no place is one of both copies
abbrev pub AreApart : Held → Held → Type 0
AreApart a b = (p : ℕ) → is_in a.base a.len p ≡ true → is_in b.base b.len p ≡ false

-- no place is one of two copies of the list
abbrev pub AreAllApart : List Held → Type 0
AreAllApart [] = Unit {0}
AreAllApart (held ∷ rest) = All (AreApart held) rest × AreAllApart rest

-- The list has all copies of messages.
pub record AreCopies (h : Layout) (all : List Held) : Type 0 where
  pub count : length all ≡ h.copies
  pub each : All (IsCopy h) all
  pub apart : AreAllApart all

-- the words of a copy
abbrev pub copy_words : Layout → Held → List Word
copy_words h held = words_from h.cells held.base held.len

-- each of the copies has the words that it had
abbrev pub KeepsWords : Layout → Layout → List Held → Type 0
KeepsWords old new all = All (λ held. copy_words new held ≡ copy_words old held) all

-- All copies stand as before.
pub record KeepsCopies (old new : Layout) : Type 0 where
  pub kept : (all : List Held) → AreCopies old all → AreCopies new all
  pub words : (all : List Held) → AreCopies old all → KeepsWords old new all

-- There is this copy too, and all others stand as before.
pub record GainsCopy (old new : Layout) (held : Held) : Type 0 where
  pub gained : (all : List Held) → AreCopies old all → AreCopies new (all ++ held ∷ [])
  pub words : (all : List Held) → AreCopies old all → KeepsWords old new all

-- The copy is gone, and all others stand as before.
pub record LosesCopy (old new : Layout) (held : Held) : Type 0 where
  pub lost : (before after : List Held) → AreCopies old (before ++ held ∷ after) → AreCopies new (before ++ after)
  pub words : (before after : List Held) → AreCopies old (before ++ held ∷ after) → KeepsWords old new (before ++ after)

-- One of the copies: what `land` and `discard` ask for. Each member of a list of all copies is one.
pub record IsOneCopy (h : Layout) (held : Held) : Type 0 where
  pub stands : IsCopy h held
  pub counted : 0 < h.copies
