-- Which directive a line says.
use Rattle.std.specs.Prelude.{◌≡◌, ℕ, Bool, true, false, List, [], ◌∷◌, ◌++◌, codes, slice_index}
use Rattle.mpc_values.specs.declared.owners.Level.{Level}
use Rattle.mpc_values.specs.declared.owners.Level.TheVariants as level
use Rattle.hls_pragma.specs.declared.directives.NameSpan.{NameSpan}
use Rattle.hls_pragma.specs.declared.directives.Pragma.{Pragma}
use Rattle.hls_pragma.specs.declared.directives.Pragma.TheVariants.{Scope, Single, Barrier, Foreign}
use Rattle.hls_pragma.specs.declared.items.Item.{Item}
use Rattle.hls_pragma.specs.declared.items.Item.TheVariants.{Word, Open, Comma, Close}
use Rattle.hls_pragma.specs.Cuts.{Cut}
use Rattle.hls_pragma.specs.Front.{word_is, begins_hls}
use Rattle.hls_pragma.specs.Items.{is_letter}

-- names with commas between them
abbrev pub listed : List NameSpan → List Item
listed [] = []
listed (n ∷ []) = Word n ∷ []
listed (n ∷ m ∷ ns) = Word n ∷ Comma ∷ listed (m ∷ ns)

-- there is a name, and each begins with a letter or an underscore
abbrev pub AreNames : List ℕ → List NameSpan → Type 0
AreNames line [] = ⊥
AreNames line (n ∷ []) = is_letter (slice_index line n.start) ≡ true
AreNames line (n ∷ m ∷ ns) = (is_letter (slice_index line n.start) ≡ true) × AreNames line (m ∷ ns)

abbrev pub level_text : Level → List ℕ
level_text level.Core = codes "core"
level_text level.L1 = codes "l1"
level_text level.L2 = codes "l2"
level_text level.L3 = codes "l3"
level_text level.Numa = codes "numa"
level_text level.Node = codes "node"

-- hls, this word, the names in brackets and then the rest
pub record Lists (line word : List ℕ) (names : List NameSpan) (rest : List Item) : Type 0 where
  pub first : NameSpan
  pub second : NameSpan
  pub items : Cut 0 line (Word first ∷ Word second ∷ Open ∷ (listed names ++ Close ∷ rest))
  pub hls : word_is line first (codes "hls") ≡ true
  pub named : word_is line second word ≡ true
  pub are_names : AreNames line names

-- nowait, or nothing
abbrev pub IsEnd : List ℕ → Bool → List Item → Type 0
IsEnd line false rest = rest ≡ []
IsEnd line true rest = (w : NameSpan) × (rest ≡ Word w ∷ []) × (word_is line w (codes "nowait") ≡ true)

-- the line says this directive
abbrev pub Reads : List ℕ → Pragma → Type 0
Reads line (Scope level names) = Lists line (level_text level) names []
Reads line (Single names nowait) = (rest : List Item) × Lists line (codes "single") names rest × IsEnd line nowait rest
Reads line (Barrier names) = Lists line (codes "barrier") names []
Reads line Foreign = (items : List Item) × Cut 0 line items × (begins_hls line items ≡ false)
