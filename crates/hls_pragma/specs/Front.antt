-- The directive that the items of a line spell, worked out from the left.
use Rattle.std.specs.Prelude.{ℕ, ◌-◌, Bool, true, false, nat_eq, ◌&&◌, cond, nat_le, codes, length, List, [], ◌∷◌, Option, Some, None, take, drop, slice_index}
use Rattle.std.specs.Option.{option_map}
use Rattle.std.specs.Str.{bytes_eq}
use Rattle.mpc_values.specs.declared.owners.Level.{Level}
use Rattle.mpc_values.specs.declared.owners.Level.TheVariants as level
use Rattle.hls_pragma.specs.declared.directives.Pragma.{Pragma}
use Rattle.hls_pragma.specs.declared.directives.Pragma.TheVariants.{Scope, Single, Barrier, Foreign}
use Rattle.hls_pragma.specs.declared.directives.NameSpan.{NameSpan}
use Rattle.hls_pragma.specs.declared.items.Item.{Item}
use Rattle.hls_pragma.specs.declared.items.Item.TheVariants.{Word, Open, Comma, Close, Other}
use Rattle.hls_pragma.specs.Items.{is_letter}

abbrev pub begins_name : List ℕ → NameSpan → Bool
begins_name line n = is_letter (slice_index line n.start)

-- the word stands in the line, and this is its text
abbrev pub word_is : List ℕ → NameSpan → List ℕ → Bool
word_is line w text = nat_le w.start (length line) && nat_le w.len (length line - w.start) && bytes_eq (take w.len (drop w.start line)) text

abbrev pub begins_hls : List ℕ → List Item → Bool
begins_hls line [] = false
begins_hls line (Word w ∷ rest) = word_is line w (codes "hls")
begins_hls line (Open ∷ rest) = false
begins_hls line (Comma ∷ rest) = false
begins_hls line (Close ∷ rest) = false
begins_hls line (Other ∷ rest) = false

-- the name that an item is
abbrev pub name_in : List ℕ → Item → Option NameSpan
name_in line (Word n) = cond (begins_name line n) (Some n) None
name_in line Open = None
name_in line Comma = None
name_in line Close = None
name_in line Other = None

abbrev pub one_more : NameSpan → List NameSpan × List Item → List NameSpan × List Item
one_more n p = (n ∷ p.0, p.1)

-- the names up to the closing bracket, and what stands behind it
abbrev pub names_at : List ℕ → List Item → Option (List NameSpan × List Item)
names_at line (Word n ∷ Close ∷ rest) = cond (begins_name line n) (Some (n ∷ [], rest)) None
names_at line (Word n ∷ Comma ∷ rest) = cond (begins_name line n) (option_map (one_more n) (names_at line rest)) None
names_at line rest = None

abbrev pub level_at : List ℕ → NameSpan → Option Level
level_at line w =
    cond (word_is line w (codes "core")) (Some level.Core)
    (cond (word_is line w (codes "l1")) (Some level.L1)
    (cond (word_is line w (codes "l2")) (Some level.L2)
    (cond (word_is line w (codes "l3")) (Some level.L3)
    (cond (word_is line w (codes "numa")) (Some level.Numa)
    (cond (word_is line w (codes "node")) (Some level.Node) None)))))

-- the item is nowait
abbrev pub is_nowait : List ℕ → Item → Bool
is_nowait line (Word w) = word_is line w (codes "nowait")
is_nowait line Open = false
is_nowait line Comma = false
is_nowait line Close = false
is_nowait line Other = false

-- nowait or nothing stands at the end
abbrev pub end_at : List ℕ → List Item → Option Bool
end_at line [] = Some false
end_at line (i ∷ []) = cond (is_nowait line i) (Some true) None
end_at line (i ∷ j ∷ rest) = None

abbrev pub scope_of : List NameSpan → Level → Pragma
scope_of names level = Scope level names

-- the directive of a word, behind whose names nothing stands
abbrev pub closed_of : List ℕ → NameSpan → List NameSpan → Option Pragma
closed_of line w names = cond (word_is line w (codes "barrier")) (Some (Barrier names)) (option_map (scope_of names) (level_at line w))

-- the directive of a word, its names and what stands behind them
abbrev pub pragma_of : List ℕ → NameSpan → List NameSpan → List Item → Option Pragma
pragma_of line w names rest = cond (word_is line w (codes "single")) (option_map (Single names) (end_at line rest)) (cond (nat_eq (length rest) 0) (closed_of line w names) None)

abbrev pub listed_at : List ℕ → NameSpan → Option (List NameSpan × List Item) → Option Pragma
listed_at line w None = None
listed_at line w (Some p) = pragma_of line w p.0 p.1

-- the directive of a word, a sign and what stands behind them
abbrev pub headed_at : List ℕ → Item → Item → List Item → Option Pragma
headed_at line (Word w) Open rest = listed_at line w (names_at line rest)
headed_at line head sign rest = None

-- the directive of these items, the first of which is the word hls
abbrev pub directive_at : List ℕ → List Item → Option Pragma
directive_at line [] = None
directive_at line (h ∷ []) = None
directive_at line (h ∷ i ∷ []) = None
directive_at line (h ∷ i ∷ j ∷ rest) = headed_at line i j rest

abbrev pub pragma_at : List ℕ → List Item → Option Pragma
pragma_at line items = cond (begins_hls line items) (directive_at line items) (Some Foreign)
