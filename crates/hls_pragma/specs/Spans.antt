-- Names whose spans stand in order, none empty and none over another, from a place on and within a size.
use Rattle.std.specs.Prelude.{ℕ, ◌+◌, ◌<◌, ◌≤◌, List, [], ◌∷◌}
use Rattle.hls_pragma.specs.declared.directives.NameSpan.{NameSpan}
use Rattle.hls_pragma.specs.declared.directives.Pragma.{Pragma}
use Rattle.hls_pragma.specs.declared.directives.Pragma.TheVariants.{Scope, Single, Barrier, Foreign}

abbrev pub InOrder : ℕ → ℕ → List NameSpan → Type 0
InOrder at size [] = Unit {0}
InOrder at size (n ∷ ns) = (at ≤ n.start) × (0 < n.len) × (n.start + n.len ≤ size) × InOrder (n.start + n.len) size ns

-- the names that a directive lists
abbrev pub names_of : Pragma → List NameSpan
names_of (Scope level names) = names
names_of (Single names nowait) = names
names_of (Barrier names) = names
names_of Foreign = []
