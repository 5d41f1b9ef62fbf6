-- The numbers that instances get as rows are read.
use Rattle.std.specs.Prelude.{◌≡◌, ℕ, ◌++◌, ◌∷◌, List, [], length, MatchOption, Some, None, if◌then◌else◌}
use Rattle.std.specs.Ordering.{ordering_then, nat_cmp, is_eq}
use Rattle.std.specs.declared.cmp.Ordering.{Ordering}
use Rattle.std.specs.BTreeMap.{BTreeMap, get}
use Rattle.hls_sync.specs.declared.visits.HlsRow.{HlsRow}
use Rattle.hls_sync.specs.Turnouts.{Turnout}

-- the order of pairs of numbers
abbrev pub pair_cmp : ℕ × ℕ → ℕ × ℕ → Ordering
pair_cmp x y = ordering_then (nat_cmp x.0 y.0) (nat_cmp x.1 y.1)

-- The number of a row's instance is kept, or it is a new one, the next.
pub record Numbers (old new : BTreeMap (ℕ × ℕ) ℕ) (before after : List Turnout) (row : HlsRow) (place : ℕ) : Type 0 where
  pub numbers : (x : ℕ × ℕ) → get pair_cmp new x ≡ (if is_eq (pair_cmp (row.construct, row.inst) x) then Some place else get pair_cmp old x)
  pub instances : MatchOption (get pair_cmp old (row.construct, row.inst))
      ((place ≡ length before) × (after ≡ before ++ record { counts = []; running = None } ∷ []))
      (λ p. (place ≡ p) × (after ≡ before))
