-- What a heap keeps.
use Rattle.std.specs.Prelude.{◌≡◌, ℕ, ◌+◌, nat_lt, cond, sum_by, Option, Some, None}
use Rattle.block_table.specs.Rows.{Live, Rows}
use Rattle.object_heap.specs.declared.heap.Heap.TheInside.{Inside}
use Rattle.object_heap.specs.Layout.{Layout, IsSound}

abbrev pub seen_of : Inside → Layout
seen_of h = record { rows = h.table; cells = h.region.cells; copies = h.copies }

-- how many ranges so many words have
abbrev pub range_of : ℕ → ℕ
range_of len = cond (nat_lt 0 len) 1 0

-- how many ranges a slot has
abbrev pub range_in : Option Live → ℕ
range_in None = 0
range_in (Some l) = range_of l.row.len

-- how many ranges the live rows have
abbrev pub ranges_of : Rows → ℕ
ranges_of rows = sum_by range_in rows

-- The rows stand for objects, and each range of the region is a row's or a copy's.
pub record IsKept (h : Inside) : Type 0 where
  pub sound : IsSound (seen_of h)
  pub ranges : h.region.ranges ≡ ranges_of h.table + h.copies
