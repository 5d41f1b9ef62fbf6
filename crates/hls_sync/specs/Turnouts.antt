-- What is kept of one instance at a construct.
use Rattle.std.specs.Prelude.{ℕ, ◌+◌, ◌≤◌, ◌<◌, min, nat_lt, if◌then◌else◌, List, length, slice_index, slice_set, Option, None}
use Rattle.std.specs.List.{count_by}
use Rattle.hls_sync.specs.Ways.{is_task}

-- How often each task of the instance has come, and the task that runs the block of the latest meeting at which all have
-- come, as long as it has not left it.
pub record Turnout : Type 0 where
  pub counts : List ℕ
  pub running : Option ℕ

-- how many tasks have come to the meeting of a number, which are those that have come more often
abbrev pub reached : List ℕ → ℕ → ℕ
reached counts m = count_by (λ c. nat_lt m c) counts

-- the counts never rise
pub record IsFalling (counts : List ℕ) : Type 0 where
  pub falls : (i j : ℕ) → i ≤ j → j < length counts → slice_index counts j ≤ slice_index counts i

-- one arrival more, by a count that stands still at the end of its type
abbrev pub once_more : ℕ → ℕ
once_more came = min (came + 1) 4294967295

-- A task that had come so often comes once more. It is the first of those that had not come more often, so the counts keep
-- falling.
abbrev pub advanced : List ℕ → ℕ → List ℕ
advanced counts came = slice_set counts (reached counts came) (once_more came)

-- nothing is left to end for a task that has left the block
abbrev pub without_running : Option ℕ → ℕ → Option ℕ
without_running running task = if is_task task running then None else running
