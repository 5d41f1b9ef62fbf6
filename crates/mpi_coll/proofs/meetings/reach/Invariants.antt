use Rattle.std.proofs.Common.{◌≡◌, ℕ, ◌≤◌, length}
use Rattle.mpi_coll.specs.Kept.{room_at}
use Rattle.mpi_coll.proofs.meetings.reach.Given as goal

abbrev pub invariant-loop : goal.invariant-loop
invariant-loop l = ((other : ℕ) → room_at l.rooms.items other ≡ room_at l.fn.rooms.items other) × (l.counter ≤ length l.rooms.items)
