-- What a step leaves, whichever call it is: numbers are never given again, and another task's objects stay, unless its
-- receive was met.
use Rattle.std.specs.Prelude.{◌≡◌, ◌≢◌, ◌⊎◌, ◌≤◌, ◌+◌, ℕ, true, false, length, slice_get, Some}
use Rattle.mpc_values.specs.declared.values.Obj.{Obj}
use Rattle.mpc_values.specs.declared.owners.Owner.TheVariants.{Task}
use Rattle.memory_model.specs.declared.kinds.Span.{Span}
use Rattle.memory_model.specs.Memory.{object_of}
use Rattle.memory_model.specs.Names.{NamesAreLeft}
use Rattle.mpi_queue.specs.declared.postings.Posting.{Posting}
use Rattle.mpi_queue.specs.History.{Made, partner_of, with_posting}
use Rattle.mpi_request.specs.declared.requests.Carried.{Carried}
use Rattle.mpi_request.specs.Messages.{posting_of}
use Rattle.run_model.specs.Setup.{Setup}
use Rattle.run_model.specs.World.{Core}
use Rattle.run_model.specs.Owners.{owner_of}
use Rattle.run_model.specs.Outcomes.{state_of, requests_of}

-- each posting carries something, and the places that it names are those of a copy that its own task touches
pub record OwnPlaces (setup : Setup) (core : Core) : Type 0 where
  pub even : length core.carried ≡ length core.postings
  pub own : (index : ℕ) (made : Made) (carried : Carried) (span : Span) → slice_get core.postings index ≡ Some made → slice_get core.carried index ≡ Some carried
      → carried.places ≡ Some span → span.owner ≡ owner_of setup made.posting.task span.obj

-- a send of the task was posted, and has the other task's receive as its partner
pub record MetReceive (core after : Core) (task other : ℕ) : Type 0 where
  pub posting : Posting
  pub number : ℕ
  pub made : Made
  pub sent : posting.send ≡ true
  pub by : posting.task ≡ task
  pub postings : after.postings ≡ with_posting core.postings posting
  pub partner : partner_of core.postings posting ≡ Some number
  pub at : posting_of core.postings number ≡ Some made
  pub received : made.posting.send ≡ false
  pub of : made.posting.task ≡ other

-- Nothing that has a number is taken out, and no object lives whose name its task has not given yet.
pub record Keeps (core after : Core) : Type 0 where
  pub postings : length core.postings ≤ length after.postings
  pub comms : length core.comms ≤ length after.comms
  pub requests : (task : ℕ) → length (requests_of core task) ≤ length (requests_of after task)
  pub made : (task : ℕ) → (state_of core task).made ≤ (state_of after task).made
  pub names : (task : ℕ) → NamesAreLeft task (state_of core task).made core.memory → NamesAreLeft task (state_of after task).made after.memory

-- One call gives at most one number of each kind.
pub record GivesFew (core after : Core) : Type 0 where
  pub postings : length after.postings ≤ length core.postings + 1
  pub requests : (task : ℕ) → length (requests_of after task) ≤ length (requests_of core task) + 1
  pub made : (task : ℕ) → (state_of after task).made ≤ (state_of core task).made + 1
  pub arrivals : length after.arrivals ≤ length core.arrivals + 1
  pub visits : length after.visits ≤ length core.visits + 1
  pub exits : length after.exits ≤ length core.exits + 1

-- Another task's objects are as they were, or the step has met a receive of that task.
abbrev pub LeavesOthers : Core → Core → ℕ → Type 0
LeavesOthers core after task = (other : ℕ) (obj : Obj) → other ≢ task
    → (object_of after.memory (Task other) obj ≡ object_of core.memory (Task other) obj) ⊎ MetReceive core after task other

-- So many entries have given at most as many numbers of each kind.
pub record Numbered (core : Core) (entries : ℕ) : Type 0 where
  pub postings : length core.postings ≤ entries
  pub requests : (task : ℕ) → length (requests_of core task) ≤ entries
  pub made : (task : ℕ) → (state_of core task).made ≤ entries
  pub arrivals : length core.arrivals ≤ entries
  pub visits : length core.visits ≤ entries
  pub exits : length core.exits ≤ entries

-- The request that a posting gets is the task's next one, and the posting's number the next one, or 0, where nothing was
-- posted. The next ones after it are greater.
pub record NextNumbers (core after : Core) (task req post : ℕ) : Type 0 where
  pub request : req ≡ length (requests_of core task) + 1
  pub counted : length (requests_of after task) ≡ req
  pub posting : (post ≡ 0) ⊎ ((post ≡ length core.postings + 1) × (length after.postings ≡ post))
