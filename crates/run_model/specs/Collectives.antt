-- What arrive and leave come to: the two halves of a collective call (MPI 3.1, chapter 5 and section 6.4).
use Rattle.std.specs.Prelude.{ℕ, ◌==◌, ◌&&◌, ◌||◌, not, Bool, true, false, if◌then◌else◌, List, [], ◌∷◌, ◌++◌, map, Option, Some, None, Result, Ok, Err}
use Rattle.std.specs.List.{list_all}
use Rattle.mpc_values.specs.declared.values.Word.{Word}
use Rattle.mpc_values.specs.declared.values.Word.TheVariants.{Undef, Int, Null, Ptr, Comm, Req}
use Rattle.mpc_values.specs.declared.answers.Answer.{Answer}
use Rattle.mpc_values.specs.declared.answers.Answer.TheVariants.{Done, Gives}
use Rattle.mpc_values.specs.declared.collectives.Coll.{Coll}
use Rattle.mpc_values.specs.declared.collectives.CollKind.{CollKind}
use Rattle.mpc_values.specs.declared.collectives.CollKind.TheVariants.{Dup, Split, Free}
use Rattle.mpc_values.specs.declared.faults.Fault.{Fault}
use Rattle.mpc_values.specs.declared.faults.Fault.TheVariants.{BadComm, BadRank, BadCount, CollMismatch, Uninit, PendingTouch}
use Rattle.memory_model.specs.Marks.{barred_to_loads, barred_to_stores, is_some_place}
use Rattle.memory_model.specs.declared.kinds.Span.{Span}
use Rattle.memory_model.specs.Ranges.{span_of, words_at, with_words_at}
use Rattle.mpi_request.specs.Pending.{marks_of}
use Rattle.mpi_comm.specs.Communicators.{Group, size_of, old_group_of}
use Rattle.mpi_comm.specs.Making.{new_comm}
use Rattle.mpi_coll.specs.declared.arrivals.Arrival.{Arrival}
use Rattle.mpi_coll.specs.Arguments.{is_fold, root_fits, counts_fit, counts_agree, given_count, taken_count}
use Rattle.mpi_coll.specs.Meetings.{next_meeting, latest_arrival, meeting_of, is_full, differs}
use Rattle.mpi_coll.specs.Results.{result_of}
use Rattle.mpi_coll.specs.Changes.{comms_after}
use Rattle.run_model.specs.Setup.{Setup}
use Rattle.run_model.specs.World.{Core}
use Rattle.run_model.specs.Owners.{owner_of}
use Rattle.run_model.specs.Outcomes.{Outcome, Does, Fails, Waits, in_group}

-- MPI_Comm_free (MPI 3.1, section 6.4.3)
abbrev pub is_free : CollKind → Bool
is_free Free = true
is_free what = false

-- the word is a number
abbrev pub is_number : Word → Bool
is_number (Int z) = true
is_number Undef = false
is_number Null = false
is_number (Ptr obj at) = false
is_number (Comm comm) = false
is_number (Req req) = false

-- a fold takes numbers alone
abbrev pub words_fit : Coll → List Word → Bool
words_fit coll words = not (is_fold coll.what) || list_all is_number words

-- The core with one arrival more. At the last arrival of a meeting, Dup, Split and Free change the communicators.
abbrev pub with_arrival : Core → Group → Arrival → Core
with_arrival core group a =
    let arrivals = core.arrivals ++ a ∷ [] in
    record core {
      arrivals = arrivals;
      comms = if is_full arrivals a.comm (size_of group) a.meeting
          then comms_after a.coll.what core.comms a.comm a.meeting group.members (meeting_of arrivals a.comm (size_of group) a.meeting)
          else core.comms;
    }

-- the core in which the member has arrived at its next meeting
abbrev pub arrived : Core → Group → Coll → List Word → Core
arrived core group coll words = with_arrival core group (record {
  comm = group.comm;
  rank = group.rank;
  meeting = next_meeting core.arrivals group.comm group.rank;
  coll = coll;
  given = words;
  left = false;
})

-- the range of the result is looked at last
abbrev pub arrive_into : Core → Group → Coll → List Word → Result (Option Span) Fault → Outcome
arrive_into core group coll words (Err fault) = Fails fault
arrive_into core group coll words (Ok into) = Does Done (arrived core group coll words)

-- the contribution is read, and then the range of the result looked at
abbrev pub arrive_with : Setup → Core → ℕ → Group → Coll → Result (Option Span) Fault → Outcome
arrive_with setup core task group coll (Err fault) = Fails fault
arrive_with setup core task group coll (Ok from) =
    if not (words_fit coll (words_at core.memory from)) then Fails Uninit
    else arrive_into core group coll (words_at core.memory from)
    (span_of (owner_of setup task) (barred_to_stores (marks_of core.requests)) core.memory coll.into (taken_count coll group.rank (size_of group)))

-- BadComm also for a free of MPI_COMM_WORLD, BadRank, BadCount and CollMismatch in this order; then the faults of the
-- range of the contribution, Uninit, and the faults of the range of the result.
abbrev pub arrive_in : Setup → Core → ℕ → Coll → Group → Outcome
arrive_in setup core task coll group =
    if is_free coll.what && group.comm == 1 then Fails BadComm
    else if not (root_fits coll (size_of group)) then Fails BadRank
    else if not (counts_fit coll group.rank) then Fails BadCount
    else if not (counts_agree coll group.rank) || differs core.arrivals group.comm (next_meeting core.arrivals group.comm group.rank) coll
    then Fails CollMismatch
    else arrive_with setup core task group coll
    (span_of (owner_of setup task) (barred_to_loads (marks_of core.requests)) core.memory coll.from (given_count coll group.rank (size_of group)))

-- A member's arrival at the next meeting of its communicator. Its contribution is read now.
unfoldable pub arrive : Setup → Core → ℕ → Coll → Outcome
arrive setup core task coll = in_group core task coll.comm (arrive_in setup core task coll)

-- the arrival is one of the member
abbrev pub leaves : Group → Arrival → Bool
leaves group a = a.comm == group.comm && a.rank == group.rank

-- the core in which the member has left all its meetings of this communicator
abbrev pub with_left : Core → Group → Core
with_left core group = record core {
  arrivals = map (λ (a : Arrival). if leaves group a then record a { left = true } else a) core.arrivals;
}

-- Dup and Split give the member's new communicator, all others nothing.
abbrev pub answer_in : CollKind → ℕ → Answer
answer_in Dup number = Gives (Comm number)
answer_in Split number = Gives (Comm number)
answer_in what number = Done

-- the places, where naming them has no fault
abbrev pub places_found : Result (Option Span) Fault → Option Span
places_found (Ok places) = places
places_found (Err fault) = None

-- The places that the result goes to. They were looked at in the arrival, and their object may have ended since: then
-- nothing is written.
abbrev pub result_places : Setup → Core → ℕ → Group → Coll → Option Span
result_places setup core task group coll =
    places_found (span_of (owner_of setup task) (λ owner obj place. false) core.memory coll.into (taken_count coll group.rank (size_of group)))

-- a message under way has one of the places
abbrev pub is_pending : Core → Option Span → Bool
is_pending core None = false
is_pending core (Some span) = is_some_place (barred_to_stores (marks_of core.requests)) span.owner span.obj span.at span.count

-- the member's leave with its result, or PendingTouch
abbrev pub leave_with : Core → ℕ → Group → Arrival → Option Span → List Word → Outcome
leave_with core task group a places words =
    if is_pending core places then Fails PendingTouch
    else Does (answer_in a.coll.what (new_comm core.comms task a.comm a.meeting))
    (with_left (record core { memory = with_words_at core.memory places words }) group)

-- the contributions in rank order
abbrev pub given_at : Core → Group → Arrival → List (List Word)
given_at core group a = map (λ (b : Arrival). b.given) (meeting_of core.arrivals a.comm (size_of group) a.meeting)

-- A member waits until all have arrived; then its result is written.
abbrev pub leave_at : Setup → Core → ℕ → Group → Option Arrival → Outcome
leave_at setup core task group None = Does Done core
leave_at setup core task group (Some a) =
    if a.left then Does Done core
    else if is_full core.arrivals a.comm (size_of group) a.meeting
    then leave_with core task group a (result_places setup core task group a.coll) (result_of a.coll group.rank (given_at core group a))
    else Waits

-- the same by the group
abbrev pub leave_in : Setup → Core → ℕ → Option Group → Outcome
leave_in setup core task None = Does Done core
leave_in setup core task (Some group) = leave_at setup core task group (latest_arrival core.arrivals group.comm group.rank)

-- The second half of a collective call, on a communicator that may have been freed since. A leave without an arrival that
-- the task has not left is done at once.
unfoldable pub leave : Setup → Core → ℕ → Word → Outcome
leave setup core task comm = leave_in setup core task (old_group_of core.comms task comm)
