-- What a send and a receive come to when they are posted (MPI 3.1, sections 3.2 to 3.5 and 3.7.2).
use Rattle.std.specs.Prelude.{ℕ, pos, ◌+◌, ◌&&◌, not, Bool, true, false, nat_abs, int_lt, nat_le, if◌then◌else◌, List, [], ◌∷◌, ◌++◌, length, Option, Some, None, option_map, Result, Ok, Err}
use Rattle.mpc_values.specs.declared.answers.Answer.TheVariants as answer
use Rattle.mpc_values.specs.declared.faults.Fault.{Fault}
use Rattle.mpc_values.specs.declared.faults.Fault.TheVariants.{NotInit, BadComm, BadRank, BadTag, BadCount}
use Rattle.mpc_values.specs.declared.limits.TheConstants.{MAX_HELD_WORDS}
use Rattle.memory_model.specs.declared.kinds.Span.{Span}
use Rattle.memory_model.specs.Memory.{Memory}
use Rattle.memory_model.specs.Marks.{Marks, Places, barred_to_loads, barred_to_stores}
use Rattle.memory_model.specs.Ranges.{span_of, words_at}
use Rattle.mpi_args.specs.Arguments.{is_proc_null, is_peer, is_tag_argument}
use Rattle.mpi_queue.specs.declared.postings.Posting.{Posting}
use Rattle.mpi_queue.specs.History.{partner_of, with_posting}
use Rattle.mpi_request.specs.declared.requests.Awaited.{Awaited}
use Rattle.mpi_request.specs.declared.requests.Awaited.TheVariants as awaited
use Rattle.mpi_request.specs.declared.requests.Carried.{Carried}
use Rattle.mpi_request.specs.Messages.{carried_of, empty_status, null_status, delivered, moved_words, held_words}
use Rattle.mpi_request.specs.Pending.{marks_of}
use Rattle.mpi_comm.specs.declared.communicators.Communicator.{Communicator}
use Rattle.mpi_comm.specs.declared.communicators.View.{View}
use Rattle.mpi_comm.specs.Communicators.{group_of, view_of}
use Rattle.run_model.specs.declared.progress.Phase.{Phase}
use Rattle.run_model.specs.declared.offers.Offer.{Offer}
use Rattle.run_model.specs.declared.offers.Asked.{Asked}
use Rattle.run_model.specs.declared.offers.Asked.TheVariants.{Refused, Nobody, Posts}
use Rattle.run_model.specs.Setup.{Setup}
use Rattle.run_model.specs.World.{Core}
use Rattle.run_model.specs.Owners.{owner_of}
use Rattle.run_model.specs.Outcomes.{Outcome, Does, Fails, is_inside, state_of, requests_of, with_requests}

-- the request that the task gets next, by its number
abbrev pub next_request : Core → ℕ → ℕ
next_request core task = length (requests_of core task) + 1

-- the core in which the task has one active request more
abbrev pub with_request : Core → ℕ → Awaited → Bool → Option Span → Core
with_request core task awaited send places =
    with_requests core task (requests_of core task ++ record { awaited = awaited; send = send; places = places; active = true } ∷ [])

-- with MPI_PROC_NULL (MPI 3.1, section 3.11): a request that is complete, and no posting
abbrev pub with_nobody : Core → ℕ → Bool → Outcome
with_nobody core task send =
    Does (answer.Posted (next_request core task) 0 0 0) (with_request core task (awaited.Nothing (if send then empty_status else null_status)) send None)

-- the envelope of the posting
abbrev pub envelope : ℕ → Offer → View → Posting
envelope task o view = record { task = task; comm = view.comm; send = o.send; rank = view.rank; peer = o.peer; tag = o.tag }

-- A send is eager where it is standard, its count is within the bound, and with it the sender's eager messages that are
-- not yet matched, which have `held` words, have no more words than may be held (MPI 3.1, section 3.4).
abbrev pub is_eager : Setup → ℕ → Offer → Bool
is_eager setup held o = (o.send && not o.sync) && (nat_le (nat_abs o.count) setup.eager && nat_le (nat_abs o.count + held) MAX_HELD_WORDS)

-- What the posting carries: a send has the words of its places at this moment, unset ones too.
abbrev pub carries : Setup → Memory → ℕ → Offer → Option Span → Carried
carries setup m held o places = record {
  kind = o.kind;
  count = nat_abs o.count;
  places = places;
  words = if o.send then words_at m places else [];
  eager = is_eager setup held o;
}

-- the memory after the posting: where it has a partner, the match moves the message now
abbrev pub memory_after : Memory → Bool → Carried → Option Carried → Memory
memory_after m send mine None = m
memory_after m true mine (Some other) = delivered m mine other
memory_after m false mine (Some other) = delivered m other mine

-- how many words that match moves
abbrev pub words_after : Bool → Carried → Option Carried → ℕ
words_after send mine None = 0
words_after true mine (Some other) = moved_words mine other
words_after false mine (Some other) = moved_words other mine

-- what the partner carries
abbrev pub partner_carried : List Carried → Option ℕ → Option Carried
partner_carried carried None = None
partner_carried carried (Some number) = carried_of carried number

-- a number, and 0 for none
abbrev pub number_or_none : Option ℕ → ℕ
number_or_none None = 0
number_or_none (Some number) = number

-- The posting gets the next number and the task's next request. Where it has a partner, both are matched, and the
-- message is moved.
abbrev pub posted_with : Core → ℕ → Posting → Carried → Option ℕ → Outcome
posted_with core task p mine met =
    Does (answer.Posted (next_request core task) (length core.postings + 1) (number_or_none met) (words_after p.send mine (partner_carried core.carried met)))
    (with_request (record core {
      memory = memory_after core.memory p.send mine (partner_carried core.carried met);
      postings = with_posting core.postings p;
      carried = core.carried ++ mine ∷ [];
    }) task (awaited.Posting (length core.postings + 1)) p.send mine.places)

-- the same with the first fitting partner
abbrev pub posted : Core → ℕ → Posting → Carried → Outcome
posted core task p mine = posted_with core task p mine (partner_of core.postings p)

-- the places that the posting may not touch: a send's range is loaded, a receive's stored
abbrev pub barred : Marks → Bool → Places
barred marks send = if send then barred_to_loads marks else barred_to_stores marks

-- the posting by the places that it names, or their fault
abbrev pub asked_at : Setup → Memory → ℕ → ℕ → Offer → View → Result (Option Span) Fault → Asked
asked_at setup m held task o view (Err fault) = Refused fault
asked_at setup m held task o view (Ok places) = Posts (envelope task o view) (carries setup m held o places)

-- BadComm, BadRank, BadTag and BadCount in this order; then, where the peer is not MPI_PROC_NULL, the faults of the range.
abbrev pub asked_in : Setup → Memory → Marks → ℕ → ℕ → Offer → Option View → Asked
asked_in setup m marks held task o None = Refused BadComm
asked_in setup m marks held task o (Some view) =
    if not (is_peer o.peer view.size (not o.send)) then Refused BadRank
    else if not (is_tag_argument o.tag (not o.send)) then Refused BadTag
    else if int_lt o.count (pos 0) then Refused BadCount
    else if is_proc_null o.peer then Nobody
    else asked_at setup m held task o view (span_of (owner_of setup task) (barred marks o.send) m o.at (nat_abs o.count))

-- What a send or a receive asks for, with NotInit before all other faults.
unfoldable pub asked : Setup → Phase → List Communicator → Memory → Marks → ℕ → ℕ → Offer → Asked
asked setup phase comms m marks held task o =
    if is_inside phase then asked_in setup m marks held task o (option_map view_of (group_of comms task o.comm)) else Refused NotInit

-- what is asked is done
abbrev pub offered : Core → ℕ → Bool → Asked → Outcome
offered core task send (Refused fault) = Fails fault
offered core task send Nobody = with_nobody core task send
offered core task send (Posts p mine) = posted core task p mine

-- The posting of a send or a receive.
unfoldable pub post : Setup → Core → ℕ → Offer → Outcome
post setup core task o =
    offered core task o.send (asked setup (state_of core task).phase core.comms core.memory (marks_of core.requests) (held_words core.postings core.carried task) task o)
