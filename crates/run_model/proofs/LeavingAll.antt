-- What every call leaves.
use Rattle.std.proofs.Common.{◌≡◌, ◌+◌, inl, ◌<◌, ◌≤◌, ℕ, ℤ, pos, negsuc, zero, suc, position, Bool, true, false, if◌then◌else◌, List, [], ◌∷◌, map, length, slice_get, Option, Some, None, Result, Ok, Err, refl, sym, ◌∙◌, length-append, arith}
use Rattle.std.specs.List.{list_any, list_all}
use Rattle.std.proofs.lemmas.List.{length-map}
use Rattle.mpc_values.specs.declared.values.Word.{Word}
use Rattle.mpc_values.specs.declared.values.Obj.TheVariants.{Dyn}
use Rattle.mpc_values.specs.declared.owners.Owner.TheVariants.{Task}
use Rattle.mpc_values.specs.declared.answers.Answer.{Answer}
use Rattle.mpc_values.specs.declared.answers.Answer.TheVariants.{Done, Flag, Entered}
use Rattle.mpc_values.specs.declared.answers.Status.{Status}
use Rattle.mpc_values.specs.declared.calls.Call.{Call}
use Rattle.mpc_values.specs.declared.calls.Call.TheVariants as call
use Rattle.mpc_values.specs.declared.collectives.Coll.{Coll}
use Rattle.mpc_values.specs.declared.collectives.CollKind.{CollKind}
use Rattle.mpc_values.specs.declared.collectives.CollKind.TheVariants.{Barrier, Bcast, Reduce, Allreduce, Scan, Exscan, Gather, Allgather, Scatter, Alltoall, Dup, Split, Free}
use Rattle.mpc_values.specs.declared.faults.Fault.{Fault}
use Rattle.c_tree.specs.declared.program.HlsKind.{HlsKind}
use Rattle.c_tree.specs.declared.program.Construct.{Construct}
use Rattle.memory_model.specs.declared.kinds.Span.{Span}
use Rattle.memory_model.specs.Ranges.{with_words_at}
use Rattle.mpi_request.specs.declared.requests.Request.{Request}
use Rattle.mpi_queue.specs.History.{Made}
use Rattle.mpi_request.specs.declared.requests.Carried.{Carried}
use Rattle.mpi_request.specs.Messages.{empty_status}
use Rattle.mpi_request.specs.Requests.{Named, NullRequest, Active, NotActive, named, told_of, without_request}
use Rattle.mpi_request.specs.Completing.{Completion, Ends, Breaks, NotReady, ended, completion_in, completion_at, any_at, any_completion, is_null, is_not_active, is_ready}
use Rattle.mpi_request.specs.Pending.{marks_of}
use Rattle.mpi_comm.specs.declared.communicators.Communicator.{Communicator}
use Rattle.mpi_comm.specs.declared.communicators.View.{View}
use Rattle.mpi_comm.specs.Communicators.{Group, size_of, old_group_of, view_of}
use Rattle.mpi_comm.specs.Splitting.{groups_of}
use Rattle.mpi_comm.specs.Making.{made_by, freed, freed_at}
use Rattle.mpi_coll.specs.declared.arrivals.Arrival.{Arrival}
use Rattle.mpi_coll.specs.Meetings.{next_meeting, latest_arrival, is_full}
use Rattle.mpi_coll.specs.Changes.{chosen_in, comms_after}
use Rattle.hls_sync.specs.declared.visits.Visit.{Visit}
use Rattle.hls_sync.specs.Meetings.{Site, next_visit}
use Rattle.hls_sync.specs.Ways.{way_of, with_visit, may_go, may_leave_bar, running_visit, with_exit}
use Rattle.run_model.specs.declared.progress.Phase.TheVariants.{After}
use Rattle.run_model.specs.Setup.{Setup}
use Rattle.run_model.specs.World.{Core}
use Rattle.run_model.specs.Owners.{owner_of}
use Rattle.run_model.specs.Outcomes.{Outcome, Does, Partly, Gave, Broke, on_part, state_of, requests_of}
use Rattle.run_model.specs.MemoryCalls as memory
use Rattle.run_model.specs.TaskCalls as task'
use Rattle.run_model.specs.Completing as completing
use Rattle.run_model.specs.Probing as probing
use Rattle.run_model.specs.Collectives as collectives
use Rattle.run_model.specs.Sharing as sharing
use Rattle.run_model.specs.Act.{act}
use Rattle.run_model.proofs.Lists.{length_set}
use Rattle.run_model.proofs.Places.{owner_apart, found_owner, words_apart, words_dead, words_ordered}
use Rattle.run_model.proofs.Leaving.{Left, Leaves, does_leave, fails_leave, waits_leave, leave_if, leave_inside, leave_group, quiet_left, same_own, left_same, left_state, left_requests, accessed_leaves, each_access}
use Rattle.run_model.proofs.LeavingMessages.{post_leaves}

part_leaves : {A : Type 0} (setup : Setup) (core : Core) (task : ℕ) (core_with : A → Core) (p : Partly A) → ((part : A) → Left setup core (core_with part) task) → Leaves setup core task (on_part core_with p)
part_leaves setup core task core_with (Gave answer part) h = does_leave setup core _ task answer (h part)
part_leaves setup core task core_with (Broke fault) h = fails_leave setup core task fault

same_leaves : (setup : Setup) (core : Core) (task : ℕ) (answer : Answer) → Leaves setup core task (Does answer core)
same_leaves setup core task answer = does_leave setup core core task answer (left_same setup core task)

-- the calls that complete requests take none out
abbrev Longer : List Request → Completion → Type 0
Longer requests (Ends index status after) = (length requests ≤ length after) × (length after ≤ length requests + 1)
Longer requests (Breaks fault) = Unit {0}
Longer requests NotReady = Unit {0}

without_longer : (requests : List Request) (number : ℕ) (request : Request) → (length requests ≤ length (without_request requests number request)) × (length (without_request requests number request) ≤ length requests + 1)
without_longer requests zero request = (omega arith, omega arith)
without_longer requests (suc index) request = (omega (arith, length_set requests index (record request { active = false })), omega (arith, length_set requests index (record request { active = false })))

ended_longer : (index : ℤ) (requests : List Request) (number : ℕ) (request : Request) (o : Option (Result Status Fault)) → Longer requests (ended index requests number request o)
ended_longer index requests number request None = tt
ended_longer index requests number request (Some (Ok status)) = without_longer requests number request
ended_longer index requests number request (Some (Err fault)) = tt

in_longer : (postings : List Made) (carried : List Carried) (requests : List Request) (index : ℤ) (named' : Named) → Longer requests (completion_in postings carried requests index named')
in_longer postings carried requests index NullRequest = (omega arith, omega arith)
in_longer postings carried requests index (Active number request) = ended_longer index requests number request (told_of postings carried request.awaited)
in_longer postings carried requests index NotActive = tt

at_longer : (postings : List Made) (carried : List Carried) (requests : List Request) (words : List Word) (index : Option ℕ) → Longer requests (any_at postings carried requests words index)
at_longer postings carried requests words None = tt
at_longer postings carried requests words (Some index) = by (slice_get words index)
  where
    by : (o : Option Word) → Longer requests (completion_at postings carried requests index o)
    by None = tt
    by (Some word) = in_longer postings carried requests (pos index) (named requests word)

longer_if : (requests : List Request) (b : Bool) (x y : Completion) → Longer requests x → Longer requests y → Longer requests (if b then x else y)
longer_if requests true x y h g = h
longer_if requests false x y h g = g

any_longer : (postings : List Made) (carried : List Carried) (requests : List Request) (words : List Word) → Longer requests (any_completion postings carried requests words)
any_longer postings carried requests words =
    longer_if requests (list_any (λ word. is_not_active (named requests word)) words) _ _ tt
    (longer_if requests (list_all (λ word. is_null (named requests word)) words) (Ends (negsuc 2) empty_status requests) _ (omega arith, omega arith)
    (at_longer postings carried requests words (position (λ word. is_ready postings carried (named requests word)) words)))

module _ (setup : Setup) (core : Core) (task : ℕ) where
  completed_leaves : (c : Completion) → Longer (requests_of core task) c → Leaves setup core task (completing.completed core task c)
  completed_leaves (Ends index status requests) h = does_leave setup core _ task _ (left_requests setup core task requests h.0 h.1)
  completed_leaves (Breaks fault) h = fails_leave setup core task fault
  completed_leaves NotReady h = waits_leave setup core task

  tested_leaves : (c : Completion) → Longer (requests_of core task) c → Leaves setup core task (completing.tested core task c)
  tested_leaves (Ends index status requests) h = does_leave setup core _ task _ (left_requests setup core task requests h.0 h.1)
  tested_leaves (Breaks fault) h = fails_leave setup core task fault
  tested_leaves NotReady h = same_leaves setup core task _

  any_leaves : (c : Completion) → Longer (requests_of core task) c → Leaves setup core task (completing.any_completed core task c)
  any_leaves (Ends index status requests) h = does_leave setup core _ task _ (left_requests setup core task requests h.0 h.1)
  any_leaves (Breaks fault) h = fails_leave setup core task fault
  any_leaves NotReady h = waits_leave setup core task

  probe_leaves : (peer tag : ℤ) (found : Option Status → Outcome) (view : View) → ((status : Option Status) → Leaves setup core task (found status)) → Leaves setup core task (probing.probe_in core task peer tag found view)
  probe_leaves peer tag found view h = search (leave_if, fails_leave, h)

  found_leaves : (status : Option Status) → Leaves setup core task (probing.found_or_waits core status)
  found_leaves None = waits_leave setup core task
  found_leaves (Some status) = same_leaves setup core task _

  -- arrivals and visits change neither memory nor postings
  freed_longer : (comms : List Communicator) (index : ℕ) (o : Option Communicator) → length comms ≤ length (freed_at comms index o)
  freed_longer comms index None = omega arith
  freed_longer comms index (Some comm) = omega (arith, length_set comms index (record comm { lives = false }))

  free_longer : (comms : List Communicator) (number : ℕ) → length comms ≤ length (freed comms number)
  free_longer comms zero = omega arith
  free_longer comms (suc index) = freed_longer comms index (slice_get comms index)

  comms_longer : (what : CollKind) (comms : List Communicator) (comm number : ℕ) (members : List ℕ) (meeting : List Arrival) → length comms ≤ length (comms_after what comms comm number members meeting)
  comms_longer Dup comms comm number members meeting = omega (arith, length-append comms (made_by comm number members ∷ []))
  comms_longer Split comms comm number members meeting = omega (arith, length-append comms (map (made_by comm number) (groups_of members (chosen_in meeting))))
  comms_longer Free comms comm number members meeting = free_longer comms comm
  comms_longer Barrier comms comm number members meeting = omega arith
  comms_longer Bcast comms comm number members meeting = omega arith
  comms_longer Reduce comms comm number members meeting = omega arith
  comms_longer Allreduce comms comm number members meeting = omega arith
  comms_longer Scan comms comm number members meeting = omega arith
  comms_longer Exscan comms comm number members meeting = omega arith
  comms_longer Gather comms comm number members meeting = omega arith
  comms_longer Allgather comms comm number members meeting = omega arith
  comms_longer Scatter comms comm number members meeting = omega arith
  comms_longer Alltoall comms comm number members meeting = omega arith

  comms_if : (b : Bool) (x y : List Communicator) → length core.comms ≤ length x → length core.comms ≤ length y → length core.comms ≤ length (if b then x else y)
  comms_if true x y h g = h
  comms_if false x y h g = g

  abbrev one_arrival : Group → Coll → List Word → Arrival
  one_arrival group coll words = record {
    comm = group.comm;
    rank = group.rank;
    meeting = next_meeting core.arrivals group.comm group.rank;
    coll = coll;
    given = words;
    left = false;
  }

  arrived_left : (group : Group) (coll : Coll) (words : List Word) → Left setup core (collectives.arrived core group coll words) task
  arrived_left group coll words = quiet_left setup core (collectives.arrived core group coll words) task (record {
    memory = refl;
    postings = refl;
    carried = refl;
    comms = comms_if _ _ core.comms (comms_longer coll.what core.comms _ _ group.members _) (omega arith);
    requests = λ other. omega arith;
    made = λ other. refl;
    tasks = refl;
    lists = refl;
    few = λ other. omega arith;
    arrivals = omega (arith, length-append core.arrivals (one_arrival group coll words ∷ []));
    visits = omega arith;
    exits = omega arith;
  })

  into_leaves : (group : Group) (coll : Coll) (words : List Word) (into : Result (Option Span) Fault) → Leaves setup core task (collectives.arrive_into core group coll words into)
  into_leaves group coll words (Err fault) = fails_leave setup core task fault
  into_leaves group coll words (Ok into) = does_leave setup core _ task _ (arrived_left group coll words)

  with_leaves : (group : Group) (coll : Coll) (from : Result (Option Span) Fault) → Leaves setup core task (collectives.arrive_with setup core task group coll from)
  with_leaves group coll (Err fault) = fails_leave setup core task fault
  with_leaves group coll (Ok from) = search (leave_if, fails_leave, into_leaves)

  arrive_leaves : (coll : Coll) (group : Group) → Leaves setup core task (collectives.arrive_in setup core task coll group)
  arrive_leaves coll group = search (leave_if, fails_leave, with_leaves)

  -- a leave writes to places of the task's own copies
  left_written : (group : Group) (places : Option Span) (words : List Word) → ((span : Span) → places ≡ Some span → span.owner ≡ owner_of setup task span.obj)
      → Left setup core (collectives.with_left (record core { memory = with_words_at core.memory places words }) group) task
  left_written group places words own' = record {
    keeps = record {
      postings = omega arith;
      comms = omega arith;
      requests = λ other. omega arith;
      made = λ other. omega arith;
      names = λ other left number past. words_dead core.memory places words (Task other) (Dyn number) (left number past);
    };
    few = record {
      postings = omega arith;
      requests = λ other. omega arith;
      made = λ other. omega arith;
      arrivals = omega (arith, length-map core.arrivals (λ (a : Arrival). if collectives.leaves group a then record a { left = true } else a));
      visits = omega arith;
      exits = omega arith;
    };
    order = words_ordered core.memory places words;
    tasks = refl;
    lists = refl;
    own = same_own setup core _ refl refl;
    others = λ own other obj apart. inl (words_apart core.memory places words (Task other) obj (λ span named' h. owner_apart setup task other span.obj apart (sym (own' span named') ∙ h)));
  }

  leave_with_leaves : (group : Group) (a : Arrival) (places : Option Span) (words : List Word) → ((span : Span) → places ≡ Some span → span.owner ≡ owner_of setup task span.obj)
      → Leaves setup core task (collectives.leave_with core task group a places words)
  leave_with_leaves group a places words own' =
      leave_if setup core task (collectives.is_pending core places) _ _ (fails_leave setup core task _)
      (does_leave setup core _ task _ (left_written group places words own'))

  leave_at_leaves : (group : Group) (a : Option Arrival) → Leaves setup core task (collectives.leave_at setup core task group a)
  leave_at_leaves group None = same_leaves setup core task _
  leave_at_leaves group (Some a) =
      leave_if setup core task a.left _ _ (same_leaves setup core task _)
      (leave_if setup core task (is_full core.arrivals a.comm (size_of group) a.meeting) _ _
      (leave_with_leaves group a (collectives.result_places setup core task group a.coll) _ (λ span e. found_owner (owner_of setup task) (λ owner obj place. false) core.memory a.coll.into _ span e))
      (waits_leave setup core task))

  leave_leaves : (group : Option Group) → Leaves setup core task (collectives.leave_in setup core task group)
  leave_leaves None = same_leaves setup core task _
  leave_leaves (Some group) = leave_at_leaves group (latest_arrival core.arrivals group.comm group.rank)

  site_leaves : (fits : HlsKind → Bool) (number : ℕ) (o : Site → Outcome) (c : Option Construct) → ((site : Site) → Leaves setup core task (o site)) → Leaves setup core task (sharing.at_construct setup core fits number o c)
  site_leaves fits number o None h = same_leaves setup core task _
  site_leaves fits number o (Some c) h = leave_if setup core task (fits c.kind) _ _ (h (sharing.site_of setup number c)) (same_leaves setup core task _)

  goes_leaves : (b : Bool) → Leaves setup core task (sharing.done_or_waits core b)
  goes_leaves true = same_leaves setup core task _
  goes_leaves false = waits_leave setup core task

  visits_left : (visits : List Visit) → length visits ≤ length core.visits + 1 → Left setup core (record core { visits = visits }) task
  visits_left visits g = quiet_left setup core (record core { visits = visits }) task (record { memory = refl; postings = refl; carried = refl; comms = omega arith; requests = λ other. omega arith; made = λ other. refl; tasks = refl; lists = refl; few = λ other. omega arith; arrivals = omega arith; visits = g; exits = omega arith })

  exits_left : (exits : List Visit) → length exits ≤ length core.exits + 1 → Left setup core (record core { exits = exits }) task
  exits_left exits g = quiet_left setup core (record core { exits = exits }) task (record { memory = refl; postings = refl; carried = refl; comms = omega arith; requests = λ other. omega arith; made = λ other. refl; tasks = refl; lists = refl; few = λ other. omega arith; arrivals = omega arith; visits = omega arith; exits = g })

visit_few : (visits : List Visit) (construct task : ℕ) → length (with_visit visits construct task) ≤ length visits + 1
visit_few visits construct task = omega (arith, length-append visits (record { construct = construct; task = task; meeting = next_visit visits construct task } ∷ []))

exit_few : (exits : List Visit) (o : Option Visit) → length (with_exit exits o) ≤ length exits + 1
exit_few exits None = omega arith
exit_few exits (Some v) = omega (arith, length-append exits (v ∷ []))

-- what a call of a task that is there comes to
pub act_leaves : (setup : Setup) (core : Core) (task : ℕ) → task < length core.tasks → (c : Call) → Leaves setup core task (act setup core task c)
unfolding act memory.load memory.store memory.new memory.drop memory.malloc memory.free task'.print task'.finish task'.init task'.finalize task'.abort task'.rank task'.size completing.complete completing.test completing.any probing.probe probing.iprobe collectives.arrive collectives.leave sharing.enter sharing.await sharing.exit sharing.bar sharing.barwait
act_leaves setup core task there (call.Load at) = accessed_leaves setup core task there _ ((each_access setup core task).load (marks_of core.requests) at)
act_leaves setup core task there (call.Store at word) = accessed_leaves setup core task there _ ((each_access setup core task).store (marks_of core.requests) at word)
act_leaves setup core task there (call.New len) = accessed_leaves setup core task there _ ((each_access setup core task).new setup.quota len)
act_leaves setup core task there (call.Drop obj) = accessed_leaves setup core task there _ ((each_access setup core task).drop (marks_of core.requests) obj)
act_leaves setup core task there (call.Malloc n) = accessed_leaves setup core task there _ ((each_access setup core task).malloc setup.quota n)
act_leaves setup core task there (call.Free at) = accessed_leaves setup core task there _ ((each_access setup core task).free (marks_of core.requests) at)
act_leaves setup core task there (call.Print text) = part_leaves setup core task _ _ (λ output. left_state setup core task (record (state_of core task) { output = output }) refl)
act_leaves setup core task there (call.Broke fault) = fails_leave setup core task fault
act_leaves setup core task there (call.Finish code) = search (leave_if, fails_leave, same_leaves)
act_leaves setup core task there call.Init = part_leaves setup core task _ _ (λ phase. left_state setup core task (record (state_of core task) { phase = phase }) refl)
act_leaves setup core task there call.Finalize =
    leave_inside setup core task _ (leave_if setup core task (task'.has_active (requests_of core task)) _ _ (fails_leave setup core task _)
    (does_leave setup core _ task _ (left_state setup core task (record (state_of core task) { phase = After }) refl)))
act_leaves setup core task there (call.Abort comm code) = leave_group setup core task comm _ (λ group. same_leaves setup core task _)
act_leaves setup core task there (call.Rank comm) = leave_group setup core task comm _ (λ group. same_leaves setup core task _)
act_leaves setup core task there (call.Size comm) = leave_group setup core task comm _ (λ group. same_leaves setup core task _)
act_leaves setup core task there (call.Send at count kind peer tag comm sync) = post_leaves setup core task _
act_leaves setup core task there (call.Recv at count kind peer tag comm) = post_leaves setup core task _
act_leaves setup core task there (call.Complete req) = leave_inside setup core task _ (completed_leaves setup core task _ (in_longer core.postings core.carried (requests_of core task) (pos 0) (named (requests_of core task) req)))
act_leaves setup core task there (call.Test req) = leave_inside setup core task _ (tested_leaves setup core task _ (in_longer core.postings core.carried (requests_of core task) (pos 0) (named (requests_of core task) req)))
act_leaves setup core task there (call.AnyOf reqs) = leave_inside setup core task _ (any_leaves setup core task _ (any_longer core.postings core.carried (requests_of core task) reqs))
act_leaves setup core task there (call.Probe peer tag comm) = leave_group setup core task comm _ (λ group. probe_leaves setup core task peer tag _ (view_of group) (found_leaves setup core task))
act_leaves setup core task there (call.Iprobe peer tag comm) = leave_group setup core task comm _ (λ group. probe_leaves setup core task peer tag _ (view_of group) (λ status. same_leaves setup core task (Flag status)))
act_leaves setup core task there (call.Arrive coll) = leave_group setup core task coll.comm _ (arrive_leaves setup core task coll)
act_leaves setup core task there (call.Leave comm) = leave_leaves setup core task (old_group_of core.comms task comm)
act_leaves setup core task there (call.HlsEnter construct) = site_leaves setup core task sharing.is_single construct _ (sharing.construct_of setup construct) (λ site. does_leave setup core (sharing.visiting core task construct) task (Entered (way_of site core.visits task)) (visits_left setup core task _ (visit_few core.visits construct task)))
act_leaves setup core task there (call.HlsWait construct) = site_leaves setup core task sharing.is_waiting_single construct _ (sharing.construct_of setup construct) (λ site. goes_leaves setup core task (may_go site core.visits core.exits task))
act_leaves setup core task there (call.HlsExit construct) = site_leaves setup core task sharing.is_single construct _ (sharing.construct_of setup construct) (λ site. does_leave setup core (record core { exits = with_exit core.exits (running_visit site core.visits core.exits task) }) task Done (exits_left setup core task _ (exit_few core.exits (running_visit site core.visits core.exits task))))
act_leaves setup core task there (call.HlsBar construct) = site_leaves setup core task sharing.is_barrier construct _ (sharing.construct_of setup construct) (λ site. does_leave setup core (sharing.visiting core task construct) task Done (visits_left setup core task _ (visit_few core.visits construct task)))
act_leaves setup core task there (call.HlsBarWait construct) = site_leaves setup core task sharing.is_barrier construct _ (sharing.construct_of setup construct) (λ site. goes_leaves setup core task (may_leave_bar site core.visits task))
