-- Every call that is no posting leaves the receives that are under way.
use Rattle.std.proofs.Common.{◌≡◌, ℕ, ℤ, pos, Bool, true, false, if◌then◌else◌, List, Option, Some, None, Result, Ok, Err, refl}
use Rattle.mpc_values.specs.declared.values.Word.{Word}
use Rattle.mpc_values.specs.declared.answers.Answer.{Answer}
use Rattle.mpc_values.specs.declared.answers.Answer.TheVariants.{Done, Flag, Entered}
use Rattle.mpc_values.specs.declared.answers.Status.{Status}
use Rattle.mpc_values.specs.declared.calls.Call.{Call}
use Rattle.mpc_values.specs.declared.calls.Call.TheVariants as call
use Rattle.mpc_values.specs.declared.collectives.Coll.{Coll}
use Rattle.mpc_values.specs.declared.faults.Fault.{Fault}
use Rattle.c_tree.specs.declared.program.HlsKind.{HlsKind}
use Rattle.c_tree.specs.declared.program.Construct.{Construct}
use Rattle.memory_model.specs.declared.kinds.Span.{Span}
use Rattle.memory_model.specs.Access.{Access, Answers, Breaks}
use Rattle.memory_model.specs.Names.{NamesAreLeft}
use Rattle.mpi_request.specs.Completing.{Completion, Ends, Breaks as Faults, NotReady}
use Rattle.mpi_request.specs.Pending.{marks_of}
use Rattle.mpi_comm.specs.declared.communicators.View.{View}
use Rattle.mpi_comm.specs.Communicators.{Group, group_of, old_group_of, view_of}
use Rattle.mpi_coll.specs.declared.arrivals.Arrival.{Arrival}
use Rattle.mpi_coll.specs.Meetings.{latest_arrival}
use Rattle.hls_sync.specs.Meetings.{Site}
use Rattle.hls_sync.specs.Ways.{way_of, may_go, may_leave_bar, running_visit, with_exit}
use Rattle.run_model.specs.Setup.{Setup}
use Rattle.run_model.specs.World.{Core}
use Rattle.run_model.specs.Owners.{owner_of}
use Rattle.run_model.specs.Outcomes.{Outcome, Does, Fails, Waits, Partly, Gave, Broke, on_part, state_of, requests_of, inside_mpi, in_found, in_group}
use Rattle.run_model.specs.MemoryCalls as memory
use Rattle.run_model.specs.TaskCalls as task'
use Rattle.run_model.specs.Completing as completing
use Rattle.run_model.specs.Probing as probing
use Rattle.run_model.specs.Collectives as collectives
use Rattle.run_model.specs.Sharing as sharing
use Rattle.run_model.specs.Act.{act}
use Rattle.run_model.proofs.SamePostings.{IsPostingCall}
use Rattle.run_model.proofs.Lengths.{lives_written}
use Rattle.run_model.proofs.LengthsKept.{LengthsKept, load_kept, store_kept, new_kept, malloc_kept, drop_kept, free_kept}
use Rattle.run_model.proofs.UnderWay.{Kept, kept_same, kept_memory, kept_requests, CompletionLeaves, completion_leaves, any_leaves}

-- the same by the outcome
unfoldable pub KeepsUnderWay : Core → Outcome → Type 0
KeepsUnderWay core (Does answer after) = Kept core after
KeepsUnderWay core (Fails fault) = Unit {0}
KeepsUnderWay core Waits = Unit {0}

module _ (core : Core) where
  does : (answer : Answer) (after : Core) → Kept core after → KeepsUnderWay core (Does answer after)
  unfolding KeepsUnderWay
  does answer after h = h

  pub fails : (fault : Fault) → KeepsUnderWay core (Fails fault)
  unfolding KeepsUnderWay
  fails fault = tt

  waits : KeepsUnderWay core Waits
  unfolding KeepsUnderWay
  waits = tt

  -- nothing changes that a receive under way needs
  quiet : (answer : Answer) (after : Core) → after.memory ≡ core.memory → after.requests ≡ core.requests → after.carried ≡ core.carried → KeepsUnderWay core (Does answer after)
  quiet answer after m r c = does answer after (kept_same core after m r c)

  stays : (answer : Answer) → KeepsUnderWay core (Does answer core)
  stays answer = quiet answer core refl refl refl

  pub keeps_if : (b : Bool) (x y : Outcome) → KeepsUnderWay core x → KeepsUnderWay core y → KeepsUnderWay core (if b then x else y)
  keeps_if true x y h g = h
  keeps_if false x y h g = g

  keeps_inside : (task : ℕ) (o : Outcome) → KeepsUnderWay core o → KeepsUnderWay core (inside_mpi core task o)
  keeps_inside task o h = search (keeps_if, fails, h)

  keeps_found : (g : Option Group) (o : Group → Outcome) → ((group : Group) → KeepsUnderWay core (o group)) → KeepsUnderWay core (in_found g o)
  keeps_found None o h = fails _
  keeps_found (Some group) o h = h group

  keeps_group : (task : ℕ) (word : Word) (o : Group → Outcome) → ((group : Group) → KeepsUnderWay core (o group)) → KeepsUnderWay core (in_group core task word o)
  keeps_group task word o h = keeps_inside task _ (keeps_found (group_of core.comms task word) o h)

  keeps_access : (task : ℕ) (a : Access) → LengthsKept (marks_of core.requests) core.memory a → KeepsUnderWay core (memory.accessed core task a)
  unfolding LengthsKept
  keeps_access task (Answers answer o) h = does answer _ (kept_memory core _ refl refl h)
  keeps_access task (Breaks fault) h = fails fault

  keeps_part : {A : Type 0} (core_with : A → Core) (p : Partly A) → ((answer : Answer) (part : A) → KeepsUnderWay core (Does answer (core_with part))) → KeepsUnderWay core (on_part core_with p)
  keeps_part core_with (Gave answer part) h = h answer part
  keeps_part core_with (Broke fault) h = fails fault

  keeps_completed : (task : ℕ) (c : Completion) → CompletionLeaves core.postings core.carried (requests_of core task) c → KeepsUnderWay core (completing.completed core task c)
  keeps_completed task (Ends index status requests) h = does _ _ (kept_requests core task requests h)
  keeps_completed task (Faults fault) h = fails fault
  keeps_completed task NotReady h = waits

  keeps_tested : (task : ℕ) (c : Completion) → CompletionLeaves core.postings core.carried (requests_of core task) c → KeepsUnderWay core (completing.tested core task c)
  keeps_tested task (Ends index status requests) h = does _ _ (kept_requests core task requests h)
  keeps_tested task (Faults fault) h = fails fault
  keeps_tested task NotReady h = stays _

  keeps_any : (task : ℕ) (c : Completion) → CompletionLeaves core.postings core.carried (requests_of core task) c → KeepsUnderWay core (completing.any_completed core task c)
  keeps_any task (Ends index status requests) h = does _ _ (kept_requests core task requests h)
  keeps_any task (Faults fault) h = fails fault
  keeps_any task NotReady h = waits

  keeps_probe : (task : ℕ) (peer tag : ℤ) (found : Option Status → Outcome) (view : View) → ((status : Option Status) → KeepsUnderWay core (found status)) → KeepsUnderWay core (probing.probe_in core task peer tag found view)
  keeps_probe task peer tag found view h = search (keeps_if, fails, h)

  keeps_found_or : (status : Option Status) → KeepsUnderWay core (probing.found_or_waits core status)
  keeps_found_or None = waits
  keeps_found_or (Some status) = stays _

  keeps_into : (group : Group) (coll : Coll) (words : List Word) (into : Result (Option Span) Fault) → KeepsUnderWay core (collectives.arrive_into core group coll words into)
  keeps_into group coll words (Err fault) = fails fault
  keeps_into group coll words (Ok into) = quiet _ _ refl refl refl

  keeps_with : (setup : Setup) (task : ℕ) (group : Group) (coll : Coll) (from : Result (Option Span) Fault) → KeepsUnderWay core (collectives.arrive_with setup core task group coll from)
  keeps_with setup task group coll (Err fault) = fails fault
  keeps_with setup task group coll (Ok from) = search (keeps_if, fails, keeps_into)

  keeps_arrive : (setup : Setup) (task : ℕ) (coll : Coll) (group : Group) → KeepsUnderWay core (collectives.arrive_in setup core task coll group)
  keeps_arrive setup task coll group = search (keeps_if, fails, keeps_with)

  -- a leave writes words to places, which leaves all lengths
  keeps_leave_with : (task : ℕ) (group : Group) (a : Arrival) (places : Option Span) (words : List Word) → KeepsUnderWay core (collectives.leave_with core task group a places words)
  keeps_leave_with task group a places words =
      keeps_if (collectives.is_pending core places) _ _ (fails _)
      (does _ _ (kept_memory core _ refl refl (λ owner obj len barred h. lives_written core.memory places words owner obj len h)))

  keeps_leave_at : (setup : Setup) (task : ℕ) (group : Group) (a : Option Arrival) → KeepsUnderWay core (collectives.leave_at setup core task group a)
  keeps_leave_at setup task group None = stays _
  keeps_leave_at setup task group (Some a) = keeps_if a.left _ _ (stays _) (keeps_if _ _ _ (keeps_leave_with task group a _ _) waits)

  keeps_leave : (setup : Setup) (task : ℕ) (group : Option Group) → KeepsUnderWay core (collectives.leave_in setup core task group)
  keeps_leave setup task None = stays _
  keeps_leave setup task (Some group) = keeps_leave_at setup task group (latest_arrival core.arrivals group.comm group.rank)

  keeps_site : (setup : Setup) (fits : HlsKind → Bool) (number : ℕ) (o : Site → Outcome) (c : Option Construct) → ((site : Site) → KeepsUnderWay core (o site)) → KeepsUnderWay core (sharing.at_construct setup core fits number o c)
  keeps_site setup fits number o None h = stays _
  keeps_site setup fits number o (Some c) h = keeps_if (fits c.kind) _ _ (h (sharing.site_of setup number c)) (stays _)

  keeps_goes : (b : Bool) → KeepsUnderWay core (sharing.done_or_waits core b)
  keeps_goes true = stays _
  keeps_goes false = waits

-- what a call of a task comes to that is no posting
pub keeps_act : (setup : Setup) (core : Core) (task : ℕ) → NamesAreLeft task (state_of core task).made core.memory → (c : Call) → (IsPostingCall c → ⊥) → KeepsUnderWay core (act setup core task c)
unfolding act memory.load memory.store memory.new memory.drop memory.malloc memory.free task'.print task'.finish task'.init task'.finalize task'.abort task'.rank task'.size completing.complete completing.test completing.any probing.probe probing.iprobe collectives.arrive collectives.leave sharing.enter sharing.await sharing.exit sharing.bar sharing.barwait
keeps_act setup core task left (call.Load at) h = keeps_access core task _ (load_kept (owner_of setup task) (marks_of core.requests) task (memory.objects_of core task) at)
keeps_act setup core task left (call.Store at word) h = keeps_access core task _ (store_kept (owner_of setup task) (marks_of core.requests) task (memory.objects_of core task) at word)
keeps_act setup core task left (call.New len) h = keeps_access core task _ (new_kept (owner_of setup task) (marks_of core.requests) task (memory.objects_of core task) left setup.quota len)
keeps_act setup core task left (call.Drop obj) h = keeps_access core task _ (drop_kept (owner_of setup task) (marks_of core.requests) task (memory.objects_of core task) obj)
keeps_act setup core task left (call.Malloc n) h = keeps_access core task _ (malloc_kept (owner_of setup task) (marks_of core.requests) task (memory.objects_of core task) left setup.quota n)
keeps_act setup core task left (call.Free at) h = keeps_access core task _ (free_kept (owner_of setup task) (marks_of core.requests) task (memory.objects_of core task) at)
keeps_act setup core task left (call.Print text) h = keeps_part core _ _ (λ answer output. quiet core answer _ refl refl refl)
keeps_act setup core task left (call.Broke fault) h = fails core fault
keeps_act setup core task left (call.Finish code) h = keeps_if core _ _ _ (fails core _) (stays core _)
keeps_act setup core task left call.Init h = keeps_part core _ _ (λ answer phase. quiet core answer _ refl refl refl)
keeps_act setup core task left call.Finalize h = keeps_inside core task _ (keeps_if core _ _ _ (fails core _) (quiet core _ _ refl refl refl))
keeps_act setup core task left (call.Abort comm code) h = keeps_group core task comm _ (λ group. stays core _)
keeps_act setup core task left (call.Rank comm) h = keeps_group core task comm _ (λ group. stays core _)
keeps_act setup core task left (call.Size comm) h = keeps_group core task comm _ (λ group. stays core _)
keeps_act setup core task left (call.Send at count kind peer tag comm sync) h = absurd (h tt)
keeps_act setup core task left (call.Recv at count kind peer tag comm) h = absurd (h tt)
keeps_act setup core task left (call.Complete req) h = keeps_inside core task _ (keeps_completed core task _ (completion_leaves core.postings core.carried (requests_of core task) (pos 0) req))
keeps_act setup core task left (call.Test req) h = keeps_inside core task _ (keeps_tested core task _ (completion_leaves core.postings core.carried (requests_of core task) (pos 0) req))
keeps_act setup core task left (call.AnyOf reqs) h = keeps_inside core task _ (keeps_any core task _ (any_leaves core.postings core.carried (requests_of core task) reqs))
keeps_act setup core task left (call.Probe peer tag comm) h = keeps_group core task comm _ (λ group. keeps_probe core task peer tag _ (view_of group) (keeps_found_or core))
keeps_act setup core task left (call.Iprobe peer tag comm) h = keeps_group core task comm _ (λ group. keeps_probe core task peer tag _ (view_of group) (λ status. stays core (Flag status)))
keeps_act setup core task left (call.Arrive coll) h = keeps_group core task coll.comm _ (keeps_arrive core setup task coll)
keeps_act setup core task left (call.Leave comm) h = keeps_leave core setup task (old_group_of core.comms task comm)
keeps_act setup core task left (call.HlsEnter construct) h = keeps_site core setup sharing.is_single construct _ (sharing.construct_of setup construct) (λ site. quiet core (Entered (way_of site core.visits task)) (sharing.visiting core task construct) refl refl refl)
keeps_act setup core task left (call.HlsWait construct) h = keeps_site core setup sharing.is_waiting_single construct _ (sharing.construct_of setup construct) (λ site. keeps_goes core (may_go site core.visits core.exits task))
keeps_act setup core task left (call.HlsExit construct) h = keeps_site core setup sharing.is_single construct _ (sharing.construct_of setup construct) (λ site. quiet core Done (record core { exits = with_exit core.exits (running_visit site core.visits core.exits task) }) refl refl refl)
keeps_act setup core task left (call.HlsBar construct) h = keeps_site core setup sharing.is_barrier construct _ (sharing.construct_of setup construct) (λ site. quiet core Done (sharing.visiting core task construct) refl refl refl)
keeps_act setup core task left (call.HlsBarWait construct) h = keeps_site core setup sharing.is_barrier construct _ (sharing.construct_of setup construct) (λ site. keeps_goes core (may_leave_bar site core.visits task))
