-- A call that is no posting leaves the postings.
use Rattle.std.proofs.Common.{◌≡◌, ℕ, ℤ, Bool, true, false, if◌then◌else◌, List, slice_get, Option, Some, None, Result, Ok, Err, refl}
use Rattle.std.specs.List.{list_any}
use Rattle.mpc_values.specs.declared.values.Word.{Word}
use Rattle.mpc_values.specs.declared.answers.Answer.{Answer}
use Rattle.mpc_values.specs.declared.answers.Status.{Status}
use Rattle.mpc_values.specs.declared.calls.Call.{Call}
use Rattle.mpc_values.specs.declared.calls.Call.TheVariants as call
use Rattle.mpc_values.specs.declared.collectives.Coll.{Coll}
use Rattle.mpc_values.specs.declared.faults.Fault.{Fault}
use Rattle.c_tree.specs.declared.program.HlsKind.{HlsKind}
use Rattle.c_tree.specs.declared.program.Construct.{Construct}
use Rattle.memory_model.specs.declared.kinds.Span.{Span}
use Rattle.memory_model.specs.Access.{Access, Answers, Breaks}
use Rattle.mpi_request.specs.Completing.{Completion, Ends, Breaks as Faults, NotReady}
use Rattle.mpi_comm.specs.declared.communicators.View.{View}
use Rattle.mpi_comm.specs.Communicators.{Group, group_of, old_group_of, view_of}
use Rattle.mpi_coll.specs.declared.arrivals.Arrival.{Arrival}
use Rattle.mpi_coll.specs.Meetings.{latest_arrival}
use Rattle.hls_sync.specs.Meetings.{Site}
use Rattle.hls_sync.specs.Ways.{way_of, may_go, may_leave_bar, running_visit, with_exit}
use Rattle.mpc_values.specs.declared.answers.Answer.TheVariants.{Done, Flag, Entered}
use Rattle.run_model.specs.Setup.{Setup}
use Rattle.run_model.specs.World.{Core}
use Rattle.run_model.specs.Outcomes.{Outcome, Does, Fails, Waits, Partly, Gave, Broke, on_part, inside_mpi, in_found, in_group}
use Rattle.run_model.specs.MemoryCalls as memory
use Rattle.run_model.specs.TaskCalls as task'
use Rattle.run_model.specs.Completing as completing
use Rattle.run_model.specs.Probing as probing
use Rattle.run_model.specs.Collectives as collectives
use Rattle.run_model.specs.Sharing as sharing
use Rattle.run_model.specs.Act.{act}

-- the postings are as they were
unfoldable pub SamePostings : Core → Outcome → Type 0
SamePostings core (Does answer after) = after.postings ≡ core.postings
SamePostings core (Fails fault) = Unit {0}
SamePostings core Waits = Unit {0}

module _ (core : Core) where
  pub same_does : (answer : Answer) (after : Core) → after.postings ≡ core.postings → SamePostings core (Does answer after)
  unfolding SamePostings
  same_does answer after h = h

  pub same_fails : (fault : Fault) → SamePostings core (Fails fault)
  unfolding SamePostings
  same_fails fault = tt

  same_waits : SamePostings core Waits
  unfolding SamePostings
  same_waits = tt

  pub same_if : (b : Bool) (x y : Outcome) → SamePostings core x → SamePostings core y → SamePostings core (if b then x else y)
  same_if true x y h g = h
  same_if false x y h g = g

  same_inside : (task : ℕ) (o : Outcome) → SamePostings core o → SamePostings core (inside_mpi core task o)
  same_inside task o h = search (same_if, same_fails, h)

  same_found : (g : Option Group) (o : Group → Outcome) → ((group : Group) → SamePostings core (o group)) → SamePostings core (in_found g o)
  same_found None o h = same_fails _
  same_found (Some group) o h = h group

  same_group : (task : ℕ) (word : Word) (o : Group → Outcome) → ((group : Group) → SamePostings core (o group)) → SamePostings core (in_group core task word o)
  same_group task word o h = same_inside task _ (same_found (group_of core.comms task word) o h)

  same_access : (task : ℕ) (a : Access) → SamePostings core (memory.accessed core task a)
  same_access task (Answers answer o) = same_does answer _ refl
  same_access task (Breaks fault) = same_fails fault

  same_part : {A : Type 0} (core_with : A → Core) (p : Partly A) → ((part : A) → (core_with part).postings ≡ core.postings) → SamePostings core (on_part core_with p)
  same_part core_with (Gave answer part) h = same_does answer (core_with part) (h part)
  same_part core_with (Broke fault) h = same_fails fault

  same_completed : (task : ℕ) (c : Completion) → SamePostings core (completing.completed core task c)
  same_completed task (Ends index status requests) = same_does _ _ refl
  same_completed task (Faults fault) = same_fails fault
  same_completed task NotReady = same_waits

  same_tested : (task : ℕ) (c : Completion) → SamePostings core (completing.tested core task c)
  same_tested task (Ends index status requests) = same_does _ _ refl
  same_tested task (Faults fault) = same_fails fault
  same_tested task NotReady = same_does _ core refl

  same_any : (task : ℕ) (c : Completion) → SamePostings core (completing.any_completed core task c)
  same_any task (Ends index status requests) = same_does _ _ refl
  same_any task (Faults fault) = same_fails fault
  same_any task NotReady = same_waits

  same_probe : (task : ℕ) (peer tag : ℤ) (found : Option Status → Outcome) (view : View) → ((status : Option Status) → SamePostings core (found status)) → SamePostings core (probing.probe_in core task peer tag found view)
  same_probe task peer tag found view h = search (same_if, same_fails, h)

  same_found_or : (status : Option Status) → SamePostings core (probing.found_or_waits core status)
  same_found_or None = same_waits
  same_found_or (Some status) = same_does _ core refl

  same_into : (group : Group) (coll : Coll) (words : List Word) (into : Result (Option Span) Fault) → SamePostings core (collectives.arrive_into core group coll words into)
  same_into group coll words (Err fault) = same_fails fault
  same_into group coll words (Ok into) = same_does _ _ refl

  same_with : (setup : Setup) (task : ℕ) (group : Group) (coll : Coll) (from : Result (Option Span) Fault) → SamePostings core (collectives.arrive_with setup core task group coll from)
  same_with setup task group coll (Err fault) = same_fails fault
  same_with setup task group coll (Ok from) = search (same_if, same_fails, same_into)

  same_arrive : (setup : Setup) (task : ℕ) (coll : Coll) (group : Group) → SamePostings core (collectives.arrive_in setup core task coll group)
  same_arrive setup task coll group = search (same_if, same_fails, same_with)

  same_leave_with : (task : ℕ) (group : Group) (a : Arrival) (places : Option Span) (words : List Word) → SamePostings core (collectives.leave_with core task group a places words)
  same_leave_with task group a places words = same_if (collectives.is_pending core places) _ _ (same_fails _) (same_does _ _ refl)

  same_leave_at : (setup : Setup) (task : ℕ) (group : Group) (a : Option Arrival) → SamePostings core (collectives.leave_at setup core task group a)
  same_leave_at setup task group None = same_does _ core refl
  same_leave_at setup task group (Some a) = same_if a.left _ _ (same_does _ core refl) (same_if _ _ _ (same_leave_with task group a _ _) same_waits)

  same_leave : (setup : Setup) (task : ℕ) (group : Option Group) → SamePostings core (collectives.leave_in setup core task group)
  same_leave setup task None = same_does _ core refl
  same_leave setup task (Some group) = same_leave_at setup task group (latest_arrival core.arrivals group.comm group.rank)

  same_site : (setup : Setup) (fits : HlsKind → Bool) (number : ℕ) (o : Site → Outcome) (c : Option Construct) → ((site : Site) → SamePostings core (o site)) → SamePostings core (sharing.at_construct setup core fits number o c)
  same_site setup fits number o None h = same_does _ core refl
  same_site setup fits number o (Some c) h = same_if (fits c.kind) _ _ (h (sharing.site_of setup number c)) (same_does _ core refl)

  same_goes : (b : Bool) → SamePostings core (sharing.done_or_waits core b)
  same_goes true = same_does _ core refl
  same_goes false = same_waits

-- a send or a receive
abbrev pub IsPostingCall : Call → Type 0
IsPostingCall (call.Send at count kind peer tag comm sync) = Unit {0}
IsPostingCall (call.Recv at count kind peer tag comm) = Unit {0}
IsPostingCall other = ⊥

pub same_act : (setup : Setup) (core : Core) (task : ℕ) (c : Call) → (IsPostingCall c → ⊥) → SamePostings core (act setup core task c)
unfolding act memory.load memory.store memory.new memory.drop memory.malloc memory.free task'.print task'.finish task'.init task'.finalize task'.abort task'.rank task'.size completing.complete completing.test completing.any probing.probe probing.iprobe collectives.arrive collectives.leave sharing.enter sharing.await sharing.exit sharing.bar sharing.barwait
same_act setup core task (call.Load at) h = same_access core task _
same_act setup core task (call.Store at word) h = same_access core task _
same_act setup core task (call.New len) h = same_access core task _
same_act setup core task (call.Drop obj) h = same_access core task _
same_act setup core task (call.Malloc n) h = same_access core task _
same_act setup core task (call.Free at) h = same_access core task _
same_act setup core task (call.Print text) h = same_part core _ _ (λ output. refl)
same_act setup core task (call.Broke fault) h = same_fails core fault
same_act setup core task (call.Finish code) h = same_if core _ _ _ (same_fails core _) (same_does core _ core refl)
same_act setup core task call.Init h = same_part core _ _ (λ phase. refl)
same_act setup core task call.Finalize h = same_inside core task _ (same_if core _ _ _ (same_fails core _) (same_does core _ _ refl))
same_act setup core task (call.Abort comm code) h = same_group core task comm _ (λ group. same_does core _ core refl)
same_act setup core task (call.Rank comm) h = same_group core task comm _ (λ group. same_does core _ core refl)
same_act setup core task (call.Size comm) h = same_group core task comm _ (λ group. same_does core _ core refl)
same_act setup core task (call.Send at count kind peer tag comm sync) h = absurd (h tt)
same_act setup core task (call.Recv at count kind peer tag comm) h = absurd (h tt)
same_act setup core task (call.Complete req) h = same_inside core task _ (same_completed core task _)
same_act setup core task (call.Test req) h = same_inside core task _ (same_tested core task _)
same_act setup core task (call.AnyOf reqs) h = same_inside core task _ (same_any core task _)
same_act setup core task (call.Probe peer tag comm) h = same_group core task comm _ (λ group. same_probe core task peer tag _ (view_of group) (same_found_or core))
same_act setup core task (call.Iprobe peer tag comm) h = same_group core task comm _ (λ group. same_probe core task peer tag _ (view_of group) (λ status. same_does core (Flag status) core refl))
same_act setup core task (call.Arrive coll) h = same_group core task coll.comm _ (same_arrive core setup task coll)
same_act setup core task (call.Leave comm) h = same_leave core setup task (old_group_of core.comms task comm)
same_act setup core task (call.HlsEnter construct) h = same_site core setup sharing.is_single construct _ (sharing.construct_of setup construct) (λ site. same_does core (Entered (way_of site core.visits task)) (sharing.visiting core task construct) refl)
same_act setup core task (call.HlsWait construct) h = same_site core setup sharing.is_waiting_single construct _ (sharing.construct_of setup construct) (λ site. same_goes core (may_go site core.visits core.exits task))
same_act setup core task (call.HlsExit construct) h = same_site core setup sharing.is_single construct _ (sharing.construct_of setup construct) (λ site. same_does core Done (record core { exits = with_exit core.exits (running_visit site core.visits core.exits task) }) refl)
same_act setup core task (call.HlsBar construct) h = same_site core setup sharing.is_barrier construct _ (sharing.construct_of setup construct) (λ site. same_does core Done (sharing.visiting core task construct) refl)
same_act setup core task (call.HlsBarWait construct) h = same_site core setup sharing.is_barrier construct _ (sharing.construct_of setup construct) (λ site. same_goes core (may_leave_bar site core.visits task))
