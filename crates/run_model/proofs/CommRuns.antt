-- What each call makes of the communicators: at most as many as a group has members, each with as many at the most.
use Rattle.std.proofs.Common.{◌≡◌, ◌≤◌, ◌+◌, ◌*◌, ◌==◌, ◌&&◌, ℕ, ℤ, zero, suc, Bool, true, false, if◌then◌else◌, List, [], ◌∷◌, ◌++◌, map, find, filter_map, length, position, slice_get, Option, Some, None, Result, Ok, Err, refl, ap, sym, ◌∙◌, subst, nat_le, length-append, arith}
use Rattle.mpc_values.specs.declared.values.Word.{Word}
use Rattle.mpc_values.specs.declared.answers.Answer.{Answer}
use Rattle.mpc_values.specs.declared.answers.Status.{Status}
use Rattle.mpc_values.specs.declared.calls.Call.{Call}
use Rattle.mpc_values.specs.declared.calls.Call.TheVariants as call
use Rattle.mpc_values.specs.declared.collectives.Coll.{Coll}
use Rattle.mpc_values.specs.declared.faults.Fault.{Fault}
use Rattle.c_tree.specs.declared.program.HlsKind.{HlsKind}
use Rattle.c_tree.specs.declared.program.Construct.{Construct}
use Rattle.memory_model.specs.declared.kinds.Span.{Span}
use Rattle.memory_model.specs.Access.{Access, Answers, Breaks}
use Rattle.mpi_request.specs.Completing.{Completion, Ends, Breaks as Faults, NotReady}
use Rattle.mpi_comm.specs.declared.communicators.View.{View}
use Rattle.mpi_comm.specs.Splitting.{Chosen}
use Rattle.mpi_comm.specs.Communicators.{comm_world, Group, size_of, living, group_at, group_in, group_of, old_group_of, view_of}
use Rattle.mpi_coll.specs.declared.arrivals.Arrival.{Arrival}
use Rattle.mpi_coll.specs.Meetings.{next_meeting, is_at, meeting_of, is_full, latest_arrival}
use Rattle.hls_sync.specs.Meetings.{Site}
use Rattle.hls_sync.specs.Ways.{way_of, may_go, may_leave_bar, running_visit, with_exit}
use Rattle.mpc_values.specs.declared.answers.Answer.TheVariants.{Done, Flag, Entered}
use Rattle.run_model.specs.Setup.{Setup, tasks_of}
use Rattle.run_model.specs.World.{Core, World}
use Rattle.run_model.specs.Outcomes.{Outcome, Does, Fails, Waits, Partly, Gave, Broke, on_part, inside_mpi, in_found, in_group}
use Rattle.run_model.specs.MemoryCalls as memory
use Rattle.run_model.specs.TaskCalls as task'
use Rattle.run_model.specs.Completing as completing
use Rattle.run_model.specs.Probing as probing
use Rattle.run_model.specs.Collectives as collectives
use Rattle.run_model.specs.Sharing as sharing
use Rattle.run_model.specs.Posting.{offered, post}
use Rattle.run_model.specs.Act.{act}
use Rattle.run_model.specs.declared.offers.Asked.{Asked}
use Rattle.run_model.specs.declared.offers.Asked.TheVariants.{Refused, Nobody, Posts}
use Rattle.mpi_comm.specs.declared.communicators.Communicator.{Communicator}
use Rattle.mpc_values.specs.declared.values.Word.TheVariants.{Undef, Int, Null, Ptr, Comm, Req}
use Rattle.mpc_values.specs.declared.collectives.CollKind.{CollKind}
use Rattle.mpc_values.specs.declared.collectives.CollKind.TheVariants.{Barrier, Bcast, Reduce, Allreduce, Scan, Exscan, Gather, Allgather, Scatter, Alltoall, Dup, Split, Free}
use Rattle.mpi_coll.specs.Changes.{chosen_in, comms_after}
use Rattle.std.proofs.lemmas.List.{length-map}
use Rattle.std.proofs.lemmas.List.FromFn.{length-range_with_len}
use Rattle.std.specs.List.{range_with_len}
use Rattle.mpc_values.specs.declared.faults.Fault.TheVariants.{Calls}
use Rattle.mpc_base.specs.declared.journals.Entry.{Entry}
use Rattle.std.proofs.Math.Nat.{suc-mul}
use Rattle.run_model.specs.Steps.{Makes, core_after, tried, course_of}
use Rattle.run_model.specs.Go.{go}
use Rattle.run_model.specs.Run.{Ran, run, at_start}
use Rattle.run_model.specs.Stepping.{IsStep}
use Rattle.run_model.proofs.Steps.{step_is, after_is}
use Rattle.run_model.proofs.Runs.{run_keeps}
use Rattle.run_model.proofs.CommBounds.{some_comm, FewMembers, dup_few, split_few, free_few, length_filter_map}

-- the communicators after a call, where each group has at most so many members
abbrev pub Grown : Core → Core → Type 0
Grown core after = (limit : ℕ) → 1 ≤ limit → FewMembers limit core.comms → FewMembers limit after.comms × (length after.comms ≤ length core.comms + limit)

unfoldable pub CommsGrow : Core → Outcome → Type 0
CommsGrow core (Does answer after) = Grown core after
CommsGrow core (Fails fault) = Unit {0}
CommsGrow core Waits = Unit {0}

module _ (core : Core) where
  grows_by : (answer : Answer) (after : Core) → Grown core after → CommsGrow core (Does answer after)
  unfolding CommsGrow
  grows_by answer after h = h

  pub grows_does : (answer : Answer) (after : Core) → after.comms ≡ core.comms → CommsGrow core (Does answer after)
  unfolding CommsGrow
  grows_does answer after h = λ limit one few. (subst (FewMembers limit) (sym h) few, subst (λ c. length c ≤ length core.comms + limit) (sym h) (omega arith))

  pub grows_fails : (fault : Fault) → CommsGrow core (Fails fault)
  unfolding CommsGrow
  grows_fails fault = tt

  grows_waits : CommsGrow core Waits
  unfolding CommsGrow
  grows_waits = tt

  pub grows_if : (b : Bool) (x y : Outcome) → CommsGrow core x → CommsGrow core y → CommsGrow core (if b then x else y)
  grows_if true x y h g = h
  grows_if false x y h g = g

  grows_inside : (task : ℕ) (o : Outcome) → CommsGrow core o → CommsGrow core (inside_mpi core task o)
  grows_inside task o h = search (grows_if, grows_fails, h)

  -- a member's group is one of a communicator
  abbrev IsSmall : Group → Type 0
  IsSmall group = (limit : ℕ) → FewMembers limit core.comms → length group.members ≤ limit

  grows_found : (g : Option Group) (o : Group → Outcome) → ((group : Group) → g ≡ Some group → CommsGrow core (o group)) → CommsGrow core (in_found g o)
  grows_found None o h = grows_fails _
  grows_found (Some group) o h = h group refl

  grows_group : (task : ℕ) (word : Word) (o : Group → Outcome) → ((group : Group) → CommsGrow core (o group)) → CommsGrow core (in_group core task word o)
  grows_group task word o h = grows_inside task _ (grows_found (group_of core.comms task word) o (λ group e. h group))

  same_group : (a b : Group) → Some a ≡ Some b → a ≡ b
  same_group a b h = cc

  at_small : (number : ℕ) (members : List ℕ) (rank : Option ℕ) (group : Group) → group_at number members rank ≡ Some group → members ≡ group.members
  at_small number members None group e = cc
  at_small number members (Some rank) group e = ap (λ (g : Group). g.members) (same_group _ group e)

  in_small : (task number : ℕ) (comms : List Communicator) (index : ℕ) (o : Option Communicator) → slice_get comms index ≡ o → (group : Group) → group_in task number (living o) ≡ Some group
      → (limit : ℕ) → FewMembers limit comms → length group.members ≤ limit
  in_small task number comms index None is group e limit few = absurd (never e)
    where
      never : None ≡ Some group → ⊥
      never h = cc
  in_small task number comms index (Some comm) is group e limit few = by comm.lives e
    where
      by : (b : Bool) → group_in task number (if b then Some comm else None) ≡ Some group → length group.members ≤ limit
      by true e' = subst (λ ms. length ms ≤ limit) (at_small number comm.members (position (λ member. member == task) comm.members) group e') (few index comm is)
      by false e' = cc

  group_small : (task : ℕ) (word : Word) (group : Group) → group_of core.comms task word ≡ Some group → IsSmall group
  group_small task (Comm zero) group e limit few = cc
  group_small task (Comm (suc index)) group e limit few = in_small task (suc index) core.comms index (slice_get core.comms index) refl group e limit few
  group_small task Undef group e limit few = cc
  group_small task (Int z) group e limit few = cc
  group_small task Null group e limit few = cc
  group_small task (Ptr obj at) group e limit few = cc
  group_small task (Req req) group e limit few = cc

  grows_access : (task : ℕ) (a : Access) → CommsGrow core (memory.accessed core task a)
  grows_access task (Answers answer o) = grows_does answer _ refl
  grows_access task (Breaks fault) = grows_fails fault

  grows_part : {A : Type 0} (core_with : A → Core) (p : Partly A) → ((part : A) → (core_with part).comms ≡ core.comms) → CommsGrow core (on_part core_with p)
  grows_part core_with (Gave answer part) h = grows_does answer (core_with part) (h part)
  grows_part core_with (Broke fault) h = grows_fails fault

  grows_completed : (task : ℕ) (c : Completion) → CommsGrow core (completing.completed core task c)
  grows_completed task (Ends index status requests) = grows_does _ _ refl
  grows_completed task (Faults fault) = grows_fails fault
  grows_completed task NotReady = grows_waits

  grows_tested : (task : ℕ) (c : Completion) → CommsGrow core (completing.tested core task c)
  grows_tested task (Ends index status requests) = grows_does _ _ refl
  grows_tested task (Faults fault) = grows_fails fault
  grows_tested task NotReady = grows_does _ core refl

  grows_any : (task : ℕ) (c : Completion) → CommsGrow core (completing.any_completed core task c)
  grows_any task (Ends index status requests) = grows_does _ _ refl
  grows_any task (Faults fault) = grows_fails fault
  grows_any task NotReady = grows_waits

  grows_probe : (task : ℕ) (peer tag : ℤ) (found : Option Status → Outcome) (view : View) → ((status : Option Status) → CommsGrow core (found status)) → CommsGrow core (probing.probe_in core task peer tag found view)
  grows_probe task peer tag found view h = search (grows_if, grows_fails, h)

  grows_found_or : (status : Option Status) → CommsGrow core (probing.found_or_waits core status)
  grows_found_or None = grows_waits
  grows_found_or (Some status) = grows_does _ core refl

  meeting_few : (arrivals : List Arrival) (comm size meeting : ℕ) → length (meeting_of arrivals comm size meeting) ≤ size
  meeting_few arrivals comm size meeting = omega (arith, length_filter_map (λ rank. find (λ (a : Arrival). is_at comm meeting a && a.rank == rank) arrivals) (range_with_len 0 size), length-range_with_len 0 size)

  after_few : (what : CollKind) (comm number : ℕ) (members : List ℕ) (meeting : List Arrival) (limit : ℕ) → 1 ≤ limit → length members ≤ limit → length meeting ≤ limit → FewMembers limit core.comms
      → FewMembers limit (comms_after what core.comms comm number members meeting) × (length (comms_after what core.comms comm number members meeting) ≤ length core.comms + limit)
  after_few Dup comm number members meeting limit one small met few = dup_few limit core.comms comm number members one small few
  after_few Split comm number members meeting limit one small met few = split_few limit core.comms comm number members (chosen_in meeting) small (omega (arith, met, length-map {B = Chosen} meeting (λ (a : Arrival). record { colour = a.coll.colour; key = a.coll.key }))) few
  after_few Free comm number members meeting limit one small met few = free_few limit core.comms comm few
  after_few Barrier comm number members meeting limit one small met few = (few, omega arith)
  after_few Bcast comm number members meeting limit one small met few = (few, omega arith)
  after_few Reduce comm number members meeting limit one small met few = (few, omega arith)
  after_few Allreduce comm number members meeting limit one small met few = (few, omega arith)
  after_few Scan comm number members meeting limit one small met few = (few, omega arith)
  after_few Exscan comm number members meeting limit one small met few = (few, omega arith)
  after_few Gather comm number members meeting limit one small met few = (few, omega arith)
  after_few Allgather comm number members meeting limit one small met few = (few, omega arith)
  after_few Scatter comm number members meeting limit one small met few = (few, omega arith)
  after_few Alltoall comm number members meeting limit one small met few = (few, omega arith)

  abbrev turn : Group → ℕ
  turn group = next_meeting core.arrivals group.comm group.rank

  abbrev arrivals_with : Group → Coll → List Word → List Arrival
  arrivals_with group coll words = core.arrivals ++ record { comm = group.comm; rank = group.rank; meeting = turn group; coll = coll; given = words; left = false } ∷ []

  abbrev met : Group → Coll → List Word → List Arrival
  met group coll words = meeting_of (arrivals_with group coll words) group.comm (size_of group) (turn group)

  arrived_grown : (group : Group) (coll : Coll) (words : List Word) → IsSmall group → Grown core (collectives.arrived core group coll words)
  arrived_grown group coll words small limit one few =
      by (is_full (arrivals_with group coll words) group.comm (size_of group) (turn group)) (comms_after coll.what core.comms group.comm (turn group) group.members (met group coll words))
      (after_few coll.what group.comm (turn group) group.members (met group coll words) limit one (small limit few)
      (omega (arith, small limit few, meeting_few (arrivals_with group coll words) group.comm (size_of group) (turn group))) few)
    where
      by : (b : Bool) (x : List Communicator) → FewMembers limit x × (length x ≤ length core.comms + limit) → FewMembers limit (if b then x else core.comms) × (length (if b then x else core.comms) ≤ length core.comms + limit)
      by true x h = h
      by false x h = (few, omega arith)

  grows_into : (group : Group) (coll : Coll) (words : List Word) (into : Result (Option Span) Fault) → IsSmall group → CommsGrow core (collectives.arrive_into core group coll words into)
  grows_into group coll words (Err fault) small = grows_fails fault
  grows_into group coll words (Ok into) small = grows_by _ _ (arrived_grown group coll words small)

  grows_with : (setup : Setup) (task : ℕ) (group : Group) (coll : Coll) (from : Result (Option Span) Fault) → IsSmall group → CommsGrow core (collectives.arrive_with setup core task group coll from)
  grows_with setup task group coll (Err fault) small = grows_fails fault
  grows_with setup task group coll (Ok from) small = grows_if _ _ _ (grows_fails _) (grows_into group coll _ _ small)

  grows_arrive : (setup : Setup) (task : ℕ) (coll : Coll) (group : Group) → IsSmall group → CommsGrow core (collectives.arrive_in setup core task coll group)
  grows_arrive setup task coll group small =
      let on : (from : Result (Option Span) Fault) → CommsGrow core (collectives.arrive_with setup core task group coll from) = λ from. grows_with setup task group coll from small in
      search (grows_if, grows_fails, on)

  grows_leave_with : (task : ℕ) (group : Group) (a : Arrival) (places : Option Span) (words : List Word) → CommsGrow core (collectives.leave_with core task group a places words)
  grows_leave_with task group a places words = grows_if (collectives.is_pending core places) _ _ (grows_fails _) (grows_does _ _ refl)

  grows_leave_at : (setup : Setup) (task : ℕ) (group : Group) (a : Option Arrival) → CommsGrow core (collectives.leave_at setup core task group a)
  grows_leave_at setup task group None = grows_does _ core refl
  grows_leave_at setup task group (Some a) = grows_if a.left _ _ (grows_does _ core refl) (grows_if _ _ _ (grows_leave_with task group a _ _) grows_waits)

  grows_leave : (setup : Setup) (task : ℕ) (group : Option Group) → CommsGrow core (collectives.leave_in setup core task group)
  grows_leave setup task None = grows_does _ core refl
  grows_leave setup task (Some group) = grows_leave_at setup task group (latest_arrival core.arrivals group.comm group.rank)

  grows_site : (setup : Setup) (fits : HlsKind → Bool) (number : ℕ) (o : Site → Outcome) (c : Option Construct) → ((site : Site) → CommsGrow core (o site)) → CommsGrow core (sharing.at_construct setup core fits number o c)
  grows_site setup fits number o None h = grows_does _ core refl
  grows_site setup fits number o (Some c) h = grows_if (fits c.kind) _ _ (h (sharing.site_of setup number c)) (grows_does _ core refl)

  grows_goes : (b : Bool) → CommsGrow core (sharing.done_or_waits core b)
  grows_goes true = grows_does _ core refl
  grows_goes false = grows_waits

offered_grows : (core : Core) (task : ℕ) (send : Bool) (a : Asked) → CommsGrow core (offered core task send a)
offered_grows core task send (Refused fault) = grows_fails core fault
offered_grows core task send Nobody = grows_does core _ _ refl
offered_grows core task send (Posts p mine) = grows_does core _ _ refl

pub grows_act : (setup : Setup) (core : Core) (task : ℕ) (c : Call) → CommsGrow core (act setup core task c)
unfolding act post memory.load memory.store memory.new memory.drop memory.malloc memory.free task'.print task'.finish task'.init task'.finalize task'.abort task'.rank task'.size completing.complete completing.test completing.any probing.probe probing.iprobe collectives.arrive collectives.leave sharing.enter sharing.await sharing.exit sharing.bar sharing.barwait
grows_act setup core task (call.Load at) = grows_access core task _
grows_act setup core task (call.Store at word) = grows_access core task _
grows_act setup core task (call.New len) = grows_access core task _
grows_act setup core task (call.Drop obj) = grows_access core task _
grows_act setup core task (call.Malloc n) = grows_access core task _
grows_act setup core task (call.Free at) = grows_access core task _
grows_act setup core task (call.Print text) = grows_part core _ _ (λ output. refl)
grows_act setup core task (call.Broke fault) = grows_fails core fault
grows_act setup core task (call.Finish code) = grows_if core _ _ _ (grows_fails core _) (grows_does core _ core refl)
grows_act setup core task call.Init = grows_part core _ _ (λ phase. refl)
grows_act setup core task call.Finalize = grows_inside core task _ (grows_if core _ _ _ (grows_fails core _) (grows_does core _ _ refl))
grows_act setup core task (call.Abort comm code) = grows_group core task comm _ (λ group. grows_does core _ core refl)
grows_act setup core task (call.Rank comm) = grows_group core task comm _ (λ group. grows_does core _ core refl)
grows_act setup core task (call.Size comm) = grows_group core task comm _ (λ group. grows_does core _ core refl)
grows_act setup core task (call.Send at count kind peer tag comm sync) = offered_grows core task true _
grows_act setup core task (call.Recv at count kind peer tag comm) = offered_grows core task false _
grows_act setup core task (call.Complete req) = grows_inside core task _ (grows_completed core task _)
grows_act setup core task (call.Test req) = grows_inside core task _ (grows_tested core task _)
grows_act setup core task (call.AnyOf reqs) = grows_inside core task _ (grows_any core task _)
grows_act setup core task (call.Probe peer tag comm) = grows_group core task comm _ (λ group. grows_probe core task peer tag _ (view_of group) (grows_found_or core))
grows_act setup core task (call.Iprobe peer tag comm) = grows_group core task comm _ (λ group. grows_probe core task peer tag _ (view_of group) (λ status. grows_does core (Flag status) core refl))
grows_act setup core task (call.Arrive coll) = grows_inside core task _ (grows_found core (group_of core.comms task coll.comm) _ (λ group e. grows_arrive core setup task coll group (group_small core task coll.comm group e)))
grows_act setup core task (call.Leave comm) = grows_leave core setup task (old_group_of core.comms task comm)
grows_act setup core task (call.HlsEnter construct) = grows_site core setup sharing.is_single construct _ (sharing.construct_of setup construct) (λ site. grows_does core (Entered (way_of site core.visits task)) (sharing.visiting core task construct) refl)
grows_act setup core task (call.HlsWait construct) = grows_site core setup sharing.is_waiting_single construct _ (sharing.construct_of setup construct) (λ site. grows_goes core (may_go site core.visits core.exits task))
grows_act setup core task (call.HlsExit construct) = grows_site core setup sharing.is_single construct _ (sharing.construct_of setup construct) (λ site. grows_does core Done (record core { exits = with_exit core.exits (running_visit site core.visits core.exits task) }) refl)
grows_act setup core task (call.HlsBar construct) = grows_site core setup sharing.is_barrier construct _ (sharing.construct_of setup construct) (λ site. grows_does core Done (sharing.visiting core task construct) refl)
grows_act setup core task (call.HlsBarWait construct) = grows_site core setup sharing.is_barrier construct _ (sharing.construct_of setup construct) (λ site. grows_goes core (may_leave_bar site core.visits task))

grown_after : (core : Core) (o : Outcome) → CommsGrow core o → Grown core (core_after core o)
unfolding CommsGrow
grown_after core (Does answer after) h = h
grown_after core (Fails fault) h = λ limit one few. (few, omega arith)
grown_after core Waits h = λ limit one few. (few, omega arith)

-- what a step makes of the communicators
module _ {setup : Setup} {w : World} {task : ℕ} {entry : Entry} {after : World} (s : IsStep setup w task entry after) where
  step_grown : Grown w.core after.core
  step_grown =
      subst (λ (x : World). Grown w.core x.core) (after_is s)
      (grown_after w.core (tried setup w task s.call)
      (grows_if w.core (nat_le setup.calls (course_of w.log task).entries) (Fails Calls) (act setup w.core task s.call) (grows_fails w.core Calls) (grows_act setup w.core task s.call)))

-- the communicators of a run
pub record FewComms (setup : Setup) (r : Ran) : Type 0 where
  pub members : FewMembers (tasks_of setup) r.world.core.comms
  pub count : length r.world.core.comms ≤ length r.entries * tasks_of setup + 1

few_start : (setup : Setup) → FewComms setup (at_start setup)
few_start setup = record { members = only; count = omega arith }
  where
    only : FewMembers (tasks_of setup) (comm_world (tasks_of setup) ∷ [])
    only zero comm e =
        let size : length (range_with_len 0 (tasks_of setup)) ≡ length comm.members = ap (λ (c : Communicator). length c.members) (some_comm (comm_world (tasks_of setup)) comm e) in
        omega (arith, size, length-range_with_len 0 (tasks_of setup))
    only (suc index) comm e = absurd (never e)
      where
        never : None ≡ Some comm → ⊥
        never e' = cc

pub few_comms : (setup : Setup) → 1 ≤ tasks_of setup → (order : List ℕ) → FewComms setup (run setup order)
few_comms setup one order = run_keeps setup (FewComms setup) (few_start setup) step order
  where
    step : (r : Ran) (task : ℕ) (entry : Entry) (after : World) → FewComms setup r → go setup r.world task ≡ Makes entry after → FewComms setup (record { entries = r.entries ++ entry ∷ []; world = after })
    step r task entry after h went =
        let grown = step_grown (step_is setup r.world task entry after went) (tasks_of setup) one h.members in
        let longer : length (r.entries ++ entry ∷ []) ≡ suc (length r.entries) = length-append r.entries (entry ∷ []) ∙ omega arith in
        let product : length (r.entries ++ entry ∷ []) * tasks_of setup ≡ length r.entries * tasks_of setup + tasks_of setup = ap (λ n. n * tasks_of setup) longer ∙ suc-mul (length r.entries) (tasks_of setup) in
        record { members = grown.0; count = omega (arith, grown.1, h.count, product) }
