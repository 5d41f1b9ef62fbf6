-- A visit keeps the run.
use Rattle.std.proofs.Common.{◌≡◌, ◌<◌, ◌≤◌, ◌-◌, ◌^◌, ◌||◌, ◌&&◌, inl, inr, not, ℕ, suc, Bool, true, false, List, [], ◌∷◌, ◌++◌, if◌then◌else◌, length, slice_get, slice_index, All, Option, Some, None, IfSome, refl, sym, ap, subst, ◌∙◌, arith}
use Rattle.std.specs.Option.{is_some, unwrap_or}
use Rattle.std.proofs.lemmas.Option.{slice_get_within, get_or_from_slice_get}
use Rattle.mpc_values.specs.declared.calls.Call.{Call}
use Rattle.mpc_base.specs.declared.journals.Out.{Out}
use Rattle.mpc_base.specs.declared.journals.Entry.{Entry}
use Rattle.mpc_base.specs.declared.journals.End.{End}
use Rattle.mpc_base.specs.declared.journals.End.TheVariants as end
use Rattle.c_tree.specs.Asking.{Asks}
use Rattle.c_tree.specs.Next.{next_of}
use Rattle.run_model.specs.declared.progress.Course.{Course}
use Rattle.run_model.specs.Setup.{Setup, tasks_of}
use Rattle.run_model.specs.World.{TaskState, Core, World}
use Rattle.run_model.specs.Steps.{Step, Stays, Makes, visited, answers_of, entry_of}
use Rattle.run_model.specs.Go.{go, go_with, may_go, has_finished, is_blocked}
use Rattle.run_model.specs.Choice.{can_go}
use Rattle.run_model.specs.Ending.{ending}
use Rattle.run_model.specs.Run.{order_of, world_of}
use Rattle.run_model.proofs.Runs.{world_of-push, entries-push}
use Rattle.run_model.proofs.Ended.{ended_runs_stay}
use Rattle.run_model.proofs.Bounds.{bounded}
use Rattle.node_core.specs.declared.parts.TaskPart.{TaskPart}
use Rattle.node_core.specs.declared.parts.Shared.{Shared}
use Rattle.node_core.specs.declared.parts.State.{State}
use Rattle.block_table.specs.Rows.{Rows, is_send, is_receive}
use Rattle.memory_model.specs.Marks.{Marks}
use Rattle.object_heap.specs.Objects.{key_named}
use Rattle.object_heap.specs.Marks.{mark_where}
use Rattle.mem_space.specs.Spaces.{Space}
use Rattle.mem_space.specs.Places.{IsAsBefore}
use Rattle.node_core.specs.Built.{SameShared}
use Rattle.node_core.specs.Each.{Each}
use Rattle.node_core.specs.Stands.{PartStands, SpaceStands, IsSpaceOf, SharedStands, Stands, course_in, courses_in}
use Rattle.node_core.specs.Steps.{SamePart, SameState, Stepped, NotedFits, AllFit}
use Rattle.node_core.specs.Held.{is_going, IsStop}
use Rattle.node_core.specs.declared.node.Reply.TheVariants.{NotYet, Stop}
use Rattle.node_core.specs.IsRun.{IsRun, StopsGoing}
use Rattle.node_core.specs.Visits.{made, made_by, reply_of, reply_in, reply_to}
use Rattle.node_core.proofs.Places.{get_there, get_map, length_map}
use Rattle.node_core.proofs.AskingRuns.{makes_when_going}

-- what the task asks, where it may go and where not
go_is : (setup : Setup) (w : World) (task : ℕ) (call : Call) (line : ℕ) → next_of setup.program (answers_of w task) ≡ Asks call line → (b : Bool) → b ≡ may_go setup w task (slice_get w.log.courses task)
    → go setup w task ≡ (if b then visited setup w task call line else Stays)
unfolding go go_with
go_is setup w task call line asks b may = ap (go_with setup w task) asks ∙ ap (λ b'. if b' then visited setup w task call line else Stays) (sym may)

each_then : (xs : List TaskState) (ys zs : List TaskPart) → Each PartStands xs ys → Each SamePart ys zs → Each PartStands xs zs
each_then xs ys zs e f = record {
  same = e.same ∙ f.same;
  at = λ i x z here there.
      let within : i < length zs = slice_get_within zs i z there in
      let less : i < length ys = let long = f.same in omega arith in
      let (y, at) = get_there ys i less in
      let r = e.at i x y here at in
      let q = f.at i y z at there in
      record { output = r.output ∙ sym q.own.output; phase = r.phase ∙ sym q.own.phase };
}

rows_marks : Rows → Marks
rows_marks rows = record {
  sent = λ owner obj p. is_send (mark_where rows (key_named rows owner obj) p);
  received = λ owner obj p. is_receive (mark_where rows (key_named rows owner obj) p);
}

space_same : (core : Core) (old new : Space) → SpaceStands core old → IsAsBefore old new → SpaceStands core new
unfolding rows_marks
space_same core old new stands same = record {
  memory = λ owner obj. stands.memory owner obj ∙ sym (same.objects owner obj);
  made = λ i state at. stands.made i state at ∙ ap (λ ms. slice_index ms i) (sym same.made);
  marks = stands.marks ∙ ap rows_marks (sym same.places.rows);
}

shared_same : (core : Core) (old new : Shared) → SharedStands core old → SameShared old new → SharedStands core new
shared_same core old new stands same = record {
  space = space_same core old.space new.space stands.space same.space;
  met = record { comms = stands.met.comms ∙ sym same.comms; requests = stands.met.requests; postings = stands.met.postings; carried = stands.met.carried; arrivals = stands.met.arrivals };
  visits = stands.visits;
  exits = stands.exits;
}

courses_same : (ys zs : List TaskPart) → Each SamePart ys zs → courses_in ys ≡ courses_in zs
courses_same [] [] e = refl
courses_same [] (z ∷ zs) e = absurd (let long = e.same in omega arith)
courses_same (y ∷ ys) [] e = absurd (let long = e.same in omega arith)
courses_same (y ∷ ys) (z ∷ zs) e =
    ap (λ c. c ∷ courses_in ys) (sym (e.at 0 y z refl refl).course)
    ∙ ap (λ cs. z.course ∷ cs) (courses_same ys zs (record { same = let long = e.same in omega arith; at = λ i a b here there. e.at (suc i) a b here there }))

-- a state that looks the same stands for the same world
pub stands_same : (w : World) (s s' : State) → Stands w s → SameState s s' → Stands w s'
stands_same w s s' stands same = record {
  core = record { tasks = each_then w.core.tasks s.tasks.items s'.tasks.items stands.core.tasks same.tasks; all = shared_same w.core s.shared s'.shared stands.core.all same.shared };
  courses = stands.courses ∙ courses_same s.tasks.items s'.tasks.items same.tasks;
  last = stands.last ∙ sym same.last;
}

fits_same : (ys zs : List TaskPart) → Each SamePart ys zs → AllFit ys → AllFit zs
fits_same ys zs e fits i z there =
    let within : i < length zs = slice_get_within zs i z there in
    let less : i < length ys = let long = e.same in omega arith in
    let (y, at) = get_there ys i less in
    subst (λ (c : Course). NotedFits c.noted) (sym (e.at i y z at there).course) (fits i y at)

all_at : {X : Type 0} (P : X → Type 0) (xs : List X) (i : ℕ) (x : X) → All P xs → slice_get xs i ≡ Some x → P x
all_at P xs i x h at = subst P (get_or_from_slice_get xs i x x at) (h i x (slice_get_within xs i x at))

none_ended : {X : Type 0} (last : Option X) (b : Bool) → true ≡ not (is_some last || b) → last ≡ None
none_ended None b h = refl
none_ended (Some x) b h = absurd (cc h)

course_there : (setup : Setup) (w : World) (task : ℕ) (c : Option Course) → true ≡ may_go setup w task c → w.log.last ≡ None
course_there setup w task None h = absurd (cc h)
course_there setup w task (Some course) h = none_ended w.log.last (has_finished course || is_blocked setup w task course) h

-- a node whose run goes on was not stopped
not_stopped : (stop : Option End) (e end' : End) → StopsGoing stop end' → is_going (unwrap_or stop e) ≡ true → stop ≡ None
not_stopped None e end' h goes = refl
not_stopped (Some stop) e end' h goes =
    elim h.0 [
      | inl thread ↦ let twice : true ≡ false = sym goes ∙ ap is_going thread in absurd (cc twice)
      | inr memory ↦ let twice : true ≡ false = sym goes ∙ ap is_going memory in absurd (cc twice)
    ]

-- how a node is: by its own end, where it was not stopped
pub how_is : (setup : Setup) (entries : List Entry) (s : State) (e : End) (stop : Option End) → IsRun setup entries s e stop → unwrap_or stop e ≡ unwrap_or stop (ending setup (world_of setup entries))
how_is setup entries s e stop is = ap (unwrap_or stop) is.ended

module _ (setup : Setup) (entries : List Entry) (s s' : State) (end' : End) (stop : Option End) (is : IsRun setup entries s end' stop) where
  pub keeps_same : SameState s s' → IsRun setup entries s' end' stop
  keeps_same same = record {
    valid = is.valid;
    legal = is.legal;
    stands = stands_same (world_of setup entries) s s' is.stands same;
    set = record { sharing = same.shared.space.sharing ∙ is.set.sharing; quota = same.shared.space.quota ∙ is.set.quota };
    noted = fits_same s.tasks.items s'.tasks.items same.tasks is.noted;
    ended = is.ended;
    stopped = is.stopped;
  }

  -- a task that may go has fewer entries than there are numbers
  pub room_is : (task : ℕ) → true ≡ may_go setup (world_of setup entries) task (slice_get (world_of setup entries).log.courses task)
      → IfSome (slice_get s.tasks.items task) (λ part. part.course.entries < 2 ^ 32 - 1)
  room_is task may = by (slice_get s.tasks.items task) refl
    where
      few : All (λ (course : Course). course.entries ≤ setup.calls) (world_of setup entries).log.courses
      few = (bounded setup (order_of entries)).few (course_there setup (world_of setup entries) task (slice_get (world_of setup entries).log.courses task) may)

      by : (o : Option TaskPart) → slice_get s.tasks.items task ≡ o → IfSome o (λ part. part.course.entries < 2 ^ 32 - 1)
      by None at = tt
      by (Some part) at =
          let here : slice_get (world_of setup entries).log.courses task ≡ Some part.course = ap (λ cs. slice_get cs task) is.stands.courses ∙ get_map course_in s.tasks.items task part at in
          let most : part.course.entries ≤ setup.calls = all_at (λ (course : Course). course.entries ≤ setup.calls) (world_of setup entries).log.courses task part.course few here in
          let limit : setup.calls ≤ 16000000 = is.valid.few_calls in
          omega (arith, most, limit)

  -- where the run has ended, or the node was stopped, a visit makes nothing, and answers Stop
  pub ended_entries : (task : ℕ) → is_going (unwrap_or stop end') ≡ false → entries ≡ made_by stop entries (go setup (world_of setup entries) task)
  ended_entries task over = by stop (ap is_going (sym (how_is setup entries s end' stop is)) ∙ over)
    where
      by : (o : Option End) → is_going (unwrap_or o (ending setup (world_of setup entries))) ≡ false → entries ≡ made_by o entries (go setup (world_of setup entries) task)
      by None off =
          sym (ap (made entries) (ended_runs_stay setup (world_of setup entries) task (λ goes. let twice : true ≡ false = sym (ap is_going goes) ∙ off in cc)))
      by (Some e) off = refl

  pub ended_reply : (task : ℕ) → is_going (unwrap_or stop end') ≡ false
      → Stop ≡ reply_in (is_going (unwrap_or stop (ending setup (world_of setup entries)))) (go setup (world_of setup entries) task)
  ended_reply task over = ap (λ b. reply_in b (go setup (world_of setup entries) task)) (sym (ap is_going (sym (how_is setup entries s end' stop is)) ∙ over))

  module _ (task : ℕ) (call : Call) (line : ℕ) (asks : next_of setup.program (answers_of (world_of setup entries) task) ≡ Asks call line)
      (goes : is_going (unwrap_or stop end') ≡ true) where
    none : stop ≡ None
    none = not_stopped stop end' end' is.stopped goes

    makes_so : (step : Step) → made entries step ≡ made_by stop entries step
    makes_so step = ap (λ o. made_by o entries step) (sym none)

    replies_so : (step : Step) → reply_of step ≡ reply_in (is_going (unwrap_or stop (ending setup (world_of setup entries)))) step
    replies_so step = ap (λ b. reply_in b step) (sym (ap is_going (sym (how_is setup entries s end' stop is)) ∙ goes))

    module _ (may : false ≡ may_go setup (world_of setup entries) task (slice_get (world_of setup entries).log.courses task)) where
      stays : go setup (world_of setup entries) task ≡ Stays
      stays = go_is setup (world_of setup entries) task call line asks false may

      pub held_entries : entries ≡ made_by stop entries (go setup (world_of setup entries) task)
      held_entries = sym (ap (made entries) stays) ∙ makes_so (go setup (world_of setup entries) task)

      pub held_reply : NotYet ≡ reply_in (is_going (unwrap_or stop (ending setup (world_of setup entries)))) (go setup (world_of setup entries) task)
      held_reply = sym (ap reply_of stays) ∙ replies_so (go setup (world_of setup entries) task)

    module _ (out : Out) (may : true ≡ may_go setup (world_of setup entries) task (slice_get (world_of setup entries).log.courses task)) (stepped : Stepped setup (world_of setup entries) task call line out s')
        (pushed : List Entry) (pushed_is : pushed ≡ entries ++ entry_of task call line out ∷ []) where
      went : go setup (world_of setup entries) task ≡ Makes (entry_of task call line out) stepped.0
      went = go_is setup (world_of setup entries) task call line asks true may ∙ stepped.1

      there : Stands (world_of setup (entries ++ entry_of task call line out ∷ [])) s'
      there = subst (λ w. Stands w s') (sym (world_of-push setup entries (entry_of task call line out) stepped.0 went)) stepped.2

      pub visit_keeps : (e : End) → ((setup : Setup) (w : World) → Stands w s' → e ≡ ending setup w) → AllFit s'.tasks.items → IsSpaceOf setup s'.shared.space → IsRun setup pushed s' e stop
      visit_keeps e ends noted set =
          subst (λ o. IsRun setup pushed s' e o) (sym none) (subst (λ es. IsRun setup es s' e None) (sym pushed_is) (record {
            valid = is.valid;
            legal = entries-push setup entries (entry_of task call line out) stepped.0 is.legal went;
            stands = there;
            set = set;
            noted = noted;
            ended = ends setup (world_of setup (entries ++ entry_of task call line out ∷ [])) there;
            stopped = tt;
          }))

      pub went_entries : pushed ≡ made_by stop entries (go setup (world_of setup entries) task)
      went_entries = pushed_is ∙ ap (made entries) (sym went) ∙ makes_so (go setup (world_of setup entries) task)

      pub went_reply : reply_to out ≡ reply_in (is_going (unwrap_or stop (ending setup (world_of setup entries)))) (go setup (world_of setup entries) task)
      went_reply = ap reply_of (sym went) ∙ replies_so (go setup (world_of setup entries) task)

-- only the end Going goes on
pub going_is : (e : End) → is_going e ≡ true → e ≡ end.Going
going_is end.Going h = refl
going_is end.Finished h = absurd (cc h)
going_is (end.Fault task fault line) h = absurd (cc h)
going_is (end.Abort task code line) h = absurd (cc h)
going_is end.Stuck h = absurd (cc h)
going_is end.NoThread h = absurd (cc h)
going_is end.NoMemory h = absurd (cc h)

-- a node that is stopped while its run goes on
pub stops : (setup : Setup) (entries : List Entry) (s : State) (e stop : End) (before : Option End) → IsRun setup entries s e before → is_going (unwrap_or before e) ≡ true → IsStop stop → IsRun setup entries s e (Some stop)
stops setup entries s e stop before is goes one =
    let none : before ≡ None = not_stopped before e e is.stopped goes in
    record {
      valid = is.valid;
      legal = is.legal;
      stands = is.stands;
      set = is.set;
      noted = is.noted;
      ended = is.ended;
      stopped = (one, going_is e (ap (λ o. is_going (unwrap_or o e)) (sym none) ∙ goes));
    }

-- what a node was stopped with, after it is stopped, or not
pub stops_so : (setup : Setup) (entries : List Entry) (s : State) (e stop : End) (before : Option End) → IsRun setup entries s e before → is_going (unwrap_or before e) ≡ true
    → Some stop ≡ (if is_going (unwrap_or before (ending setup (world_of setup entries))) then Some stop else before)
stops_so setup entries s e stop before is goes = ap (λ b. if b then Some stop else before) (sym (ap is_going (sym (how_is setup entries s e before is)) ∙ goes))

pub stays_so : (setup : Setup) (entries : List Entry) (s : State) (e stop : End) (before : Option End) → IsRun setup entries s e before → is_going (unwrap_or before e) ≡ false
    → before ≡ (if is_going (unwrap_or before (ending setup (world_of setup entries))) then Some stop else before)
stays_so setup entries s e stop before is off = ap (λ b. if b then Some stop else before) (sym (ap is_going (sym (how_is setup entries s e before is)) ∙ off))

-- a task of a node that was not stopped can go where it may
pub can_go_is : (setup : Setup) (entries : List Entry) (s : State) (e : End) (stop : Option End) (task : ℕ) (b : Bool) → IsRun setup entries s e stop → is_some stop ≡ false
    → b ≡ may_go setup (world_of setup entries) task (slice_get (world_of setup entries).log.courses task) → b ≡ (not (is_some stop) && can_go setup (world_of setup entries) task)
can_go_is setup entries s e stop task b is none may =
    sym (makes_when_going setup is.valid (order_of entries) task b (sym may)) ∙ ap (λ x. not x && can_go setup (world_of setup entries) task) (sym none)

pub cannot_go : (setup : Setup) (entries : List Entry) (stop : Option End) (task : ℕ) → is_some stop ≡ true → false ≡ (not (is_some stop) && can_go setup (world_of setup entries) task)
cannot_go setup entries stop task some = ap (λ x. not x && can_go setup (world_of setup entries) task) (sym some)

-- a task that has a part is one of the setup's
pub there_is : (setup : Setup) (entries : List Entry) (s : State) (e : End) (stop : Option End) → IsRun setup entries s e stop → (task : ℕ) → task < length s.tasks.items → task < tasks_of setup
there_is setup entries s e stop is task less =
    let long : length (courses_in s.tasks.items) ≡ length s.tasks.items = length_map course_in s.tasks.items in
    let all : length (world_of setup entries).log.courses ≡ tasks_of setup = (bounded setup (order_of entries)).courses in
    let same : length (world_of setup entries).log.courses ≡ length (courses_in s.tasks.items) = ap length is.stands.courses in
    omega (arith, less, long, all, same)

pub few_parts : (setup : Setup) (entries : List Entry) (s : State) (e : End) (stop : Option End) → IsRun setup entries s e stop → length s.tasks.items < 2 ^ 32
few_parts setup entries s e stop is =
    let long : length (courses_in s.tasks.items) ≡ length s.tasks.items = length_map course_in s.tasks.items in
    let all : length (world_of setup entries).log.courses ≡ tasks_of setup = (bounded setup (order_of entries)).courses in
    let same : length (world_of setup entries).log.courses ≡ length (courses_in s.tasks.items) = ap length is.stands.courses in
    let few : tasks_of setup ≤ 64 = is.valid.few_tasks in
    omega (arith, long, all, same, few)
