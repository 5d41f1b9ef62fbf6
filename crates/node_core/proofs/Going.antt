-- How a run is after an entry.
use Rattle.std.proofs.Common.{◌≡◌, ◌+◌, ◌||◌, ◌&&◌, not, ℕ, zero, suc, ◌≤◌, length, drop, arith, add-one, Bool, true, false, if◌then◌else◌, List, [], ◌∷◌, slice_get, Option, Some, None, refl, sym, ap, ◌∙◌}
use Rattle.std.specs.List.{list_all, enumerate_from}
use Rattle.std.specs.Option.{is_some, option_map}
use Rattle.std.proofs.lemmas.Option.{slice_get-map}
use Rattle.mpc_values.specs.declared.calls.Call.{Call}
use Rattle.mpc_values.specs.declared.calls.Call.TheVariants as call
use Rattle.mpc_base.specs.declared.journals.End.TheVariants as end
use Rattle.run_model.specs.declared.progress.Ask.{Ask}
use Rattle.run_model.specs.declared.progress.Course.{Course}
use Rattle.run_model.specs.Setup.{Setup}
use Rattle.run_model.specs.World.{World}
use Rattle.run_model.specs.Go.{has_finished, is_blocked, is_held, may_go}
use Rattle.run_model.specs.Ending.{ending, end_in, is_over_or_blocked}
use Rattle.node_core.specs.declared.parts.TaskPart.{TaskPart}
use Rattle.node_core.specs.declared.parts.State.{State}
use Rattle.node_core.specs.Stands.{Stands, course_in, courses_in}
use Rattle.node_core.specs.Built.{is_built, is_waiting}
use Rattle.node_core.specs.Steps.{NotedFits}
use Rattle.node_core.proofs.Places.{get_map}

and_false : (a b : Bool) → b ≡ false → (a && b) ≡ false
and_false true b h = h
and_false false b h = refl

-- the course goes on: its main has not ended, and it does not wait
pub record GoesOn (course : Course) : Type 0 where
  pub exit : course.exit ≡ None
  pub noted : course.noted ≡ None

unfinished : (courses : List Course) (i : ℕ) (course : Course) → slice_get courses i ≡ Some course → course.exit ≡ None → list_all has_finished courses ≡ false
unfinished [] i course at none = absurd (cc at)
unfinished (x ∷ courses) zero course at none =
    let same : x ≡ course = cc in
    let goes : has_finished x ≡ false = ap has_finished same ∙ ap (λ o. has_finished (record course { exit = o })) none in
    ap (λ b. b && list_all has_finished courses) goes
unfinished (x ∷ courses) (suc i) course at none = and_false (has_finished x) (list_all has_finished courses) (unfinished courses i course at none)

some_goes : (setup : Setup) (w : World) (n : ℕ) (courses : List Course) (i : ℕ) (course : Course) → slice_get courses i ≡ Some course → GoesOn course
    → list_all (is_over_or_blocked setup w) (enumerate_from n courses) ≡ false
some_goes setup w n [] i course at goes = absurd (cc at)
some_goes setup w n (x ∷ courses) zero course at goes =
    let same : x ≡ course = cc in
    let free : is_over_or_blocked setup w (n, x) ≡ false =
    ap (λ y. is_over_or_blocked setup w (n, y)) same ∙ ap (λ o. has_finished (record course { exit = o }) || is_blocked setup w n course) goes.exit ∙ ap (is_held setup w n) goes.noted in
    ap (λ b. b && list_all (is_over_or_blocked setup w) (enumerate_from (n + 1) courses)) free
some_goes setup w n (x ∷ courses) (suc i) course at goes =
    and_false (is_over_or_blocked setup w (n, x)) (list_all (is_over_or_blocked setup w) (enumerate_from (n + 1) courses)) (some_goes setup w (n + 1) courses i course at goes)

-- where a task goes on, and no fault or abort has ended the run, the run goes on
pub going : (setup : Setup) (w : World) (i : ℕ) (course : Course) → w.log.last ≡ None → slice_get w.log.courses i ≡ Some course → GoesOn course → ending setup w ≡ end.Going
unfolding ending
going setup w i course last at goes =
    ap (end_in setup w) last
    ∙ ap (λ b. if b then end.Finished else if list_all (is_over_or_blocked setup w) (enumerate_from 0 w.log.courses) then end.Stuck else end.Going) (unfinished w.log.courses i course at goes.exit)
    ∙ ap (λ b. if b then end.Stuck else end.Going) (some_goes setup w 0 w.log.courses i course at goes)

-- a task's course is that of its part
courses_at : (w : World) (s : State) (task : ℕ) → Stands w s → slice_get w.log.courses task ≡ option_map course_in (slice_get s.tasks.items task)
courses_at w s task stands = ap (λ cs. slice_get cs task) stands.courses ∙ slice_get-map course_in s.tasks.items task

none_of : {X : Type 0} (o : Option X) → is_some o ≡ false → o ≡ None
none_of None h = refl
none_of (Some x) h = absurd (cc h)

-- the same in a state that stands for the world
pub going_in : (setup : Setup) (w : World) (s : State) (parts : List TaskPart) (i : ℕ) (part : TaskPart) → Stands w s → parts ≡ s.tasks.items → Some part ≡ slice_get parts i
    → is_some s.last ≡ false → is_some part.course.exit ≡ false → is_some part.course.noted ≡ false → end.Going ≡ ending setup w
going_in setup w s parts i part stands are at last exit noted =
    sym (going setup w i part.course (stands.last ∙ none_of s.last last)
    (ap (λ cs. slice_get cs i) (stands.courses ∙ ap courses_in (sym are)) ∙ get_map course_in parts i part (sym at))
    (record { exit = none_of part.course.exit exit; noted = none_of part.course.noted noted }))

-- where something has ended the run, no task may go
pub may_ended : (setup : Setup) (w : World) (s : State) (task : ℕ) → Stands w s → is_some s.last ≡ true → false ≡ may_go setup w task (slice_get w.log.courses task)
may_ended setup w s task stands last = by (slice_get w.log.courses task)
  where
    by : (c : Option Course) → false ≡ may_go setup w task c
    by None = refl
    by (Some course) = sym (ap (λ b. not (b || (has_finished course || is_blocked setup w task course))) (ap is_some stands.last ∙ last))

-- a task that is not there may not go
pub may_absent : (setup : Setup) (w : World) (s : State) (task : ℕ) → Stands w s → slice_get s.tasks.items task ≡ None → false ≡ may_go setup w task (slice_get w.log.courses task)
may_absent setup w s task stands at = sym (ap (may_go setup w task) (courses_at w s task stands ∙ ap (option_map course_in) at))

-- else a task may go that is neither over nor blocked
pub may_there : (setup : Setup) (w : World) (s : State) (task : ℕ) (part : TaskPart) (b : Bool) → Stands w s → is_some s.last ≡ false → slice_get s.tasks.items task ≡ Some part
    → b ≡ is_over_or_blocked setup w (task, part.course) → not b ≡ may_go setup w task (slice_get w.log.courses task)
may_there setup w s task part b stands last at is =
    ap not is ∙ sym (ap (may_go setup w task) (courses_at w s task stands ∙ ap (option_map course_in) at)
    ∙ ap (λ l. not (is_some l || is_over_or_blocked setup w (task, part.course))) (stands.last ∙ none_of s.last last))

-- no call that is built waits
pub none_waits : (noted : Option Ask) → NotedFits noted → noted ≡ None
none_waits None fits = refl
none_waits (Some ask) fits = absurd (built_goes ask.call fits.0 fits.1)
  where
    built_goes : (call : Call) → is_waiting call ≡ true → is_built call ≡ true → ⊥
    built_goes (call.Complete req) waits built = cc
    built_goes (call.AnyOf reqs) waits built = cc
    built_goes (call.Probe peer tag comm) waits built = cc
    built_goes (call.Leave comm) waits built = cc
    built_goes (call.HlsWait construct) waits built = cc
    built_goes (call.HlsBarWait construct) waits built = cc
    built_goes (call.Load at) waits built = cc
    built_goes (call.Store at word) waits built = cc
    built_goes (call.New len) waits built = cc
    built_goes (call.Drop obj) waits built = cc
    built_goes (call.Malloc n) waits built = cc
    built_goes (call.Free at) waits built = cc
    built_goes (call.Print text) waits built = cc
    built_goes (call.Broke fault) waits built = cc
    built_goes (call.Finish code) waits built = cc
    built_goes call.Init waits built = cc
    built_goes call.Finalize waits built = cc
    built_goes (call.Abort comm code) waits built = cc
    built_goes (call.Rank comm) waits built = cc
    built_goes (call.Size comm) waits built = cc
    built_goes (call.Send at count kind peer tag comm sync) waits built = cc
    built_goes (call.Recv at count kind peer tag comm) waits built = cc
    built_goes (call.Test req) waits built = cc
    built_goes (call.Iprobe peer tag comm) waits built = cc
    built_goes (call.Arrive coll) waits built = cc
    built_goes (call.HlsEnter construct) waits built = cc
    built_goes (call.HlsExit construct) waits built = cc
    built_goes (call.HlsBar construct) waits built = cc

-- a test of all courses is one of all parts
pub finished_is : (parts : List TaskPart) → list_all has_finished (courses_in parts) ≡ list_all (λ (part : TaskPart). is_some part.course.exit) parts
finished_is [] = refl
finished_is (part ∷ parts) = ap (λ b. is_some part.course.exit && b) (finished_is parts)

-- all tasks from one on are over or blocked
abbrev pub all_from : Setup → World → ℕ → List TaskPart → Bool
all_from setup w n parts = list_all (is_over_or_blocked setup w) (enumerate_from n (courses_in parts))

drop_at : (parts : List TaskPart) (i : ℕ) (part : TaskPart) → slice_get parts i ≡ Some part → drop i parts ≡ part ∷ drop (suc i) parts
drop_at [] i part at = absurd (cc at)
drop_at (x ∷ parts) zero part at = let same : x ≡ part = cc in ap (λ y. y ∷ parts) same
drop_at (x ∷ parts) (suc i) part at = drop_at parts i part at

module _ (setup : Setup) (w : World) (parts : List TaskPart) (i : ℕ) (part : TaskPart) (at : slice_get parts i ≡ Some part) where
  at_next : (b : Bool) → b ≡ is_over_or_blocked setup w (i, part.course) → all_from setup w i (drop i parts) ≡ (b && all_from setup w (i + 1) (drop (i + 1) parts))
  at_next b is =
      ap (all_from setup w i) (drop_at parts i part at)
      ∙ ap (λ n. is_over_or_blocked setup w (i, part.course) && all_from setup w (i + 1) (drop n parts)) (sym (add-one i))
      ∙ ap (λ c. c && all_from setup w (i + 1) (drop (i + 1) parts)) (sym is)

  -- a task that is over or blocked leaves the others to look at
  pub next_held : all_from setup w 0 parts ≡ all_from setup w i (drop i parts) → true ≡ is_over_or_blocked setup w (i, part.course) → all_from setup w 0 parts ≡ all_from setup w (i + 1) (drop (i + 1) parts)
  next_held so is = so ∙ at_next true is

  -- one that is not decides
  pub next_free : all_from setup w 0 parts ≡ all_from setup w i (drop i parts) → false ≡ is_over_or_blocked setup w (i, part.course) → false ≡ all_from setup w 0 parts
  next_free so is = sym (so ∙ at_next false is)

pub none_left : (setup : Setup) (w : World) (parts : List TaskPart) (i : ℕ) → length parts ≤ i → all_from setup w 0 parts ≡ all_from setup w i (drop i parts) → true ≡ all_from setup w 0 parts
none_left setup w parts i long so = sym (so ∙ ap (all_from setup w i) (none_after parts i long))
  where
    none_after : (xs : List TaskPart) (k : ℕ) → length xs ≤ k → drop k xs ≡ []
    none_after [] zero h = refl
    none_after [] (suc k) h = refl
    none_after (x ∷ xs) zero h = absurd (omega arith)
    none_after (x ∷ xs) (suc k) h = none_after xs k (omega arith)
