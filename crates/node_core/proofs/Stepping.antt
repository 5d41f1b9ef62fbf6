-- What a call comes to, with its log, is a step of the world.
use Rattle.std.proofs.Common.{◌≡◌, inl, inr, ℕ, List, slice_get, slice_set, Some, sym, ap, subst, ◌∙◌}
use Rattle.mpc_values.specs.declared.calls.Call.{Call}
use Rattle.mpc_base.specs.declared.journals.Out.{Out}
use Rattle.mpc_base.specs.declared.journals.Out.TheVariants.{Waits, Did, Broke}
use Rattle.run_model.specs.declared.progress.Course.{Course}
use Rattle.run_model.specs.Setup.{Setup}
use Rattle.run_model.specs.World.{World}
use Rattle.run_model.specs.Outcomes.{Outcome}
use Rattle.run_model.specs.Steps.{Makes, visited, made_by, tried, entry_of, course_of, course_at, course_after, noted_after, last_after}
use Rattle.node_core.specs.declared.parts.TaskPart.{TaskPart}
use Rattle.node_core.specs.declared.parts.State.{State}
use Rattle.node_core.specs.Built.{IsBuilt, OnWaits}
use Rattle.node_core.specs.Stands.{Stands, course_in, courses_in}
use Rattle.node_core.specs.Steps.{Tried, tried_at, Stepped, NotedFits, AllFit}
use Rattle.node_core.proofs.Places.{get_map, map_set, get_set_other, set_at, same_or_other}
use Rattle.node_core.proofs.All.{FollowsAll, serves_of, follows_all}

module _ (w : World) (s s' : State) (task : ℕ) (part part' : TaskPart) (call : Call) (line : ℕ) (out : Out) (stands : Stands w s) (at : slice_get s.tasks.items task ≡ Some part)
    (tasks : s'.tasks.items ≡ slice_set s.tasks.items task part') (course : part'.course ≡ course_after part.course call line out) (last : s'.last ≡ last_after s.last task call line out) where
  course_is : course_of w.log task ≡ part.course
  course_is = ap (λ cs. course_at (slice_get cs task)) stands.courses ∙ ap course_at (get_map course_in s.tasks.items task part at)

  courses_are : slice_set w.log.courses task (course_after (course_of w.log task) call line out) ≡ courses_in s'.tasks.items
  courses_are =
      ap (λ cs. slice_set cs task (course_after (course_of w.log task) call line out)) stands.courses
      ∙ ap (λ x. slice_set (courses_in s.tasks.items) task (course_after x call line out)) course_is
      ∙ ap (slice_set (courses_in s.tasks.items) task) (sym course)
      ∙ sym (map_set course_in s.tasks.items task part') ∙ ap courses_in (sym tasks)

  last_is : last_after w.log.last task call line out ≡ s'.last
  last_is = ap (λ l. last_after l task call line out) stands.last ∙ sym last

-- a call that comes to this makes an entry, and the state stands for the world after it
comes : (w : World) (s s' : State) (task : ℕ) (call : Call) (line : ℕ) (out : Out) (outcome : Outcome) → FollowsAll w.core s'.shared s'.tasks.items out outcome
    → slice_set w.log.courses task (course_after (course_of w.log task) call line out) ≡ courses_in s'.tasks.items → last_after w.log.last task call line out ≡ s'.last
    → (after : World) × (made_by w task call line outcome ≡ Makes (entry_of task call line out) after) × Stands after s'
comes w s s' task call line (Did answer) outcome f courses last = (_, ap (made_by w task call line) f.1, record { core = f.2; courses = courses; last = last })
comes w s s' task call line (Broke fault) outcome f courses last = (_, ap (made_by w task call line) f.0, record { core = f.1; courses = courses; last = last })
comes w s s' task call line Waits outcome f courses last = (_, ap (made_by w task call line) f.0, record { core = f.1; courses = courses; last = last })

-- a visit of the task is the step
pub stepped : (setup : Setup) (w : World) (s s' : State) (task : ℕ) (part part' : TaskPart) (call : Call) (line : ℕ) (out : Out) → Stands w s → slice_get s.tasks.items task ≡ Some part
    → s'.tasks.items ≡ slice_set s.tasks.items task part' → part'.course ≡ course_after part.course call line out → s'.last ≡ last_after s.last task call line out
    → Tried setup part.course.entries task call s.shared part.own s'.shared part'.own out → Stepped setup w task call line out s'
unfolding visited
stepped setup w s s' task part part' call line out stands at tasks course last did =
    let follows = did w.core (serves_of w.core s.shared s.tasks.items task part stands.core at) in
    let all : FollowsAll w.core s'.shared (slice_set s.tasks.items task part') out (tried_at setup w.core part.course.entries task call) =
    follows_all w.core s.shared s.tasks.items task part stands.core at s'.shared part' out (tried_at setup w.core part.course.entries task call) follows in
    let same : tried_at setup w.core part.course.entries task call ≡ tried setup w task call =
    ap (λ (x : Course). tried_at setup w.core x.entries task call) (sym (course_is w s s' task part part' call line out stands at tasks course last)) in
    let all' : FollowsAll w.core s'.shared s'.tasks.items out (tried setup w task call) =
    subst (λ o. FollowsAll w.core s'.shared s'.tasks.items out o) same (subst (λ ps. FollowsAll w.core s'.shared ps out (tried_at setup w.core part.course.entries task call)) (sym tasks) all) in
    comes w s s' task call line out (tried setup w task call) all'
    (courses_are w s s' task part part' call line out stands at tasks course last) (last_is w s s' task part part' call line out stands at tasks course last)

fits_after : (call : Call) (line : ℕ) (out : Out) → IsBuilt call → OnWaits call out → NotedFits (noted_after call line out)
fits_after call line (Did answer) built waits = tt
fits_after call line (Broke fault) built waits = tt
fits_after call line Waits built waits = (waits, built)

-- a noted call is one that may wait, after a visit too
pub all_fit_after : (parts : List TaskPart) (task : ℕ) (part part' : TaskPart) (call : Call) (line : ℕ) (out : Out) → part'.course ≡ course_after part.course call line out → IsBuilt call → OnWaits call out
    → AllFit parts → AllFit (slice_set parts task part')
all_fit_after parts task part part' call line out course built waits fits i x here =
    elim (same_or_other i task) [
      | inl same ↦ let e : part' ≡ x = set_at parts task i part' x same here in
          subst (λ (y : TaskPart). NotedFits y.course.noted) e (subst (λ (c : Course). NotedFits c.noted) (sym course) (fits_after call line out built waits))
      | inr other ↦ fits i x (sym (get_set_other parts task i part' other) ∙ here)
    ]
