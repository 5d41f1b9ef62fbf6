-- A run has no more entries than its tasks are allowed, and one.
use Rattle.std.proofs.Common.{◌≡◌, ◌≤◌, ◌+◌, ◌*◌, ◌||◌, not, ℕ, Bool, true, false, if◌then◌else◌, nat_le, List, [], ◌∷◌, ◌++◌, length, replicate, slice_index_or, All, Option, Some, None, is_some, refl, ap, sym, ◌∙◌, subst, length-append, arith}
use Rattle.std.proofs.lemmas.Bool.{leb-false}
use Rattle.std.proofs.lemmas.List.Sums.{sum_by-set, sum_by-le}
use Rattle.std.proofs.lemmas.List.Folds.{sum_by-replicate}
use Rattle.std.proofs.lemmas.List.Elements.{All-set, All-replicate}
use Rattle.std.proofs.lemmas.Option.{slice_get_within, get_or_from_slice_get}
use Rattle.mpc_values.specs.declared.calls.Call.{Call}
use Rattle.mpc_values.specs.declared.faults.Fault.TheVariants.{Calls}
use Rattle.mpc_base.specs.declared.journals.Entry.{Entry}
use Rattle.run_model.specs.declared.progress.Course.{Course}
use Rattle.run_model.specs.declared.progress.Last.{Last}
use Rattle.run_model.specs.Setup.{Setup, tasks_of}
use Rattle.run_model.specs.World.{World}
use Rattle.run_model.specs.Start.{first_course}
use Rattle.run_model.specs.Outcomes.{Outcome, Fails}
use Rattle.run_model.specs.Act.{act}
use Rattle.run_model.specs.Steps.{out_of, tried, course_at, course_of, course_after, last_after}
use Rattle.run_model.specs.Go.{has_finished, is_blocked}
use Rattle.run_model.specs.Run.{Ran, run, at_start}
use Rattle.run_model.specs.Stepping.{IsStep, Bounded, counted}
use Rattle.run_model.proofs.Lists.{length_set}
use Rattle.run_model.proofs.Steps.{step_is, after_is}
use Rattle.run_model.proofs.Answers.{length_replicate, courses_are}
use Rattle.run_model.proofs.Runs.{run_keeps}

entries_of : Course → ℕ
entries_of course = course.entries

none_ended : (last : Option Last) (b : Bool) → not (is_some last || b) ≡ true → last ≡ None
none_ended None b h = refl
none_ended (Some last) b h = cc

-- a call that leaves the run going is not one too many
few_left : (calls entries : ℕ) (b : Bool) (o : Outcome) (last : Option Last) (task : ℕ) (call : Call) (line : ℕ) → nat_le calls entries ≡ b → last_after last task call line (out_of (if b then Fails Calls else o)) ≡ None → entries + 1 ≤ calls
few_left calls entries true o last task call line e h = absurd (never h)
  where
    never : last_after last task call line (out_of (Fails Calls)) ≡ None → ⊥
    never h' = cc
few_left calls entries false o last task call line e h = omega (arith, leb-false calls entries e)

module _ {setup : Setup} {w : World} {task : ℕ} {entry : Entry} {after : World} (s : IsStep setup w task entry after) where
  pub going : w.log.last ≡ None
  going = none_ended w.log.last (has_finished s.course || is_blocked setup w task s.course) s.may

  course_is : course_of w.log task ≡ s.course
  course_is = ap course_at s.there

  more : Course
  more = course_after (course_of w.log task) s.call s.line (out_of (tried setup w task s.call))

  counts : counted after.log.courses ≡ counted w.log.courses + 1
  counts =
      let set' = sum_by-set (λ (course : Course). course.entries) w.log.courses task (course_after (course_of w.log task) s.call s.line (out_of (tried setup w task s.call))) first_course (slice_get_within w.log.courses task s.course s.there) in
      let old : slice_index_or w.log.courses task first_course ≡ s.course = get_or_from_slice_get w.log.courses task s.course first_course s.there in
      let was : (slice_index_or w.log.courses task first_course).entries ≡ s.course.entries = ap (λ (course : Course). course.entries) old in
      let now' : (course_of w.log task).entries ≡ s.course.entries = ap (λ (course : Course). course.entries) course_is in
      ap counted (sym (courses_are s)) ∙ omega (arith, set', was, now')

  few_after : All (λ (course : Course). course.entries ≤ setup.calls) w.log.courses → after.log.last ≡ None → All (λ (course : Course). course.entries ≤ setup.calls) after.log.courses
  few_after before none =
      subst (All (λ (course : Course). course.entries ≤ setup.calls)) (courses_are s)
      (All-set (λ (course : Course). course.entries ≤ setup.calls) w.log.courses task _
      (few_left setup.calls (course_of w.log task).entries (nat_le setup.calls (course_of w.log task).entries) (act setup w.core task s.call) w.log.last task s.call s.line refl
      (ap (λ (x : World). x.log.last) (after_is s) ∙ none)) before)

bounded_start : (setup : Setup) → Bounded setup (at_start setup)
bounded_start setup = record {
  courses = length_replicate (tasks_of setup) first_course;
  total = sym (sum_by-replicate (λ (course : Course). course.entries) (tasks_of setup) first_course ∙ none (tasks_of setup));
  few = λ going'. all_first (tasks_of setup);
  most = omega arith;
}
  where
    none : (count : ℕ) → count * 0 ≡ 0
    none count = omega arith

    all_first : (count : ℕ) → All (λ (course : Course). course.entries ≤ setup.calls) (replicate count first_course)
    all_first count = All-replicate (λ (course : Course). course.entries ≤ setup.calls) count first_course (omega arith)

bounded_step : (setup : Setup) (r : Ran) (task : ℕ) (entry : Entry) (after : World) → Bounded setup r → IsStep setup r.world task entry after → Bounded setup (record { entries = r.entries ++ entry ∷ []; world = after })
bounded_step setup r task entry after h s =
    let longer : length (r.entries ++ entry ∷ []) ≡ length r.entries + 1 = length-append r.entries (entry ∷ []) in
    let before : counted r.world.log.courses ≤ length r.world.log.courses * setup.calls = sum_by-le (λ (course : Course). course.entries) setup.calls r.world.log.courses (h.few (going s)) in
    let within : counted r.world.log.courses ≤ tasks_of setup * setup.calls = subst (λ n. counted r.world.log.courses ≤ n * setup.calls) h.courses before in
    record {
      courses = ap length (sym (courses_are s)) ∙ length_set r.world.log.courses task _ ∙ h.courses;
      total = longer ∙ ap (λ n. n + 1) h.total ∙ sym (counts s);
      few = few_after s (h.few (going s));
      most = omega (arith, longer, h.total, within);
    }

pub bounded : (setup : Setup) (order : List ℕ) → Bounded setup (run setup order)
bounded setup order =
    run_keeps setup (Bounded setup) (bounded_start setup)
    (λ r task entry after h went. bounded_step setup r task entry after h (step_is setup r.world task entry after went)) order
