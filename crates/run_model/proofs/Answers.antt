-- The answers that a task has had are those that its own entries tell.
use Rattle.std.proofs.Common.{◌≡◌, ◌≢◌, ◌<◌, ◌⊎◌, ◌==◌, ℕ, zero, suc, true, false, if◌then◌else◌, List, [], ◌∷◌, ◌++◌, length, replicate, slice_get, slice_set, Option, Some, None, inl, inr, refl, ap, sym, ◌∙◌, subst}
use Rattle.std.specs.List.{cons_option}
use Rattle.std.proofs.lemmas.Bool.{eq-eqb}
use Rattle.std.proofs.lemmas.Bool.Decides.{eqb_tells}
use Rattle.std.proofs.lemmas.List.Elements.{filter_map-append}
use Rattle.std.proofs.lemmas.Option.{slice_get_within}
use Rattle.mpc_values.specs.declared.answers.Answer.{Answer}
use Rattle.mpc_base.specs.declared.journals.Out.{Out}
use Rattle.mpc_base.specs.declared.journals.Out.TheVariants as out
use Rattle.mpc_base.specs.declared.journals.Entry.{Entry}
use Rattle.run_model.specs.Setup.{Setup, tasks_of}
use Rattle.run_model.specs.World.{World}
use Rattle.run_model.specs.Start.{first_course}
use Rattle.run_model.specs.Steps.{out_of, tried, answers_after, answers_at, answers_of, course_after, course_of}
use Rattle.run_model.specs.Run.{Ran, run, at_start}
use Rattle.run_model.specs.Stepping.{IsStep, answer_told, answer_to, answers_told}
use Rattle.run_model.proofs.Lists.{get_set_same, get_set_other, length_set}
use Rattle.run_model.proofs.Steps.{step_is, entry_is, after_is, task_is}
use Rattle.run_model.proofs.Runs.{run_keeps, append_nil}

-- a run has courses and answers for each of its tasks, and the answers are those that its entries tell
pub record Answered (setup : Setup) (r : Ran) : Type 0 where
  pub courses : length r.world.log.courses ≡ tasks_of setup
  pub lists : length r.world.log.answers ≡ tasks_of setup
  pub own : (task : ℕ) → answers_of r.world task ≡ answers_told task r.entries

pub length_replicate : {X : Type 0} (count : ℕ) (x : X) → length (replicate count x) ≡ count
length_replicate zero x = refl
length_replicate (suc count) x = ap suc (length_replicate count x)

pub none_yet : (count task : ℕ) → answers_at (slice_get (replicate count []) task) ≡ []
none_yet zero task = refl
none_yet (suc count) zero = refl
none_yet (suc count) (suc task) = none_yet count task

abbrev pub list_of : Option Answer → List Answer
list_of None = []
list_of (Some answer) = answer ∷ []

-- the answers after one entry more, and what that entry tells
told_more : (answers : List Answer) (out' : Out) → answers_after answers out' ≡ answers ++ list_of (answer_told out')
told_more answers (out.Did answer) = refl
told_more answers (out.Broke fault) = append_nil answers
told_more answers out.Waits = append_nil answers

told_one : (task : ℕ) (entry : Entry) (o : Option Answer) → answer_to task entry ≡ o → answers_told task (entry ∷ []) ≡ list_of o
told_one task entry None e = ap (λ (o : Option Answer). cons_option o []) e
told_one task entry (Some answer) e = ap (λ (o : Option Answer). cons_option o []) e

told_last : (task : ℕ) (entries : List Entry) (entry : Entry) → answers_told task (entries ++ entry ∷ []) ≡ answers_told task entries ++ list_of (answer_to task entry)
told_last task entries entry =
    filter_map-append (answer_to task) entries (entry ∷ []) ∙ ap (λ more. answers_told task entries ++ more) (told_one task entry (answer_to task entry) refl)

module _ {setup : Setup} {w : World} {task : ℕ} {entry : Entry} {after : World} (s : IsStep setup w task entry after) where
  pub out_is : out_of (tried setup w task s.call) ≡ entry.out
  out_is = ap (λ (e : Entry). e.out) (entry_is s)

  pub courses_are : slice_set w.log.courses task (course_after (course_of w.log task) s.call s.line (out_of (tried setup w task s.call))) ≡ after.log.courses
  courses_are = ap (λ (x : World). x.log.courses) (after_is s)

  answers_are : slice_set w.log.answers task (answers_after (answers_of w task) (out_of (tried setup w task s.call))) ≡ after.log.answers
  answers_are = ap (λ (x : World). x.log.answers) (after_is s)

  -- of the task that stepped
  pub own_answers : length w.log.answers ≡ length w.log.courses → answers_of after task ≡ answers_of w task ++ list_of (answer_told entry.out)
  own_answers even =
      ap (λ answers. answers_at (slice_get answers task)) (sym answers_are)
      ∙ ap answers_at (get_set_same w.log.answers task _ (subst (λ n. task < n) (sym even) (slice_get_within w.log.courses task s.course s.there)))
      ∙ ap (answers_after (answers_of w task)) out_is
      ∙ told_more (answers_of w task) entry.out

  -- of another
  pub other_answers : (other : ℕ) → other ≢ task → answers_of after other ≡ answers_of w other
  other_answers other apart =
      ap (λ answers. answers_at (slice_get answers other)) (sym answers_are)
      ∙ ap answers_at (get_set_other w.log.answers task other _ apart)

  told_own : answer_to task entry ≡ answer_told entry.out
  told_own = ap (λ b. if b then answer_told entry.out else None) (eq-eqb entry.task task (task_is s))

  told_other : (other : ℕ) → other ≢ task → answer_to other entry ≡ None
  told_other other apart = ap (λ b. if b then answer_told entry.out else None) (by (eqb_tells entry.task other))
    where
      by : ((entry.task == other) ≡ true) × (entry.task ≡ other) ⊎ ((entry.task == other) ≡ false) × (entry.task ≢ other) → (entry.task == other) ≡ false
      by (inl h) = absurd (apart (sym h.1 ∙ task_is s))
      by (inr h) = h.0

pub answered_start : (setup : Setup) → Answered setup (at_start setup)
answered_start setup = record {
  courses = length_replicate (tasks_of setup) first_course;
  lists = length_replicate (tasks_of setup) [];
  own = λ task. none_yet (tasks_of setup) task;
}

pub answered_step : (setup : Setup) (r : Ran) (task : ℕ) (entry : Entry) (after : World) → Answered setup r → IsStep setup r.world task entry after → Answered setup (record { entries = r.entries ++ entry ∷ []; world = after })
answered_step setup r task entry after h s = record {
  courses = ap length (sym (courses_are s)) ∙ length_set r.world.log.courses task _ ∙ h.courses;
  lists = ap length (sym (answers_are s)) ∙ length_set r.world.log.answers task _ ∙ h.lists;
  own = λ other. own_by other (eqb_tells other task);
}
  where
    own_by : (other : ℕ) → ((other == task) ≡ true) × (other ≡ task) ⊎ ((other == task) ≡ false) × (other ≢ task) → answers_of after other ≡ answers_told other (r.entries ++ entry ∷ [])
    own_by other (inl e) =
        subst (λ t. answers_of after t ≡ answers_told t (r.entries ++ entry ∷ [])) (sym e.1)
        (own_answers s (h.lists ∙ sym h.courses)
        ∙ ap (λ answers. answers ++ list_of (answer_told entry.out)) (h.own task)
        ∙ ap (λ o. answers_told task r.entries ++ list_of o) (sym (told_own s))
        ∙ sym (told_last task r.entries entry))
    own_by other (inr e) =
        other_answers s other e.1 ∙ h.own other
        ∙ append_nil (answers_told other r.entries)
        ∙ ap (λ o. answers_told other r.entries ++ list_of o) (sym (told_other s other e.1))
        ∙ sym (told_last other r.entries entry)

pub answered : (setup : Setup) (order : List ℕ) → Answered setup (run setup order)
answered setup order =
    run_keeps setup (Answered setup) (answered_start setup)
    (λ r task entry after h went. answered_step setup r task entry after h (step_is setup r.world task entry after went)) order
