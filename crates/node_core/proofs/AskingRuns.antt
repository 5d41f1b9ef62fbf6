-- In a run of a valid setup a task that may go asks a call, so that a step of it makes an entry.
use Rattle.std.proofs.Common.{◌≡◌, ◌≢◌, ◌<◌, ◌⊎◌, ◌||◌, ◌==◌, inl, inr, not, ℕ, ℤ, Bool, true, false, if◌then◌else◌, List, [], ◌∷◌, ◌++◌, length, slice_get, Option, Some, None, refl, sym, ap, subst, ◌∙◌}
use Rattle.std.specs.Option.{is_some}
use Rattle.std.proofs.lemmas.Option.{slice_get_within}
use Rattle.std.proofs.lemmas.Bool.Decides.{eqb_tells}
use Rattle.mpc_values.specs.declared.calls.Call.{Call}
use Rattle.mpc_values.specs.declared.calls.Call.TheVariants as call
use Rattle.mpc_values.specs.declared.answers.Answer.{Answer}
use Rattle.mpc_base.specs.declared.journals.Out.{Out}
use Rattle.mpc_base.specs.declared.journals.Out.TheVariants as out
use Rattle.mpc_base.specs.declared.journals.Entry.{Entry}
use Rattle.c_tree.specs.Asking.{Next, Asks, Over, Misfit}
use Rattle.c_tree.specs.Next.{next_of}
use Rattle.run_model.specs.declared.progress.Course.{Course}
use Rattle.run_model.specs.declared.progress.Last.{Last}
use Rattle.run_model.specs.Setup.{Setup}
use Rattle.run_model.specs.Valid.{Valid}
use Rattle.run_model.specs.World.{World}
use Rattle.run_model.specs.Steps.{Stays, out_of, tried, course_at, course_of, course_after, exit_after, last_after, answers_of, visited}
use Rattle.run_model.specs.Go.{makes, go, go_with, go_next, may_go, has_finished, is_blocked}
use Rattle.run_model.specs.Run.{Ran, run, at_start}
use Rattle.run_model.specs.Choice.{can_go}
use Rattle.run_model.specs.Stepping.{IsStep, answer_told}
use Rattle.run_model.proofs.Lists.{get_set_same, get_set_other}
use Rattle.run_model.proofs.Runs.{run_keeps, append_nil}
use Rattle.run_model.proofs.Steps.{step_is, after_is}
use Rattle.run_model.proofs.Bounds.{going}
use Rattle.run_model.proofs.Answers.{Answered, answered_start, answered_step, none_yet, out_is, courses_are, own_answers, other_answers, list_of}
use Rattle.run_model.proofs.NeverMisfits.{never_misfits}
use Rattle.node_core.specs.Over.{is_over}
use Rattle.node_core.proofs.Enders.{is_last, over_ends}

-- a task that asks nothing more is over
record OverOnly (setup : Setup) (r : Ran) : Type 0 where
  answered : Answered setup r
  over : (task : ℕ) → next_of setup.program (answers_of r.world task) ≡ Over → is_over r.world task ≡ true

or_right : (a b : Bool) → b ≡ true → (a || b) ≡ true
or_right true b h = refl
or_right false b h = h

one_is_not_more : {X : Type 0} (ys : List X) (b x y : X) → x ∷ [] ≡ b ∷ (ys ++ y ∷ []) → ⊥
one_is_not_more [] b x y h = cc
one_is_not_more (c ∷ ys) b x y h = cc

-- lists that are equal with an item after each are equal without
last_same : {X : Type 0} (xs ys : List X) (x y : X) → xs ++ x ∷ [] ≡ ys ++ y ∷ [] → xs ≡ ys
last_same [] [] x y h = refl
last_same [] (b ∷ ys) x y h = absurd (one_is_not_more ys b x y h)
last_same (a ∷ xs) [] x y h = absurd (one_is_not_more xs a y x (sym h))
last_same (a ∷ xs) (b ∷ ys) x y h =
    let heads : a ≡ b = cc in
    let tails : xs ++ x ∷ [] ≡ ys ++ y ∷ [] = cc in
    ap (λ z. z ∷ xs) heads ∙ ap (λ zs. b ∷ zs) (last_same xs ys x y tails)

-- a last call that is answered ends its task, or the run
ends_log : (c : Call) (exit : Option ℤ) (last : Option Last) (task line : ℕ) (answer : Answer) → is_last c ≡ true
    → (is_some (last_after last task c line (out.Did answer)) || is_some (exit_after exit c (out.Did answer))) ≡ true
ends_log (call.Finish code) exit last task line answer h = or_right (is_some last) true refl
ends_log (call.Abort comm code) exit last task line answer h = refl
ends_log (call.Load at) exit last task line answer h = absurd (cc h)
ends_log (call.Store at word) exit last task line answer h = absurd (cc h)
ends_log (call.New len) exit last task line answer h = absurd (cc h)
ends_log (call.Drop obj) exit last task line answer h = absurd (cc h)
ends_log (call.Malloc n) exit last task line answer h = absurd (cc h)
ends_log (call.Free at) exit last task line answer h = absurd (cc h)
ends_log (call.Print text) exit last task line answer h = absurd (cc h)
ends_log (call.Broke fault) exit last task line answer h = absurd (cc h)
ends_log call.Init exit last task line answer h = absurd (cc h)
ends_log call.Finalize exit last task line answer h = absurd (cc h)
ends_log (call.Rank comm) exit last task line answer h = absurd (cc h)
ends_log (call.Size comm) exit last task line answer h = absurd (cc h)
ends_log (call.Send at count kind peer tag comm sync) exit last task line answer h = absurd (cc h)
ends_log (call.Recv at count kind peer tag comm) exit last task line answer h = absurd (cc h)
ends_log (call.Complete req) exit last task line answer h = absurd (cc h)
ends_log (call.Test req) exit last task line answer h = absurd (cc h)
ends_log (call.AnyOf reqs) exit last task line answer h = absurd (cc h)
ends_log (call.Probe peer tag comm) exit last task line answer h = absurd (cc h)
ends_log (call.Iprobe peer tag comm) exit last task line answer h = absurd (cc h)
ends_log (call.Arrive coll) exit last task line answer h = absurd (cc h)
ends_log (call.Leave comm) exit last task line answer h = absurd (cc h)
ends_log (call.HlsEnter construct) exit last task line answer h = absurd (cc h)
ends_log (call.HlsWait construct) exit last task line answer h = absurd (cc h)
ends_log (call.HlsExit construct) exit last task line answer h = absurd (cc h)
ends_log (call.HlsBar construct) exit last task line answer h = absurd (cc h)
ends_log (call.HlsBarWait construct) exit last task line answer h = absurd (cc h)

over_start : (setup : Setup) → Valid setup → OverOnly setup (at_start setup)
over_start setup valid = record {
  answered = answered_start setup;
  over = λ task h.
      let none : next_of setup.program [] ≡ Over = ap (next_of setup.program) (sym (none_yet (length setup.cores) task)) ∙ h in
      let e = over_ends setup.program [] valid.main none in
      absurd (empty e.before e.answer e.cut);
}
  where
    empty : (before : List Answer) (answer : Answer) → [] ≡ before ++ answer ∷ [] → ⊥
    empty [] answer h = cc
    empty (a ∷ before) answer h = cc

module _ {setup : Setup} {w : World} {task : ℕ} {entry : Entry} {after : World} (s : IsStep setup w task entry after) where
  own_course : course_of after.log task ≡ course_after (course_of w.log task) s.call s.line (out_of (tried setup w task s.call))
  own_course =
      ap (λ cs. course_at (slice_get cs task)) (sym (courses_are s))
      ∙ ap course_at (get_set_same w.log.courses task _ (slice_get_within w.log.courses task s.course s.there))

  own_last : after.log.last ≡ last_after w.log.last task s.call s.line (out_of (tried setup w task s.call))
  own_last = ap (λ (x : World). x.log.last) (sym (after_is s))

  logged : (o : Out) → out_of (tried setup w task s.call) ≡ o → is_over after task ≡ (is_some (last_after w.log.last task s.call s.line o) || is_some (exit_after (course_of w.log task).exit s.call o))
  logged o e =
      ap (λ l. is_some l || has_finished (course_of after.log task)) own_last
      ∙ ap (λ (c : Course). is_some (last_after w.log.last task s.call s.line (out_of (tried setup w task s.call))) || has_finished c) own_course
      ∙ ap (λ x. is_some (last_after w.log.last task s.call s.line x) || is_some (exit_after (course_of w.log task).exit s.call x)) e

  -- a task whose last call was answered is over
  pub over_by : (answer : Answer) → entry.out ≡ out.Did answer → is_last s.call ≡ true → is_over after task ≡ true
  over_by answer did last = logged (out.Did answer) (out_is s ∙ did) ∙ ends_log s.call (course_of w.log task).exit w.log.last task s.line answer last

  -- another task that is over stays so
  pub over_stays : (other : ℕ) → other ≢ task → is_over w other ≡ true → is_over after other ≡ true
  over_stays other apart was =
      let finished : has_finished (course_of w.log other) ≡ true = ap (λ l. is_some l || has_finished (course_of w.log other)) (sym (going s)) ∙ was in
      let same : course_of after.log other ≡ course_of w.log other =
      ap (λ cs. course_at (slice_get cs other)) (sym (courses_are s)) ∙ ap course_at (get_set_other w.log.courses task other _ apart) in
      or_right (is_some after.log.last) (has_finished (course_of after.log other)) (ap has_finished same ∙ finished)

module _ {setup : Setup} {w : World} {task : ℕ} {entry : Entry} {after : World} (s : IsStep setup w task entry after) (there : setup.program.main < length setup.program.functions) where
  -- after an answer to a call that was asked, nothing is asked only where the call was a last one
  asked_last : (answer : Answer) → next_of setup.program (answers_of w task ++ answer ∷ []) ≡ Over → is_last s.call ≡ true
  asked_last answer h =
      let e = over_ends setup.program (answers_of w task ++ answer ∷ []) there h in
      let same : answers_of w task ≡ e.before = last_same (answers_of w task) e.before answer e.answer e.cut in
      let both : Asks s.call s.line ≡ Asks e.call e.line = sym s.asked ∙ ap (next_of setup.program) same ∙ e.asked in
      let calls : s.call ≡ e.call = cc in
      ap is_last calls ∙ e.last

  over_own : length w.log.answers ≡ length w.log.courses → next_of setup.program (answers_of after task) ≡ Over → is_over after task ≡ true
  over_own even h = by (out_of (tried setup w task s.call)) refl
    where
      told : (o : Out) → out_of (tried setup w task s.call) ≡ o → next_of setup.program (answers_of w task ++ list_of (answer_told o)) ≡ Over
      told o e = ap (λ x. next_of setup.program (answers_of w task ++ list_of (answer_told x))) (sym e ∙ out_is s) ∙ ap (next_of setup.program) (sym (own_answers s even)) ∙ h

      asks_still : answers_of w task ≡ answers_of w task ++ [] → next_of setup.program (answers_of w task ++ []) ≡ Over → ⊥
      asks_still nil h' = let both : Asks s.call s.line ≡ Over = sym s.asked ∙ ap (next_of setup.program) nil ∙ h' in cc

      by : (o : Out) → out_of (tried setup w task s.call) ≡ o → is_over after task ≡ true
      by (out.Did answer) e =
          logged s (out.Did answer) e ∙ ends_log s.call (course_of w.log task).exit w.log.last task s.line answer (asked_last answer (told (out.Did answer) e))
      by (out.Broke fault) e = absurd (asks_still (append_nil (answers_of w task)) (told (out.Broke fault) e))
      by out.Waits e = absurd (asks_still (append_nil (answers_of w task)) (told out.Waits e))

  over_other : (other : ℕ) → other ≢ task → (next_of setup.program (answers_of w other) ≡ Over → is_over w other ≡ true) → next_of setup.program (answers_of after other) ≡ Over → is_over after other ≡ true
  over_other other apart before h = over_stays s other apart (before (ap (next_of setup.program) (sym (other_answers s other apart)) ∙ h))

over_step : (setup : Setup) → Valid setup → (r : Ran) (task : ℕ) (entry : Entry) (after : World) → OverOnly setup r → IsStep setup r.world task entry after → OverOnly setup (record { entries = r.entries ++ entry ∷ []; world = after })
over_step setup valid r task entry after h s = record {
  answered = answered_step setup r task entry after h.answered s;
  over = λ other. by other (eqb_tells other task);
}
  where
    by : (other : ℕ) → ((other == task) ≡ true) × (other ≡ task) ⊎ ((other == task) ≡ false) × (other ≢ task) → next_of setup.program (answers_of after other) ≡ Over → is_over after other ≡ true
    by other (inl e) o = subst (λ t. is_over after t ≡ true) (sym e.1)
        (over_own s valid.main (h.answered.lists ∙ sym h.answered.courses) (subst (λ t. next_of setup.program (answers_of after t) ≡ Over) e.1 o))
    by other (inr e) o = over_other s valid.main other e.1 (h.over other) o

over_only : (setup : Setup) → Valid setup → (order : List ℕ) → OverOnly setup (run setup order)
over_only setup valid order =
    run_keeps setup (OverOnly setup) (over_start setup valid)
    (λ r task entry after h went. over_step setup valid r task entry after h (step_is setup r.world task entry after went)) order

pub going_free : (setup : Setup) (w : World) (task : ℕ) (c : Option Course) → slice_get w.log.courses task ≡ c → may_go setup w task c ≡ true → is_over w task ≡ false
going_free setup w task None at h = absurd (cc h)
going_free setup w task (Some course) at h = by (is_some w.log.last) (has_finished course) (is_blocked setup w task course) h (ap (λ c. has_finished (course_at c)) at)
  where
    by : (a b c : Bool) → not (a || (b || c)) ≡ true → has_finished (course_of w.log task) ≡ b → (a || has_finished (course_of w.log task)) ≡ false
    by true b c h' e = absurd (cc h')
    by false true c h' e = absurd (cc h')
    by false false c h' e = e

-- a step of a task that may go makes an entry
pub makes_when_going : (setup : Setup) → Valid setup → (order : List ℕ) (task : ℕ) → (b : Bool) → may_go setup (run setup order).world task (slice_get (run setup order).world.log.courses task) ≡ b
    → can_go setup (run setup order).world task ≡ b
unfolding go go_with visited
makes_when_going setup valid order task b may = with_next b may (next_of setup.program (answers_of (run setup order).world task)) refl
  where
    cut : (b : Bool) (n : Next) → may_go setup (run setup order).world task (slice_get (run setup order).world.log.courses task) ≡ b → next_of setup.program (answers_of (run setup order).world task) ≡ n
        → can_go setup (run setup order).world task ≡ makes (if b then go_next setup (run setup order).world task n else Stays)
    cut b n may asks = ap (λ x. makes (go_with setup (run setup order).world task x)) asks ∙ ap (λ x. makes (if x then go_next setup (run setup order).world task n else Stays)) may

    with_next : (b : Bool) → may_go setup (run setup order).world task (slice_get (run setup order).world.log.courses task) ≡ b → (n : Next) → next_of setup.program (answers_of (run setup order).world task) ≡ n
        → can_go setup (run setup order).world task ≡ b
    with_next false may n asks = cut false n may asks
    with_next true may (Asks call line) asks = cut true (Asks call line) may asks
    with_next true may Over asks =
        let over = (over_only setup valid order).over task asks in
        let free = going_free setup (run setup order).world task (slice_get (run setup order).world.log.courses task) refl may in
        absurd (cc (over, free))
    with_next true may Misfit asks = absurd (never_misfits setup valid.known order task asks)
