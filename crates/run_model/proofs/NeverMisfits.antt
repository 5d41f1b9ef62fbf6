-- A program that enters only singles that it has is given no answer that it cannot read.
use Rattle.std.proofs.Common.{◌≡◌, ◌≢◌, ◌⊎◌, inl, inr, ◌==◌, ℕ, Bool, true, false, T, if◌then◌else◌, nat_le, List, [], ◌∷◌, ◌++◌, Option, Some, None, refl, ap, sym, ◌∙◌, subst}
use Rattle.std.proofs.lemmas.Bool.Decides.{eqb_tells}
use Rattle.mpc_values.specs.declared.calls.Call.{Call}
use Rattle.mpc_values.specs.declared.answers.Answer.{Answer}
use Rattle.mpc_values.specs.declared.faults.Fault.TheVariants.{Calls}
use Rattle.mpc_base.specs.declared.journals.Out.TheVariants as out
use Rattle.mpc_base.specs.declared.journals.Entry.{Entry}
use Rattle.c_tree.specs.Programs.{Program}
use Rattle.c_tree.specs.Asking.{Asks, Over, Misfit, fits, kind_of}
use Rattle.c_tree.specs.Next.{next_of}
use Rattle.c_tree.specs.NextLaws.{DoesNotFit}
use Rattle.c_tree.proofs.Fair as fair
use Rattle.run_model.specs.Setup.{Setup, tasks_of}
use Rattle.run_model.specs.World.{World}
use Rattle.run_model.specs.Outcomes.{Outcome, Does, Fails, Waits}
use Rattle.run_model.specs.Act.{act}
use Rattle.run_model.specs.Steps.{out_of, tried, course_of, answers_of}
use Rattle.run_model.specs.Run.{Ran, run, at_start}
use Rattle.run_model.specs.Stepping.{IsStep, answer_told}
use Rattle.run_model.specs.Fitting.{IsKnown, AsksKnown}
use Rattle.run_model.proofs.Fitting.{Fits}
use Rattle.run_model.proofs.AnswersFit.{answers_fit}
use Rattle.run_model.proofs.Steps.{step_is}
use Rattle.run_model.proofs.Answers.{Answered, answered_start, answered_step, own_answers, other_answers, list_of, none_yet, out_is}
use Rattle.run_model.proofs.Runs.{run_keeps, append_nil}

-- each of these answers is of the kind of the call that the program asks before it
pub AllFit : Program → List Answer → Type 0
AllFit program answers = (before : List Answer) (answer : Answer) (more : List Answer) → answers ≡ before ++ answer ∷ more
    → (call : Call) × (line : ℕ) × (next_of program before ≡ Asks call line) × (fits call answer ≡ true)

no_middle : {X : Type 0} (ys zs : List X) (x : X) → [] ≡ ys ++ x ∷ zs → ⊥
no_middle [] zs x h = cc
no_middle (y ∷ ys) zs x h = cc

tails : {X : Type 0} (x y : X) (xs ys : List X) → x ∷ xs ≡ y ∷ ys → (x ≡ y) × (xs ≡ ys)
tails x y xs ys h = (cc, cc)

longer : {X : Type 0} (x' y : X) (xs ys zs : List X) (a x : X) → x' ≡ y → ((xs ≡ ys) × (a ≡ x)) ⊎ ((ws : List X) × (xs ≡ ys ++ x ∷ ws)) → ((x' ∷ xs ≡ y ∷ ys) × (a ≡ x)) ⊎ ((ws : List X) × (x' ∷ xs ≡ y ∷ ys ++ x ∷ ws))
longer x' y xs ys zs a x first (inl h) = inl (ap (λ z. z ∷ xs) first ∙ ap (λ zs. y ∷ zs) h.0, h.1)
longer x' y xs ys zs a x first (inr h) = inr (h.0, ap (λ z. z ∷ xs) first ∙ ap (λ zs. y ∷ zs) h.1)

-- one item at the end, and one in the midst
split_last : {X : Type 0} (xs ys zs : List X) (a x : X) → xs ++ a ∷ [] ≡ ys ++ x ∷ zs → ((xs ≡ ys) × (a ≡ x)) ⊎ ((ws : List X) × (xs ≡ ys ++ x ∷ ws))
split_last [] [] zs a x e = inl (refl, (tails a x [] zs e).0)
split_last [] (y ∷ ys) zs a x e = absurd (no_middle ys zs x (tails a y [] (ys ++ x ∷ zs) e).1)
split_last (x' ∷ xs) [] zs a x e = inr (xs, ap (λ z. z ∷ xs) (tails x' x (xs ++ a ∷ []) zs e).0)
split_last (x' ∷ xs) (y ∷ ys) zs a x e =
    let both = tails x' y (xs ++ a ∷ []) (ys ++ x ∷ zs) e in
    longer x' y xs ys zs a x both.0 (split_last xs ys zs a x both.1)

all_fit_none : (program : Program) → AllFit program []
unfolding AllFit
all_fit_none program before answer more e = absurd (no_middle before more answer e)

all_fit_more : (program : Program) (answers : List Answer) (answer : Answer) (call : Call) (line : ℕ) → AllFit program answers → next_of program answers ≡ Asks call line → fits call answer ≡ true → AllFit program (answers ++ answer ∷ [])
unfolding AllFit
all_fit_more program answers answer call line h asks is before x more e = by (split_last answers before more answer x e)
  where
    by : ((answers ≡ before) × (answer ≡ x)) ⊎ ((ws : List Answer) × (answers ≡ before ++ x ∷ ws)) → (call : Call) × (line : ℕ) × (next_of program before ≡ Asks call line) × (fits call x ≡ true)
    by (inl same) = (call, line, ap (next_of program) (sym same.0) ∙ asks, ap (fits call) (sym same.1) ∙ is)
    by (inr within) = h before x within.0 within.1

true_of : (b : Bool) → T b → b ≡ true
true_of true h = refl
true_of false h = absurd h

-- an answer that a call is given is of its kind, in the words of the program
answer_fits : (call : Call) (o : Outcome) (answer : Answer) → Fits (kind_of call) o → answer_told (out_of o) ≡ Some answer → fits call answer ≡ true
unfolding Fits
answer_fits call (Does given core) answer h e = true_of (fits call answer) (subst (λ a. T (fits call a)) (some_is given answer e) h)
  where
    some_is : (a b : Answer) → Some a ≡ Some b → a ≡ b
    some_is a b h = cc
answer_fits call (Fails fault) answer h e = cc
answer_fits call Waits answer h e = cc

tried_fits : (b : Bool) (call : Call) (o : Outcome) → Fits (kind_of call) o → Fits (kind_of call) (if b then Fails Calls else o)
unfolding Fits
tried_fits true call o h = tt
tried_fits false call o h = h

record AllRead (setup : Setup) (r : Ran) : Type 0 where
  pub answered : Answered setup r
  pub fit : (task : ℕ) → AllFit setup.program (answers_of r.world task)

module _ {setup : Setup} {w : World} {task : ℕ} {entry : Entry} {after : World} (s : IsStep setup w task entry after) where
  step_fits : IsKnown setup s.call → (answer : Answer) → answer_told entry.out ≡ Some answer → fits s.call answer ≡ true
  step_fits known answer e =
      answer_fits s.call (tried setup w task s.call) answer
      (tried_fits (nat_le setup.calls (course_of w.log task).entries) s.call (act setup w.core task s.call) (answers_fit setup w.core task s.call known))
      (ap answer_told (out_is s) ∙ e)

  pub known_fits : IsKnown setup s.call → (answer : Answer) → entry.out ≡ out.Did answer → fits s.call answer ≡ true
  known_fits known answer e = step_fits known answer (ap answer_told e)

  own_fit : AsksKnown setup → (o : Option Answer) → answer_told entry.out ≡ o → AllFit setup.program (answers_of w task) → AllFit setup.program (answers_of w task ++ list_of o)
  own_fit known None e h = subst (AllFit setup.program) (append_nil (answers_of w task)) h
  own_fit known (Some answer) e h = all_fit_more setup.program (answers_of w task) answer s.call s.line h s.asked (step_fits (known (answers_of w task) s.call s.line s.asked) answer e)

read_start : (setup : Setup) → AllRead setup (at_start setup)
read_start setup = record {
  answered = answered_start setup;
  fit = λ task. subst (AllFit setup.program) (sym (none_yet (tasks_of setup) task)) (all_fit_none setup.program);
}

read_step : (setup : Setup) → AsksKnown setup → (r : Ran) (task : ℕ) (entry : Entry) (after : World) → AllRead setup r → IsStep setup r.world task entry after → AllRead setup (record { entries = r.entries ++ entry ∷ []; world = after })
read_step setup known r task entry after h s = record {
  answered = answered_step setup r task entry after h.answered s;
  fit = λ other. by other (eqb_tells other task);
}
  where
    by : (other : ℕ) → ((other == task) ≡ true) × (other ≡ task) ⊎ ((other == task) ≡ false) × (other ≢ task) → AllFit setup.program (answers_of after other)
    by other (inl e) =
        subst (λ t. AllFit setup.program (answers_of after t)) (sym e.1)
        (subst (AllFit setup.program) (sym (own_answers s (h.answered.lists ∙ sym h.answered.courses))) (own_fit s known (answer_told entry.out) refl (h.fit task)))
    by other (inr e) = subst (AllFit setup.program) (sym (other_answers s other e.1)) (h.fit other)

all_read : (setup : Setup) → AsksKnown setup → (order : List ℕ) → AllRead setup (run setup order)
all_read setup known order =
    run_keeps setup (AllRead setup) (read_start setup)
    (λ r task entry after h went. read_step setup known r task entry after h (step_is setup r.world task entry after went)) order

no_misfit : (program : Program) (answers : List Answer) → AllFit program answers → next_of program answers ≢ Misfit
unfolding AllFit
no_misfit program answers h e = by (fair.next_laws.misfits program answers e)
  where
    differs : (b : Bool) (call call' : Call) (line line' : ℕ) (answer : Answer) → Asks call line ≡ Asks call' line' → fits call answer ≡ true → fits call' answer ≡ false → ⊥
    differs b call call' line line' answer same yes' no' =
        let calls : call ≡ call' = cc in
        let both : true ≡ false = sym yes' ∙ ap (λ c. fits c answer) calls ∙ no' in cc

    over : (call : Call) (line : ℕ) → Asks call line ≡ Over → ⊥
    over call line h' = cc

    by : DoesNotFit program answers → ⊥
    by d = why d.why
      where
        at : (call : Call) × (line : ℕ) × (next_of program d.before ≡ Asks call line) × (fits call d.answer ≡ true)
        at = h d.before d.answer d.behind d.cut

        why : ((call : Call) × (line : ℕ) × (next_of program d.before ≡ Asks call line) × (fits call d.answer ≡ false)) ⊎ (next_of program d.before ≡ Over) → ⊥
        why (inl w) = differs true at.0 w.0 at.1 w.1 d.answer (sym at.2 ∙ w.2) at.3 w.3
        why (inr o) = over at.0 at.1 (sym at.2 ∙ o)

pub never_misfits : (setup : Setup) → AsksKnown setup → (order : List ℕ) (task : ℕ) → next_of setup.program (answers_of (run setup order).world task) ≢ Misfit
never_misfits setup known order task = no_misfit setup.program _ ((all_read setup known order).fit task)
