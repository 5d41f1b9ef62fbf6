-- A run that has ended makes no entry: so a step does not look at the three endings apart.
use Rattle.std.specs.Prelude.{◌≡◌, ◌≢◌, refl, ℕ, zero, suc, ◌+◌, Bool, true, false, not, ◌||◌, ◌&&◌, T, List, [], ◌∷◌, Option, Some, None, slice_get, is_some, unwrap_or, if◌then◌else◌, option_map}
use mathlib.Core.Path.{sym, ap, subst, ◌∙◌}
use native.Mathlib.Omega.{arith}
use Rattle.std.specs.List.{list_all, enumerate_from}
use Rattle.mpc_base.specs.declared.journals.End.TheVariants as end
use Rattle.run_model.specs.Setup.{Setup}
use Rattle.run_model.specs.declared.progress.Course.{Course}
use Rattle.run_model.specs.declared.progress.Last.{Last}
use Rattle.run_model.specs.World.{World}
use Rattle.run_model.specs.Steps.{Stays, answers_of}
use Rattle.run_model.specs.Go.{may_go, go_next, go_with, go, has_finished, is_blocked}
use Rattle.run_model.specs.Ending.{ending, end_in, is_over_or_blocked}
use Rattle.c_tree.specs.Next.{next_of}

both_left : (a b : Bool) → T (a && b) → T a
both_left true b h = tt
both_left false b h = h

both_right : (a b : Bool) → T (a && b) → T b
both_right true b h = h
both_right false b h = absurd h

-- of a test that all items pass, the item at a place passes it too
all_at : {X : Type 0} (p : X → Bool) (xs : List X) (i : ℕ) (x : X) → T (list_all p xs) → slice_get xs i ≡ Some x → T (p x)
all_at p [] i x h e = absurd (subst (λ o. T (is_some o)) (sym e) tt)
all_at p (y ∷ ys) zero x h e = subst (λ o. T (p (unwrap_or o y))) e (both_left (p y) (list_all p ys) h)
all_at p (y ∷ ys) (suc i) x h e = all_at p ys i x (both_right (p y) (list_all p ys) h) e

numbered_at : {X : Type 0} (n : ℕ) (xs : List X) (i : ℕ) → slice_get (enumerate_from n xs) i ≡ option_map (λ x. (n + i, x)) (slice_get xs i)
numbered_at n [] i = refl
numbered_at n (x ∷ xs) zero = ap (λ m. Some (m, x)) (omega arith)
numbered_at n (x ∷ xs) (suc i) = numbered_at (n + 1) xs i ∙ ap (λ m. option_map (λ x. (m, x)) (slice_get xs i)) (omega arith)

is_true : (b : Bool) → T b → b ≡ true
is_true true h = refl
is_true false h = absurd h

is_left : (a b : Bool) → T a → not (a || b) ≡ false
is_left true b h = refl
is_left false b h = absurd h

-- what `may_go` asks of a course
can_move : Setup → World → ℕ → Option Last → Option Course → Bool
can_move setup w task last None = false
can_move setup w task last (Some course) = not (is_some last || (has_finished course || is_blocked setup w task course))

by_tests : (setup : Setup) (w : World) (task : ℕ) (course : Course) (a b : Bool)
    → (T a → T (list_all has_finished w.log.courses)) → (T b → T (list_all (is_over_or_blocked setup w) (enumerate_from 0 w.log.courses)))
    → (if a then end.Finished else if b then end.Stuck else end.Going) ≢ end.Going → slice_get w.log.courses task ≡ Some course
    → not (has_finished course || is_blocked setup w task course) ≡ false
by_tests setup w task course true b finished stuck h e = is_left _ _ (all_at has_finished w.log.courses task course (finished tt) e)
by_tests setup w task course false true finished stuck h e =
    ap not (is_true _ (all_at (is_over_or_blocked setup w) (enumerate_from 0 w.log.courses) task (task, course) (stuck tt) (numbered_at 0 w.log.courses task ∙ ap (option_map (λ x. (0 + task, x))) e ∙ ap (λ (m : ℕ). Some (m, course)) (omega arith))))
by_tests setup w task course false false finished stuck h e = absurd (h refl)

none_moves : (setup : Setup) (w : World) (task : ℕ) (last : Option Last) (c : Option Course) → end_in setup w last ≢ end.Going → slice_get w.log.courses task ≡ c → can_move setup w task last c ≡ false
unfolding can_move
none_moves setup w task last None h e = refl
none_moves setup w task (Some l) (Some course) h e = refl
none_moves setup w task None (Some course) h e = by_tests setup w task course _ _ (λ t. t) (λ t. t) h e

may_go_is : (setup : Setup) (w : World) (task : ℕ) (c : Option Course) → may_go setup w task c ≡ can_move setup w task w.log.last c
unfolding can_move
may_go_is setup w task None = refl
may_go_is setup w task (Some course) = refl

pub ended_runs_stay : (setup : Setup) (w : World) (task : ℕ) → ending setup w ≢ end.Going → go setup w task ≡ Stays
unfolding ending go go_with
ended_runs_stay setup w task h =
    ap (λ b. if b then go_next setup w task (next_of setup.program (answers_of w task)) else Stays) (may_go_is setup w task (slice_get w.log.courses task) ∙ none_moves setup w task w.log.last (slice_get w.log.courses task) h refl)

is_right : (a b c : Bool) → c ≡ true → not (a || (b || c)) ≡ false
is_right true b c h = refl
is_right false true c h = refl
is_right false false c h = ap not h

pub blocked_tasks_stay : (setup : Setup) (w : World) (task : ℕ) (course : Course) → slice_get w.log.courses task ≡ Some course → is_blocked setup w task course ≡ true → go setup w task ≡ Stays
unfolding go go_with
blocked_tasks_stay setup w task course there h =
    ap (λ b. if b then go_next setup w task (next_of setup.program (answers_of w task)) else Stays)
    (ap (may_go setup w task) there ∙ is_right (is_some w.log.last) (has_finished course) (is_blocked setup w task course) h)
