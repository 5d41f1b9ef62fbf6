-- A run in which the tasks step in the order of the picks has ended.
use Rattle.std.proofs.Common.{◌≡◌, ◌≢◌, ◌<◌, ◌≤◌, ◌+◌, ◌-◌, ◌*◌, ◌%◌, ◌||◌, ◌⊎◌, inl, inr, not, ℕ, zero, suc, Bool, true, false, if◌then◌else◌, List, [], ◌∷◌, ◌++◌, length, filter, find, slice_get, Option, Some, None, option_map, All, refl, sym, ap, ◌∙◌, arith}
use Rattle.std.specs.List.{range_with_len, list_all, enumerate_from}
use Rattle.std.specs.Option.{is_some}
use Rattle.std.proofs.lemmas.Option.{slice_get_within}
use Rattle.std.proofs.Math.Nat.{mod-lt}
use Rattle.std.proofs.lemmas.List.{length-append}
use Rattle.std.proofs.lemmas.List.Sums.{sum_by-le}
use Rattle.rand_pcg.specs.Lcg.{Lcg}
use Rattle.rand_pcg.specs.Pcg.{pcg32}
use Rattle.mpc_base.specs.declared.picks.Picks.{Picks}
use Rattle.mpc_base.specs.declared.journals.End.TheVariants as end
use Rattle.run_model.specs.declared.progress.Course.{Course}
use Rattle.run_model.specs.declared.progress.Last.{Last}
use Rattle.run_model.specs.declared.progress.Last.TheVariants.{Faulted, Aborted}
use Rattle.run_model.specs.Setup.{Setup, tasks_of}
use Rattle.run_model.specs.Valid.{Valid}
use Rattle.run_model.specs.World.{World}
use Rattle.run_model.specs.Steps.{Step, Stays, Makes}
use Rattle.run_model.specs.Go.{go, makes, world_after, has_finished, may_go}
use Rattle.run_model.specs.Choice.{Picker, InTurn, ByWords, FromList, Pick, can_go, from_task, in_turn, by_word, listed, picked, with_pick, choices, first_picker, choice}
use Rattle.run_model.specs.Ending.{ending, end_in, is_over_or_blocked}
use Rattle.run_model.specs.Run.{Ran, ran_step, run_from, at_start, run}
use Rattle.run_model.specs.Stepping.{counted}
use Rattle.run_model.proofs.Bounds.{bounded}
use Rattle.run_model.proofs.Runs.{run_from-last, run_from-none}
use Rattle.node_core.proofs.AskingRuns.{makes_when_going}
use Rattle.task_picks.proofs.Found.{or_else, find_append}
use Rattle.picked_run.proofs.Numbers.{fails_at, none_of, found_passes, filter_passes, one_fails}

below_or_not : (a b : ℕ) → (a < b) ⊎ (b ≤ a)
below_or_not a zero = inr (omega arith)
below_or_not zero (suc b) = inl (omega arith)
below_or_not (suc a) (suc b) = elim (below_or_not a b) [ inl less ↦ inl (omega (arith, less)) | inr most ↦ inr (omega (arith, most)) ]

there : (xs : List ℕ) (i : ℕ) → i < length xs → slice_get xs i ≡ None → ⊥
there [] i less none = omega (arith, less)
there (x ∷ xs) zero less none = cc none
there (x ∷ xs) (suc i) less none = there xs i (omega (arith, less)) none

either : (b : Bool) (pick : Pick) (rest : Option Pick) → (if b then Some pick else rest) ≡ None → rest ≡ None
either true pick rest h = absurd (cc h)
either false pick rest h = h

picked_or : (b : Bool) (pick : Pick) (rest : Option Pick) (got : Pick) → (if b then Some pick else rest) ≡ Some got → ((b ≡ true) × (pick ≡ got)) ⊎ (rest ≡ Some got)
picked_or true pick rest got h = inl (refl, (let e : pick ≡ got = cc in e))
picked_or false pick rest got h = inr h

mapped : (f : ℕ → Pick) (found : Option ℕ) (got : Pick) → option_map f found ≡ Some got → (k : ℕ) × (found ≡ Some k) × (f k ≡ got)
mapped f None got h = absurd (cc h)
mapped f (Some k) got h = (k, refl, (let e : f k ≡ got = cc in e))

module _ (setup : Setup) (w : World) where
  -- no pick means that no task can go
  none_found : (f : ℕ → Pick) (found : Option ℕ) → option_map f found ≡ None → found ≡ None
  none_found f None h = refl
  none_found f (Some x) h = absurd (cc h)

  both_none : (a b : Option ℕ) → or_else a b ≡ None → (a ≡ None) × (b ≡ None)
  both_none None b h = (refl, h)
  both_none (Some x) b h = absurd (cc h)

  in_turn_none : (next : ℕ) → in_turn setup w next ≡ None → (task : ℕ) → task < tasks_of setup → can_go setup w task ≡ false
  in_turn_none next none task less =
      let p = can_go setup w in
      let nothing : find p (from_task setup next) ≡ None = none_found (λ k. record { task = k; after = InTurn (k + 1) }) (find p (from_task setup next)) none in
      let parts = both_none (find p (range_with_len next (tasks_of setup - next))) (find p (range_with_len 0 next))
      (sym (find_append p (range_with_len next (tasks_of setup - next)) (range_with_len 0 next)) ∙ nothing) in
      elim (below_or_not task next) [
        | inl below ↦ fails_at p 0 next parts.1 task (omega arith) (omega (arith, below))
        | inr above ↦ fails_at p next (tasks_of setup - next) parts.0 task above (omega (arith, above, less))
      ]

  by_word_none : (all : List ℕ) (drawn : ℕ × Lcg) → by_word all drawn ≡ None → all ≡ []
  by_word_none [] drawn none = refl
  by_word_none (x ∷ xs) drawn none =
      let nothing = none_found (λ k. record { task = k; after = ByWords drawn.1 }) (slice_get (x ∷ xs) (drawn.0 % length (x ∷ xs))) none in
      absurd (there (x ∷ xs) (drawn.0 % length (x ∷ xs)) (mod-lt drawn.0 (omega arith)) nothing)

  listed_none : (tasks : List ℕ) (next : ℕ) → listed setup w tasks next ≡ None → in_turn setup w next ≡ None
  listed_none [] next none = none
  listed_none (t ∷ more) next none = listed_none more next (either (can_go setup w t) (record { task = t; after = FromList more (t + 1) }) (listed setup w more next) none)

  pub picked_none : (picker : Picker) → picked setup w picker ≡ None → (task : ℕ) → task < tasks_of setup → can_go setup w task ≡ false
  picked_none (InTurn next) none task less = in_turn_none next none task less
  picked_none (ByWords generator) none task less =
      none_of (can_go setup w) 0 (tasks_of setup) (by_word_none (filter (can_go setup w) (range_with_len 0 (tasks_of setup))) (pcg32 generator) none) task (omega arith) (omega (arith, less))
  picked_none (FromList tasks next) none task less = in_turn_none next (listed_none tasks next none) task less

  -- a picked task can go
  in_turn_goes : (next : ℕ) (got : Pick) → in_turn setup w next ≡ Some got → can_go setup w got.task ≡ true
  in_turn_goes next got h =
      let (k, found, is) = mapped (λ k. record { task = k; after = InTurn (k + 1) }) (find (can_go setup w) (from_task setup next)) got h in
      ap (λ (x : Pick). can_go setup w x.task) (sym is) ∙ found_passes (can_go setup w) (from_task setup next) k found

  by_word_goes : (all : List ℕ) (drawn : ℕ × Lcg) (got : Pick) → by_word all drawn ≡ Some got → (i : ℕ) × (slice_get all i ≡ Some got.task)
  by_word_goes [] drawn got h = absurd (cc h)
  by_word_goes (x ∷ xs) drawn got h =
      let (k, found, is) = mapped (λ k. record { task = k; after = ByWords drawn.1 }) (slice_get (x ∷ xs) (drawn.0 % length (x ∷ xs))) got h in
      (drawn.0 % length (x ∷ xs), found ∙ ap (λ (g : Pick). Some g.task) is)

  listed_goes : (tasks : List ℕ) (next : ℕ) (got : Pick) → listed setup w tasks next ≡ Some got → can_go setup w got.task ≡ true
  listed_goes [] next got h = in_turn_goes next got h
  listed_goes (t ∷ more) next got h =
      elim (picked_or (can_go setup w t) (record { task = t; after = FromList more (t + 1) }) (listed setup w more next) got h) [
        | inl here ↦ ap (λ (x : Pick). can_go setup w x.task) (sym here.1) ∙ here.0
        | inr later ↦ listed_goes more next got later
      ]

  pub picked_goes : (picker : Picker) (got : Pick) → picked setup w picker ≡ Some got → can_go setup w got.task ≡ true
  picked_goes (InTurn next) got h = in_turn_goes next got h
  picked_goes (ByWords generator) got h =
      let (i, at) = by_word_goes (filter (can_go setup w) (range_with_len 0 (tasks_of setup))) (pcg32 generator) got h in
      filter_passes (can_go setup w) (range_with_len 0 (tasks_of setup)) i got.task at
  picked_goes (FromList tasks next) got h = listed_goes tasks next got h

  -- a run that goes on has a task that may go
  going_last : (last : Option Last) → end_in setup w last ≡ end.Going → last ≡ None
  going_last None h = refl
  going_last (Some (Faulted task fault line)) h = absurd (cc h)
  going_last (Some (Aborted task code line)) h = absurd (cc h)

  not_all : (a b : Bool) → (if a then end.Finished else if b then end.Stuck else end.Going) ≡ end.Going → b ≡ false
  not_all true b h = absurd (cc h)
  not_all false true h = absurd (cc h)
  not_all false false h = refl

  pub last_of : ending setup w ≡ end.Going → w.log.last ≡ None
  unfolding ending
  last_of going = going_last w.log.last going

  pub one_may : ending setup w ≡ end.Going → (i : ℕ) × (course : Course) × (slice_get w.log.courses i ≡ Some course) × (may_go setup w i (Some course) ≡ true)
  unfolding ending
  one_may going =
      let none : w.log.last ≡ None = going_last w.log.last going in
      let here : end_in setup w None ≡ end.Going = ap (end_in setup w) (sym none) ∙ going in
      let (i, course, at, free) = one_fails (is_over_or_blocked setup w) 0 w.log.courses (not_all (list_all has_finished w.log.courses) (list_all (is_over_or_blocked setup w) (enumerate_from 0 w.log.courses)) here) in
      let same : 0 + i ≡ i = omega arith in
      let off : is_over_or_blocked setup w (i, course) ≡ false = ap (λ n. is_over_or_blocked setup w (n, course)) (sym same) ∙ free in
      (i, course, at, ap (λ l. not (is_some l || is_over_or_blocked setup w (i, course))) none ∙ ap not off)

module _ (setup : Setup) (valid : Valid setup) where
  -- where no task is picked the run has ended
  pub none_ends : (order : List ℕ) (picker : Picker) → picked setup (run setup order).world picker ≡ None → ending setup (run setup order).world ≢ end.Going
  none_ends order picker none going =
      let w = (run setup order).world in
      let (i, course, at, may) = one_may setup w going in
      let goes : can_go setup w i ≡ true = makes_when_going setup valid order i true (ap (may_go setup w i) at ∙ may) in
      let all : length w.log.courses ≡ tasks_of setup = (bounded setup order).courses in
      let within : i < length w.log.courses = slice_get_within w.log.courses i course at in
      let still : can_go setup w i ≡ false = picked_none setup w picker none i (omega (arith, all, within)) in
      let twice : true ≡ false = sym goes ∙ still in cc twice

  -- what so many rounds come to: the run has ended, or each round made an entry
  abbrev pub Comes : Ran → Ran → ℕ → Type 0
  Comes before after n = (ending setup after.world ≢ end.Going) ⊎ (length after.entries ≡ length before.entries + n)

  step_more : (r : Ran) (step : Step) → makes step ≡ true → (ran_step r step).world ≡ world_after r.world step
  step_more r Stays h = absurd (cc h)
  step_more r (Makes entry after) h = refl

  step_longer : (r : Ran) (step : Step) → makes step ≡ true → length (ran_step r step).entries ≡ length r.entries + 1
  step_longer r Stays h = absurd (cc h)
  step_longer r (Makes entry after) h = length-append r.entries (entry ∷ [])

  rounds_come : (n : ℕ) (order : List ℕ) (picker : Picker) → Comes (run setup order) (run_from setup (run setup order) (choices n setup (run setup order).world picker)) n
  unfolding choices run_from
  rounds_come zero order picker = inr (omega arith)
  rounds_come (suc n) order picker = by (picked setup (run setup order).world picker) refl (rounds_come n)
    where
      by : (o : Option Pick) → picked setup (run setup order).world picker ≡ o
          → ((order' : List ℕ) (picker' : Picker) → Comes (run setup order') (run_from setup (run setup order') (choices n setup (run setup order').world picker')) n)
          → Comes (run setup order) (run_from setup (run setup order) (with_pick o (λ pick. choices n setup (world_after (run setup order).world (go setup (run setup order).world pick.task)) pick.after))) (suc n)
      by None is more = inl (none_ends order picker is)
      by (Some pick) is more =
          let r = run setup order in
          let step = go setup r.world pick.task in
          let goes : makes step ≡ true = picked_goes setup r.world picker pick is in
          let next : run setup (order ++ pick.task ∷ []) ≡ ran_step r step = run_from-last setup (at_start setup) order pick.task in
          let world : (run setup (order ++ pick.task ∷ [])).world ≡ world_after r.world step = ap (λ (x : Ran). x.world) next ∙ step_more r step goes in
          let longer : length (run setup (order ++ pick.task ∷ [])).entries ≡ length r.entries + 1 = ap (λ (x : Ran). length x.entries) next ∙ step_longer r step goes in
          let whole : run_from setup (run setup (order ++ pick.task ∷ [])) (choices n setup (run setup (order ++ pick.task ∷ [])).world pick.after)
          ≡ run_from setup (ran_step r step) (choices n setup (world_after r.world step) pick.after)
          = ap (λ w. run_from setup (run setup (order ++ pick.task ∷ [])) (choices n setup w pick.after)) world ∙ ap (λ x. run_from setup x (choices n setup (world_after r.world step) pick.after)) next in
          elim (more (order ++ pick.task ∷ []) pick.after) [
            | inl ends ↦ inl (λ going. ends (ap (λ (x : Ran). ending setup x.world) whole ∙ going))
            | inr count ↦ inr (let same : length (run_from setup (run setup (order ++ pick.task ∷ [])) (choices n setup (run setup (order ++ pick.task ∷ [])).world pick.after)).entries
                ≡ length (run_from setup (ran_step r step) (choices n setup (world_after r.world step) pick.after)).entries = ap (λ (x : Ran). length x.entries) whole in
                omega (arith, longer, count, same))
          ]

  counted_few : (courses : List Course) → All (λ (course : Course). course.entries ≤ setup.calls) courses → counted courses ≤ length courses * setup.calls
  counted_few courses few = sum_by-le (λ (course : Course). course.entries) setup.calls courses few

  -- a run of so many rounds as all tasks may have entries, and one, has ended
  pub runs_end : (picks : Picks) → ending setup (run setup (choice setup picks)).world ≢ end.Going
  runs_end picks going =
      let start_is : run setup [] ≡ at_start setup = run_from-none setup (at_start setup) in
      let n = tasks_of setup * setup.calls + 1 in
      let r = run setup (choice setup picks) in
      let same : run_from setup (run setup []) (choices n setup (run setup []).world (first_picker picks)) ≡ r =
      ap (λ (x : Ran). run_from setup x (choices n setup x.world (first_picker picks))) start_is in
      let most = bounded setup (choice setup picks) in
      let last : r.world.log.last ≡ None = last_of setup r.world going in
      let few = counted_few r.world.log.courses (most.few last) in
      elim (rounds_come n [] (first_picker picks)) [
        | inl ends ↦ ends (ap (λ (x : Ran). ending setup x.world) same ∙ going)
        | inr count ↦
            let none : length (run setup []).entries ≡ 0 = ap (λ (x : Ran). length x.entries) start_is in
            let long : length (run_from setup (run setup []) (choices n setup (run setup []).world (first_picker picks))).entries ≡ length r.entries = ap (λ (x : Ran). length x.entries) same in
            let total = most.total in
            let courses : length r.world.log.courses * setup.calls ≡ tasks_of setup * setup.calls = ap (λ k. k * setup.calls) most.courses in
            omega (arith, count, none, long, total, few, courses)
      ]
