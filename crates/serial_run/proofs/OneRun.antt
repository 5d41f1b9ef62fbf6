-- A program has one run as one task: each step is that of task 0, and behind the end no step makes an entry.
use Rattle.std.proofs.Common.{◌≡◌, ◌≢◌, ◌≤◌, ◌||◌, ℕ, zero, suc, Bool, true, false, if◌then◌else◌, List, [], ◌∷◌, ◌++◌, length, slice_get, Option, Some, None, is_some, refl, sym, ap, ◌∙◌, subst, arith, append_assoc, append-nil, length-append}
use Rattle.std.specs.List.{list_all}
use Rattle.std.proofs.lemmas.List.{length-map, append_cancel_left}
use Rattle.mpc_base.specs.declared.journals.Entry.{Entry}
use Rattle.mpc_base.specs.declared.journals.End.TheVariants as end
use Rattle.c_tree.specs.Next.{next_of}
use Rattle.c_tree.specs.Programs.{Program}
use Rattle.c_tree.specs.ProgramOf.{program_of}
use Rattle.serial_model.specs.declared.records.Setup.{Setup}
use Rattle.serial_model.specs.declared.records.RunRecord.{RunRecord}
use Rattle.serial_model.specs.declared.lasts.Last.{Last}
use Rattle.serial_model.specs.World.{World, TaskState, first_memory, first_task}
use Rattle.serial_model.specs.Go.{Step, Stays, Makes, has_finished, has_ended, go, go_next, go_task, answers_of}
use Rattle.serial_model.specs.Run.{Ran, run_from, ran_step, run, at_start, order_of, world_of, end_of, ending, rank_ends, RecordsRun}
use Rattle.serial_model.specs.Bounds.{Bounded}
use Rattle.serial_model.proofs.Runs.{run_from-append}
use Rattle.serial_model.proofs.Bounds.{bounded}
use Rattle.serial_run.specs.OneRun.{OneRun}

-- ---- a run is that of its setup's program

module _ (s t : Setup) (same : program_of s.program ≡ program_of t.program) where
  task_same : (w : World) (task : ℕ) (state : Option TaskState) → go_task s w task state ≡ go_task t w task state
  task_same w task None = refl
  task_same w task (Some state) = ap (λ (p : Program). if has_finished state then Stays else go_next w task state (next_of p (answers_of w task))) same

  go_same : (w : World) (task : ℕ) → go s w task ≡ go t w task
  go_same w task = ap (λ (step : Step). if has_ended w then Stays else step) (task_same w task (slice_get w.tasks task))

  from_same : (r : Ran) (order : List ℕ) → run_from s r order ≡ run_from t r order
  unfolding run_from
  from_same r [] = refl
  from_same r (task ∷ order) = ap (λ (step : Step). run_from s (ran_step r step) order) (go_same r.world task) ∙ from_same (ran_step r (go t r.world task)) order

  start_same : at_start s ≡ at_start t
  start_same =
      ap (λ (p : Program). record { entries = []; world = record { memory = first_memory p.variables 1; tasks = first_task ∷ []; counts = 0 ∷ []; answers = [] ∷ []; last = None } }) same

  run_same : (order : List ℕ) → run s order ≡ run t order
  run_same order = from_same (at_start s) order ∙ ap (λ (r : Ran). run_from t r order) start_same

-- ---- a setup has one run

-- from this state the steps of the entries' tasks make these entries, and then the run has ended
record Rest (s : Setup) (r : Ran) (entries : List Entry) : Type 0 where
  legal : (run_from s r (order_of entries)).entries ≡ r.entries ++ entries
  ended : has_ended (run_from s r (order_of entries)).world ≡ true

module _ (s : Setup) where
  -- each step makes one entry at most
  Grown : Ran → ℕ → Ran → Type 0
  Grown r n r' = (more : List Entry) × (r'.entries ≡ r.entries ++ more) × (length more ≤ n)

  grows : (r : Ran) (order : List ℕ) → Grown r (length order) (run_from s r order)
  unfolding run_from Grown
  grows r [] = ([], sym (append-nil r.entries), omega arith)
  grows r (task ∷ order) =
      elim (go s r.world task) as (λ step. (more : List Entry) × ((run_from s (ran_step r step) order).entries ≡ r.entries ++ more) × (length more ≤ suc (length order))) [
        | Stays ↦ let g = grows r order in (g.0, g.1, omega (arith, g.2))
        | Makes e w ↦
            let g = grows (record { entries = r.entries ++ e ∷ []; world = w }) order in
            (e ∷ g.0, g.1 ∙ append_assoc r.entries (e ∷ []) g.0, omega (arith, g.2))
      ]

  -- a run that has ended makes nothing more
  stays : (r : Ran) (order : List ℕ) → has_ended r.world ≡ true → run_from s r order ≡ r
  unfolding run_from
  stays r [] over = refl
  stays r (task ∷ order) over =
      let none : go s r.world task ≡ Stays = ap (λ b. if b then Stays else go_task s r.world task (slice_get r.world.tasks task)) over in
      ap (λ (step : Step). run_from s (ran_step r step) order) none ∙ stays r order over

  nothing_more : (r : Ran) (x : Entry) (rest : List Entry) → has_ended r.world ≡ true → Rest s r (x ∷ rest) → ⊥
  nothing_more r x rest over is =
      let e : r.entries ≡ r.entries ++ x ∷ rest = sym (ap (λ (q : Ran). q.entries) (stays r (order_of (x ∷ rest)) over)) ∙ is.legal in
      omega (arith, ap length e, length-append r.entries (x ∷ rest))

  -- the first of the entries is made by the first step
  First : Ran → Entry → List Entry → Type 0
  First r x rest = (w : World) × (go s r.world x.task ≡ Makes x w) × Rest s (record { entries = r.entries ++ x ∷ []; world = w }) rest

  first_is : (r : Ran) (x : Entry) (rest : List Entry) → Rest s r (x ∷ rest) → First r x rest
  unfolding run_from Grown First
  first_is r x rest is = by_step (go s r.world x.task) refl is.legal is.ended
    where
      by_step : (step : Step) → go s r.world x.task ≡ step → (run_from s (ran_step r step) (order_of rest)).entries ≡ r.entries ++ x ∷ rest → has_ended (run_from s (ran_step r step) (order_of rest)).world ≡ true → First r x rest
      by_step Stays went legal over =
          let g = grows r (order_of rest) in
          let e : r.entries ++ g.0 ≡ r.entries ++ x ∷ rest = sym g.1 ∙ legal in
          absurd (omega (arith, ap length (append_cancel_left r.entries g.0 (x ∷ rest) e), g.2, length-map rest (λ (entry : Entry). entry.task)))
      by_step (Makes e w) went legal over =
          let r' : Ran = record { entries = r.entries ++ e ∷ []; world = w } in
          let g = grows r' (order_of rest) in
          let both : e ∷ g.0 ≡ x ∷ rest = append_cancel_left r.entries (e ∷ g.0) (x ∷ rest) (sym (append_assoc r.entries (e ∷ []) g.0) ∙ sym g.1 ∙ legal) in
          let e_is : e ≡ x = cc in
          let more : (run_from s r' (order_of rest)).entries ≡ (r.entries ++ e ∷ []) ++ rest = legal ∙ ap (λ (y : Entry). r.entries ++ y ∷ rest) (sym e_is) ∙ sym (append_assoc r.entries (e ∷ []) rest) in
          subst (λ (y : Entry). (w : World) × (go s r.world x.task ≡ Makes y w) × Rest s (record { entries = r.entries ++ y ∷ []; world = w }) rest) e_is (w, went, record { legal = more; ended = over })

  -- the state is one that a run comes to
  Reached : Ran → Type 0
  Reached r = (order : List ℕ) × (run s order ≡ r)

  reached_next : (r : Ran) (task : ℕ) (e : Entry) (w : World) → Reached r → go s r.world task ≡ Makes e w → Reached (record { entries = r.entries ++ e ∷ []; world = w })
  unfolding Reached
  reached_next r task e w reached went = (
    reached.0 ++ task ∷ [],
    run_from-append s (at_start s) reached.0 task ∙ ap (λ (q : Ran). ran_step q (go s q.world task)) reached.1 ∙ ap (ran_step r) went,
  )

  -- only task 0 steps
  no_other : (r : Ran) (state : TaskState) (task : ℕ) → r.world.tasks ≡ state ∷ [] → go s r.world (suc task) ≡ Stays
  no_other r state task one =
      elim (has_ended r.world) as (λ over. (if over then Stays else go_task s r.world (suc task) (slice_get r.world.tasks (suc task))) ≡ Stays) [
        | true ↦ refl
        | false ↦ ap (λ (tasks : List TaskState). go_task s r.world (suc task) (slice_get tasks (suc task))) one
      ]

  by_zero : (r : Ran) (task : ℕ) (e : Entry) (w : World) → Reached r → go s r.world task ≡ Makes e w → go s r.world zero ≡ Makes e w
  unfolding Reached
  by_zero r zero e w reached went = went
  by_zero r (suc task) e w reached went = absurd (none (bounded s reached.0))
    where
      none : Bounded (run s reached.0) → ⊥
      none b = let stays' : go s r.world (suc task) ≡ Stays = no_other r b.state task (sym (ap (λ (q : Ran). q.world.tasks) reached.1) ∙ b.tasks) in cc

  same_rest : (r : Ran) (xs ys : List Entry) → Reached r → Rest s r xs → Rest s r ys → xs ≡ ys
  unfolding run_from First
  same_rest r [] [] reached a b = refl
  same_rest r [] (y ∷ ys) reached a b = absurd (nothing_more r y ys a.ended b)
  same_rest r (x ∷ xs) [] reached a b = absurd (nothing_more r x xs b.ended a)
  same_rest r (x ∷ xs) (y ∷ ys) reached a b =
      let first = first_is r x xs a in
      let other = first_is r y ys b in
      let made : Makes x first.0 ≡ Makes y other.0 = sym (by_zero r x.task x first.0 reached first.1) ∙ by_zero r y.task y other.0 reached other.1 in
      let entry : x ≡ y = cc in
      let world : first.0 ≡ other.0 = cc in
      let next : Ran = record { entries = r.entries ++ x ∷ []; world = first.0 } in
      let there : Rest s next ys = subst (λ (q : World). Rest s (record { entries = r.entries ++ x ∷ []; world = q }) ys) (sym world) (subst (λ (z : Entry). Rest s (record { entries = r.entries ++ z ∷ []; world = other.0 }) ys) (sym entry) other.2) in
      let more = same_rest next xs ys (reached_next r x.task x first.0 reached first.1) first.2 there in
      cc more

-- ---- records

ended_of : (last : Option Last) (b : Bool) → end_of last b ≢ end.Going → (is_some last || b) ≡ true
ended_of None true goes = refl
ended_of None false goes = absurd (goes refl)
ended_of (Some last) b goes = refl

rest_of : (a : RunRecord) → RecordsRun a → Rest a.setup (at_start a.setup) a.journal.entries
rest_of a records =
    let w = world_of a.setup a.journal.entries in
    record { legal = records.legal.entries; ended = ended_of w.last (list_all has_finished w.tasks) (λ going. records.ends (sym records.ended ∙ going)) }

rest_same : (s t : Setup) (entries : List Entry) → program_of s.program ≡ program_of t.program → Rest t (at_start t) entries → Rest s (at_start s) entries
rest_same s t entries same rest = record {
  legal = ap (λ (r : Ran). r.entries) (run_same s t same (order_of entries)) ∙ rest.legal;
  ended = ap (λ (r : Ran). has_ended r.world) (run_same s t same (order_of entries)) ∙ rest.ended;
}

start_is : (s : Setup) → run s [] ≡ at_start s
unfolding run_from
start_is s = refl

reached_start : (s : Setup) → Reached s (at_start s)
unfolding Reached
reached_start s = ([], start_is s)

-- a program has one run
pub one_run : OneRun
one_run a b records others same =
    let entries = same_rest a.setup (at_start a.setup) a.journal.entries b.journal.entries (reached_start a.setup) (rest_of a records) (rest_same a.setup b.setup b.journal.entries same (rest_of b others)) in
    let world = ap (world_of a.setup) entries ∙ ap (λ (r : Ran). r.world) (run_same a.setup b.setup same (order_of b.journal.entries)) in
    record {
      entries = entries;
      ended = sym records.ended ∙ ap ending world ∙ others.ended;
      ranks = sym records.ranks ∙ ap rank_ends world ∙ others.ranks;
    }
