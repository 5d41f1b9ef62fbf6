-- How a run goes on by the picks.
use Rattle.std.proofs.Common.{◌≡◌, ◌≢◌, ◌<◌, ◌≤◌, ◌+◌, ◌-◌, ◌*◌, inl, inr, ℕ, zero, suc, List, [], slice_set, Some, None, refl, sym, ap, subst, ◌∙◌, arith}
use Rattle.mpc_base.specs.declared.picks.Picks.{Picks}
use Rattle.mpc_base.specs.declared.journals.Entry.{Entry}
use Rattle.run_model.specs.Setup.{Setup, tasks_of}
use Rattle.run_model.specs.Start.{start}
use Rattle.run_model.specs.Steps.{Step, Stays, Makes}
use Rattle.run_model.specs.Go.{go, world_after}
use Rattle.run_model.specs.Choice.{Picker, first_picker, picked, with_pick, choices, choice}
use Rattle.run_model.specs.Run.{Ran, ran_step, run_from, at_start, run, world_of}
use Rattle.run_model.proofs.Runs.{run_from-none, world_of-push}
use Rattle.run_model.proofs.Steps.{step_is, task_is}
use Rattle.node_core.specs.Held.{Held}
use Rattle.node_core.specs.Visits.{made}
use Rattle.node_core.proofs.Places.{get_set_other, same_or_other, set_at}
use Rattle.task_rounds.specs.declared.seats.Seat.{Seat}
use Rattle.task_rounds.specs.Rounds.{Keeps, AllKeep}

-- the run so far
ran_so : Setup → List Entry → Ran
ran_so setup entries = record { entries = entries; world = world_of setup entries }

world_by : (setup : Setup) (entries : List Entry) (number : ℕ) (step : Step) → go setup (world_of setup entries) number ≡ step → world_of setup (made entries step) ≡ world_after (world_of setup entries) step
world_by setup entries number Stays is = refl
world_by setup entries number (Makes entry after) is =
    world_of-push setup entries entry after (subst (λ t. go setup (world_of setup entries) t ≡ Makes entry after) (sym (task_is (step_is setup (world_of setup entries) number entry after is))) is)

ran_by : (r : Ran) (step : Step) → record { entries = made r.entries step; world = world_after r.world step } ≡ ran_step r step
ran_by r Stays = refl
ran_by r (Makes entry after) = refl

-- a round takes the step of the task that was picked
pub round_goes : (setup : Setup) (entries after : List Entry) (number left : ℕ) (old new : Picker) → picked setup (world_of setup entries) old ≡ Some (record { task = number; after = new })
    → after ≡ made entries (go setup (world_of setup entries) number)
    → run_from setup (record { entries = after; world = world_of setup after }) (choices left setup (world_of setup after) new)
    ≡ run_from setup (record { entries = entries; world = world_of setup entries }) (choices (suc left) setup (world_of setup entries) old)
unfolding run_from choices
round_goes setup entries after number left old new picks is =
    let w = world_of setup entries in
    let step = go setup w number in
    let world : world_of setup after ≡ world_after w step = ap (world_of setup) is ∙ world_by setup entries number step refl in
    ap (λ es. run_from setup (record { entries = es; world = world_of setup after }) (choices left setup (world_of setup after) new)) is
    ∙ ap (λ v. run_from setup (record { entries = made entries step; world = v }) (choices left setup v new)) world
    ∙ ap (λ r. run_from setup r (choices left setup (world_after w step) new)) (ran_by (record { entries = entries; world = w }) step)
    ∙ sym (ap (λ p. run_from setup (record { entries = entries; world = w }) (with_pick p (λ pick. choices left setup (world_after w (go setup w pick.task)) pick.after))) picks)

-- where nobody can be picked, the run so far is the whole
pub none_left : (setup : Setup) (entries : List Entry) (left : ℕ) (old : Picker) → picked setup (world_of setup entries) old ≡ None
    → (run_from setup (record { entries = entries; world = world_of setup entries }) (choices (suc left) setup (world_of setup entries) old)).entries ≡ entries
unfolding run_from choices
none_left setup entries left old none =
    ap (λ p. (run_from setup (record { entries = entries; world = world_of setup entries }) (with_pick p (λ pick. choices left setup (world_after (world_of setup entries) (go setup (world_of setup entries) pick.task)) pick.after))).entries) none

pub no_round_left : (setup : Setup) (entries : List Entry) (picker : Picker) → (run_from setup (record { entries = entries; world = world_of setup entries }) (choices zero setup (world_of setup entries) picker)).entries ≡ entries
unfolding run_from choices
no_round_left setup entries picker = refl

-- before the first round
pub first_round : (setup : Setup) (entries : List Entry) (rounds : ℕ) (picks : Picks) (picker : Picker) → entries ≡ [] → rounds ≡ tasks_of setup * setup.calls + 1 → picker ≡ first_picker picks
    → (run_from setup (record { entries = entries; world = world_of setup entries }) (choices rounds setup (world_of setup entries) picker)).entries ≡ (run setup (choice setup picks)).entries
first_round setup entries rounds picks picker none count first =
    let world : world_of setup [] ≡ start setup = ap (λ (r : Ran). r.world) (run_from-none setup (at_start setup)) in
    ap (λ es. (run_from setup (record { entries = es; world = world_of setup es }) (choices rounds setup (world_of setup es) picker)).entries) none
    ∙ ap (λ w. (run_from setup (record { entries = []; world = w }) (choices rounds setup w picker)).entries) world
    ∙ ap (λ n. (run_from setup (at_start setup) (choices n setup (start setup) picker)).entries) count
    ∙ ap (λ p. (run_from setup (at_start setup) (choices (tasks_of setup * setup.calls + 1) setup (start setup) p)).entries) first

-- all seats keep on, where the one that went does and the others do
pub all_keep : (old new : Held) (seats : List Seat) (number : ℕ) (seat : Seat) → AllKeep old seats → Keeps new number seat
    → ((other : ℕ) (s : Seat) → other ≢ number → Keeps old other s → Keeps new other s) → AllKeep new (slice_set seats number seat)
all_keep old new seats number seat all mine others i s at =
    elim (same_or_other i number) [
      | inl same ↦ let e : seat ≡ s = set_at seats number i seat s same at in
          subst (λ (x : Seat). Keeps new i x) e (subst (λ k. Keeps new k seat) (sym same) mine)
      | inr apart ↦ others i s apart (all i s (sym (get_set_other seats number i seat apart) ∙ at))
    ]

module _ (setup after : Setup) (entries : List Entry) (rounds round : ℕ) (picks : Picks) (picker : Picker) (same : setup ≡ after)
    (going : (run_from setup (record { entries = entries; world = world_of setup entries }) (choices (rounds - round) setup (world_of setup entries) picker)).entries ≡ (run setup (choice setup picks)).entries) where
  -- after the last round, and where nobody can go, the entries are those of the whole run
  pub ended_by : rounds ≤ round → entries ≡ (run after (choice after picks)).entries
  ended_by over =
      let none : zero ≡ rounds - round = omega (arith, over) in
      sym (no_round_left setup entries picker)
      ∙ ap (λ n. (run_from setup (record { entries = entries; world = world_of setup entries }) (choices n setup (world_of setup entries) picker)).entries) none
      ∙ going ∙ ap (λ s. (run s (choice s picks)).entries) same

  pub stopped_by : round < rounds → picked setup (world_of setup entries) picker ≡ None → entries ≡ (run after (choice after picks)).entries
  stopped_by less none =
      let left : suc (rounds - (round + 1)) ≡ rounds - round = omega (arith, less) in
      sym (none_left setup entries (rounds - (round + 1)) picker none)
      ∙ ap (λ n. (run_from setup (record { entries = entries; world = world_of setup entries }) (choices n setup (world_of setup entries) picker)).entries) left
      ∙ going ∙ ap (λ s. (run s (choice s picks)).entries) same

  -- and a round more goes on
  pub goes_by : (number : ℕ) (new : Picker) (entries' : List Entry) → round < rounds → picked setup (world_of setup entries) picker ≡ Some (record { task = number; after = new })
      → entries' ≡ made entries (go setup (world_of setup entries) number)
      → (run_from after (record { entries = entries'; world = world_of after entries' }) (choices (rounds - (round + 1)) after (world_of after entries') new)).entries ≡ (run after (choice after picks)).entries
  goes_by number new entries' less picks' is =
      let left : suc (rounds - (round + 1)) ≡ rounds - round = omega (arith, less) in
      subst (λ s. (run_from s (record { entries = entries'; world = world_of s entries' }) (choices (rounds - (round + 1)) s (world_of s entries') new)).entries ≡ (run s (choice s picks)).entries) same
      (ap (λ (r : Ran). r.entries) (round_goes setup entries entries' number (rounds - (round + 1)) picker new picks' is)
      ∙ ap (λ n. (run_from setup (record { entries = entries; world = world_of setup entries }) (choices n setup (world_of setup entries) picker)).entries) left ∙ going)
