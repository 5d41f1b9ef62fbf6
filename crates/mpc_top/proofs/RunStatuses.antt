-- What the status of a run says of the run.
use Rattle.std.proofs.Common.{◌≡◌, ◌≢◌, ◌<◌, ◌≤◌, ◌+◌, ◌↔◌, ◌⊎◌, ◌||◌, ◌&&◌, ℕ, ℤ, zero, suc, pos, Bool, true, false, cond, nat_le, if◌then◌else◌, List, [], ◌∷◌, ◌++◌, length, slice_get, Option, Some, None, is_some, inl, inr, refl, sym, ap, ◌∙◌, subst, arith}
use Rattle.std.specs.List.{list_all, All, Any}
use Rattle.std.specs.Ordering.{int_eq}
use Rattle.std.proofs.lemmas.Bool.Decides.{Decides-int_eq}
use Rattle.std.proofs.lemmas.List.Sums.{AllPass-from_list_all, list_all-from_AllPass}
use Rattle.std.proofs.lemmas.List.Folds.{list_all_at}
use Rattle.mpc_values.specs.declared.calls.Call.{Call}
use Rattle.mpc_values.specs.declared.faults.Fault.{Fault}
use Rattle.mpc_values.specs.declared.faults.Fault.TheVariants.{Calls}
use Rattle.mpc_base.specs.declared.journals.Out.{Out}
use Rattle.mpc_base.specs.declared.journals.Out.TheVariants.{Waits, Did, Broke}
use Rattle.mpc_base.specs.declared.journals.Entry.{Entry}
use Rattle.mpc_base.specs.declared.journals.End.{End}
use Rattle.mpc_base.specs.declared.journals.End.TheVariants as end
use Rattle.c_tree.specs.Asking.{Next, Asks, Over, Misfit}
use Rattle.c_tree.specs.Next.{next_of}
use Rattle.c_tree.specs.ProgramOf.{program_of}
use Rattle.serial_model.specs.declared.records.Setup.{Setup}
use Rattle.serial_model.specs.declared.records.RunRecord.{RunRecord}
use Rattle.mpc_base.specs.declared.journals.RankEnd.{RankEnd}
use Rattle.mpc_base.specs.declared.journals.RankState.{RankState}
use Rattle.mpc_base.specs.declared.journals.RankState.TheVariants as rank
use Rattle.serial_model.specs.declared.lasts.Last.{Last}
use Rattle.serial_model.specs.World.{World, TaskState}
use Rattle.serial_model.specs.Go.{Act, Does, Fails, Unbuilt, act, Stays, acted, fails, visited, count_of, calls_limit, entry_of, answers_of, has_finished, has_ended, go, go_next, go_task}
use Rattle.serial_model.specs.Run.{Ran, run_from, ran_step, run, at_start, order_of, world_of, end_of, ending, rank_state, rank_ends_from, RecordsRun, status_of, is_zero_exit}
use Rattle.mpc_top.specs.RunStatuses.{IsBadExit, FinishedWell, FinishedBadly, IsFault, EndsInFault, made_status, IsStatusOf}

-- ---- a run's last entry is a fault exactly where a fault ended it

IsDid : Out → Type 0
IsDid (Did answer) = Unit {0}
IsDid (Broke fault) = ⊥
IsDid Waits = Unit {0}

AllDid : List Entry → Type 0
AllDid [] = Unit {0}
AllDid (e ∷ es) = IsDid e.out × AllDid es

AllDid-push : (entries : List Entry) (e : Entry) → AllDid entries → IsDid e.out → AllDid (entries ++ e ∷ [])
unfolding AllDid
AllDid-push [] e all did = (did, tt)
AllDid-push (x ∷ entries) e all did = (all.0, AllDid-push entries e all.1 did)

last_did : (before : List Entry) (e : Entry) → AllDid (before ++ e ∷ []) → IsDid e.out
unfolding AllDid
last_did [] e all = all.0
last_did (x ∷ before) e all = last_did before e all.1

did_or_fault : (out : Out) → IsDid out → IsFault out → ⊥
unfolding IsDid
did_or_fault (Did answer) did fault = fault
did_or_fault (Broke fault) did is = did
did_or_fault Waits did is = is

no_fault_last : (entries : List Entry) → AllDid entries → EndsInFault entries → ⊥
no_fault_last entries all ends = did_or_fault ends.entry.out (last_did ends.before ends.entry (subst AllDid ends.last all)) ends.fault

-- no entry is a fault and none ended the run, or the last is one and it did
Ties : Ran → Type 0
Ties r = ((r.world.last ≡ None) × AllDid r.entries) ⊎ ((last : Last) × (r.world.last ≡ Some last) × EndsInFault r.entries)

module _ (r : Ran) (none : r.world.last ≡ None) (all : AllDid r.entries) (task : ℕ) where
  as_before : Ties r
  unfolding Ties
  as_before = inl (none, all)

  ties_fails : (call : Call) (line : ℕ) (fault : Fault) → Ties (ran_step r (fails r.world task call line fault))
  unfolding Ties
  ties_fails call line fault = inr (_, refl, record { before = r.entries; entry = entry_of task call line (Broke fault); last = refl; fault = tt })

  ties_acted : (call : Call) (line : ℕ) (done : Act) → Ties (ran_step r (acted r.world task call line done))
  unfolding Ties IsDid
  ties_acted call line (Does answer m state) = inl (none, AllDid-push r.entries (entry_of task call line (Did answer)) all tt)
  ties_acted call line (Fails fault) = ties_fails call line fault
  ties_acted call line Unbuilt = as_before

  ties_visited : (state : TaskState) (call : Call) (line : ℕ) → Ties (ran_step r (visited r.world task state call line))
  ties_visited state call line =
      elim (nat_le calls_limit (count_of r.world task))
      as (λ full. Ties (ran_step r (if full then fails r.world task call line Calls else acted r.world task call line (act task r.world.memory state call)))) [
        | true ↦ ties_fails call line Calls
        | false ↦ ties_acted call line (act task r.world.memory state call)
      ]

  ties_next : (state : TaskState) (next : Next) → Ties (ran_step r (go_next r.world task state next))
  ties_next state (Asks call line) = ties_visited state call line
  ties_next state Over = as_before
  ties_next state Misfit = as_before

  ties_task : (setup : Setup) (state : Option TaskState) → Ties (ran_step r (go_task setup r.world task state))
  ties_task setup None = as_before
  ties_task setup (Some state) =
      elim (has_finished state)
      as (λ over. Ties (ran_step r (if over then Stays else go_next r.world task state (next_of (program_of setup.program) (answers_of r.world task))))) [
        | true ↦ as_before
        | false ↦ ties_next state (next_of (program_of setup.program) (answers_of r.world task))
      ]

no_last : (last : Option Last) (b : Bool) → (is_some last || b) ≡ false → last ≡ None
no_last None b e = refl
no_last (Some last) b e = absurd (cc)

ties_go : (setup : Setup) (r : Ran) (task : ℕ) → Ties r → Ties (ran_step r (go setup r.world task))
unfolding Ties
ties_go setup r task (inl before) =
    elim (has_ended r.world)
    as (λ ended. Ties (ran_step r (if ended then Stays else go_task setup r.world task (slice_get r.world.tasks task)))) [
      | true ↦ as_before r before.0 before.1 task
      | false ↦ ties_task r before.0 before.1 task setup (slice_get r.world.tasks task)
    ]
ties_go setup r task (inr before) =
    let stays : go setup r.world task ≡ Stays = ap (λ last. if is_some last || list_all has_finished r.world.tasks then Stays else go_task setup r.world task (slice_get r.world.tasks task)) before.1 in
    subst (λ step. Ties (ran_step r step)) (sym stays) (inr before)

ties_from : (setup : Setup) (r : Ran) (order : List ℕ) → Ties r → Ties (run_from setup r order)
unfolding run_from
ties_from setup r [] ties = ties
ties_from setup r (task ∷ order) ties = ties_from setup (ran_step r (go setup r.world task)) order (ties_go setup r task ties)

ties_run : (setup : Setup) (order : List ℕ) → Ties (run setup order)
unfolding Ties AllDid
ties_run setup order = ties_from setup (at_start setup) order (inl (refl, tt))

-- the status of a finished run
of_all : Bool → ℕ
of_all b = if b then 0 else 1

one_at_most : (b : Bool) → of_all b ≡ 2 → ⊥
unfolding of_all
one_at_most true e = omega (arith, e)
one_at_most false e = omega (arith, e)

-- the status of a run is 2 exactly where a fault ended it
not_two : (b : Bool) (ranks : List RankEnd) → status_of (end_of None b) ranks ≡ 2 → ⊥
unfolding of_all
not_two true ranks e = one_at_most (list_all (λ r. is_zero_exit r.state) ranks) e
not_two false ranks e = omega (arith, e)

two_tied : (run' : RunRecord) (r : Ran) → Ties r → r.entries ≡ run'.journal.entries → ending r.world ≡ run'.end → (status_of run'.end run'.ranks ≡ 2) ↔ EndsInFault run'.journal.entries
unfolding Ties
two_tied run' r (inl none) entries ended =
    let is : end_of None (list_all has_finished r.world.tasks) ≡ run'.end = sym (ap (λ last. end_of last (list_all has_finished r.world.tasks)) none.0) ∙ ended in
    (λ two. absurd (not_two (list_all has_finished r.world.tasks) run'.ranks (ap (λ e. status_of e run'.ranks) is ∙ two)), λ ends. absurd (no_fault_last run'.journal.entries (subst AllDid entries none.1) ends))
two_tied run' r (inr some) entries ended =
    let is : end_of (Some some.0) (list_all has_finished r.world.tasks) ≡ run'.end = sym (ap (λ last. end_of last (list_all has_finished r.world.tasks)) some.1) ∙ ended in
    (λ two. subst EndsInFault entries some.2, λ ends. sym (ap (λ e. status_of e run'.ranks) is))

two_of : (run' : RunRecord) → RecordsRun run' → (status_of run'.end run'.ranks ≡ 2) ↔ EndsInFault run'.journal.entries
two_of run' records =
    two_tied run' (run run'.setup (order_of run'.journal.entries)) (ties_run run'.setup (order_of run'.journal.entries)) records.legal.entries records.ended

-- ---- what the exit codes say

zero_exit : (state : RankState) → is_zero_exit state ≡ true → state ≡ rank.Exit (pos 0)
zero_exit (rank.Exit code) e = ap rank.Exit ((Decides-int_eq code (pos 0)).0 e)
zero_exit rank.Stopped e = absurd (cc)
zero_exit (rank.Blocked call line) e = absurd (cc)
zero_exit (rank.Fault fault line) e = absurd (cc)
zero_exit (rank.Aborted code line) e = absurd (cc)

exit_zero : (state : RankState) → state ≡ rank.Exit (pos 0) → is_zero_exit state ≡ true
exit_zero state e = ap is_zero_exit e

ZeroExits : List RankEnd → Type 0
ZeroExits ranks = All (λ r. r.state ≡ rank.Exit (pos 0)) ranks

zeros : (ranks : List RankEnd) → list_all (λ r. is_zero_exit r.state) ranks ≡ true → ZeroExits ranks
unfolding ZeroExits
zeros ranks e k d h = zero_exit _ (AllPass-from_list_all (λ r. is_zero_exit r.state) ranks e k d h)

all_zeros : (ranks : List RankEnd) → ZeroExits ranks → list_all (λ r. is_zero_exit r.state) ranks ≡ true
unfolding ZeroExits
all_zeros ranks all = list_all-from_AllPass (λ r. is_zero_exit r.state) ranks (λ k d h. exit_zero _ (all k d h))

bad_not_zero : (state : RankState) → IsBadExit state → is_zero_exit state ≡ false
bad_not_zero (rank.Exit code) bad = by_test (int_eq code (pos 0)) refl
  where
    by_test : (b : Bool) → int_eq code (pos 0) ≡ b → b ≡ false
    by_test true e = absurd (bad ((Decides-int_eq code (pos 0)).0 e))
    by_test false e = refl
bad_not_zero rank.Stopped bad = absurd bad
bad_not_zero (rank.Blocked call line) bad = absurd bad
bad_not_zero (rank.Fault fault line) bad = absurd bad
bad_not_zero (rank.Aborted code line) bad = absurd bad

BadExit : List RankEnd → Type 0
BadExit ranks = Any (λ r. IsBadExit r.state) ranks

not_all_zeros : (ranks : List RankEnd) → BadExit ranks → list_all (λ r. is_zero_exit r.state) ranks ≡ false
unfolding BadExit
not_all_zeros ranks bad =
    list_all_at (λ r. is_zero_exit r.state) ranks bad.0 bad.1 bad.2 (ap (λ r. is_zero_exit r.state) bad.3 ∙ bad_not_zero bad.1.state bad.4)

later_bad : (r : RankEnd) (ranks : List RankEnd) → BadExit ranks → BadExit (r ∷ ranks)
unfolding BadExit
later_bad r ranks bad = (suc bad.0, bad.1, omega (arith, bad.2), bad.3, bad.4)

module _ (last : Option Last) where
  bad_here : (task : ℕ) (state : TaskState) → has_finished state ≡ true → is_zero_exit (rank_state task last state.exit) ≡ false → IsBadExit (rank_state task last state.exit)
  bad_here task state finished bad = by_exit state.exit finished bad
    where
      by_exit : (o : Option ℤ) → is_some o ≡ true → is_zero_exit (rank_state task last o) ≡ false → IsBadExit (rank_state task last o)
      by_exit None finished bad = absurd (cc)
      by_exit (Some code) finished bad = λ zero'. let yes : int_eq code (pos 0) ≡ true = (Decides-int_eq code (pos 0)).1 zero' in absurd (cc)

  -- where all tasks have finished, and not all with 0, one has another exit code
  some_bad : (task : ℕ) (tasks : List TaskState) → list_all has_finished tasks ≡ true → list_all (λ r. is_zero_exit r.state) (rank_ends_from task last tasks) ≡ false → BadExit (rank_ends_from task last tasks)
  unfolding BadExit
  some_bad task [] finished bad = absurd (cc)
  some_bad task (state ∷ more) finished bad = by_first (some_bad (task + 1) more) (has_finished state) (is_zero_exit (rank_state task last state.exit)) refl refl finished bad
    where
      by_first : (list_all has_finished more ≡ true → list_all (λ r. is_zero_exit r.state) (rank_ends_from (task + 1) last more) ≡ false → BadExit (rank_ends_from (task + 1) last more)) → (f z : Bool) → has_finished state ≡ f → is_zero_exit (rank_state task last state.exit) ≡ z → (f && list_all has_finished more) ≡ true
          → (z && list_all (λ r. is_zero_exit r.state) (rank_ends_from (task + 1) last more)) ≡ false → BadExit (rank_ends_from task last (state ∷ more))
      by_first rest false z is_f is_z finished bad = absurd (cc)
      by_first rest true true is_f is_z finished bad = later_bad _ _ (rest finished bad)
      by_first rest true false is_f is_z finished bad = (0, record { state = rank_state task last state.exit; output = state.output }, omega arith, refl, bad_here task state is_f is_z)

-- ---- the status

finished_small : (b : Bool) → of_all b ≤ 2
unfolding of_all
finished_small true = omega arith
finished_small false = omega arith

status_small : (last : Option Last) (b : Bool) (ranks : List RankEnd) → status_of (end_of last b) ranks ≤ 2
unfolding of_all
status_small None true ranks = finished_small (list_all (λ r. is_zero_exit r.state) ranks)
status_small None false ranks = omega arith
status_small (Some last) b ranks = omega arith

-- the status of a run of one task is at most 2
pub run_small : (run' : RunRecord) → RecordsRun run' → made_status (Some run') ≤ 2
run_small run' records =
    let w = world_of run'.setup run'.journal.entries in
    subst (λ e. status_of e run'.ranks ≤ 2) records.ended (status_small w.last (list_all has_finished w.tasks) run'.ranks)

-- a run that did not go on and has a status below 2 finished
below_two : (e : End) (ranks : List RankEnd) → e ≢ end.Going → status_of e ranks < 2 → e ≡ end.Finished
below_two end.Going ranks ends small = absurd (ends refl)
below_two end.Finished ranks ends small = refl
below_two (end.Fault task fault line) ranks ends small = absurd (omega (arith, small))
below_two (end.Abort task code line) ranks ends small = absurd (omega (arith, small))
below_two end.Stuck ranks ends small = absurd (omega (arith, small))
below_two end.NoThread ranks ends small = absurd (omega (arith, small))
below_two end.NoMemory ranks ends small = absurd (omega (arith, small))

is_zero : (b : Bool) → of_all b ≡ 0 → b ≡ true
unfolding of_all
is_zero true e = refl
is_zero false e = absurd (omega (arith, e))

is_one : (b : Bool) → of_all b ≡ 1 → b ≡ false
unfolding of_all
is_one true e = absurd (omega (arith, e))
is_one false e = refl

module _ (run' : RunRecord) (records : RecordsRun run') where
  finished_status : run'.end ≡ end.Finished → status_of run'.end run'.ranks ≡ of_all (list_all (λ r. is_zero_exit r.state) run'.ranks)
  unfolding of_all
  finished_status finished = ap (λ e. status_of e run'.ranks) finished

  well : status_of run'.end run'.ranks ≡ 0 → FinishedWell run'
  unfolding ZeroExits
  well zero_is =
      let finished = below_two run'.end run'.ranks records.ends (omega (arith, zero_is)) in
      record { finished = finished; exits = zeros run'.ranks (is_zero _ (sym (finished_status finished) ∙ zero_is)) }

  of_well : FinishedWell run' → status_of run'.end run'.ranks ≡ 0
  unfolding of_all ZeroExits
  of_well w = finished_status w.finished ∙ ap of_all (all_zeros run'.ranks w.exits)

  world : World
  world = world_of run'.setup run'.journal.entries

  all_finished : (last : Option Last) (b : Bool) → end_of last b ≡ end.Finished → b ≡ true
  all_finished None true e = refl
  all_finished None false e = absurd (cc)
  all_finished (Some last) b e = absurd (cc)

  badly : status_of run'.end run'.ranks ≡ 1 → FinishedBadly run'
  unfolding world BadExit
  badly one_is =
      let finished = below_two run'.end run'.ranks records.ends (omega (arith, one_is)) in
      let bad : list_all (λ r. is_zero_exit r.state) run'.ranks ≡ false = is_one _ (sym (finished_status finished) ∙ one_is) in
      let bad' : list_all (λ r. is_zero_exit r.state) (rank_ends_from 0 world.last world.tasks) ≡ false = ap (λ ranks. list_all (λ r. is_zero_exit r.state) ranks) records.ranks ∙ bad in
      let all = all_finished world.last (list_all has_finished world.tasks) (records.ended ∙ finished) in
      record { finished = finished; exit = subst BadExit records.ranks (some_bad world.last 0 world.tasks all bad') }

  of_badly : FinishedBadly run' → status_of run'.end run'.ranks ≡ 1
  unfolding of_all BadExit
  of_badly w = finished_status w.finished ∙ ap of_all (not_all_zeros run'.ranks w.exit)

-- the status says what the run was
pub says_status : (run' : RunRecord) (status : ℕ) → RecordsRun run' → status ≡ status_of run'.end run'.ranks → IsStatusOf run' status
says_status run' status records is = record {
  is = is;
  zero_is = (λ e. well run' records (sym is ∙ e), λ w. is ∙ of_well run' records w);
  one_is = (λ e. badly run' records (sym is ∙ e), λ w. is ∙ of_badly run' records w);
  two_is = (λ e. (two_of run' records).0 (sym is ∙ e), λ w. is ∙ (two_of run' records).1 w);
}
