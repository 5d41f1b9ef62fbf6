-- What the tasks are at the start, and what the record of a run tells at its end.
use Rattle.std.proofs.Common.{◌≡◌, ◌≢◌, inl, ℕ, true, false, List, [], slice_get, All, Some, None, Result, Ok, Err, IfOk, refl, sym, ap, subst, ◌∙◌}
use Rattle.std.specs.Option.{unwrap_or}
use Rattle.std.proofs.lemmas.Option.{slice_get_within, get_or_from_slice_get}
use Rattle.mpc_values.specs.declared.failures.Memory.{Memory}
use Rattle.mpc_base.specs.declared.journals.End.TheVariants as end
use Rattle.mpc_base.specs.declared.journals.Journal.{Journal}
use Rattle.mpc_base.specs.declared.picks.Picks.{Picks}
use Rattle.c_code.specs.FlatCode.{FlatCode}
use Rattle.c_compile.specs.Correct.{Behaves}
use Rattle.task_vm.specs.Tasks.{HasHad}
use Rattle.run_model.specs.declared.records.Setup.{Setup as Given}
use Rattle.run_model.specs.declared.records.RunRecord.{RunRecord}
use Rattle.run_model.specs.Setup.{Setup, setup_of}
use Rattle.run_model.specs.Valid.{Valid}
use Rattle.run_model.specs.World.{World}
use Rattle.run_model.specs.Steps.{Makes}
use Rattle.run_model.specs.Go.{go}
use Rattle.run_model.specs.Choice.{choice}
use Rattle.run_model.specs.Ending.{ending}
use Rattle.run_model.specs.Run.{Ran, run, at_start, order_of, world_of, LegalRun}
use Rattle.run_model.specs.Ranks.{rank_ends}
use Rattle.run_model.specs.Orderly.{Orderly}
use Rattle.run_model.specs.Records as kept
use Rattle.run_model.specs.Records.{RecordsRun, MapsAgree, EndsAs}
use Rattle.run_model.proofs.Runs.{run_from-none, run-push, run_keeps}
use Rattle.run_model.proofs.Steps.{step_is, task_is}
use Rattle.node_core.specs.Held.{Held, world_in, end_of}
use Rattle.node_core.proofs.Beginnings.{none_asked}
use Rattle.task_rounds.specs.declared.seats.Seat.{Seat}
use Rattle.task_rounds.specs.Rounds.{AsksBuilt, Plays, Keeps, IsNew}
use Rattle.picked_run.proofs.Ending.{runs_end}

-- a node that begins
abbrev pub first_held : Given → Held
first_held given = record { setup = given; entries = []; stop = None }

pub plays_first : (given : Given) → Valid (setup_of given) → AsksBuilt (setup_of given) → Plays (first_held given)
plays_first given valid built = record {
  valid = valid;
  legal = ap (λ (r : Ran). r.entries) (run_from-none (setup_of given) (at_start (setup_of given)));
  running = refl;
  built = built;
}

pub keeps_first : (given : Given) (code : FlatCode) (seats : List Seat) → Behaves code (setup_of given).program → All (IsNew code) seats → (number : ℕ) (seat : Seat) → slice_get seats number ≡ Some seat
    → Keeps (first_held given) number seat
keeps_first given code seats behaves fresh number seat at =
    let new : IsNew code seat = subst (IsNew code) (get_or_from_slice_get seats number seat seat at) (fresh number seat (slice_get_within seats number seat at)) in
    record {
      behaves = subst (λ c. Behaves c (setup_of given).program) (sym new.code) behaves;
      had = λ goes. subst (HasHad seat.task) (sym (none_asked (setup_of given) number)) new.begun;
      over = λ ended. absurd (let twice : true ≡ false = sym ended ∙ new.still in cc twice);
      asks = new.asks;
    }

-- a run is that of its own entries
pub own_run : (setup : Setup) (order : List ℕ) → run setup (order_of (run setup order).entries) ≡ run setup order
own_run setup order =
    run_keeps setup (λ (r : Ran). run setup (order_of r.entries) ≡ r) (run_from-none setup (at_start setup))
    (λ r task entry after h went.
    run-push setup r.entries r entry after h (subst (λ t. go setup r.world t ≡ Makes entry after) (sym (task_is (step_is setup r.world task entry after went))) went)) order

module _ (given : Given) (valid : Valid (setup_of given)) (picks : Picks) (node : Held) (setups : node.setup ≡ given) (running : node.stop ≡ None)
    (entries : node.entries ≡ (run (setup_of given) (choice (setup_of given) picks)).entries) where
  ended : ending (setup_of node.setup) (world_in node) ≢ end.Going
  ended going =
      let world : world_of (setup_of given) node.entries ≡ (run (setup_of given) (choice (setup_of given) picks)).world =
      ap (world_of (setup_of given)) entries ∙ ap (λ (r : Ran). r.world) (own_run (setup_of given) (choice (setup_of given) picks)) in
      runs_end (setup_of given) valid picks
      (ap (ending (setup_of given)) (sym world) ∙ ap (λ g. ending (setup_of g) (world_of (setup_of g) node.entries)) (sym setups) ∙ going)

  pub records : ((setup : Setup) (journal : Journal) → LegalRun setup journal → Orderly setup journal) → (did : Result RunRecord Memory)
      → IfOk did (λ r. r.setup ≡ node.setup) → IfOk did (λ r. r.journal.entries ≡ node.entries) → IfOk did (λ r. LegalRun (setup_of node.setup) r.journal) → IfOk did (λ r. r.end ≡ end_of node)
      → IfOk did (λ r. rank_ends (world_in node) (end_of node) ≡ r.ranks) → IfOk did (λ r. end_of node ≡ end.Finished → MapsAgree r.map r.words (world_in node).core.memory) → IfOk did RecordsRun
  records orderly (Err memory) setup journal legal finish ranks finished = tt
  records orderly (Ok r) setup journal legal finish ranks finished =
      let world : kept.world_in r ≡ world_in node = ap (λ g. world_of (setup_of g) r.journal.entries) setup ∙ ap (world_of (setup_of node.setup)) journal in
      let own : end_of node ≡ ending (setup_of node.setup) (world_in node) = ap (λ o. unwrap_or o (ending (setup_of node.setup) (world_in node))) running in
      let same : ending (setup_of r.setup) (kept.world_in r) ≡ ending (setup_of node.setup) (world_in node) = ap (λ g. ending (setup_of g) (kept.world_in r)) setup ∙ ap (ending (setup_of node.setup)) world in
      let is : LegalRun (setup_of r.setup) r.journal = subst (λ g. LegalRun (setup_of g) r.journal) (sym setup) legal in
      record {
        legal = is;
        ended = inl (finish ∙ own ∙ sym same, (λ going. ended (sym same ∙ going)));
        ranks = ap (λ w. rank_ends w r.end) world ∙ ap (rank_ends (world_in node)) finish ∙ ranks;
        orderly = orderly (setup_of r.setup) r.journal is;
        map = λ done. subst (λ (w : World). MapsAgree r.map r.words w.core.memory) (sym world) (finished (sym finish ∙ done));
      }
