-- The record of a run that has ended.
use Rattle.std.proofs.Common.{◌≡◌, ◌≢◌, List, [], ◌∷◌, refl, ap, sym, ◌∙◌}
use Rattle.mpc_base.specs.declared.journals.Entry.{Entry}
use Rattle.mpc_base.specs.declared.journals.End.{End}
use Rattle.mpc_base.specs.declared.journals.End.TheVariants.{Going}
use Rattle.serial_model.specs.declared.records.Setup.{Setup}
use Rattle.mpc_base.specs.declared.journals.RankEnd.{RankEnd}
use Rattle.serial_model.specs.Run.{RecordsRun, run, order_of, ending, rank_ends, rank_state, world_of}
use Rattle.serial_node.specs.declared.state.State.{State}
use Rattle.serial_node.specs.IsRun.{IsRun}

pub records : (setup : Setup) (entries : List Entry) (state : State) → IsRun setup entries state → (kept : List Entry) (end' : End) (ranks : List RankEnd)
    → kept ≡ entries → end' ≡ ending (world_of setup entries) → ending (world_of setup entries) ≢ Going
    → ranks ≡ record { state = rank_state 0 state.last state.exit; output = state.output.items } ∷ []
    → RecordsRun (record { setup = setup; journal = record { tasks = 1; entries = kept }; end = end'; ranks = ranks })
records setup entries state is kept end' ranks kept_is end_is ended ranks_is =
    let legal : (run setup (order_of kept)).entries ≡ kept = rw kept_is is.legal in
    let same : ending (world_of setup kept) ≡ end' = rw kept_is (sym end_is) in
    let ends : end' ≢ Going = λ going. ended (sym end_is ∙ going) in
    let seen : rank_ends (world_of setup kept) ≡ ranks = rw kept_is (ap rank_ends is.world ∙ sym ranks_is) in
    record { legal = record { tasks = refl; entries = legal }; ended = same; ends = ends; ranks = seen }
