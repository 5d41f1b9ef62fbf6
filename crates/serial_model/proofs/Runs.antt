-- Laws of runs.
use Rattle.std.proofs.Common.{◌≡◌, ℕ, List, [], ◌∷◌, ◌++◌, refl, ap, ◌∙◌}
use Rattle.mpc_base.specs.declared.journals.Entry.{Entry}
use Rattle.serial_model.specs.declared.records.Setup.{Setup}
use Rattle.serial_model.specs.World.{World}
use Rattle.serial_model.specs.Go.{go, Makes}
use Rattle.serial_model.specs.Run.{Ran, run_from, ran_step, run, order_of, world_of, at_start}

-- a run goes on by one step
pub run_from-append : (setup : Setup) (r : Ran) (order : List ℕ) (task : ℕ) → run_from setup r (order ++ task ∷ []) ≡ ran_step (run_from setup r order) (go setup (run_from setup r order).world task)
unfolding run_from
run_from-append setup r [] task = refl
run_from-append setup r (first ∷ order) task = run_from-append setup (ran_step r (go setup r.world first)) order task

pub run-start : (setup : Setup) → run setup [] ≡ at_start setup
unfolding run_from
run-start setup = refl

pub order_of-append : (entries : List Entry) (e : Entry) → order_of (entries ++ e ∷ []) ≡ order_of entries ++ e.task ∷ []
order_of-append [] e = refl
order_of-append (x ∷ entries) e = ap (λ order. x.task ∷ order) (order_of-append entries e)

-- the run of one entry more
pub run-push : (setup : Setup) (entries : List Entry) (r : Ran) (e : Entry) (w : World) → run setup (order_of entries) ≡ r → go setup r.world e.task ≡ Makes e w
    → run setup (order_of (entries ++ e ∷ [])) ≡ record { entries = r.entries ++ e ∷ []; world = w }
run-push setup entries r e w ran went =
    ap (run setup) (order_of-append entries e)
    ∙ run_from-append setup (at_start setup) (order_of entries) e.task
    ∙ ap (λ x. ran_step x (go setup x.world e.task)) ran
    ∙ ap (ran_step r) went

-- the world of the run of one entry more, and its entries
pub world_of-push : (setup : Setup) (entries : List Entry) (e : Entry) (w : World) → go setup (world_of setup entries) e.task ≡ Makes e w → world_of setup (entries ++ e ∷ []) ≡ w
world_of-push setup entries e w went = ap (λ r. r.world) (run-push setup entries (run setup (order_of entries)) e w refl went)

pub entries-push : (setup : Setup) (entries : List Entry) (e : Entry) (w : World) → (run setup (order_of entries)).entries ≡ entries → go setup (world_of setup entries) e.task ≡ Makes e w
    → (run setup (order_of (entries ++ e ∷ []))).entries ≡ entries ++ e ∷ []
entries-push setup entries e w legal went =
    ap (λ r. r.entries) (run-push setup entries (run setup (order_of entries)) e w refl went) ∙ ap (λ es. es ++ e ∷ []) legal
