-- Runs by their steps.
use Rattle.std.proofs.Common.{◌≡◌, ◌≤◌, ◌+◌, ℕ, suc, List, [], ◌∷◌, ◌++◌, length, refl, ap, sym, ◌∙◌, subst, append_assoc, length-append, arith}
use Rattle.mpc_base.specs.declared.journals.Entry.{Entry}
use Rattle.run_model.specs.Setup.{Setup}
use Rattle.run_model.specs.World.{World}
use Rattle.run_model.specs.Steps.{Step, Stays, Makes}
use Rattle.run_model.specs.Go.{go}
use Rattle.run_model.specs.Run.{Ran, run_from, ran_step, run, order_of, world_of, at_start}
use Rattle.run_model.proofs.Lists.{same_beginning}

pub run_from-append : (setup : Setup) (r : Ran) (order more : List ℕ) → run_from setup r (order ++ more) ≡ run_from setup (run_from setup r order) more
unfolding run_from
run_from-append setup r [] more = refl
run_from-append setup r (first ∷ order) more = run_from-append setup (ran_step r (go setup r.world first)) order more

pub run_from-none : (setup : Setup) (r : Ran) → run_from setup r [] ≡ r
unfolding run_from
run_from-none setup r = refl

pub run_from-one : (setup : Setup) (r : Ran) (task : ℕ) → run_from setup r (task ∷ []) ≡ ran_step r (go setup r.world task)
unfolding run_from
run_from-one setup r task = refl

-- a run goes on by one step
pub run_from-last : (setup : Setup) (r : Ran) (order : List ℕ) (task : ℕ) → run_from setup r (order ++ task ∷ []) ≡ ran_step (run_from setup r order) (go setup (run_from setup r order).world task)
run_from-last setup r order task = run_from-append setup r order (task ∷ []) ∙ run_from-one setup (run_from setup r order) task

pub order_of-append : (entries more : List Entry) → order_of (entries ++ more) ≡ order_of entries ++ order_of more
order_of-append [] more = refl
order_of-append (x ∷ entries) more = ap (λ order. x.task ∷ order) (order_of-append entries more)

-- the run of one entry more
pub run-push : (setup : Setup) (entries : List Entry) (r : Ran) (e : Entry) (w : World) → run setup (order_of entries) ≡ r → go setup r.world e.task ≡ Makes e w
    → run setup (order_of (entries ++ e ∷ [])) ≡ record { entries = r.entries ++ e ∷ []; world = w }
run-push setup entries r e w ran went =
    ap (run setup) (order_of-append entries (e ∷ []))
    ∙ run_from-last setup (at_start setup) (order_of entries) e.task
    ∙ ap (λ x. ran_step x (go setup x.world e.task)) ran
    ∙ ap (ran_step r) went

pub world_of-push : (setup : Setup) (entries : List Entry) (e : Entry) (w : World) → go setup (world_of setup entries) e.task ≡ Makes e w → world_of setup (entries ++ e ∷ []) ≡ w
world_of-push setup entries e w went = ap (λ r. r.world) (run-push setup entries (run setup (order_of entries)) e w refl went)

pub entries-push : (setup : Setup) (entries : List Entry) (e : Entry) (w : World) → (run setup (order_of entries)).entries ≡ entries → go setup (world_of setup entries) e.task ≡ Makes e w
    → (run setup (order_of (entries ++ e ∷ []))).entries ≡ entries ++ e ∷ []
entries-push setup entries e w legal went =
    ap (λ r. r.entries) (run-push setup entries (run setup (order_of entries)) e w refl went) ∙ ap (λ es. es ++ e ∷ []) legal

-- a run that goes on has its entries in front of those that it makes, of which there is one a step at most
pub record Extends (r after : Ran) (steps : ℕ) : Type 0 where
  pub more : List Entry
  pub is : after.entries ≡ r.entries ++ more
  pub few : length more ≤ steps

pub append_nil : {X : Type 0} (xs : List X) → xs ≡ xs ++ []
append_nil [] = refl
append_nil (x ∷ xs) = ap (λ ys. x ∷ ys) (append_nil xs)

extends_by : (setup : Setup) (r : Ran) (order : List ℕ) → ((r : Ran) → Extends r (run_from setup r order) (length order)) → (s : Step) → Extends r (run_from setup (ran_step r s) order) (length order + 1)
extends_by setup r order on Stays = let e = on r in record { more = e.more; is = e.is; few = omega (arith, e.few) }
extends_by setup r order on (Makes entry world) =
    let e = on (record { entries = r.entries ++ entry ∷ []; world = world }) in
    record { more = entry ∷ e.more; is = e.is ∙ append_assoc r.entries (entry ∷ []) e.more; few = omega (arith, e.few) }

pub run_from-extends : (setup : Setup) (r : Ran) (order : List ℕ) → Extends r (run_from setup r order) (length order)
unfolding run_from
run_from-extends setup r [] = record { more = []; is = append_nil r.entries; few = omega arith }
run_from-extends setup r (task ∷ order) =
    let e = extends_by setup r order (λ r'. run_from-extends setup r' order) (go setup r.world task) in
    record { more = e.more; is = e.is; few = omega (arith, e.few) }

length_order : (entries : List Entry) → length (order_of entries) ≡ length entries
length_order [] = refl
length_order (e ∷ entries) = ap suc (length_order entries)

-- a legal run's beginning is one
pub beginning_is_legal : (setup : Setup) (entries more : List Entry) → (run setup (order_of (entries ++ more))).entries ≡ entries ++ more → (run setup (order_of entries)).entries ≡ entries
beginning_is_legal setup entries more legal =
    let first = run_from-extends setup (at_start setup) (order_of entries) in
    let then' = run_from-extends setup (run setup (order_of entries)) (order_of more) in
    let whole : (run setup (order_of entries)).entries ++ then'.more ≡ entries ++ more =
    sym then'.is ∙ ap (λ (r : Ran). r.entries) (sym (run_from-append setup (at_start setup) (order_of entries) (order_of more)))
    ∙ ap (λ order. (run setup order).entries) (sym (order_of-append entries more)) ∙ legal in
    let total : length (run setup (order_of entries)).entries + length then'.more ≡ length entries + length more =
    sym (length-append (run setup (order_of entries)).entries then'.more) ∙ ap length whole ∙ length-append entries more in
    let early : length (run setup (order_of entries)).entries ≤ length entries =
    subst (λ n. length (run setup (order_of entries)).entries ≤ n) (length_order entries) (subst (λ (es : List Entry). length es ≤ length (order_of entries)) (sym first.is) first.few) in
    let late : length then'.more ≤ length more = subst (λ n. length then'.more ≤ n) (length_order more) then'.few in
    same_beginning (run setup (order_of entries)).entries entries then'.more more (omega (arith, total, early, late)) whole

-- what holds at the start, and after each step of a run of which it held before, holds of every run
pub run_keeps : (setup : Setup) (P : Ran → Type 0) → P (at_start setup)
    → ((r : Ran) (task : ℕ) (entry : Entry) (after : World) → P r → go setup r.world task ≡ Makes entry after → P (record { entries = r.entries ++ entry ∷ []; world = after }))
    → (order : List ℕ) → P (run setup order)
unfolding run_from
run_keeps setup P begins keeps order = along (at_start setup) begins order
  where
    stepped : (r : Ran) (task : ℕ) (s : Step) → P r → go setup r.world task ≡ s → P (ran_step r s)
    stepped r task Stays h e = h
    stepped r task (Makes entry world) h e = keeps r task entry world h e

    along : (r : Ran) → P r → (order : List ℕ) → P (run_from setup r order)
    along r h [] = h
    along r h (task ∷ order) = along (ran_step r (go setup r.world task)) (stepped r task (go setup r.world task) h refl) order

-- the same, where a step is one of a run of the setup
pub runs_keep : (setup : Setup) (P : Ran → Type 0) → P (at_start setup)
    → ((order : List ℕ) (task : ℕ) (entry : Entry) (after : World) → P (run setup order) → go setup (run setup order).world task ≡ Makes entry after → P (record { entries = (run setup order).entries ++ entry ∷ []; world = after }))
    → (order : List ℕ) → P (run setup order)
runs_keep setup P begins keeps order =
    (run_keeps setup (λ r. (order' : List ℕ) × (run setup order' ≡ r) × P r) ([], run_from-none setup (at_start setup), begins) along order).2
  where
    along : (r : Ran) (task : ℕ) (entry : Entry) (after : World) → (order' : List ℕ) × (run setup order' ≡ r) × P r → go setup r.world task ≡ Makes entry after
        → (order' : List ℕ) × (run setup order' ≡ record { entries = r.entries ++ entry ∷ []; world = after }) × P (record { entries = r.entries ++ entry ∷ []; world = after })
    along r task entry after (order', is, h) went = (
      order' ++ task ∷ [],
      run_from-last setup (at_start setup) order' task ∙ ap (λ x. ran_step x (go setup x.world task)) is ∙ ap (ran_step r) went,
      subst (λ (x : Ran). go setup x.world task ≡ Makes entry after → P x → P (record { entries = x.entries ++ entry ∷ []; world = after })) is (λ went' h'. keeps order' task entry after h' went') went h,
    )
