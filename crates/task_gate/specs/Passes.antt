-- What contracts say of a pass.
use Rattle.std.specs.Prelude.{◌≡◌, ℕ, ◌<◌, List, [], ◌∷◌, length, Bool, false, Some, slice_get}
use base.Stored.{Gv}
use Rattle.atomic_table.specs.Seated.{TableId}
use Rattle.task_gate.specs.Rule.{spent, ticket_of, history_of, at_stage, counted_view, leaving}
use Rattle.task_gate.specs.declared.views.View.{View}
use Rattle.task_gate.specs.declared.views.Stage.TheVariants.{Outside, Inside}
use Rattle.task_gate.specs.declared.passes.Pass.{Pass}

abbrev pub IsSized : TableId → Type 0
IsSized z = (z.words ≡ 3) × (z.slots ≡ 1)

abbrev pub view_or : List View → View
view_or [] = spent
view_or (v ∷ vs) = v

abbrev pub pass_view : Pass → View
pass_view p = view_or p.badge.views

abbrev pub number_of : List (ℕ × List (ℕ × Gv)) → ℕ
number_of [] = 0
number_of (c ∷ cs) = c.0

abbrev pub left_of : List (ℕ × List (ℕ × Gv)) → List (ℕ × Gv)
left_of [] = []
left_of (c ∷ cs) = c.1

-- a view that may draw tickets
abbrev pub IsVisitor : View → Type 0
IsVisitor v = (v.makes ≡ false) × (0 < v.parts) × (0 < length v.claims)

abbrev pub IsIn : Bool → View → Type 0
IsIn b v = v.stage ≡ Inside (ticket_of v.stage) (history_of v.stage) b

abbrev pub in_as : Bool → View → View
in_as b v = at_stage v (Inside (ticket_of v.stage) (history_of v.stage) b)

-- the view after it leaves with this history
abbrev pub gone : List (ℕ × Gv) → View → View
gone h v = at_stage (counted_view v (ticket_of v.stage) h) Outside

abbrev pub HasView : Pass → Type 0
HasView p = p.badge.views ≡ pass_view p ∷ []

-- the gate of a pass
abbrev pub gate_of : Pass → TableId
gate_of p = p.badge.table_id

-- the pass's own number and the history that it last left, and behind them those of the passes joined into it
abbrev pub claims : Pass → List (ℕ × List (ℕ × Gv))
claims p = (pass_view p).claims

abbrev pub number : Pass → ℕ
number p = number_of (claims p)

abbrev pub left : Pass → List (ℕ × Gv)
left p = left_of (claims p)

abbrev pub base_of : Pass → Gv
base_of p = (pass_view p).base

-- the history that it got when it entered
abbrev pub got : Pass → List (ℕ × Gv)
got p = history_of (pass_view p).stage

abbrev pub IsOutside : Pass → Type 0
IsOutside p = HasView p × IsVisitor (pass_view p) × ((pass_view p).stage ≡ Outside)

abbrev pub IsInside : Pass → Type 0
IsInside p = HasView p × IsVisitor (pass_view p) × IsIn false (pass_view p) × (p.got ≡ length (got p))

-- the same pass of the same gate
abbrev pub IsSame : Pass → Pass → Type 0
IsSame p q = (gate_of q ≡ gate_of p) × (base_of q ≡ base_of p)

-- the claims of a pass that leaves this history
abbrev pub leaving_with : List (ℕ × Gv) → List (ℕ × List (ℕ × Gv)) → List (ℕ × List (ℕ × Gv))
leaving_with = leaving

-- the pass number k of a gate, which has made no item and seen none
abbrev pub IsNew : TableId → Gv → ℕ → Pass → Type 0
IsNew z b k p = (gate_of p ≡ z) × (base_of p ≡ b) × IsOutside p × (claims p ≡ (k, []) ∷ [])

-- the passes of a gate by number from 0 on, which have made no item and seen none
abbrev pub AllNew : TableId → Gv → List Pass → Type 0
AllNew z b ps = (k : ℕ) (p : Pass) → slice_get ps k ≡ Some p → IsNew z b k p

-- a pass of that gate with that number, which is outside
abbrev pub IsAt : TableId → ℕ → Pass → Type 0
IsAt z n p = (gate_of p ≡ z) × IsOutside p × (number p ≡ n)
