use Rattle.std.proofs.Common.{◌≡◌, ℕ, slice_get, Some, ap}
use base.Stored.{Gv, gnil}
use Rattle.atomic_table.specs.Seated.{TableId}
use Rattle.task_gate.specs.Names.{gate_id}
use Rattle.task_gate.specs.Passes.{IsAt, IsNew, number_of}
use Rattle.task_gate.specs.declared.passes.Pass.{Pass}
use Rattle.task_gate.proofs.tests.opened.Goals as goal

at : (z : TableId) (b : Gv) (k : ℕ) (p : Pass) → IsNew z b k p → IsAt z k p
at z b k p new = (new.0, new.2, ap number_of new.3)

pub returns-clause-first : goal.returns-clause-first
returns-clause-first c =
    let z = gate_id c.in-Ok.gate in
    let new = λ (k : ℕ) (p : Pass) (there : slice_get c.in-Ok.passes.items k ≡ Some p). at z gnil k p (c.in-Ok.ensures.passes k p there) in
    (new 0 _ (ap (λ l. slice_get l 0) c.in-Some.ensures), new 1 _ (ap (λ l. slice_get l 1) c.in-Some.ensures))

pub returns-clause-second : goal.returns-clause-second
returns-clause-second c =
    let z = gate_id c.in-Ok.gate in
    let new = λ (k : ℕ) (p : Pass) (there : slice_get c.in-Ok.passes.items k ≡ Some p). at z gnil k p (c.in-Ok.ensures.passes k p there) in
    (new 2 _ (ap (λ l. slice_get l 2) c.in-Some.ensures), new 3 _ (ap (λ l. slice_get l 3) c.in-Some.ensures))

pub returns-clause-own : goal.returns-clause-own
returns-clause-own c = at (gate_id c.in-Ok.gate) gnil 4 c.in-Some.passes.2 (c.in-Ok.ensures.passes 4 c.in-Some.passes.2 (ap (λ l. slice_get l 4) c.in-Some.ensures))
