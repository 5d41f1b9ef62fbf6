use Rattle.std.proofs.Common.{◌<◌, ℕ, ◌∙◌, subst}
use Rattle.topology.proofs.PlaceLaws.{compact_places, scatter_places}
use Rattle.topology.proofs.placements.place.Goals as goal

pub returns-in_ok-compact-in-Compact-clause-count : goal.returns-in_ok-compact-in-Compact-clause-count
returns-in_ok-compact-in-Compact-clause-count c =
    (compact_places c.args.tasks c.cores-count.result c.of.result c.cores-count.ensures.some (c.of.ensures ∙ c.in_ok-compact-in-Compact.ensures)).0

pub returns-in_ok-compact-in-Compact-clause-there : goal.returns-in_ok-compact-in-Compact-clause-there
returns-in_ok-compact-in-Compact-clause-there c =
    let places = compact_places c.args.tasks c.cores-count.result c.of.result c.cores-count.ensures.some (c.of.ensures ∙ c.in_ok-compact-in-Compact.ensures) in
    rw (← c.cores-count.ensures.count) places.1

pub returns-in_ok-scatter-in-Scatter-clause-count : goal.returns-in_ok-scatter-in-Scatter-clause-count
returns-in_ok-scatter-in-Scatter-clause-count c =
    let some = subst (λ (n : ℕ). 0 < n) c.cores-count.ensures.count c.cores-count.ensures.some in
    (scatter_places c.args.machine.now c.args.tasks c.of-in-Scatter.result some (c.of-in-Scatter.ensures ∙ c.in_ok-scatter-in-Scatter.ensures)).0

pub returns-in_ok-scatter-in-Scatter-clause-there : goal.returns-in_ok-scatter-in-Scatter-clause-there
returns-in_ok-scatter-in-Scatter-clause-there c =
    let some = subst (λ (n : ℕ). 0 < n) c.cores-count.ensures.count c.cores-count.ensures.some in
    (scatter_places c.args.machine.now c.args.tasks c.of-in-Scatter.result some (c.of-in-Scatter.ensures ∙ c.in_ok-scatter-in-Scatter.ensures)).1
