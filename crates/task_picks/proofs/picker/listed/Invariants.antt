use Rattle.std.proofs.Common.{◌≡◌, ℕ, ◌-◌, length, drop}
use Rattle.run_model.specs.Setup.{setup_of}
use Rattle.run_model.specs.Choice.{listed}
use Rattle.node_core.specs.Held.{world_in}
use Rattle.task_picks.proofs.picker.listed.Given as goal

abbrev pub invariant-loop-place : goal.invariant-loop-place
invariant-loop-place l =
    (next : ℕ) → listed (setup_of l.node.setup) (world_in l.node) (drop l.initial.place l.tasks) next ≡ listed (setup_of l.node.setup) (world_in l.node) (drop l.place l.tasks) next

abbrev pub decreases-loop-place : goal.decreases-loop-place
decreases-loop-place l = length l.tasks - l.place
