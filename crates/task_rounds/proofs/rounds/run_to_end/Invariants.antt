use Rattle.std.proofs.Common.{◌≡◌, ◌-◌, length}
use Rattle.run_model.specs.Setup.{setup_of, tasks_of}
use Rattle.run_model.specs.Choice.{choices, choice}
use Rattle.run_model.specs.Run.{run, run_from}
use Rattle.node_core.specs.Held.{world_in}
use Rattle.task_picks.specs.Picked.{picker_of}
use Rattle.task_rounds.specs.Rounds.{Plays, AllKeep}
use Rattle.task_rounds.proofs.rounds.run_to_end.Given as goal

abbrev pub invariant-loop-round : goal.invariant-loop-round
invariant-loop-round l = record {
  plays : Plays l.node;
  setup : l.node.setup ≡ l.initial.node.setup;
  keeps : AllKeep l.node l.seats.items;
  all : length l.seats.items ≡ tasks_of (setup_of l.node.setup);
  going : (run_from (setup_of l.node.setup) (record { entries = l.node.entries; world = world_in l.node }) (choices (l.rounds - l._round) (setup_of l.node.setup) (world_in l.node) (picker_of l.picker))).entries
      ≡ (run (setup_of l.node.setup) (choice (setup_of l.node.setup) l.picks)).entries;
}
