use Rattle.std.proofs.Common.{◌≡◌, sym, ap, subst, ◌∙◌}
use Rattle.c_code.specs.FlatCode.{FlatCode}
use Rattle.c_compile.specs.Correct.{Behaves}
use Rattle.run_model.specs.Setup.{setup_of}
use Rattle.run_model.specs.Run.{run}
use Rattle.run_model.specs.Choice.{choice}
use Rattle.node_core.specs.Held.{Held}
use Rattle.task_rounds.specs.Rounds.{Plays, Keeps}
use Rattle.picked_run.proofs.Recording.{plays_first, keeps_first, records}
use Rattle.picked_run.proofs.run.run_picked.Goals as goal

pub run_to_end-requires-clause-plays : goal.run_to_end-requires-clause-plays
run_to_end-requires-clause-plays c = subst Plays (sym c.in_ok-node.ensures) (plays_first c.args.setup c.requires.valid c.requires.built)

pub run_to_end-requires-clause-keeps : goal.run_to_end-requires-clause-keeps
run_to_end-requires-clause-keeps c = λ number seat at.
    subst (λ (h : Held). Keeps h number seat) (sym c.in_ok-node.ensures)
    (keeps_first c.args.setup c.in_ok-code-2.code.value c.in_ok-tasks.tasks.items (subst (λ (f : FlatCode). Behaves f (setup_of c.args.setup).program) (sym c.in_ok-code-2.ensures.ok) c.in_ok-code.ensures.behaves)
    c.in_ok-tasks.ensures.fresh number seat at)

pub returns-clause-records : goal.returns-clause-records
returns-clause-records c =
    let first : c.in_ok-node.node.setup ≡ c.args.setup = ap (λ (h : Held). h.setup) c.in_ok-node.ensures in
    records c.args.setup c.requires.valid c.args.picks.now c.run_to_end.new.node (c.in_ok-run_to_end.ensures.setup ∙ first) c.in_ok-run_to_end.ensures.plays.running
    (c.in_ok-run_to_end.ensures.entries ∙ ap (λ g. (run (setup_of g) (choice (setup_of g) c.args.picks.now)).entries) first)
    c.messages_arrive_whole.ensures.orderly c.into_record.result c.into_record.ensures.setup c.into_record.ensures.entries c.into_record.ensures.legal c.into_record.ensures.ended c.into_record.ensures.ranks c.into_record.ensures.finished
