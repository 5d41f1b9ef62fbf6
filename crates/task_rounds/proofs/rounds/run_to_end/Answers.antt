use Rattle.std.proofs.Common.{◌≡◌, ◌<◌, ◌+◌, ◌-◌, ◌*◌, length, refl, sym, ap, subst, ◌∙◌, arith}
use Rattle.std.proofs.lemmas.Option.{slice_get_read}
use Rattle.run_model.specs.Setup.{setup_of, tasks_of}
use Rattle.node_core.proofs.Places.{length_set}
use Rattle.task_picks.specs.Picked.{picker_of}
use Rattle.task_rounds.proofs.Going.{first_round, ended_by, stopped_by, goes_by, all_keep}
use Rattle.task_rounds.proofs.rounds.run_to_end.Goals as goal

pub loop-round-init : goal.loop-round-init
loop-round-init c = record {
  plays = c.requires.plays;
  setup = refl;
  keeps = c.requires.keeps;
  all = c.requires.all;
  going = first_round (setup_of c.args.node.now.setup) c.args.node.now.entries _ c.args.picks.now (picker_of c.in_ok-picker.picker) c.requires.begins
      ((let whole : c.tasks.result * c.setup.result.now.calls + 1 - 0 ≡ c.tasks.result * c.setup.result.now.calls + 1 = omega arith in whole) ∙ ap (λ n. n * c.setup.result.now.calls + 1) c.tasks.ensures.tasks ∙ ap (λ s. tasks_of (setup_of c.args.node.now.setup) * s.calls + 1) c.setup.ensures) c.in_ok-picker.ensures;
}

pub returns-in-None-clause-entries : goal.returns-in-None-clause-entries
returns-in-None-clause-entries c =
    let at = c.loop-round in
    stopped_by (setup_of at.node.setup) (setup_of c.args.node.now.setup) at.node.entries _ at._round c.args.picks.now (picker_of at.picker) (ap setup_of at.invariant.setup) at.invariant.going
    c.loop-round-test.true c.in-None.ensures.picked

pub turn-requires-clause-keeps : goal.turn-requires-clause-keeps
turn-requires-clause-keeps c =
    let at = c.loop-round in
    let less : c.in-Some.number < length at.seats.items = subst (λ n. c.in-Some.number < n) (sym at.invariant.all) c.in-Some.ensures.can.there in
    at.invariant.keeps c.in-Some.number c.index_mut-seat.result.now (slice_get_read _ _ _ _ refl less c.index_mut-seat.ensures.value)

pub loop-round-preserved : goal.loop-round-preserved
loop-round-preserved c =
    let at = c.loop-round in record {
      plays = c.in_ok-turn-in-Some.ensures.plays;
      setup = c.in_ok-turn-in-Some.ensures.setup ∙ at.invariant.setup;
      keeps = all_keep at.node c.turn.new.node at.seats.items c.in-Some.number c.turn.new.self at.invariant.keeps c.in_ok-turn-in-Some.ensures.keeps c.in_ok-turn-in-Some.ensures.others;
      all = length_set at.seats.items c.in-Some.number c.turn.new.self ∙ at.invariant.all ∙ ap (λ s. tasks_of (setup_of s)) (sym c.in_ok-turn-in-Some.ensures.setup);
      going = goes_by (setup_of at.node.setup) (setup_of c.turn.new.node.setup) at.node.entries _ at._round c.args.picks.now (picker_of at.picker) (sym (ap setup_of c.in_ok-turn-in-Some.ensures.setup)) at.invariant.going
          c.in-Some.number (picker_of c.next.new.self) c.turn.new.node.entries c.loop-round-test.true c.in-Some.ensures.picked c.in_ok-turn-in-Some.ensures.entries;
    }

pub returns-clause-entries : goal.returns-clause-entries
returns-clause-entries c =
    let at = c.loop-round in
    ended_by (setup_of at.node.setup) (setup_of c.args.node.now.setup) at.node.entries _ at._round c.args.picks.now (picker_of at.picker) (ap setup_of at.invariant.setup) at.invariant.going
    (omega arith)
