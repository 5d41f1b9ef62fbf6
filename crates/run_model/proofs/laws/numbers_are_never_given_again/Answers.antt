use Rattle.std.proofs.Common.{◌<◌, ◌∙◌, sym, subst}
use Rattle.std.proofs.lemmas.Option.{slice_get_within}
use Rattle.run_model.specs.Run.{run}
use Rattle.run_model.proofs.Steps.{step_is}
use Rattle.run_model.proofs.NewNumbers.{new_numbers}
use Rattle.run_model.proofs.SeparateRuns.{separate, run_left}
use Rattle.run_model.proofs.laws.numbers_are_never_given_again.Goals as goal

pub returns-clause-kept : goal.returns-clause-kept
returns-clause-kept c = λ setup order task entry after went.
    (run_left setup order task entry after (step_is setup (run setup order).world task entry after went)).keeps

pub returns-clause-posted : goal.returns-clause-posted
returns-clause-posted c = λ setup order task entry after req post met words went e.
    let h = separate setup order in
    let s = step_is setup (run setup order).world task entry after went in
    new_numbers s req post met words e (subst (λ n. task < n) (h.courses ∙ sym h.lists) (slice_get_within (run setup order).world.log.courses task s.course s.there))

pub returns-clause-names : goal.returns-clause-names
returns-clause-names c = λ setup order task. (separate setup order).names task
