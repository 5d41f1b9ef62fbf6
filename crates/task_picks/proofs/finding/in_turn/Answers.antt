use Rattle.std.proofs.Common.{◌≡◌, ◌-◌, find, sym, ap, ◌∙◌, arith}
use Rattle.std.specs.List.{range_with_len}
use Rattle.run_model.specs.Setup.{setup_of, tasks_of}
use Rattle.task_picks.specs.Picked.{goes}
use Rattle.task_picks.proofs.Found.{or_else, find_append}
use Rattle.task_picks.proofs.finding.in_turn.Goals as goal

pub returns-in-Some-clause-first : goal.returns-in-Some-clause-first
returns-in-Some-clause-first c =
    let p = goes c.args.node.now in
    let next = c.args.next in
    let tasks = tasks_of (setup_of c.args.node.now.setup) in
    let first = c.in-Some.ensures.first ∙ ap (λ n. find p (range_with_len next (n - next))) c.tasks.ensures.tasks in
    ap (λ o. or_else o (find p (range_with_len 0 next))) first ∙ sym (find_append p (range_with_len next (tasks - next)) (range_with_len 0 next))

pub returns-in-None-clause-first : goal.returns-in-None-clause-first
returns-in-None-clause-first c =
    let p = goes c.args.node.now in
    let next = c.args.next in
    let tasks = tasks_of (setup_of c.args.node.now.setup) in
    let first = c.in-None.ensures.first ∙ ap (λ n. find p (range_with_len next (n - next))) c.tasks.ensures.tasks in
    let all : next - 0 ≡ next = omega arith in
    c.first_in-in-None.ensures.first ∙ ap (λ n. find p (range_with_len 0 n)) all
    ∙ ap (λ o. or_else o (find p (range_with_len 0 next))) first ∙ sym (find_append p (range_with_len next (tasks - next)) (range_with_len 0 next))
