use Rattle.std.proofs.Common.{◌≡◌, sym, ◌∙◌, ap, Some, arith, rules}
use Rattle.command_words.specs.Lists.{listed}
use Rattle.command_words.proofs.Pieces.{joined, stops, goes, stops_last, ends}
use Rattle.command_words.proofs.places.listed.Goals as goal

pub returns-in_default-core_number : goal.returns-in_default-core_number
returns-in_default-core_number c =
    let s = c.in-Some.ensures.byte (omega arith) (λ w o f. f) in
    stops c.loop-first.cores.items c.args.text.now c.loop-first.rest.now c.in-Some.first.now c.loop-first.invariant.1 s.2 s.0 (sym c.in_default-core_number.ensures)

pub loop-first-preserved : goal.loop-first-preserved
loop-first-preserved c =
    let s = c.in-Some.ensures.byte (omega arith) (λ w o f. f) in
    (search rules, ap (λ xs. joined xs (listed c.in-Some.more.now)) c.in_ok-push.ensures.items ∙ goes c.loop-first.cores.items c.args.text.now c.loop-first.rest.now c.in-Some.first.now c.in-Some.more.now c.in-Some-core_number.core c.loop-first.invariant.1 s.2 s.0 s.1 (sym c.in-Some-core_number.ensures))

pub returns-in_default-core_number-2 : goal.returns-in_default-core_number-2
returns-in_default-core_number-2 c =
    let s = c.in_default.ensures.byte (omega arith) (λ w o f. f) in
    stops_last c.loop-first.cores.items c.args.text.now c.loop-first.rest.now c.loop-first.invariant.1 s (sym c.in_default-core_number-2.ensures)

pub returns : goal.returns
returns c =
    let s = c.in_default.ensures.byte (omega arith) (λ w o f. f) in
    ap (λ xs. Some xs) (c.of.ensures ∙ c.in_ok-push-2.ensures.items) ∙ ends c.loop-first.cores.items c.args.text.now c.loop-first.rest.now c.in-Some-core_number-2.core c.loop-first.invariant.1 s (sym c.in-Some-core_number-2.ensures)
