use Rattle.std.proofs.Common.{◌≡◌, ◌<◌, length, slice_get, Some, arith, refl}
use Rattle.std.proofs.lemmas.Option.{slice_get_read}
use Rattle.node_core.proofs.Going.{next_held, next_free, none_left}
use Rattle.node_core.proofs.ends.all_over_or_blocked.Goals as goal

pub loop-part-init : goal.loop-part-init
loop-part-init c = λ setup w. refl

pub returns-then-not-is_over_or_blocked : goal.returns-then-not-is_over_or_blocked
returns-then-not-is_over_or_blocked c = λ setup w.
    let less : c.loop-part.part-index < length c.args.parts.now = omega arith in
    let at : slice_get c.args.parts.now c.loop-part.part-index ≡ Some c.part-item.result = slice_get_read _ _ _ _ refl less c.part-item.is in
    next_free setup w c.args.parts.now c.loop-part.part-index c.part-item.result at (c.loop-part.invariant setup w) (c.if-not-is_over_or_blocked.ensures setup w c.loop-part.part-index)

pub loop-part-preserved : goal.loop-part-preserved
loop-part-preserved c = λ setup w.
    let less : c.loop-part.part-index < length c.args.parts.now = omega arith in
    let at : slice_get c.args.parts.now c.loop-part.part-index ≡ Some c.part-item.result = slice_get_read _ _ _ _ refl less c.part-item.is in
    next_held setup w c.args.parts.now c.loop-part.part-index c.part-item.result at (c.loop-part.invariant setup w) (c.if-not-is_over_or_blocked.ensures setup w c.loop-part.part-index)

pub returns : goal.returns
returns c = λ setup w. none_left setup w c.args.parts.now c.loop-part.part-index (omega arith) (c.loop-part.invariant setup w)
