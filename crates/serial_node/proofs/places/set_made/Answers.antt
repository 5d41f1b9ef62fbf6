use Rattle.std.proofs.Common.{◌≡◌, ◌-◌, ◌<◌, ◌∙◌, ap, refl, Some, None, length, rules, slice_get, slice_set}
use Rattle.std.proofs.lemmas.List.{set-get_or}
use Rattle.std.proofs.lemmas.Option.{slice_get_read}
use Rattle.serial_node.specs.Slots.{slot_at}
use Rattle.serial_node.proofs.Changes.{slot_at-none}
use Rattle.serial_node.proofs.places.set_made.Goals as goal

pub returns-in_default : goal.returns-in_default
returns-in_default c =
    let within : c.args.number - 1 < length c.args.made.now.items = search rules in
    let read : slice_get c.args.made.now.items (c.args.number - 1) ≡ Some c.index_mut-slot.result.now =
    slice_get_read c.args.made.now.items (length c.args.made.now.items) (c.args.number - 1) c.index_mut-slot.result.now refl within c.index_mut-slot.ensures.value in
    let none : slot_at c.args.made.now.items c.args.number ≡ None = slot_at-none c.args.made.now.items c.args.number (read ∙ ap Some c.in_default.is) in
    rw none (ap (slice_set c.args.made.now.items (c.args.number - 1)) c.index_mut-slot.ensures.value ∙ set-get_or c.args.made.now.items (c.args.number - 1) c.index_mut-slot.result.now)
