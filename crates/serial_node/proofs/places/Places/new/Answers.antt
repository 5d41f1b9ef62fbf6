use Rattle.std.proofs.Common.{◌∙◌, ap, length, map}
use Rattle.serial_node.specs.Slots.{first_object}
use Rattle.serial_node.proofs.Placed.{first_here}
use Rattle.serial_node.proofs.Changes.{objects}
use Rattle.serial_node.proofs.places.Places.new.Goals as goal

pub returns : goal.returns
returns c =
    ap (λ vs. objects vs c.new.result.items (length c.new.result.items)) c.in_ok-variables.ensures
    ∙ ap (λ ms. objects (map first_object c.args.variables.now) ms (length ms)) c.new.ensures.items
    ∙ ap (λ m. record { memory = m; made = 0 }) (first_here c.args.variables.now)
