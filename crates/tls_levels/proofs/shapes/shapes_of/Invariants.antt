use Rattle.std.proofs.Common.{◌≡◌, map, take}
use Rattle.tls_levels.specs.Images.{shape_of}
use Rattle.tls_levels.proofs.shapes.shapes_of.Given as goal

abbrev pub invariant-loop-var : goal.invariant-loop-var
invariant-loop-var l = l.list.items ≡ map shape_of (take l.var-index l.globals)
