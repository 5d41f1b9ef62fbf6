use Rattle.std.proofs.Common.{◌≡◌, ◌∙◌, ap, arith, rules, FitsSigned, to_z, of_z}
use Rattle.std.specs.Int.{w32, w128, cast_signed}
use Rattle.std.proofs.lemmas.Int.{ints, to_z-of_z}
use Rattle.mpi_args.proofs.Wraps.{wrapped_by}
use Rattle.mpi_args.proofs.folds.wrapped_int.Goals as goal

pub returns : goal.returns
returns c =
    let fits : FitsSigned w32 c.cast_signed.result = search rules in
    let exact : to_z w128 (of_z w128 c.args.exact) ≡ c.args.exact = to_z-of_z w128 _ c.ranges.exact in
    let remainder = rw exact at c.rem_euclid-low.ensures.value in
    to_z-of_z w32 _ fits ∙ (c.cast_signed.ensures ∙ (ap (cast_signed w32) (omega (arith, ints)) ∙ wrapped_by _ _ remainder))
