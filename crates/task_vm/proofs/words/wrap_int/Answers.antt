use Rattle.std.proofs.Common.{rules, ◌≡◌, ℤ, FitsSigned, to_z, of_z, ap, ◌∙◌}
use Rattle.std.proofs.lemmas.Int.{to_z-of_z}
use Rattle.std.specs.Int.{int_wrap, int_rem_euclid, w32, w64}
use Rattle.std.specs.Prelude.{pos, unsigned_abs}
use Rattle.task_vm.proofs.words.wrap_int.Goals as goal

wraps : (z r c : ℤ) → FitsSigned w64 z → FitsSigned w64 r → FitsSigned w32 c → r ≡ int_rem_euclid (to_z w64 (of_z w64 z)) (pos 4294967296)
    → c ≡ to_z w32 (unsigned_abs (to_z w64 (of_z w64 r))) → to_z w32 (of_z w32 c) ≡ int_wrap w32 z
unfolding int_wrap
wraps z r c fz fr fc is_r is_c =
    to_z-of_z w32 c fc ∙ is_c
    ∙ ap (λ x. to_z w32 (unsigned_abs x)) (to_z-of_z w64 r fr ∙ is_r ∙ ap (λ x. int_rem_euclid x (pos 4294967296)) (to_z-of_z w64 z fz))

pub returns : goal.returns
returns c =
    let fr : FitsSigned w64 c.rem_euclid-low.result = search rules in
    let fc : FitsSigned w32 c.cast_signed.result = search rules in
    wraps _ _ _ c.ranges.number fr fc c.rem_euclid-low.ensures.value c.cast_signed.ensures
