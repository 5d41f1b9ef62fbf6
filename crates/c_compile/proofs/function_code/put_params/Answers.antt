use Rattle.std.proofs.Common.{◌≡◌, suc, ◌-◌, refl, arith}
use Rattle.c_compile.proofs.Parameters.{saved_more, saved_all}
use Rattle.c_compile.proofs.function_code.put_params.Goals as goal

pub loop-left-preserved : goal.loop-left-preserved
loop-left-preserved c =
    let is : c.loop-left.left ≡ suc (c.loop-left.left - 1) = omega (arith, c.loop-left-test.true) in
    saved_more _ _ _ _ _ _ _ _ _ _ _ _ is c.in_ok-slot.ensures refl c.loop-left.invariant c.in_ok-put_param.ensures

pub returns : goal.returns
returns c = λ s end place body behind b f. saved_all _ _ _ _ _ _ (let none : c.loop-left.left ≡ 0 = omega (arith, c.loop-left-test.false) in none) c.loop-left.invariant s end place body behind b f
