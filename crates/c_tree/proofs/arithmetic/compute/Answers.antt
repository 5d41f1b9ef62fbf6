use Rattle.std.proofs.Common.{◌≡◌, ℤ, FitsSigned, to_z, of_z, ap, sym, ◌∙◌, refl}
use Rattle.std.proofs.lemmas.Int.{int_wrap_fits, to_z-of_z}
use Rattle.std.specs.Int.{w64}
use Rattle.c_tree.specs.Arithmetic.{operated, computed, right_width}
use Rattle.c_tree.specs.Numbers.{wrapped}
use Rattle.c_tree.specs.declared.program.Width.TheVariants.{Long}
use Rattle.c_tree.specs.declared.program.Operation.{Operation}
use Rattle.c_tree.specs.declared.program.Operation.TheVariants.{Add, Subtract, Multiply, Divide, Remainder, ShiftLeft, ShiftRight, BitAnd, BitXor, BitOr}
use Rattle.c_tree.proofs.arithmetic.compute.Goals as goal

-- both operands of an operation on longs are longs
right_is_long : (operation : Operation) → right_width Long operation ≡ Long
right_is_long Add = refl
right_is_long Subtract = refl
right_is_long Multiply = refl
right_is_long Divide = refl
right_is_long Remainder = refl
right_is_long ShiftLeft = refl
right_is_long ShiftRight = refl
right_is_long BitAnd = refl
right_is_long BitXor = refl
right_is_long BitOr = refl

longs : (operation : Operation) (x y : ℤ) → FitsSigned w64 x → FitsSigned w64 y → operated Long operation x y ≡ computed Long operation x y
longs operation x y fx fy =
    ap (λ a. computed Long operation a (wrapped (right_width Long operation) y)) (int_wrap_fits w64 x fx)
    ∙ ap (λ w. computed Long operation x (wrapped w y)) (right_is_long operation)
    ∙ ap (computed Long operation x) (int_wrap_fits w64 y fy)

same : (operation : Operation) (x y : ℤ) → FitsSigned w64 x → FitsSigned w64 y
    → computed Long operation (to_z w64 (of_z w64 x)) (to_z w64 (of_z w64 y)) ≡ computed Long operation x y
same operation x y fx fy =
    ap (λ a. computed Long operation a (to_z w64 (of_z w64 y))) (to_z-of_z w64 x fx) ∙ ap (computed Long operation x) (to_z-of_z w64 y fy)

-- src/arithmetic.rt:196:1
pub returns-in-Long : goal.returns-in-Long
returns-in-Long c =
    rw c.in-Long.is
    (c.compute_long.ensures
    ∙ same c.args.operation c.args.left c.args.right c.ranges.left c.ranges.right
    ∙ sym (longs c.args.operation c.args.left c.args.right c.ranges.left c.ranges.right))
