-- Calls with their arguments.
use Rattle.std.proofs.Common.{◌≡◌, Bool, List, refl, ap, ◌∙◌, subst, Vec, Global, Result, Ok}
use Rattle.c_tree.specs.declared.mpi.MpiFunction.{MpiFunction}
use Rattle.c_tree.specs.declared.mpi.MpiFunction.TheVariants as function
use Rattle.c_tree.specs.declared.mpi.Argument.{Argument}
use Rattle.c_tree.specs.declared.program.Callee.{Callee}
use Rattle.c_tree.specs.declared.program.Expr.{Expr}
use Rattle.c_tree.specs.declared.program.Expr.TheVariants.{Apply}
use Rattle.c_tree.specs.MpiTable.{arguments_of}
use Rattle.c_tree.specs.ProgramOf.{expr_of}
use Rattle.c_tree.specs.Programs as p
use Rattle.c_tree.specs.Syntax.{Exprs}
use Rattle.c_tree.proofs.ProgramRows.{apply_is}
use Rattle.c_types.specs.declared.kinds.Given.{Given}
use Rattle.c_types.specs.declared.refusals.TypeRefusal.{TypeRefusal}
use Rattle.c_types.specs.declared.shapes.CallShape.TheVariants.{Mpi}
use Rattle.c_types.specs.declared.shapes.Shape.TheVariants.{Call}
use Rattle.c_types.specs.Answers.{MakesAll}
use Rattle.c_types.specs.Arguments.{all_meet, datatypes_agree}
use Rattle.c_types.specs.Calls.{mpi_shape}
use Rattle.c_types.specs.Env.{Scope}

pub applied_made : (callee : Callee) (all : Result (Vec Expr Global) TypeRefusal) (arguments : Vec Expr Global) → all ≡ Ok arguments
    → (es : p.Exprs) → MakesAll all es → expr_of (Apply callee arguments) ≡ p.Apply callee es
applied_made callee all arguments is es h =
    let P : Result (Vec Expr Global) TypeRefusal → Type 0 = λ r. MakesAll r es in
    apply_is callee arguments ∙ ap (p.Apply callee) (subst P is h)

pub row_shape : (f : MpiFunction) (scopes : List Scope) (es : Exprs) (gs : List Given) (a b : Bool) (rows others : List Argument) → (f ≡ function.Init → ⊥)
    → rows ≡ arguments_of f → others ≡ arguments_of f → a ≡ all_meet rows gs → b ≡ datatypes_agree f others gs → Call (Mpi a b) ≡ mpi_shape f scopes es gs
row_shape f scopes es gs a b rows others other is is' ea eb =
    ap (λ x. Call (Mpi x b)) (ea ∙ ap (λ l. all_meet l gs) is)
    ∙ ap (λ x. Call (Mpi (all_meet (arguments_of f) gs) x)) (eb ∙ ap (λ l. datatypes_agree f l gs) is')
    ∙ same f other
  where
    same : (f : MpiFunction) → (f ≡ function.Init → ⊥) → Call (Mpi (all_meet (arguments_of f) gs) (datatypes_agree f (arguments_of f) gs)) ≡ mpi_shape f scopes es gs
    same function.Init other = absurd (other refl)
    same f other = refl
