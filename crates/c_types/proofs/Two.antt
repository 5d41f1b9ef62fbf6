-- Two arguments, and another number of them.
use Rattle.std.proofs.Common.{◌≡◌, ◌<◌, ◌≤◌, List, [], ◌∷◌, refl, length, false, true, arith}
use Rattle.c_tree.specs.declared.syntax.Expr.{Expr}
use Rattle.c_tree.specs.SyntaxOf.{exprs_of}
use Rattle.c_types.specs.Calls.{are_two, may_start}
use Rattle.c_types.specs.Env.{Scope}

pub exactly : (es : List Expr) → 2 ≤ length es → length es < 3 → true ≡ are_two (exprs_of es)
exactly [] h g = absurd (omega arith)
exactly (a ∷ []) h g = absurd (omega arith)
exactly (a ∷ b ∷ []) h g = refl
exactly (a ∷ b ∷ c ∷ es) h g = absurd (omega arith)

pub fewer : (es : List Expr) → length es < 2 → false ≡ are_two (exprs_of es)
fewer [] h = refl
fewer (a ∷ []) h = refl
fewer (a ∷ b ∷ es) h = absurd (omega arith)

pub more : (es : List Expr) → 3 ≤ length es → false ≡ are_two (exprs_of es)
more [] h = absurd (omega arith)
more (a ∷ []) h = absurd (omega arith)
more (a ∷ b ∷ []) h = absurd (omega arith)
more (a ∷ b ∷ c ∷ es) h = refl

pub too_few : (scopes : List Scope) (es : List Expr) → length es < 2 → false ≡ may_start scopes (exprs_of es)
too_few scopes [] h = refl
too_few scopes (a ∷ []) h = refl
too_few scopes (a ∷ b ∷ es) h = absurd (omega arith)

pub too_many : (scopes : List Scope) (es : List Expr) → 3 ≤ length es → false ≡ may_start scopes (exprs_of es)
too_many scopes [] h = absurd (omega arith)
too_many scopes (a ∷ []) h = absurd (omega arith)
too_many scopes (a ∷ b ∷ []) h = absurd (omega arith)
too_many scopes (a ∷ b ∷ c ∷ es) h = refl
