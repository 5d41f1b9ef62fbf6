-- A function value that reads expressions up to a depth.
use Rattle.std.specs.Prelude.{ℕ, suc, ◌≡◌, List, Result}
use Rattle.std.specs.declared.alloc.Global.{Global}
use denote.Ref.{MutBor}
use Rattle.c_tree.specs.declared.syntax.Expr.{Expr}
use Rattle.c_tree.specs.SyntaxOf.{expr_of}
use Rattle.c_parse.specs.declared.grammar.Part.{Part}
use Rattle.c_parse.specs.declared.stops.Stop.{Stop}
use Rattle.c_parse.specs.Symbols.{Sym}
use Rattle.c_parse.specs.Reading.{Reads}
use Rattle.c_parse.specs.Expressions.{expr}

pub record Nests (depth : ℕ) (pre : Global → MutBor (List Sym) → ℕ → Part → Type 0)
    (post : Global → MutBor (List Sym) → ℕ → Part → Result Expr Stop → MutBor (List Sym) → Type 0) : Type 0 where
  pub callable : (alloc : Global) (old : MutBor (List Sym)) (d : ℕ) (part : Part) → suc d ≡ depth → pre alloc old d part
  pub reads : (alloc : Global) (old new : MutBor (List Sym)) (d : ℕ) (part : Part) (r : Result Expr Stop) → post alloc old d part r new
      → Reads expr_of (expr d part old.now) r new.now
