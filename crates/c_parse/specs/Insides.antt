-- A function value that reads statements up to a depth.
use Rattle.std.specs.Prelude.{ℕ, suc, ◌≡◌, List, Result}
use Rattle.std.specs.declared.alloc.Global.{Global}
use denote.Ref.{MutBor}
use Rattle.c_tree.specs.declared.syntax.Stmt.{Stmt}
use Rattle.c_tree.specs.SyntaxOf.{stmt_of}
use Rattle.c_parse.specs.declared.stops.Stop.{Stop}
use Rattle.c_parse.specs.Symbols.{Sym}
use Rattle.c_parse.specs.Reading.{Reads}
use Rattle.c_parse.specs.Statements.{statement}

pub record Insides (depth : ℕ) (pre : Global → MutBor (List Sym) → ℕ → Type 0)
    (post : Global → MutBor (List Sym) → ℕ → Result Stmt Stop → MutBor (List Sym) → Type 0) : Type 0 where
  pub callable : (alloc : Global) (old : MutBor (List Sym)) (d : ℕ) → suc d ≡ depth → pre alloc old d
  pub reads : (alloc : Global) (old new : MutBor (List Sym)) (d : ℕ) (r : Result Stmt Stop) → post alloc old d r new
      → Reads stmt_of (statement d old.now) r new.now
