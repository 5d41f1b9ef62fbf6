-- A typed program keeps the limits on what it declares.
use Rattle.std.specs.Prelude.{◌≡◌, ◌≤◌, length}
use Rattle.std.specs.List.{All, sum_by}
use Rattle.mpc_values.specs.declared.limits.TheConstants.{MAX_STATIC_VARIABLES, MAX_STATIC_WORDS, MAX_CONSTRUCTS}
use Rattle.c_tree.specs.Programs.{Program}
use Rattle.c_tree.specs.Syntax.{Tree}
use Rattle.c_types.specs.Typing.{Typed}

-- The program has no more static variables, words and statements that share than are allowed, and each variable has as
-- many first words as its length.
pub record Sized (program : Program) : Type 0 where
  pub variables : length program.variables ≤ MAX_STATIC_VARIABLES
  pub words : sum_by (λ variable. variable.len) program.variables ≤ MAX_STATIC_WORDS
  pub first : All (λ variable. length variable.first ≡ variable.len) program.variables
  pub constructs : length program.constructs ≤ MAX_CONSTRUCTS

-- a typed program is sized
abbrev pub TypedIsSized : Type 0
TypedIsSized = (tree : Tree) (program : Program) → Typed tree program → Sized program
