-- Which sources are accepted, and why others are refused.
use Rattle.std.specs.Prelude.{◌≡◌, ◌≤◌, ◌<◌, ℕ, List, ◌++◌, length, codes, Option, Some, None, is_some, filter, false}
use Rattle.std.specs.Fmt.{decimal}
use Rattle.mpc_values.specs.declared.limits.TheConstants.{MAX_SOURCE_BYTES}
use Rattle.mpc_values.specs.declared.owners.StaticVar.{StaticVar}
use Rattle.c_lex.specs.declared.tokens.Token.{Token}
use Rattle.c_lex.specs.Lexed.{Lexed}
use Rattle.c_lex.specs.Lexed as lexed
use Rattle.c_parse.specs.declared.refusals.ParseRefusal.TheVariants.{Syntax, Pragma}
use Rattle.c_parse.specs.Parsed.{Spelt}
use Rattle.c_parse.specs.Parsed as parsed
use Rattle.c_tree.specs.Syntax.{Tree}
use Rattle.c_tree.specs.Programs.{Program}
use Rattle.c_types.specs.Typing.{Typed}
use Rattle.c_types.specs.Typing as typing
use Rattle.c_compile.specs.Plain.{is_plain}
use Rattle.mpc_top.specs.declared.command.Mode.{Mode}
use Rattle.mpc_top.specs.declared.command.Mode.TheVariants as mode
use Rattle.mpc_top.specs.declared.sources.SourceRefusal.{SourceRefusal}
use Rattle.mpc_top.specs.declared.sources.SourceRefusal.TheVariants as refusal

-- The tokens of a source.
pub record HasTokens (src : List ℕ) (tokens : List Token) : Type 0 where
  pub short : length src ≤ MAX_SOURCE_BYTES
  pub lexed : Lexed src tokens

-- The tree of a source.
pub record HasTree (src : List ℕ) (tree : Tree) : Type 0 where
  pub tokens : List Token
  pub has : HasTokens src tokens
  pub spelt : Spelt src tokens tree

-- The source is accepted, and this is its typed program.
pub record Accepted (src : List ℕ) (program : Program) : Type 0 where
  pub tree : Tree
  pub has : HasTree src tree
  pub typed : Typed tree program

-- The content of a file is refused for this. A source that is accepted is not run, for not being built yet, where its program
-- calls an MPI function, has a single or a barrier, or has a variable with a level.
abbrev pub RefusesContent : Mode → SourceRefusal → List ℕ → Type 0
RefusesContent m refusal.Missing src = ⊥
RefusesContent m refusal.TooLong src = MAX_SOURCE_BYTES < length src
RefusesContent m (refusal.Lex at) src = (length src ≤ MAX_SOURCE_BYTES) × lexed.RefusedAt src at
RefusesContent m (refusal.Parse at) src = (tokens : List Token) × HasTokens src tokens × parsed.RefusedAt src tokens at
RefusesContent m (refusal.Type broken) src = (tree : Tree) × HasTree src tree × typing.Refused tree broken
RefusesContent mode.Check refusal.NotBuilt src = ⊥
RefusesContent mode.Serial refusal.NotBuilt src = (program : Program) × Accepted src program × (is_plain program ≡ false)

-- a file is refused for this: it is missing, or its content is refused
abbrev pub Refuses : Mode → SourceRefusal → Option (List ℕ) → Type 0
Refuses m reason None = reason ≡ refusal.Missing
Refuses m reason (Some src) = RefusesContent m reason src

-- the line that says why a source is refused
abbrev pub refusal_line : SourceRefusal → List ℕ
refusal_line refusal.Missing = codes "mpc: source: missing\n"
refusal_line refusal.TooLong = codes "mpc: source: too long\n"
refusal_line (refusal.Lex at) = codes "mpc: source: line " ++ (decimal at.line ++ (codes ", column " ++ (decimal at.col ++ codes ": lex\n")))
refusal_line (refusal.Parse (Syntax line col)) = codes "mpc: source: line " ++ (decimal line ++ (codes ", column " ++ (decimal col ++ codes ": syntax\n")))
refusal_line (refusal.Parse (Pragma line)) = codes "mpc: source: line " ++ (decimal line ++ codes ": pragma\n")
refusal_line (refusal.Type broken) = codes "mpc: source: line " ++ (decimal broken.line ++ (codes ": rule " ++ (decimal broken.rule ++ codes "\n")))
refusal_line refusal.NotBuilt = codes "mpc: source: not built\n"

-- how many of the variables have a level
abbrev pub shared_of : List StaticVar → ℕ
shared_of variables = length (filter (λ variable. is_some variable.level) variables)

-- the line of an accepted source with so many functions, static variables and shared ones among these
abbrev pub counts_line : ℕ → ℕ → ℕ → List ℕ
counts_line functions globals shared =
    codes "accepted: " ++ (decimal functions ++ (codes " functions, " ++ (decimal globals ++ (codes " globals, " ++ (decimal shared ++ codes " shared\n")))))

-- the line of a source that is accepted
abbrev pub accepted_line : Program → List ℕ
accepted_line program = counts_line (length program.functions) (length program.variables) (shared_of program.variables)
