-- Statements: the names behind them, what the rules read of them, and their typed form.
use Rattle.std.specs.Prelude.{ℕ, nat_eq, nat_le, Bool, true, false, cond, not, ◌&&◌, ◌||◌, List, [], ◌∷◌, ◌++◌, length, slice_get, Option, None, Some, is_some, unwrap_or}
use Rattle.mpc_values.specs.declared.owners.Level.{Level}
use Rattle.mpc_values.specs.declared.owners.Level.TheVariants as level
use Rattle.mpc_values.specs.declared.owners.StaticVar.{StaticVar}
use Rattle.c_tree.specs.declared.program.HlsKind.{HlsKind}
use Rattle.c_tree.specs.declared.program.HlsKind.TheVariants as hls
use Rattle.c_tree.specs.Programs as p
use Rattle.c_tree.specs.Syntax as x
use Rattle.c_tree.specs.Syntax.{Expr, ForHead, Bare, Declared, Evaluated, Stmt, Stmts, Empty, Eval, Declare, Block, If, IfElse, While, DoWhile, For, Return, Break, Continue, Single, Barrier, Done, Then}
use Rattle.c_types.specs.declared.kinds.Kind.{Kind}
use Rattle.c_types.specs.declared.kinds.Decl.{Decl}
use Rattle.c_types.specs.declared.kinds.Decl.TheVariants as decl
use Rattle.c_types.specs.declared.kinds.Escapes.{Escapes}
use Rattle.c_types.specs.declared.kinds.Home.{Home}
use Rattle.c_types.specs.declared.kinds.Home.TheVariants as home
use Rattle.c_types.specs.declared.refusals.TypeRefusal.{TypeRefusal}
use Rattle.c_types.specs.declared.shapes.StatementShape.TheVariants as shape
use Rattle.c_types.specs.declared.shapes.Shape.{Shape}
use Rattle.c_types.specs.declared.shapes.Shape.TheVariants.{Statement}
use Rattle.c_types.specs.Constants.{on_both}
use Rattle.c_types.specs.Declarations.{declared, declaration_outline, declaration_made}
use Rattle.c_types.specs.Env as env
use Rattle.c_types.specs.Env.{Env, enter_scope, find, leave_scope}
use Rattle.c_types.specs.Expressions.{kind_of, outline}
use Rattle.c_types.specs.Nodes as nodes
use Rattle.c_types.specs.Nodes.{Outline, At}
use Rattle.c_types.specs.Rules.{rule}
use Rattle.c_types.specs.Typed.{typed, converted}

-- ---- statements that share variables

abbrev pub rank : Level → ℕ
rank level.Core = 0
rank level.L1 = 1
rank level.L2 = 2
rank level.L3 = 3
rank level.Numa = 4
rank level.Node = 5

abbrev pub global_level : Option StaticVar → Option Level
global_level None = None
global_level (Some variable) = variable.level

-- the level of a file-scope variable; a static local has none
abbrev pub home_level : Env → Home → Option Level
home_level env (home.Static number) = global_level (slice_get env.globals number)
home_level env (home.Local slot) = None

abbrev pub declared_level : Env → Option Decl → Option Level
declared_level env (Some (decl.Variable variable)) = home_level env variable.home
declared_level env declared = None

-- the level of the variable that a name stands for
abbrev pub level_of : Env → env.Name → Option Level
level_of env name = declared_level env (find name env.scopes)

-- the level of a single's variables, which all have that one
abbrev pub one_level : Level → Level → Option Level
one_level a b = cond (nat_eq (rank a) (rank b)) (Some a) None

-- the widest of a barrier's
abbrev pub wider_level : Level → Level → Option Level
wider_level a b = Some (cond (nat_le (rank a) (rank b)) b a)

abbrev pub joined_level : Bool → Level → Level → Option Level
joined_level false a b = one_level a b
joined_level true a b = wider_level a b

abbrev pub levels_from : Bool → Env → Option Level → List env.Name → Option Level
levels_from is_barrier env found [] = found
levels_from is_barrier env found (name ∷ names) = levels_from is_barrier env (on_both (joined_level is_barrier) found (level_of env name)) names

-- the level of the variables of a single or a barrier, where there is a name and each variable has a level
abbrev pub levels_of : Bool → Env → List env.Name → Option Level
levels_of is_barrier env [] = None
levels_of is_barrier env (name ∷ names) = levels_from is_barrier env (level_of env name) names

abbrev pub single_kind : Bool → HlsKind
single_kind true = hls.Nowait
single_kind false = hls.Single

abbrev pub with_construct : HlsKind → Option Level → Env → Env
with_construct kind found env = record env { constructs = env.constructs ++ record { kind = kind; level = unwrap_or found level.Core } ∷ [] }

abbrev pub with_single : List env.Name → Bool → Env → Env
with_single names nowait env = with_construct (single_kind nowait) (levels_of false env names) env

abbrev pub with_barrier : List env.Name → Env → Env
with_barrier names env = with_construct hls.Barrier (levels_of true env names) env

-- ---- how control leaves a statement

abbrev pub stays : Escapes
stays = record { returns = false; jumps = false; shares = false }

abbrev pub escapes_both : Escapes → Escapes → Escapes
escapes_both a b = record { returns = a.returns || b.returns; jumps = a.jumps || b.jumps; shares = a.shares || b.shares }

-- a loop takes up the breaks and continues of its body
abbrev pub escapes_loop : Escapes → Escapes
escapes_loop a = record { returns = a.returns; jumps = false; shares = a.shares }

abbrev pub escapes_sharing : Escapes → Escapes
escapes_sharing a = record { returns = a.returns; jumps = a.jumps; shares = true }

-- how control may leave a statement but at its end, and whether one in it shares variables
abbrev mutual
  pub escapes : Stmt → Escapes
  escapes (Empty at) = stays
  escapes (Eval at value) = stays
  escapes (Declare declaration) = stays
  escapes (Block at items end_line) = escapes_all items
  escapes (If at test body) = escapes body
  escapes (IfElse at test body other) = escapes_both (escapes body) (escapes other)
  escapes (While at test body) = escapes_loop (escapes body)
  escapes (DoWhile at body test) = escapes_loop (escapes body)
  escapes (For at head test step body) = escapes_loop (escapes body)
  escapes (Return at value) = record { returns = true; jumps = false; shares = false }
  escapes (Break at) = record { returns = false; jumps = true; shares = false }
  escapes (Continue at) = record { returns = false; jumps = true; shares = false }
  escapes (Single at names nowait body) = escapes_sharing (escapes body)
  escapes (Barrier at names) = record { returns = false; jumps = false; shares = true }

  pub escapes_all : Stmts → Escapes
  escapes_all Done = stays
  escapes_all (Then first rest) = escapes_both (escapes first) (escapes_all rest)

-- a single's block holds no return, no break or continue of a loop round the single, and no other sharing statement
abbrev pub is_closed : Bool → Escapes → Bool
is_closed in_loop a = not a.returns && not (in_loop && a.jumps) && not a.shares

-- ---- the names behind a statement

-- the head of a for, in the scope of the statement
abbrev pub after_head : Env → ForHead → Env
after_head env Bare = env
after_head env (Declared declaration) = declared env declaration
after_head env (Evaluated value) = env

abbrev mutual
  pub after : Env → Stmt → Env
  after env (Empty at) = env
  after env (Eval at value) = env
  after env (Declare declaration) = declared env declaration
  after env (Block at items end_line) = leave_scope (after_all (enter_scope env) items)
  after env (If at test body) = after env body
  after env (IfElse at test body other) = after (after env body) other
  after env (While at test body) = after env body
  after env (DoWhile at body test) = after env body
  after env (For at head test step body) = leave_scope (after (after_head (enter_scope env) head) body)
  after env (Return at value) = env
  after env (Break at) = env
  after env (Continue at) = env
  after env (Single at names nowait body) = after (with_single names nowait env) body
  after env (Barrier at names) = with_barrier names env

  pub after_all : Env → Stmts → Env
  after_all env Done = env
  after_all env (Then first rest) = after_all (after env first) rest

-- ---- what the rules read

abbrev pub maybe_kind : Env → Option Expr → Option (Option Kind)
maybe_kind env None = None
maybe_kind env (Some value) = Some (kind_of env None value)

abbrev pub maybe_outline : Env → Option Expr → Outline
maybe_outline env None = nodes.Empty
maybe_outline env (Some value) = outline env None value

-- a condition is read at its statement
abbrev pub tested : ℕ → Option Kind → Outline → Outline
tested line test inside = At line (Statement (shape.Tested test)) inside

-- a for without a condition is no node
abbrev pub maybe_tested : ℕ → Option (Option Kind) → Outline → Outline
maybe_tested line None inside = inside
maybe_tested line (Some test) inside = tested line test inside

-- its refusal comes before those of what stands in it
abbrev pub maybe_blame : ℕ → Option (Option Kind) → Option TypeRefusal → Option TypeRefusal
maybe_blame line None inside = inside
maybe_blame line (Some test) inside = nodes.blame (rule (Statement (shape.Tested test))) line inside

abbrev pub head_outline : Env → ForHead → Outline
head_outline env Bare = nodes.Empty
head_outline env (Declared declaration) = declaration_outline env declaration
head_outline env (Evaluated value) = outline env None value

abbrev pub single_shape : Env → Bool → List env.Name → Stmt → Shape
single_shape env in_loop names body = Statement (shape.Single (is_some (levels_of false env names)) (is_closed in_loop (escapes body)) (length env.constructs))

abbrev pub barrier_shape : Env → List env.Name → Shape
barrier_shape env names = Statement (shape.Barrier (is_some (levels_of true env names)) (length env.constructs))

-- the nodes of a statement; the flag says whether a loop is round it
abbrev mutual
  pub stmt_outline : Env → Bool → Stmt → Outline
  stmt_outline env in_loop (Empty at) = nodes.Empty
  stmt_outline env in_loop (Eval at value) = outline env None value
  stmt_outline env in_loop (Declare declaration) = declaration_outline env declaration
  stmt_outline env in_loop (Block at items end_line) = stmts_outline (enter_scope env) in_loop items
  stmt_outline env in_loop (If at test body) = tested at.line (kind_of env None test) (nodes.Then (outline env None test) (stmt_outline env in_loop body))
  stmt_outline env in_loop (IfElse at test body other) =
      tested at.line (kind_of env None test) (nodes.Then (outline env None test) (nodes.Then (stmt_outline env in_loop body) (stmt_outline (after env body) in_loop other)))
  stmt_outline env in_loop (While at test body) = tested at.line (kind_of env None test) (nodes.Then (outline env None test) (stmt_outline env true body))
  stmt_outline env in_loop (DoWhile at body test) = tested at.line (kind_of (after env body) None test) (nodes.Then (stmt_outline env true body) (outline (after env body) None test))
  stmt_outline env in_loop (For at head test step body) =
      maybe_tested at.line (maybe_kind (after_head (enter_scope env) head) test)
      (nodes.Then (head_outline (enter_scope env) head)
      (nodes.Then (maybe_outline (after_head (enter_scope env) head) test)
      (nodes.Then (maybe_outline (after_head (enter_scope env) head) step) (stmt_outline (after_head (enter_scope env) head) true body))))
  stmt_outline env in_loop (Return at value) = At at.line (Statement (shape.Returned env.returns (maybe_kind env value))) (maybe_outline env value)
  stmt_outline env in_loop (Break at) = At at.line (Statement (shape.Jumped in_loop)) nodes.Empty
  stmt_outline env in_loop (Continue at) = At at.line (Statement (shape.Jumped in_loop)) nodes.Empty
  stmt_outline env in_loop (Single at names nowait body) = At at.line (single_shape env in_loop names body) (stmt_outline (with_single names nowait env) in_loop body)
  stmt_outline env in_loop (Barrier at names) = At at.line (barrier_shape env names) nodes.Empty

  pub stmts_outline : Env → Bool → Stmts → Outline
  stmts_outline env in_loop Done = nodes.Empty
  stmts_outline env in_loop (Then first rest) = nodes.Then (stmt_outline env in_loop first) (stmts_outline (after env first) in_loop rest)

-- ---- the typed form

-- these statements, and then others
abbrev pub onto : List p.Stmt → p.Stmts → p.Stmts
onto [] rest = rest
onto (first ∷ others) rest = p.Then first (onto others rest)

abbrev pub block_of : List p.Stmt → ℕ → p.Stmt
block_of items end_line = p.Block (onto items p.Done) end_line

abbrev pub empty_block : ℕ → p.Stmt
empty_block line = p.Block p.Done line

abbrev pub maybe_typed : Env → Option Expr → Option p.Expr
maybe_typed env None = None
maybe_typed env (Some value) = Some (typed env None value)

-- a returned value becomes one of the type that is due
abbrev pub returned_as : Kind → Option (Option Kind) → Option p.Expr → Option p.Expr
returned_as due (Some given) (Some value) = Some (converted (Some due) given value)
returned_as due given value = value

abbrev pub returned : Env → Option Expr → Option p.Expr
returned env value = returned_as env.returns (maybe_kind env value) (maybe_typed env value)

-- what the head of a for leaves; an expression has the line of the for
abbrev pub head_made : Env → ℕ → ForHead → List p.Stmt
head_made env line Bare = []
head_made env line (Declared declaration) = declaration_made env declaration
head_made env line (Evaluated value) = p.Eval line (typed env None value) ∷ []

-- the declaration that a statement is
abbrev pub declared_in : Stmt → Option x.Declaration
declared_in (Declare declaration) = Some declaration
declared_in other = None

-- what a statement is among the items of a block: a declaration leaves items, and any other statement one
abbrev pub items_of : Env → Stmt → p.Stmt → List p.Stmt
items_of env (Declare declaration) made = declaration_made env declaration
items_of env other made = made ∷ []

abbrev mutual
  pub stmt_made : Env → Stmt → p.Stmt
  stmt_made env (Empty at) = empty_block at.line
  stmt_made env (Eval at value) = p.Eval at.line (typed env None value)
  stmt_made env (Declare declaration) = block_of (declaration_made env declaration) 0
  stmt_made env (Block at items end_line) = p.Block (stmts_made (enter_scope env) items) end_line
  stmt_made env (If at test body) = p.If at.line (typed env None test) (stmt_made env body) (empty_block 0)
  stmt_made env (IfElse at test body other) = p.If at.line (typed env None test) (stmt_made env body) (stmt_made (after env body) other)
  stmt_made env (While at test body) = p.While at.line (typed env None test) (stmt_made env body)
  stmt_made env (DoWhile at body test) = p.DoWhile at.line (stmt_made env body) (typed (after env body) None test)
  stmt_made env (For at head test step body) =
      block_of
      (head_made (enter_scope env) at.line head
      ++ p.For at.line (maybe_typed (after_head (enter_scope env) head) test) (maybe_typed (after_head (enter_scope env) head) step) (stmt_made (after_head (enter_scope env) head) body) ∷ [])
      at.line
  stmt_made env (Return at value) = p.Return at.line (returned env value)
  stmt_made env (Break at) = p.Break at.line
  stmt_made env (Continue at) = p.Continue at.line
  stmt_made env (Single at names nowait body) = p.Single at.line (length env.constructs) nowait (stmt_made (with_single names nowait env) body)
  stmt_made env (Barrier at names) = p.Barrier at.line (length env.constructs)

  pub stmts_made : Env → Stmts → p.Stmts
  stmts_made env Done = p.Done
  stmts_made env (Then first rest) = onto (items_of env first (stmt_made env first)) (stmts_made (after env first) rest)
