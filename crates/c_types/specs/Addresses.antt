-- Which locals of a function have their address taken: a walk over its body, with the scopes of the function alone.
-- It goes through all that may be evaluated from left to right; constants take no address.
use Rattle.std.specs.Prelude.{Bool, true, false, cond, List, [], ◌∷◌, ◌++◌, length, Option, None, Some, set}
use Rattle.c_tree.specs.declared.mpi.MpiFunction.TheVariants as function
use Rattle.c_tree.specs.declared.syntax.Base.{Base}
use Rattle.c_tree.specs.declared.syntax.Param.{Param}
use Rattle.c_tree.specs.declared.syntax.Unary.{Unary}
use Rattle.c_tree.specs.declared.syntax.Unary.TheVariants as unary
use Rattle.c_tree.specs.Syntax.{Expr, Exprs, Name, Number, Text, Call, Index, Field, Postfix, Prefix, Unary', Cast, SizeOf, Binary', Choice, Assign, End, More, Initializer, Value, Declarator, Declaration, ForHead, Bare, Declared, Evaluated, Stmt, Stmts, Empty, Eval, Declare, Block, If, IfElse, While, DoWhile, For, Return, Break, Continue, Single, Barrier, Done, Then}
use Rattle.c_types.specs.declared.kinds.Decl.{Decl}
use Rattle.c_types.specs.declared.kinds.Decl.TheVariants as decl
use Rattle.c_types.specs.declared.kinds.Home.{Home}
use Rattle.c_types.specs.declared.kinds.Home.TheVariants as home
use Rattle.c_types.specs.declared.kinds.Known.{Known}
use Rattle.c_types.specs.declared.kinds.Known.TheVariants as a_known
use Rattle.c_types.specs.Declarations.{variable_of}
use Rattle.c_types.specs.Env.{Scope, put, find, enter, leave}
use Rattle.c_types.specs.Kinds.{int}
use Rattle.c_types.specs.KnownNames.{known}

-- the scopes of a function at a place of it, and by slot whether the local's address is taken before that place
pub record Frame : Type 0 where
  pub scopes : List Scope
  pub taken : List Bool

abbrev pub enter_frame : Frame → Frame
enter_frame frame = record frame { scopes = enter frame.scopes }

abbrev pub leave_frame : Frame → Frame
leave_frame frame = record frame { scopes = leave frame.scopes }

abbrev pub mark_home : Frame → Home → Frame
mark_home frame (home.Static number) = frame
mark_home frame (home.Local slot) = record frame { taken = set frame.taken slot true }

-- the address of what a name stands for is taken
abbrev pub mark : Frame → Option Decl → Frame
mark frame (Some (decl.Variable variable)) = mark_home frame variable.home
mark frame declared = frame

-- behind a sign before an operand: & marks the local that it names
abbrev pub located : Unary → Frame → Expr → Frame
located unary.Address frame (Name at name) = mark frame (find name frame.scopes)
located sign frame operand = frame

abbrev pub is_start : Option Known → Bool
is_start (Some (a_known.Mpi function.Init)) = true
is_start known = false

-- behind an expression; the arguments of MPI_Init are not evaluated
abbrev mutual
  pub through : Frame → Expr → Frame
  through frame (Name at name) = frame
  through frame (Number at value is_long) = frame
  through frame (Text at text) = frame
  through frame (Call at name arguments) = cond (is_start (known name)) frame (through_all frame arguments)
  through frame (Index at array index) = through (through frame array) index
  through frame (Field at value name) = through frame value
  through frame (Postfix at change value) = through frame value
  through frame (Prefix at change value) = through frame value
  through frame (Unary' at sign value) = through (located sign frame value) value
  through frame (Cast at to value) = through frame value
  through frame (SizeOf at base) = frame
  through frame (Binary' at sign left right) = through (through frame left) right
  through frame (Choice at test left right) = through (through (through frame test) left) right
  through frame (Assign at sign left right) = through (through frame left) right

  pub through_all : Frame → Exprs → Frame
  through_all frame End = frame
  through_all frame (More first rest) = through_all (through frame first) rest

abbrev pub through_maybe : Frame → Option Expr → Frame
through_maybe frame None = frame
through_maybe frame (Some value) = through frame value

-- a declarator's name: a static local hides outer names, and takes no slot
abbrev pub with_name : Bool → Base → Frame → Declarator → Frame
with_name true base frame d = record frame { scopes = put d.name (decl.Variable (variable_of base d (home.Static 0))) frame.scopes }
with_name false base frame d = record { scopes = put d.name (decl.Variable (variable_of base d (home.Local (length frame.taken)))) frame.scopes; taken = frame.taken ++ false ∷ [] }

-- a variable stands in its own initializer; those of static locals and lists are constants
abbrev pub through_initial : Bool → Frame → Initializer → Frame
through_initial false frame (Value value) = through frame value
through_initial is_static frame initializer = frame

abbrev pub with_declarator : Bool → Base → Frame → Declarator → Frame
with_declarator is_static base frame d = through_initial is_static (with_name is_static base frame d) d.initializer

abbrev pub with_declarators : Bool → Base → Frame → List Declarator → Frame
with_declarators is_static base frame [] = frame
with_declarators is_static base frame (d ∷ ds) = with_declarators is_static base (with_declarator is_static base frame d) ds

abbrev pub with_declaration : Frame → Declaration → Frame
with_declaration frame d = with_declarators d.is_static d.base frame d.declarators

abbrev pub through_head : Frame → ForHead → Frame
through_head frame Bare = frame
through_head frame (Declared declaration) = with_declaration frame declaration
through_head frame (Evaluated value) = through frame value

-- behind a statement
abbrev mutual
  pub behind : Frame → Stmt → Frame
  behind frame (Empty at) = frame
  behind frame (Eval at value) = through frame value
  behind frame (Declare declaration) = with_declaration frame declaration
  behind frame (Block at items end_line) = leave_frame (behind_all (enter_frame frame) items)
  behind frame (If at test body) = behind (through frame test) body
  behind frame (IfElse at test body other) = behind (behind (through frame test) body) other
  behind frame (While at test body) = behind (through frame test) body
  behind frame (DoWhile at body test) = through (behind frame body) test
  behind frame (For at head test step body) = leave_frame (behind (through_maybe (through_maybe (through_head (enter_frame frame) head) test) step) body)
  behind frame (Return at value) = through_maybe frame value
  behind frame (Break at) = frame
  behind frame (Continue at) = frame
  behind frame (Single at names nowait body) = behind frame body
  behind frame (Barrier at names) = frame

  pub behind_all : Frame → Stmts → Frame
  behind_all frame Done = frame
  behind_all frame (Then first rest) = behind_all (behind frame first) rest

-- a parameter takes the next slot, whatever its type
abbrev pub with_parameter : Frame → Param → Frame
with_parameter frame parameter = record {
  scopes = put parameter.name (decl.Variable (record { kind = int; is_array = false; home = home.Local (length frame.taken) })) frame.scopes;
  taken = frame.taken ++ false ∷ [];
}

abbrev pub with_parameters : Frame → List Param → Frame
with_parameters frame [] = frame
with_parameters frame (parameter ∷ rest) = with_parameters (with_parameter frame parameter) rest

-- the scope of a function's parameters, which is that of its block
abbrev pub parameter_frame : List Param → Frame
parameter_frame parameters = with_parameters (record { scopes = enter []; taken = [] }) parameters

-- by slot, whether a local's address is taken in a function with these parameters and items
abbrev pub taken_slots : List Param → Stmts → List Bool
taken_slots parameters items = (behind_all (parameter_frame parameters) items).taken
