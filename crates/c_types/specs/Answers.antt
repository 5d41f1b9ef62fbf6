-- What the pass answers of a part of the tree, against what is defined of it.
use Rattle.std.specs.Prelude.{◌≡◌, List, [], ◌∷◌, Option, None, Some, Result, Ok, Err, Vec}
use Rattle.std.specs.Global.{Global}
use Rattle.c_tree.specs.declared.mpi.MpiFunction.{MpiFunction}
use Rattle.c_tree.specs.declared.mpi.MpiFunction.TheVariants as function
use Rattle.c_tree.specs.declared.program.Expr.{Expr}
use Rattle.c_tree.specs.ProgramOf.{expr_of, exprs_of}
use Rattle.c_tree.specs.Programs as p
use Rattle.c_tree.specs.Syntax as x
use Rattle.c_types.specs.declared.formats.ReadFormat.{ReadFormat}
use Rattle.c_types.specs.declared.refusals.TypeRefusal.{TypeRefusal}
use Rattle.c_tree.specs.declared.mpi.Argument.{Argument}
use Rattle.c_types.specs.declared.calls.Callable.{Callable}
use Rattle.c_types.specs.declared.calls.Callable.TheVariants as called
use Rattle.c_types.specs.declared.kinds.Decl.{Decl}
use Rattle.c_types.specs.declared.kinds.Decl.TheVariants as decl
use Rattle.c_types.specs.declared.kinds.Kind.{Kind}
use Rattle.c_types.specs.declared.kinds.Known.TheVariants as a_known
use Rattle.c_types.specs.Typed.{row_kind}
use Rattle.c_types.specs.Drafts.{Reads}
use Rattle.c_types.specs.Formats.{Part, format_parts}

-- what is made is this expression, unless there is a refusal
abbrev pub Makes : Result Expr TypeRefusal → p.Expr → Type 0
Makes (Ok made) wanted = expr_of made ≡ wanted
Makes (Err refusal) wanted = Unit {0}

-- the same of several expressions
abbrev pub MakesAll : Result (Vec Expr Global) TypeRefusal → p.Exprs → Type 0
MakesAll (Ok made) wanted = exprs_of made.items ≡ wanted
MakesAll (Err refusal) wanted = Unit {0}

-- these expressions, and then others
abbrev pub onto : List Expr → p.Exprs → p.Exprs
onto [] rest = rest
onto (first ∷ others) rest = p.More (expr_of first) (onto others rest)

-- what is made is these expressions, where others come behind it
abbrev pub MakesOnto : Result (Vec Expr Global) TypeRefusal → p.Exprs → p.Exprs → Type 0
MakesOnto (Ok made) rest wanted = onto made.items rest ≡ wanted
MakesOnto (Err refusal) rest wanted = Unit {0}

-- the type that an argument at a place of a row becomes, where the row has that place
abbrev pub due_by : Option Argument → Option Kind
due_by None = None
due_by (Some argument) = row_kind argument

-- MPI_Init's arguments are not looked at, and none is evaluated
abbrev pub row_fault : MpiFunction → Option TypeRefusal → Option TypeRefusal
row_fault function.Init refusal = None
row_fault other refusal = refusal

abbrev pub row_made : MpiFunction → p.Exprs → p.Exprs
row_made function.Init made = p.End
row_made other made = made

-- the format that a call's first argument is
abbrev pub first_parts : x.Exprs → Option (List Part)
first_parts (x.More (x.Text at text) rest) = format_parts text
first_parts arguments = None

-- the format of the first argument is read
abbrev pub ReadsFirst : x.Exprs → Option ReadFormat → Type 0
ReadsFirst arguments format = Reads (first_parts arguments) format

-- what a call of what a name stands for is of
abbrev pub called_by : Option Decl → Callable
called_by (Some (decl.Function place)) = called.Own place
called_by (Some (decl.Known (a_known.Mpi f))) = called.Mpi f
called_by (Some (decl.Known a_known.Printf)) = called.Printf
called_by (Some (decl.Known a_known.Malloc)) = called.Malloc
called_by (Some (decl.Known a_known.Free)) = called.Free
called_by declared = called.Nothing
