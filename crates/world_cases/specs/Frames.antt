-- Whole programs of worked cases: an empty main with a rank r and a status s around some statements.
--
--     int main(int argc, char **argv) {                        (line 4)
--       int r;
--       MPI_Status s;
--       MPI_Init(&argc, &argv);
--       MPI_Comm_rank(MPI_COMM_WORLD, &r);
--       ..                                                     (line 9)
--       MPI_Finalize();
--       return 0;
--     }
use Rattle.std.specs.Prelude.{ℕ, pos, false, List, [], ◌∷◌, Some}
use Rattle.mpc_values.specs.declared.values.Word.{Word}
use Rattle.mpc_values.specs.declared.values.Word.TheVariants.{Int, Comm}
use Rattle.mpc_values.specs.declared.values.Datatype.TheVariants as datatype
use Rattle.mpc_values.specs.declared.values.Op.TheVariants as op
use Rattle.mpc_values.specs.declared.owners.StaticVar.{StaticVar}
use Rattle.c_tree.specs.declared.program.Callee.TheVariants as callee
use Rattle.c_tree.specs.declared.program.Scalar.TheVariants as scalar
use Rattle.c_tree.specs.declared.program.Width.TheVariants as width
use Rattle.c_tree.specs.declared.program.Operation.TheVariants as operation
use Rattle.c_tree.specs.declared.program.Ending.TheVariants as ending
use Rattle.c_tree.specs.declared.mpi.MpiFunction.{MpiFunction}
use Rattle.c_tree.specs.declared.mpi.MpiFunction.TheVariants as mpi
use Rattle.c_tree.specs.declared.formats.Piece.TheVariants as piece
use Rattle.c_tree.specs.Programs as p

-- an expression that is a word, and the int at a place
abbrev pub word : Word → p.Expr
word w = p.Constant w

abbrev pub num : ℕ → p.Expr
num n = p.Constant (Int (pos n))

abbrev pub load : p.Expr → p.Expr
load place = p.Load (scalar.Number width.Int) place

abbrev pub minus : p.Expr → p.Expr → p.Expr
minus a b = p.Arithmetic width.Int operation.Subtract a b

-- the place of the rank, and that of the status
abbrev pub r : p.Expr
r = p.Object 2

abbrev pub s : p.Expr
s = p.Object 3

abbrev pub exprs : List p.Expr → p.Exprs
exprs [] = p.End
exprs (first ∷ more) = p.More first (exprs more)

abbrev pub stmts : List p.Stmt → p.Stmts → p.Stmts
stmts [] rest = rest
stmts (first ∷ more) rest = p.Then first (stmts more rest)

-- a call of an MPI function, with datatypes MPI_INT, at a line
abbrev pub calls : ℕ → MpiFunction → List p.Expr → p.Stmt
calls line function arguments =
    p.Eval line (p.Apply (callee.Mpi (record { function = function; kind = datatype.Int; received = datatype.Int; op = op.Sum; ignored = false })) (exprs arguments))

-- `printf("%d\n", value)` at a line
abbrev pub prints : ℕ → p.Expr → p.Stmt
prints line value = p.Eval line (p.Apply (callee.Print (piece.Number ∷ piece.Text (10 ∷ []) ∷ [])) (exprs (value ∷ [])))

abbrev pub frame : List StaticVar → List p.Stmt → p.Program
frame variables body = record {
  variables = variables;
  functions = record {
    params = false ∷ false ∷ [];
    slots = 4;
    body = p.Then (p.New 5 2 1) (p.Then (p.New 6 3 3) (p.Then (calls 7 mpi.Init []) (p.Then (calls 8 mpi.CommRank (word (Comm 1) ∷ r ∷ []))
        (stmts body (p.Then (calls 10 mpi.Finalize []) (p.Then (p.Return 11 (Some (num 0))) p.Done))))));
    ending = ending.Zero;
    end_line = 12;
  } ∷ [];
  main = 0;
  constructs = [];
  lines = 12;
}
