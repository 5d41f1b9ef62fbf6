-- A user's program: a sum over neighbours, in which each rank exchanges its ends with the ranks beside it. Two sweeps.
use Rattle.std.specs.Prelude.{ℕ, false, true, List, [], ◌∷◌, Some}
use Rattle.run_model.specs.Setup.{Setup}
use Rattle.run_model.specs.Scenes.{private, shared, int, flat, at, W}
use Rattle.std.specs.Prelude.{codes, ◌++◌, replicate}
use Rattle.mpc_values.specs.declared.values.Word.{Word}
use Rattle.mpc_values.specs.declared.owners.Level.TheVariants.{Node}
use Rattle.mpc_values.specs.declared.values.Datatype.TheVariants as datatype
use Rattle.mpc_values.specs.declared.values.Op.TheVariants as op
use Rattle.c_tree.specs.declared.mpi.MpiFunction.TheVariants as mpi
use Rattle.c_tree.specs.declared.program.Callee.TheVariants as callee
use Rattle.c_tree.specs.declared.program.Width.TheVariants as width
use Rattle.c_tree.specs.declared.program.Operation.TheVariants as operation
use Rattle.c_tree.specs.declared.program.Comparison.TheVariants as comparison
use Rattle.c_tree.specs.declared.program.Update.{Update}
use Rattle.c_tree.specs.declared.program.Update.TheVariants as update
use Rattle.c_tree.specs.declared.program.Ending.TheVariants as ending'
use Rattle.c_tree.specs.declared.program.HlsKind.TheVariants.{Single}
use Rattle.c_tree.specs.declared.formats.Piece.TheVariants as piece
use Rattle.c_tree.specs.Programs as p
use Rattle.world_cases.specs.Frames.{word, num, minus, exprs, stmts, calls}
use Rattle.world_cases.specs.Frames as f

abbrev pub plus : p.Expr → p.Expr → p.Expr
plus a b = p.Arithmetic width.Int operation.Add a b

abbrev pub times : p.Expr → p.Expr → p.Expr
times a b = p.Arithmetic width.Int operation.Multiply a b

abbrev pub rest : p.Expr → p.Expr → p.Expr
rest a b = p.Arithmetic width.Int operation.Remainder a b

-- the place of an element
abbrev pub element : p.Expr → p.Expr → p.Expr
element array index = p.Offset false 1 array index

abbrev pub w : p.Expr
w = word (at 0 0)

abbrev pub x : p.Expr
x = word (at 1 0)

abbrev pub y : p.Expr
y = word (at 2 0)

abbrev pub adds : Update
adds = update.Number operation.Add width.Int width.Int

-- `for (i = from; i <= to; i++) body`, for a local that the task keeps
abbrev pub loop : ℕ → ℕ → ℕ → ℕ → p.Stmt → List p.Stmt
loop line slot from to body =
    p.Eval line (p.SetLocal slot (num from))
    ∷ p.For line (Some (p.Compare comparison.LessEqual (p.Local slot) (num to))) (Some (p.StepLocal adds false slot)) body
    ∷ []

abbrev pub step : p.Function
step = record {
  params = [];
  slots = 1;
  body = stmts (p.Unset 0 ∷
      (loop 10 0 1 4 (p.Eval 10 (p.Store (element y (p.Local 0))
      (plus (plus (times (f.load (element w (num 0))) (f.load (element x (minus (p.Local 0) (num 1)))))
      (times (f.load (element w (num 1))) (f.load (element x (p.Local 0)))))
      (times (f.load (element w (num 2))) (f.load (element x (plus (p.Local 0) (num 1))))))))
      ++ loop 11 0 1 4 (p.Eval 11 (p.Store (element x (p.Local 0)) (f.load (element y (p.Local 0))))))) p.Done;
  ending = ending'.Void;
  end_line = 12;
}

abbrev pub r : p.Expr
r = p.Object 2

abbrev pub n : p.Expr
n = p.Object 3

abbrev pub mine : p.Expr
mine = p.Object 6

abbrev pub all : p.Expr
all = p.Object 7

abbrev pub q : p.Expr
q = p.Object 8

-- the ranks before and after
abbrev pub before : p.Expr
before = rest (minus (plus (f.load r) (f.load n)) (num 1)) (f.load n)

abbrev pub next_rank : p.Expr
next_rank = rest (plus (f.load r) (num 1)) (f.load n)

abbrev pub sweep : p.Stmt
sweep = p.Block (stmts (
    calls 23 mpi.Irecv (element x (num 0) ∷ num 1 ∷ before ∷ num 1 ∷ word W ∷ element q (num 0) ∷ [])
    ∷ calls 24 mpi.Irecv (element x (num 5) ∷ num 1 ∷ next_rank ∷ num 2 ∷ word W ∷ element q (num 1) ∷ [])
    ∷ calls 25 mpi.Isend (element x (num 1) ∷ num 1 ∷ before ∷ num 2 ∷ word W ∷ element q (num 2) ∷ [])
    ∷ calls 26 mpi.Isend (element x (num 4) ∷ num 1 ∷ next_rank ∷ num 1 ∷ word W ∷ element q (num 3) ∷ [])
    ∷ p.Eval 27 (p.Apply (callee.Mpi (record { function = mpi.Waitall; kind = datatype.Int; received = datatype.Int; op = op.Sum; ignored = true })) (exprs (num 4 ∷ q ∷ [])))
    ∷ p.Eval 28 (p.Apply (callee.Function 0) p.End)
    ∷ p.Eval 29 (p.Store mine (num 0))
    ∷ (loop 30 4 1 4 (p.Eval 30 (p.UpdateStore adds mine (f.load (element x (p.Local 4)))))
    ++ (calls 31 mpi.Allreduce (mine ∷ all ∷ num 1 ∷ word W ∷ [])
    ∷ p.Eval 32 (p.Apply (callee.Print (piece.Text (codes "sweep ") ∷ piece.Number ∷ piece.Text (codes ": sum ") ∷ piece.Number ∷ piece.Text (codes ", first ") ∷ piece.Number ∷ piece.Text (10 ∷ []) ∷ []))
    (exprs (p.Local 5 ∷ f.load all ∷ f.load (element x (num 1)) ∷ [])))
    ∷ []))) p.Done) 33

abbrev pub main : p.Function
main = record {
  params = false ∷ false ∷ [];
  slots = 9;
  body = stmts (
      p.New 14 2 1 ∷ p.New 14 3 1 ∷ p.Unset 4 ∷ p.Unset 5 ∷ p.New 14 6 1 ∷ p.New 14 7 1 ∷ p.New 15 8 4
      ∷ calls 16 mpi.Init []
      ∷ calls 17 mpi.CommRank (word W ∷ r ∷ [])
      ∷ calls 18 mpi.CommSize (word W ∷ n ∷ [])
      ∷ p.Single 19 0 false (p.Block (stmts (
      p.Eval 20 (p.Store (element w (num 0)) (num 1)) ∷ p.Eval 20 (p.Store (element w (num 1)) (num 2)) ∷ p.Eval 20 (p.Store (element w (num 2)) (num 1)) ∷ []) p.Done) 20)
      ∷ (loop 21 4 1 4 (p.Eval 21 (p.Store (element x (p.Local 4)) (f.load r)))
      ++ (loop 22 5 1 2 sweep
      ++ (calls 34 mpi.Finalize [] ∷ p.Return 35 (Some (num 0)) ∷ [])))) p.Done;
  ending = ending'.Zero;
  end_line = 36;
}

abbrev pub ints : ℕ → List Word
ints k = replicate k (int 0)

abbrev pub program : ℕ → Setup
program tasks = record (flat tasks []) {
  program = record {
    variables = shared Node (ints 3) ∷ private (ints 6) ∷ private (ints 6) ∷ [];
    functions = step ∷ main ∷ [];
    main = 1;
    constructs = record { kind = Single; level = Node } ∷ [];
    lines = 36;
  };
}
