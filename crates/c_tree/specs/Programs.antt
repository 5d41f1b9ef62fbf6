-- The typed program without the pointers that the code's program has. Definitions over programs are over these.
use Rattle.std.specs.Prelude.{ℕ, Bool, List, Option}
use Rattle.mpc_values.specs.declared.values.Word.{Word}
use Rattle.mpc_values.specs.declared.owners.StaticVar.{StaticVar}
use Rattle.c_tree.specs.declared.program.Width.{Width}
use Rattle.c_tree.specs.declared.program.Scalar.{Scalar}
use Rattle.c_tree.specs.declared.program.Operation.{Operation}
use Rattle.c_tree.specs.declared.program.Comparison.{Comparison}
use Rattle.c_tree.specs.declared.program.Update.{Update}
use Rattle.c_tree.specs.declared.program.Callee.{Callee}
use Rattle.c_tree.specs.declared.program.Construct.{Construct}
use Rattle.c_tree.specs.declared.program.Ending.{Ending}

mutual
  pub data Expr : Type 0 where
    Constant : (word : Word) → Expr
    Local : (slot : ℕ) → Expr
    Object : (slot : ℕ) → Expr
    Load : (scalar : Scalar) (place : Expr) → Expr
    SetLocal : (slot : ℕ) (value : Expr) → Expr
    Store : (place value : Expr) → Expr
    UpdateLocal : (update : Update) (slot : ℕ) (value : Expr) → Expr
    UpdateStore : (update : Update) (place value : Expr) → Expr
    StepLocal : (update : Update) (before : Bool) (slot : ℕ) → Expr
    StepStore : (update : Update) (before : Bool) (place : Expr) → Expr
    Negate : (width : Width) (value : Expr) → Expr
    Complement : (value : Expr) → Expr
    Not : (value : Expr) → Expr
    Narrow : (value : Expr) → Expr
    Arithmetic : (width : Width) (operation : Operation) (left right : Expr) → Expr
    Compare : (comparison : Comparison) (left right : Expr) → Expr
    Same : (wanted : Bool) (left right : Expr) → Expr
    And : (left right : Expr) → Expr
    Or : (left right : Expr) → Expr
    Choice : (test yes' no' : Expr) → Expr
    Offset : (back : Bool) (words : ℕ) (pointer index : Expr) → Expr
    Malloc : (size : ℕ) (bytes : Expr) → Expr
    Free : (pointer : Expr) → Expr
    Apply : (callee : Callee) (arguments : Exprs) → Expr

  pub data Exprs : Type 0 where
    End : Exprs
    More : (first : Expr) (rest : Exprs) → Exprs

mutual
  pub data Stmt : Type 0 where
    Eval : (line : ℕ) (value : Expr) → Stmt
    Unset : (slot : ℕ) → Stmt
    New : (line slot words : ℕ) → Stmt
    Block : (items : Stmts) (end_line : ℕ) → Stmt
    If : (line : ℕ) (test : Expr) (body other : Stmt) → Stmt
    While : (line : ℕ) (test : Expr) (body : Stmt) → Stmt
    DoWhile : (line : ℕ) (body : Stmt) (test : Expr) → Stmt
    For : (line : ℕ) (test step : Option Expr) (body : Stmt) → Stmt
    Return : (line : ℕ) (value : Option Expr) → Stmt
    Break : (line : ℕ) → Stmt
    Continue : (line : ℕ) → Stmt
    Single : (line construct : ℕ) (nowait : Bool) (body : Stmt) → Stmt
    Barrier : (line construct : ℕ) → Stmt

  pub data Stmts : Type 0 where
    Done : Stmts
    Then : (first : Stmt) (rest : Stmts) → Stmts

pub record Function : Type 0 where
  pub params : List Bool
  pub slots : ℕ
  pub body : Stmts
  pub ending : Ending
  pub end_line : ℕ

pub record Program : Type 0 where
  pub variables : List StaticVar
  pub functions : List Function
  pub main : ℕ
  pub constructs : List Construct
  pub lines : ℕ
