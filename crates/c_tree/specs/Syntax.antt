-- The tree of a source without the pointers that the code's tree has. Definitions over trees are over these.
use Rattle.std.specs.Prelude.{ℕ, ℤ, Bool, List, Option}
use Rattle.mpc_values.specs.declared.owners.Level.{Level}
use Rattle.c_tree.specs.declared.syntax.Place.{Place}
use Rattle.c_tree.specs.declared.syntax.Base.{Base}
use Rattle.c_tree.specs.declared.syntax.TypeName.{TypeName}
use Rattle.c_tree.specs.declared.syntax.Unary.{Unary}
use Rattle.c_tree.specs.declared.syntax.Binary.{Binary}
use Rattle.c_tree.specs.declared.syntax.Change.{Change}
use Rattle.c_tree.specs.declared.syntax.Param.{Param}
use Rattle.c_tree.specs.declared.syntax.Returns.{Returns}

mutual
  pub data Expr : Type 0 where
    Name : (at : Place) (name : List ℕ) → Expr
    Number : (at : Place) (value : ℤ) (long : Bool) → Expr
    Text : (at : Place) (text : List ℕ) → Expr
    Call : (at : Place) (name : List ℕ) (arguments : Exprs) → Expr
    Index : (at : Place) (array index : Expr) → Expr
    Field : (at : Place) (operand : Expr) (name : List ℕ) → Expr
    Postfix : (at : Place) (change : Change) (operand : Expr) → Expr
    Prefix : (at : Place) (change : Change) (operand : Expr) → Expr
    Unary' : (at : Place) (sign : Unary) (operand : Expr) → Expr
    Cast : (at : Place) (to : TypeName) (operand : Expr) → Expr
    SizeOf : (at : Place) (base : Base) → Expr
    Binary' : (at : Place) (sign : Binary) (left right : Expr) → Expr
    Choice : (at : Place) (test yes' no' : Expr) → Expr
    Assign : (at : Place) (sign : Option Binary) (left right : Expr) → Expr

  pub data Exprs : Type 0 where
    End : Exprs
    More : (first : Expr) (rest : Exprs) → Exprs

-- what stands behind the = of a declarator
pub data Initializer : Type 0 where
  Nothing : Initializer
  Value : (value : Expr) → Initializer
  Values : (values : List Expr) → Initializer

pub record Declarator : Type 0 where
  pub at : Place
  pub pointer : Bool
  pub name : List ℕ
  pub len : Option Expr
  pub initializer : Initializer

pub record Declaration : Type 0 where
  pub at : Place
  pub is_static : Bool
  pub base : Base
  pub declarators : List Declarator

-- what a for begins with
pub data ForHead : Type 0 where
  Bare : ForHead
  Declared : (declaration : Declaration) → ForHead
  Evaluated : (value : Expr) → ForHead

mutual
  pub data Stmt : Type 0 where
    Empty : (at : Place) → Stmt
    Eval : (at : Place) (value : Expr) → Stmt
    Declare : (declaration : Declaration) → Stmt
    Block : (at : Place) (items : Stmts) (end_line : ℕ) → Stmt
    If : (at : Place) (test : Expr) (body : Stmt) → Stmt
    IfElse : (at : Place) (test : Expr) (body other : Stmt) → Stmt
    While : (at : Place) (test : Expr) (body : Stmt) → Stmt
    DoWhile : (at : Place) (body : Stmt) (test : Expr) → Stmt
    For : (at : Place) (head : ForHead) (test step : Option Expr) (body : Stmt) → Stmt
    Return : (at : Place) (value : Option Expr) → Stmt
    Break : (at : Place) → Stmt
    Continue : (at : Place) → Stmt
    Single : (at : Place) (names : List (List ℕ)) (nowait : Bool) (body : Stmt) → Stmt
    Barrier : (at : Place) (names : List (List ℕ)) → Stmt

  pub data Stmts : Type 0 where
    Done : Stmts
    Then : (first : Stmt) (rest : Stmts) → Stmts

pub record Body : Type 0 where
  pub at : Place
  pub items : Stmts
  pub end_line : ℕ

pub record Function : Type 0 where
  pub at : Place
  pub is_static : Bool
  pub returns : Returns
  pub name : List ℕ
  pub params : List Param
  pub body : Option Body

pub data Item : Type 0 where
  Scope : (at : Place) (level : Level) (names : List (List ℕ)) → Item
  Variables : (declaration : Declaration) → Item
  Defined : (function : Function) → Item

pub record Tree : Type 0 where
  pub items : List Item
  pub last_line : ℕ
