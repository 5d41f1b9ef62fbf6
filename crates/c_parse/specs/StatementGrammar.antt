-- The productions of blocks and statements, one definition each (C99, section 6.8).
use Rattle.std.specs.Prelude.{ℕ, zero, suc, Bool, true, false, List, [], ◌∷◌, ◌++◌, Option, Some, None}
use Rattle.c_tree.specs.declared.syntax.Place.{Place}
use Rattle.c_tree.specs.Syntax as x
use Rattle.c_parse.specs.declared.symbols.Class.{Class}
use Rattle.c_parse.specs.declared.symbols.Class.TheVariants as class
use Rattle.c_parse.specs.declared.symbols.Key.TheVariants as key
use Rattle.c_parse.specs.declared.symbols.Mark.{Mark}
use Rattle.c_parse.specs.declared.symbols.Mark.TheVariants as mark
use Rattle.c_parse.specs.declared.grammar.Part.{Part}
use Rattle.c_parse.specs.declared.grammar.Part.TheVariants as part
use Rattle.c_parse.specs.Symbols.{Sym}
use Rattle.c_parse.specs.Signs.{is_mark}
use Rattle.c_parse.specs.Phrases.{Phrase, nothing, give, one, ◌>>=◌, ◌>>◌, ◌or◌, repeat, placed}
use Rattle.c_parse.specs.Grammar.{one_if, mark_, key_, when}
use Rattle.c_parse.specs.DeclarationGrammar.{declaration}

-- the items of a block, by their list
abbrev pub items_of : List x.Stmt → x.Stmts
items_of [] = x.Done
items_of (first ∷ more) = x.Then first (items_of more)

abbrev pub block_of : x.Body → x.Stmt
block_of b = x.Block b.at b.items b.end_line

-- what may stand one deeper, if anything may
pub record Inside : Type 1 where
  pub deep : Bool
  pub depth : ℕ
  pub stmt : Phrase x.Stmt

-- an else would belong to an if at the end of this statement
abbrev pub is_open : x.Stmt → Bool
is_open (x.If at test body) = true
is_open (x.IfElse at test body other) = is_open other
is_open (x.While at test body) = is_open body
is_open (x.For at head test step body) = is_open body
is_open s = false

-- the names that a directive lists, and whether it is nowait
abbrev pub single_by : Class → List (List ℕ) → Option (List (List ℕ) × Bool)
single_by (class.Single nowait) names = Some (names, nowait)
single_by c names = None

-- the same of a symbol
abbrev pub single_as : Sym → Option (List (List ℕ) × Bool)
single_as s = single_by s.class s.names

-- a barrier
abbrev pub is_barrier : Class → Bool
is_barrier class.Barrier = true
is_barrier c = false

-- what a for begins with, where it declares nothing
abbrev pub evaluated : Option x.Expr → x.ForHead
evaluated None = x.Bare
evaluated (Some value) = x.Evaluated value

-- by the rule of the expressions that no larger one covers, at a depth
module _ (expression : ℕ → Part → Phrase x.Expr) where
  -- [expr] and what ends it
  unfoldable pub optional : ℕ → Mark → Phrase (Option x.Expr)
  optional d end =
      (do mark_ end; give None)
      or (do value ← expression d part.Assign; mark_ end; give (Some value))

  module _ (inside : Inside) where
    -- decl | stmt, one deeper
    unfoldable pub item : Phrase x.Stmt
    item = (do found ← declaration expression inside.depth; give (x.Declare found)) or inside.stmt

    -- one item more, put behind those before
    unfoldable pub one_more_item : List x.Stmt → Phrase (List x.Stmt)
    one_more_item found = do
      s ← item
      give (found ++ s ∷ [])

    -- block = "{" { decl | stmt } "}" ^
    unfoldable pub body : Phrase x.Body
    body = when inside.deep (placed (λ at. do
      mark_ mark.OpenBrace
      found ← repeat one_more_item []
      end ← one_if (is_mark mark.CloseBrace) (λ s. s.at)
      give (record { at = at; items = items_of found; end_line = end.line })))

    -- "(" expr ")"
    unfoldable pub condition : Phrase x.Expr
    condition = do
      mark_ mark.Open
      test ← expression inside.depth part.Assign
      mark_ mark.Close
      give test

    -- [ "else" stmt ], where no if at the end of the statement before takes the else
    unfoldable pub other_of : Place → x.Expr → x.Stmt → Bool → Phrase x.Stmt
    other_of at test body true = give (x.If at test body)
    other_of at test body false = (do key_ key.Else; other ← inside.stmt; give (x.IfElse at test body other)) or give (x.If at test body)

    -- "if" "(" expr ")" stmt [ "else" stmt ] ^
    unfoldable pub if_ : Place → Phrase x.Stmt
    if_ at = when inside.deep (do
      key_ key.If
      test ← condition
      body ← inside.stmt
      other_of at test body (is_open body))

    -- "while" "(" expr ")" stmt ^
    unfoldable pub while_ : Place → Phrase x.Stmt
    while_ at = when inside.deep (do
      key_ key.While
      test ← condition
      body ← inside.stmt
      give (x.While at test body))

    -- "do" stmt "while" "(" expr ")" ";" ^
    unfoldable pub do_ : Place → Phrase x.Stmt
    do_ at = when inside.deep (do
      key_ key.Do
      body ← inside.stmt
      key_ key.While
      test ← condition
      mark_ mark.Semicolon
      give (x.DoWhile at body test))

    -- decl | [expr] ";"
    unfoldable pub for_head : Phrase x.ForHead
    for_head =
        (do found ← declaration expression inside.depth; give (x.Declared found))
        or (do value ← optional inside.depth mark.Semicolon; give (evaluated value))

    -- "for" "(" ( decl | [expr] ";" ) [expr] ";" [expr] ")" stmt ^
    unfoldable pub for_ : Place → Phrase x.Stmt
    for_ at = when inside.deep (do
      key_ key.For
      mark_ mark.Open
      head ← for_head
      test ← optional inside.depth mark.Semicolon
      step ← optional inside.depth mark.Close
      body ← inside.stmt
      give (x.For at head test step body))

    module _ (d : ℕ) where
      -- stmt = block | ";" | expr ";" | PRAGMA block | PRAGMA | "if" .. | "while" .. | "do" .. | "for" .. | "return" [expr] ";" | "break" ";" | "continue" ";"
      unfoldable pub statement_at : Place → Phrase x.Stmt
      statement_at at =
          (do b ← body; give (block_of b))
          or (do mark_ mark.Semicolon; give (x.Empty at))
          or (do listed ← one single_as; b ← body; give (x.Single at listed.0 listed.1 (block_of b)))
          or (do listed ← one_if is_barrier (λ s. s.names); give (x.Barrier at listed))
          or if_ at
          or while_ at
          or do_ at
          or for_ at
          or (do key_ key.Return; value ← optional d mark.Semicolon; give (x.Return at value))
          or (do key_ key.Break; mark_ mark.Semicolon; give (x.Break at))
          or (do key_ key.Continue; mark_ mark.Semicolon; give (x.Continue at))
          or (do value ← expression d part.Assign; mark_ mark.Semicolon; give (x.Eval at value))

  -- the inner parts of a statement in which so many marked productions may still stand in one another
  unfoldable pub inside : ℕ → Inside
  inside zero = record { deep = false; depth = 0; stmt = nothing }
  inside (suc d) = record { deep = true; depth = d; stmt = placed (statement_at (inside d) d) }

  -- a statement in which so many marked productions may stand in one another
  unfoldable pub statement : ℕ → Phrase x.Stmt
  statement d = placed (statement_at (inside d) d)
