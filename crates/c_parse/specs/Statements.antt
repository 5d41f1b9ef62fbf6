-- How statements are read (C99, section 6.8).
use Rattle.std.specs.Prelude.{ℕ, zero, suc, Bool, true, false, if◌then◌else◌, List, [], ◌∷◌, ◌++◌, Option, Some, None}
use Rattle.c_tree.specs.declared.syntax.Place.{Place}
use Rattle.c_tree.specs.Syntax as x
use Rattle.c_parse.specs.declared.symbols.Class.{Class}
use Rattle.c_parse.specs.declared.symbols.Class.TheVariants as class
use Rattle.c_parse.specs.declared.symbols.Key.TheVariants as key
use Rattle.c_parse.specs.declared.symbols.Mark.{Mark}
use Rattle.c_parse.specs.declared.symbols.Mark.TheVariants as mark
use Rattle.c_parse.specs.declared.grammar.Part.TheVariants as part
use Rattle.c_parse.specs.Reading.{Got, Reader, ◌>>=◌, ◌>>◌, pure, refuse, next, here, advance, names, sees, eat_key, expect, expect_key, repeat}
use Rattle.c_parse.specs.StatementGrammar.{items_of, block_of, evaluated}
use Rattle.c_parse.specs.Expressions.{expression}
use Rattle.c_parse.specs.Declarations.{declaration, begins_declaration}

-- how what is one deeper is read: with so many marked productions that may stand in one another, if any may
pub record Inside : Type 0 where
  pub deep : Bool
  pub depth : ℕ
  pub stmt : Reader x.Stmt

-- an expression, if what would end it doesn't come next
unfoldable pub optional : ℕ → Mark → Reader (Option x.Expr)
optional d end = λ ts. if sees end ts then Got None ts else (do value ← expression d part.Assign; pure (Some value)) ts

module _ (inside : Inside) where
  -- ---- blocks

  abbrev pub item_by : Bool → Reader x.Stmt
  item_by true = do
    found ← declaration inside.depth
    pure (x.Declare found)
  item_by false = inside.stmt

  unfoldable pub item : Reader x.Stmt
  item = do
    c ← next
    item_by (begins_declaration c)

  abbrev pub one_more_item : List x.Stmt → Reader (List x.Stmt)
  one_more_item found = do
    s ← item
    pure (found ++ s ∷ [])

  unfoldable pub items : Reader (List x.Stmt)
  items = repeat (sees mark.CloseBrace) one_more_item []

  -- behind the opening brace
  unfoldable pub body_at : Place → Reader x.Body
  body_at at = do
    found ← items
    end ← here
    expect mark.CloseBrace
    pure (record { at = at; items = items_of found; end_line = end.line })

  unfoldable pub body : Reader x.Body
  body = do
    at ← here
    if inside.deep then expect mark.OpenBrace >> body_at at else refuse

  -- ---- statements whose parts are deeper

  -- a condition in brackets
  unfoldable pub condition : Reader x.Expr
  condition = do
    expect mark.Open
    test ← expression inside.depth part.Assign
    expect mark.Close
    pure test

  unfoldable pub if_from : Place → Reader x.Stmt
  if_from at = do
    test ← condition
    body ← inside.stmt
    has ← eat_key key.Else
    if has then (do other ← inside.stmt; pure (x.IfElse at test body other)) else pure (x.If at test body)

  unfoldable pub while_from : Place → Reader x.Stmt
  while_from at = do
    test ← condition
    body ← inside.stmt
    pure (x.While at test body)

  unfoldable pub do_from : Place → Reader x.Stmt
  do_from at = do
    body ← inside.stmt
    expect_key key.While
    test ← condition
    expect mark.Semicolon
    pure (x.DoWhile at body test)

  abbrev pub for_head_by : Bool → Reader x.ForHead
  for_head_by true = do
    found ← declaration inside.depth
    pure (x.Declared found)
  for_head_by false = do
    value ← optional inside.depth mark.Semicolon
    expect mark.Semicolon
    pure (evaluated value)

  unfoldable pub for_head : Reader x.ForHead
  for_head = do
    c ← next
    for_head_by (begins_declaration c)

  -- behind the head
  unfoldable pub for_rest : Place → x.ForHead → Reader x.Stmt
  for_rest at head = do
    test ← optional inside.depth mark.Semicolon
    expect mark.Semicolon
    step ← optional inside.depth mark.Close
    expect mark.Close
    body ← inside.stmt
    pure (x.For at head test step body)

  unfoldable pub for_from : Place → Reader x.Stmt
  for_from at = do
    expect mark.Open
    head ← for_head
    for_rest at head

  -- ---- other statements, with so many marked productions that may stand in one another

  module _ (d : ℕ) where
    unfoldable pub return_from : Place → Reader x.Stmt
    return_from at = do
      value ← optional d mark.Semicolon
      expect mark.Semicolon
      pure (x.Return at value)

    unfoldable pub eval : Place → Reader x.Stmt
    eval at = do
      value ← expression d part.Assign
      expect mark.Semicolon
      pure (x.Eval at value)

    unfoldable pub ended : x.Stmt → Reader x.Stmt
    ended s = do
      expect mark.Semicolon
      pure s

    unfoldable pub block : Reader x.Stmt
    block = do
      b ← body
      pure (block_of b)

    unfoldable pub single : Place → Bool → Reader x.Stmt
    single at nowait = do
      listed ← names
      b ← body
      pure (x.Single at listed nowait (block_of b))

    unfoldable pub barrier : Place → Reader x.Stmt
    barrier at = do
      listed ← names
      pure (x.Barrier at listed)

    -- what a key begins that is one deeper
    abbrev pub deeper : Reader x.Stmt → Reader x.Stmt
    deeper p = if inside.deep then advance >> p else refuse

    abbrev pub statement_by : Place → Class → Reader x.Stmt
    statement_by at (class.Mark mark.OpenBrace) = block
    statement_by at (class.Mark mark.Semicolon) = advance >> pure (x.Empty at)
    statement_by at (class.Single nowait) = single at nowait
    statement_by at class.Barrier = barrier at
    statement_by at (class.Key key.If) = deeper (if_from at)
    statement_by at (class.Key key.While) = deeper (while_from at)
    statement_by at (class.Key key.Do) = deeper (do_from at)
    statement_by at (class.Key key.For) = deeper (for_from at)
    statement_by at (class.Key key.Return) = advance >> return_from at
    statement_by at (class.Key key.Break) = advance >> ended (x.Break at)
    statement_by at (class.Key key.Continue) = advance >> ended (x.Continue at)
    statement_by at c = eval at

    unfoldable pub statement_at : Reader x.Stmt
    statement_at = do
      at ← here
      c ← next
      statement_by at c

-- the marked productions that may stand in one another
unfoldable pub inside : ℕ → Inside
inside zero = record { deep = false; depth = 0; stmt = refuse }
inside (suc d) = record { deep = true; depth = d; stmt = statement_at (inside d) d }

unfoldable pub statement : ℕ → Reader x.Stmt
statement d = statement_at (inside d) d
