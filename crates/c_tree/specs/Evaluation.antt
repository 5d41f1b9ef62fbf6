-- The value of an expression, and what its evaluation asks, from left to right (C99, section 6.5).
use Rattle.std.specs.Prelude.{ℕ, ℤ, pos, Bool, true, false, not, cond, List, [], ◌∷◌, Result, Ok, Err}
use Rattle.mpc_values.specs.declared.values.Word.{Word}
use Rattle.mpc_values.specs.declared.values.Word.TheVariants.{Undef, Int, Null, Ptr, Comm, Req}
use Rattle.mpc_values.specs.declared.calls.Call.TheVariants as call
use Rattle.mpc_values.specs.declared.faults.Fault.{Fault}
use Rattle.mpc_values.specs.declared.faults.Fault.TheVariants.{Uninit}
use Rattle.c_tree.specs.declared.program.Width.{Width}
use Rattle.c_tree.specs.declared.program.Width.TheVariants as width
use Rattle.c_tree.specs.declared.program.Scalar.{Scalar}
use Rattle.c_tree.specs.declared.program.Scalar.TheVariants as scalar
use Rattle.c_tree.specs.declared.program.Update.{Update}
use Rattle.c_tree.specs.declared.program.Update.TheVariants as update
use Rattle.c_tree.specs.declared.program.Callee.{Callee}
use Rattle.c_tree.specs.declared.program.Callee.TheVariants as callee
use Rattle.c_tree.specs.Programs.{Expr, Constant, Local, Object, Load, SetLocal, Store, UpdateLocal, UpdateStore, StepLocal, StepStore, Negate, Complement, Not, Narrow, Arithmetic, Compare, Same, And, Or, Choice, Offset, Malloc, Free, Apply, Exprs, End, More}
use Rattle.c_tree.specs.Numbers.{number_of, wrapped}
use Rattle.c_tree.specs.Arithmetic.{operated, negated, complemented, compared}
use Rattle.c_tree.specs.Words.{pointer_of, read_as, holds, truth, same_word, moved, elements, malloc_words, printed}
use Rattle.c_tree.specs.Asking.{Step, ◌>>=◌, pure, ask, fault, get, set, word_of}
use Rattle.c_tree.specs.Scripts.{asks_of}

-- what a call of a function does: its number, its arguments and the caller's line
abbrev pub Calls : Type 0
Calls = ℕ → List Word → ℕ → Step Word

-- a word that has been set
abbrev pub known : Word → ℕ → Step Word
known Undef line = fault Uninit line
known (Int z) line = pure (Int z)
known Null line = pure Null
known (Ptr obj at) line = pure (Ptr obj at)
known (Comm comm) line = pure (Comm comm)
known (Req req) line = pure (Req req)

-- the value of a local that the task keeps
abbrev pub value_of_local : ℕ → ℕ → Step Word
value_of_local slot line = do
  word ← get slot
  known word line

-- a number, or the fault where there is none
abbrev pub number_or_fault : Result ℤ Fault → ℕ → Step Word
number_or_fault (Ok z) line = pure (Int z)
number_or_fault (Err f) line = fault f line

-- a word, or the fault where there is none
abbrev pub word_or_fault : Result Word Fault → ℕ → Step Word
word_or_fault (Ok word) line = pure word
word_or_fault (Err f) line = fault f line

-- the word at a place
abbrev pub load : Scalar → Word → ℕ → Step Word
load kind place line = do
  answer ← ask (call.Load place) line
  pure (read_as kind (word_of answer))

-- stores a word at a place, and has it
abbrev pub store : Word → Word → ℕ → Step Word
store place word line = do
  _ ← ask (call.Store place word) line
  pure word

-- what an updated variable is read as
abbrev pub scalar_of : Update → Scalar
scalar_of (update.Number operation w target) = scalar.Number target
scalar_of (update.Pointer back words) = scalar.Pointer

-- a number that becomes one of a type
abbrev pub narrowed : Width → Result ℤ Fault → Result ℤ Fault
narrowed target (Ok z) = Ok (wrapped target z)
narrowed target (Err f) = Err f

-- The new value of a variable, from its old one and the number on the right.
abbrev pub updated : Update → Word → Word → ℕ → Step Word
updated (update.Number operation w target) old right line =
    number_or_fault (narrowed target (operated w operation (number_of w old) (number_of width.Long right))) line
updated (update.Pointer back words) old right line =
    word_or_fault (moved old (elements back words (number_of width.Long right))) line

-- the pointer moved by a number of elements
abbrev pub offset : Bool → ℕ → Word → Word → ℕ → Step Word
offset back words pointer index line = word_or_fault (moved pointer (elements back words (number_of width.Long index))) line

-- what follows where a condition holds, and where not
abbrev pub if_holds : {A : Type 0} → Word → A → A → A
if_holds word yes' no' = cond (holds word) yes' no'

-- what is called with its arguments, and the value
abbrev pub applied : Calls → ℕ → Callee → List Word → Step Word
applied calls line (callee.Function number) arguments = calls number arguments line
applied calls line (callee.Print format) arguments = do
  answer ← ask (call.Print (printed format arguments)) line
  pure (Int (number_of width.Int (word_of answer)))
applied calls line (callee.Mpi mpi) arguments = do
  _ ← asks_of mpi arguments line
  pure (Int (pos 0))

abbrev mutual
  -- the value of an expression in a statement of this line
  pub eval : Calls → ℕ → Expr → Step Word
  eval calls line (Constant word) = pure word
  eval calls line (Local slot) = value_of_local slot line
  eval calls line (Object slot) = do
    word ← get slot
    pure (pointer_of word)
  eval calls line (Load kind place) = do
    pointer ← eval calls line place
    load kind pointer line
  eval calls line (SetLocal slot value) = do
    word ← eval calls line value
    set slot word
  eval calls line (Store place value) = do
    pointer ← eval calls line place
    word ← eval calls line value
    store pointer word line
  eval calls line (UpdateLocal update slot value) = do
    old ← value_of_local slot line
    right ← eval calls line value
    new ← updated update old right line
    set slot new
  eval calls line (UpdateStore update place value) = do
    pointer ← eval calls line place
    old ← load (scalar_of update) pointer line
    right ← eval calls line value
    new ← updated update old right line
    store pointer new line
  eval calls line (StepLocal update before slot) = do
    old ← value_of_local slot line
    new ← updated update old (Int (pos 1)) line
    _ ← set slot new
    pure (cond before new old)
  eval calls line (StepStore update before place) = do
    pointer ← eval calls line place
    old ← load (scalar_of update) pointer line
    new ← updated update old (Int (pos 1)) line
    _ ← store pointer new line
    pure (cond before new old)
  eval calls line (Negate w value) = do
    word ← eval calls line value
    number_or_fault (negated w (number_of width.Long word)) line
  eval calls line (Complement value) = do
    word ← eval calls line value
    pure (Int (complemented (number_of width.Long word)))
  eval calls line (Not value) = do
    word ← eval calls line value
    pure (truth (not (holds word)))
  eval calls line (Narrow value) = do
    word ← eval calls line value
    pure (Int (number_of width.Int word))
  eval calls line (Arithmetic w operation left right) = do
    x ← eval calls line left
    y ← eval calls line right
    number_or_fault (operated w operation (number_of width.Long x) (number_of width.Long y)) line
  eval calls line (Compare comparison left right) = do
    x ← eval calls line left
    y ← eval calls line right
    pure (truth (compared comparison (number_of width.Long x) (number_of width.Long y)))
  eval calls line (Same wanted left right) = do
    x ← eval calls line left
    y ← eval calls line right
    pure (truth (cond wanted (same_word x y) (not (same_word x y))))
  eval calls line (And left right) = do
    x ← eval calls line left
    if_holds x (do
      y ← eval calls line right
      pure (truth (holds y))) (pure (truth false))
  eval calls line (Or left right) = do
    x ← eval calls line left
    if_holds x (pure (truth true)) (do
      y ← eval calls line right
      pure (truth (holds y)))
  eval calls line (Choice test yes' no') = do
    x ← eval calls line test
    if_holds x (eval calls line yes') (eval calls line no')
  eval calls line (Offset back words pointer index) = do
    p ← eval calls line pointer
    n ← eval calls line index
    offset back words p n line
  eval calls line (Malloc size bytes) = do
    word ← eval calls line bytes
    answer ← ask (call.Malloc (malloc_words size (number_of width.Long word))) line
    pure (pointer_of (word_of answer))
  eval calls line (Free pointer) = do
    word ← eval calls line pointer
    _ ← ask (call.Free word) line
    pure (Int (pos 0))
  eval calls line (Apply callee arguments) = do
    words ← eval_all calls line arguments
    applied calls line callee words

  -- the values of several expressions
  pub eval_all : Calls → ℕ → Exprs → Step (List Word)
  eval_all calls line End = pure []
  eval_all calls line (More first rest) = do
    word ← eval calls line first
    words ← eval_all calls line rest
    pure (word ∷ words)
