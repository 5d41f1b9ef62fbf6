-- What a task asks, and steps that ask one call after another.
--
-- A `Step A` is written in continuation form: `m k s` runs the step m from the state s, and hands the value
-- that m gives, and the state behind it, on to k. So a step that asks is a function on the list of answers:
-- it takes its own from the front, or, where none is left, is the answer to "what is asked next?".
use Rattle.std.specs.Prelude.{ℕ, zero, suc, Bool, true, false, cond, List, [], ◌∷◌, slice_index_or, slice_set}
use Rattle.mpc_values.specs.declared.values.Word.{Word}
use Rattle.mpc_values.specs.declared.values.Word.TheVariants.{Undef}
use Rattle.mpc_values.specs.declared.calls.Call.{Call}
use Rattle.mpc_values.specs.declared.calls.Call.TheVariants as call
use Rattle.mpc_values.specs.declared.faults.Fault.{Fault}
use Rattle.mpc_values.specs.declared.faults.Fault.TheVariants.{Turns}
use Rattle.mpc_values.specs.declared.answers.Answer.{Answer}
use Rattle.mpc_values.specs.declared.answers.Answer.TheVariants.{Done, Gives, Posted, Got, Flag, Any, Entered}

-- what comes behind a list of answers: a call at a line, the end, or nothing, where the answers do not fit
pub data Next : Type 0 where
  Asks : (call : Call) (line : ℕ) → Next
  Over : Next
  Misfit : Next

-- the kinds of answers; a call that is only done may also give a word, or nothing may answer it
pub data AnswerKind : Type 0 where
  OfDone : AnswerKind
  OfWord : AnswerKind
  OfDoneOrWord : AnswerKind
  OfPosting : AnswerKind
  OfStatus : AnswerKind
  OfFlag : AnswerKind
  OfAny : AnswerKind
  OfWay : AnswerKind
  OfNone : AnswerKind

-- the kind of a call's answer; a failure of the task itself is never answered
abbrev pub kind_of : Call → AnswerKind
kind_of (call.Load at) = OfWord
kind_of (call.Store at word) = OfDone
kind_of (call.New len) = OfWord
kind_of (call.Drop obj) = OfDone
kind_of (call.Malloc n) = OfWord
kind_of (call.Free at) = OfDone
kind_of (call.Print text) = OfWord
kind_of (call.Broke fault) = OfNone
kind_of (call.Finish code) = OfWord
kind_of call.Init = OfDone
kind_of call.Finalize = OfDone
kind_of (call.Abort comm code) = OfWord
kind_of (call.Rank comm) = OfWord
kind_of (call.Size comm) = OfWord
kind_of (call.Send at count kind peer tag comm sync) = OfPosting
kind_of (call.Recv at count kind peer tag comm) = OfPosting
kind_of (call.Complete req) = OfStatus
kind_of (call.Test req) = OfFlag
kind_of (call.AnyOf reqs) = OfAny
kind_of (call.Probe peer tag comm) = OfStatus
kind_of (call.Iprobe peer tag comm) = OfFlag
kind_of (call.Arrive coll) = OfDone
kind_of (call.Leave comm) = OfDoneOrWord
kind_of (call.HlsEnter construct) = OfWay
kind_of (call.HlsWait construct) = OfDone
kind_of (call.HlsExit construct) = OfDone
kind_of (call.HlsBar construct) = OfDone
kind_of (call.HlsBarWait construct) = OfDone

-- whether an answer is of a kind
abbrev pub is_of : AnswerKind → Answer → Bool
is_of OfDone Done = true
is_of OfWord (Gives word) = true
is_of OfDoneOrWord Done = true
is_of OfDoneOrWord (Gives word) = true
is_of OfPosting (Posted req post met words) = true
is_of OfStatus (Got status) = true
is_of OfFlag (Flag status) = true
is_of OfAny (Any index status) = true
is_of OfWay (Entered way) = true
is_of kind answer = false

-- whether an answer is one of the call's kind
abbrev pub fits : Call → Answer → Bool
fits call answer = is_of (kind_of call) answer

-- the word that an answer gives
abbrev pub word_of : Answer → Word
word_of (Gives word) = word
word_of answer = Undef

-- What a step goes on from: the words in the slots of the function's locals, how many turns are left, and the
-- answers that are not used yet.
pub record State : Type 0 where
  pub slots : List Word
  pub turns : ℕ
  pub answers : List Answer

abbrev pub Step : Type 0 → Type 0
Step A = (A → State → Next) → State → Next

infixl 10 ◌>>=◌
abbrev pub ◌>>=◌ : {A B : Type 0} → Step A → (A → Step B) → Step B
(m >>= f) k s = m (λ a s'. f a k s') s

-- gives a value, and asks nothing
abbrev pub pure : {A : Type 0} → A → Step A
pure a k s = k a s

abbrev pub asked : Call → ℕ → (Answer → List Answer → Next) → List Answer → Next
asked call line k [] = Asks call line
asked call line k (answer ∷ more) = cond (fits call answer) (k answer more) Misfit

-- asks a call, and gives its answer
abbrev pub ask : Call → ℕ → Step Answer
ask call line k s = asked call line (λ answer more. k answer (record s { answers = more })) s.answers

-- the task fails, and asks nothing more
abbrev pub fault : {A : Type 0} → Fault → ℕ → Step A
fault f line k s = ask (call.Broke f) line (λ answer s'. Misfit) s

-- the word in a slot; a slot that was never set has no word
abbrev pub get : ℕ → Step Word
get slot k s = k (slice_index_or s.slots slot Undef) s

-- sets a slot to a word, and gives the word
abbrev pub set : ℕ → Word → Step Word
set slot word k s = k word (record s { slots = slice_set s.slots slot word })

abbrev pub tick_from : ℕ → ℕ → Step (Unit {0})
tick_from zero line = fault Turns line
tick_from (suc left) line = λ k s. k tt (record s { turns = left })

-- counts a turn, where one is left
abbrev pub tick : ℕ → Step (Unit {0})
tick line k s = tick_from s.turns line k s
