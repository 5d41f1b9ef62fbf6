-- What each instruction does by itself: it leads to another state, or it wants a call.
use Rattle.std.specs.Prelude.{ℕ, zero, suc, ◌+◌, ◌-◌, ℤ, pos, negsuc, true, false, not, cond, List, [], ◌∷◌, length, take, drop, reverse, Option, Some, None, Result, Ok, Err, nat_lt, slice_get, slice_set, slice_index_or}
use Rattle.mpc_values.specs.declared.limits.TheConstants.{MAX_DEPTH}
use Rattle.mpc_values.specs.declared.values.Word.{Word}
use Rattle.mpc_values.specs.declared.values.Word.TheVariants.{Undef, Int, Null, Ptr, Comm, Req}
use Rattle.mpc_values.specs.declared.calls.Call.{Call}
use Rattle.mpc_values.specs.declared.calls.Call.TheVariants as call
use Rattle.mpc_values.specs.declared.faults.Fault.{Fault}
use Rattle.mpc_values.specs.declared.faults.Fault.TheVariants as fault
use Rattle.mpc_values.specs.declared.answers.Answer.{Answer}
use Rattle.mpc_values.specs.declared.answers.Way.{Way}
use Rattle.mpc_values.specs.declared.answers.Way.TheVariants as way
use Rattle.c_tree.specs.declared.program.MpiCall.{MpiCall}
use Rattle.c_tree.specs.declared.program.Update.{Update}
use Rattle.c_tree.specs.declared.program.Update.TheVariants as update
use Rattle.c_tree.specs.declared.program.Width.TheVariants as width
use Rattle.c_tree.specs.declared.scripts.ScriptStep.{ScriptStep}
use Rattle.c_tree.specs.MpiScripts.{steps_of, each_of, last_of}
use Rattle.c_tree.specs.Numbers.{number_of}
use Rattle.c_tree.specs.Arithmetic.{operated, negated, complemented, compared}
use Rattle.c_tree.specs.Words.{pointer_of, read_as, holds, truth, same_word, moved, elements, malloc_words, printed}
use Rattle.c_tree.specs.Scripts.{Found, nothing_found, Wanted, Wants, Skips, Breaks, wanted, found_behind, number_at}
use Rattle.c_tree.specs.Evaluation.{narrowed}
use Rattle.c_tree.specs.Execution.{object_of, way_of, slots_of}
use Rattle.c_tree.specs.Asking.{word_of}
use Rattle.c_code.specs.declared.instr.Instr.{Instr}
use Rattle.c_code.specs.declared.instr.Instr.TheVariants as i
use Rattle.c_code.specs.declared.code.Entry.{Entry}
use Rattle.c_code.specs.FlatCode.{FlatCode}

-- Where a call goes on when it returns: the place, the slots, and the line of the call that the caller itself was
-- called by.
pub record Frame : Type 0 where
  pub pc : ℕ
  pub slots : List Word
  pub line : ℕ

-- the part of a script that is being taken
pub data Phase : Type 0 where
  First : Phase
  Requests : (left : ℕ) → Phase
  Last : Phase

-- An MPI function whose script is being taken: what it is called with, the steps that are left of the present part, for
-- the request of an index, and what was found.
pub record Scripting : Type 0 where
  pub mpi : MpiCall
  pub arguments : List Word
  pub line : ℕ
  pub phase : Phase
  pub steps : List ScriptStep
  pub index : ℕ
  pub found : Found

-- The machine between two steps: the place in the code, the stack, the calls that are open, the line of the present
-- function's call, the words of its locals, the turns that are left, and the script that is being taken.
pub record Mach : Type 0 where
  pub pc : ℕ
  pub stack : List Word
  pub frames : List Frame
  pub line : ℕ
  pub slots : List Word
  pub turns : ℕ
  pub script : Option Scripting

-- What a step does: it leads to a state, or it wants a call at a line; or it cannot be taken.
pub data Stepped : Type 0 where
  Moves : (m : Mach) → Stepped
  Asks : (call : Call) (line : ℕ) → Stepped
  Sticks : Stepped

-- how many calls may be open, main's own included
abbrev pub depth_limit : ℕ
depth_limit = MAX_DEPTH

-- the next instruction, with this stack
abbrev pub next : Mach → List Word → Stepped
next m stack = Moves (record m { pc = m.pc + 1; stack = stack })

abbrev pub breaks : Fault → ℕ → Stepped
breaks f line = Asks (call.Broke f) line

-- the word on top of the stack, and what is below it
abbrev pub on_top : List Word → (Word → List Word → Stepped) → Stepped
on_top [] go = Sticks
on_top (w ∷ ws) go = go w ws

-- a number or a word, or the fault where there is none
abbrev pub number_next : Mach → List Word → ℕ → Result ℤ Fault → Stepped
number_next m stack line (Ok z) = next m (Int z ∷ stack)
number_next m stack line (Err f) = breaks f line

abbrev pub word_next : Mach → List Word → ℕ → Result Word Fault → Stepped
word_next m stack line (Ok w) = next m (w ∷ stack)
word_next m stack line (Err f) = breaks f line

-- a word that has to be set
abbrev pub known_next : Mach → ℕ → Word → Stepped
known_next m line Undef = breaks fault.Uninit line
known_next m line (Int z) = next m (Int z ∷ m.stack)
known_next m line Null = next m (Null ∷ m.stack)
known_next m line (Ptr obj at) = next m (Ptr obj at ∷ m.stack)
known_next m line (Comm comm) = next m (Comm comm ∷ m.stack)
known_next m line (Req req) = next m (Req req ∷ m.stack)

abbrev pub updated_next : Mach → List Word → ℕ → Update → Word → Word → Stepped
updated_next m stack line (update.Number operation w target) old right =
    number_next m stack line (narrowed target (operated w operation (number_of w old) (number_of width.Long right)))
updated_next m stack line (update.Pointer back words) old right =
    word_next m stack line (moved old (elements back words (number_of width.Long right)))

-- a turn, where one is left
abbrev pub turned : Mach → ℕ → ℕ → (ℕ → Stepped) → Stepped
turned m line zero go = breaks fault.Turns line
turned m line (suc left) go = go left

-- a call of a function with its arguments, behind which so much of the stack is left
abbrev pub entered : Mach → ℕ → ℕ → List Word → List Word → Option Entry → Stepped
entered m line turns arguments stack None = breaks fault.Depth line
entered m line turns arguments stack (Some entry) = Moves (record m {
  pc = entry.start;
  stack = stack;
  frames = record { pc = m.pc + 1; slots = m.slots; line = m.line } ∷ m.frames;
  line = line;
  slots = slots_of entry.slots arguments;
  turns = turns;
})

-- the end of a function with a value
abbrev pub left : Mach → Word → List Word → ℕ → List Frame → Stepped
left m w stack line [] = Asks (call.Finish (number_of width.Int w)) line
left m w stack line (f ∷ frames) = Moves (record m { pc = f.pc; stack = w ∷ stack; frames = frames; line = f.line; slots = f.slots })

-- the arguments that were put on the stack last, in order
abbrev pub arguments_on : ℕ → List Word → List Word
arguments_on count stack = reverse (take count stack)

-- what an instruction does; an MPI function's begins its script
unfoldable pub step_of : FlatCode → Instr → Mach → Stepped
step_of code (i.Push w) m = next m (w ∷ m.stack)
step_of code i.Pop m = on_top m.stack (λ w ws. next m ws)
step_of code i.Duplicate m = on_top m.stack (λ w ws. next m (w ∷ w ∷ ws))
step_of code i.Tuck m = on_top m.stack (λ w ws. on_top ws (λ v vs. next m (w ∷ v ∷ w ∷ vs)))
step_of code (i.Get slot line) m = known_next m line (slice_index_or m.slots slot Undef)
step_of code (i.Object slot) m = next m (pointer_of (slice_index_or m.slots slot Undef) ∷ m.stack)
step_of code (i.Set slot) m = on_top m.stack (λ w ws. Moves (record m { pc = m.pc + 1; slots = slice_set m.slots slot w }))
step_of code (i.Unset slot) m = Moves (record m { pc = m.pc + 1; slots = slice_set m.slots slot Undef })
step_of code (i.Load scalar line) m = on_top m.stack (λ w ws. Asks (call.Load w) line)
step_of code (i.Peek scalar line) m = on_top m.stack (λ w ws. Asks (call.Load w) line)
step_of code (i.Store line) m = on_top m.stack (λ w ws. on_top ws (λ p ps. Asks (call.Store p w) line))
step_of code (i.Update update line) m = on_top m.stack (λ right ws. on_top ws (λ old vs. updated_next m vs line update old right))
step_of code (i.Negate w line) m = on_top m.stack (λ x ws. number_next m ws line (negated w (number_of width.Long x)))
step_of code i.Complement m = on_top m.stack (λ x ws. next m (Int (complemented (number_of width.Long x)) ∷ ws))
step_of code i.Not m = on_top m.stack (λ x ws. next m (truth (not (holds x)) ∷ ws))
step_of code i.Narrow m = on_top m.stack (λ x ws. next m (Int (number_of width.Int x) ∷ ws))
step_of code (i.Arithmetic w operation line) m =
    on_top m.stack (λ y ys. on_top ys (λ x ws. number_next m ws line (operated w operation (number_of width.Long x) (number_of width.Long y))))
step_of code (i.Compare comparison) m =
    on_top m.stack (λ y ys. on_top ys (λ x ws. next m (truth (compared comparison (number_of width.Long x) (number_of width.Long y)) ∷ ws)))
step_of code (i.Same wanted') m =
    on_top m.stack (λ y ys. on_top ys (λ x ws. next m (truth (cond wanted' (same_word x y) (not (same_word x y))) ∷ ws)))
step_of code i.Truth m = on_top m.stack (λ x ws. next m (truth (holds x) ∷ ws))
step_of code (i.Unless n) m =
    on_top m.stack (λ x ws. cond (holds x) (next m ws) (Moves (record m { pc = m.pc + 1 + n; stack = ws })))
step_of code (i.Skip n) m = Moves (record m { pc = m.pc + 1 + n })
step_of code (i.Again n line) m =
    on_top m.stack (λ x ws. cond (holds x) (turned m line m.turns (λ left'. Moves (record m { pc = m.pc - n; stack = ws; turns = left' }))) (next m ws))
step_of code (i.Tick line) m = turned m line m.turns (λ left'. Moves (record m { pc = m.pc + 1; turns = left' }))
step_of code (i.Offset back words line) m =
    on_top m.stack (λ n ns. on_top ns (λ p ws. word_next m ws line (moved p (elements back words (number_of width.Long n)))))
step_of code (i.Malloc size line) m = on_top m.stack (λ n ws. Asks (call.Malloc (malloc_words size (number_of width.Long n))) line)
step_of code (i.Free line) m = on_top m.stack (λ p ws. Asks (call.Free p) line)
step_of code (i.Call function count line) m =
    turned m line m.turns (λ left'.
    cond (nat_lt (length m.frames + 1) depth_limit)
    (entered m line left' (arguments_on count m.stack) (drop count m.stack) (slice_get code.entries function))
    (breaks fault.Depth line))
step_of code (i.Print print line) m = Asks (call.Print (printed print.format (arguments_on print.count m.stack))) line
step_of code (i.Mpi mpi count line) m = Moves (record m {
  stack = drop count m.stack;
  script = Some (record { mpi = mpi; arguments = arguments_on count m.stack; line = line; phase = First; steps = steps_of mpi.function; index = 0; found = nothing_found });
})
step_of code (i.New slot words line) m = Asks (call.New words) line
step_of code (i.Release slot line) m = Asks (call.Drop (object_of (slice_index_or m.slots slot Undef))) line
step_of code (i.SaveParam slot) m = next m (slice_index_or m.slots slot Undef ∷ m.stack)
step_of code (i.NewParam slot) m = Asks (call.New 1) m.line
step_of code (i.StoreParam slot) m = on_top m.stack (λ w ws. Asks (call.Store (pointer_of (slice_index_or m.slots slot Undef)) w) m.line)
step_of code (i.HlsEnter construct line) m = Asks (call.HlsEnter construct) line
step_of code (i.HlsWait construct line) m = Asks (call.HlsWait construct) line
step_of code (i.HlsExit construct line) m = Asks (call.HlsExit construct) line
step_of code (i.HlsBar construct line) m = Asks (call.HlsBar construct) line
step_of code (i.HlsBarWait construct line) m = Asks (call.HlsBarWait construct) line
step_of code (i.Missing line) m = breaks fault.Uninit line
step_of code (i.Return line) m = on_top m.stack (λ w ws. left m w ws line m.frames)

-- What comes behind an answer: another state, or the end of the run.
pub data Behind : Type 0 where
  Goes : (m : Mach) → Behind
  Ends : Behind

abbrev pub go_next : Mach → List Word → Behind
go_next m stack = Goes (record m { pc = m.pc + 1; stack = stack })

-- a task that runs the block of a single goes on at the next instruction, one that waits at the one behind it, and any
-- other at the one behind that
abbrev pub way_next : Mach → Way → Behind
way_next m way.Run = Goes (record m { pc = m.pc + 1 })
way_next m way.Hold = Goes (record m { pc = m.pc + 2 })
way_next m way.Skip = Goes (record m { pc = m.pc + 3 })

-- what an instruction that asked makes of the answer
unfoldable pub resume_of : Instr → Mach → Answer → Behind
resume_of (i.Load scalar line) m answer = go_next m (read_as scalar (word_of answer) ∷ drop 1 m.stack)
resume_of (i.Peek scalar line) m answer = go_next m (read_as scalar (word_of answer) ∷ m.stack)
resume_of (i.Store line) m answer = go_next m (slice_index_or m.stack 0 Undef ∷ drop 2 m.stack)
resume_of (i.Malloc size line) m answer = go_next m (pointer_of (word_of answer) ∷ drop 1 m.stack)
resume_of (i.Free line) m answer = go_next m (Int (pos 0) ∷ drop 1 m.stack)
resume_of (i.Print print line) m answer = go_next m (Int (number_of width.Int (word_of answer)) ∷ drop print.count m.stack)
resume_of (i.New slot words line) m answer = Goes (record m { pc = m.pc + 1; slots = slice_set m.slots slot (pointer_of (word_of answer)) })
resume_of (i.NewParam slot) m answer = Goes (record m { pc = m.pc + 1; slots = slice_set m.slots slot (pointer_of (word_of answer)) })
resume_of (i.StoreParam slot) m answer = go_next m (drop 1 m.stack)
resume_of (i.HlsEnter construct line) m answer = way_next m (way_of answer)
resume_of (i.Return line) m answer = Ends
resume_of other m answer = go_next m m.stack

-- the last part of a script
abbrev pub last_part : Mach → Scripting → Stepped
last_part m s = Moves (record m { script = Some (record s { phase = Last; steps = last_of s.mpi.function; index = 0 }) })

-- The part behind the first one: these steps for each of so many requests, where there are such steps. A negative number
-- of requests fails.
abbrev pub behind_first : Mach → Scripting → List ScriptStep → ℤ → Stepped
behind_first m s [] count = last_part m s
behind_first m s (e ∷ each) (pos zero) = last_part m s
behind_first m s (e ∷ each) (pos (suc more)) = Moves (record m { script = Some (record s { phase = Requests more; steps = e ∷ each; index = 0 }) })
behind_first m s (e ∷ each) (negsuc count) = breaks fault.BadCount s.line

-- the part of a script that follows where no step of the present one is left
abbrev pub part_behind : Mach → Scripting → Phase → Stepped
part_behind m s First = behind_first m s (each_of s.mpi.function) (number_at s.arguments 0)
part_behind m s (Requests zero) = last_part m s
part_behind m s (Requests (suc more)) = Moves (record m { script = Some (record s { phase = Requests more; steps = each_of s.mpi.function; index = s.index + 1 }) })
part_behind m s Last = Moves (record m { pc = m.pc + 1; stack = Int (pos 0) ∷ m.stack; script = None })

-- a step of a script
abbrev pub script_wants : Mach → Scripting → List ScriptStep → Wanted → Stepped
script_wants m s rest (Wants call') = Asks call' s.line
script_wants m s rest Skips = Moves (record m { script = Some (record s { steps = rest }) })
script_wants m s rest (Breaks f) = breaks f s.line

abbrev pub script_step : Mach → Scripting → List ScriptStep → Stepped
script_step m s [] = part_behind m s s.phase
script_step m s (t ∷ rest) = script_wants m s rest (wanted s.mpi s.arguments s.index s.found t)

-- what a step of a script that asked makes of the answer; the end of the run is behind MPI_Abort
abbrev pub script_resume : Mach → Scripting → Answer → List ScriptStep → Behind
script_resume m s answer [] = Goes m
script_resume m s answer (t ∷ rest) = Goes (record m { script = Some (record s { steps = rest; found = found_behind t s.found answer }) })

abbrev pub fetched : FlatCode → Mach → Option Instr → Stepped
fetched code m None = Sticks
fetched code m (Some instr) = step_of code instr m

abbrev pub fetched_resume : Mach → Answer → Option Instr → Behind
fetched_resume m answer None = Goes m
fetched_resume m answer (Some instr) = resume_of instr m answer

-- one step of the machine
abbrev pub step : FlatCode → Mach → Option Scripting → Stepped
step code m None = fetched code m (slice_get code.instrs m.pc)
step code m (Some s) = script_step m s s.steps

-- the machine behind an answer
abbrev pub resume : FlatCode → Mach → Answer → Option Scripting → Behind
resume code m answer None = fetched_resume m answer (slice_get code.instrs m.pc)
resume code m answer (Some s) = script_resume m s answer s.steps
