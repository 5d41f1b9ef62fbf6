-- Each step that leads on comes nearer to the next call.
use Rattle.std.proofs.Common.{◌≡◌, ℕ, zero, suc, ◌+◌, ◌-◌, ◌*◌, ◌^◌, ◌<◌, ◌≤◌, ℤ, pos, negsuc, Bool, true, false, cond, List, [], ◌∷◌, length, drop, Option, Some, None, Result, Ok, Err, refl, sym, ap, ◌∙◌, subst, arith, FitsSigned, lit≤}
use Rattle.std.specs.Prelude.{nat_lt, slice_get, slice_index_or}
use Rattle.std.specs.Int.{int_wrap, w32}
use Rattle.std.proofs.lemmas.Int.{SFits-int_wrap}
use Rattle.mpc_values.specs.declared.values.Word.{Word}
use Rattle.mpc_values.specs.declared.values.Word.TheVariants.{Undef, Int, Null, Ptr, Comm, Req}
use Rattle.mpc_values.specs.declared.faults.Fault.{Fault}
use Rattle.mpc_values.specs.declared.faults.Fault.TheVariants as fault
use Rattle.c_tree.specs.declared.mpi.MpiFunction.{MpiFunction}
use Rattle.c_tree.specs.declared.mpi.MpiFunction.TheVariants as f
use Rattle.c_tree.specs.declared.program.Update.{Update}
use Rattle.c_tree.specs.declared.program.Update.TheVariants as update
use Rattle.c_tree.specs.declared.program.Width.TheVariants as width
use Rattle.c_tree.specs.declared.scripts.ScriptStep.{ScriptStep}
use Rattle.c_tree.specs.MpiScripts.{steps_of, each_of, last_of}
use Rattle.c_tree.specs.Numbers.{number_of}
use Rattle.c_tree.specs.Words.{holds}
use Rattle.c_tree.specs.Scripts.{Wanted, Wants, Skips, Breaks, wanted, argument, number_at}
use Rattle.c_code.specs.declared.instr.Instr.{Instr}
use Rattle.c_code.specs.declared.instr.Instr.TheVariants as i
use Rattle.c_code.specs.declared.code.Entry.{Entry}
use Rattle.c_code.specs.FlatCode.{FlatCode}
use Rattle.c_code.specs.Machine.{Frame, Phase, First, Requests, Last, Scripting, Mach, Stepped, Moves, Asks, Sticks, next, on_top, number_next, word_next, known_next, updated_next, turned, entered, left as left_off, arguments_on, depth_limit, breaks, step_of, behind_first, part_behind, script_wants, script_step, fetched, step}
use Rattle.task_vm.specs.Seen.{IsPlaced}

-- no part of a script has more than seven steps
each_short : (function : MpiFunction) → length (each_of function) ≤ 6
each_short f.Waitall = lit≤ tt
each_short f.Waitany = lit≤ tt
each_short other = lit≤ tt

last_short : (function : MpiFunction) → length (last_of function) ≤ 6
last_short f.Waitany = lit≤ tt
last_short other = lit≤ tt

steps_short : (function : MpiFunction) → length (steps_of function) ≤ 7
steps_short f.Waitall = lit≤ tt
steps_short other = lit≤ tt

-- a number of requests; a negative one is none
abbrev requests : ℤ → ℕ
requests (pos n) = n
requests (negsuc n) = 0

-- the steps of a script behind those of the present part, or more
abbrev parts_left : ℤ → Phase → ℕ
parts_left count First = requests count * 8 + 8
parts_left count (Requests more) = more * 8 + 8
parts_left count Last = 0

abbrev script_left : Scripting → ℕ
script_left s = 1 + length s.steps + parts_left (number_at s.arguments 0) s.phase

abbrev place_left : Option Scripting → ℕ → ℕ
place_left None pc = (2 ^ 64 - pc) * 2 ^ 40
place_left (Some s) pc = (2 ^ 64 - pc - 1) * 2 ^ 40 + script_left s

-- What falls at each step: a turn counts more than all that a call adds, and an open call more than all places.
abbrev pub left : Mach → ℕ
left m = m.turns * 2 ^ 107 + length m.frames * 2 ^ 106 + place_left m.script m.pc

abbrev Falls : Stepped → Mach → Type 0
Falls (Moves m') m = (left m' < left m) × IsPlaced m'.script m'.pc
Falls (Asks call line) m = Unit {0}
Falls Sticks m = Unit {0}

number_small : (z : ℤ) → FitsSigned w32 z → requests z ≤ 2 ^ 31
number_small (pos n) h = omega (arith, h)
number_small (negsuc n) h = lit≤ tt

word_small : (w : Word) → requests (number_of width.Int w) ≤ 2 ^ 31
word_small (Int z) = number_small (int_wrap w32 z) (SFits-int_wrap w32 z)
word_small other = lit≤ tt

module _ (code : FlatCode) (pc : ℕ) (stack : List Word) (frames : List Frame) (line' : ℕ) (slots : List Word) (turns : ℕ) (near : pc < 2 ^ 63) where
  abbrev m : Mach
  m = record { pc = pc; stack = stack; frames = frames; line = line'; slots = slots; turns = turns; script = None }

  top_falls : (go : Word → List Word → Stepped) → ((w : Word) (ws : List Word) → Falls (go w ws) m) → (st : List Word) → Falls (on_top st go) m
  top_falls go h [] = tt
  top_falls go h (w ∷ ws) = h w ws

  -- whatever the stack is
  next_falls : (left (record m { pc = pc + 1 }) < left m) × Unit {0}
  next_falls = (omega (arith, near), tt)

  number_falls : (ws : List Word) (line : ℕ) (r : Result ℤ Fault) → Falls (number_next m ws line r) m
  number_falls ws line (Ok z) = next_falls
  number_falls ws line (Err e) = tt

  word_falls : (ws : List Word) (line : ℕ) (r : Result Word Fault) → Falls (word_next m ws line r) m
  word_falls ws line (Ok w) = next_falls
  word_falls ws line (Err e) = tt

  known_falls : (line : ℕ) (w : Word) → Falls (known_next m line w) m
  known_falls line Undef = tt
  known_falls line (Int z) = next_falls
  known_falls line Null = next_falls
  known_falls line (Ptr obj at) = next_falls
  known_falls line (Comm comm) = next_falls
  known_falls line (Req req) = next_falls

  updated_falls : (ws : List Word) (line : ℕ) (u : Update) (old right : Word) → Falls (updated_next m ws line u old right) m
  updated_falls ws line (update.Number operation w target) old right = number_falls ws line _
  updated_falls ws line (update.Pointer back words) old right = word_falls ws line _

  cond_falls : (b : Bool) (x y : Stepped) → Falls x m → Falls y m → Falls (cond b x y) m
  cond_falls true x y hx hy = hx
  cond_falls false x y hx hy = hy

  turned_falls : (line : ℕ) (go : ℕ → Stepped) → ((t : ℕ) → turns ≡ suc t → Falls (go t) m) → (t : ℕ) → turns ≡ t → Falls (turned m line t go) m
  turned_falls line go h zero e = tt
  turned_falls line go h (suc t) e = h t e

  entered_falls : (line t : ℕ) (arguments ws : List Word) (o : Option Entry) → turns ≡ suc t → Falls (entered m line t arguments ws o) m
  entered_falls line t arguments ws None e = tt
  entered_falls line t arguments ws (Some entry) e = (omega (arith, e), tt)

  left_falls : (w : Word) (ws : List Word) (line : ℕ) (fs : List Frame) → frames ≡ fs → Falls (left_off m w ws line fs) m
  left_falls w ws line [] e = tt
  left_falls w ws line (f ∷ fs) e = (omega (arith, ap length e), tt)

  jump_falls : (to : ℕ) → pc < to → (left (record m { pc = to }) < left m) × Unit {0}
  jump_falls to h = (omega (arith, near, h), tt)

  turn_falls : (to : ℕ) (t : ℕ) → turns ≡ suc t → (left (record m { pc = to; turns = t }) < left m) × Unit {0}
  turn_falls to t e = (omega (arith, near, e), tt)

  instr_falls : (instr : Instr) → Falls (step_of code instr m) m
  unfolding step_of
  instr_falls (i.Push w) = next_falls
  instr_falls i.Pop = top_falls _ (λ w ws. next_falls) stack
  instr_falls i.Duplicate = top_falls _ (λ w ws. next_falls) stack
  instr_falls i.Tuck = top_falls _ (λ w ws. top_falls _ (λ v vs. next_falls) ws) stack
  instr_falls (i.Get slot line) = known_falls line (slice_index_or slots slot Undef)
  instr_falls (i.Object slot) = next_falls
  instr_falls (i.Set slot) = top_falls _ (λ w ws. (omega (arith, near), tt)) stack
  instr_falls (i.Unset slot) = (omega (arith, near), tt)
  instr_falls (i.Load scalar line) = top_falls _ (λ w ws. tt) stack
  instr_falls (i.Peek scalar line) = top_falls _ (λ w ws. tt) stack
  instr_falls (i.Store line) = top_falls _ (λ w ws. top_falls _ (λ p ps. tt) ws) stack
  instr_falls (i.Update u line) = top_falls _ (λ right ws. top_falls _ (λ old vs. updated_falls vs line u old right) ws) stack
  instr_falls (i.Negate w line) = top_falls _ (λ x ws. number_falls ws line _) stack
  instr_falls i.Complement = top_falls _ (λ x ws. next_falls) stack
  instr_falls i.Not = top_falls _ (λ x ws. next_falls) stack
  instr_falls i.Narrow = top_falls _ (λ x ws. next_falls) stack
  instr_falls (i.Arithmetic w operation line) = top_falls _ (λ y ys. top_falls _ (λ x ws. number_falls ws line _) ys) stack
  instr_falls (i.Compare comparison) = top_falls _ (λ y ys. top_falls _ (λ x ws. next_falls) ys) stack
  instr_falls (i.Same wanted') = top_falls _ (λ y ys. top_falls _ (λ x ws. next_falls) ys) stack
  instr_falls i.Truth = top_falls _ (λ x ws. next_falls) stack
  instr_falls (i.Unless n) = top_falls _ (λ x ws. cond_falls (holds x) (next m ws) (Moves (record m { pc = pc + 1 + n; stack = ws })) next_falls (jump_falls (pc + 1 + n) (omega arith))) stack
  instr_falls (i.Skip n) = jump_falls (pc + 1 + n) (omega arith)
  instr_falls (i.Again n line) =
      top_falls _
      (λ x ws.
      cond_falls (holds x) (turned m line turns (again ws)) (next m ws) (turned_falls line (again ws) (turn_falls (pc - n)) turns refl) next_falls)
      stack
    where
      again : List Word → ℕ → Stepped
      again ws t = Moves (record m { pc = pc - n; stack = ws; turns = t })
  instr_falls (i.Tick line) = turned_falls line _ (turn_falls (pc + 1)) turns refl
  instr_falls (i.Offset back words line) = top_falls _ (λ n ns. top_falls _ (λ p ws. word_falls ws line _) ns) stack
  instr_falls (i.Malloc size line) = top_falls _ (λ n ws. tt) stack
  instr_falls (i.Free line) = top_falls _ (λ p ws. tt) stack
  instr_falls (i.Call function count line) =
      turned_falls line _
      (λ t e.
      cond_falls (nat_lt (length frames + 1) depth_limit) (entered m line t (arguments_on count stack) (drop count stack) (slice_get code.entries function)) (breaks fault.Depth line)
      (entered_falls line t (arguments_on count stack) (drop count stack) (slice_get code.entries function) e) tt)
      turns refl
  instr_falls (i.Print print line) = tt
  instr_falls (i.Mpi mpi count line) = (omega (arith, near, steps_short mpi.function, word_small (argument (arguments_on count stack) 0)), near)
  instr_falls (i.New slot words line) = tt
  instr_falls (i.Release slot line) = tt
  instr_falls (i.SaveParam slot) = next_falls
  instr_falls (i.NewParam slot) = tt
  instr_falls (i.StoreParam slot) = top_falls _ (λ w ws. tt) stack
  instr_falls (i.HlsEnter construct line) = tt
  instr_falls (i.HlsWait construct line) = tt
  instr_falls (i.HlsExit construct line) = tt
  instr_falls (i.HlsBar construct line) = tt
  instr_falls (i.HlsBarWait construct line) = tt
  instr_falls (i.Missing line) = tt
  instr_falls (i.Return line) = top_falls _ (λ w ws. left_falls w ws line frames refl) stack

module _ (m : Mach) (s : Scripting) (is : m.script ≡ Some s) (near : m.pc < 2 ^ 63) where
  place_is : place_left m.script m.pc ≡ (2 ^ 64 - m.pc - 1) * 2 ^ 40 + script_left s
  place_is = ap (λ o. place_left o m.pc) is

  part_falls : (s' : Scripting) → script_left s' < script_left s → Falls (Moves (record m { script = Some s' })) m
  part_falls s' h = (omega (arith, place_is, h), near)

  end_falls : (ws : List Word) → Falls (Moves (record m { pc = m.pc + 1; stack = ws; script = None })) m
  end_falls ws = (omega (arith, place_is, near), tt)

  -- where no step of the present part is left
  phase_left : (phase : Phase) → s.phase ≡ phase → s.steps ≡ [] → script_left s ≡ 1 + parts_left (number_at s.arguments 0) phase
  phase_left phase e none = ap (λ (l : List ScriptStep). 1 + length l + parts_left (number_at s.arguments 0) s.phase) none ∙ ap (λ ph. 1 + 0 + parts_left (number_at s.arguments 0) ph) e ∙ plain
    where
      plain : 1 + 0 + parts_left (number_at s.arguments 0) phase ≡ 1 + parts_left (number_at s.arguments 0) phase
      plain = omega arith

  last_falls : 8 < script_left s → Falls (Moves (record m { script = Some (record s { phase = Last; steps = last_of s.mpi.function; index = 0 }) })) m
  last_falls h = part_falls (record s { phase = Last; steps = last_of s.mpi.function; index = 0 }) (omega (arith, h, last_short s.mpi.function))

  request_falls : (more index : ℕ) → 9 + more * 8 + 6 < script_left s
      → Falls (Moves (record m { script = Some (record s { phase = Requests more; steps = each_of s.mpi.function; index = index }) })) m
  request_falls more index h = part_falls (record s { phase = Requests more; steps = each_of s.mpi.function; index = index }) (omega (arith, h, each_short s.mpi.function))

  first_falls : (each : List ScriptStep) (n : ℤ) → each ≡ each_of s.mpi.function → n ≡ number_at s.arguments 0 → s.phase ≡ First → s.steps ≡ [] → Falls (behind_first m s each n) m
  first_falls [] n is_each is_count e none = last_falls (omega (arith, phase_left First e none))
  first_falls (x ∷ each) (pos zero) is_each is_count e none = last_falls (omega (arith, phase_left First e none))
  first_falls (x ∷ each) (pos (suc more)) is_each is_count e none =
      let n : suc more ≡ requests (number_at s.arguments 0) = ap requests is_count in
      let falls : Falls (Moves (record m { script = Some (record s { phase = Requests more; steps = each_of s.mpi.function; index = 0 }) })) m =
      request_falls more 0 (omega (arith, phase_left First e none, n)) in
      subst (λ (l : List ScriptStep). Falls (Moves (record m { script = Some (record s { phase = Requests more; steps = l; index = 0 }) })) m) (sym is_each) falls
  first_falls (x ∷ each) (negsuc n) is_each is_count e none = tt

  behind_falls : (phase : Phase) → s.phase ≡ phase → s.steps ≡ [] → Falls (part_behind m s phase) m
  behind_falls First e none = first_falls (each_of s.mpi.function) (number_at s.arguments 0) refl refl e none
  behind_falls (Requests zero) e none = last_falls (omega (arith, phase_left (Requests zero) e none))
  behind_falls (Requests (suc more)) e none = request_falls more (s.index + 1) (omega (arith, phase_left (Requests (suc more)) e none))
  behind_falls Last e none = end_falls (Int (pos 0) ∷ m.stack)

  wants_falls : (t : ScriptStep) (rest : List ScriptStep) (w : Wanted) → s.steps ≡ t ∷ rest → Falls (script_wants m s rest w) m
  wants_falls t rest (Wants call) e = tt
  wants_falls t rest Skips e = part_falls (record s { steps = rest }) (omega (arith, ap length e))
  wants_falls t rest (Breaks fault) e = tt

  script_falls : (steps : List ScriptStep) → s.steps ≡ steps → Falls (script_step m s steps) m
  script_falls [] e = behind_falls s.phase refl e
  script_falls (t ∷ rest) e = wants_falls t rest (wanted s.mpi s.arguments s.index s.found t) e

fetched_falls : (code : FlatCode) (m : Mach) → m.script ≡ None → m.pc < 2 ^ 63 → (o : Option Instr) → Falls (fetched code m o) m
fetched_falls code m none near None = tt
fetched_falls code m none near (Some instr) =
    let same : record m { script = None } ≡ m = ap (λ (o : Option Scripting). record m { script = o }) (sym none) in
    subst (λ (n : Mach). Falls (step_of code instr n) n) same (instr_falls code m.pc m.stack m.frames m.line m.slots m.turns near instr)

falls : (code : FlatCode) (m : Mach) → m.pc < 2 ^ 63 → (o : Option Scripting) → m.script ≡ o → Falls (step code m o) m
falls code m near None e = fetched_falls code m e near (slice_get code.instrs m.pc)
falls code m near (Some s) e = script_falls m s e near s.steps refl

-- A step that leads on comes nearer to the next call, and a script stays at its place.
pub step_falls : (code : FlatCode) (m m' : Mach) → m.pc < 2 ^ 63 → step code m m.script ≡ Moves m' → (left m' < left m) × IsPlaced m'.script m'.pc
step_falls code m m' near e = subst (λ (st : Stepped). Falls st m) e (falls code m near m.script refl)
