-- What code demands next, behind a list of answers.
use Rattle.std.specs.Prelude.{◌≡◌, ℕ, zero, suc, ℤ, pos, Bool, true, false, cond, List, [], ◌∷◌, Option, Some, None, slice_get}
use Rattle.mpc_values.specs.declared.limits.TheConstants.{MAX_TURNS}
use Rattle.mpc_values.specs.declared.values.Word.{Word}
use Rattle.mpc_values.specs.declared.values.Word.TheVariants.{Int, Null}
use Rattle.mpc_values.specs.declared.calls.Call.{Call}
use Rattle.mpc_values.specs.declared.answers.Answer.{Answer}
use Rattle.c_tree.specs.Asking.{Next, Misfit, fits}
use Rattle.c_tree.specs.Asking as asking
use Rattle.c_tree.specs.Scripts.{over, ends_run}
use Rattle.c_tree.specs.Execution.{slots_of}
use Rattle.c_code.specs.declared.code.Entry.{Entry}
use Rattle.c_code.specs.FlatCode.{FlatCode}
use Rattle.c_code.specs.Machine.{Mach, Stepped, Moves, Asks, Sticks, Behind, Goes, Ends, step, resume}

-- a call that is wanted: where no answer is left it is what is asked next, and an answer of another kind does not fit
abbrev pub demanded : Call → ℕ → (Answer → List Answer → Option Next) → List Answer → Option Next
demanded call line go [] = Some (asking.Asks call line)
demanded call line go (answer ∷ more) = cond (fits call answer) (go answer more) (Some Misfit)

-- behind an answer the machine goes on, or the run has ended
abbrev pub behind : (Mach → List Answer → Option Next) → Bool → Behind → List Answer → Option Next
behind go true b more = Some (over more)
behind go false (Goes m) more = go m more
behind go false Ends more = Some (over more)

abbrev pub stepped : FlatCode → (Mach → List Answer → Option Next) → Mach → Stepped → List Answer → Option Next
stepped code go m (Moves m') answers = go m' answers
stepped code go m (Asks call line) answers = demanded call line (λ answer more. behind go (ends_run call) (resume code m answer m.script) more) answers
stepped code go m Sticks answers = None

-- what is demanded after at most so many steps
abbrev pub exec : FlatCode → ℕ → Mach → List Answer → Option Next
exec code zero m answers = None
exec code (suc n) m answers = stepped code (exec code n) m (step code m m.script) answers

-- From this state, behind these answers, the code demands this.
pub record Reaches (code : FlatCode) (m : Mach) (answers : List Answer) (o : Next) : Type 0 where
  pub steps : ℕ
  pub ends : exec code steps m answers ≡ Some o

-- the arguments of main: argc is 1, and argv has no value that a program reads
abbrev pub main_arguments : ℕ → List Word
main_arguments zero = []
main_arguments (suc count) = Int (pos 1) ∷ Null ∷ []

-- the machine as main begins, with so many turns
abbrev pub begins : FlatCode → Entry → ℕ → Mach
begins code entry turns = record {
  pc = entry.start;
  stack = [];
  frames = [];
  line = 0;
  slots = slots_of entry.slots (main_arguments code.arguments);
  turns = turns;
  script = None;
}

-- how many turns a task may make
abbrev pub turn_limit : ℕ
turn_limit = MAX_TURNS

-- Behind these answers, a task that runs the code demands this.
abbrev pub Demands : FlatCode → List Answer → Next → Type 0
Demands code answers o = (entry : Entry) → slice_get code.entries code.main ≡ Some entry → Reaches code (begins code entry turn_limit) answers o
