-- What is proved of machines and code.
use Rattle.std.specs.Prelude.{◌≡◌, ℕ, true, false, List, [], ◌∷◌, ◌++◌, Some, slice_get}
use Rattle.mpc_values.specs.declared.calls.Call.{Call}
use Rattle.mpc_values.specs.declared.answers.Answer.{Answer}
use Rattle.c_tree.specs.Asking.{Next, fits}
use Rattle.c_tree.specs.Asking as asking
use Rattle.c_tree.specs.Scripts.{ends_run}
use Rattle.c_code.specs.declared.code.Entry.{Entry}
use Rattle.c_code.specs.FlatCode.{FlatCode}
use Rattle.c_code.specs.Machine.{Mach, Moves, Sticks, Goes, step, resume}
use Rattle.c_code.specs.Demands.{Demands, begins, turn_limit}
use Rattle.c_code.specs.Following.{Follows, AsksNow, NeverSticks}

abbrev pub DemandsOnce : Type 0
DemandsOnce = (code : FlatCode) (entry : Entry) (answers : List Answer) (o o' : Next) → slice_get code.entries code.main ≡ Some entry → Demands code answers o → Demands code answers o' → o ≡ o'

abbrev pub BegunFollows : Type 0
BegunFollows = (code : FlatCode) (entry : Entry) → slice_get code.entries code.main ≡ Some entry → Follows code [] (begins code entry turn_limit)

abbrev pub MovedFollows : Type 0
MovedFollows = (code : FlatCode) (given : List Answer) (m m' : Mach) → Follows code given m → step code m m.script ≡ Moves m' → Follows code given m'

abbrev pub AnsweredFollows : Type 0
AnsweredFollows = (code : FlatCode) (given : List Answer) (m m' : Mach) (call : Call) (line : ℕ) (a : Answer) → Follows code given m → AsksNow code m call line → fits call a ≡ true → ends_run call ≡ false
    → resume code m a m.script ≡ Goes m' → Follows code (given ++ a ∷ []) m'

abbrev pub AskedDemanded : Type 0
AskedDemanded = (code : FlatCode) (given : List Answer) (m : Mach) (call : Call) (line : ℕ) → Follows code given m → AsksNow code m call line → Demands code given (asking.Asks call line)

abbrev pub NeverStuck : Type 0
NeverStuck = (code : FlatCode) (given : List Answer) (m : Mach) → NeverSticks code → Follows code given m → step code m m.script ≡ Sticks → ⊥
