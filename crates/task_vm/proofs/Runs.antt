-- Steps of a task on its way to the next call.
use Rattle.std.proofs.Common.{◌≡◌, ◌<◌, ◌^◌, Bool, List, Option, sym, subst}
use Rattle.mpc_values.specs.declared.calls.Call.{Call}
use Rattle.mpc_values.specs.declared.answers.Answer.{Answer}
use Rattle.c_code.specs.FlatCode.{FlatCode}
use Rattle.c_code.specs.Machine.{Mach, Moves, step}
use Rattle.c_code.specs.Following.{Follows, NeverSticks}
use Rattle.c_code.proofs.Following.{follows_moved, follows_unstuck, asks_demanded}
use Rattle.task_vm.specs.declared.machine.Step.{Step}
use Rattle.task_vm.specs.declared.machine.Step.TheVariants as s
use Rattle.task_vm.specs.Seen.{Shows, IsNear}
use Rattle.task_vm.specs.Tasks.{Tasked, HasHad}
use Rattle.task_vm.specs.States.{IsReached, behind_answer, pending_of, tasked}
use Rattle.task_vm.specs.Wanting.{WantsNow, IsWanting, DemandsWant}
use Rattle.task_vm.specs.declared.states.State.{State}
use Rattle.task_vm.specs.declared.states.State.TheVariants.{Asked}
use Rattle.task_vm.specs.declared.states.Want.{Want}
use Rattle.task_vm.specs.declared.states.Want.TheVariants.{Ask}
use Rattle.task_vm.proofs.Measure.{left, step_falls}

module _ (code : FlatCode) (old new : Mach) (call : Call) (r : Step) (shows : Shows r call (step code old old.script) old new) (near : IsNear r old.pc) where
  module _ (is : r ≡ s.Went) where
    moves : step code old old.script ≡ Moves new
    moves = subst (λ (x : Step). Shows x call (step code old old.script) old new) is shows

    at : old.pc < 2 ^ 63
    at = subst (λ (x : Step). IsNear x old.pc) is near

    pub falls : left new < left old
    falls = (step_falls code old new at moves).0

    pub follows : (given : List Answer) → Follows code given old → Follows code given new
    follows given f = follows_moved code given old new f moves

    pub reached : IsReached code old → IsReached code new
    reached h = record { given = h.given; follows = follows h.given h.follows; placed = (step_falls code old new at moves).1 }

  pub stuck : r ≡ s.Stuck → NeverSticks code → IsReached code old → ⊥
  stuck is lives h = follows_unstuck code h.given old lives h.follows (subst (λ (x : Step). Shows x call (step code old old.script) old new) is shows)

module _ (code : FlatCode) (m : Mach) where
  pub wanting : (ends : Bool) (want : Want) → WantsNow code m want → IsWanting (tasked code m (Asked ends)) want
  wanting ends (Ask call line) w = w

  pub demanding : (given : List Answer) (want : Want) → Follows code given m → WantsNow code m want → DemandsWant code given want
  demanding given (Ask call line) f w = asks_demanded code given m call line f w

-- what a task had before it ran on, by the machine that it kept
pub had : (code : FlatCode) (m : Mach) (state : State) (p : Option Answer) (task : Tasked) (given : List Answer)
    → p ≡ pending_of state → tasked code m state ≡ task → HasHad task given → Follows code given (behind_answer code m p)
had code m state p task given is_p is_task h =
    let f : HasHad (tasked code m state) given = subst (λ (t : Tasked). HasHad t given) (sym is_task) h in
    subst (λ (o : Option Answer). Follows code given (behind_answer code m o)) (sym is_p) f
