-- A task that is given an answer, and one that begins.
use Rattle.std.proofs.Common.{◌≡◌, Bool, false, List, [], ◌∷◌, ◌++◌, Some, refl, sym, ap, ◌∙◌, subst}
use Rattle.std.specs.Prelude.{slice_get}
use Rattle.mpc_values.specs.declared.answers.Answer.{Answer}
use Rattle.c_code.specs.declared.code.Entry.{Entry}
use Rattle.c_code.specs.FlatCode.{FlatCode}
use Rattle.c_code.specs.Machine.{Mach}
use Rattle.c_code.specs.Demands.{begins, turn_limit}
use Rattle.c_code.specs.Following.{Follows}
use Rattle.c_code.proofs.Following.{follows_begun}
use Rattle.task_vm.specs.Seen.{IsPlaced}
use Rattle.task_vm.specs.Tasks.{Tasked, HasHad, ends_task, Awaits}
use Rattle.task_vm.specs.declared.states.State.{State}
use Rattle.task_vm.specs.States.{IsSound, behind_answer, tasked}
use Rattle.task_vm.specs.declared.states.State.TheVariants.{Ready, Asked, Answered}
use Rattle.task_vm.proofs.Answered.{answered, answered_placed}

module _ (code : FlatCode) (m : Mach) (state : State) (ends : Bool) (task : Tasked) (a : Answer)
    (is : state ≡ Asked ends) (last : ends ≡ false) (seen : tasked code m state ≡ task) (sound : IsSound code m state) (awaits : Awaits task a) where
  asked : state ≡ Asked false
  asked = is ∙ ap (λ b. Asked b) last

  sound' : IsSound code m (Asked false)
  sound' = subst (λ (s : State). IsSound code m s) asked sound

  kept : tasked code m (Asked false) ≡ task
  kept = sym (ap (λ (s : State). tasked code m s) asked) ∙ seen

  awaits' : Awaits (tasked code m (Asked false)) a
  awaits' = subst (λ (t : Tasked). Awaits t a) (sym kept) awaits

  more : ends_task awaits'.call ≡ false
  more = sound'.ending awaits'.call awaits'.line awaits'.asks

  one_more : (given : List Answer) → Follows code given m → Follows code (given ++ a ∷ []) (behind_answer code m (Some a))
  one_more given f = answered code given m awaits'.call awaits'.line a f awaits'.asks awaits'.fitting more

  -- it has had one answer more
  pub has_had : (given : List Answer) → HasHad task given → Follows code (given ++ a ∷ []) (behind_answer code m (Some a))
  has_had given h = one_more given (subst (λ (t : Tasked). HasHad t given) (sym kept) h)

  pub still_sound : IsSound code m (Answered a)
  still_sound =
      let r = sound'.reached refl refl in
      record {
        reached = λ s o. record { given = r.given ++ a ∷ []; follows = one_more r.given r.follows; placed = answered_placed code m a r.placed };
        ending = tt;
      }

-- a task that begins has had no answer
pub begun : (code : FlatCode) (m : Mach) → (entry : Entry) × (slice_get code.entries code.main ≡ Some entry) × (m ≡ begins code entry turn_limit) → Follows code [] m
begun code m b = subst (λ (n : Mach). Follows code [] n) (sym b.2) (follows_begun code b.0 b.1)

pub begun_sound : (code : FlatCode) (m : Mach) → (entry : Entry) × (slice_get code.entries code.main ≡ Some entry) × (m ≡ begins code entry turn_limit) → IsSound code m Ready
begun_sound code m b = record {
  reached = λ s o. record { given = []; follows = begun code m b; placed = subst (λ (n : Mach). IsPlaced n.script n.pc) (sym b.2) tt };
  ending = tt;
}
