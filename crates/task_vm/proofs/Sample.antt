-- The code that a test runs never sticks.
use Rattle.std.proofs.Common.{◌≡◌, Bool, true, false, cond, List, [], ◌∷◌, Option, Some, refl}
use Rattle.mpc_values.specs.declared.values.Word.{Word}
use Rattle.mpc_values.specs.declared.values.Word.TheVariants.{Int}
use Rattle.mpc_values.specs.declared.calls.Call.{Call}
use Rattle.mpc_values.specs.declared.calls.Call.TheVariants as call
use Rattle.mpc_values.specs.declared.answers.Answer.{Answer}
use Rattle.c_tree.specs.declared.program.Width.TheVariants as width
use Rattle.c_tree.specs.Numbers.{number_of}
use Rattle.c_tree.specs.Words.{truth, holds}
use Rattle.c_tree.specs.Asking.{Next, Asks, Misfit, fits, word_of}
use Rattle.c_tree.specs.Scripts.{over}
use Rattle.task_vm.specs.Sample.{place, sample_entry, sample_code}
use Rattle.c_code.specs.Machine.{step_of, resume_of}
use Rattle.c_code.specs.Demands.{exec, begins, turn_limit}
use Rattle.c_code.specs.Following.{NeverSticks}

-- what it ends with behind the word that was loaded
abbrev finish : Word → Call
finish w = call.Finish (number_of width.Int (truth (holds (Int (number_of width.Int w)))))

abbrev behind_finish : Word → List Answer → Next
behind_finish w [] = Asks (finish w) 5
behind_finish w (b ∷ more) = cond (fits (finish w) b) (over more) Misfit

-- what it demands
abbrev demanded : List Answer → Next
demanded [] = Asks (call.Load place) 4
demanded (a ∷ more) = cond (fits (call.Load place) a) (behind_finish (word_of a) more) Misfit

either : {A : Type 0} (b : Bool) (x y : A) → cond b (Some x) (Some y) ≡ Some (cond b x y)
either true x y = refl
either false x y = refl

first : (b : Bool) (x : Option Next) (y z : Next) → x ≡ Some y → cond b x (Some z) ≡ Some (cond b y z)
first true x y z e = e
first false x y z e = refl

demands : (answers : List Answer) → exec sample_code 5 (begins sample_code sample_entry turn_limit) answers ≡ Some (demanded answers)
unfolding step_of resume_of
demands [] = refl
demands (a ∷ []) = first (fits (call.Load place) a) _ _ _ refl
demands (a ∷ b ∷ more) = first (fits (call.Load place) a) _ _ _ (either (fits (finish (word_of a)) b) _ _)

pub sample_lives : NeverSticks sample_code
sample_lives = record { entry = sample_entry; main = refl; demands = λ answers. (demanded answers, record { steps = 5; ends = demands answers }) }
