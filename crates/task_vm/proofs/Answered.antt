-- Behind the answer to a call that is not its last, a machine goes on.
use Rattle.std.proofs.Common.{◌≡◌, ℕ, true, false, List, [], ◌∷◌, ◌++◌, Option, Some, None, refl, sym, subst}
use Rattle.std.specs.Prelude.{slice_get}
use Rattle.mpc_values.specs.declared.values.Word.{Word}
use Rattle.mpc_values.specs.declared.calls.Call.{Call}
use Rattle.mpc_values.specs.declared.calls.Call.TheVariants as call
use Rattle.mpc_values.specs.declared.answers.Answer.{Answer}
use Rattle.mpc_values.specs.declared.answers.Way.{Way}
use Rattle.mpc_values.specs.declared.answers.Way.TheVariants as way
use Rattle.c_tree.specs.Asking.{fits}
use Rattle.c_tree.specs.Execution.{way_of}
use Rattle.c_tree.specs.Scripts.{ends_run}
use Rattle.c_tree.specs.declared.scripts.ScriptStep.{ScriptStep}
use Rattle.c_code.specs.declared.instr.Instr.{Instr}
use Rattle.c_code.specs.declared.instr.Instr.TheVariants as i
use Rattle.c_code.specs.FlatCode.{FlatCode}
use Rattle.c_code.specs.Machine.{Frame, Scripting, Mach, Asks, Behind, Goes, on_top, left, step_of, resume_of, way_next, fetched, fetched_resume, script_resume, step, resume}
use Rattle.c_code.specs.Following.{Follows, AsksNow}
use Rattle.c_code.proofs.Following.{follows_answered}
use Rattle.task_vm.specs.Seen.{IsPlaced, gone_on}
use Rattle.task_vm.specs.Tasks.{ends_task}

-- a call behind which the task goes on does not end the run
goes_on : (c : Call) → ends_task c ≡ false → ends_run c ≡ false
goes_on (call.Abort comm code) e = absurd (cc e)
goes_on other e = refl

-- the run goes on behind the answer, to the machine that is told
abbrev GoesOn : Mach → Behind → Type 0
GoesOn m b = b ≡ Goes (gone_on m b)

module _ (code : FlatCode) (m : Mach) (a : Answer) (c : Call) (line : ℕ) (more : ends_task c ≡ false) where
  way_goes : (w : Way) → GoesOn m (way_next m w)
  way_goes way.Run = refl
  way_goes way.Hold = refl
  way_goes way.Skip = refl

  -- what a return asks is the task's last call
  return_asks : (line' : ℕ) (stack : List Word) (frames : List Frame) → on_top stack (λ w ws. left m w ws line' frames) ≡ Asks c line → ⊥
  return_asks line' [] frames e = absurd (cc e)
  return_asks line' (w ∷ ws) [] e = absurd (cc (e, more))
  return_asks line' (w ∷ ws) (f ∷ frames) e = absurd (cc e)

  instr_goes : (instr : Instr) → step_of code instr m ≡ Asks c line → GoesOn m (resume_of instr m a)
  unfolding step_of resume_of
  instr_goes (i.Return line') e = absurd (return_asks line' m.stack m.frames e)
  instr_goes (i.HlsEnter construct line') e = way_goes (way_of a)
  instr_goes other e = refl

  fetched_goes : (o : Option Instr) → fetched code m o ≡ Asks c line → GoesOn m (fetched_resume m a o)
  fetched_goes None e = refl
  fetched_goes (Some instr) e = instr_goes instr e

  script_goes : (s : Scripting) (steps : List ScriptStep) → GoesOn m (script_resume m s a steps)
  script_goes s [] = refl
  script_goes s (t ∷ rest) = refl

  goes : (o : Option Scripting) → step code m o ≡ Asks c line → GoesOn m (resume code m a o)
  goes None e = fetched_goes (slice_get code.instrs m.pc) e
  goes (Some s) e = script_goes s s.steps

-- behind the answer it follows one answer more
pub answered : (code : FlatCode) (given : List Answer) (m : Mach) (c : Call) (line : ℕ) (a : Answer) → Follows code given m → AsksNow code m c line → fits c a ≡ true → ends_task c ≡ false
    → Follows code (given ++ a ∷ []) (gone_on m (resume code m a m.script))
answered code given m c line a f asks fit more =
    follows_answered code given m (gone_on m (resume code m a m.script)) c line a f asks fit (goes_on c more) (goes code m a c line more m.script asks)

-- a script is still taken at its place
module _ (code : FlatCode) (m : Mach) (a : Answer) where
  free : (o : Option Scripting) (pc : ℕ) → o ≡ None → IsPlaced o pc
  free o pc e = subst (λ (p : Option Scripting). IsPlaced p pc) (sym e) tt

  abbrev PlacedBehind : Behind → Type 0
  PlacedBehind b = IsPlaced (gone_on m b).script (gone_on m b).pc

  way_placed : (w : Way) → m.script ≡ None → PlacedBehind (way_next m w)
  way_placed way.Run e = free m.script _ e
  way_placed way.Hold e = free m.script _ e
  way_placed way.Skip e = free m.script _ e

  instr_placed : (instr : Instr) → m.script ≡ None → PlacedBehind (resume_of instr m a)
  unfolding resume_of
  instr_placed (i.HlsEnter construct line') e = way_placed (way_of a) e
  instr_placed other e = free m.script _ e

  fetched_placed : (o : Option Instr) → m.script ≡ None → PlacedBehind (fetched_resume m a o)
  fetched_placed None e = free m.script _ e
  fetched_placed (Some instr) e = instr_placed instr e

  script_placed : (s : Scripting) (steps : List ScriptStep) → m.script ≡ Some s → IsPlaced m.script m.pc → PlacedBehind (script_resume m s a steps)
  script_placed s [] e h = h
  script_placed s (t ∷ rest) e h = subst (λ (p : Option Scripting). IsPlaced p m.pc) e h

  placed : (o : Option Scripting) → m.script ≡ o → IsPlaced m.script m.pc → PlacedBehind (resume code m a o)
  placed None e h = fetched_placed (slice_get code.instrs m.pc) e
  placed (Some s) e h = script_placed s s.steps e h

pub answered_placed : (code : FlatCode) (m : Mach) (a : Answer) → IsPlaced m.script m.pc → IsPlaced (gone_on m (resume code m a m.script)).script (gone_on m (resume code m a m.script)).pc
answered_placed code m a h = placed code m a m.script refl h
