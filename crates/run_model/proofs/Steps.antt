-- How a step comes about.
use Rattle.std.proofs.Common.{◌≡◌, ℕ, Bool, true, false, if◌then◌else◌, slice_get, Option, Some, None, refl, ap, sym}
use Rattle.mpc_base.specs.declared.journals.Entry.{Entry}
use Rattle.c_tree.specs.Asking.{Next, Asks, Over, Misfit}
use Rattle.c_tree.specs.Next.{next_of}
use Rattle.run_model.specs.declared.progress.Course.{Course}
use Rattle.run_model.specs.Setup.{Setup}
use Rattle.run_model.specs.World.{World}
use Rattle.run_model.specs.Steps.{Step, Stays, Makes, tried, entry_of, out_of, core_after, log_after, visited, answers_of}
use Rattle.run_model.specs.Go.{may_go, go_next, go_with, go}
use Rattle.run_model.specs.Stepping.{IsStep}

chosen : (b : Bool) (x : Step) (entry : Entry) (after : World) → (if b then x else Stays) ≡ Makes entry after → (b ≡ true) × (x ≡ Makes entry after)
chosen true x entry after h = (refl, h)
chosen false x entry after h = cc

step_by : (setup : Setup) (w : World) (task : ℕ) (entry : Entry) (after : World) (c : Option Course) (n : Next) → slice_get w.log.courses task ≡ c → next_of setup.program (answers_of w task) ≡ n
    → (if may_go setup w task c then go_next setup w task n else Stays) ≡ Makes entry after → IsStep setup w task entry after
unfolding visited
step_by setup w task entry after None n there asks h = cc
step_by setup w task entry after (Some course) (Asks call line) there asks h =
    let both = chosen (may_go setup w task (Some course)) (go_next setup w task (Asks call line)) entry after h in
    record { call = call; line = line; course = course; there = there; may = both.0; asked = asks; made = both.1 }
step_by setup w task entry after (Some course) Over there asks h =
    let both = chosen (may_go setup w task (Some course)) Stays entry after h in
    let none : Stays ≡ Makes entry after = both.1 in cc
step_by setup w task entry after (Some course) Misfit there asks h =
    let both = chosen (may_go setup w task (Some course)) Stays entry after h in
    let none : Stays ≡ Makes entry after = both.1 in cc

pub step_is : (setup : Setup) (w : World) (task : ℕ) (entry : Entry) (after : World) → go setup w task ≡ Makes entry after → IsStep setup w task entry after
unfolding go go_with
step_is setup w task entry after h = step_by setup w task entry after (slice_get w.log.courses task) (next_of setup.program (answers_of w task)) refl refl h

pub same_made : (a b : Entry) (x y : World) → Makes a x ≡ Makes b y → (a ≡ b) × (x ≡ y)
same_made a b x y h = (cc, cc)

module _ {setup : Setup} {w : World} {task : ℕ} {entry : Entry} {after : World} (s : IsStep setup w task entry after) where
  pub entry_is : entry_of task s.call s.line (out_of (tried setup w task s.call)) ≡ entry
  entry_is = (same_made _ _ _ _ s.made).0

  pub after_is : record { core = core_after w.core (tried setup w task s.call); log = log_after w.log task s.call s.line (out_of (tried setup w task s.call)) } ≡ after
  after_is = (same_made _ _ _ _ s.made).1

  pub task_is : entry.task ≡ task
  task_is = ap (λ (e : Entry). e.task) (sym entry_is)
