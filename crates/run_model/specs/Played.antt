-- Runs of calls that are given, and not asked by a program: the form of worked cases.
use Rattle.std.specs.Prelude.{◌≡◌, ℕ, Bool, true, List, [], ◌∷◌, map, Option, Some, None}
use Rattle.std.specs.Int.{int_wrap}
use Rattle.std.specs.Fmt.{digits}
use Rattle.mpc_values.specs.declared.calls.Call.{Call}
use Rattle.mpc_base.specs.declared.journals.Out.{Out}
use Rattle.c_tree.specs.Asking.{Asks}
use Rattle.tls_levels.specs.Owners.{instances_at}
use Rattle.mpi_queue.specs.History.{partner_of, with_posting}
use Rattle.run_model.specs.Setup.{Setup}
use Rattle.run_model.specs.World.{World}
use Rattle.run_model.specs.Start.{start, first_memory}
use Rattle.run_model.specs.Owners.{owner_of}
use Rattle.run_model.specs.MemoryCalls.{load, store, new, drop, malloc, free}
use Rattle.run_model.specs.TaskCalls.{print, finish, init, finalize, abort, rank, size}
use Rattle.run_model.specs.Posting.{asked, post}
use Rattle.run_model.specs.Completing.{complete, test, any}
use Rattle.run_model.specs.Probing.{probe, iprobe}
use Rattle.run_model.specs.Collectives.{arrive, leave}
use Rattle.run_model.specs.Sharing.{enter, await, exit, bar, barwait}
use Rattle.run_model.specs.Act.{act}
use Rattle.run_model.specs.Steps.{Step, Stays, Makes, visited}
use Rattle.run_model.specs.Go.{world_after, go_with, go}
use Rattle.run_model.specs.Run.{run_from}
use Rattle.run_model.specs.Choice.{choices}
use Rattle.run_model.specs.Ending.{ending}

-- A line of a case: a task visits the run with a call at a line, and makes this entry, or none.
pub record Line : Type 0 where
  pub task : ℕ
  pub call : Call
  pub line : ℕ
  pub out : Option Out

-- such a line
abbrev pub asks : ℕ → Call → ℕ → Option Out → Line
asks task call line out = record { task = task; call = call; line = line; out = out }

-- what became of a step's call
abbrev pub out_of_step : Step → Option Out
out_of_step Stays = None
out_of_step (Makes entry world) = Some entry.out

-- the step of a line's visit
abbrev pub step_of : Setup → World → Line → Step
step_of setup w l = go_with setup w l.task (Asks l.call l.line)

-- what comes of the visits one after the other
abbrev pub outs_from : Setup → World → List Line → List (Option Out)
outs_from setup w [] = []
outs_from setup w (l ∷ more) = out_of_step (step_of setup w l) ∷ outs_from setup (world_after w (step_of setup w l)) more

-- the world after the visits of these lines, from a world on
abbrev pub world_from : Setup → World → List Line → World
world_from setup w [] = w
world_from setup w (l ∷ more) = world_from setup (world_after w (step_of setup w l)) more

-- the visits come to what the lines say
abbrev pub Goes : Setup → List Line → Type 0
Goes setup lines = outs_from setup (start setup) lines ≡ map (λ (l : Line). l.out) lines

-- the world after the visits
abbrev pub after : Setup → List Line → World
after setup lines = world_from setup (start setup) lines

-- A proof that unfolds this one unfolds all that steps and runs compute by.
unfoldable pub computing : Bool
unfolding int_wrap digits instances_at partner_of with_posting first_memory owner_of load store new drop malloc free print finish init finalize abort rank size asked post complete test any probe iprobe arrive leave enter await exit bar barwait act visited go_with go run_from choices ending
computing = true
