-- What a journal tells of postings and matches.
use Rattle.std.specs.Prelude.{◌≡◌, ◌≢◌, ◌⊎◌, ℕ, ◌<◌, Bool, List, take, slice_get, Option, Some, None, option_and_then}
use Rattle.mpc_values.specs.declared.calls.Call.{Call}
use Rattle.mpc_values.specs.declared.answers.Answer.TheVariants.{Posted}
use Rattle.mpc_base.specs.declared.journals.Out.{Out}
use Rattle.mpc_base.specs.declared.journals.Out.TheVariants as out
use Rattle.mpc_base.specs.declared.journals.Entry.{Entry}
use Rattle.c_tree.specs.Asking.{Asks}
use Rattle.c_tree.specs.Next.{next_of}
use Rattle.mpi_queue.specs.declared.postings.Posting.{Posting}
use Rattle.mpi_queue.specs.History.{Made}
use Rattle.mpi_request.specs.Messages.{posting_of}
use Rattle.run_model.specs.Setup.{Setup}
use Rattle.run_model.specs.World.{World}
use Rattle.run_model.specs.Steps.{answers_of}
use Rattle.run_model.specs.Run.{world_of}

-- What an entry tells of a posting: its number, its partner's, or 0, and how many words were moved.
pub record Told : Type 0 where
  pub post : ℕ
  pub met : ℕ
  pub words : ℕ

-- the same by what became of a call
abbrev pub told_in : Out → Option Told
told_in (out.Did (Posted req post met words)) = Some (record { post = post; met = met; words = words })
told_in other = None

-- what the entry of an index tells of a posting
abbrev pub told_at : List Entry → ℕ → Option Told
told_at entries index = option_and_then (λ (entry : Entry). told_in entry.out) (slice_get entries index)

-- A match is an entry of a posting that met another one.
pub record IsMatch (entries : List Entry) (index post met words : ℕ) : Type 0 where
  pub told : told_at entries index ≡ Some (record { post = post; met = met; words = words })
  pub met_one : met ≢ 0

-- the two numbers are those of a match's postings, in this or the other order
abbrev pub AreOf : ℕ → ℕ → ℕ → ℕ → Type 0
AreOf post met send recv = ((post ≡ send) × (met ≡ recv)) ⊎ ((post ≡ recv) × (met ≡ send))

-- the posting of this number was matched before the entry of an index
abbrev pub IsMatchedBefore : List Entry → ℕ → ℕ → Type 0
IsMatchedBefore entries index number = (earlier post met words : ℕ) × (earlier < index) × IsMatch entries earlier post met words × ((post ≡ number) ⊎ (met ≡ number))

-- the world before the entry of an index
abbrev pub world_before : Setup → List Entry → ℕ → World
world_before setup entries index = world_of setup (take index entries)

-- The entry of this index made the posting of this number, for a task that asked this call.
pub record IsPosted (setup : Setup) (entries : List Entry) (index number asker : ℕ) (call : Call) : Type 0 where
  pub entry : Entry
  pub at : slice_get entries index ≡ Some entry
  pub by : entry.task ≡ asker
  pub met : ℕ
  pub words : ℕ
  pub told : told_in entry.out ≡ Some (record { post = number; met = met; words = words })
  pub asked : next_of setup.program (answers_of (world_before setup entries index) asker) ≡ Asks call entry.line

-- a posting of a world by its number: a send or a receive of a task
pub record IsPosting (w : World) (number : ℕ) (send : Bool) (p : Posting) : Type 0 where
  pub made : Made
  pub at : posting_of w.core.postings number ≡ Some made
  pub is : made.posting ≡ p
  pub side : p.send ≡ send
