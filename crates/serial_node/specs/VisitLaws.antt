-- What a visit of a run of one task leaves, for those who go on with the run.
use Rattle.std.specs.Prelude.{◌≡◌, ◌≢◌, ◌≤◌, ◌+◌, ◌==◌, ◌↔◌, ℕ, true, false, List, [], ◌∷◌, ◌++◌, length}
use Rattle.mpc_values.specs.declared.calls.Call.{Call}
use Rattle.mpc_values.specs.declared.answers.Answer.{Answer}
use Rattle.mpc_base.specs.declared.journals.Entry.{Entry}
use Rattle.mpc_base.specs.declared.journals.End.TheVariants.{Going}
use Rattle.mpc_values.specs.CallTable.{call_number}
use Rattle.c_tree.specs.Asking.{Asks}
use Rattle.c_tree.specs.Next.{next_of}
use Rattle.c_tree.specs.ProgramOf.{program_of}
use Rattle.serial_model.specs.declared.records.Setup.{Setup}
use Rattle.serial_model.specs.World.{World}
use Rattle.serial_model.specs.Go.{go, has_ended, answers_of, calls_limit}
use Rattle.serial_model.specs.Run.{run, order_of, world_of, ending}
use Rattle.serial_node.specs.declared.node.Reply.{Reply}
use Rattle.serial_node.specs.declared.node.Reply.TheVariants.{Did, Stop}
use Rattle.serial_node.specs.Visits.{made, reply_of}

-- the entries of a run with a visit more
abbrev pub visited_entries : Setup → List Entry → List Entry
visited_entries setup entries = made entries (go setup (world_of setup entries) 0)

-- what that visit is answered
abbrev pub visit_reply : Setup → List Entry → Reply
visit_reply setup entries = reply_of (has_ended (world_of setup entries)) (go setup (world_of setup entries) 0)

-- the entries are a run of the setup
abbrev pub IsLegal : Setup → List Entry → Type 0
IsLegal setup entries = (run setup (order_of entries)).entries ≡ entries

-- the task's program asks this call behind the answers of the run
abbrev pub AsksNext : Setup → List Entry → Call → ℕ → Type 0
AsksNext setup entries call line = next_of (program_of setup.program) (answers_of (world_of setup entries) 0) ≡ Asks call line

-- How runs of one task begin and end.
pub record RunLaws : Type 0 where
  -- no entries are a run, in which the task has had no answer, and which goes on
  pub starts : (setup : Setup) → IsLegal setup []
  pub starts_without : (setup : Setup) → answers_of (world_of setup []) 0 ≡ []
  pub starts_going : (setup : Setup) → has_ended (world_of setup []) ≡ false
  -- a run that goes on has no more entries than are allowed
  pub few : (setup : Setup) (entries : List Entry) → IsLegal setup entries → has_ended (world_of setup entries) ≡ false → length entries ≤ calls_limit
  -- a run has ended exactly where its end is not Going
  pub ends : (w : World) → (has_ended w ≡ true) ↔ (ending w ≢ Going)

-- What a visit leaves of a run whose task asks this call.
pub record VisitLaws (setup : Setup) (entries : List Entry) (call : Call) : Type 0 where
  -- it is a run
  pub legal : IsLegal setup entries → IsLegal setup (visited_entries setup entries)
  -- a call that is answered is one entry more and one answer more, and the run has then ended exactly where it was finish
  pub longer : (answer : Answer) → visit_reply setup entries ≡ Did answer → length (visited_entries setup entries) ≡ length entries + 1
  pub answered : (answer : Answer) → visit_reply setup entries ≡ Did answer
      → answers_of (world_of setup (visited_entries setup entries)) 0 ≡ answers_of (world_of setup entries) 0 ++ answer ∷ []
  pub finished : (answer : Answer) → visit_reply setup entries ≡ Did answer → has_ended (world_of setup (visited_entries setup entries)) ≡ (call_number call == 9)
  -- where the answer is Stop, the run has ended
  pub stopped : call_number call ≤ 9 → visit_reply setup entries ≡ Stop → has_ended (world_of setup (visited_entries setup entries)) ≡ true
