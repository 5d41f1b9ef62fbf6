-- What a step of the task leaves.
use Rattle.std.proofs.Common.{◌≡◌, ◌≢◌, ◌≤◌, ◌+◌, ◌==◌, ◌||◌, ◌&&◌, ◌↔◌, ℕ, pos, Bool, true, false, nat_le, if◌then◌else◌, List, [], ◌∷◌, ◌++◌, length, slice_get, slice_set, Option, Some, None, refl, ap, sym, subst, ◌∙◌, arith, length-append}
use Rattle.std.specs.List.{list_all}
use Rattle.std.specs.Option.{is_some}
use Rattle.mpc_values.specs.declared.values.Word.TheVariants.{Int}
use Rattle.mpc_values.specs.declared.calls.Call.{Call}
use Rattle.mpc_values.specs.declared.calls.Call.TheVariants as call
use Rattle.mpc_values.specs.declared.answers.Answer.{Answer}
use Rattle.mpc_values.specs.declared.answers.Answer.TheVariants.{Gives}
use Rattle.mpc_base.specs.declared.journals.Out.{Out}
use Rattle.mpc_base.specs.declared.journals.Out.TheVariants.{Waits, Did, Broke}
use Rattle.mpc_values.specs.declared.faults.Fault.TheVariants.{Calls, OutputFull}
use Rattle.mpc_base.specs.declared.journals.Entry.{Entry}
use Rattle.mpc_base.specs.declared.journals.End.TheVariants.{Going}
use Rattle.mpc_values.specs.CallTable.{call_number}
use Rattle.c_tree.specs.Asking.{Asks}
use Rattle.c_tree.specs.Next.{next_of}
use Rattle.c_tree.specs.ProgramOf.{program_of}
use Rattle.serial_memory.specs.Memory.{Memory}
use Rattle.serial_memory.specs.Access.{Access, Answers, Breaks}
use Rattle.serial_model.specs.declared.records.Setup.{Setup}
use Rattle.serial_model.specs.declared.lasts.Last.{Last}
use Rattle.serial_model.specs.World.{World, TaskState}
use Rattle.serial_model.specs.Go.{Act, Does, Fails, Unbuilt, act, accessed, print, output_limit, calls_limit, count_of, Step, Stays, Makes, acted, fails, visited, go, has_ended, has_finished, answers_of, answers_at}
use Rattle.serial_model.specs.Run.{run, order_of, world_of, end_of}
use Rattle.serial_model.specs.Bounds.{Bounded}
use Rattle.serial_model.proofs.Bounds.{bounded}
use Rattle.serial_model.proofs.Runs.{run-start, world_of-push, entries-push}
use Rattle.serial_node.specs.declared.node.Reply.{Reply}
use Rattle.serial_node.specs.declared.node.Reply.TheVariants.{Did as DidReply, Stop}
use Rattle.serial_node.specs.Visits.{made, reply_of, reply_to}
use Rattle.serial_node.specs.VisitLaws.{IsLegal, AsksNext, visited_entries, visit_reply, VisitLaws, RunLaws}
use Rattle.serial_node.proofs.Visits.{go_ended, left_false, right_false, and_true, none_of}

-- what a call that is done leaves of the task's exit; the calls that are not built are those from 10 on
Exits : Call → TaskState → Act → Type 0
Exits call state (Does answer m after) = is_some after.exit ≡ (call_number call == 9 || is_some state.exit)
Exits call state (Fails fault) = Unit {0}
Exits call state Unbuilt = call_number call ≤ 9 → ⊥

exits_accessed : (call : Call) (state : TaskState) (access : Access) → (call_number call == 9) ≡ false → Exits call state (accessed state access)
unfolding Exits
exits_accessed call state (Answers answer o) other = ap (λ b. b || is_some state.exit) (sym other)
exits_accessed call state (Breaks fault) other = tt

exits_print : (m : Memory) (state : TaskState) (text : List ℕ) → Exits (call.Print text) state (print m state text)
unfolding Exits
exits_print m state text =
    elim (nat_le (length state.output + length text) output_limit)
    as (λ b. Exits (call.Print text) state (if b then Does (Gives (Int (pos (length text)))) m (record state { output = state.output ++ text }) else Fails OutputFull)) [
      | true ↦ refl
      | false ↦ tt
    ]

exits : (m : Memory) (state : TaskState) (call : Call) → Exits call state (act 0 m state call)
unfolding Exits
exits m state (call.Load at) = exits_accessed (call.Load at) state _ refl
exits m state (call.Store at word) = exits_accessed (call.Store at word) state _ refl
exits m state (call.New len) = exits_accessed (call.New len) state _ refl
exits m state (call.Drop obj) = exits_accessed (call.Drop obj) state _ refl
exits m state (call.Malloc n) = exits_accessed (call.Malloc n) state _ refl
exits m state (call.Free at) = exits_accessed (call.Free at) state _ refl
exits m state (call.Print text) = exits_print m state text
exits m state (call.Broke fault) = tt
exits m state (call.Finish code) = refl
exits m state other = λ few. omega arith

-- what a step leaves that makes an entry with this outcome
pub record Answered (w : World) (state : TaskState) (call : Call) (after : World) (answer : Answer) : Type 0 where
  pub state' : TaskState
  pub tasks : after.tasks ≡ slice_set w.tasks 0 state'
  pub exit : is_some state'.exit ≡ (call_number call == 9 || is_some state.exit)
  pub answers : after.answers ≡ slice_set w.answers 0 (answers_of w 0 ++ answer ∷ [])
  pub last : after.last ≡ w.last

abbrev pub LeavesOut : World → TaskState → Call → World → Out → Type 0
LeavesOut w state call after (Did answer) = Answered w state call after answer
LeavesOut w state call after (Broke fault) = is_some after.last ≡ true
LeavesOut w state call after Waits = ⊥

abbrev pub Leaves : World → TaskState → Call → Step → Type 0
Leaves w state call Stays = call_number call ≤ 9 → ⊥
Leaves w state call (Makes e after) = (e.task ≡ 0) × LeavesOut w state call after e.out

module _ (w : World) (state : TaskState) (call : Call) (line : ℕ) where
  leaves_acted : (done : Act) → Exits call state done → Leaves w state call (acted w 0 call line done)
  unfolding Exits
  leaves_acted (Does answer m after) exit = (refl, record { state' = after; tasks = refl; exit = exit; answers = refl; last = refl })
  leaves_acted (Fails fault) exit = (refl, refl)
  leaves_acted Unbuilt exit = exit

  leaves_visited : Leaves w state call (visited w 0 state call line)
  leaves_visited =
      elim (nat_le calls_limit (count_of w 0)) as (λ full. Leaves w state call (if full then fails w 0 call line Calls else acted w 0 call line (act 0 w.memory state call))) [
        | true ↦ (refl, refl)
        | false ↦ leaves_acted (act 0 w.memory state call) (exits w.memory state call)
      ]

-- a task that has not finished asks a call
go_asks : (setup : Setup) (w : World) (state : TaskState) (call : Call) (line : ℕ) → w.tasks ≡ state ∷ [] → has_ended w ≡ false
    → next_of (program_of setup.program) (answers_of w 0) ≡ Asks call line → go setup w 0 ≡ visited w 0 state call line
go_asks setup w state call line tasks going asks =
    let there : slice_get w.tasks 0 ≡ Some state = ap (λ ts. slice_get ts 0) tasks in
    let free : has_finished state ≡ false = and_true _ (sym (ap (list_all has_finished) tasks) ∙ right_false _ _ going) in
    rw (going, there, free, asks) refl

module _ (setup : Setup) (entries : List Entry) (call : Call) (line : ℕ) (asks : AsksNext setup entries call line) where
  abbrev here : World
  here = world_of setup entries

  bound : Bounded (run setup (order_of entries))
  bound = bounded setup (order_of entries)

  -- the run has ended and stays, or a step is made
  data Found : Type 0 where
    Ended : (ended : has_ended here ≡ true) (stays : go setup here 0 ≡ Stays) → Found
    Stepped : (going : has_ended here ≡ false) (step : Step) (is : go setup here 0 ≡ step) (leaves : Leaves here bound.state call step) → Found

  found : Found
  found =
      elim (has_ended here) as (λ b. has_ended here ≡ b → Found) [
        | true ↦ λ ended. Ended ended (go_ended setup here ended)
        | false ↦ λ going. Stepped going (visited here 0 bound.state call line) (go_asks setup here bound.state call line bound.tasks going asks) (leaves_visited here bound.state call line)
      ] refl

  made_world : (e : Entry) (after : World) → go setup here 0 ≡ Makes e after → e.task ≡ 0 → world_of setup (entries ++ e ∷ []) ≡ after
  made_world e after is zero' = world_of-push setup entries e after (ap (go setup here) zero' ∙ is)

  legal_step : IsLegal setup entries → (step : Step) → go setup here 0 ≡ step → Leaves here bound.state call step → IsLegal setup (made entries step)
  legal_step legal Stays is leaves = legal
  legal_step legal (Makes e after) is leaves = entries-push setup entries e after legal (ap (go setup here) leaves.0 ∙ is)

  longer_step : (ended : Bool) (answer : Answer) (step : Step) → reply_of ended step ≡ DidReply answer → length (made entries step) ≡ length entries + 1
  longer_step ended answer Stays replied = absurd (cc replied)
  longer_step ended answer (Makes e after) replied = length-append entries (e ∷ [])

  answered_out : (answer : Answer) (after : World) (out : Out) → LeavesOut here bound.state call after out → reply_to out ≡ DidReply answer
      → answers_of after 0 ≡ answers_of here 0 ++ answer ∷ []
  answered_out answer after (Did given) leaves replied =
      let same : given ≡ answer = cc in
      let put : after.answers ≡ (answers_of here 0 ++ given ∷ []) ∷ [] = leaves.answers ∙ ap (λ all. slice_set all 0 (answers_of here 0 ++ given ∷ [])) bound.replies in
      ap (λ all. answers_at (slice_get all 0)) put ∙ ap (λ a. answers_of here 0 ++ a ∷ []) same
  answered_out answer after (Broke fault) leaves replied = absurd (cc replied)
  answered_out answer after Waits leaves replied = absurd leaves

  answered_step : (ended : Bool) (answer : Answer) (step : Step) → go setup here 0 ≡ step → Leaves here bound.state call step → reply_of ended step ≡ DidReply answer
      → answers_of (world_of setup (made entries step)) 0 ≡ answers_of here 0 ++ answer ∷ []
  answered_step ended answer Stays is leaves replied = absurd (cc replied)
  answered_step ended answer (Makes e after) is leaves replied =
      ap (λ w. answers_of w 0) (made_world e after is leaves.0) ∙ answered_out answer after e.out leaves.1 replied

  finished_out : has_ended here ≡ false → (answer : Answer) (after : World) (out : Out) → LeavesOut here bound.state call after out → reply_to out ≡ DidReply answer
      → has_ended after ≡ (call_number call == 9)
  finished_out going answer after (Did given) leaves replied =
      let none : is_some after.last ≡ false = ap is_some leaves.last ∙ left_false (is_some here.last) (list_all has_finished here.tasks) going in
      let free : is_some bound.state.exit ≡ false = and_true _ (sym (ap (list_all has_finished) bound.tasks) ∙ right_false (is_some here.last) (list_all has_finished here.tasks) going) in
      let put : after.tasks ≡ leaves.state' ∷ [] = leaves.tasks ∙ ap (λ ts. slice_set ts 0 leaves.state') bound.tasks in
      ap (λ b. b || list_all has_finished after.tasks) none ∙ ap (list_all has_finished) put
      ∙ ap (λ b. b && true) (leaves.exit ∙ ap (λ b. call_number call == 9 || b) free) ∙ plain (call_number call == 9)
    where
      plain : (b : Bool) → ((b || false) && true) ≡ b
      plain true = refl
      plain false = refl
  finished_out going answer after (Broke fault) leaves replied = absurd (cc replied)
  finished_out going answer after Waits leaves replied = absurd leaves

  finished_step : has_ended here ≡ false → (ended : Bool) (answer : Answer) (step : Step) → go setup here 0 ≡ step → Leaves here bound.state call step → reply_of ended step ≡ DidReply answer
      → has_ended (world_of setup (made entries step)) ≡ (call_number call == 9)
  finished_step going ended answer Stays is leaves replied = absurd (cc replied)
  finished_step going ended answer (Makes e after) is leaves replied = ap has_ended (made_world e after is leaves.0) ∙ finished_out going answer after e.out leaves.1 replied

  stopped_out : (after : World) (out : Out) → LeavesOut here bound.state call after out → reply_to out ≡ Stop → has_ended after ≡ true
  stopped_out after (Did given) leaves replied = absurd (cc replied)
  stopped_out after (Broke fault) leaves replied = ap (λ b. b || list_all has_finished after.tasks) leaves
  stopped_out after Waits leaves replied = absurd leaves

  stopped_step : call_number call ≤ 9 → (ended : Bool) (step : Step) → go setup here 0 ≡ step → Leaves here bound.state call step → reply_of ended step ≡ Stop
      → has_ended (world_of setup (made entries step)) ≡ true
  stopped_step built ended Stays is leaves replied = absurd (leaves built)
  stopped_step built ended (Makes e after) is leaves replied = ap has_ended (made_world e after is leaves.0) ∙ stopped_out after e.out leaves.1 replied

  -- the step that is made is the one that the laws speak of
  module _ (step : Step) (is : go setup here 0 ≡ step) where
    moved_reply : (reply : Reply) → visit_reply setup entries ≡ reply → reply_of (has_ended here) step ≡ reply
    moved_reply reply replied = sym (ap (reply_of (has_ended here)) is) ∙ replied

    moved_entries : made entries step ≡ visited_entries setup entries
    moved_entries = ap (made entries) (sym is)

  never_did : go setup here 0 ≡ Stays → (answer : Answer) → visit_reply setup entries ≡ DidReply answer → ⊥
  never_did stays answer replied = let no : Stop ≡ DidReply answer = moved_reply Stays stays (DidReply answer) replied in cc

  laws : Found → VisitLaws setup entries call
  laws (Ended ended stays) = record {
    legal = λ legal. subst (λ (es : List Entry). IsLegal setup es) (moved_entries Stays stays) legal;
    longer = λ answer replied. absurd (never_did stays answer replied);
    answered = λ answer replied. absurd (never_did stays answer replied);
    finished = λ answer replied. absurd (never_did stays answer replied);
    stopped = λ built replied. subst (λ (es : List Entry). has_ended (world_of setup es) ≡ true) (moved_entries Stays stays) ended;
  }
  laws (Stepped going step is leaves) = record {
    legal = λ legal. subst (λ (es : List Entry). IsLegal setup es) (moved_entries step is) (legal_step legal step is leaves);
    longer = λ answer replied. subst (λ (es : List Entry). length es ≡ length entries + 1) (moved_entries step is) (longer_step (has_ended here) answer step (moved_reply step is (DidReply answer) replied));
    answered = λ answer replied. subst (λ (es : List Entry). answers_of (world_of setup es) 0 ≡ answers_of here 0 ++ answer ∷ []) (moved_entries step is)
        (answered_step (has_ended here) answer step is leaves (moved_reply step is (DidReply answer) replied));
    finished = λ answer replied. subst (λ (es : List Entry). has_ended (world_of setup es) ≡ (call_number call == 9)) (moved_entries step is)
        (finished_step going (has_ended here) answer step is leaves (moved_reply step is (DidReply answer) replied));
    stopped = λ built replied. subst (λ (es : List Entry). has_ended (world_of setup es) ≡ true) (moved_entries step is)
        (stopped_step built (has_ended here) step is leaves (moved_reply step is Stop replied));
  }

  -- what a visit leaves
  pub visit_laws : VisitLaws setup entries call
  visit_laws = laws found

ends_of : (last : Option Last) (b : Bool) → ((is_some last || b) ≡ true) ↔ (end_of last b ≢ Going)
ends_of (Some last) b = (λ _ going. cc going, λ _. refl)
ends_of None true = (λ _ going. cc going, λ _. refl)
ends_of None false = (λ no _. cc no, λ never. absurd (never refl))

few_there : (setup : Setup) (entries : List Entry) → IsLegal setup entries → has_ended (world_of setup entries) ≡ false → length entries ≤ calls_limit
few_there setup entries legal going =
    let none : (world_of setup entries).last ≡ None = none_of (world_of setup entries).last (left_false _ _ going) in
    let few = (bounded setup (order_of entries)).few none in
    rw legal at few

-- how runs begin and end
pub run_laws : RunLaws
run_laws = record {
  starts = λ setup. ap (λ r. r.entries) (run-start setup);
  starts_without = λ setup. ap (λ r. answers_of r.world 0) (run-start setup);
  starts_going = λ setup. ap (λ r. has_ended r.world) (run-start setup);
  few = few_there;
  ends = λ w. ends_of w.last (list_all has_finished w.tasks);
}
