-- What a round leaves: what the code demands is what the program asks, and behind the answer the two are together again.
use Rattle.std.proofs.Common.{◌≡◌, ◌≤◌, ◌==◌, ℕ, Bool, true, false, List, [], ◌∷◌, ◌++◌, length, refl, ap, sym, ◌∙◌, subst, arith}
use Rattle.mpc_values.specs.declared.calls.Call.{Call}
use Rattle.mpc_values.specs.declared.calls.Call.TheVariants as call
use Rattle.mpc_values.specs.declared.answers.Answer.{Answer}
use Rattle.mpc_values.specs.CallTable.{call_number}
use Rattle.c_tree.specs.Asking as asking
use Rattle.c_tree.specs.Next.{next_of}
use Rattle.c_tree.specs.ProgramOf.{program_of}
use Rattle.c_code.specs.FlatCode.{FlatCode}
use Rattle.c_code.proofs.Following.{demands_once, asks_demanded}
use Rattle.c_compile.specs.Correct.{Behaves}
use Rattle.c_compile.specs.Plain.{is_plain}
use Rattle.c_compile.proofs.Plain.{plain_asks}
use Rattle.serial_model.specs.declared.records.Setup.{Setup}
use Rattle.serial_model.specs.Go.{has_ended, answers_of}
use Rattle.serial_model.specs.Run.{world_of}
use Rattle.serial_node.specs.Held.{Held}
use Rattle.serial_node.specs.declared.node.Reply.TheVariants.{Did, Stop}
use Rattle.serial_node.specs.VisitLaws.{AsksNext, IsLegal, visited_entries, visit_reply}
use Rattle.serial_node.proofs.Leads.{visit_laws, run_laws}
use Rattle.task_vm.specs.Tasks.{Tasked, HasHad, IsAsking, ends_task, Awaits}
use Rattle.task_vm.specs.Wanting.{IsWanting}
use Rattle.task_vm.specs.declared.states.Want.{Want}
use Rattle.task_vm.specs.declared.states.Want.TheVariants.{Ask}
use Rattle.serial_run.specs.Rounds.{Together, Asking, Turned}
use Rattle.serial_run.proofs.FitAnswers.{fits_reply}

-- a call up to finish that is not finish is not the task's last
goes_on : (call : Call) → call_number call ≤ 9 → (call_number call == 9) ≡ false → ends_task call ≡ false
goes_on (call.Finish code) built other = absurd (cc other)
goes_on (call.Abort comm code) built other = absurd (omega (arith, built))
goes_on call built other = refl

-- the node behind a visit
abbrev pub visited_node : Held → Held
visited_node node = record { setup = node.setup; entries = visited_entries node.setup node.entries }

pub same_node : (a b : Held) → a.setup ≡ b.setup → a.entries ≡ b.entries → a ≡ b
same_node a b setups entries i = record { setup = setups i; entries = entries i }

-- a task that has run on to its next call
pub asking_of : (task next : Tasked) (node : Held) (call : Call) (line : ℕ) → Together task node → next.code ≡ task.code → HasHad next (answers_of (world_of node.setup node.entries) 0) → next.over ≡ false → next.asked ≡ true
    → IsAsking next call line → Asking next node call line
asking_of task next node call line together code had goes asked asks = record {
  together = record {
    plain = together.plain;
    behaves = subst (λ (c : FlatCode). Behaves c (program_of node.setup.program)) (sym code) together.behaves;
    had = had;
    goes = goes;
    going = together.going;
  };
  asked = asked;
  asks = asks;
}

pub asking_want : (task next : Tasked) (node : Held) (want : Want) (call : Call) (line : ℕ) → want ≡ Ask call line → Together task node → next.code ≡ task.code → HasHad next (answers_of (world_of node.setup node.entries) 0)
    → next.over ≡ false → next.asked ≡ true → IsWanting next want → Asking next node call line
asking_want task next node want call line is together code had goes asked wants =
    asking_of task next node call line together code had goes asked (subst (IsWanting next) is wants)

-- a run that goes on cannot have more entries than are allowed
pub too_many : (task : Tasked) (node : Held) → Together task node → IsLegal node.setup node.entries → 250001 ≤ length node.entries → ⊥
too_many task node together legal many =
    let few = run_laws.few node.setup node.entries legal together.going in
    omega (arith, few, many)

-- a task and a node that begin
pub begun : (task : Tasked) (node : Held) (setup : Setup) → node ≡ record { setup = setup; entries = [] } → is_plain (program_of setup.program) ≡ true → Behaves task.code (program_of setup.program) → HasHad task [] → task.over ≡ false
    → Together task node
begun task node setup is plain behaves had goes =
    subst (Together task) (sym is) (record {
      plain = plain;
      behaves = behaves;
      had = subst (HasHad task) (sym (run_laws.starts_without setup)) had;
      goes = goes;
      going = run_laws.starts_going setup;
    })

module _ (task : Tasked) (node : Held) (call : Call) (line : ℕ) (asking' : Asking task node call line) where
  given : List Answer
  given = answers_of (world_of node.setup node.entries) 0

  -- the code of the task demands the one call that the program asks
  pub asks_next : AsksNext node.setup node.entries call line
  unfolding given
  asks_next =
      let together = asking'.together in
      let demands = asks_demanded task.code given task.mach call line together.had asking'.asks in
      demands_once task.code together.had.entry given (next_of (program_of node.setup.program) given) (asking.Asks call line) together.had.main (together.behaves given) demands

  -- it is one of those that are built
  pub is_built : call_number call ≤ 9
  unfolding given
  is_built = plain_asks (program_of node.setup.program) given call line asking'.together.plain asks_next

  -- a visit whose answer is Stop has ended the run
  pub stopped : (after : Held) → after ≡ visited_node node → visit_reply node.setup node.entries ≡ Stop → has_ended (world_of after.setup after.entries) ≡ true
  stopped after is replied =
      ap (λ (n : Held). has_ended (world_of n.setup n.entries)) is ∙ (visit_laws node.setup node.entries call line asks_next).stopped is_built replied

  module _ (answer : Answer) (replied : visit_reply node.setup node.entries ≡ Did answer) where
    -- the task waits for this answer
    pub awaits : Awaits task answer
    awaits = record { asked = asking'.asked; call = call; line = line; asks = asking'.asks; fitting = fits_reply node.setup node.entries call line answer asks_next replied }

    -- behind the answer the run has ended, where it was that of finish, or the two are together again
    module _ (next : Tasked) (code : next.code ≡ task.code) (over : next.over ≡ ends_task call)
        (had : (given : List Answer) → HasHad task given → next.over ≡ false → HasHad next (given ++ answer ∷ [])) where
      by_last : (b : Bool) → (call_number call == 9) ≡ b → Turned b next node (visited_node node)
      unfolding given
      by_last true last = (visit_laws node.setup node.entries call line asks_next).finished answer replied ∙ last
      by_last false other =
          let laws = visit_laws node.setup node.entries call line asks_next in
          let goes : next.over ≡ false = over ∙ goes_on call is_built other in (
            record {
              plain = asking'.together.plain;
              behaves = subst (λ (c : FlatCode). Behaves c (program_of node.setup.program)) (sym code) asking'.together.behaves;
              had = subst (HasHad next) (sym (laws.answered answer replied)) (had given asking'.together.had goes);
              goes = goes;
              going = laws.finished answer replied ∙ other;
            },
            laws.longer answer replied,
          )

      pub turned : (b : Bool) (after : Held) → b ≡ (call_number call == 9) → after ≡ visited_node node → Turned b next node after
      turned b after last is = subst (λ (n : Held). Turned b next node n) (sym is) (by_last b (sym last))
