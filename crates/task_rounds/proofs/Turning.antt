-- What a turn of a task leaves.
use Rattle.std.proofs.Common.{◌≡◌, ◌≢◌, ℕ, Bool, true, false, if◌then◌else◌, List, [], ◌∷◌, ◌++◌, Some, None, refl, sym, ap, subst, ◌∙◌}
use Rattle.std.specs.Option.{unwrap_or}
use Rattle.mpc_values.specs.declared.calls.Call.{Call}
use Rattle.mpc_values.specs.declared.calls.Call.TheVariants as call
use Rattle.mpc_values.specs.declared.answers.Answer.{Answer}
use Rattle.mpc_base.specs.declared.journals.Out.{Out}
use Rattle.mpc_base.specs.declared.journals.Out.TheVariants as out
use Rattle.mpc_base.specs.declared.journals.End.{End}
use Rattle.mpc_base.specs.declared.journals.End.TheVariants as end
use Rattle.mpc_base.specs.declared.journals.Entry.{Entry}
use Rattle.c_tree.specs.Asking.{Next, fits}
use Rattle.c_tree.specs.Asking as asking
use Rattle.c_tree.specs.Next.{next_of}
use Rattle.c_code.proofs.Following.{demands_once, asks_demanded}
use Rattle.c_compile.specs.Correct.{Behaves}
use Rattle.task_vm.specs.Tasks.{Tasked, HasHad, ends_task, Awaits}
use Rattle.task_vm.specs.declared.states.Want.{Want}
use Rattle.task_vm.specs.declared.states.Want.TheVariants.{Ask}
use Rattle.run_model.specs.Setup.{Setup, setup_of}
use Rattle.run_model.specs.World.{World}
use Rattle.run_model.specs.Fitting.{IsKnown}
use Rattle.run_model.specs.Steps.{Step, Stays, Makes, answers_of}
use Rattle.run_model.specs.Go.{go, makes}
use Rattle.run_model.specs.Ending.{ending}
use Rattle.run_model.specs.Run.{order_of}
use Rattle.run_model.specs.Stepping.{IsStep, answer_told}
use Rattle.run_model.proofs.Steps.{step_is, task_is}
use Rattle.run_model.proofs.Runs.{world_of-push, entries-push, append_nil}
use Rattle.run_model.proofs.Answers.{answered, own_answers, other_answers, list_of}
use Rattle.run_model.proofs.Ended.{ended_runs_stay}
use Rattle.node_core.specs.Built.{IsBuilt}
use Rattle.node_core.specs.Held.{Held, world_in, end_of, is_going}
use Rattle.node_core.specs.Over.{is_over}
use Rattle.node_core.specs.Visits.{made, made_by, reply_to, reply_in}
use Rattle.node_core.specs.declared.node.Reply.{Reply}
use Rattle.node_core.specs.declared.node.Reply.TheVariants.{Did, Stop}
use Rattle.node_core.proofs.Enders.{is_last}
use Rattle.node_core.proofs.AskingRuns.{going_free, over_by, over_stays}
use Rattle.task_picks.specs.Picked.{goes}
use Rattle.task_rounds.specs.declared.seats.Seat.{Seat}
use Rattle.task_rounds.specs.Rounds.{Plays, Keeps, Wants, Asking, AskingWant}

-- the call that ends a task ends it in the run
ends_last : (c : Call) → ends_task c ≡ true → is_last c ≡ true
ends_last (call.Finish code) h = refl
ends_last (call.Abort comm code) h = refl
ends_last other h = absurd (cc h)

-- the entry that a task makes which can go
record Went (setup : Setup) (w : World) (number : ℕ) : Type 0 where
  entry : Entry
  after : World
  is : go setup w number ≡ Makes entry after

went_by : (setup : Setup) (w : World) (number : ℕ) (step : Step) → go setup w number ≡ step → makes step ≡ true → Went setup w number
went_by setup w number Stays is h = absurd (cc h)
went_by setup w number (Makes entry after) is h = record { entry = entry; after = after; is = is }

going_end : (e : End) → is_going e ≡ false → e ≢ end.Going
going_end e off is = let twice : true ≡ false = ap is_going (sym is) ∙ off in absurd (cc twice)

-- a reply with an answer is of an entry with it
did_by : (b : Bool) (o : Out) (answer : Answer) → (if b then reply_to o else Stop) ≡ Did answer → o ≡ out.Did answer
did_by true (out.Did a) answer h = let e : a ≡ answer = cc in ap out.Did e
did_by true (out.Broke fault) answer h = absurd (cc h)
did_by true out.Waits answer h = absurd (cc h)
did_by false o answer h = absurd (cc h)

-- another reply, while the run goes on, is of an entry without one
none_by : (o : Out) (reply : Reply) → reply_to o ≡ reply → ((answer : Answer) → reply ≢ Did answer) → answer_told o ≡ None
none_by (out.Did a) reply h other = absurd (other a (sym h))
none_by (out.Broke fault) reply h other = refl
none_by out.Waits reply h other = refl

by_over : (b : Bool) (x : Bool) → (b ≡ true → x ≡ true) → x ≡ false → b ≡ false
by_over true x h off = absurd (let twice : true ≡ false = sym (h refl) ∙ off in cc twice)
by_over false x h off = refl

module _ (held : Held) (number : ℕ) (plays : Plays held) (can : goes held number ≡ true) where
  setup : Setup
  setup = setup_of held.setup

  w : World
  w = world_in held

  went : Went setup w number
  unfolding setup w
  went = went_by (setup_of held.setup) (world_in held) number (go (setup_of held.setup) (world_in held) number) refl can

  step : IsStep (setup_of held.setup) (world_in held) number went.entry went.after
  unfolding setup w
  step = step_is (setup_of held.setup) (world_in held) number went.entry went.after went.is

  own_went : go (setup_of held.setup) (world_in held) went.entry.task ≡ Makes went.entry went.after
  unfolding setup w
  own_went = subst (λ t. go (setup_of held.setup) (world_in held) t ≡ Makes went.entry went.after) (sym (task_is step)) went.is

  -- the node after the visit
  next : Held
  next = record { setup = held.setup; entries = held.entries ++ went.entry ∷ []; stop = None }

  module _ (node : Held) (setups : node.setup ≡ held.setup) (entries : node.entries ≡ made_by held.stop held.entries (go (setup_of held.setup) (world_in held) number)) (stops : node.stop ≡ held.stop) where
    pub entries_are : node.entries ≡ made held.entries (go (setup_of held.setup) (world_in held) number)
    entries_are = entries ∙ ap (λ o. made_by o held.entries (go (setup_of held.setup) (world_in held) number)) plays.running

    node_is : node ≡ next
    unfolding next setup w
    node_is i = record {
      setup = setups i;
      entries = (entries_are ∙ ap (made held.entries) went.is) i;
      stop = (stops ∙ plays.running) i;
    }

    world_is : world_in node ≡ went.after
    unfolding next setup w
    world_is = ap world_in node_is ∙ world_of-push (setup_of held.setup) held.entries went.entry went.after own_went

    pub plays_after : Plays node
    unfolding next setup w
    plays_after = subst Plays (sym node_is) (record {
      valid = plays.valid;
      legal = entries-push (setup_of held.setup) held.entries went.entry went.after plays.legal own_went;
      running = refl;
      built = plays.built;
    })

    pub others_keep : (other : ℕ) (seat : Seat) → other ≢ number → Keeps held other seat → Keeps node other seat
    unfolding next setup w
    others_keep other seat apart keeps = record {
      behaves = subst (λ g. Behaves seat.task.code (setup_of g).program) (sym setups) keeps.behaves;
      had = λ goes'. subst (HasHad seat.task) (sym (ap (λ x. answers_of x other) world_is ∙ other_answers step other apart)) (keeps.had goes');
      over = λ over. ap (λ x. is_over x other) world_is ∙ over_stays step other apart (keeps.over over);
      asks = keeps.asks;
    }

    own_are : answers_of (world_in node) number ≡ answers_of (world_in held) number ++ list_of (answer_told went.entry.out)
    unfolding next setup w
    own_are =
        ap (λ x. answers_of x number) world_is
        ∙ own_answers step ((answered (setup_of held.setup) (order_of held.entries)).lists ∙ sym (answered (setup_of held.setup) (order_of held.entries)).courses)

  goes_still : (b : Bool) → is_going (end_of held) ≡ b → b ≡ true
  unfolding setup w
  goes_still true is = refl
  goes_still false is =
      let ends : end_of held ≡ ending (setup_of held.setup) (world_in held) = ap (λ o. unwrap_or o (ending (setup_of held.setup) (world_in held))) plays.running in
      let stays = ended_runs_stay (setup_of held.setup) (world_in held) number (going_end (ending (setup_of held.setup) (world_in held)) (ap is_going (sym ends) ∙ is)) in
      absurd (let both : Stays ≡ Makes went.entry went.after = sym stays ∙ went.is in cc both)

  still_going : is_going (end_of held) ≡ true
  still_going = goes_still (is_going (end_of held)) refl

  module _ (reply : Reply) (replied : reply ≡ reply_in (is_going (end_of held)) (go (setup_of held.setup) (world_in held) number)) where
    told : reply ≡ reply_to went.entry.out
    unfolding setup w
    told = replied ∙ ap (reply_in (is_going (end_of held))) went.is ∙ ap (λ b. if b then reply_to went.entry.out else Stop) still_going

    did_is : (answer : Answer) → reply ≡ Did answer → went.entry.out ≡ out.Did answer
    did_is answer is = did_by true went.entry.out answer (sym told ∙ is)

    none_is : ((answer : Answer) → reply ≢ Did answer) → answer_told went.entry.out ≡ None
    none_is other = none_by went.entry.out reply (sym told) other

  module _ (seat : Seat) (keeps : Keeps held number seat) where
    pub goes_on : seat.task.over ≡ false
    unfolding setup w
    goes_on =
        by_over seat.task.over (is_over (world_in held) number) keeps.over
        (going_free (setup_of held.setup) (world_in held) number (Some step.course) step.there step.may)

    pub asking_want : (task : Tasked) (want : Want) → Wants seat.task task want → AskingWant held number task want
    asking_want task (Ask asked line) wants = record {
      behaves = subst (λ c. Behaves c (setup_of held.setup).program) (sym wants.code) keeps.behaves;
      had = wants.had (answers_of (world_in held) number) (keeps.had goes_on);
      asked = wants.asked;
      goes = wants.goes;
      asks = wants.asks;
    }

    pub asking_call : (task : Tasked) (want : Want) (asked : Call) (line : ℕ) → want ≡ Ask asked line → Wants seat.task task want → Asking held number task asked line
    asking_call task want asked line is wants = subst (AskingWant held number task) is (asking_want task want wants)

  module _ (task : Tasked) (asked : Call) (line : ℕ) (asking' : Asking held number task asked line) where
    -- the code of the task demands the one call that the program asks
    pub asked_next : next_of (setup_of held.setup).program (answers_of (world_in held) number) ≡ asking.Asks asked line
    asked_next =
        demands_once task.code asking'.had.entry (answers_of (world_in held) number) (next_of (setup_of held.setup).program (answers_of (world_in held) number)) (asking.Asks asked line)
        asking'.had.main (asking'.behaves (answers_of (world_in held) number)) (asks_demanded task.code (answers_of (world_in held) number) task.mach asked line asking'.had asking'.asks)

    pub is_built : IsBuilt asked
    is_built = plays.built (answers_of (world_in held) number) asked line asked_next

    same_call : step.call ≡ asked
    same_call = let both : asking.Asks step.call step.line ≡ asking.Asks asked line = sym step.asked ∙ asked_next in cc

    module _ (reply : Reply) (replied : reply ≡ reply_in (is_going (end_of held)) (go (setup_of held.setup) (world_in held) number)) where
      -- the task waits for this answer
      pub awaits : ((setup' : Setup) (world : World) (who : ℕ) (entry : Entry) (after : World) (s : IsStep setup' world who entry after) (answer : Answer) → IsKnown setup' s.call → entry.out ≡ out.Did answer → fits s.call answer ≡ true)
          → (answer : Answer) → reply ≡ Did answer → Awaits task answer
      awaits law answer is = record {
        asked = asking'.asked;
        call = asked;
        line = line;
        asks = asking'.asks;
        fitting = subst (λ c. fits c answer ≡ true) same_call
            (law (setup_of held.setup) (world_in held) number went.entry went.after step answer (plays.valid.known (answers_of (world_in held) number) step.call step.line step.asked) (did_is reply replied answer is));
      }

      module _ (node : Held) (setups : node.setup ≡ held.setup) (entries : node.entries ≡ made_by held.stop held.entries (go (setup_of held.setup) (world_in held) number)) (stops : node.stop ≡ held.stop) where
        pub keeps_did : (answer : Answer) → reply ≡ Did answer → (answered' : Tasked) → answered'.code ≡ task.code → answered'.over ≡ ends_task asked → answered'.asked ≡ false
            → ((given : List Answer) → HasHad task given → answered'.over ≡ false → HasHad answered' (given ++ answer ∷ [])) → Keeps node number (record { task = answered'; want = None })
        keeps_did answer is answered' code over off has = record {
          behaves = subst (λ g. Behaves answered'.code (setup_of g).program) (sym setups) (subst (λ c. Behaves c (setup_of held.setup).program) (sym code) asking'.behaves);
          had = λ goes'.
              subst (HasHad answered') (sym (own_are node setups entries stops ∙ ap (λ o. answers_of (world_in held) number ++ list_of (answer_told o)) (did_is reply replied answer is)))
              (has (answers_of (world_in held) number) asking'.had goes');
          over = λ ended.
              ap (λ x. is_over x number) (world_is node setups entries stops)
              ∙ over_by step answer (did_is reply replied answer is) (ends_last step.call (ap ends_task same_call ∙ sym over ∙ ended));
          asks = off;
        }

        pub keeps_waits : ((answer : Answer) → reply ≢ Did answer) → Keeps node number (record { task = task; want = Some (Ask asked line) })
        keeps_waits other = record {
          behaves = subst (λ g. Behaves task.code (setup_of g).program) (sym setups) asking'.behaves;
          had = λ goes'.
              subst (HasHad task) (sym (own_are node setups entries stops ∙ ap (λ o. answers_of (world_in held) number ++ list_of o) (none_is reply replied other) ∙ sym (append_nil (answers_of (world_in held) number)))) asking'.had;
          over = λ ended. absurd (let twice : true ≡ false = sym ended ∙ asking'.goes in cc twice);
          asks = (asking'.asked, asking'.asks);
        }
