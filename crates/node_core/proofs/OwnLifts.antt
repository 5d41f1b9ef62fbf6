-- The lifts of print, finish, init and finalize.
use Rattle.std.proofs.Common.{◌≡◌, ℕ, ℤ, Bool, true, false, List, [], slice_get, Option, Some, None, Result, OnErr, refl, sym, ap, subst, ◌∙◌, if◌then◌else◌}
use Rattle.mpc_values.specs.declared.values.Word.TheVariants.{Int}
use Rattle.mpc_values.specs.declared.answers.Answer.{Answer}
use Rattle.mpc_values.specs.declared.answers.Answer.TheVariants.{Done, Gives}
use Rattle.mpc_values.specs.declared.faults.Fault.{Fault}
use Rattle.mpc_values.specs.declared.faults.Fault.TheVariants.{NotInit, NoFinalize, LeakedRequest}
use Rattle.mpc_values.specs.declared.calls.Call.TheVariants as call
use Rattle.mpi_request.specs.declared.requests.Request.{Request}
use Rattle.run_model.specs.declared.progress.Phase.{Phase}
use Rattle.run_model.specs.declared.progress.Phase.TheVariants.{Before, Inside, After}
use Rattle.run_model.specs.Setup.{Setup}
use Rattle.run_model.specs.World.{Core}
use Rattle.run_model.specs.Outcomes.{Does, Fails, on_part, state_of, requests_at, requests_of, is_inside}
use Rattle.run_model.specs.TaskCalls.{printed, print, finish, begun, init, has_active, with_phase, finalize}
use Rattle.run_model.specs.Act.{act}
use Rattle.node_core.specs.declared.parts.OwnPart.{OwnPart}
use Rattle.node_core.specs.declared.parts.Shared.{Shared}
use Rattle.node_core.specs.Seen.{partly_seen, finished, finalized}
use Rattle.node_core.specs.Built.{out_of}
use Rattle.node_core.specs.Stands.{NoRequests, Serves, Follows}
use Rattle.node_core.proofs.Lifts.{outcome_of, on_err, follows_same, follows_own}

finish_is : (core : Core) (phase : Phase) (code : ℤ) → (if is_inside phase then Fails NoFinalize else Does (Gives (Int code)) core) ≡ outcome_of core (finished phase code)
finish_is core Before code = refl
finish_is core Inside code = refl
finish_is core After code = refl

requests_none : (requests : List (List Request)) (o : Option (List Request)) (task : ℕ) → NoRequests requests → slice_get requests task ≡ o → requests_at o ≡ []
requests_none requests None task none at = refl
requests_none requests (Some own) task none at = none task own at

finalize_is : (core : Core) (task : ℕ) (phase : Phase) (active : Bool)
    → (if is_inside phase then (if active then Fails LeakedRequest else Does Done (with_phase core task After)) else Fails NotInit) ≡ on_part (with_phase core task) (finalized phase active)
finalize_is core task Before active = refl
finalize_is core task Inside true = refl
finalize_is core task Inside false = refl
finalize_is core task After active = refl

module _ (setup : Setup) (core : Core) (task : ℕ) (shared : Shared) (own : OwnPart) (s : Serves core task shared own) (did : Result Answer Fault) where
  pub print_lifts : (own' : OwnPart) (text : List ℕ) → own'.phase ≡ own.phase → partly_seen own'.output.items did ≡ printed own.output.items text
      → OnErr did (own'.output.items ≡ own.output.items) → Follows core task shared own' (out_of did) (act setup core task (call.Print text))
  unfolding act print
  print_lifts own' text phase e same =
      follows_own core task shared own own' (λ output. record (state_of core task) { output = output }) own'.output.items did (printed (state_of core task).output text) s
      (e ∙ ap (λ o. printed o text) (sym s.mine.output)) (record { output = refl; phase = s.mine.phase ∙ sym phase }) refl
      (on_err did (λ o. record { output = s.mine.output ∙ sym o; phase = s.mine.phase ∙ sym phase }) same)

  pub finish_lifts : (code : ℤ) → did ≡ finished own.phase code → Follows core task shared own (out_of did) (act setup core task (call.Finish code))
  unfolding act finish
  finish_lifts code e =
      follows_same core task shared own did (finish core task code) s (finish_is core (state_of core task).phase code ∙ ap (λ p. outcome_of core (finished p code)) s.mine.phase ∙ ap (outcome_of core) (sym e))

  pub init_lifts : (own' : OwnPart) → own'.output.items ≡ own.output.items → partly_seen own'.phase did ≡ begun own.phase
      → OnErr did (own'.phase ≡ own.phase) → Follows core task shared own' (out_of did) (act setup core task call.Init)
  unfolding act init
  init_lifts own' output e same =
      follows_own core task shared own own' (λ phase. record (state_of core task) { phase = phase }) own'.phase did (begun (state_of core task).phase) s
      (e ∙ ap begun (sym s.mine.phase)) (record { output = s.mine.output ∙ sym output; phase = refl }) refl
      (on_err did (λ p. record { output = s.mine.output ∙ sym output; phase = s.mine.phase ∙ sym p }) same)

  pub finalize_lifts : (own' : OwnPart) → own'.output.items ≡ own.output.items → partly_seen own'.phase did ≡ finalized own.phase false
      → OnErr did (own'.phase ≡ own.phase) → Follows core task shared own' (out_of did) (act setup core task call.Finalize)
  unfolding act finalize
  finalize_lifts own' output e same =
      let none : requests_of core task ≡ [] = requests_none core.requests (slice_get core.requests task) task s.all.met.requests refl in
      subst (λ o. Follows core task shared own' (out_of did) o)
      (sym (finalize_is core task (state_of core task).phase (has_active (requests_of core task)) ∙ ap (λ rs. on_part (with_phase core task) (finalized (state_of core task).phase (has_active rs))) none))
      (follows_own core task shared own own' (λ phase. record (state_of core task) { phase = phase }) own'.phase did (finalized (state_of core task).phase false) s
      (e ∙ ap (λ p. finalized p false) (sym s.mine.phase)) (record { output = s.mine.output ∙ sym output; phase = refl }) refl
      (on_err did (λ p. record { output = s.mine.output ∙ sym output; phase = s.mine.phase ∙ sym p }) same))
