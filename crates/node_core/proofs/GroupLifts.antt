-- The lifts of rank, size and abort.
use Rattle.std.proofs.Common.{◌≡◌, ℕ, ℤ, Option, Some, None, Result, refl, sym, ap, ◌∙◌, if◌then◌else◌}
use Rattle.std.specs.Option.{option_map}
use Rattle.mpc_values.specs.declared.values.Word.{Word}
use Rattle.mpc_values.specs.declared.answers.Answer.{Answer}
use Rattle.mpc_values.specs.declared.faults.Fault.{Fault}
use Rattle.mpc_values.specs.declared.faults.Fault.TheVariants.{NotInit}
use Rattle.mpc_values.specs.declared.calls.Call.TheVariants as call
use Rattle.mpi_comm.specs.declared.communicators.View.{View}
use Rattle.mpi_comm.specs.Communicators.{Group, view_of, group_of}
use Rattle.run_model.specs.declared.progress.Phase.{Phase}
use Rattle.run_model.specs.declared.progress.Phase.TheVariants.{Before, Inside, After}
use Rattle.run_model.specs.Setup.{Setup}
use Rattle.run_model.specs.World.{Core}
use Rattle.run_model.specs.Outcomes.{Does, Fails, state_of, is_inside, in_found, in_group}
use Rattle.run_model.specs.TaskCalls.{rank, size, abort}
use Rattle.run_model.specs.Act.{act}
use Rattle.node_core.specs.declared.parts.OwnPart.{OwnPart}
use Rattle.node_core.specs.declared.parts.Shared.{Shared}
use Rattle.node_core.specs.CommsSeen.{view_seen}
use Rattle.node_core.specs.Seen.{answered, rank_answer, size_answer, code_answer}
use Rattle.node_core.specs.Built.{out_of}
use Rattle.node_core.specs.Stands.{Serves, Follows}
use Rattle.node_core.proofs.Members.{view_is}
use Rattle.node_core.proofs.Lifts.{outcome_of, follows_same}

member_is : (core : Core) (answer : View → Answer) (phase : Phase) (group : Option Group)
    → (if is_inside phase then in_found group (λ g. Does (answer (view_of g)) core) else Fails NotInit) ≡ outcome_of core (answered answer phase (option_map view_of group))
member_is core answer Before group = refl
member_is core answer Inside None = refl
member_is core answer Inside (Some group) = refl
member_is core answer After group = refl

module _ (setup : Setup) (core : Core) (task : ℕ) (shared : Shared) (own : OwnPart) (s : Serves core task shared own) (did : Result Answer Fault) (comm : Word) where
  member_lifts : (answer : View → Answer) → did ≡ answered answer own.phase (view_seen shared.matching.comms task comm)
      → Follows core task shared own (out_of did) (in_group core task comm (λ g. Does (answer (view_of g)) core))
  member_lifts answer e =
      follows_same core task shared own did (in_group core task comm (λ g. Does (answer (view_of g)) core)) s
      (member_is core answer (state_of core task).phase (group_of core.comms task comm)
      ∙ ap (λ p. outcome_of core (answered answer p (option_map view_of (group_of core.comms task comm)))) s.mine.phase
      ∙ ap (λ v. outcome_of core (answered answer own.phase v)) (view_is core.comms task comm)
      ∙ ap (λ cs. outcome_of core (answered answer own.phase (view_seen cs task comm))) s.all.met.comms
      ∙ ap (outcome_of core) (sym e))

  pub rank_lifts : did ≡ answered rank_answer own.phase (view_seen shared.matching.comms task comm) → Follows core task shared own (out_of did) (act setup core task (call.Rank comm))
  unfolding act rank
  rank_lifts e = member_lifts rank_answer e

  pub size_lifts : did ≡ answered size_answer own.phase (view_seen shared.matching.comms task comm) → Follows core task shared own (out_of did) (act setup core task (call.Size comm))
  unfolding act size
  size_lifts e = member_lifts size_answer e

  pub abort_lifts : (code : ℤ) → did ≡ answered (code_answer code) own.phase (view_seen shared.matching.comms task comm) → Follows core task shared own (out_of did) (act setup core task (call.Abort comm code))
  unfolding act abort
  abort_lifts code e = member_lifts (code_answer code) e
