-- What the node does to the parts of one call is what the call comes to in every core that they stand for.
use Rattle.std.proofs.Common.{◌≡◌, ◌<◌, inl, inr, ℕ, length, slice_get, slice_set, Some, Result, Ok, Err, OnErr, sym, ap, subst, ◌∙◌}
use Rattle.mpc_values.specs.declared.answers.Answer.{Answer}
use Rattle.mpc_values.specs.declared.faults.Fault.{Fault}
use Rattle.run_model.specs.World.{TaskState, Core}
use Rattle.run_model.specs.Outcomes.{Outcome, Does, Fails, Partly, on_part, state_of, state_at, with_state}
use Rattle.node_core.specs.declared.parts.OwnPart.{OwnPart}
use Rattle.node_core.specs.declared.parts.Shared.{Shared}
use Rattle.mem_space.specs.Spaces.{made_in}
use Rattle.node_core.specs.Seen.{partly_seen}
use Rattle.node_core.specs.Built.{out_of}
use Rattle.node_core.specs.Stands.{OwnStands, SharedStands, Serves, Leaves, Follows}
use Rattle.node_core.proofs.Places.{get_set_other, length_set, get_there, state_of-with, set_state_same, same_or_other, set_at}

-- the outcome of a call that changes nothing
abbrev pub outcome_of : Core → Result Answer Fault → Outcome
outcome_of core (Ok answer) = Does answer core
outcome_of core (Err fault) = Fails fault

pub always : {X : Type 0} (did : Result Answer Fault) → X → OnErr did X
always (Ok answer) x = tt
always (Err fault) x = x

pub on_err : {X : Type 0} {Y : Type 0} (did : Result Answer Fault) → (X → Y) → OnErr did X → OnErr did Y
on_err (Ok answer) f h = tt
on_err (Err fault) f h = f h

-- a call that changed nothing
pub follows_same : (core : Core) (task : ℕ) (shared : Shared) (own : OwnPart) (did : Result Answer Fault) (outcome : Outcome) → Serves core task shared own
    → outcome ≡ outcome_of core did → Follows core task shared own (out_of did) outcome
follows_same core task shared own (Ok answer) outcome s e = (core, e, record { serves = s; others = sym (set_state_same core task s.there) })
follows_same core task shared own (Err fault) outcome s e = (e, s)

pub state_there : (core : Core) (task : ℕ) → task < length core.tasks → slice_get core.tasks task ≡ Some (state_of core task)
state_there core task there =
    let (state, at) = get_there core.tasks task there in
    at ∙ ap Some (sym (ap state_at at))

-- what tasks share does not look at what a task keeps for itself
shared_with : (core : Core) (task : ℕ) (shared : Shared) (state : TaskState) → task < length core.tasks → state.made ≡ (state_of core task).made → SharedStands core shared → SharedStands (with_state core task state) shared
shared_with core task shared state there made all = record {
  space = record {
    memory = all.space.memory;
    made = λ i x at.
        elim (same_or_other i task) [
          | inl same ↦ ap (λ (t : TaskState). t.made) (sym (set_at core.tasks task i state x same at)) ∙ made
              ∙ all.space.made task (state_of core task) (state_there core task there) ∙ ap (made_in shared.space) (sym same)
          | inr other ↦ all.space.made i x (sym (get_set_other core.tasks task i state other) ∙ at)
        ];
    marks = all.space.marks;
  };
  met = record { comms = all.met.comms; requests = all.met.requests; postings = all.met.postings; carried = all.met.carried; arrivals = all.met.arrivals };
  visits = all.visits;
  exits = all.exits;
}

-- a call that changed the task's own part
pub leaves_own : (core : Core) (task : ℕ) (shared : Shared) (own own' : OwnPart) (state : TaskState) → Serves core task shared own → OwnStands state own'
    → state.made ≡ (state_of core task).made → Leaves core (with_state core task state) task shared own'
leaves_own core task shared own own' state s mine made =
    let there : task < length (slice_set core.tasks task state) = subst (λ n. task < n) (sym (length_set core.tasks task state)) s.there in
    record {
      serves = record {
        there = there;
        mine = subst (λ (x : TaskState). OwnStands x own') (sym (state_of-with core task state s.there)) mine;
        all = shared_with core task shared state s.there made s.all;
      };
      others = ap (slice_set core.tasks task) (sym (state_of-with core task state s.there));
    }

pub follows_own : {A : Type 0} (core : Core) (task : ℕ) (shared : Shared) (own own' : OwnPart) (state : A → TaskState) (value : A) (did : Result Answer Fault) (p : Partly A)
    → Serves core task shared own → partly_seen value did ≡ p → OwnStands (state value) own' → (state value).made ≡ (state_of core task).made → OnErr did (OwnStands (state_of core task) own')
    → Follows core task shared own' (out_of did) (on_part (λ a. with_state core task (state a)) p)
follows_own core task shared own own' state value (Ok answer) p s e mine made same =
    (with_state core task (state value), ap (on_part (λ a. with_state core task (state a))) (sym e), leaves_own core task shared own own' (state value) s mine made)
follows_own core task shared own own' state value (Err fault) p s e mine made same =
    (ap (on_part (λ a. with_state core task (state a))) (sym e), record { there = s.there; mine = same; all = s.all })
