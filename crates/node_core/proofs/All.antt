-- From the part of one task to the parts of all.
use Rattle.std.proofs.Common.{◌≡◌, ◌<◌, ℕ, List, length, slice_get, slice_set, Some, refl, sym, ap, subst, arith}
use Rattle.std.proofs.lemmas.Option.{slice_get_within}
use Rattle.mpc_base.specs.declared.journals.Out.{Out}
use Rattle.mpc_base.specs.declared.journals.Out.TheVariants.{Waits, Did, Broke}
use Rattle.run_model.specs.World.{TaskState, Core}
use Rattle.run_model.specs.Outcomes.{Outcome, Does, Fails, state_of, state_at}
use Rattle.run_model.specs.Outcomes.{Waits as Stays}
use Rattle.node_core.specs.declared.parts.TaskPart.{TaskPart}
use Rattle.node_core.specs.declared.parts.Shared.{Shared}
use Rattle.mem_space.specs.Spaces.{Space}
use Rattle.mem_space.specs.Places.{IsAsBefore}
use Rattle.node_core.specs.Each.{Each}
use Rattle.node_core.specs.Stands.{OwnStands, PartStands, Serves, Leaves, Follows, CoreStands}
use Rattle.node_core.specs.declared.parts.State.{State}
use Rattle.node_core.specs.Steps.{SamePart, SameState}
use Rattle.node_core.proofs.Places.{get_there, set_same, set_state_same, each_set, each_same}

-- the parts of all tasks after a call, with what became of it, are what the call comes to
abbrev pub FollowsAll : Core → Shared → List TaskPart → Out → Outcome → Type 0
FollowsAll core shared parts (Did answer) outcome = (after : Core) × (outcome ≡ Does answer after) × CoreStands after shared parts
FollowsAll core shared parts (Broke fault) outcome = (outcome ≡ Fails fault) × CoreStands core shared parts
FollowsAll core shared parts Waits outcome = (outcome ≡ Stays) × CoreStands core shared parts

module _ (core : Core) (shared : Shared) (parts : List TaskPart) (task : ℕ) (part : TaskPart) (all : CoreStands core shared parts) (at : slice_get parts task ≡ Some part) where
  there : task < length core.tasks
  there = let h : task < length parts = slice_get_within parts task part at in let e = all.tasks.same in omega arith

  pub serves_of : Serves core task shared part.own
  serves_of =
      let (state, here) = get_there core.tasks task there in
      record { there = there; mine = subst (λ (x : TaskState). OwnStands x part.own) (sym (ap state_at here)) (all.tasks.at task state part here at); all = all.all }

  all_set : (after : Core) (shared' : Shared) (part' : TaskPart) → Leaves core after task shared' part'.own → CoreStands after shared' (slice_set parts task part')
  all_set after shared' part' leaves = record {
    tasks = subst (λ ts. Each PartStands ts (slice_set parts task part')) (sym leaves.others) (each_set PartStands core.tasks parts task (state_of after task) part' all.tasks leaves.serves.mine);
    all = leaves.serves.all;
  }

  all_own : (shared' : Shared) (part' : TaskPart) → Serves core task shared' part'.own → CoreStands core shared' (slice_set parts task part')
  all_own shared' part' s = all_set core shared' part' (record { serves = s; others = sym (set_state_same core task there) })

  pub follows_all : (shared' : Shared) (part' : TaskPart) (out : Out) (outcome : Outcome) → Follows core task shared' part'.own out outcome → FollowsAll core shared' (slice_set parts task part') out outcome
  follows_all shared' part' (Did answer) outcome f = (f.0, f.1, all_set f.0 shared' part' f.2)
  follows_all shared' part' (Broke fault) outcome f = (f.0, all_own shared' part' f.1)
  follows_all shared' part' Waits outcome f = (f.0, all_own shared' part' f.1)

same_part : (x : TaskPart) → SamePart x x
same_part x = record { own = record { output = refl; phase = refl }; course = refl }

-- one part that is as it was, with all others
pub parts_same : (parts : List TaskPart) (task : ℕ) (part part' : TaskPart) → slice_get parts task ≡ Some part → SamePart part part' → Each SamePart parts (slice_set parts task part')
parts_same parts task part part' at same =
    subst (λ ps. Each SamePart ps (slice_set parts task part')) (set_same parts task part at) (each_set SamePart parts parts task part part' (each_same SamePart parts same_part) same)

-- a space is as it is
pub same_space : (s : Space) → IsAsBefore s s
same_space s = record {
  places = record { rows = refl; cells = λ p. refl; end = omega arith; copies = refl };
  objects = λ owner obj. refl;
  sharing = refl;
  quota = refl;
  made = refl;
}

-- a state is as it is
pub same_state : (s : State) → SameState s s
same_state s = record { tasks = each_same SamePart s.tasks.items same_part; shared = record { space = same_space s.shared.space; comms = refl }; last = refl }
