-- How far a run of one task can have come.
use Rattle.std.specs.Prelude.{◌≡◌, ◌≤◌, List, [], ◌∷◌, length, None}
use Rattle.mpc_values.specs.declared.answers.Answer.{Answer}
use Rattle.serial_memory.specs.Names.{NamesAreLeft}
use Rattle.serial_model.specs.World.{TaskState}
use Rattle.serial_model.specs.Go.{calls_limit, objects_of}
use Rattle.serial_model.specs.Run.{Ran}

-- A run of one task: its entries are counted, it has made no more objects than entries, nothing lives under a name that
-- it has not given yet, and while it has not ended by a fault it has at most the entries that are allowed.
pub record Bounded (r : Ran) : Type 0 where
  pub state : TaskState
  pub answers : List Answer
  pub tasks : r.world.tasks ≡ state ∷ []
  pub counts : r.world.counts ≡ length r.entries ∷ []
  pub replies : r.world.answers ≡ answers ∷ []
  pub made : state.made ≤ length r.entries
  pub names : NamesAreLeft 0 (objects_of r.world.memory state)
  pub few : r.world.last ≡ None → length r.entries ≤ calls_limit
