-- The parts of a task at the start.
use Rattle.std.specs.Prelude.{◌≡◌, []}
use Rattle.run_model.specs.declared.progress.Phase.TheVariants.{Before}
use Rattle.run_model.specs.Start.{first_course}
use Rattle.node_core.specs.declared.parts.TaskPart.{TaskPart}

-- the part is that of a task which has done nothing
pub record IsFirst (part : TaskPart) : Type 0 where
  pub output : part.own.output.items ≡ []
  pub phase : part.own.phase ≡ Before
  pub course : part.course ≡ first_course
