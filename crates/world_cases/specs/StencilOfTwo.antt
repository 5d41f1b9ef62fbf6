-- A user's program, whole, on two ranks by the run of one task after the other.
use Rattle.std.specs.Prelude.{◌≡◌, ℕ, List, [], ◌∷◌, map}
use Rattle.run_model.specs.Setup.{Setup}
use Rattle.std.specs.Prelude.{codes}
use Rattle.run_model.specs.World.{TaskState}
use Rattle.run_model.specs.Run.{run}
use Rattle.mpc_base.specs.declared.picks.Picks.TheVariants.{RoundRobin}
use Rattle.run_model.specs.Choice.{choice}
use Rattle.world_cases.specs.Stencil.{program}

-- what each rank printed
abbrev pub outputs : Setup → List (List ℕ)
outputs setup = map (λ (t : TaskState). t.output) (run setup (choice setup RoundRobin)).world.core.tasks

pub record StencilOfTwo : Type 0 where
  pub two_ranks : outputs (program 2) ≡
      codes "sweep 1: sum 16, first 1\nsweep 2: sum 64, first 5\n"
      ∷ codes "sweep 1: sum 16, first 3\nsweep 2: sum 64, first 11\n" ∷ []
