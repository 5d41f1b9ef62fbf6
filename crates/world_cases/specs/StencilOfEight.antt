-- A user's program, whole, on eight ranks: some 25 s and 3.6 GB by the run of one task after the other.
use Rattle.std.specs.Prelude.{◌≡◌, ℕ, List, [], ◌∷◌, map}
use Rattle.run_model.specs.Setup.{Setup}
use Rattle.std.specs.Prelude.{codes}
use Rattle.run_model.specs.World.{TaskState}
use Rattle.run_model.specs.Run.{run}
use Rattle.mpc_base.specs.declared.picks.Picks.TheVariants.{RoundRobin}
use Rattle.run_model.specs.Choice.{choice}
use Rattle.world_cases.specs.Stencil.{program}

-- what each rank printed
abbrev pub outputs : Setup → List (List ℕ)
outputs setup = map (λ (t : TaskState). t.output) (run setup (choice setup RoundRobin)).world.core.tasks

pub record StencilOfEight : Type 0 where
  pub eight_ranks : outputs (program 8) ≡
      codes "sweep 1: sum 448, first 7\nsweep 2: sum 1792, first 35\n"
      ∷ codes "sweep 1: sum 448, first 3\nsweep 2: sum 1792, first 11\n"
      ∷ codes "sweep 1: sum 448, first 7\nsweep 2: sum 1792, first 27\n"
      ∷ codes "sweep 1: sum 448, first 11\nsweep 2: sum 1792, first 43\n"
      ∷ codes "sweep 1: sum 448, first 15\nsweep 2: sum 1792, first 59\n"
      ∷ codes "sweep 1: sum 448, first 19\nsweep 2: sum 1792, first 75\n"
      ∷ codes "sweep 1: sum 448, first 23\nsweep 2: sum 1792, first 91\n"
      ∷ codes "sweep 1: sum 448, first 27\nsweep 2: sum 1792, first 107\n" ∷ []
