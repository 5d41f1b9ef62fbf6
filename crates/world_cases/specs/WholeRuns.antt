-- Whole programs on two tasks, from the start to the end of the run: two ranks send `a` to each other, receive into `b`, and
-- print it, all on line 9.
use Rattle.std.specs.Prelude.{◌≡◌, ℕ, pos, List, [], ◌∷◌}
use Rattle.mpc_values.specs.declared.values.Word.{Word}
use Rattle.mpc_base.specs.declared.journals.End.TheVariants as end
use Rattle.run_model.specs.Setup.{Setup}
use Rattle.run_model.specs.Ending.{ending}
use Rattle.run_model.specs.Scenes.{private, int, flat, at, W}
use Rattle.std.specs.Prelude.{codes}
use Rattle.c_tree.specs.declared.mpi.MpiFunction.TheVariants as mpi
use Rattle.c_tree.specs.Programs as p
use Rattle.run_model.specs.World.{World}
use Rattle.run_model.specs.Run.{run}
use Rattle.mpc_base.specs.declared.picks.Picks.TheVariants.{RoundRobin}
use Rattle.run_model.specs.Choice.{choice}
use Rattle.mpc_base.specs.declared.journals.RankState.{RankState}
use Rattle.mpc_base.specs.declared.journals.RankState.TheVariants.{Exit, Blocked}
use Rattle.mpc_base.specs.declared.journals.RankEnd.{RankEnd}
use Rattle.run_model.specs.Ranks.{rank_ends}
use Rattle.world_cases.specs.Frames as f

-- `MPI_Send(&a, 1, MPI_INT, 1 - r, 0, W); MPI_Recv(&b, 1, MPI_INT, 1 - r, 0, W, &s); printf("%d\n", b);`
abbrev pub body : ℕ → List p.Stmt
body count =
    f.calls 9 mpi.Send (f.word (at 0 0) ∷ f.num count ∷ f.minus (f.num 1) (f.load f.r) ∷ f.num 0 ∷ f.word W ∷ [])
    ∷ f.calls 9 mpi.Recv (f.word (at 1 0) ∷ f.num count ∷ f.minus (f.num 1) (f.load f.r) ∷ f.num 0 ∷ f.word W ∷ f.s ∷ [])
    ∷ f.prints 9 (f.load (f.word (at 1 0)))
    ∷ []

-- `int a = 7; int b;`
abbrev pub exchange : ℕ → Setup
exchange eager = record (flat 2 []) { program = f.frame (private (int 7 ∷ []) ∷ private (int 0 ∷ []) ∷ []) (body 1); eager = eager }

-- the world at the end of the run of one task after the other
abbrev pub last : Setup → World
last setup = (run setup (choice setup RoundRobin)).world

abbrev pub ends : RankState → List ℕ → RankEnd
ends state output = record { state = state; output = output }

-- the same of the first words of `int a[5]; int b[5];`, with the bound 4: of 4 words it finishes, and of 5 it is stuck
abbrev pub five : List Word
five = int 0 ∷ int 0 ∷ int 0 ∷ int 0 ∷ int 0 ∷ []

abbrev pub arrays : ℕ → Setup
arrays count = record (flat 2 []) { program = f.frame (private five ∷ private five ∷ []) (body count); eager = 4 }

pub record WholeRuns : Type 0 where
  pub both_print_seven : rank_ends (last (exchange 1024)) end.Finished ≡ ends (Exit (pos 0)) (codes "7\n") ∷ ends (Exit (pos 0)) (codes "7\n") ∷ []
  pub finished : ending (exchange 1024) (last (exchange 1024)) ≡ end.Finished
  -- without eager sends both are blocked in complete, number 17, on line 9
  pub stuck : ending (exchange 0) (last (exchange 0)) ≡ end.Stuck
  pub blocked : rank_ends (last (exchange 0)) end.Stuck ≡ ends (Blocked 17 9) [] ∷ ends (Blocked 17 9) [] ∷ []
  pub four_words : rank_ends (last (arrays 4)) end.Finished ≡ ends (Exit (pos 0)) (codes "0\n") ∷ ends (Exit (pos 0)) (codes "0\n") ∷ []
  pub five_words : ending (arrays 5) (last (arrays 5)) ≡ end.Stuck
