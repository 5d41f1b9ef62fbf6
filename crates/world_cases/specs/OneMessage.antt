-- One message of a run, by the relations that say what holds of all: it is met in the match of entry 19, and what it carries is
-- what was sent with entry 12.
use Rattle.std.specs.Prelude.{false, ◌≡◌, ℕ, pos, List, [], ◌∷◌}
use Rattle.run_model.specs.Setup.{Setup}
use Rattle.run_model.specs.Scenes.{private, int, flat, at, W}
use Rattle.c_tree.specs.declared.mpi.MpiFunction.TheVariants as mpi
use Rattle.c_tree.specs.Programs as p
use Rattle.run_model.specs.Run.{run}
use Rattle.mpc_base.specs.declared.picks.Picks.TheVariants.{RoundRobin}
use Rattle.run_model.specs.Choice.{choice}
use Rattle.world_cases.specs.Frames as f
use Rattle.mpc_values.specs.declared.calls.Call.TheVariants as call
use Rattle.mpc_values.specs.declared.values.Datatype.TheVariants as datatype
use Rattle.mpc_base.specs.declared.journals.Entry.{Entry}
use Rattle.mpc_values.specs.declared.answers.Answer.TheVariants.{Posted}
use Rattle.mpc_base.specs.declared.journals.Out.TheVariants.{Did}
use Rattle.run_model.specs.Run.{LegalRun}
use Rattle.run_model.specs.Matches.{IsMatch, IsPosted, world_before}
use Rattle.run_model.specs.Orderly.{words_from}

-- `MPI_Send(&a, 1, MPI_INT, 1 - r, 0, W); MPI_Recv(&b, 1, MPI_INT, 1 - r, 0, W, &s); printf("%d\n", b);`
abbrev pub body : List p.Stmt
body =
    f.calls 9 mpi.Send (f.word (at 0 0) ∷ f.num 1 ∷ f.minus (f.num 1) (f.load f.r) ∷ f.num 0 ∷ f.word W ∷ [])
    ∷ f.calls 9 mpi.Recv (f.word (at 1 0) ∷ f.num 1 ∷ f.minus (f.num 1) (f.load f.r) ∷ f.num 0 ∷ f.word W ∷ f.s ∷ [])
    ∷ f.prints 9 (f.load (f.word (at 1 0)))
    ∷ []

-- `int a = 7; int b;`
abbrev pub exchange : ℕ → Setup
exchange eager = record (flat 2 []) { program = f.frame (private (int 7 ∷ []) ∷ private (int 0 ∷ []) ∷ []) body; eager = eager }

-- the entries of the run of one task after the other
abbrev pub entries : List Entry
entries = (run (exchange 1024) (choice (exchange 1024) RoundRobin)).entries

abbrev pub posting : ℕ → ℕ → ℕ → ℕ → ℕ → ℕ → ℕ → Entry
posting task call req post met words line = record { task = task; line = line; call = call; out = Did (Posted req post met words) }

pub record OneMessage : Type 0 where
  pub legal : LegalRun (exchange 1024) (record { tasks = 2; entries = entries })
  pub is_match : IsMatch entries 19 4 1 1
  pub sent : IsPosted (exchange 1024) entries 12 1 0 (call.Send (at 0 0) (pos 1) datatype.Int (pos 1) (pos 0) W false)
  pub received : IsPosted (exchange 1024) entries 19 4 1 (call.Recv (at 1 0) (pos 1) datatype.Int (pos 0) (pos 0) W)
  pub whole : words_from (exchange 1024) (world_before (exchange 1024) entries 20) 1 (at 1 0) 1 ≡ words_from (exchange 1024) (world_before (exchange 1024) entries 12) 0 (at 0 0) 1
