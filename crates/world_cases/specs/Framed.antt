-- Runs of whole programs, entry by entry, whose main has a rank r and a status s around some statements:
--
--     int main(int argc, char **argv) {                        (line 4)
--       int r;
--       MPI_Status s;
--       MPI_Init(&argc, &argv);
--       MPI_Comm_rank(MPI_COMM_WORLD, &r);
--       ..                                                     (from line 9)
--       MPI_Finalize();
--       return 0;
--     }
use Rattle.std.specs.Prelude.{ℕ, ℤ, pos, ◌+◌, List, [], ◌∷◌, ◌++◌, map, length}
use Rattle.mpc_values.specs.declared.values.Word.{Word}
use Rattle.mpc_values.specs.declared.values.Word.TheVariants.{Int, Req}
use Rattle.mpc_values.specs.declared.values.Obj.TheVariants.{Dyn}
use Rattle.mpc_values.specs.declared.calls.Call.{Call}
use Rattle.mpc_values.specs.declared.calls.Call.TheVariants as call
use Rattle.run_model.specs.Played.{Line, asks}
use Rattle.run_model.specs.Scenes.{int, made, W, done, gives, got, got_nothing, posted}

-- the places of r and of s
abbrev pub r : Word
r = made 1 0

abbrev pub s : ℕ → Word
s field = made 2 field

-- the entries of a task before the statements: r, s, MPI_Init, and MPI_Comm_rank
abbrev pub opens : ℕ → List Line
opens task =
    asks task (call.New 1) 5 (gives (made 1 0))
    ∷ asks task (call.New 3) 6 (gives (made 2 0))
    ∷ asks task call.Init 7 done
    ∷ asks task (call.Rank W) 8 (gives (int task))
    ∷ asks task (call.Store r (int task)) 8 done
    ∷ []

-- so many locals in memory are dropped, the latest first, from the one of a number on
abbrev pub drops : ℕ → ℕ → List ℕ → List Line
drops task line objects = map (λ object. asks task (call.Drop (Dyn object)) line done) objects

-- the entries of a task after the statements, MPI_Finalize being on this line, where it has these locals in memory
abbrev pub closes : ℕ → ℕ → List ℕ → List Line
closes task line objects =
    asks task call.Finalize line done
    ∷ (drops task (line + 1) objects ++ asks task (call.Finish (pos 0)) (line + 1) (gives (int 0)) ∷ [])

-- the same with no other locals in memory than r and s
abbrev pub closes_plain : ℕ → ℕ → List Line
closes_plain task line = closes task line (2 ∷ 1 ∷ [])

-- the value of r, and of another place
abbrev pub rank : ℕ → ℕ → Line
rank task line = asks task (call.Load r) line (gives (int task))

abbrev pub value : ℕ → ℕ → Word → ℕ → Line
value task line place n = asks task (call.Load place) line (gives (int n))

abbrev pub sets : ℕ → ℕ → Word → ℕ → Line
sets task line place n = asks task (call.Store place (int n)) line done

-- the three stores of a status
abbrev pub stores_status : ℕ → ℕ → ℤ → ℤ → ℕ → List Line
stores_status task line source tag count =
    asks task (call.Store (s 0) (Int source)) line done
    ∷ asks task (call.Store (s 1) (Int tag)) line done
    ∷ asks task (call.Store (s 2) (int count)) line done
    ∷ []

-- printed text
abbrev pub prints : ℕ → ℕ → List ℕ → Line
prints task line text = asks task (call.Print text) line (gives (int (length text)))

-- a send that is complete at once: its request, its number, its partner and the words that it moved
abbrev pub sends : ℕ → ℕ → Call → ℕ → ℕ → ℕ → ℕ → List Line
sends task line c req post met words =
    asks task c line (posted req post met words) ∷ asks task (call.Complete (Req req)) line got_nothing ∷ []

-- a receive that has its partner: its request, its number, its partner, the words that came, and the status
abbrev pub receives : ℕ → ℕ → Call → ℕ → ℕ → ℕ → ℕ → ℤ → ℤ → List Line
receives task line c req post met words source tag =
    asks task c line (posted req post met words)
    ∷ asks task (call.Complete (Req req)) line (got source tag words)
    ∷ stores_status task line source tag words
