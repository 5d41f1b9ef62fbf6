-- Communicators are split, duplicated and freed, from the first entry to the last.
use Rattle.std.specs.Prelude.{ℕ, ℤ, pos, negsuc, List, [], ◌∷◌, ◌++◌, flat_map, codes}
use Rattle.std.specs.List.{range_with_len}
use Rattle.mpc_values.specs.declared.values.Word.TheVariants.{Comm}
use Rattle.mpc_values.specs.declared.calls.Call.TheVariants as call
use Rattle.mpc_values.specs.declared.collectives.Coll.{Coll}
use Rattle.mpc_values.specs.declared.collectives.CollKind.TheVariants as what
use Rattle.run_model.specs.Setup.{Setup}
use Rattle.run_model.specs.Played.{Line, asks, Goes}
use Rattle.run_model.specs.Scenes.{private, int, flat, at, made, W, send, send_on, recv, recv_on, plain, done, gives, waits}
use Rattle.world_cases.specs.Framed.{opens, closes, rank, value, sets, prints, sends, receives}

-- Five tasks. Line 9 is `MPI_Comm d; int k, n; MPI_Comm_split(MPI_COMM_WORLD, r == 3 ? MPI_UNDEFINED : r % 2, r == 0 ? 5 : 0, &d);`
-- `if (d == MPI_COMM_NULL) printf("none\n"); else { MPI_Comm_rank(d, &k); MPI_Comm_size(d, &n); printf("%d of %d\n", k, n); }`
abbrev pub five : Setup
five = flat 5 []

-- a split with this colour and key, and the same for all
abbrev pub split : ℤ → ℤ → Coll
split colour key = record (plain what.Split W) { colour = colour; key = key }

-- the locals d, k and n, and r as often as the arguments read it
abbrev pub arrives : ℕ → ℕ → ℤ → ℤ → List Line
arrives task reads colour key =
    opens task
    ++ asks task (call.New 1) 9 (gives (made 3 0)) ∷ asks task (call.New 1) 9 (gives (made 4 0)) ∷ asks task (call.New 1) 9 (gives (made 5 0))
    ∷ (flat_map (λ (i : ℕ). rank task 9 ∷ []) (range_with_len 0 reads) ++ asks task (call.Arrive (split colour key)) 9 done ∷ [])

-- the new communicator is stored in d, and compared
abbrev pub gets : ℕ → ℕ → List Line
gets task comm =
    asks task (call.Leave W) 9 (gives (Comm comm))
    ∷ asks task (call.Store (made 3 0) (Comm comm)) 9 done
    ∷ asks task (call.Load (made 3 0)) 9 (gives (Comm comm))
    ∷ []

abbrev pub ends : ℕ → List Line
ends task = closes task 10 (5 ∷ 4 ∷ 3 ∷ 2 ∷ 1 ∷ [])

-- a member's rank and size are asked, stored, loaded and printed
abbrev pub tells : ℕ → ℕ → ℕ → ℕ → List ℕ → List Line
tells task comm k n text =
    gets task comm
    ++ asks task (call.Load (made 3 0)) 9 (gives (Comm comm)) ∷ asks task (call.Rank (Comm comm)) 9 (gives (int k)) ∷ sets task 9 (made 4 0) k
    ∷ asks task (call.Load (made 3 0)) 9 (gives (Comm comm)) ∷ asks task (call.Size (Comm comm)) 9 (gives (int n)) ∷ sets task 9 (made 5 0) n
    ∷ value task 9 (made 4 0) k ∷ value task 9 (made 5 0) n ∷ prints task 9 text ∷ ends task

abbrev pub of_five : List Line
of_five =
    arrives 0 3 (pos 0) (pos 5) ++ (asks 0 (call.Leave W) 9 waits
    ∷ (arrives 1 3 (pos 1) (pos 0) ++ (arrives 2 3 (pos 0) (pos 0) ++ (arrives 3 2 (negsuc 2) (pos 0) ++ (arrives 4 3 (pos 0) (pos 0)
    ++ (tells 0 2 2 3 (codes "2 of 3\n") ++ (tells 1 3 0 1 (codes "0 of 1\n") ++ (tells 2 2 0 3 (codes "0 of 3\n")
    ++ (gets 3 0 ++ prints 3 9 (codes "none\n") ∷ (ends 3
    ++ tells 4 2 1 3 (codes "1 of 3\n")))))))))))

-- `int a; int b; int c;`, two tasks. Line 9 is `MPI_Comm d; MPI_Comm_dup(MPI_COMM_WORLD, &d);`. On line 10 rank 0 sets a to 1, sends
-- it on d, sets a to 2 and sends it on MPI_COMM_WORLD, both with tag 0; rank 1 receives into b on MPI_COMM_WORLD and into c on d,
-- and prints both. Line 11 is `MPI_Comm_free(&d);`.
abbrev pub two : Setup
two = flat 2 (private (int 0 ∷ []) ∷ private (int 0 ∷ []) ∷ private (int 0 ∷ []) ∷ [])

abbrev pub duplicates : ℕ → List Line
duplicates task = opens task ++ asks task (call.New 1) 9 (gives (made 3 0)) ∷ asks task (call.Arrive (plain what.Dup W)) 9 done ∷ []

abbrev pub has_d : ℕ → List Line
has_d task = asks task (call.Leave W) 9 (gives (Comm 2)) ∷ asks task (call.Store (made 3 0) (Comm 2)) 9 done ∷ rank task 10 ∷ []

abbrev pub d : ℕ → ℕ → Line
d task line = asks task (call.Load (made 3 0)) line (gives (Comm 2))

abbrev pub frees : ℕ → List Line
frees task = asks task (call.Leave (Comm 2)) 11 done ∷ asks task (call.Store (made 3 0) (Comm 0)) 11 done ∷ closes task 12 (3 ∷ 2 ∷ 1 ∷ [])

abbrev pub apart : List Line
apart =
    duplicates 0 ++ (duplicates 1 ++ (has_d 0 ++ (has_d 1
    ++ sets 0 10 (at 0 0) 1 ∷ d 0 10
    ∷ (sends 0 10 (send_on (Comm 2) (at 0 0) 1 (pos 1) 0) 1 1 0 0
    ++ sets 0 10 (at 0 0) 2
    ∷ (sends 0 10 (send (at 0 0) 1 (pos 1) 0) 2 2 0 0
    ++ (receives 1 10 (recv (at 1 0) 1 (pos 0) (pos 0)) 1 3 2 1 (pos 0) (pos 0)
    ++ d 1 10
    ∷ (receives 1 10 (recv_on (Comm 2) (at 2 0) 1 (pos 0) (pos 0)) 2 4 1 1 (pos 0) (pos 0)
    ++ value 1 10 (at 1 0) 2 ∷ value 1 10 (at 2 0) 1 ∷ prints 1 10 (codes "2 1\n")
    ∷ d 0 11 ∷ asks 0 (call.Arrive (plain what.Free (Comm 2))) 11 done
    ∷ d 1 11 ∷ asks 1 (call.Arrive (plain what.Free (Comm 2))) 11 done
    ∷ (frees 0 ++ frees 1))))))))

pub record Splits : Type 0 where
  pub two_colours : Goes five of_five
  pub duplicate_is_apart : Goes two apart
