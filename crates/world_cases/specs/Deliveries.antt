-- Which message comes, and what of it, from the first entry to the last: by tag, by length, by datatype, and from nobody.
use Rattle.std.specs.Prelude.{pos, List, [], ◌∷◌, ◌++◌, replicate, codes}
use Rattle.mpc_values.specs.declared.values.Word.TheVariants.{Req, Null, Int}
use Rattle.mpc_values.specs.declared.values.Datatype.TheVariants as datatype
use Rattle.mpc_values.specs.declared.calls.Call.TheVariants as call
use Rattle.mpc_values.specs.declared.faults.Fault.TheVariants as fault
use Rattle.run_model.specs.Setup.{Setup}
use Rattle.run_model.specs.Played.{Line, asks, Goes}
use Rattle.run_model.specs.Scenes.{private, int, flat, at, made, W, send, recv, any_one, proc_null, done, gives, got_nothing, posted, broke}
use Rattle.world_cases.specs.Framed.{s, opens, closes, closes_plain, rank, value, sets, stores_status, prints, sends, receives}

-- `int a; int b;`. Line 9 is `if (r == 0) { a = 50; MPI_Send(&a, 1, MPI_INT, 1, 5, MPI_COMM_WORLD); a = 60;`
-- `MPI_Send(&a, 1, MPI_INT, 1, 6, MPI_COMM_WORLD); } else { MPI_Recv(&b, 1, MPI_INT, 0, 6, MPI_COMM_WORLD, &s);`
-- `printf("%d %d\n", b, s.MPI_TAG); MPI_Recv(&b, 1, MPI_INT, 0, MPI_ANY_TAG, MPI_COMM_WORLD, &s); printf(..the same..); }`
abbrev pub two : Setup
two = flat 2 (private (int 0 ∷ []) ∷ private (int 0 ∷ []) ∷ [])

abbrev pub by_tag : List Line
by_tag =
    opens 0 ++ (opens 1 ++ (
    rank 0 9
    ∷ sets 0 9 (at 0 0) 50
    ∷ (sends 0 9 (send (at 0 0) 1 (pos 1) 5) 1 1 0 0
    ++ sets 0 9 (at 0 0) 60
    ∷ (sends 0 9 (send (at 0 0) 1 (pos 1) 6) 2 2 0 0
    ++ (closes_plain 0 10
    ++ rank 1 9
    ∷ (receives 1 9 (recv (at 1 0) 1 (pos 0) (pos 6)) 1 3 2 1 (pos 0) (pos 6)
    ++ value 1 9 (at 1 0) 60 ∷ value 1 9 (s 1) 6 ∷ prints 1 9 (codes "60 6\n")
    ∷ (receives 1 9 (recv (at 1 0) 1 (pos 0) any_one) 2 4 1 1 (pos 0) (pos 5)
    ++ value 1 9 (at 1 0) 50 ∷ value 1 9 (s 1) 5 ∷ prints 1 9 (codes "50 5\n") ∷ closes_plain 1 10)))))))

-- `int a[4] = {1, 2, 3, 4}; int b[4] = {9, 9, 9, 9}; int c; long d;`. On line 9 rank 0 sends a, and rank 1 receives into b.
abbrev pub arrays : Setup
arrays = flat 2 (private (int 1 ∷ int 2 ∷ int 3 ∷ int 4 ∷ []) ∷ private (replicate 4 (int 9)) ∷ private (int 0 ∷ []) ∷ private (int 0 ∷ []) ∷ [])

-- four words into three places
abbrev pub too_long : List Line
too_long =
    opens 0 ++ (opens 1 ++ (rank 0 9 ∷ (sends 0 9 (send (at 0 0) 4 (pos 1) 0) 1 1 0 0
    ++ rank 1 9
    ∷ asks 1 (recv (at 1 0) 3 (pos 0) (pos 0)) 9 (posted 1 2 1 0)
    ∷ asks 1 (call.Complete (Req 1)) 9 (broke fault.Truncate)
    ∷ [])))

-- three words into four places; then MPI_Get_count into c, and b[0] to b[3] and c are printed
abbrev pub shorter : List Line
shorter =
    opens 0 ++ (opens 1 ++ (rank 0 9 ∷ (sends 0 9 (send (at 0 0) 3 (pos 1) 0) 1 1 0 0
    ++ (closes_plain 0 10
    ++ rank 1 9
    ∷ (receives 1 9 (recv (at 1 0) 4 (pos 0) (pos 0)) 1 2 1 3 (pos 0) (pos 0)
    ++ value 1 9 (s 2) 3 ∷ sets 1 9 (at 2 0) 3
    ∷ value 1 9 (at 1 0) 1 ∷ value 1 9 (at 1 1) 2 ∷ value 1 9 (at 1 2) 3 ∷ value 1 9 (at 1 3) 9 ∷ value 1 9 (at 2 0) 3
    ∷ prints 1 9 (codes "1 2 3 9 3\n") ∷ closes_plain 1 10)))))

-- an int into a long
abbrev pub mistyped : List Line
mistyped =
    opens 0 ++ (opens 1 ++ (rank 0 9 ∷ (sends 0 9 (send (at 0 0) 1 (pos 1) 0) 1 1 0 0
    ++ rank 1 9
    ∷ asks 1 (call.Recv (at 3 0) (pos 1) datatype.Long (pos 0) (pos 0) W) 9 (posted 1 2 1 0)
    ∷ asks 1 (call.Complete (Req 1)) 9 (broke fault.Mistyped)
    ∷ [])))

-- `int b = 7; int c;`, one task. Line 9 is `MPI_Request n = MPI_REQUEST_NULL; MPI_Send(NULL, 0, MPI_INT, MPI_PROC_NULL, 0, ..);`
-- `MPI_Recv(&b, 1, MPI_INT, MPI_PROC_NULL, 3, .., &s); MPI_Get_count(&s, MPI_INT, &c);`
-- `printf("%d %d %d %d\n", s.MPI_SOURCE, s.MPI_TAG, c, b); MPI_Wait(&n, &s); MPI_Get_count(&s, MPI_INT, &c);`
-- `printf("%d %d %d\n", s.MPI_SOURCE, s.MPI_TAG, c);`
abbrev pub one : Setup
one = flat 1 (private (int 7 ∷ []) ∷ private (int 0 ∷ []) ∷ [])

abbrev pub from_nobody : List Line
from_nobody =
    opens 0
    ++ asks 0 (call.New 1) 9 (gives (made 3 0)) ∷ asks 0 (call.Store (made 3 0) (Req 0)) 9 done
    ∷ (sends 0 9 (send Null 0 proc_null 0) 1 0 0 0
    ++ (receives 0 9 (recv (at 0 0) 1 proc_null (pos 3)) 2 0 0 0 proc_null any_one
    ++ value 0 9 (s 2) 0 ∷ sets 0 9 (at 1 0) 0
    ∷ asks 0 (call.Load (s 0)) 9 (gives (Int proc_null)) ∷ asks 0 (call.Load (s 1)) 9 (gives (Int any_one)) ∷ value 0 9 (at 1 0) 0 ∷ value 0 9 (at 0 0) 7
    ∷ prints 0 9 (codes "-2 -1 0 7\n")
    ∷ asks 0 (call.Load (made 3 0)) 9 (gives (Req 0))
    ∷ asks 0 (call.Complete (Req 0)) 9 got_nothing
    ∷ asks 0 (call.Store (made 3 0) (Req 0)) 9 done
    ∷ (stores_status 0 9 any_one any_one 0
    ++ value 0 9 (s 2) 0 ∷ sets 0 9 (at 1 0) 0
    ∷ asks 0 (call.Load (s 0)) 9 (gives (Int any_one)) ∷ asks 0 (call.Load (s 1)) 9 (gives (Int any_one)) ∷ value 0 9 (at 1 0) 0
    ∷ prints 0 9 (codes "-1 -1 0\n")
    ∷ closes 0 10 (3 ∷ 2 ∷ 1 ∷ []))))

pub record Deliveries : Type 0 where
  pub tags : Goes two by_tag
  pub truncated : Goes arrays too_long
  pub in_part : Goes arrays shorter
  pub of_another_type : Goes arrays mistyped
  pub nobody : Goes one from_nobody
