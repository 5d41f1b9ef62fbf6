-- What the places of messages under way meet, from the first entry to the last.
use Rattle.std.specs.Prelude.{pos, List, [], ◌∷◌, ◌++◌, replicate}
use Rattle.mpc_values.specs.declared.values.Word.TheVariants.{Req}
use Rattle.mpc_values.specs.declared.values.Obj.TheVariants.{Dyn}
use Rattle.mpc_values.specs.declared.owners.Level.TheVariants.{Numa}
use Rattle.mpc_values.specs.declared.calls.Call.TheVariants as call
use Rattle.mpc_values.specs.declared.faults.Fault.TheVariants as fault
use Rattle.topology.specs.Instances.{flat_machine}
use Rattle.run_model.specs.Setup.{Setup}
use Rattle.run_model.specs.Played.{Line, asks, Goes}
use Rattle.run_model.specs.Scenes.{private, shared, int, flat, setup_on, at, made, send, recv, done, gives, posted, waits, nothing, broke}
use Rattle.world_cases.specs.Framed.{opens, rank, value, sends, receives}

-- `int a[2];`, one task. Line 9 is `MPI_Request q; int b; MPI_Isend(a, 2, MPI_INT, 0, 0, MPI_COMM_WORLD, &q); b = a[0]; a[0] = 1;`
abbrev pub one : Setup
one = flat 1 (private (int 0 ∷ int 0 ∷ []) ∷ [])

abbrev pub stored_under_a_send : List Line
stored_under_a_send =
    opens 0
    ++ asks 0 (call.New 1) 9 (gives (made 3 0))
    ∷ asks 0 (send (at 0 0) 2 (pos 0) 0) 9 (posted 1 1 0 0)
    ∷ asks 0 (call.Store (made 3 0) (Req 1)) 9 done
    ∷ value 0 9 (at 0 0) 0
    ∷ asks 0 (call.Store (at 0 0) (int 1)) 9 (broke fault.PendingTouch)
    ∷ asks 0 (call.Load (at 0 0)) 9 nothing
    ∷ []

-- Two tasks share `int t[2000];` by `#pragma hls numa(t)`. Line 9 is `MPI_Request q; int x = 0;`. Rank 0 has MPI_Isend of all
-- of t to rank 1 with tag 0 on line 11, MPI_Send of x with tag 1 on line 12 and MPI_Wait on line 13; rank 1 has MPI_Recv of tag
-- 1 into x on line 14, and `t[5] = 1;` on line 15.
abbrev pub sharing : Setup
sharing = setup_on (flat_machine 2) (0 ∷ 1 ∷ []) (shared Numa (replicate 2000 (int 0)) ∷ []) []

abbrev pub stored_by_another : List Line
stored_by_another =
    opens 0 ++ (opens 1
    ++ asks 0 (call.New 1) 9 (gives (made 3 0)) ∷ asks 0 (call.New 1) 9 (gives (made 4 0)) ∷ asks 0 (call.Store (made 4 0) (int 0)) 9 done
    ∷ asks 1 (call.New 1) 9 (gives (made 3 0)) ∷ asks 1 (call.New 1) 9 (gives (made 4 0)) ∷ asks 1 (call.Store (made 4 0) (int 0)) 9 done
    ∷ rank 0 10
    ∷ asks 0 (send (at 0 0) 2000 (pos 1) 0) 11 (posted 1 1 0 0)
    ∷ asks 0 (call.Store (made 3 0) (Req 1)) 11 done
    ∷ (sends 0 12 (send (made 4 0) 1 (pos 1) 1) 2 2 0 0
    ++ asks 0 (call.Load (made 3 0)) 13 (gives (Req 1))
    ∷ asks 0 (call.Complete (Req 1)) 13 waits
    ∷ rank 1 10
    ∷ (receives 1 14 (recv (made 4 0) 1 (pos 0) (pos 1)) 1 3 2 1 (pos 0) (pos 1)
    ++ asks 1 (call.Store (at 0 5) (int 1)) 15 (broke fault.PendingTouch)
    ∷ asks 0 (call.Complete (Req 1)) 13 nothing
    ∷ [])))

-- a drop and a free of an object that a send or a receive under way has
abbrev pub begun : List Line
begun =
    asks 0 call.Init 7 done
    ∷ asks 0 (call.New 2) 8 (gives (made 1 0))
    ∷ asks 0 (call.Malloc (pos 2)) 8 (gives (made 2 0))
    ∷ []

pub record Buffers : Type 0 where
  pub own_store : Goes one stored_under_a_send
  pub store_of_another : Goes sharing stored_by_another
  pub drop_under_a_send : Goes one (begun ++ asks 0 (send (made 1 1) 1 (pos 0) 0) 9 (posted 1 1 0 0) ∷ asks 0 (call.Drop (Dyn 1)) 9 (broke fault.PendingDrop) ∷ [])
  pub drop_under_a_receive : Goes one (begun ++ asks 0 (recv (made 1 0) 1 (pos 0) (pos 0)) 9 (posted 1 1 0 0) ∷ asks 0 (call.Drop (Dyn 1)) 9 (broke fault.PendingDrop) ∷ [])
  pub free_under_a_send : Goes one (begun ++ asks 0 (send (made 2 1) 1 (pos 0) 0) 9 (posted 1 1 0 0) ∷ asks 0 (call.Free (made 2 0)) 9 (broke fault.PendingDrop) ∷ [])
  pub free_under_a_receive : Goes one (begun ++ asks 0 (recv (made 2 0) 1 (pos 0) (pos 0)) 9 (posted 1 1 0 0) ∷ asks 0 (call.Free (made 2 0)) 9 (broke fault.PendingDrop) ∷ [])
  -- a message of no words may name a buffer that is dead; one of one word may not
  pub no_words : Goes one (
      begun
      ++ asks 0 (call.Free (made 2 0)) 9 done
      ∷ asks 0 (send (made 2 0) 0 (pos 0) 0) 9 (posted 1 1 0 0)
      ∷ asks 0 (recv (made 2 5) 0 (pos 0) (pos 0)) 9 (posted 2 2 1 0)
      ∷ asks 0 (send (made 2 0) 1 (pos 0) 0) 9 (broke fault.Dangling)
      ∷ [])
  -- MPI_Finalize with an active request, and the end of main with one
  pub finalized : Goes one (begun ++ asks 0 (send (at 0 0) 1 (pos 0) 0) 9 (posted 1 1 0 0) ∷ asks 0 call.Finalize 10 (broke fault.LeakedRequest) ∷ [])
  pub finished : Goes one (begun ++ asks 0 (send (at 0 0) 1 (pos 0) 0) 9 (posted 1 1 0 0) ∷ asks 0 (call.Finish (pos 0)) 10 (broke fault.NoFinalize) ∷ [])
