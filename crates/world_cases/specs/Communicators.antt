-- Communicators: split with two colours, duplicates, and their ends.
use Rattle.std.specs.Prelude.{ℤ, pos, negsuc, [], ◌∷◌}
use Rattle.mpc_values.specs.declared.values.Word.TheVariants.{Comm, Req}
use Rattle.mpc_values.specs.declared.calls.Call.TheVariants as call
use Rattle.mpc_values.specs.declared.collectives.CollKind.TheVariants as what
use Rattle.mpc_values.specs.declared.faults.Fault.TheVariants as fault
use Rattle.run_model.specs.Setup.{Setup}
use Rattle.run_model.specs.Played.{asks, Goes}
use Rattle.run_model.specs.Scenes.{private, int, flat, at, W, send_on, recv_on, send, recv, plain, done, gives, posted, got, waits, broke}
use Rattle.mpc_values.specs.declared.collectives.Coll.{Coll}

abbrev pub five : Setup
five = flat 5 []

abbrev pub two : Setup
two = flat 2 (private (int 1 ∷ int 2 ∷ []) ∷ private (int 0 ∷ []) ∷ [])

abbrev pub split : ℤ → ℤ → Coll
split colour key = record (plain what.Split W) { colour = colour; key = key }

pub record Communicators : Type 0 where
  -- Ranks 0, 2 and 4 have colour 0, rank 1 colour 1, rank 3 MPI_UNDEFINED; rank 0 has the greatest key. Colour 0 gets the
  -- communicator 2 and colour 1 the communicator 3. Rank 0 is 2 of 3, rank 2 is 0 of 3, rank 4 is 1 of 3.
  pub two_colours : Goes five (
      asks 0 call.Init 7 done ∷ asks 1 call.Init 7 done ∷ asks 2 call.Init 7 done ∷ asks 3 call.Init 7 done ∷ asks 4 call.Init 7 done
      ∷ asks 1 (call.Arrive (split (pos 1) (pos 0))) 9 done
      ∷ asks 0 (call.Arrive (split (pos 0) (pos 5))) 9 done
      ∷ asks 0 (call.Leave W) 9 waits
      ∷ asks 4 (call.Arrive (split (pos 0) (pos 0))) 9 done
      ∷ asks 3 (call.Arrive (split (negsuc 2) (pos 0))) 9 done
      ∷ asks 2 (call.Arrive (split (pos 0) (pos 0))) 9 done
      ∷ asks 3 (call.Leave W) 9 (gives (Comm 0))
      ∷ asks 1 (call.Leave W) 9 (gives (Comm 3))
      ∷ asks 0 (call.Leave W) 9 (gives (Comm 2))
      ∷ asks 2 (call.Leave W) 9 (gives (Comm 2))
      ∷ asks 4 (call.Leave W) 9 (gives (Comm 2))
      ∷ asks 0 (call.Rank (Comm 2)) 9 (gives (int 2)) ∷ asks 0 (call.Size (Comm 2)) 9 (gives (int 3))
      ∷ asks 1 (call.Rank (Comm 3)) 9 (gives (int 0)) ∷ asks 1 (call.Size (Comm 3)) 9 (gives (int 1))
      ∷ asks 2 (call.Rank (Comm 2)) 9 (gives (int 0))
      ∷ asks 4 (call.Rank (Comm 2)) 9 (gives (int 1))
      ∷ asks 4 (call.Rank (Comm 3)) 9 (broke fault.BadComm)
      ∷ [])
  pub bad_colour : Goes five (asks 0 call.Init 7 done ∷ asks 0 (call.Arrive (split (negsuc 0) (pos 0))) 9 (broke fault.BadCount) ∷ [])
  -- Rank 0 sends 1 on the duplicate and then 2 on MPI_COMM_WORLD, both with tag 0; rank 1 receives on MPI_COMM_WORLD and then
  -- on the duplicate. Both free it; it is dead from the last arrival on, and its number is not given again.
  pub apart : Goes two (
      asks 0 call.Init 7 done ∷ asks 1 call.Init 7 done
      ∷ asks 0 (call.Arrive (plain what.Dup W)) 8 done ∷ asks 1 (call.Arrive (plain what.Dup W)) 8 done
      ∷ asks 0 (call.Leave W) 8 (gives (Comm 2)) ∷ asks 1 (call.Leave W) 8 (gives (Comm 2))
      ∷ asks 0 (send_on (Comm 2) (at 0 0) 1 (pos 1) 0) 9 (posted 1 1 0 0)
      ∷ asks 0 (send (at 0 1) 1 (pos 1) 0) 9 (posted 2 2 0 0)
      ∷ asks 1 (recv (at 1 0) 1 (pos 0) (pos 0)) 9 (posted 1 3 2 1)
      ∷ asks 1 (call.Complete (Req 1)) 9 (got (pos 0) (pos 0) 1)
      ∷ asks 1 (call.Load (at 1 0)) 9 (gives (int 2))
      ∷ asks 0 (call.Arrive (plain what.Free (Comm 2))) 10 done
      ∷ asks 1 (recv_on (Comm 2) (at 1 0) 1 (pos 0) (pos 0)) 9 (posted 2 4 1 1)
      ∷ asks 1 (call.Complete (Req 2)) 9 (got (pos 0) (pos 0) 1)
      ∷ asks 1 (call.Load (at 1 0)) 9 (gives (int 1))
      ∷ asks 1 (call.Arrive (plain what.Free (Comm 2))) 10 done
      ∷ asks 1 (call.Leave (Comm 2)) 10 done ∷ asks 0 (call.Leave (Comm 2)) 10 done
      ∷ asks 0 (call.Arrive (plain what.Dup W)) 11 done ∷ asks 1 (call.Arrive (plain what.Dup W)) 11 done
      ∷ asks 1 (call.Leave W) 11 (gives (Comm 3))
      ∷ asks 0 (call.Rank (Comm 2)) 12 (broke fault.BadComm)
      ∷ [])
  pub world_is_not_freed : Goes two (asks 0 call.Init 7 done ∷ asks 0 (call.Arrive (plain what.Free W)) 9 (broke fault.BadComm) ∷ [])
  -- Two tasks change places: on the new communicator task 0 has rank 1. It sends to rank 0, which is task 1, and the status has
  -- its rank.
  pub ranks_not_tasks : Goes two (
      asks 0 call.Init 7 done
      ∷ asks 1 call.Init 7 done
      ∷ asks 0 (call.Arrive (split (pos 0) (pos 1))) 8 done
      ∷ asks 1 (call.Arrive (split (pos 0) (negsuc 0))) 8 done
      ∷ asks 0 (call.Leave W) 8 (gives (Comm 2))
      ∷ asks 1 (call.Leave W) 8 (gives (Comm 2))
      ∷ asks 0 (send_on (Comm 2) (at 0 1) 1 (pos 0) 0) 9 (posted 1 1 0 0)
      ∷ asks 1 (recv_on (Comm 2) (at 1 0) 1 (pos 1) (pos 0)) 9 (posted 1 2 1 1)
      ∷ asks 1 (call.Complete (Req 1)) 9 (got (pos 1) (pos 0) 1)
      ∷ asks 1 (call.Load (at 1 0)) 9 (gives (int 2))
      ∷ [])
