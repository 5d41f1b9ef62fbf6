-- Which message a receive takes: by tag, by source, and of two that fit the one that was sent first.
use Rattle.std.specs.Prelude.{pos, negsuc, [], ◌∷◌}
use Rattle.mpc_values.specs.declared.values.Word.TheVariants.{Int, Req}
use Rattle.mpc_values.specs.declared.calls.Call.TheVariants as call
use Rattle.mpc_values.specs.declared.faults.Fault.TheVariants as fault
use Rattle.run_model.specs.Setup.{Setup}
use Rattle.run_model.specs.Played.{asks, Goes}
use Rattle.run_model.specs.Scenes.{private, int, flat, at, W, any_one, send, recv, done, gives, posted, got, got_nothing, unset, set, any_is, waits, broke}

abbrev pub two : Setup
two = flat 2 (private (int 0 ∷ []) ∷ private (int 0 ∷ []) ∷ [])

abbrev pub three : Setup
three = flat 3 (private (Int (pos 1) ∷ Int (pos 2) ∷ []) ∷ private (int 0 ∷ int 0 ∷ []) ∷ [])

pub record TagsAndOrder : Type 0 where
  -- rank 0 sends 50 with tag 5 and 60 with tag 6; rank 1 receives tag 6 and then MPI_ANY_TAG
  pub by_tag : Goes two (
      asks 0 call.Init 7 done
      ∷ asks 1 call.Init 7 done
      ∷ asks 0 (call.Store (at 0 0) (int 50)) 9 done
      ∷ asks 0 (send (at 0 0) 1 (pos 1) 5) 9 (posted 1 1 0 0)
      ∷ asks 0 (call.Complete (Req 1)) 9 got_nothing
      ∷ asks 0 (call.Store (at 0 0) (int 60)) 9 done
      ∷ asks 0 (send (at 0 0) 1 (pos 1) 6) 9 (posted 2 2 0 0)
      ∷ asks 0 (call.Complete (Req 2)) 9 got_nothing
      ∷ asks 1 (recv (at 1 0) 1 (pos 0) (pos 6)) 9 (posted 1 3 2 1)
      ∷ asks 1 (call.Complete (Req 1)) 9 (got (pos 0) (pos 6) 1)
      ∷ asks 1 (call.Load (at 1 0)) 9 (gives (int 60))
      ∷ asks 1 (recv (at 1 0) 1 (pos 0) any_one) 9 (posted 2 4 1 1)
      ∷ asks 1 (call.Complete (Req 2)) 9 (got (pos 0) (pos 5) 1)
      ∷ asks 1 (call.Load (at 1 0)) 9 (gives (int 50))
      ∷ [])
  -- a receive from MPI_ANY_SOURCE takes the send that was posted first, that of rank 1; a probe tells the same before
  pub by_order : Goes three (
      asks 0 call.Init 7 done
      ∷ asks 1 call.Init 7 done
      ∷ asks 2 call.Init 7 done
      ∷ asks 0 (call.Iprobe any_one any_one W) 8 unset
      ∷ asks 0 (call.Probe any_one (pos 3) W) 9 waits
      ∷ asks 1 (send (at 0 0) 2 (pos 0) 3) 9 (posted 1 1 0 0)
      ∷ asks 2 (send (at 0 0) 1 (pos 0) 3) 9 (posted 1 2 0 0)
      ∷ asks 0 (call.Probe any_one (pos 3) W) 9 (got (pos 1) (pos 3) 2)
      ∷ asks 0 (call.Iprobe (pos 2) any_one W) 9 (set (pos 2) (pos 3) 1)
      ∷ asks 0 (recv (at 1 0) 2 any_one any_one) 9 (posted 1 3 1 2)
      ∷ asks 0 (recv (at 0 0) 1 any_one any_one) 9 (posted 2 4 2 1)
      ∷ asks 0 (call.AnyOf (Req 0 ∷ Req 2 ∷ Req 1 ∷ [])) 9 (any_is (pos 1) (pos 2) (pos 3) 1)
      ∷ asks 0 (call.AnyOf (Req 0 ∷ Req 0 ∷ [])) 9 (any_is (negsuc 2) any_one any_one 0)
      ∷ asks 0 (call.Test (Req 1)) 9 (set (pos 1) (pos 3) 2)
      ∷ asks 0 (call.Test (Req 1)) 9 (broke fault.BadRequest)
      ∷ [])
