-- The pending rule: what a store, a load and a receive meet while a message is under way, and a free after it.
use Rattle.std.specs.Prelude.{pos, [], ◌∷◌}
use Rattle.mpc_values.specs.declared.values.Word.TheVariants.{Req}
use Rattle.mpc_values.specs.declared.calls.Call.TheVariants as call
use Rattle.mpc_values.specs.declared.faults.Fault.TheVariants as fault
use Rattle.mpc_values.specs.declared.collectives.CollKind.TheVariants as what
use Rattle.run_model.specs.Setup.{Setup}
use Rattle.run_model.specs.Played.{asks, Goes}
use Rattle.run_model.specs.Scenes.{private, shared, int, setup_on, flat, at, made, send, recv, done, gives, posted, got, got_nothing, broke, nothing, coll, waits, W}
use Rattle.mpc_values.specs.declared.owners.Level.TheVariants.{Numa}
use Rattle.topology.specs.Instances.{flat_machine}

abbrev pub one : Setup
one = flat 1 (private (int 1 ∷ int 2 ∷ []) ∷ private (int 0 ∷ []) ∷ [])

-- Two tasks on one NUMA instance share t. Rank 0 sends all of t and then one word of its own; rank 1 receives that word and
-- stores into t.
abbrev pub sharing : Setup
sharing = setup_on (flat_machine 2) (0 ∷ 1 ∷ []) (shared Numa (int 0 ∷ int 0 ∷ int 0 ∷ []) ∷ private (int 0 ∷ []) ∷ []) []

pub record Pending : Type 0 where
  -- under a send of a[0] and a[1] to itself: the load is lawful, the store is not, though the send was eager
  pub store_under_a_send : Goes one (
      asks 0 call.Init 7 done
      ∷ asks 0 (send (at 0 0) 2 (pos 0) 0) 9 (posted 1 1 0 0)
      ∷ asks 0 (call.Load (at 0 0)) 9 (gives (int 1))
      ∷ asks 0 (call.Store (at 0 0) (int 1)) 9 (broke fault.PendingTouch)
      ∷ asks 0 (call.Load (at 0 0)) 9 nothing
      ∷ [])
  -- the completing call ends it; a second send of the same places is lawful, and a receive into them is not
  pub marks_end : Goes one (
      asks 0 call.Init 7 done
      ∷ asks 0 (send (at 0 0) 2 (pos 0) 0) 9 (posted 1 1 0 0)
      ∷ asks 0 (send (at 0 1) 1 (pos 0) 0) 9 (posted 2 2 0 0)
      ∷ asks 0 (call.Complete (Req 1)) 9 got_nothing
      ∷ asks 0 (call.Store (at 0 0) (int 5)) 9 done
      ∷ asks 0 (recv (at 0 1) 1 (pos 0) (pos 0)) 9 (broke fault.PendingTouch)
      ∷ [])
  -- under a receive: no load and no send, and no store
  pub load_under_a_receive : Goes one (
      asks 0 call.Init 7 done
      ∷ asks 0 (recv (at 0 0) 1 (pos 0) (pos 0)) 9 (posted 1 1 0 0)
      ∷ asks 0 (call.Load (at 0 1)) 9 (gives (int 2))
      ∷ asks 0 (call.Store (at 0 1) (int 4)) 9 done
      ∷ asks 0 (call.Load (at 0 0)) 9 (broke fault.PendingTouch)
      ∷ [])
  pub send_under_a_receive : Goes one (
      asks 0 call.Init 7 done
      ∷ asks 0 (recv (at 0 0) 1 (pos 0) (pos 0)) 9 (posted 1 1 0 0)
      ∷ asks 0 (send (at 0 0) 2 (pos 0) 0) 9 (broke fault.PendingTouch)
      ∷ [])
  -- after the completing call the block that a send had is freed; before it, see Buffers
  pub free_after_completion : Goes one (
      asks 0 call.Init 7 done
      ∷ asks 0 (call.Malloc (pos 2)) 9 (gives (made 1 0))
      ∷ asks 0 (send (made 1 1) 1 (pos 0) 0) 9 (posted 1 1 0 0)
      ∷ asks 0 (call.Complete (Req 1)) 9 got_nothing
      ∷ asks 0 (call.Free (made 1 0)) 9 done
      ∷ [])
  -- whichever task it is that stores
  pub whichever_task : Goes sharing (
      asks 0 call.Init 7 done
      ∷ asks 1 call.Init 7 done
      ∷ asks 0 (send (at 0 0) 3 (pos 1) 0) 9 (posted 1 1 0 0)
      ∷ asks 0 (send (at 1 0) 1 (pos 1) 1) 10 (posted 2 2 0 0)
      ∷ asks 0 (call.Complete (Req 2)) 10 got_nothing
      ∷ asks 1 (recv (at 1 0) 1 (pos 0) (pos 1)) 14 (posted 1 3 2 1)
      ∷ asks 1 (call.Complete (Req 1)) 14 (got (pos 0) (pos 1) 1)
      ∷ asks 1 (call.Load (at 0 2)) 15 (gives (int 0))
      ∷ asks 1 (call.Store (at 0 2) (int 1)) 15 (broke fault.PendingTouch)
      ∷ [])
  -- The result of a collective call is written at leave, and no mark stands for it. Rank 0's goes to the shared t; rank 1 has
  -- posted a receive into it in between.
  pub result_under_a_receive : Goes sharing (
      asks 0 call.Init 7 done
      ∷ asks 1 call.Init 7 done
      ∷ asks 0 (call.Arrive (coll what.Allreduce 0 1 0 (at 1 0) (at 0 0))) 9 done
      ∷ asks 1 (recv (at 0 0) 1 (pos 0) (pos 0)) 8 (posted 1 1 0 0)
      ∷ asks 0 (call.Leave W) 9 waits
      ∷ asks 1 (call.Arrive (coll what.Allreduce 0 1 0 (at 1 0) (at 1 0))) 9 done
      ∷ asks 1 (call.Leave W) 9 done
      ∷ asks 0 (call.Leave W) 9 (broke fault.PendingTouch)
      ∷ [])
