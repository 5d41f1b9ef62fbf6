-- Private variables, blocks of malloc and locals, the quota, the output, and the limit of entries.
use Rattle.std.specs.Prelude.{◌≡◌, pos, negsuc, List, [], ◌∷◌}
use Rattle.mpc_values.specs.declared.values.Word.TheVariants.{Null}
use Rattle.mpc_values.specs.declared.calls.Call.TheVariants as call
use Rattle.mpc_values.specs.declared.faults.Fault.TheVariants as fault
use Rattle.mpc_base.specs.declared.journals.End.TheVariants as end
use Rattle.run_model.specs.Setup.{Setup}
use Rattle.run_model.specs.Ending.{ending}
use Rattle.run_model.specs.Played.{Line, asks, Goes, after}
use Rattle.run_model.specs.Scenes.{private, int, flat, at, made, W, any_one, done, gives, broke, nothing}
use Rattle.mpc_values.specs.declared.values.Obj.TheVariants.{Dyn}
use Rattle.std.specs.Prelude.{codes}

abbrev pub two : Setup
two = flat 2 (private (int 0 ∷ []) ∷ [])

-- MPI_Abort ends the run; so does the end of main without MPI_Finalize
abbrev pub aborted : List Line
aborted = asks 0 call.Init 7 done ∷ asks 0 (call.Abort W (pos 9)) 9 (gives (int 9)) ∷ asks 1 call.Init 7 nothing ∷ []

pub record Objects : Type 0 where
  -- each task has its own copy of a private variable, and its own objects; a freed one is dead
  pub own_objects : Goes two (
      asks 0 (call.Store (at 0 0) (int 5)) 9 done
      ∷ asks 1 (call.Load (at 0 0)) 9 (gives (int 0))
      ∷ asks 0 (call.Malloc (pos 10)) 9 (gives (made 1 0)) ∷ asks 1 (call.Malloc (pos 10)) 9 (gives (made 1 0))
      ∷ asks 0 (call.Store (made 1 0) (int 1)) 9 done
      ∷ asks 1 (call.Load (made 1 0)) 9 (broke fault.Uninit)
      ∷ [])
  pub dead : Goes two (
      asks 0 (call.Malloc (pos 10)) 9 (gives (made 1 0))
      ∷ asks 0 (call.Free (made 1 0)) 10 done
      ∷ asks 0 (call.Free Null) 10 done
      ∷ asks 0 (call.Malloc (pos 10)) 11 (gives (made 2 0))
      ∷ asks 0 (call.Load (made 1 0)) 14 (broke fault.Dangling)
      ∷ [])
  pub no_block : Goes two (asks 0 (call.New 2) 9 (gives (made 1 0)) ∷ asks 0 (call.Free (made 1 0)) 10 (broke fault.Dangling) ∷ [])
  -- Four words live, as r and s: ten more are too many for a quota of 13, and not for one of 14. A local that is too long is
  -- a fault.
  pub too_few : Goes (record two { quota = 13 }) (
      asks 0 (call.New 1) 5 (gives (made 1 0)) ∷ asks 0 (call.New 3) 6 (gives (made 2 0))
      ∷ asks 0 (call.Malloc (pos 10)) 9 (gives Null)
      ∷ asks 0 (call.Malloc (negsuc 0)) 9 (gives Null)
      ∷ asks 0 (call.New 10) 9 (broke fault.StackFull)
      ∷ [])
  pub just_enough : Goes (record two { quota = 14 }) (
      asks 0 (call.New 1) 5 (gives (made 1 0)) ∷ asks 0 (call.New 3) 6 (gives (made 2 0))
      ∷ asks 0 (call.Malloc (pos 10)) 9 (gives (made 3 0))
      ∷ asks 0 (call.Malloc (pos 0)) 9 (gives (made 4 0))
      ∷ asks 0 (call.Drop (Dyn 1)) 9 done
      ∷ asks 0 (call.New 1) 9 (gives (made 5 0))
      ∷ asks 0 (call.Store (made 4 0) (int 1)) 9 (broke fault.Bounds)
      ∷ [])
  -- two entries are allowed: a third visit is Calls, also of a call that would wait
  pub calls : Goes (record two { calls = 2 }) (
      asks 0 call.Init 7 done
      ∷ asks 0 (call.Print (codes "hi")) 9 (gives (int 2))
      ∷ asks 0 (call.Probe any_one any_one W) 9 (broke fault.Calls)
      ∷ [])
  pub abort_ends : Goes two aborted
  pub ends_aborted : ending two (after two aborted) ≡ end.Abort 0 (pos 9) 9
  -- a second MPI_Init, and the end of main without MPI_Finalize
  pub init_twice : Goes two (asks 0 call.Init 7 done ∷ asks 0 call.Init 7 (broke fault.InitTwice) ∷ [])
  pub no_finalize : Goes two (asks 0 call.Init 7 done ∷ asks 0 (call.Finish (pos 0)) 9 (broke fault.NoFinalize) ∷ [])
