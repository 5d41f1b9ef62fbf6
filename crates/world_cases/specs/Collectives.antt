-- Collective calls: what each rank gets, who waits, and which arguments are looked at.
use Rattle.std.specs.Prelude.{◌≡◌, pos, negsuc, List, [], ◌∷◌}
use Rattle.mpc_values.specs.declared.values.Word.TheVariants.{Undef, Null}
use Rattle.mpc_values.specs.declared.calls.Call.TheVariants as call
use Rattle.mpc_values.specs.declared.collectives.CollKind.TheVariants as what
use Rattle.mpc_values.specs.declared.faults.Fault.TheVariants as fault
use Rattle.mpc_base.specs.declared.journals.End.TheVariants as end
use Rattle.run_model.specs.Setup.{Setup}
use Rattle.run_model.specs.Ending.{ending}
use Rattle.run_model.specs.Played.{Line, asks, Goes, after}
use Rattle.run_model.specs.Scenes.{private, int, flat, at, W, coll, plain, done, gives, waits, broke, nothing}
use Rattle.mpc_values.specs.declared.values.Op.TheVariants as op
use Rattle.mpc_values.specs.declared.collectives.Coll.{Coll}
use Rattle.mpc_base.specs.declared.journals.RankState.{RankState}
use Rattle.mpc_base.specs.declared.journals.RankState.TheVariants.{Exit, Blocked}
use Rattle.mpc_base.specs.declared.journals.RankEnd.{RankEnd}
use Rattle.run_model.specs.Ranks.{rank_ends}
use Rattle.std.specs.Prelude.{◌++◌}

-- Two ranks with a = r + 1 and b = 9: MPI_Scan with MPI_SUM into c, MPI_Exscan with MPI_SUM into b, which rank 0 keeps, and
-- MPI_Allreduce with MPI_MAX into d.
abbrev pub two : Setup
two = flat 2 (private (int 1 ∷ []) ∷ private (int 9 ∷ []) ∷ private (Undef ∷ []) ∷ private (Undef ∷ []) ∷ private (int 5 ∷ int 6 ∷ []) ∷ [])

abbrev pub greatest : Coll
greatest = record (coll what.Allreduce 0 1 0 (at 0 0) (at 3 0)) { op = op.Max }

-- Three ranks, of which two meet at a barrier: rank 2 finishes, and the run is stuck.
abbrev pub three : Setup
three = flat 3 []

abbrev pub barrier : Coll
barrier = plain what.Barrier W

abbrev pub lines : List Line
lines =
    asks 0 call.Init 7 done ∷ asks 1 call.Init 7 done ∷ asks 2 call.Init 7 done
    ∷ asks 0 (call.Arrive barrier) 9 done ∷ asks 1 (call.Arrive barrier) 9 done
    ∷ asks 0 (call.Leave W) 9 waits
    ∷ asks 2 call.Finalize 10 done
    ∷ asks 2 (call.Finish (pos 0)) 11 (gives (int 0))
    ∷ asks 2 (call.Finish (pos 0)) 11 nothing
    ∷ []

-- once the last one has noted its call, and not before
abbrev pub all_lines : List Line
all_lines = lines ++ asks 1 (call.Leave W) 9 waits ∷ []

-- a rank that wrote nothing
abbrev pub ends : RankState → RankEnd
ends state = record { state = state; output = [] }

pub record Collectives : Type 0 where
  pub folds : Goes two (
      asks 0 call.Init 7 done ∷ asks 1 call.Init 7 done
      ∷ asks 1 (call.Store (at 0 0) (int 2)) 9 done
      ∷ asks 1 (call.Arrive (coll what.Scan 0 1 0 (at 0 0) (at 2 0))) 9 done
      ∷ asks 1 (call.Leave W) 9 waits
      ∷ asks 0 (call.Arrive (coll what.Scan 0 1 0 (at 0 0) (at 2 0))) 9 done
      ∷ asks 0 (call.Leave W) 9 done
      ∷ asks 0 (call.Arrive (coll what.Exscan 0 1 0 (at 0 0) (at 1 0))) 10 done
      ∷ asks 0 (call.Leave W) 10 waits
      ∷ asks 1 (call.Leave W) 9 done
      ∷ asks 1 (call.Arrive (coll what.Exscan 0 1 0 (at 0 0) (at 1 0))) 10 done
      ∷ asks 1 (call.Leave W) 10 done
      ∷ asks 0 (call.Leave W) 10 done
      ∷ asks 0 (call.Arrive greatest) 11 done ∷ asks 1 (call.Arrive greatest) 11 done
      ∷ asks 0 (call.Leave W) 11 done ∷ asks 1 (call.Leave W) 11 done
      ∷ asks 0 (call.Load (at 2 0)) 12 (gives (int 1)) ∷ asks 0 (call.Load (at 1 0)) 12 (gives (int 9)) ∷ asks 0 (call.Load (at 3 0)) 12 (gives (int 2))
      ∷ asks 1 (call.Load (at 2 0)) 12 (gives (int 3)) ∷ asks 1 (call.Load (at 1 0)) 12 (gives (int 1)) ∷ asks 1 (call.Load (at 3 0)) 12 (gives (int 2))
      ∷ [])
  -- in Gather another than the root's receive count is not looked at, not even where it is negative, and nor is its receive
  -- buffer
  pub not_looked_at : Goes two (
      asks 1 call.Init 7 done
      ∷ asks 1 (call.Arrive (record (coll what.Gather 0 1 0 (at 0 0) Null) { other = negsuc 4 })) 9 done
      ∷ [])
  -- in Scatter it is another's send count and send buffer; its part of the root's words comes
  pub scatter_elsewhere : Goes two (
      asks 0 call.Init 7 done
      ∷ asks 1 call.Init 7 done
      ∷ asks 1 (call.Arrive (coll what.Scatter 1 1 1 Null (at 2 0))) 9 (broke fault.NullAccess)
      ∷ [])
  pub scatter_parts : Goes two (
      asks 0 call.Init 7 done
      ∷ asks 1 call.Init 7 done
      ∷ asks 0 (call.Arrive (coll what.Scatter 1 7 1 Null (at 2 0))) 9 done
      ∷ asks 1 (call.Arrive (coll what.Scatter 1 1 1 (at 4 0) (at 2 0))) 9 done
      ∷ asks 0 (call.Leave W) 9 done
      ∷ asks 0 (call.Load (at 2 0)) 9 (gives (int 5))
      ∷ asks 1 (call.Load (at 2 0)) 9 (broke fault.Uninit)
      ∷ [])
  -- nor is the result's range of rank 0 in Exscan, nor that of the root in Bcast, nor another's send buffer there
  pub root_of_bcast : Goes two (
      asks 0 call.Init 7 done
      ∷ asks 1 call.Init 7 done
      ∷ asks 0 (call.Arrive (coll what.Bcast 0 1 0 (at 4 1) Null)) 9 done
      ∷ asks 1 (call.Arrive (coll what.Bcast 0 1 0 Null (at 2 0))) 9 done
      ∷ asks 1 (call.Leave W) 9 done
      ∷ asks 1 (call.Load (at 2 0)) 9 (gives (int 6))
      ∷ asks 0 (call.Leave W) 9 done
      ∷ asks 0 (call.Load (at 2 0)) 9 (broke fault.Uninit)
      ∷ [])
  pub first_of_exscan : Goes two (
      asks 0 call.Init 7 done
      ∷ asks 1 call.Init 7 done
      ∷ asks 0 (call.Arrive (coll what.Exscan 0 1 0 (at 0 0) Null)) 9 done
      ∷ asks 1 (call.Arrive (coll what.Exscan 0 1 0 (at 0 0) Null)) 9 (broke fault.NullAccess)
      ∷ [])
  -- in a fold an unset word is no contribution, in a gather it is, and unset where it comes; the contribution is looked at
  -- before the result
  pub unset_in_fold : Goes two (asks 0 call.Init 7 done ∷ asks 0 (call.Arrive (coll what.Allreduce 0 1 0 (at 2 0) Null)) 9 (broke fault.Uninit) ∷ [])
  pub unset_in_gather : Goes two (
      asks 0 call.Init 7 done
      ∷ asks 1 call.Init 7 done
      ∷ asks 1 (call.Arrive (coll what.Gather 0 1 0 (at 2 0) Null)) 9 done
      ∷ asks 0 (call.Arrive (coll what.Gather 0 1 1 (at 0 0) (at 4 0))) 9 done
      ∷ asks 0 (call.Leave W) 9 done
      ∷ asks 0 (call.Load (at 4 0)) 9 (gives (int 1))
      ∷ asks 0 (call.Load (at 4 1)) 9 (broke fault.Uninit)
      ∷ [])
  pub result_is_last : Goes two (asks 0 call.Init 7 done ∷ asks 0 (call.Arrive (coll what.Allreduce 0 1 0 (at 0 0) (at 3 1))) 9 (broke fault.Bounds) ∷ [])
  pub goes : ending three (after three lines) ≡ end.Going
  pub comes : Goes three all_lines
  pub is_stuck : ending three (after three all_lines) ≡ end.Stuck
  pub ranks : rank_ends (after three all_lines) end.Stuck ≡ ends (Blocked 23 9) ∷ ends (Blocked 23 9) ∷ ends (Exit (pos 0)) ∷ []
