-- Collective calls of three, four and five ranks, from the first entry to the last.
use Rattle.std.specs.Prelude.{◌≡◌, ℕ, pos, ◌+◌, ◌*◌, List, [], ◌∷◌, ◌++◌, map, flat_map, slice_index, codes}
use Rattle.std.specs.List.{range_with_len}
use Rattle.std.specs.Fmt.{decimal}
use Rattle.mpc_values.specs.declared.values.Op.TheVariants as op
use Rattle.mpc_values.specs.declared.calls.Call.TheVariants as call
use Rattle.mpc_values.specs.declared.collectives.Coll.{Coll}
use Rattle.mpc_values.specs.declared.collectives.CollKind.TheVariants as what
use Rattle.mpc_values.specs.declared.faults.Fault.TheVariants as fault
use Rattle.mpc_base.specs.declared.journals.End.TheVariants as end
use Rattle.mpc_base.specs.declared.journals.RankState.{RankState}
use Rattle.mpc_base.specs.declared.journals.RankState.TheVariants.{Exit, Stopped, Blocked, Fault}
use Rattle.mpc_base.specs.declared.journals.RankEnd.{RankEnd}
use Rattle.run_model.specs.Setup.{Setup}
use Rattle.run_model.specs.Ending.{ending}
use Rattle.run_model.specs.Ranks.{rank_ends}
use Rattle.run_model.specs.Played.{Line, asks, Goes, after}
use Rattle.run_model.specs.Scenes.{private, int, flat, at, W, coll, plain, done, waits, broke, nothing}
use Rattle.world_cases.specs.Framed.{opens, closes_plain, rank, value, sets, prints}

-- Three tasks. Line 9 is `if (r < 2) MPI_Barrier(MPI_COMM_WORLD);`
abbrev pub three : Setup
three = flat 3 []

abbrev pub barrier : Coll
barrier = plain what.Barrier W

abbrev pub two_of_three : List Line
two_of_three =
    opens 0 ++ (opens 1 ++ (opens 2
    ++ rank 0 9 ∷ asks 0 (call.Arrive barrier) 9 done ∷ asks 0 (call.Leave W) 9 waits
    ∷ rank 2 9 ∷ (closes_plain 2 10
    ++ rank 1 9 ∷ asks 1 (call.Arrive barrier) 9 done ∷ asks 1 (call.Leave W) 9 waits
    ∷ asks 0 (call.Leave W) 9 nothing ∷ asks 2 call.Init 9 nothing ∷ [])))

-- a rank that wrote nothing
abbrev pub silent : RankState → RankEnd
silent state = record { state = state; output = [] }

-- `int a;`, two tasks. Line 9 is `MPI_Bcast(&a, 1, MPI_INT, r, MPI_COMM_WORLD);`
abbrev pub two : Setup
two = flat 2 (private (int 0 ∷ []) ∷ [])

abbrev pub own_roots : List Line
own_roots =
    opens 0 ++ (opens 1
    ++ rank 0 9 ∷ asks 0 (call.Arrive (coll what.Bcast 0 1 0 (at 0 0) (at 0 0))) 9 done
    ∷ rank 1 9 ∷ asks 1 (call.Arrive (coll what.Bcast 1 1 0 (at 0 0) (at 0 0))) 9 (broke fault.CollMismatch)
    ∷ asks 0 (call.Leave W) 9 nothing ∷ [])

-- `int a; int b; int c; int d;`. Line 9 is `a = r + 1; b = 9;`, line 10 MPI_Scan with MPI_SUM of a into c, line 11 MPI_Exscan with
-- MPI_SUM of a into b, line 12 MPI_Allreduce with MPI_MAX of a into d, and line 13 prints c, b and d.
abbrev pub folding : ℕ → Setup
folding tasks = flat tasks (private (int 0 ∷ []) ∷ private (int 0 ∷ []) ∷ private (int 0 ∷ []) ∷ private (int 0 ∷ []) ∷ [])

abbrev pub greatest : Coll
greatest = record (coll what.Allreduce 0 1 0 (at 0 0) (at 3 0)) { op = op.Max }

-- these entries of each of so many ranks, one after the other
abbrev pub each : ℕ → (ℕ → List Line) → List Line
each tasks lines = flat_map lines (range_with_len 0 tasks)

-- all arrive, and then all leave
abbrev pub meets : ℕ → ℕ → Coll → List Line
meets tasks line c = each tasks (λ r. asks r (call.Arrive c) line done ∷ []) ++ each tasks (λ r. asks r (call.Leave W) line done ∷ [])

-- the last lines of a rank that gets these numbers
abbrev pub shows : List ℕ → List ℕ → ℕ → ℕ → List Line
shows scans exscans top r =
    value r 13 (at 2 0) (slice_index scans r) ∷ value r 13 (at 1 0) (slice_index exscans r) ∷ value r 13 (at 3 0) top
    ∷ prints r 13 (decimal (slice_index scans r) ++ (codes " " ++ (decimal (slice_index exscans r) ++ (codes " " ++ (decimal top ++ codes "\n")))))
    ∷ closes_plain r 14

abbrev pub folds : ℕ → List ℕ → List ℕ → List Line
folds tasks scans exscans =
    each tasks (λ r. opens r ++ rank r 9 ∷ sets r 9 (at 0 0) (r + 1) ∷ sets r 9 (at 1 0) 9 ∷ [])
    ++ (meets tasks 10 (coll what.Scan 0 1 0 (at 0 0) (at 2 0))
    ++ (meets tasks 11 (coll what.Exscan 0 1 0 (at 0 0) (at 1 0))
    ++ (meets tasks 12 greatest ++ each tasks (shows scans exscans tasks))))

-- `int x[6]; int y[6];`, three tasks, which exchange two words each: the k-th word of rank r is 10 r + k.
abbrev pub exchanging : Setup
exchanging = flat 3 (private (int 0 ∷ int 0 ∷ int 0 ∷ int 0 ∷ int 0 ∷ int 0 ∷ []) ∷ private (int 0 ∷ int 0 ∷ int 0 ∷ int 0 ∷ int 0 ∷ int 0 ∷ []) ∷ [])

abbrev pub words : ℕ → List ℕ → List Line
words r numbers = map (λ k. value r 11 (at 1 k) (slice_index numbers k)) (range_with_len 0 6)

abbrev pub all_to_all : List Line
all_to_all =
    each 3 (λ r. asks r call.Init 7 done ∷ map (λ k. sets r 9 (at 0 k) (r * 10 + k)) (range_with_len 0 6))
    ++ (meets 3 10 (coll what.Alltoall 0 2 2 (at 0 0) (at 1 0))
    ++ (words 0 (0 ∷ 1 ∷ 10 ∷ 11 ∷ 20 ∷ 21 ∷ []) ++ (words 1 (2 ∷ 3 ∷ 12 ∷ 13 ∷ 22 ∷ 23 ∷ []) ++ words 2 (4 ∷ 5 ∷ 14 ∷ 15 ∷ 24 ∷ 25 ∷ []))))

pub record Meetings : Type 0 where
  pub barrier_of_two : Goes three two_of_three
  pub is_stuck : ending three (after three two_of_three) ≡ end.Stuck
  pub ranks : rank_ends (after three two_of_three) end.Stuck ≡ silent (Blocked 23 9) ∷ silent (Blocked 23 9) ∷ silent (Exit (pos 0)) ∷ []
  pub roots_differ : Goes two own_roots
  pub is_fault : ending two (after two own_roots) ≡ end.Fault 1 fault.CollMismatch 9
  pub states : rank_ends (after two own_roots) (end.Fault 1 fault.CollMismatch 9) ≡ silent Stopped ∷ silent (Fault fault.CollMismatch 9) ∷ []
  pub four : Goes (folding 4) (folds 4 (1 ∷ 3 ∷ 6 ∷ 10 ∷ []) (9 ∷ 1 ∷ 3 ∷ 6 ∷ []))
  pub five : Goes (folding 5) (folds 5 (1 ∷ 3 ∷ 6 ∷ 10 ∷ 15 ∷ []) (9 ∷ 1 ∷ 3 ∷ 6 ∷ 10 ∷ []))
  pub parts_of_all : Goes exchanging all_to_all
