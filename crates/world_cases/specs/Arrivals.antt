-- Arrivals at collective calls that differ, and leaves that write nothing.
use Rattle.std.specs.Prelude.{pos, negsuc, [], ◌∷◌}
use Rattle.mpc_values.specs.declared.values.Word.TheVariants.{Null, Comm}
use Rattle.mpc_values.specs.declared.values.Op.TheVariants as op
use Rattle.mpc_values.specs.declared.values.Datatype.TheVariants as datatype
use Rattle.mpc_values.specs.declared.calls.Call.TheVariants as call
use Rattle.mpc_values.specs.declared.collectives.Coll.{Coll}
use Rattle.mpc_values.specs.declared.collectives.CollKind.TheVariants as what
use Rattle.mpc_values.specs.declared.faults.Fault.TheVariants as fault
use Rattle.run_model.specs.Setup.{Setup}
use Rattle.run_model.specs.Played.{asks, Goes}
use Rattle.run_model.specs.Scenes.{private, int, flat, at, made, W, coll, plain, done, gives, waits, broke}

-- two ranks with `int a[2];` and `int b[2];`
abbrev pub two : Setup
two = flat 2 (private (int 1 ∷ int 2 ∷ []) ∷ private (int 8 ∷ int 9 ∷ []) ∷ [])

-- MPI_Allreduce of a[0] into b[0]
abbrev pub sum : Coll
sum = coll what.Allreduce 0 1 0 (at 0 0) (at 1 0)

-- MPI_Bcast of a[0]
abbrev pub broadcast : Coll
broadcast = coll what.Bcast 0 1 0 (at 0 0) (at 0 0)

-- rank 0 arrives with the first call, and rank 1 with the second one, which differs
abbrev pub Differ : Coll → Coll → Type 0
Differ first second = Goes two (
    asks 0 call.Init 7 done
    ∷ asks 1 call.Init 7 done
    ∷ asks 0 (call.Arrive first) 9 done
    ∷ asks 1 (call.Arrive second) 9 (broke fault.CollMismatch)
    ∷ [])

-- the same, and the second one does not differ
abbrev pub Agree : Coll → Coll → Type 0
Agree first second = Goes two (
    asks 0 call.Init 7 done
    ∷ asks 1 call.Init 7 done
    ∷ asks 0 (call.Arrive first) 9 done
    ∷ asks 1 (call.Arrive second) 9 done
    ∷ [])

pub record Arrivals : Type 0 where
  -- each way in which two calls of one meeting differ: kind, root, operation, datatype, count
  pub kinds_differ : Differ sum (record sum { what = what.Scan })
  pub kinds_without_words_differ : Differ (plain what.Dup W) (plain what.Split W)
  pub roots_differ : Differ broadcast (record broadcast { root = pos 1 })
  pub operations_differ : Differ sum (record sum { op = op.Max })
  pub datatypes_differ : Differ sum (record sum { kind = datatype.Long })
  pub counts_differ : Differ sum (record sum { count = pos 2 })
  -- the count of a Scatter is its receive count; another's send count is not looked at
  pub scatter_counts_differ : Differ (coll what.Scatter 0 1 1 (at 0 0) (at 1 0)) (coll what.Scatter 0 2 2 Null (at 1 0))
  pub scatter_other_counts_agree : Agree (coll what.Scatter 0 1 1 (at 0 0) (at 1 0)) (coll what.Scatter 0 5 1 Null (at 1 0))
  -- colours and keys may differ, and so may the buffers
  pub colours_agree : Agree (record (plain what.Split W) { colour = pos 1; key = pos 2 }) (record (plain what.Split W) { colour = negsuc 2 })
  pub buffers_agree : Agree sum (record sum { from = at 0 1; into = at 1 1 })
  -- The next meeting is another one: rank 0 may be at it while rank 1 is at the first.
  pub meetings_are_apart : Goes two (
      asks 0 call.Init 7 done
      ∷ asks 1 call.Init 7 done
      ∷ asks 0 (call.Arrive sum) 9 done
      ∷ asks 1 (call.Arrive sum) 9 done
      ∷ asks 0 (call.Leave W) 9 done
      ∷ asks 0 (call.Arrive broadcast) 10 done
      ∷ asks 1 (call.Leave W) 9 done
      ∷ asks 1 (call.Arrive sum) 10 (broke fault.CollMismatch)
      ∷ [])
  -- The result goes to a block that is freed between arrival and leave: nothing is written, and rank 1 gets its own.
  pub result_is_dead : Goes two (
      asks 0 call.Init 7 done
      ∷ asks 1 call.Init 7 done
      ∷ asks 0 (call.Malloc (pos 1)) 8 (gives (made 1 0))
      ∷ asks 0 (call.Arrive (record sum { into = made 1 0 })) 9 done
      ∷ asks 0 (call.Free (made 1 0)) 9 done
      ∷ asks 0 (call.Malloc (pos 1)) 9 (gives (made 2 0))
      ∷ asks 0 (call.Leave W) 9 waits
      ∷ asks 1 (call.Arrive sum) 9 done
      ∷ asks 1 (call.Leave W) 9 done
      ∷ asks 0 (call.Leave W) 9 done
      ∷ asks 1 (call.Load (at 1 0)) 10 (gives (int 2))
      ∷ asks 0 (call.Load (at 1 0)) 10 (gives (int 8))
      ∷ asks 0 (call.Load (made 2 0)) 10 (broke fault.Uninit)
      ∷ [])
  -- without an arrival that the task has not left, a leave is done at once: before MPI_Init, on what is no communicator, and a
  -- second time
  pub no_arrival_is_left : Goes two (
      asks 0 (call.Leave W) 6 done
      ∷ asks 0 call.Init 7 done
      ∷ asks 0 (call.Leave W) 8 done
      ∷ asks 0 (call.Leave Null) 8 done
      ∷ asks 0 (call.Leave (Comm 7)) 8 done
      ∷ asks 0 (call.Arrive (plain what.Barrier W)) 9 done
      ∷ asks 0 (call.Leave W) 9 waits
      ∷ asks 1 (call.Leave W) 9 done
      ∷ asks 1 call.Init 7 done
      ∷ asks 1 (call.Arrive (plain what.Barrier W)) 9 done
      ∷ asks 0 (call.Leave W) 9 done
      ∷ asks 0 (call.Leave W) 10 done
      ∷ [])
