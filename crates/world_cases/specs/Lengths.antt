-- Messages that are too long, shorter, of another datatype, empty, and to nobody.
use Rattle.std.specs.Prelude.{ℕ, pos, [], ◌∷◌}
use Rattle.mpc_values.specs.declared.values.Word.TheVariants.{Undef, Null, Req}
use Rattle.mpc_values.specs.declared.calls.Call.TheVariants as call
use Rattle.mpc_values.specs.declared.faults.Fault.TheVariants as fault
use Rattle.run_model.specs.Setup.{Setup}
use Rattle.run_model.specs.Played.{asks, Goes}
use Rattle.run_model.specs.Scenes.{private, int, flat, at, W, any_one, proc_null, send, recv, done, gives, posted, got, got_nothing, unset, broke}
use Rattle.mpc_values.specs.declared.values.Datatype.TheVariants as datatype

abbrev pub two : Setup
two = flat 2 (private (int 1 ∷ int 2 ∷ int 3 ∷ int 4 ∷ []) ∷ private (int 9 ∷ int 9 ∷ int 9 ∷ int 9 ∷ []) ∷ private (Undef ∷ []) ∷ [])

-- so many words of MPI_INT, received as so many of MPI_LONG
abbrev pub Mistypes : ℕ → ℕ → Type 0
Mistypes sent taken = Goes two (
    asks 0 call.Init 7 done
    ∷ asks 1 call.Init 7 done
    ∷ asks 0 (send (at 0 0) sent (pos 1) 0) 9 (posted 1 1 0 0)
    ∷ asks 1 (call.Recv (at 1 0) (pos taken) datatype.Long (pos 0) (pos 0) W) 9 (posted 1 2 1 0)
    ∷ asks 0 (call.Complete (Req 1)) 9 got_nothing
    ∷ asks 1 (call.Load (at 1 1)) 9 (gives (int 9))
    ∷ asks 1 (call.Complete (Req 1)) 9 (broke fault.Mistyped)
    ∷ [])

pub record Lengths : Type 0 where
  -- four words into three places: nothing is written, and the completing call faults
  pub truncated : Goes two (
      asks 0 call.Init 7 done
      ∷ asks 1 call.Init 7 done
      ∷ asks 0 (send (at 0 0) 4 (pos 1) 0) 9 (posted 1 1 0 0)
      ∷ asks 1 (recv (at 1 0) 3 (pos 0) (pos 0)) 9 (posted 1 2 1 0)
      ∷ asks 0 (call.Complete (Req 1)) 9 got_nothing
      ∷ asks 1 (call.Load (at 1 3)) 9 (gives (int 9))
      ∷ asks 1 (call.Complete (Req 1)) 9 (broke fault.Truncate)
      ∷ [])
  -- three words into four places: the last stays
  pub shorter : Goes two (
      asks 0 call.Init 7 done
      ∷ asks 1 call.Init 7 done
      ∷ asks 1 (recv (at 1 0) 4 (pos 0) (pos 0)) 9 (posted 1 1 0 0)
      ∷ asks 1 (call.Test (Req 1)) 9 unset
      ∷ asks 0 (send (at 0 0) 3 (pos 1) 0) 9 (posted 1 2 1 3)
      ∷ asks 1 (call.Complete (Req 1)) 9 (got (pos 0) (pos 0) 3)
      ∷ asks 1 (call.Load (at 1 0)) 9 (gives (int 1))
      ∷ asks 1 (call.Load (at 1 2)) 9 (gives (int 3))
      ∷ asks 1 (call.Load (at 1 3)) 9 (gives (int 9))
      ∷ [])
  -- MPI_INT into MPI_LONG: nothing is written, and it is Mistyped, also where it is too long, and also of no words
  pub mistyped : Mistypes 1 1
  pub mistyped_too_long : Mistypes 4 1
  pub mistyped_of_none : Mistypes 0 0
  -- an unset word travels, and is unset where it comes; a message of no places has no fault, whatever names them
  pub unset_words : Goes two (
      asks 0 call.Init 7 done
      ∷ asks 1 call.Init 7 done
      ∷ asks 0 (send (at 2 0) 1 (pos 1) 0) 9 (posted 1 1 0 0)
      ∷ asks 0 (send Null 0 (pos 1) 1) 9 (posted 2 2 0 0)
      ∷ asks 1 (recv (at 1 0) 1 (pos 0) (pos 0)) 9 (posted 1 3 1 1)
      ∷ asks 1 (recv Null 0 (pos 0) (pos 1)) 9 (posted 2 4 2 0)
      ∷ asks 1 (call.Complete (Req 2)) 9 (got (pos 0) (pos 1) 0)
      ∷ asks 1 (call.Complete (Req 1)) 9 (got (pos 0) (pos 0) 1)
      ∷ asks 1 (call.Load (at 1 0)) 9 (broke fault.Uninit)
      ∷ [])
  -- with MPI_PROC_NULL nothing is posted, and the range is not looked at
  pub to_nobody : Goes two (
      asks 0 call.Init 7 done
      ∷ asks 0 (send Null 5 proc_null 0) 9 (posted 1 0 0 0)
      ∷ asks 0 (call.Complete (Req 1)) 9 got_nothing
      ∷ asks 0 (recv (at 1 0) 1 proc_null (pos 3)) 9 (posted 2 0 0 0)
      ∷ asks 0 (call.Complete (Req 2)) 9 (got proc_null any_one 0)
      ∷ asks 0 (call.Load (at 1 0)) 9 (gives (int 9))
      ∷ asks 0 (call.Probe proc_null any_one W) 9 (got proc_null any_one 0)
      ∷ asks 0 (call.Complete (Req 0)) 9 got_nothing
      ∷ [])
