-- A few runs that tell the definitions of steps and endings from wrong ones.
use Rattle.std.specs.Prelude.{◌≡◌, pos, negsuc, false, List, [], ◌∷◌}
use Rattle.mpc_values.specs.declared.values.Word.TheVariants.{Null, Req}
use Rattle.mpc_values.specs.declared.values.Datatype.TheVariants as datatype
use Rattle.mpc_values.specs.declared.calls.Call.TheVariants as call
use Rattle.mpc_values.specs.declared.collectives.CollKind.TheVariants as what
use Rattle.mpc_values.specs.declared.faults.Fault.TheVariants as fault
use Rattle.mpc_base.specs.declared.journals.End.TheVariants as end
use Rattle.run_model.specs.Setup.{Setup}
use Rattle.run_model.specs.Ending.{ending}
use Rattle.run_model.specs.Played.{Line, asks, Goes, after}
use Rattle.run_model.specs.Scenes.{private, int, flat, at, W, send, coll, done, gives, posted, waits, broke, nothing, any_one}

-- `int a = 7; int b;`
abbrev pub two : Setup
two = flat 2 (private (int 7 ∷ []) ∷ private (int 0 ∷ []) ∷ [])

-- a send whose every argument is bad: the rank is told first; a receive with a bad count and a bad range: the count
abbrev pub bad_rank : List Line
bad_rank = asks 0 call.Init 7 done ∷ asks 0 (call.Send Null (negsuc 0) datatype.Int (pos 2) (negsuc 0) W false) 9 (broke fault.BadRank) ∷ []

abbrev pub bad_count : List Line
bad_count = asks 0 call.Init 7 done ∷ asks 0 (call.Recv Null (negsuc 0) datatype.Int any_one any_one W) 9 (broke fault.BadCount) ∷ []

-- an eager send is complete at once, and still marks its places until its completing call
abbrev pub marked : List Line
marked =
    asks 0 call.Init 7 done
    ∷ asks 0 (send (at 0 0) 1 (pos 1) 0) 9 (posted 1 1 0 0)
    ∷ asks 0 (call.Store (at 0 0) (int 1)) 9 (broke fault.PendingTouch)
    ∷ []

-- without eager sends: once one task waits the run goes on, and once both wait it is stuck
abbrev pub none_eager : Setup
none_eager = record two { eager = 0 }

abbrev pub one_waits : List Line
one_waits =
    asks 0 call.Init 7 done ∷ asks 1 call.Init 7 done
    ∷ asks 0 (send (at 0 0) 1 (pos 1) 0) 9 (posted 1 1 0 0) ∷ asks 0 (call.Complete (Req 1)) 9 waits
    ∷ []

abbrev pub both_wait : List Line
both_wait =
    asks 0 call.Init 7 done ∷ asks 1 call.Init 7 done
    ∷ asks 0 (send (at 0 0) 1 (pos 1) 0) 9 (posted 1 1 0 0) ∷ asks 0 (call.Complete (Req 1)) 9 waits
    ∷ asks 1 (send (at 0 0) 1 (pos 0) 0) 9 (posted 1 2 0 0) ∷ asks 1 (call.Complete (Req 1)) 9 waits
    ∷ []

-- two entries are allowed, and a third visit is Calls, also of a call that would wait
abbrev pub one_too_many : List Line
one_too_many =
    asks 0 call.Init 7 done ∷ asks 0 (call.Load (at 0 0)) 9 (gives (int 7)) ∷ asks 0 (call.Probe any_one any_one W) 9 (broke fault.Calls) ∷ []

-- an abort ends the run
abbrev pub aborted : List Line
aborted = asks 0 call.Init 7 done ∷ asks 0 (call.Abort W (pos 9)) 9 (gives (int 9)) ∷ asks 1 call.Init 7 nothing ∷ []

-- the result of a collective call is written at leave, which waits for the last arrival
abbrev pub met : List Line
met =
    asks 0 call.Init 7 done ∷ asks 1 call.Init 7 done
    ∷ asks 1 (call.Arrive (coll what.Bcast 0 1 0 (at 0 0) (at 1 0))) 9 done
    ∷ asks 1 (call.Leave W) 9 waits
    ∷ asks 0 (call.Arrive (coll what.Bcast 0 1 0 (at 0 0) (at 1 0))) 9 done
    ∷ asks 1 (call.Leave W) 9 done
    ∷ asks 1 (call.Load (at 1 0)) 9 (gives (int 7))
    ∷ []

-- what these runs come to
pub record TellingRuns : Type 0 where
  pub rank_first : Goes two bad_rank
  pub count_before_range : Goes two bad_count
  pub eager_marks : Goes two marked
  pub one_goes_on : Goes none_eager one_waits
  pub going : ending none_eager (after none_eager one_waits) ≡ end.Going
  pub both_are_held : Goes none_eager both_wait
  pub stuck : ending none_eager (after none_eager both_wait) ≡ end.Stuck
  pub calls : Goes (record two { calls = 2 }) one_too_many
  pub abort : Goes two aborted
  pub abort_is : ending two (after two aborted) ≡ end.Abort 0 (pos 9) 9
  pub results_at_leave : Goes two met
