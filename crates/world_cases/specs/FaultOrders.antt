-- Which fault a call has where several causes stand together, by the first call after MPI_Init.
use Rattle.std.specs.Prelude.{ℤ, pos, negsuc, false, [], ◌∷◌}
use Rattle.mpc_values.specs.declared.values.Word.{Word}
use Rattle.mpc_values.specs.declared.values.Word.TheVariants.{Undef, Null, Comm, Req}
use Rattle.mpc_values.specs.declared.values.Datatype.TheVariants as datatype
use Rattle.mpc_values.specs.declared.calls.Call.{Call}
use Rattle.mpc_values.specs.declared.calls.Call.TheVariants as call
use Rattle.mpc_values.specs.declared.collectives.Coll.{Coll}
use Rattle.mpc_values.specs.declared.collectives.CollKind.TheVariants as what
use Rattle.mpc_values.specs.declared.faults.Fault.{Fault}
use Rattle.mpc_values.specs.declared.faults.Fault.TheVariants as fault
use Rattle.run_model.specs.Setup.{Setup}
use Rattle.run_model.specs.Played.{asks, Goes}
use Rattle.run_model.specs.Scenes.{private, int, flat, at, made, W, any_one, proc_null, send, recv, coll, done, posted, broke}

-- two ranks with `int a[3];`, and b, which is unset
abbrev pub two : Setup
two = flat 2 (private (int 1 ∷ int 2 ∷ int 3 ∷ []) ∷ private (Undef ∷ []) ∷ [])

-- rank 0 asks this first of all, and has this fault
abbrev pub BreaksFirst : Call → Fault → Type 0
BreaksFirst c f = Goes two (asks 0 c 6 (broke f) ∷ [])

-- rank 0 asks this after MPI_Init, and has this fault
abbrev pub Breaks : Call → Fault → Type 0
Breaks c f = Goes two (asks 0 call.Init 7 done ∷ asks 0 c 9 (broke f) ∷ [])

-- a communicator that was never made
abbrev pub nowhere : Word
nowhere = Comm 7

-- a negative count
abbrev pub less_than_none : ℤ
less_than_none = negsuc 0

-- a send and a receive on NULL, with these arguments
abbrev pub sends : Word → ℤ → ℤ → ℤ → Call
sends comm peer tag count = call.Send Null count datatype.Int peer tag comm false

abbrev pub receives : Word → ℤ → ℤ → ℤ → Call
receives comm peer tag count = call.Recv Null count datatype.Int peer tag comm

-- a broadcast on this communicator, from rank 9 with a negative count
abbrev pub broadcast : Word → Coll
broadcast comm = record (coll what.Bcast 9 0 0 Null Null) { comm = comm; count = less_than_none }

-- a sum on MPI_COMM_WORLD of so many words at a place, into a place
abbrev pub sum : Word → Word → Coll
sum from into = coll what.Allreduce 0 1 0 from into

pub record FaultOrders : Type 0 where
  -- a send that has everything wrong, and then one cause less each time: MPI_ANY_SOURCE and MPI_ANY_TAG are no peer and no tag
  -- of a send
  pub send_before_init : BreaksFirst (sends nowhere any_one any_one less_than_none) fault.NotInit
  pub send_comm : Breaks (sends nowhere any_one any_one less_than_none) fault.BadComm
  pub send_peer : Breaks (sends W any_one any_one less_than_none) fault.BadRank
  pub send_tag : Breaks (sends W (pos 1) any_one less_than_none) fault.BadTag
  pub send_count : Breaks (sends W (pos 1) (pos 0) less_than_none) fault.BadCount
  pub send_range : Breaks (sends W (pos 1) (pos 0) (pos 1)) fault.NullAccess
  -- the same of a receive, for which -3 is no source and -2 no tag
  pub receive_before_init : BreaksFirst (receives nowhere (negsuc 2) (negsuc 1) less_than_none) fault.NotInit
  pub receive_comm : Breaks (receives nowhere (negsuc 2) (negsuc 1) less_than_none) fault.BadComm
  pub receive_peer : Breaks (receives W (negsuc 2) (negsuc 1) less_than_none) fault.BadRank
  pub receive_tag : Breaks (receives W any_one (negsuc 1) less_than_none) fault.BadTag
  pub receive_count : Breaks (receives W any_one any_one less_than_none) fault.BadCount
  pub receive_range : Breaks (receives W any_one any_one (pos 1)) fault.NullAccess
  -- the group of two has no rank 2, and 32,767 is the last tag
  pub peer_past_the_group : Breaks (receives W (pos 2) any_one (pos 1)) fault.BadRank
  pub tag_past_the_last : Breaks (sends W (pos 1) (pos 32768) (pos 1)) fault.BadTag
  pub last_tag : Goes two (asks 0 call.Init 7 done ∷ asks 0 (sends W (pos 1) (pos 32767) (pos 0)) 9 (posted 1 1 0 0) ∷ [])
  -- MPI_PROC_NULL stands in place of the range alone
  pub nobody_before_init : BreaksFirst (sends W proc_null (pos 0) (pos 0)) fault.NotInit
  pub nobody_tag : Breaks (receives W proc_null (negsuc 1) less_than_none) fault.BadTag
  pub nobody_count : Breaks (sends W proc_null (pos 0) less_than_none) fault.BadCount
  -- a range: no pointer, then no live object, then outside it, then touched by a message under way
  pub no_pointer : Breaks (send (int 5) 1 (pos 1) 0) fault.NullAccess
  pub dead_and_outside : Breaks (send (made 1 9) 1 (pos 1) 0) fault.Dangling
  pub outside_and_touched : Goes two (
      asks 0 call.Init 7 done
      ∷ asks 0 (recv (at 0 0) 3 (pos 1) any_one) 9 (posted 1 1 0 0)
      ∷ asks 0 (send (at 0 0) 4 (pos 1) 0) 9 (broke fault.Bounds)
      ∷ [])
  pub touched : Goes two (
      asks 0 call.Init 7 done
      ∷ asks 0 (recv (at 0 2) 1 (pos 1) any_one) 9 (posted 1 1 0 0)
      ∷ asks 0 (send (at 0 0) 3 (pos 1) 0) 9 (broke fault.PendingTouch)
      ∷ [])
  -- a probe, that waits or not
  pub probe_before_init : BreaksFirst (call.Probe (pos 2) (negsuc 1) nowhere) fault.NotInit
  pub probe_comm : Breaks (call.Probe (pos 2) (negsuc 1) nowhere) fault.BadComm
  pub probe_peer : Breaks (call.Probe (pos 2) (negsuc 1) W) fault.BadRank
  pub probe_tag : Breaks (call.Probe any_one (negsuc 1) W) fault.BadTag
  pub iprobe_before_init : BreaksFirst (call.Iprobe (negsuc 2) (pos 32768) nowhere) fault.NotInit
  pub iprobe_comm : Breaks (call.Iprobe (negsuc 2) (pos 32768) nowhere) fault.BadComm
  pub iprobe_peer : Breaks (call.Iprobe (negsuc 2) (pos 32768) W) fault.BadRank
  pub iprobe_tag : Breaks (call.Iprobe proc_null (pos 32768) W) fault.BadTag
  -- an arrival: the root, the counts, what differs, the contribution's range and words, and the result's range
  pub arrive_before_init : BreaksFirst (call.Arrive (broadcast nowhere)) fault.NotInit
  pub arrive_comm : Breaks (call.Arrive (broadcast nowhere)) fault.BadComm
  pub arrive_root : Breaks (call.Arrive (broadcast W)) fault.BadRank
  pub arrive_negative_root : Breaks (call.Arrive (record (broadcast W) { root = any_one })) fault.BadRank
  pub arrive_count : Breaks (call.Arrive (record (broadcast W) { root = pos 1 })) fault.BadCount
  pub arrive_other_count : Breaks (call.Arrive (record (coll what.Alltoall 0 1 0 Null Null) { other = less_than_none })) fault.BadCount
  pub arrive_own_counts : Breaks (call.Arrive (coll what.Alltoall 0 1 2 Null Null)) fault.CollMismatch
  pub arrive_from : Breaks (call.Arrive (sum (at 1 1) (made 1 0))) fault.Bounds
  pub arrive_unset : Breaks (call.Arrive (sum (at 1 0) (made 1 0))) fault.Uninit
  pub arrive_into : Breaks (call.Arrive (sum (at 0 0) (made 1 0))) fault.Dangling
  -- what names no active request, and what names no communicator
  pub complete_before_init : BreaksFirst (call.Complete (Req 5)) fault.NotInit
  pub complete_request : Breaks (call.Complete (Req 5)) fault.BadRequest
  pub test_before_init : BreaksFirst (call.Test W) fault.NotInit
  pub test_request : Breaks (call.Test W) fault.BadRequest
  pub any_before_init : BreaksFirst (call.AnyOf (Req 0 ∷ Req 5 ∷ [])) fault.NotInit
  pub any_request : Breaks (call.AnyOf (Req 0 ∷ Req 5 ∷ [])) fault.BadRequest
  pub rank_before_init : BreaksFirst (call.Rank nowhere) fault.NotInit
  pub rank_comm : Breaks (call.Rank nowhere) fault.BadComm
  pub size_before_init : BreaksFirst (call.Size nowhere) fault.NotInit
  pub size_comm : Breaks (call.Size (Comm 0)) fault.BadComm
  pub abort_before_init : BreaksFirst (call.Abort nowhere (pos 1)) fault.NotInit
  pub abort_comm : Breaks (call.Abort nowhere (pos 1)) fault.BadComm
  pub finalize_before_init : BreaksFirst call.Finalize fault.NotInit
  -- after MPI_Finalize too
  pub after_finalize : Goes two (
      asks 0 call.Init 7 done
      ∷ asks 0 call.Finalize 9 done
      ∷ asks 0 (call.Rank W) 10 (broke fault.NotInit)
      ∷ [])
