-- Meetings of collective calls (MPI 3.1, chapter 5): the k-th arrivals of all members of a communicator.
use Rattle.std.specs.Prelude.{ℕ, ◌==◌, ◌&&◌, ◌||◌, not, Bool, List, length, filter, filter_map, find, Option, None}
use Rattle.std.specs.List.{list_any, last_or, range_with_len}
use Rattle.std.specs.Ordering.{int_eq}
use Rattle.mpc_values.specs.declared.collectives.Coll.{Coll}
use Rattle.mpc_values.specs.declared.collectives.CollKind.{CollKind}
use Rattle.mpc_values.specs.declared.collectives.CollKind.TheVariants.{Barrier, Bcast, Reduce, Allreduce, Scan, Exscan, Gather, Allgather, Scatter, Alltoall, Dup, Split, Free}
use Rattle.mpc_values.specs.declared.values.Op.{Op}
use Rattle.mpc_values.specs.declared.values.Op.TheVariants.{Max, Min, Sum, Prod, Land, Band, Lor, Bor, Lxor, Bxor}
use Rattle.mpi_args.specs.Datatypes.{is_same_datatype}
use Rattle.mpi_coll.specs.declared.arrivals.Arrival.{Arrival}
use Rattle.mpi_coll.specs.Arguments.{has_root, is_fold, has_words, count_of}

-- the calls by number
abbrev pub kind_number : CollKind → ℕ
kind_number Barrier = 0
kind_number Bcast = 1
kind_number Reduce = 2
kind_number Allreduce = 3
kind_number Scan = 4
kind_number Exscan = 5
kind_number Gather = 6
kind_number Allgather = 7
kind_number Scatter = 8
kind_number Alltoall = 9
kind_number Dup = 10
kind_number Split = 11
kind_number Free = 12

-- the operations by number
abbrev pub op_number : Op → ℕ
op_number Max = 0
op_number Min = 1
op_number Sum = 2
op_number Prod = 3
op_number Land = 4
op_number Band = 5
op_number Lor = 6
op_number Bor = 7
op_number Lxor = 8
op_number Bxor = 9

-- Two calls can be of one meeting: they agree in kind, and in what the kind has of root, operation, datatype and count.
abbrev pub agree : Coll → Coll → Bool
agree a b =
    kind_number a.what == kind_number b.what
    && ((not (has_root a.what) || int_eq a.root b.root)
    && ((not (is_fold a.what) || op_number a.op == op_number b.op)
    && ((not (has_words a.what) || is_same_datatype a.kind b.kind)
    && int_eq (count_of a) (count_of b))))

-- the arrivals of one member, in order
abbrev pub arrivals_of : List Arrival → ℕ → ℕ → List Arrival
arrivals_of arrivals comm rank = filter (λ (a : Arrival). a.comm == comm && a.rank == rank) arrivals

-- the number of the meeting that a member's next arrival belongs to
abbrev pub next_meeting : List Arrival → ℕ → ℕ → ℕ
next_meeting arrivals comm rank = length (arrivals_of arrivals comm rank)

-- a member's latest arrival
abbrev pub latest_arrival : List Arrival → ℕ → ℕ → Option Arrival
latest_arrival arrivals comm rank = last_or None (arrivals_of arrivals comm rank)

-- the arrival is one at this meeting
abbrev pub is_at : ℕ → ℕ → Arrival → Bool
is_at comm meeting a = a.comm == comm && a.meeting == meeting

-- The arrivals at a meeting so far, in rank order.
abbrev pub meeting_of : List Arrival → ℕ → ℕ → ℕ → List Arrival
meeting_of arrivals comm size meeting =
    filter_map (λ rank. find (λ (a : Arrival). is_at comm meeting a && a.rank == rank) arrivals) (range_with_len 0 size)

-- all members of a communicator of this size have arrived at the meeting
abbrev pub is_full : List Arrival → ℕ → ℕ → ℕ → Bool
is_full arrivals comm size meeting = length (meeting_of arrivals comm size meeting) == size

-- A call differs from an earlier arrival at the meeting.
abbrev pub differs : List Arrival → ℕ → ℕ → Coll → Bool
differs arrivals comm meeting coll = list_any (λ (a : Arrival). is_at comm meeting a && not (agree a.coll coll)) arrivals
