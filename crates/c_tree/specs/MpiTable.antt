-- The table of MPI functions: names and arguments.
use Rattle.std.specs.Prelude.{ℕ, List, [], ◌∷◌, cond, Option, None, Some, codes}
use Rattle.std.specs.Str.{bytes_eq}
use Rattle.c_tree.specs.declared.mpi.MpiFunction.{MpiFunction}
use Rattle.c_tree.specs.declared.mpi.MpiFunction.TheVariants.{Init, Finalize, Abort, CommRank, CommSize, CommDup, CommSplit, CommFree, Send, Ssend, Isend, Issend, Irecv, Recv, Sendrecv, Wait, Test, Waitall, Waitany, Probe, Iprobe, GetCount, Barrier, Bcast, Reduce, Allreduce, Scan, Exscan, Gather, Allgather, Scatter, Alltoall}
use Rattle.c_tree.specs.declared.mpi.Argument.{Argument}
use Rattle.c_tree.specs.declared.mpi.TheConstants.{MPI_FUNCTIONS, INIT_ARGUMENTS, FINALIZE_ARGUMENTS, ABORT_ARGUMENTS, COMM_RANK_ARGUMENTS, COMM_SIZE_ARGUMENTS, COMM_DUP_ARGUMENTS, COMM_SPLIT_ARGUMENTS, COMM_FREE_ARGUMENTS, SEND_ARGUMENTS, SSEND_ARGUMENTS, ISEND_ARGUMENTS, ISSEND_ARGUMENTS, IRECV_ARGUMENTS, RECV_ARGUMENTS, SENDRECV_ARGUMENTS, WAIT_ARGUMENTS, TEST_ARGUMENTS, WAITALL_ARGUMENTS, WAITANY_ARGUMENTS, PROBE_ARGUMENTS, IPROBE_ARGUMENTS, GET_COUNT_ARGUMENTS, BARRIER_ARGUMENTS, BCAST_ARGUMENTS, REDUCE_ARGUMENTS, ALLREDUCE_ARGUMENTS, SCAN_ARGUMENTS, EXSCAN_ARGUMENTS, GATHER_ARGUMENTS, ALLGATHER_ARGUMENTS, SCATTER_ARGUMENTS, ALLTOALL_ARGUMENTS}

-- the function's name in programs
abbrev pub mpi_name : MpiFunction → List ℕ
mpi_name Init = codes "MPI_Init"
mpi_name Finalize = codes "MPI_Finalize"
mpi_name Abort = codes "MPI_Abort"
mpi_name CommRank = codes "MPI_Comm_rank"
mpi_name CommSize = codes "MPI_Comm_size"
mpi_name CommDup = codes "MPI_Comm_dup"
mpi_name CommSplit = codes "MPI_Comm_split"
mpi_name CommFree = codes "MPI_Comm_free"
mpi_name Send = codes "MPI_Send"
mpi_name Ssend = codes "MPI_Ssend"
mpi_name Isend = codes "MPI_Isend"
mpi_name Issend = codes "MPI_Issend"
mpi_name Irecv = codes "MPI_Irecv"
mpi_name Recv = codes "MPI_Recv"
mpi_name Sendrecv = codes "MPI_Sendrecv"
mpi_name Wait = codes "MPI_Wait"
mpi_name Test = codes "MPI_Test"
mpi_name Waitall = codes "MPI_Waitall"
mpi_name Waitany = codes "MPI_Waitany"
mpi_name Probe = codes "MPI_Probe"
mpi_name Iprobe = codes "MPI_Iprobe"
mpi_name GetCount = codes "MPI_Get_count"
mpi_name Barrier = codes "MPI_Barrier"
mpi_name Bcast = codes "MPI_Bcast"
mpi_name Reduce = codes "MPI_Reduce"
mpi_name Allreduce = codes "MPI_Allreduce"
mpi_name Scan = codes "MPI_Scan"
mpi_name Exscan = codes "MPI_Exscan"
mpi_name Gather = codes "MPI_Gather"
mpi_name Allgather = codes "MPI_Allgather"
mpi_name Scatter = codes "MPI_Scatter"
mpi_name Alltoall = codes "MPI_Alltoall"

-- the first of these functions that has the name
abbrev pub first_named : List ℕ → List MpiFunction → Option MpiFunction
first_named name [] = None
first_named name (f ∷ fs) = cond (bytes_eq (mpi_name f) name) (Some f) (first_named name fs)

-- the function of this name, if there is one
unfoldable pub mpi_named : List ℕ → Option MpiFunction
mpi_named name = first_named name MPI_FUNCTIONS

-- what a function takes, in order
abbrev pub arguments_of : MpiFunction → List Argument
arguments_of Init = INIT_ARGUMENTS
arguments_of Finalize = FINALIZE_ARGUMENTS
arguments_of Abort = ABORT_ARGUMENTS
arguments_of CommRank = COMM_RANK_ARGUMENTS
arguments_of CommSize = COMM_SIZE_ARGUMENTS
arguments_of CommDup = COMM_DUP_ARGUMENTS
arguments_of CommSplit = COMM_SPLIT_ARGUMENTS
arguments_of CommFree = COMM_FREE_ARGUMENTS
arguments_of Send = SEND_ARGUMENTS
arguments_of Ssend = SSEND_ARGUMENTS
arguments_of Isend = ISEND_ARGUMENTS
arguments_of Issend = ISSEND_ARGUMENTS
arguments_of Irecv = IRECV_ARGUMENTS
arguments_of Recv = RECV_ARGUMENTS
arguments_of Sendrecv = SENDRECV_ARGUMENTS
arguments_of Wait = WAIT_ARGUMENTS
arguments_of Test = TEST_ARGUMENTS
arguments_of Waitall = WAITALL_ARGUMENTS
arguments_of Waitany = WAITANY_ARGUMENTS
arguments_of Probe = PROBE_ARGUMENTS
arguments_of Iprobe = IPROBE_ARGUMENTS
arguments_of GetCount = GET_COUNT_ARGUMENTS
arguments_of Barrier = BARRIER_ARGUMENTS
arguments_of Bcast = BCAST_ARGUMENTS
arguments_of Reduce = REDUCE_ARGUMENTS
arguments_of Allreduce = ALLREDUCE_ARGUMENTS
arguments_of Scan = SCAN_ARGUMENTS
arguments_of Exscan = EXSCAN_ARGUMENTS
arguments_of Gather = GATHER_ARGUMENTS
arguments_of Allgather = ALLGATHER_ARGUMENTS
arguments_of Scatter = SCATTER_ARGUMENTS
arguments_of Alltoall = ALLTOALL_ARGUMENTS
