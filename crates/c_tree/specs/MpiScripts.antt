-- The script of each MPI function: what it asks first, for each of its requests, and last.
use Rattle.std.specs.Prelude.{List, []}
use Rattle.c_tree.specs.declared.mpi.MpiFunction.{MpiFunction}
use Rattle.c_tree.specs.declared.mpi.MpiFunction.TheVariants.{Init, Finalize, Abort, CommRank, CommSize, CommDup, CommSplit, CommFree, Send, Ssend, Isend, Issend, Irecv, Recv, Sendrecv, Wait, Test, Waitall, Waitany, Probe, Iprobe, GetCount, Barrier, Bcast, Reduce, Allreduce, Scan, Exscan, Gather, Allgather, Scatter, Alltoall}
use Rattle.c_tree.specs.declared.scripts.ScriptStep.{ScriptStep}
use Rattle.c_tree.specs.declared.scripts.TheConstants.{INIT_STEPS, FINALIZE_STEPS, ABORT_STEPS, COMM_RANK_STEPS, COMM_SIZE_STEPS, COMM_DUP_STEPS, COMM_SPLIT_STEPS, COMM_FREE_STEPS, SEND_STEPS, SSEND_STEPS, ISEND_STEPS, ISSEND_STEPS, IRECV_STEPS, RECV_STEPS, SENDRECV_STEPS, WAIT_STEPS, TEST_STEPS, PROBE_STEPS, IPROBE_STEPS, GET_COUNT_STEPS, BARRIER_STEPS, BCAST_STEPS, REDUCE_STEPS, ALLREDUCE_STEPS, SCAN_STEPS, EXSCAN_STEPS, GATHER_STEPS, ALLGATHER_STEPS, SCATTER_STEPS, ALLTOALL_STEPS, WAITALL_EACH, WAITANY_EACH, WAITANY_LAST}

-- what a function asks first
abbrev pub steps_of : MpiFunction → List ScriptStep
steps_of Init = INIT_STEPS
steps_of Finalize = FINALIZE_STEPS
steps_of Abort = ABORT_STEPS
steps_of CommRank = COMM_RANK_STEPS
steps_of CommSize = COMM_SIZE_STEPS
steps_of CommDup = COMM_DUP_STEPS
steps_of CommSplit = COMM_SPLIT_STEPS
steps_of CommFree = COMM_FREE_STEPS
steps_of Send = SEND_STEPS
steps_of Ssend = SSEND_STEPS
steps_of Isend = ISEND_STEPS
steps_of Issend = ISSEND_STEPS
steps_of Irecv = IRECV_STEPS
steps_of Recv = RECV_STEPS
steps_of Sendrecv = SENDRECV_STEPS
steps_of Wait = WAIT_STEPS
steps_of Test = TEST_STEPS
steps_of Waitall = []
steps_of Waitany = []
steps_of Probe = PROBE_STEPS
steps_of Iprobe = IPROBE_STEPS
steps_of GetCount = GET_COUNT_STEPS
steps_of Barrier = BARRIER_STEPS
steps_of Bcast = BCAST_STEPS
steps_of Reduce = REDUCE_STEPS
steps_of Allreduce = ALLREDUCE_STEPS
steps_of Scan = SCAN_STEPS
steps_of Exscan = EXSCAN_STEPS
steps_of Gather = GATHER_STEPS
steps_of Allgather = ALLGATHER_STEPS
steps_of Scatter = SCATTER_STEPS
steps_of Alltoall = ALLTOALL_STEPS

-- what it asks for each of its requests, whose number is its first argument
abbrev pub each_of : MpiFunction → List ScriptStep
each_of Init = []
each_of Finalize = []
each_of Abort = []
each_of CommRank = []
each_of CommSize = []
each_of CommDup = []
each_of CommSplit = []
each_of CommFree = []
each_of Send = []
each_of Ssend = []
each_of Isend = []
each_of Issend = []
each_of Irecv = []
each_of Recv = []
each_of Sendrecv = []
each_of Wait = []
each_of Test = []
each_of Waitall = WAITALL_EACH
each_of Waitany = WAITANY_EACH
each_of Probe = []
each_of Iprobe = []
each_of GetCount = []
each_of Barrier = []
each_of Bcast = []
each_of Reduce = []
each_of Allreduce = []
each_of Scan = []
each_of Exscan = []
each_of Gather = []
each_of Allgather = []
each_of Scatter = []
each_of Alltoall = []

-- what it asks last
abbrev pub last_of : MpiFunction → List ScriptStep
last_of Init = []
last_of Finalize = []
last_of Abort = []
last_of CommRank = []
last_of CommSize = []
last_of CommDup = []
last_of CommSplit = []
last_of CommFree = []
last_of Send = []
last_of Ssend = []
last_of Isend = []
last_of Issend = []
last_of Irecv = []
last_of Recv = []
last_of Sendrecv = []
last_of Wait = []
last_of Test = []
last_of Waitall = []
last_of Waitany = WAITANY_LAST
last_of Probe = []
last_of Iprobe = []
last_of GetCount = []
last_of Barrier = []
last_of Bcast = []
last_of Reduce = []
last_of Allreduce = []
last_of Scan = []
last_of Exscan = []
last_of Gather = []
last_of Allgather = []
last_of Scatter = []
last_of Alltoall = []
