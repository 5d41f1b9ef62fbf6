-- The world of a run: what separate processes, which share nothing but their declared variables, hold at one moment.
-- It has no heap, no queues and no marks: those are found from these lists.
use Rattle.std.specs.Prelude.{ℕ, List, Option}
use Rattle.mpc_values.specs.declared.answers.Answer.{Answer}
use Rattle.memory_model.specs.Memory.{Memory}
use Rattle.mpi_queue.specs.History.{Made}
use Rattle.mpi_request.specs.declared.requests.Request.{Request}
use Rattle.mpi_request.specs.declared.requests.Carried.{Carried}
use Rattle.mpi_comm.specs.declared.communicators.Communicator.{Communicator}
use Rattle.mpi_coll.specs.declared.arrivals.Arrival.{Arrival}
use Rattle.hls_sync.specs.declared.visits.Visit.{Visit}
use Rattle.run_model.specs.declared.progress.Phase.{Phase}
use Rattle.run_model.specs.declared.progress.Course.{Course}
use Rattle.run_model.specs.declared.progress.Last.{Last}

-- What a run keeps of one task, beside its memory, its requests and its log: how many objects it has made, its output so
-- far, and how far it is with MPI.
pub record TaskState : Type 0 where
  pub made : ℕ
  pub output : List ℕ
  pub phase : Phase

-- What calls change. Tasks and their requests are in the order of the tasks' numbers; a task's requests are counted from 1,
-- and so are communicators. Postings are in the order of their numbers, counted from 1, each with its partner, and beside
-- them, in `carried`, what each of them carries. Arrivals, visits and exits are in the order in which they came.
pub record Core : Type 0 where
  pub memory : Memory
  pub tasks : List TaskState
  pub requests : List (List Request)
  pub postings : List Made
  pub carried : List Carried
  pub comms : List Communicator
  pub arrivals : List Arrival
  pub visits : List Visit
  pub exits : List Visit

-- What every call changes alike: each task's course, the answers that each has had, and the fault or abort that ended the
-- run, if one did.
pub record Log : Type 0 where
  pub courses : List Course
  pub answers : List (List Answer)
  pub last : Option Last

-- what a run holds at one moment
pub record World : Type 0 where
  pub core : Core
  pub log : Log
