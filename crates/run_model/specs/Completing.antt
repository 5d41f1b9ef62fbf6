-- What the calls that complete requests come to: complete, test and any (MPI 3.1, sections 3.7.3 and 3.7.5).
use Rattle.std.specs.Prelude.{ℕ, List, Some, None}
use Rattle.mpc_values.specs.declared.values.Word.{Word}
use Rattle.mpc_values.specs.declared.answers.Answer.TheVariants.{Got, Flag, Any}
use Rattle.mpi_request.specs.Completing.{Completion, Ends, Breaks, NotReady, completion, any_completion}
use Rattle.run_model.specs.World.{Core}
use Rattle.run_model.specs.Outcomes.{Outcome, Does, Fails, Waits, requests_of, with_requests, inside_mpi}

-- how a task finds what a word names
abbrev pub found : Core → ℕ → Word → Completion
found core task word = completion core.postings core.carried (requests_of core task) word

-- a wait by how it finds the request
abbrev pub completed : Core → ℕ → Completion → Outcome
completed core task (Ends index status requests) = Does (Got status) (with_requests core task requests)
completed core task (Breaks fault) = Fails fault
completed core task NotReady = Waits

-- MPI_Wait's part: waits until the request is ready.
unfoldable pub complete : Core → ℕ → Word → Outcome
complete core task word = inside_mpi core task (completed core task (found core task word))

-- a test by how it finds the request
abbrev pub tested : Core → ℕ → Completion → Outcome
tested core task (Ends index status requests) = Does (Flag (Some status)) (with_requests core task requests)
tested core task (Breaks fault) = Fails fault
tested core task NotReady = Does (Flag None) core

-- MPI_Test's part: an unset flag, where the request is not ready.
unfoldable pub test : Core → ℕ → Word → Outcome
test core task word = inside_mpi core task (tested core task (found core task word))

-- a wait for any of several requests by how it finds them
abbrev pub any_completed : Core → ℕ → Completion → Outcome
any_completed core task (Ends index status requests) = Does (Any index status) (with_requests core task requests)
any_completed core task (Breaks fault) = Fails fault
any_completed core task NotReady = Waits

-- MPI_Waitany's part: waits until one is ready, unless all are null.
unfoldable pub any : Core → ℕ → List Word → Outcome
any core task words = inside_mpi core task (any_completed core task (any_completion core.postings core.carried (requests_of core task) words))
