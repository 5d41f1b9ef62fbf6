-- What an MPI function asks, step by step.
use Rattle.std.specs.Prelude.{ℕ, zero, suc, ◌+◌, ◌*◌, ℤ, pos, negsuc, Bool, true, false, if◌then◌else◌, List, [], ◌∷◌, ◌++◌, Option, Some, None, Result, Ok, Err, slice_index_or}
use Rattle.mpc_values.specs.declared.values.Word.{Word}
use Rattle.mpc_values.specs.declared.values.Word.TheVariants.{Int, Null, Comm, Req}
use Rattle.mpc_values.specs.declared.calls.Call.{Call}
use Rattle.mpc_values.specs.declared.calls.Call.TheVariants as call
use Rattle.mpc_values.specs.declared.collectives.Coll.{Coll}
use Rattle.mpc_values.specs.declared.collectives.CollKind.TheVariants.{Free}
use Rattle.mpc_values.specs.declared.values.Op.TheVariants.{Sum}
use Rattle.mpc_values.specs.declared.values.Datatype.TheVariants as datatype
use Rattle.mpc_values.specs.declared.faults.Fault.{Fault}
use Rattle.mpc_values.specs.declared.faults.Fault.TheVariants.{BadCount}
use Rattle.mpc_values.specs.declared.answers.Answer.{Answer}
use Rattle.mpc_values.specs.declared.answers.Answer.TheVariants.{Posted, Got, Flag, Any}
use Rattle.mpc_values.specs.declared.answers.Status.{Status}
use Rattle.c_tree.specs.declared.program.MpiCall.{MpiCall}
use Rattle.c_tree.specs.declared.program.Width.TheVariants as width
use Rattle.c_tree.specs.declared.scripts.Target.{Target}
use Rattle.c_tree.specs.declared.scripts.Target.TheVariants.{At, Each}
use Rattle.c_tree.specs.declared.scripts.PostingArguments.{PostingArguments}
use Rattle.c_tree.specs.declared.scripts.CollArguments.{CollArguments}
use Rattle.c_tree.specs.declared.scripts.ScriptStep.{ScriptStep}
use Rattle.c_tree.specs.declared.scripts.ScriptStep.TheVariants as step
use Rattle.c_tree.specs.MpiScripts.{steps_of, each_of, last_of}
use Rattle.c_tree.specs.Numbers.{number_of}
use Rattle.c_tree.specs.Words.{comm_of, request_of, pointer_of, moved}
use Rattle.c_tree.specs.Asking.{Step, ◌>>=◌, pure, ask, fault, word_of, Next, Over, Misfit}

-- What a function has found so far: the word that was last given or loaded, the request that was last posted or
-- loaded, the one before it, the requests that were collected, the status, where one was given, and an index.
pub record Found : Type 0 where
  pub word : Word
  pub request : Word
  pub earlier : Word
  pub requests : List Word
  pub status : Option Status
  pub index : ℤ

abbrev pub nothing_found : Found
nothing_found = record { word = Null; request = Req 0; earlier = Req 0; requests = []; status = None; index = pos 0 }

-- the argument of a number
abbrev pub argument : List Word → ℕ → Word
argument arguments number = slice_index_or arguments number Null

-- the arguments read as what is due
abbrev pub number_at : List Word → ℕ → ℤ
number_at arguments number = number_of width.Int (argument arguments number)

abbrev pub comm_at : List Word → ℕ → Word
comm_at arguments number = comm_of (argument arguments number)

abbrev pub pointer_at : List Word → ℕ → Word
pointer_at arguments number = pointer_of (argument arguments number)

-- the same of an argument that a kind of call may lack
abbrev pub number_or : List Word → Option ℕ → ℤ
number_or arguments None = pos 0
number_or arguments (Some number) = number_at arguments number

abbrev pub pointer_or : List Word → Option ℕ → Word
pointer_or arguments None = Null
pointer_or arguments (Some number) = pointer_at arguments number

-- The place that a target names: for the requests of a list that of this index. To go on in a list is to move a
-- pointer, also by 0.
abbrev pub place_of : List Word → ℕ → Target → Result Word Fault
place_of arguments index (At number) = Ok (pointer_at arguments number)
place_of arguments index (Each number words) = moved (pointer_at arguments number) (pos (words * index))

-- the place of one word of a status: the first is the status's own place
abbrev pub word_behind : Result Word Fault → ℕ → Result Word Fault
word_behind (Err f) word = Err f
word_behind (Ok place) zero = Ok place
word_behind (Ok place) (suc word) = moved place (pos (suc word))

-- What a step wants: a call, nothing, or that the task fails.
pub data Wanted : Type 0 where
  Wants : (call : Call) → Wanted
  Skips : Wanted
  Breaks : (fault : Fault) → Wanted

-- a load or a store at a place, where there is one
abbrev pub loaded : Result Word Fault → Wanted
loaded (Ok place) = Wants (call.Load place)
loaded (Err f) = Breaks f

abbrev pub stored : Result Word Fault → Word → Wanted
stored (Ok place) word = Wants (call.Store place word)
stored (Err f) word = Breaks f

-- one of the words of a status, by its number
abbrev pub status_word : Status → ℕ → Word
status_word status zero = Int status.source
status_word status (suc zero) = Int status.tag
status_word status word = Int (pos status.count)

-- a word of the status goes to its place, where one was given and is wanted
abbrev pub status_wanted : Bool → Option Status → Result Word Fault → ℕ → Wanted
status_wanted true status place word = Skips
status_wanted false None place word = Skips
status_wanted false (Some status) place word = stored (word_behind place word) (status_word status word)

-- where a status was given
abbrev pub where_given : Option Status → Wanted → Wanted
where_given None wanted = Skips
where_given (Some status) wanted = wanted

abbrev pub flag_of : Option Status → Word
flag_of None = Int (pos 0)
flag_of (Some status) = Int (pos 1)

-- a store of MPI_REQUEST_NULL in a list of requests, at an index that is not negative
abbrev pub null_at_index : Word → ℤ → Wanted
null_at_index first (pos index) = stored (moved first (pos index)) (Req 0)
null_at_index first (negsuc index) = Skips

abbrev pub send_of : MpiCall → List Word → PostingArguments → Bool → Call
send_of mpi arguments p sync =
    call.Send (pointer_at arguments p.at) (number_at arguments p.count) mpi.kind (number_at arguments p.peer) (number_at arguments p.tag) (comm_at arguments p.comm) sync

abbrev pub recv_of : MpiCall → List Word → PostingArguments → Call
recv_of mpi arguments p =
    call.Recv (pointer_at arguments p.at) (number_at arguments p.count) mpi.received (number_at arguments p.peer) (number_at arguments p.tag) (comm_at arguments p.comm)

abbrev pub coll_of : MpiCall → List Word → CollArguments → Coll
coll_of mpi arguments c = record {
  what = c.kind;
  comm = comm_at arguments c.comm;
  root = number_or arguments c.root;
  op = mpi.op;
  kind = mpi.kind;
  count = number_or arguments c.count;
  other = number_or arguments c.other;
  from = pointer_or arguments c.from;
  into = pointer_or arguments c.into;
  colour = number_or arguments c.colour;
  key = number_or arguments c.key;
}

-- the end of a communicator
abbrev pub free_of : Word → Coll
free_of comm = record {
  what = Free;
  comm = comm;
  root = pos 0;
  op = Sum;
  kind = datatype.Int;
  count = pos 0;
  other = pos 0;
  from = Null;
  into = Null;
  colour = pos 0;
  key = pos 0;
}

-- what a step wants of these arguments, for the request of an index, behind what was found
abbrev pub wanted : MpiCall → List Word → ℕ → Found → ScriptStep → Wanted
wanted mpi arguments index found step.Init = Wants call.Init
wanted mpi arguments index found step.Finalize = Wants call.Finalize
wanted mpi arguments index found (step.Abort comm code) = Wants (call.Abort (comm_at arguments comm) (number_at arguments code))
wanted mpi arguments index found (step.Rank comm) = Wants (call.Rank (comm_at arguments comm))
wanted mpi arguments index found (step.Size comm) = Wants (call.Size (comm_at arguments comm))
wanted mpi arguments index found (step.LoadComm place) = Wants (call.Load (pointer_at arguments place))
wanted mpi arguments index found (step.Arrive coll) = Wants (call.Arrive (coll_of mpi arguments coll))
wanted mpi arguments index found (step.Leave comm) = Wants (call.Leave (comm_at arguments comm))
wanted mpi arguments index found step.ArriveFree = Wants (call.Arrive (free_of found.word))
wanted mpi arguments index found step.LeaveFree = Wants (call.Leave found.word)
wanted mpi arguments index found (step.StoreWord place) = Wants (call.Store (pointer_at arguments place) found.word)
wanted mpi arguments index found (step.StoreNullComm place) = Wants (call.Store (pointer_at arguments place) (Comm 0))
wanted mpi arguments index found (step.Send p) = Wants (send_of mpi arguments p false)
wanted mpi arguments index found (step.SyncSend p) = Wants (send_of mpi arguments p true)
wanted mpi arguments index found (step.Recv p) = Wants (recv_of mpi arguments p)
wanted mpi arguments index found step.Complete = Wants (call.Complete found.request)
wanted mpi arguments index found step.CompleteEarlier = Wants (call.Complete found.earlier)
wanted mpi arguments index found (step.StoreRequest place) = Wants (call.Store (pointer_at arguments place) found.request)
wanted mpi arguments index found (step.LoadRequest target) = loaded (place_of arguments index target)
wanted mpi arguments index found (step.CollectRequest target) = loaded (place_of arguments index target)
wanted mpi arguments index found step.Test = Wants (call.Test found.request)
wanted mpi arguments index found (step.StoreNullRequest target) = where_given found.status (stored (place_of arguments index target) (Req 0))
wanted mpi arguments index found step.AnyOf = Wants (call.AnyOf found.requests)
wanted mpi arguments index found (step.StoreNullAtIndex place) = null_at_index (pointer_at arguments place) found.index
wanted mpi arguments index found (step.StoreIndex place) = Wants (call.Store (pointer_at arguments place) (Int found.index))
wanted mpi arguments index found (step.StoreFlag place) = Wants (call.Store (pointer_at arguments place) (flag_of found.status))
wanted mpi arguments index found (step.StoreStatus target word) = status_wanted mpi.ignored found.status (place_of arguments index target) word
wanted mpi arguments index found (step.Probe peer tag comm) = Wants (call.Probe (number_at arguments peer) (number_at arguments tag) (comm_at arguments comm))
wanted mpi arguments index found (step.Iprobe peer tag comm) = Wants (call.Iprobe (number_at arguments peer) (number_at arguments tag) (comm_at arguments comm))
wanted mpi arguments index found (step.LoadCount place) = loaded (word_behind (Ok (pointer_at arguments place)) 2)

-- the request that a posting made
abbrev pub posted : Answer → Word
posted (Posted req post met words) = Req req
posted answer = Req 0

-- the status that an answer gives
abbrev pub status_of : Answer → Option Status
status_of (Got status) = Some status
status_of (Flag status) = status
status_of (Any index status) = Some status
status_of answer = None

abbrev pub index_of : Answer → ℤ
index_of (Any index status) = index
index_of answer = pos 0

-- what is found behind the answer to a step
abbrev pub found_behind : ScriptStep → Found → Answer → Found
found_behind (step.Rank comm) found answer = record found { word = Int (number_of width.Int (word_of answer)) }
found_behind (step.Size comm) found answer = record found { word = Int (number_of width.Int (word_of answer)) }
found_behind (step.LoadComm place) found answer = record found { word = comm_of (word_of answer) }
found_behind (step.Leave comm) found answer = record found { word = comm_of (word_of answer) }
found_behind (step.Send p) found answer = record found { request = posted answer; earlier = found.request }
found_behind (step.SyncSend p) found answer = record found { request = posted answer; earlier = found.request }
found_behind (step.Recv p) found answer = record found { request = posted answer; earlier = found.request }
found_behind step.Complete found answer = record found { status = status_of answer }
found_behind step.CompleteEarlier found answer = record found { status = status_of answer }
found_behind (step.LoadRequest target) found answer = record found { request = request_of (word_of answer) }
found_behind (step.CollectRequest target) found answer = record found { requests = found.requests ++ request_of (word_of answer) ∷ [] }
found_behind step.Test found answer = record found { status = status_of answer }
found_behind step.AnyOf found answer = record found { status = status_of answer; index = index_of answer }
found_behind (step.Probe peer tag comm) found answer = record found { status = status_of answer }
found_behind (step.Iprobe peer tag comm) found answer = record found { status = status_of answer }
found_behind (step.LoadCount place) found answer = record found { word = Int (number_of width.Int (word_of answer)) }
found_behind other found answer = found

-- behind the answer to finish or abort nothing is asked, and no answer is left
abbrev pub over : List Answer → Next
over [] = Over
over (answer ∷ more) = Misfit

-- whether the run ends behind the answer to a call
abbrev pub ends_run : Call → Bool
ends_run (call.Abort comm code) = true
ends_run other = false

-- asks what a step wants, and finds what the answer tells
abbrev pub take_step : ScriptStep → ℕ → Found → Wanted → Step Found
take_step s line found (Wants wanted') k state =
    ask wanted' line (λ answer state'. if ends_run wanted' then over state'.answers else k (found_behind s found answer) state') state
take_step s line found Skips k state = k found state
take_step s line found (Breaks f) k state = fault f line k state

-- the steps of a list, one after the other
abbrev pub take_steps : MpiCall → List Word → ℕ → ℕ → List ScriptStep → Found → Step Found
take_steps mpi arguments line index [] found = pure found
take_steps mpi arguments line index (s ∷ steps) found = do
  found' ← take_step s line found (wanted mpi arguments index found s)
  take_steps mpi arguments line index steps found'

-- the steps of a list for so many requests, from the one of an index on
abbrev pub take_each : MpiCall → List Word → ℕ → List ScriptStep → ℕ → ℕ → Found → Step Found
take_each mpi arguments line steps index zero found = pure found
take_each mpi arguments line steps index (suc more) found = do
  found' ← take_steps mpi arguments line index steps found
  take_each mpi arguments line steps (index + 1) more found'

-- the steps for each request, whose number is the first argument, where a function has such steps
abbrev pub take_requests : MpiCall → List Word → ℕ → List ScriptStep → ℤ → Found → Step Found
take_requests mpi arguments line [] count found = pure found
take_requests mpi arguments line (s ∷ steps) (pos count) found = take_each mpi arguments line (s ∷ steps) 0 count found
take_requests mpi arguments line (s ∷ steps) (negsuc count) found = fault BadCount line

-- What an MPI function asks of its arguments at a line.
abbrev pub asks_of : MpiCall → List Word → ℕ → Step Found
asks_of mpi arguments line = do
  found ← take_steps mpi arguments line 0 (steps_of mpi.function) nothing_found
  found' ← take_requests mpi arguments line (each_of mpi.function) (number_at arguments 0) found
  take_steps mpi arguments line 0 (last_of mpi.function) found'
