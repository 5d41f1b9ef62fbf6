-- Setups, calls and answers by short names, for worked cases.
use Rattle.std.specs.Prelude.{ℕ, ℤ, pos, negsuc, false, List, [], length, Option, None, Some}
use Rattle.std.specs.List.{range_with_len}
use Rattle.mpc_values.specs.declared.values.Word.{Word}
use Rattle.mpc_values.specs.declared.values.Word.TheVariants.{Int, Ptr, Comm, Null}
use Rattle.mpc_values.specs.declared.values.Obj.TheVariants.{Glob, Dyn}
use Rattle.mpc_values.specs.declared.values.Datatype.TheVariants as datatype
use Rattle.mpc_values.specs.declared.values.Op.TheVariants as op
use Rattle.mpc_values.specs.declared.calls.Call.{Call}
use Rattle.mpc_values.specs.declared.calls.Call.TheVariants as call
use Rattle.mpc_values.specs.declared.collectives.Coll.{Coll}
use Rattle.mpc_values.specs.declared.collectives.CollKind.{CollKind}
use Rattle.mpc_values.specs.declared.faults.Fault.{Fault}
use Rattle.mpc_values.specs.declared.owners.Level.{Level}
use Rattle.mpc_values.specs.declared.owners.StaticVar.{StaticVar}
use Rattle.mpc_values.specs.declared.answers.Answer.TheVariants.{Done, Gives, Posted, Got, Flag, Any, Entered}
use Rattle.mpc_values.specs.declared.answers.Way.TheVariants as way
use Rattle.mpc_base.specs.declared.journals.Out.{Out}
use Rattle.mpc_base.specs.declared.journals.Out.TheVariants.{Did, Broke, Waits}
use Rattle.c_tree.specs.declared.program.Construct.{Construct}
use Rattle.topology.specs.declared.core_numbers.CoreNumbers.{CoreNumbers}
use Rattle.topology.specs.Instances.{flat_machine}
use Rattle.run_model.specs.Setup.{Setup}

-- a private variable, and one that the instances of a level share, with these first words
abbrev pub private : List Word → StaticVar
private words = record { len = length words; level = None; first = words }

abbrev pub shared : Level → List Word → StaticVar
shared level words = record { len = length words; level = Some level; first = words }

abbrev pub int : ℕ → Word
int n = Int (pos n)

-- tasks on these cores of a machine, with these variables and constructs, and all defaults
abbrev pub setup_on : List CoreNumbers → List ℕ → List StaticVar → List Construct → Setup
setup_on machine cores variables constructs = record {
  program = record { variables = variables; functions = []; main = 0; constructs = constructs; lines = 20 };
  machine = machine;
  cores = cores;
  eager = 1024;
  quota = 65536;
  calls = 250000;
}

-- so many tasks, each on a core of its own of the flat machine
abbrev pub flat : ℕ → List StaticVar → Setup
flat tasks variables = setup_on (flat_machine tasks) (range_with_len 0 tasks) variables []

-- the place of a static variable, and of an object that the task made
abbrev pub at : ℕ → ℕ → Word
at variable place = Ptr (Glob variable) place

abbrev pub made : ℕ → ℕ → Word
made object place = Ptr (Dyn object) place

-- MPI_COMM_WORLD
abbrev pub W : Word
W = Comm 1

abbrev pub any_one : ℤ
any_one = negsuc 0

abbrev pub proc_null : ℤ
proc_null = negsuc 1

abbrev pub send_on : Word → Word → ℕ → ℤ → ℕ → Call
send_on comm place count peer tag = call.Send place (pos count) datatype.Int peer (pos tag) comm false

abbrev pub recv_on : Word → Word → ℕ → ℤ → ℤ → Call
recv_on comm place count peer tag = call.Recv place (pos count) datatype.Int peer tag comm

-- messages of MPI_INT on MPI_COMM_WORLD
abbrev pub send : Word → ℕ → ℤ → ℕ → Call
send place count peer tag = send_on W place count peer tag

abbrev pub recv : Word → ℕ → ℤ → ℤ → Call
recv place count peer tag = recv_on W place count peer tag

-- a collective call of MPI_INT on MPI_COMM_WORLD
abbrev pub coll : CollKind → ℕ → ℕ → ℕ → Word → Word → Coll
coll what root count other from into = record {
  what = what;
  comm = W;
  root = pos root;
  op = op.Sum;
  kind = datatype.Int;
  count = pos count;
  other = pos other;
  from = from;
  into = into;
  colour = pos 0;
  key = pos 0;
}

-- a call on the communicator that has no other arguments
abbrev pub plain : CollKind → Word → Coll
plain what comm = record (coll what 0 0 0 Null Null) { comm = comm }

-- what an entry tells
abbrev pub done : Option Out
done = Some (Did Done)

abbrev pub gives : Word → Option Out
gives word = Some (Did (Gives word))

abbrev pub posted : ℕ → ℕ → ℕ → ℕ → Option Out
posted req post met words = Some (Did (Posted req post met words))

abbrev pub got : ℤ → ℤ → ℕ → Option Out
got source tag count = Some (Did (Got (record { source = source; tag = tag; count = count })))

-- the empty status
abbrev pub got_nothing : Option Out
got_nothing = got any_one any_one 0

abbrev pub unset : Option Out
unset = Some (Did (Flag None))

abbrev pub set : ℤ → ℤ → ℕ → Option Out
set source tag count = Some (Did (Flag (Some (record { source = source; tag = tag; count = count }))))

abbrev pub any_is : ℤ → ℤ → ℤ → ℕ → Option Out
any_is index source tag count = Some (Did (Any index (record { source = source; tag = tag; count = count })))

abbrev pub runs : Option Out
runs = Some (Did (Entered way.Run))

abbrev pub skips : Option Out
skips = Some (Did (Entered way.Skip))

abbrev pub holds : Option Out
holds = Some (Did (Entered way.Hold))

abbrev pub waits : Option Out
waits = Some Waits

abbrev pub broke : Fault → Option Out
broke fault = Some (Broke fault)

-- no entry is made
abbrev pub nothing : Option Out
nothing = None
