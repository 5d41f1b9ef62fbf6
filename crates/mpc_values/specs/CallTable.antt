-- The table of calls by number and name, and the names of faults.
use Rattle.std.specs.Prelude.{ℕ, Bool, List, [], ◌∷◌, codes, cond, nat_eq}
use Rattle.mpc_values.specs.declared.calls.Call.{Call}
use Rattle.mpc_values.specs.declared.calls.Call.TheVariants as call
use Rattle.mpc_values.specs.declared.faults.Fault.{Fault}
use Rattle.mpc_values.specs.declared.faults.Fault.TheVariants as fault

-- the number by which the journal keeps a call
abbrev pub call_number : Call → ℕ
call_number (call.Load at) = 1
call_number (call.Store at word) = 2
call_number (call.New len) = 3
call_number (call.Drop obj) = 4
call_number (call.Malloc n) = 5
call_number (call.Free at) = 6
call_number (call.Print text) = 7
call_number (call.Broke fault) = 8
call_number (call.Finish code) = 9
call_number call.Init = 10
call_number call.Finalize = 11
call_number (call.Abort comm code) = 12
call_number (call.Rank comm) = 13
call_number (call.Size comm) = 14
call_number (call.Send at count kind peer tag comm sync) = 15
call_number (call.Recv at count kind peer tag comm) = 16
call_number (call.Complete req) = 17
call_number (call.Test req) = 18
call_number (call.AnyOf reqs) = 19
call_number (call.Probe peer tag comm) = 20
call_number (call.Iprobe peer tag comm) = 21
call_number (call.Arrive coll) = 22
call_number (call.Leave comm) = 23
call_number (call.HlsEnter construct) = 24
call_number (call.HlsWait construct) = 25
call_number (call.HlsExit construct) = 26
call_number (call.HlsBar construct) = 27
call_number (call.HlsBarWait construct) = 28

-- the name by which reports and journals write a call
abbrev pub call_name : Call → List ℕ
call_name (call.Load at) = codes "load"
call_name (call.Store at word) = codes "store"
call_name (call.New len) = codes "new"
call_name (call.Drop obj) = codes "drop"
call_name (call.Malloc n) = codes "malloc"
call_name (call.Free at) = codes "free"
call_name (call.Print text) = codes "print"
call_name (call.Broke fault) = codes "broke"
call_name (call.Finish code) = codes "finish"
call_name call.Init = codes "init"
call_name call.Finalize = codes "finalize"
call_name (call.Abort comm code) = codes "abort"
call_name (call.Rank comm) = codes "rank"
call_name (call.Size comm) = codes "size"
call_name (call.Send at count kind peer tag comm sync) = codes "send"
call_name (call.Recv at count kind peer tag comm) = codes "recv"
call_name (call.Complete req) = codes "complete"
call_name (call.Test req) = codes "test"
call_name (call.AnyOf reqs) = codes "any"
call_name (call.Probe peer tag comm) = codes "probe"
call_name (call.Iprobe peer tag comm) = codes "iprobe"
call_name (call.Arrive coll) = codes "arrive"
call_name (call.Leave comm) = codes "leave"
call_name (call.HlsEnter construct) = codes "enter"
call_name (call.HlsWait construct) = codes "await"
call_name (call.HlsExit construct) = codes "exit"
call_name (call.HlsBar construct) = codes "bar"
call_name (call.HlsBarWait construct) = codes "barwait"

-- the name of the call of this number; no bytes where no call has it
abbrev pub name_of_number : ℕ → List ℕ
name_of_number number =
    cond (nat_eq number 1) (codes "load") (
    cond (nat_eq number 2) (codes "store") (
    cond (nat_eq number 3) (codes "new") (
    cond (nat_eq number 4) (codes "drop") (
    cond (nat_eq number 5) (codes "malloc") (
    cond (nat_eq number 6) (codes "free") (
    cond (nat_eq number 7) (codes "print") (
    cond (nat_eq number 8) (codes "broke") (
    cond (nat_eq number 9) (codes "finish") (
    cond (nat_eq number 10) (codes "init") (
    cond (nat_eq number 11) (codes "finalize") (
    cond (nat_eq number 12) (codes "abort") (
    cond (nat_eq number 13) (codes "rank") (
    cond (nat_eq number 14) (codes "size") (
    cond (nat_eq number 15) (codes "send") (
    cond (nat_eq number 16) (codes "recv") (
    cond (nat_eq number 17) (codes "complete") (
    cond (nat_eq number 18) (codes "test") (
    cond (nat_eq number 19) (codes "any") (
    cond (nat_eq number 20) (codes "probe") (
    cond (nat_eq number 21) (codes "iprobe") (
    cond (nat_eq number 22) (codes "arrive") (
    cond (nat_eq number 23) (codes "leave") (
    cond (nat_eq number 24) (codes "enter") (
    cond (nat_eq number 25) (codes "await") (
    cond (nat_eq number 26) (codes "exit") (
    cond (nat_eq number 27) (codes "bar") (
    cond (nat_eq number 28) (codes "barwait") (
    []))))))))))))))))))))))))))))

-- a fault's name
abbrev pub fault_name : Fault → List ℕ
fault_name fault.Overflow = codes "Overflow"
fault_name fault.Divide = codes "Divide"
fault_name fault.Shift = codes "Shift"
fault_name fault.Uninit = codes "Uninit"
fault_name fault.NullAccess = codes "NullAccess"
fault_name fault.Bounds = codes "Bounds"
fault_name fault.Dangling = codes "Dangling"
fault_name fault.PendingTouch = codes "PendingTouch"
fault_name fault.PendingDrop = codes "PendingDrop"
fault_name fault.NotInit = codes "NotInit"
fault_name fault.InitTwice = codes "InitTwice"
fault_name fault.NoFinalize = codes "NoFinalize"
fault_name fault.LeakedRequest = codes "LeakedRequest"
fault_name fault.BadRank = codes "BadRank"
fault_name fault.BadTag = codes "BadTag"
fault_name fault.BadCount = codes "BadCount"
fault_name fault.BadComm = codes "BadComm"
fault_name fault.BadRequest = codes "BadRequest"
fault_name fault.Truncate = codes "Truncate"
fault_name fault.Mistyped = codes "Mistyped"
fault_name fault.CollMismatch = codes "CollMismatch"
fault_name fault.Depth = codes "Depth"
fault_name fault.Turns = codes "Turns"
fault_name fault.Calls = codes "Calls"
fault_name fault.OutputFull = codes "OutputFull"
fault_name fault.StackFull = codes "StackFull"
