-- What each of the 28 calls comes to, and which calls are enabled.
use Rattle.std.specs.Prelude.{ℕ, Bool, true, false}
use Rattle.mpc_values.specs.declared.calls.Call.{Call}
use Rattle.mpc_values.specs.declared.calls.Call.TheVariants as call
use Rattle.run_model.specs.Setup.{Setup}
use Rattle.run_model.specs.World.{Core}
use Rattle.run_model.specs.Outcomes.{Outcome, Does, Fails, Waits}
use Rattle.run_model.specs.MemoryCalls.{load, store, new, drop, malloc, free}
use Rattle.run_model.specs.TaskCalls.{print, finish, init, finalize, abort, rank, size}
use Rattle.run_model.specs.Posting.{post}
use Rattle.run_model.specs.Completing.{complete, test, any}
use Rattle.run_model.specs.Probing.{probe, iprobe}
use Rattle.run_model.specs.Collectives.{arrive, leave}
use Rattle.run_model.specs.Sharing.{enter, await, exit, bar, barwait}

-- What a call of a task comes to. That a task has as many entries as are allowed is not looked at here.
unfoldable pub act : Setup → Core → ℕ → Call → Outcome
act setup core task (call.Load at) = load setup core task at
act setup core task (call.Store at word) = store setup core task at word
act setup core task (call.New len) = new setup core task len
act setup core task (call.Drop obj) = drop core task obj
act setup core task (call.Malloc n) = malloc setup core task n
act setup core task (call.Free at) = free core task at
act setup core task (call.Print text) = print core task text
act setup core task (call.Broke fault) = Fails fault
act setup core task (call.Finish code) = finish core task code
act setup core task call.Init = init core task
act setup core task call.Finalize = finalize core task
act setup core task (call.Abort comm code) = abort core task comm code
act setup core task (call.Rank comm) = rank core task comm
act setup core task (call.Size comm) = size core task comm
act setup core task (call.Send at count kind peer tag comm sync) =
    post setup core task (record { send = true; at = at; count = count; kind = kind; peer = peer; tag = tag; comm = comm; sync = sync })
act setup core task (call.Recv at count kind peer tag comm) =
    post setup core task (record { send = false; at = at; count = count; kind = kind; peer = peer; tag = tag; comm = comm; sync = false })
act setup core task (call.Complete req) = complete core task req
act setup core task (call.Test req) = test core task req
act setup core task (call.AnyOf reqs) = any core task reqs
act setup core task (call.Probe peer tag comm) = probe core task peer tag comm
act setup core task (call.Iprobe peer tag comm) = iprobe core task peer tag comm
act setup core task (call.Arrive coll) = arrive setup core task coll
act setup core task (call.Leave comm) = leave setup core task comm
act setup core task (call.HlsEnter construct) = enter setup core task construct
act setup core task (call.HlsWait construct) = await setup core task construct
act setup core task (call.HlsExit construct) = exit setup core task construct
act setup core task (call.HlsBar construct) = bar setup core task construct
act setup core task (call.HlsBarWait construct) = barwait setup core task construct

-- the call does not wait
abbrev pub goes_on : Outcome → Bool
goes_on (Does answer core) = true
goes_on (Fails fault) = true
goes_on Waits = false

-- A call is enabled, but for one that waits: complete, any, probe, leave, await or barwait, that has no fault and does not
-- find what it waits for.
abbrev pub is_enabled : Setup → Core → ℕ → Call → Bool
is_enabled setup core task call = goes_on (act setup core task call)
