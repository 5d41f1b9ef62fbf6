-- An answer that a call is given is one of the call's kind, but for an enter of a single that the program does not have.
use Rattle.std.specs.Prelude.{ℕ, true, false}
use Rattle.mpc_values.specs.declared.calls.Call.{Call}
use Rattle.mpc_values.specs.declared.calls.Call.TheVariants as call
use Rattle.mpc_values.specs.declared.answers.Answer.TheVariants.{Done, Flag, Entered}
use Rattle.c_tree.specs.Asking.{OfDone, OfWord, OfStatus, OfFlag, OfAny, OfWay, kind_of}
use Rattle.memory_model.specs.Marks.{barred_to_loads, barred_to_stores}
use Rattle.memory_model.specs.Ranges.{range_of}
use Rattle.mpi_request.specs.Pending.{marks_of}
use Rattle.mpi_request.specs.Completing.{any_completion}
use Rattle.mpi_comm.specs.Communicators.{old_group_of, view_of}
use Rattle.hls_sync.specs.Ways.{way_of, may_go, may_leave_bar, running_visit, with_exit}
use Rattle.run_model.specs.Setup.{Setup}
use Rattle.run_model.specs.World.{Core}
use Rattle.run_model.specs.Owners.{owner_of}
use Rattle.run_model.specs.Outcomes.{state_of, requests_of}
use Rattle.run_model.specs.MemoryCalls as memory
use Rattle.run_model.specs.TaskCalls as task'
use Rattle.run_model.specs.Posting as posting
use Rattle.run_model.specs.Completing as completing
use Rattle.run_model.specs.Probing as probing
use Rattle.run_model.specs.Collectives as collectives
use Rattle.run_model.specs.Sharing as sharing
use Rattle.run_model.specs.Act.{act}
use Rattle.run_model.specs.Fitting.{IsKnown}
use Rattle.run_model.proofs.Fitting.{Fits, fails_fits, does_fits, fits_if, fits_inside, fits_group, fits_part}
use Rattle.run_model.proofs.FittingAccesses.{fits_accessed, load_fits, store_fits, malloc_fits, new_fits, drop_fits, free_fits}
use Rattle.run_model.proofs.FittingMessages.{printed_fits, begun_fits, offered_fits, completed_fits, tested_fits, any_fits, probe_fits, waits_fits}
use Rattle.run_model.proofs.FittingMeetings.{arrive_in_fits, leave_in_fits, done_fits, waits_or_done_fits, way_fits}

pub answers_fit : (setup : Setup) (core : Core) (task : ℕ) (c : Call) → IsKnown setup c → Fits (kind_of c) (act setup core task c)
unfolding act memory.load memory.store memory.new memory.drop memory.malloc memory.free task'.print task'.finish task'.init task'.finalize task'.abort task'.rank task'.size posting.post completing.complete completing.test completing.any probing.probe probing.iprobe collectives.arrive collectives.leave sharing.enter sharing.await sharing.exit sharing.bar sharing.barwait
answers_fit setup core task (call.Load at) h = fits_accessed OfWord core task _ (load_fits (memory.objects_of core task) (range_of (owner_of setup task) (barred_to_loads (marks_of core.requests)) core.memory at 1))
answers_fit setup core task (call.Store at word) h = fits_accessed OfDone core task _ (store_fits (memory.objects_of core task) word (range_of (owner_of setup task) (barred_to_stores (marks_of core.requests)) core.memory at 1))
answers_fit setup core task (call.New len) h = fits_accessed OfWord core task _ (new_fits setup.quota task (memory.objects_of core task) len)
answers_fit setup core task (call.Drop obj) h = fits_accessed OfDone core task _ (drop_fits (marks_of core.requests) task (memory.objects_of core task) obj)
answers_fit setup core task (call.Malloc n) h = fits_accessed OfWord core task _ (malloc_fits setup.quota task (memory.objects_of core task) n)
answers_fit setup core task (call.Free at) h = fits_accessed OfDone core task _ (free_fits (marks_of core.requests) task (memory.objects_of core task) at)
answers_fit setup core task (call.Print text) h = fits_part OfWord _ _ (printed_fits (state_of core task).output text)
answers_fit setup core task (call.Broke fault) h = fails_fits _ _
answers_fit setup core task (call.Finish code) h = search (fits_if, fails_fits, does_fits)
answers_fit setup core task call.Init h = fits_part OfDone (task'.with_phase core task) _ (begun_fits (state_of core task).phase)
answers_fit setup core task call.Finalize h = fits_inside OfDone core task _ (search (fits_if, fails_fits, does_fits))
answers_fit setup core task (call.Abort comm code) h = fits_group OfWord core task comm _ (λ group. does_fits OfWord _ _ tt)
answers_fit setup core task (call.Rank comm) h = fits_group OfWord core task comm _ (λ group. does_fits OfWord _ _ tt)
answers_fit setup core task (call.Size comm) h = fits_group OfWord core task comm _ (λ group. does_fits OfWord _ _ tt)
answers_fit setup core task (call.Send at count kind peer tag comm sync) h = offered_fits core task true _
answers_fit setup core task (call.Recv at count kind peer tag comm) h = offered_fits core task false _
answers_fit setup core task (call.Complete req) h = fits_inside OfStatus core task _ (completed_fits core task (completing.found core task req))
answers_fit setup core task (call.Test req) h = fits_inside OfFlag core task _ (tested_fits core task (completing.found core task req))
answers_fit setup core task (call.AnyOf reqs) h = fits_inside OfAny core task _ (any_fits core task (any_completion core.postings core.carried (requests_of core task) reqs))
answers_fit setup core task (call.Probe peer tag comm) h = fits_group OfStatus core task comm _ (λ group. probe_fits OfStatus core task peer tag _ (view_of group) (waits_fits core))
answers_fit setup core task (call.Iprobe peer tag comm) h = fits_group OfFlag core task comm _ (λ group. probe_fits OfFlag core task peer tag _ (view_of group) (λ status. does_fits OfFlag (Flag status) core tt))
answers_fit setup core task (call.Arrive coll) h = fits_group OfDone core task coll.comm _ (arrive_in_fits setup core task coll)
answers_fit setup core task (call.Leave comm) h = leave_in_fits setup core task (old_group_of core.comms task comm)
answers_fit setup core task (call.HlsEnter construct) h = way_fits setup core construct _ (sharing.construct_of setup construct) h (λ site. does_fits OfWay (Entered (way_of site core.visits task)) (sharing.visiting core task construct) tt)
answers_fit setup core task (call.HlsWait construct) h =
    done_fits setup core sharing.is_waiting_single construct _ (sharing.construct_of setup construct) (λ site. waits_or_done_fits core (may_go site core.visits core.exits task))
answers_fit setup core task (call.HlsExit construct) h =
    done_fits setup core sharing.is_single construct _ (sharing.construct_of setup construct) (λ site. does_fits OfDone Done (record core { exits = with_exit core.exits (running_visit site core.visits core.exits task) }) tt)
answers_fit setup core task (call.HlsBar construct) h =
    done_fits setup core sharing.is_barrier construct _ (sharing.construct_of setup construct) (λ site. does_fits OfDone Done (sharing.visiting core task construct) tt)
answers_fit setup core task (call.HlsBarWait construct) h =
    done_fits setup core sharing.is_barrier construct _ (sharing.construct_of setup construct) (λ site. waits_or_done_fits core (may_leave_bar site core.visits task))
