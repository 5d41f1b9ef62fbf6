-- The answers of collective calls and of sharing calls are of their kinds.
use Rattle.std.specs.Prelude.{ℕ, Bool, true, false, T, if◌then◌else◌, List, Option, Some, None, Result, Ok, Err}
use Rattle.mpc_values.specs.declared.values.Word.{Word}
use Rattle.mpc_values.specs.declared.faults.Fault.{Fault}
use Rattle.c_tree.specs.Asking.{OfDone, OfDoneOrWord, OfWay}
use Rattle.memory_model.specs.declared.kinds.Span.{Span}
use Rattle.run_model.specs.Setup.{Setup}
use Rattle.run_model.specs.World.{Core}
use Rattle.mpi_comm.specs.Communicators.{Group}
use Rattle.hls_sync.specs.Meetings.{Site}
use Rattle.run_model.specs.Outcomes.{Outcome, Does}
use Rattle.run_model.specs.Collectives as collectives
use Rattle.run_model.specs.Sharing as sharing
use Rattle.mpi_coll.specs.declared.arrivals.Arrival.{Arrival}
use Rattle.mpc_values.specs.declared.answers.Answer.TheVariants.{Done}
use Rattle.mpc_values.specs.declared.collectives.Coll.{Coll}
use Rattle.mpc_values.specs.declared.collectives.CollKind.{CollKind}
use Rattle.mpc_values.specs.declared.collectives.CollKind.TheVariants.{Barrier, Bcast, Reduce, Allreduce, Scan, Exscan, Gather, Allgather, Scatter, Alltoall, Dup, Split, Free}
use Rattle.c_tree.specs.declared.program.HlsKind.{HlsKind}
use Rattle.c_tree.specs.declared.program.Construct.{Construct}
use Rattle.run_model.specs.Fitting.{HasSingle}
use Rattle.run_model.proofs.Fitting.{Fits, fails_fits, does_fits, fits_if}

pub answer_fits : (what : CollKind) (number : ℕ) (core : Core) → Fits OfDoneOrWord (Does (collectives.answer_in what number) core)
unfolding Fits
answer_fits Dup number core = tt
answer_fits Split number core = tt
answer_fits Barrier number core = tt
answer_fits Bcast number core = tt
answer_fits Reduce number core = tt
answer_fits Allreduce number core = tt
answer_fits Scan number core = tt
answer_fits Exscan number core = tt
answer_fits Gather number core = tt
answer_fits Allgather number core = tt
answer_fits Scatter number core = tt
answer_fits Alltoall number core = tt
answer_fits Free number core = tt

pub arrive_into_fits : (core : Core) (group : Group) (coll : Coll) (words : List Word) (into : Result (Option Span) Fault) → Fits OfDone (collectives.arrive_into core group coll words into)
arrive_into_fits core group coll words (Err fault) = fails_fits OfDone _
arrive_into_fits core group coll words (Ok into) = does_fits OfDone _ _ tt

pub arrive_with_fits : (setup : Setup) (core : Core) (task : ℕ) (group : Group) (coll : Coll) (from : Result (Option Span) Fault) → Fits OfDone (collectives.arrive_with setup core task group coll from)
arrive_with_fits setup core task group coll (Err fault) = fails_fits OfDone _
arrive_with_fits setup core task group coll (Ok from) = search (fits_if, fails_fits, arrive_into_fits)

pub arrive_in_fits : (setup : Setup) (core : Core) (task : ℕ) (coll : Coll) (group : Group) → Fits OfDone (collectives.arrive_in setup core task coll group)
unfolding Fits
arrive_in_fits setup core task coll group = search (fits_if, fails_fits, arrive_with_fits)

pub leave_with_fits : (core : Core) (task : ℕ) (group : Group) (a : Arrival) (places : Option Span) (words : List Word) → Fits OfDoneOrWord (collectives.leave_with core task group a places words)
leave_with_fits core task group a places words = search (fits_if, fails_fits, answer_fits)

pub leave_at_fits : (setup : Setup) (core : Core) (task : ℕ) (group : Group) (a : Option Arrival) → Fits OfDoneOrWord (collectives.leave_at setup core task group a)
unfolding Fits
leave_at_fits setup core task group None = tt
leave_at_fits setup core task group (Some a) = search (fits_if, leave_with_fits)

pub leave_in_fits : (setup : Setup) (core : Core) (task : ℕ) (group : Option Group) → Fits OfDoneOrWord (collectives.leave_in setup core task group)
leave_in_fits setup core task None = does_fits OfDoneOrWord _ _ tt
leave_in_fits setup core task (Some group) = leave_at_fits setup core task group _

pub done_fits : (setup : Setup) (core : Core) (fits : HlsKind → Bool) (number : ℕ) (o : Site → Outcome) (c : Option Construct) → ((site : Site) → Fits OfDone (o site)) → Fits OfDone (sharing.at_construct setup core fits number o c)
done_fits setup core fits number o None h = does_fits OfDone _ _ tt
done_fits setup core fits number o (Some c) h = search (fits_if, does_fits, h)

pub waits_or_done_fits : (core : Core) (b : Bool) → Fits OfDone (sharing.done_or_waits core b)
unfolding Fits
waits_or_done_fits core true = tt
waits_or_done_fits core false = tt

pub way_fits : (setup : Setup) (core : Core) (number : ℕ) (o : Site → Outcome) (c : Option Construct) → HasSingle c → ((site : Site) → Fits OfWay (o site)) → Fits OfWay (sharing.at_construct setup core sharing.is_single number o c)
unfolding Fits
way_fits setup core number o None h f = absurd h
way_fits setup core number o (Some c) h f = chosen (sharing.is_single c.kind) (o (sharing.site_of setup number c)) (Does Done core) h (f (sharing.site_of setup number c))
  where
    chosen : (b : Bool) (x y : Outcome) → T b → Fits OfWay x → Fits OfWay (if b then x else y)
    chosen true x y h g = g
    chosen false x y h g = absurd h
