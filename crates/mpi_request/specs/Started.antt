-- What an active request awaits, and what it ends with (MPI 3.1, section 3.7).
use Rattle.std.specs.Prelude.{ℕ, ◌||◌, is_some, if◌then◌else◌, Option, Some, None, Result, Ok}
use Rattle.mpc_values.specs.declared.answers.Status.{Status}
use Rattle.mpc_values.specs.declared.faults.Fault.{Fault}
use Rattle.block_table.specs.declared.rows.Span.{Span}
use Rattle.mpi_request.specs.declared.started.Started.{Started}
use Rattle.mpi_request.specs.declared.started.Started.TheVariants.{AtOnce, Send, Recv}
use Rattle.mpi_request.specs.declared.started.Open.{Open}
use Rattle.mpi_request.specs.Messages.{empty_status}

-- the posting that a request awaits
abbrev pub post_of : Started → Option ℕ
post_of (AtOnce status) = None
post_of (Send post span eager) = Some post
post_of (Recv post span) = Some post

-- the places of its buffer
abbrev pub span_of : Started → Option Span
span_of (AtOnce status) = None
span_of (Send post span eager) = span
span_of (Recv post span) = span

-- What a request ends with, once it is ready: a send with the empty status, once it is eager or matched; a receive with
-- what its match told; one without a posting at once.
abbrev pub told_by : Started → Option (Result Status Fault) → Option (Result Status Fault)
told_by (AtOnce status) outcome = Some (Ok status)
told_by (Send post span eager) outcome = if eager || is_some outcome then Some (Ok empty_status) else None
told_by (Recv post span) outcome = outcome

abbrev pub told : Open → Option (Result Status Fault)
told open_one = told_by open_one.what open_one.outcome

-- a request that was just started
abbrev pub opened : Started → Open
opened what = record { what = what; outcome = None }
