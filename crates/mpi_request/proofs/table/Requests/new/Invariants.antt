use Rattle.std.proofs.Common.{◌≡◌, replicate}
use Rattle.mpi_request.specs.Active.{no_own}
use Rattle.mpi_request.proofs.table.Requests.new.Given as goal

abbrev pub invariant-loop : goal.invariant-loop
invariant-loop l = l.all.items ≡ replicate l.counter no_own
