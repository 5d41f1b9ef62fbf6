use Rattle.std.proofs.Common.{◌≡◌}
use Rattle.hls_sync.specs.Syncs.{rows_of}
use Rattle.hls_sync.specs.Cases.{rows}
use Rattle.hls_sync.proofs.tests.calls.Given as goal

abbrev pub invariant-loop-task : goal.invariant-loop-task
invariant-loop-task g l = rows_of l.syncs ≡ rows
