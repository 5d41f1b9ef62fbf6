use Rattle.hls_sync.proofs.Made.{IsMade}
use Rattle.hls_sync.proofs.syncs.HlsSync.new.Given as goal

abbrev pub invariant-loop-row : goal.invariant-loop-row
invariant-loop-row l = IsMade l.rows l.row-index l.seats.items l.index l.instances.items l.numbers
