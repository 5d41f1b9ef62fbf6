use Rattle.hls_sync.proofs.Rows.{rows_make_a_site}
use Rattle.hls_sync.proofs.laws.rows_make_a_site.Goals as goal

pub returns : goal.returns
returns c = rows_make_a_site
