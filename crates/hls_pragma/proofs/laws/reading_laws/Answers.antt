use Rattle.hls_pragma.proofs.Readings.{one_reading}
use Rattle.hls_pragma.proofs.laws.reading_laws.Goals as goal

pub returns : goal.returns
returns c = record { one_reading = one_reading }
