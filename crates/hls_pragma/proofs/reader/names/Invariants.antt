use Rattle.std.proofs.Common.{◌≡◌, length}
use Rattle.std.specs.Option.{option_map}
use Rattle.hls_pragma.specs.Front.{names_at}
use Rattle.hls_pragma.proofs.NameSteps.{prepend}
use Rattle.hls_pragma.proofs.reader.names.Given as goal

abbrev pub invariant-loop-rest : goal.invariant-loop-rest
invariant-loop-rest l = names_at l.line l.fn.items ≡ option_map (prepend l.list.items) (names_at l.line l.rest)

abbrev pub decreases-loop-rest : goal.decreases-loop-rest
decreases-loop-rest l = length l.rest
