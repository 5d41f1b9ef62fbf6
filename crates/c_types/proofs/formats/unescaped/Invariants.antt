use Rattle.std.proofs.Common.{◌≡◌, ◌++◌, drop, false}
use Rattle.c_types.specs.Formats.{unescaped}
use Rattle.c_types.proofs.formats.unescaped.Given as goal

abbrev pub invariant-loop-byte : goal.invariant-loop-byte
invariant-loop-byte l = l.read.items ++ unescaped l.pending (drop l.byte-index l.bytes) ≡ unescaped false l.bytes
