use Rattle.std.proofs.Common.{◌≡◌, drop, Some, option_map}
use Rattle.c_types.specs.Formats as formats
use Rattle.c_types.specs.Drafts.{completed_from, parts_read}
use Rattle.c_types.proofs.formats.read_bytes.Given as goal

abbrev pub invariant-loop-byte : goal.invariant-loop-byte
invariant-loop-byte l = completed_from (Some l.begun) (drop l.byte-index l.bytes) l.draft ≡ option_map parts_read (formats.parts_from formats.Outside l.bytes)
