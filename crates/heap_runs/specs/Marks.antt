-- What may be done to the marks of places.
use Rattle.std.specs.Prelude.{Bool}
use Rattle.block_table.specs.declared.rows.Mark.{Mark}
use Rattle.block_table.specs.Rows.{may_send, is_free, is_send, is_receive}
use Rattle.heap_runs.specs.declared.marks.Act.{Act}
use Rattle.heap_runs.specs.declared.marks.Act.TheVariants.{Send, Receive, EndSend, EndReceive}

-- a message may do this at a place with this mark
abbrev pub may : Act → Mark → Bool
may Send mark = may_send mark
may Receive mark = is_free mark
may EndSend mark = is_send mark
may EndReceive mark = is_receive mark
