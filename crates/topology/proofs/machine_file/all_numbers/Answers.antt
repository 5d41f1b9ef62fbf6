use Rattle.std.proofs.Common.{◌∙◌, ap, sym, arith}
use Rattle.topology.specs.MachineFile.{together}
use Rattle.topology.proofs.FileLaws.{numbers_seen, together_more, together_none, together_all, cores-view}
use Rattle.topology.proofs.machine_file.all_numbers.Goals as goal

pub loop-table-preserved : goal.loop-table-preserved
loop-table-preserved c =
    rw c.in_ok-push-in-Some.ensures.items
    (together_more numbers_seen c.args.tables.now c.loop-table.table-index _ c.table-item.result c.in-Some.numbers c.loop-table.invariant (omega arith) c.table-item.is (sym c.core_numbers.ensures ∙ c.in-Some.is))

pub returns-in-None : goal.returns-in-None
returns-in-None c =
    sym (ap together (cores-view c.args.tables.now)
    ∙ together_none numbers_seen c.args.tables.now c.loop-table.table-index _ c.table-item.result c.loop-table.invariant (omega arith) c.table-item.is (sym c.core_numbers.ensures ∙ c.in-None.is))

pub returns : goal.returns
returns c =
    sym (ap together (cores-view c.args.tables.now)
    ∙ together_all numbers_seen c.args.tables.now c.loop-table.table-index _ c.loop-table.invariant (omega arith))
