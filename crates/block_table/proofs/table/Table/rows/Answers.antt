use Rattle.std.proofs.Common.{ℕ, ◌++◌, map, ap, ◌∙◌}
use Rattle.block_table.specs.declared.entries.Entry.{Entry}
use Rattle.block_table.specs.Rows.{rows_of}
use Rattle.block_table.proofs.Tables.{rows_listed}
use Rattle.block_table.proofs.table.Table.rows.Goals as goal

pub loop-entry-init : goal.loop-entry-init
loop-entry-init c =
    ap (λ front. front ++ map (λ (e : ℕ × Entry). e.1.row) c.into_iter-entry-iterator.result) c.new-list.ensures.items
    ∙ (ap (map (λ (e : ℕ × Entry). e.1.row)) (c.into_iter-entry-iterator.ensures.into_iter_gives ∙ c.iter-entry-items.ensures.rest)
    ∙ (rows_listed c.self.inside.rows.slots 0 ∙ ap rows_of c.self.view_is))
