use Rattle.std.proofs.Common.{map, ap, sym, subst, ◌∙◌}
use Rattle.run_model.specs.Maps.{MapAgrees}
use Rattle.node_core.specs.HandedBack.{map_row_of}
use Rattle.node_core.proofs.HandingBack.{map_is}
use Rattle.block_table.specs.Rows.{rows_of}
use Rattle.node_core.proofs.records.map_of.Goals as goal

pub returns-in_ok-map-in-Finished-clause-finished : goal.returns-in_ok-map-in-Finished-clause-finished
returns-in_ok-map-in-Finished-clause-finished c = λ ends m shows.
    subst (λ rows. MapAgrees rows c.of-in-Finished.result m) (sym (c.of.ensures ∙ c.in_ok-map-in-Finished.ensures ∙ ap (map map_row_of) (c.as_slice.ensures.value ∙ c.in_ok-rows-in-Finished.ensures)))
    (subst (λ words. MapAgrees (map map_row_of (rows_of c.args.space.heap.rows)) words m) (sym c.of-in-Finished.ensures)
    (map_is (rows_of c.args.space.heap.rows) c.words-words.result.items c.args.space.heap m c.words-words.ensures shows))
