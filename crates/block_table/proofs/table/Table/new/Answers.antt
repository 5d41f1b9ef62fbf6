use Rattle.std.proofs.Common.{[], subst, sym}
use Rattle.block_table.specs.Index.{Lines}
use Rattle.block_table.specs.Kept.{Agrees}
use Rattle.block_table.proofs.Tables.{agrees_empty, roomy_empty}
use Rattle.block_table.proofs.table.Table.new.Goals as goal

pub invariant_of-result : goal.invariant_of-result
invariant_of-result c = record {
  agrees = subst (λ slots. Agrees slots c.new-2.result) (sym c.new.ensures.empty) (subst (λ (index : Lines). Agrees [] index) (sym c.new-2.ensures) agrees_empty);
  roomy = roomy_empty c.new.result.slots c.new.ensures.empty;
}
