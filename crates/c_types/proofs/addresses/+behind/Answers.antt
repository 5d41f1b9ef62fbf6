use Rattle.c_types.proofs.Walks.{block_behind}
use Rattle.c_types.proofs.addresses.+behind.Goals as goal

pub behind-returns-in_ok-behind_block-in-Block : goal.behind-returns-in_ok-behind_block-in-Block
behind-returns-in_ok-behind_block-in-Block t c =
    block_behind _ _ _ _ _ _ _ c.in-Block.is c.deref.ensures.value c.in_ok-behind_block-in-Block.ensures
