-- What a store in memory is to those who call it.
use Rattle.mpc_base.specs.Told.{Store}
use Rattle.mpc_base.specs.FailLists.{FailsAt}

-- The files, and which calls fail.
pub record MemFilesSeen : Type 0 where
  pub store : Store
  pub fails : FailsAt
