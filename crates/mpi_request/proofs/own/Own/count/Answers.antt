use Rattle.std.proofs.Common.{◌+◌, ◌≤◌, length, arith}
use Rattle.mpc_values.specs.declared.limits.TheConstants.{MAX_GIVEN}
use Rattle.mpi_request.proofs.Counted.{own_of, few_active}
use Rattle.mpi_request.proofs.own.Own.count.Goals as goal

pub overflow_cast-result : goal.overflow_cast-result
overflow_cast-result c =
    let few : length c.self.inside.active.entries ≤ MAX_GIVEN + 1 = few_active (own_of c.self.inside.made c.self.inside.active.entries) c.self.invariant c.len.ensures.ordered in
    omega (arith, c.len.ensures.len)
