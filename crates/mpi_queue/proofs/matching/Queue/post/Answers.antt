use Rattle.std.proofs.Common.{◌<◌, ap, arith}
use Rattle.mpc_values.specs.declared.limits.TheConstants.{MAX_GIVEN}
use Rattle.mpi_queue.specs.Matching.{Matching}
use Rattle.mpi_queue.proofs.Counted.{IsCounted-without, IsCounted-push}
use Rattle.mpi_queue.proofs.matching.Queue.post.Goals as goal
use Rattle.mpi_queue.proofs.matching.Queue.post.Goals.{in-Some, in-None+in_ok-push-in-None}

pub invariant_of-self-2 : goal.invariant_of-self-2
invariant_of-self-2 c =
    let few : c.self.inside.made < MAX_GIVEN = omega (arith, ap (λ (q : Matching). q.made) c.self.view_is) in
    elim c.match-met.branch [
      | in-Some w ↦ rw (w.self-inside-is, w.take_out.ensures) (IsCounted-without _ _ c.self.invariant few)
      | in-None+in_ok-push-in-None w ↦ rw (w.self-inside-is, w.in_ok-push-in-None.ensures.items) (IsCounted-push _ _ c.self.invariant few)
    ]
