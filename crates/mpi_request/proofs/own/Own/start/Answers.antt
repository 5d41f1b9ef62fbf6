use Rattle.std.proofs.Common.{◌≡◌, ℕ, ◌+◌, ◌<◌, List, subst, sym, ap, ◌∙◌, arith}
use Rattle.mpc_values.specs.declared.limits.TheConstants.{MAX_GIVEN}
use Rattle.mpi_request.specs.declared.started.Open.{Open}
use Rattle.mpi_request.specs.Started.{opened}
use Rattle.mpi_request.specs.Active.{OwnRequests, IsCounted, with_start}
use Rattle.mpi_request.proofs.Counted.{own_of, counted_start, start_entries}
use Rattle.mpi_request.proofs.own.Own.start.Goals as goal

pub invariant_of-self-2 : goal.invariant_of-self-2
invariant_of-self-2 c =
    let room : c.self.inside.made < MAX_GIVEN = omega (arith, ap (λ (o : OwnRequests). o.made) c.self.view_is) in
    subst (λ (active : List (ℕ × Open)). IsCounted (own_of (c.self.inside.made + 1) active)) (sym c.in_ok-insert.ensures.entries)
    (counted_start (own_of c.self.inside.made c.self.inside.active.entries) (opened c.args.what) c.self.invariant room)

pub returns-clause-after : goal.returns-clause-after
returns-clause-after c =
    subst (λ (own : OwnRequests). own_of (c.self.inside.made + 1) c.insert.new.self.entries ≡ with_start own c.args.what) c.self.view_is
    (ap (own_of (c.self.inside.made + 1)) c.in_ok-insert.ensures.entries ∙ start_entries (own_of c.self.inside.made c.self.inside.active.entries) c.args.what c.self.invariant)
