use Rattle.std.proofs.Common.{◌≡◌, ℕ, List, subst, sym, ap}
use Rattle.mpi_request.specs.declared.started.Open.{Open}
use Rattle.mpi_request.specs.Active.{OwnRequests, IsCounted, without}
use Rattle.mpi_request.proofs.Entries.{removed_from}
use Rattle.mpi_request.proofs.Counted.{own_of, counted_end}
use Rattle.mpi_request.proofs.own.Own.end.Goals as goal

pub invariant_of-self : goal.invariant_of-self
invariant_of-self c =
    subst (λ (active : List (ℕ × Open)). IsCounted (own_of c.self.inside.made active)) (sym c.remove.ensures.entries)
    (counted_end (own_of c.self.inside.made c.self.inside.active.entries) c.args.number c.self.invariant)

pub returns-clause-after : goal.returns-clause-after
returns-clause-after c =
    subst (λ (own : OwnRequests). own_of c.self.inside.made c.remove.new.self.entries ≡ without own c.args.number) c.self.view_is
    (ap (own_of c.self.inside.made) (removed_from c.args.number c.self.inside.active.entries c.remove.new.self.entries c.remove.ensures.entries c.remove.ensures.updates.1))
