use Rattle.std.proofs.Common.{◌≡◌, ℕ, ◌-◌, List, subst, sym, ap}
use Rattle.mpi_request.specs.declared.started.Open.{Open}
use Rattle.mpi_request.specs.Active.{OwnRequests, IsCounted, without_last}
use Rattle.mpi_request.proofs.Entries.{removed_from}
use Rattle.mpi_request.proofs.Counted.{own_of, counted_last}
use Rattle.mpi_request.proofs.own.Own.take_back.Goals as goal

pub invariant_of-self : goal.invariant_of-self
invariant_of-self c =
    subst (λ (active : List (ℕ × Open)). IsCounted (own_of (c.self.inside.made - 1) active))
    (sym (removed_from c.self.inside.made c.self.inside.active.entries c.remove-open.new.self.entries c.remove-open.ensures.entries c.remove-open.ensures.updates.1))
    (counted_last (own_of c.self.inside.made c.self.inside.active.entries) c.self.invariant)

pub returns-clause-after : goal.returns-clause-after
returns-clause-after c =
    subst (λ (own : OwnRequests). own_of (c.self.inside.made - 1) c.remove-open.new.self.entries ≡ without_last own) c.self.view_is
    (ap (own_of (c.self.inside.made - 1)) (removed_from c.self.inside.made c.self.inside.active.entries c.remove-open.new.self.entries c.remove-open.ensures.entries c.remove-open.ensures.updates.1))
