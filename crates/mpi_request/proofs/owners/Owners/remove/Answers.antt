use Rattle.std.proofs.Common.{cond, sym, ap, ◌∙◌}
use Rattle.mpi_request.specs.Owners.{without_owner}
use Rattle.mpi_request.proofs.Entries.{apart, removed_from}
use Rattle.mpi_request.proofs.owners.Owners.remove.Goals as goal

pub returns-then-has : goal.returns-then-has
returns-then-has c =
    removed_from c.in-Some.post c.self.inside.requests.entries c.remove.new.self.entries c.remove.ensures.entries c.remove.ensures.updates.1
    ∙ (ap (apart c.in-Some.post) c.self.view_is
    ∙ sym (ap (λ x. without_owner c.args.self.now x c.args.id) c.in-Some.is
    ∙ ap (λ b. cond b (apart c.in-Some.post c.args.self.now) c.args.self.now) (sym c.has.ensures ∙ c.if-has.true)))
