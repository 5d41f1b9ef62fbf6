use Rattle.std.proofs.Common.{◌≡◌, ◌∷◌, [], ◌++◌, ◌∙◌}
use Rattle.mpi_coll.proofs.Folding.{before_done}
use Rattle.mpi_coll.proofs.reducing.fold_before.Goals as goal

pub returns : goal.returns
returns c =
    let split : c.args.given.now ≡ c.in-Some.before.now ++ c.in-Some.field-0-0.now ∷ [] = c.in-Some.ensures.cases.0 in
    before_done c.args.op c.args.kind c.args.given.now c.in-Some.before.now c.in_ok-all.all.items c.insert.new.self.items c.in-Some.field-0-0.now c.of.result
    split c.in_ok-all.ensures (c.of.ensures ∙ c.new-2.ensures.items) c.in_ok-insert.ensures.items
