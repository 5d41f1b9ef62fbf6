use Rattle.std.proofs.Common.{◌≡◌, ◌<◌, List, ℕ, map, nat_eq, subst, sym, ap, ◌∙◌}
use Rattle.std.specs.Prelude.{AllPairs}
use Rattle.std.specs.List.{dedup}
use Rattle.std.proofs.lemmas.List.Filters.{dedup_is}
use Rattle.mpi_comm.specs.declared.splitting.Asked.{Asked}
use Rattle.mpi_comm.proofs.Numbering.{colours_rise}
use Rattle.mpi_comm.proofs.splitting.colours_of.Goals as goal

pub returns-clause-colours : goal.returns-clause-colours
returns-clause-colours c =
    dedup_is nat_eq c.in_ok-colours.colours.items c.dedup.new.self.items c.dedup.ensures.filtered ∙ ap (dedup nat_eq) c.in_ok-colours.ensures

pub returns-clause-rising : goal.returns-clause-rising
returns-clause-rising c =
    let is : c.dedup.new.self.items ≡ dedup nat_eq (map (λ (a : Asked). a.colour) c.args.asked.now) =
    dedup_is nat_eq c.in_ok-colours.colours.items c.dedup.new.self.items c.dedup.ensures.filtered ∙ ap (dedup nat_eq) c.in_ok-colours.ensures in
    subst (λ (xs : List ℕ). AllPairs (λ a b. a < b) xs) (sym is) (colours_rise c.args.asked.now c.requires)
