use Rattle.std.proofs.Common.{◌≡◌, List, subst, ◌∙◌, rules}
use Rattle.std.specs.Prelude.{filter_map, zip}
use Rattle.std.specs.List.Sorted.{IsPermutation, IsStableBy}
use Rattle.std.proofs.lemmas.List.Sorted.{answers_always}
use Rattle.mpi_comm.specs.declared.splitting.Asked.{Asked}
use Rattle.mpi_comm.specs.Numbers.{chosen_of}
use Rattle.mpi_comm.specs.Asked.{asked_in}
use Rattle.mpi_comm.proofs.Numbering.{zipped}
use Rattle.mpi_comm.proofs.Orders.{before_by_key, asked_in_order}
use Rattle.mpi_comm.proofs.splitting.in_order.Goals as goal

pub returns : goal.returns
returns c =
    let chosen = zip c.args.members.now (chosen_of c.args.colours.now c.args.keys.now) in
    let rank : c.in_ok-list.list.items ≡ filter_map asked_in chosen = c.in_ok-list.ensures ∙ zipped c.args.members.now c.args.colours.now c.args.keys.now in
    asked_in_order chosen c.sort_by_key.new.self.items c.sort_by_key-2.new.self.items
    (subst (λ (xs : List Asked). IsPermutation xs c.sort_by_key.new.self.items) rank c.sort_by_key.ensures.permutation)
    (c.in_ok-sort_by_key.ensures.sorted (λ (a : Asked). a.key) (answers_always _ _ _ (λ f a r f' k. search rules)))
    (subst (λ (xs : List Asked). IsStableBy before_by_key xs c.sort_by_key.new.self.items) rank (c.sort_by_key.ensures.stable (λ (a : Asked). a.key) (answers_always _ _ _ (λ f a r f' k. search rules))))
    c.sort_by_key-2.ensures.permutation
    (c.in_ok-sort_by_key-2.ensures.sorted (λ (a : Asked). a.colour) (answers_always _ _ _ (λ f a r f' k. search rules)))
    (c.sort_by_key-2.ensures.stable (λ (a : Asked). a.colour) (answers_always _ _ _ (λ f a r f' k. search rules)))
