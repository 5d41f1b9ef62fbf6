use Rattle.std.proofs.Common.{◌≡◌, ◌-◌, List, ℕ, length, map, take, drop, subst, sym, ap, ◌∙◌, arith, rules}
use Rattle.std.specs.Prelude.{IfOk, nat_lt, nat_le}
use Rattle.std.specs.List.Sorted.{IsNonDecreasingBy}
use Rattle.std.proofs.lemmas.List.Sorted.{IsPartitionPoint-from_clause, IsPartitionedBy-ltb, IsPartitionedBy-leb, IsNonDecreasingBy-drop}
use Rattle.std.proofs.lemmas.Slice.{between_to_end}
use Rattle.mpi_comm.specs.declared.splitting.Asked.{Asked}
use Rattle.mpi_comm.proofs.Ranges.{StartsAt, EndsAt, range_of_colour}
use Rattle.mpi_comm.proofs.splitting.tasks_of.Goals as goal

pub returns : goal.returns
returns c =
    let asked = c.args.asked.now in
    let colour = c.args.colour in
    let from = c.partition_point-from.result in
    let count = c.partition_point-count.result in
    let rest = take (length asked - from) (drop from asked) in
    let is : rest ≡ drop from asked = between_to_end asked from (length asked) (omega arith) in
    let starts : StartsAt asked colour from =
    IsPartitionPoint-from_clause (λ (a : Asked). nat_lt a.colour colour) asked from c.partition_point-from.ensures.partitioned
    (IsPartitionedBy-ltb (λ (a : Asked). a.colour) asked colour c.requires) (λ a r f' k. search rules) in
    let sorted : IsNonDecreasingBy (λ (a : Asked). a.colour) rest =
    subst (λ (xs : List Asked). IsNonDecreasingBy (λ (a : Asked). a.colour) xs) (sym is) (IsNonDecreasingBy-drop (λ (a : Asked). a.colour) from asked c.requires) in
    let ends : EndsAt rest colour count =
    IsPartitionPoint-from_clause (λ (a : Asked). nat_le a.colour colour) rest count c.partition_point-count.ensures.partitioned
    (IsPartitionedBy-leb (λ (a : Asked). a.colour) rest colour sorted) (λ a r f' k. search rules) in
    let cut : take count rest ≡ take count (drop from asked) = ap (take count) is in
    let tasks = range_of_colour asked colour from count c.partition_point-from.ensures.bound starts (subst (λ (xs : List Asked). EndsAt xs colour count) is ends) in
    subst (λ (xs : List ℕ). IfOk c.all_tasks.result (λ tasks. tasks.items ≡ xs)) (ap (map (λ (a : Asked). a.task)) cut ∙ tasks) c.all_tasks.ensures
