use Rattle.std.proofs.Common.{◌≡◌, ◌≤◌, List, ℕ, [], ◌∷◌, ◌++◌, length, subst, sym, ap, ◌∙◌}
use Rattle.std.specs.List.{range_with_len}
use Rattle.std.proofs.lemmas.List.Elements.{All-nil}
use Rattle.mpi_comm.specs.declared.communicators.Seen.{Seen}
use Rattle.mpi_comm.specs.Seen.{made_of, IsGroup, AreGroups}
use Rattle.mpi_comm.proofs.Groups.{world_group}
use Rattle.mpi_comm.proofs.Places.{groups_pushed}
use Rattle.mpi_comm.proofs.comms.Comms.new.Goals as goal

pub of-requires : goal.of-requires
of-requires c = record { few = subst (λ (xs : List ℕ). length xs ≤ 256) (sym c.in_ok-world.ensures) (world_group c.args.tasks c.requires.few).few }

pub invariant_of-result : goal.invariant_of-result
invariant_of-result c =
    let pushed : c.push.new.self.items ≡ c.new-list.result.items ++ made_of c.of.result ∷ [] = c.in_ok-push.ensures.items in
    let world : c.of.result ≡ range_with_len 0 c.args.tasks = c.of.ensures ∙ c.in_ok-world.ensures in
    let is : c.push.new.self.items ≡ [] ++ made_of (range_with_len 0 c.args.tasks) ∷ [] =
    pushed ∙ (ap (λ (xs : List Seen). xs ++ made_of c.of.result ∷ []) c.new-list.ensures.items ∙ ap (λ (members : List ℕ). [] ++ made_of members ∷ []) world) in
    subst AreGroups (sym is) (groups_pushed [] (range_with_len 0 c.args.tasks) (All-nil (λ (one : Seen). IsGroup one.members)) (world_group c.args.tasks c.requires.few))

pub returns : goal.returns
returns c =
    let pushed : c.push.new.self.items ≡ c.new-list.result.items ++ made_of c.of.result ∷ [] = c.in_ok-push.ensures.items in
    let world : c.of.result ≡ range_with_len 0 c.args.tasks = c.of.ensures ∙ c.in_ok-world.ensures in
    pushed ∙ (ap (λ (xs : List Seen). xs ++ made_of c.of.result ∷ []) c.new-list.ensures.items ∙ ap (λ (members : List ℕ). made_of members ∷ []) world)
