use Rattle.std.proofs.Common.{◌≡◌, List, subst, sym, ap, ◌∙◌}
use Rattle.mpi_comm.specs.declared.communicators.Seen.{Seen}
use Rattle.mpi_comm.specs.Seen.{seen_at, members_at, IsGroup, AreGroups}
use Rattle.mpi_comm.proofs.Places.{groups_at, groups_appended, made_from_alive}
use Rattle.mpi_comm.proofs.comms.Comms.split.Goals as goal

pub grouped-requires-clause-group : goal.grouped-requires-clause-group
grouped-requires-clause-group c =
    let list : c.as_slice.result.now ≡ c.args.self.now = c.as_slice.ensures.value ∙ c.self.view_is in
    subst IsGroup (sym (c.members_of-members.ensures.tasks ∙ ap (λ (seen : List Seen). members_at seen c.args.comm) list))
    (groups_at c.args.self.now c.args.comm (subst AreGroups c.self.view_is c.self.invariant) (made_from_alive (seen_at c.args.self.now c.args.comm) c.requires.living))

pub invariant_of-self-2 : goal.invariant_of-self-2
invariant_of-self-2 c =
    subst AreGroups (sym c.in_ok-append.ensures.items)
    (groups_appended c.self.inside.list.items c.in_ok-numbers.made.items c.self.invariant c.in_ok-numbers.ensures.groups)
