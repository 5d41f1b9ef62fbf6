use Rattle.std.proofs.Common.{◌≡◌, List, Some, subst, ◌∙◌}
use Rattle.std.specs.Option.{option_map}
use Rattle.mpi_comm.specs.declared.communicators.Seen.{Seen}
use Rattle.mpi_comm.specs.Seen.{seen_at, alive}
use Rattle.mpi_comm.proofs.Places.{rank_in_alive}
use Rattle.mpi_comm.proofs.comms.Comms.rank_of.Goals as goal

pub returns : goal.returns
returns c =
    c.rank_in.ensures
    ∙ rank_in_alive c.args.task c.in_ok-living.field-0.now (alive (seen_at c.args.self.now c.args.comm))
    (subst (λ (seen : List Seen). Some c.in_ok-living.field-0.now ≡ option_map (λ (s : Seen). s.members) (alive (seen_at seen c.args.comm))) (c.as_slice.ensures.value ∙ c.self.view_is) c.in_ok-living.ensures)
