use Rattle.std.proofs.Common.{List, [], ◌∷◌, ◌++◌, ◌∙◌, ap}
use Rattle.mpi_coll.specs.Rooms.{Tables, begun}
use Rattle.mpi_coll.proofs.First.{first-all}
use Rattle.mpi_coll.proofs.meetings.Meetings.new.Goals as goal

pub returns-clause-shows : goal.returns-clause-shows
returns-clause-shows c =
    first-all c.args.tasks c.push-2.new.self.items
    (c.in_ok-push-2.ensures.items ∙ (ap (λ (ts : List Tables). ts ++ c.in_ok-world.world ∷ []) (c.in_ok-push.ensures.items ∙ ap (λ (ts : List Tables). ts ++ c.in_ok-none.none ∷ []) c.in_ok-rooms.ensures.items)
    ∙ (ap (λ (t : Tables). t ∷ c.in_ok-world.world ∷ []) c.in_ok-none.ensures ∙ ap (λ (t : Tables). begun 0 ∷ t ∷ []) c.in_ok-world.ensures)))
