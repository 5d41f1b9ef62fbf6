use Rattle.std.proofs.Common.{◌∙◌, ap}
use Rattle.std.specs.Prelude.{slice_get}
use Rattle.mpi_coll.proofs.Absent.{absent_differs, absent_whole}
use Rattle.mpi_coll.proofs.meetings.Meetings.differs_at.Goals as goal

pub returns-in-None-clause-value : goal.returns-in-None-clause-value
returns-in-None-clause-value c = absent_differs c.args.self.now c.args.comm c.args.rank c.args.coll.now (c.in-None.ensures ∙ ap (λ rooms. slice_get rooms c.args.comm) (c.as_slice.ensures.value ∙ c.self.view_is))

pub returns-in-None-clause-whole : goal.returns-in-None-clause-whole
returns-in-None-clause-whole c = absent_whole c.args.self.now c.args.comm (c.in-None.ensures ∙ ap (λ rooms. slice_get rooms c.args.comm) (c.as_slice.ensures.value ∙ c.self.view_is))
