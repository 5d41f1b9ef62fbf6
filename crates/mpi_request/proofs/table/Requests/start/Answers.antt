use Rattle.std.proofs.Common.{List, ap, ◌∙◌}
use Rattle.mpi_request.specs.Owners.{PostOwners}
use Rattle.mpi_request.specs.Active.{OwnRequests, Table}
use Rattle.mpi_request.proofs.Counted.{restored}
use Rattle.mpi_request.proofs.table.Requests.start.Goals as goal

abbrev table_of : List OwnRequests → PostOwners → Table
table_of tasks owners = record { tasks = tasks; owners = owners }

pub returns-in-Err-clause-err : goal.returns-in-Err-clause-err
returns-in-Err-clause-err c =
    ap (λ tasks. table_of tasks c.add.new.self)
    (restored c.self.inside.tasks.items c.args.task c.index_mut-own.result.now c.start.new.self c.take_back.new.self c.args.what
    c.index_mut-own.ensures.value c.in_ok-number.ensures.counted c.in_ok-number.ensures.after c.take_back.ensures.after)
    ∙ (ap (table_of c.self.inside.tasks.items) c.in-Err.ensures.err ∙ c.self.view_is)
