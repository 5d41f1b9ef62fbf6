use Rattle.std.proofs.Common.{Ok, Err, sym, ap, ◌∙◌}
use Rattle.mpi_comm.specs.Asked.{number_at}
use Rattle.mpi_comm.proofs.Numbering.{number_searched, number_of_none}
use Rattle.mpi_comm.proofs.splitting.number_of.Goals as goal

pub returns-in-Ok : goal.returns-in-Ok
returns-in-Ok c =
    (number_searched c.args.first c.args.groups.now c.in-Some.colour (Ok c.in-Ok.index) c.requires.rising c.in-Ok.ensures.position).1
    ∙ ap (number_at c.args.first c.args.groups.now) (sym c.in-Some.is)

pub returns-in-Err : goal.returns-in-Err
returns-in-Err c =
    number_searched c.args.first c.args.groups.now c.in-Some.colour (Err c.in-Err.field-0) c.requires.rising c.in-Err.ensures.position
    ∙ ap (number_at c.args.first c.args.groups.now) (sym c.in-Some.is)

pub returns-in-None : goal.returns-in-None
returns-in-None c = number_of_none c.args.first c.args.groups.now ∙ ap (number_at c.args.first c.args.groups.now) (sym c.in-None.is)
