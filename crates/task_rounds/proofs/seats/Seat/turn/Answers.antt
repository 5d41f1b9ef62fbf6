use Rattle.task_rounds.proofs.Turning.{goes_on, asking_call}
use Rattle.task_rounds.proofs.seats.Seat.turn.Goals as goal

pub wanted-requires-clause-goes : goal.wanted-requires-clause-goes
wanted-requires-clause-goes c = goes_on c.args.node.now c.args.number c.requires.plays c.requires.goes c.args.self.now c.requires.keeps

pub visit-requires-clause-asking : goal.visit-requires-clause-asking
visit-requires-clause-asking c = asking_call c.args.node.now c.args.number c.requires.plays c.requires.goes c.args.self.now c.requires.keeps c.wanted.new.self.task c.in_ok-want.want _ _ (cc) c.in_ok-want.ensures.wants
