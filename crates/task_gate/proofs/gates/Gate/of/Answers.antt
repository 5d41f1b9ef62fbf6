use Rattle.std.proofs.Common.{◌≡◌, [], ◌∷◌, Some, rules}
use Rattle.task_gate.proofs.Kept.{begins}
use Rattle.task_gate.proofs.gates.Gate.of.Goals as goal

pub new-requires : goal.new-requires
new-requires g c =
    let base = g.S.Traced.base in
    let history = g.S.Traced.history in
    let items : c.push.new.self.items ≡ Some c.args.first ∷ [] = search rules in
    rw (c.requires.key, items) (begins base history c.args.first c.requires.empty)
