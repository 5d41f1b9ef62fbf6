use Rattle.std.proofs.Common.{sym, ap, subst}
use Rattle.std.specs.Arc.{arc_value}
use Rattle.c_code.specs.FlatCode.{FlatCode}
use Rattle.c_code.specs.Following.{Follows}
use Rattle.task_vm.specs.States.{behind_answer}
use Rattle.task_vm.specs.Wanting.{WantsNow, DemandsWant}
use Rattle.task_vm.proofs.Runs.{wanting, demanding, had}
use Rattle.task_vm.proofs.task.Task.advance.Goals as goal

pub returns-in-Ok-clause-asks : goal.returns-in-Ok-clause-asks
returns-in-Ok-clause-asks c =
    let w : WantsNow (arc_value c.self.inside.code) c.go_on.new.machine c.in-Ok.want = subst (λ (code : FlatCode). WantsNow code c.go_on.new.machine c.in-Ok.want) c.deref.ensures c.in-Ok.ensures.asks in
    wanting (arc_value c.self.inside.code) c.go_on.new.machine c.is_last.result c.in-Ok.want w

pub returns-in-Ok-clause-demands : goal.returns-in-Ok-clause-demands
returns-in-Ok-clause-demands c = λ given h.
    let w : WantsNow (arc_value c.self.inside.code) c.go_on.new.machine c.in-Ok.want = subst (λ (code : FlatCode). WantsNow code c.go_on.new.machine c.in-Ok.want) c.deref.ensures c.in-Ok.ensures.asks in
    let before : Follows (arc_value c.self.inside.code) given (behind_answer (arc_value c.self.inside.code) c.self.inside.machine c.pending.result) =
    had (arc_value c.self.inside.code) c.self.inside.machine c.self.inside.state c.pending.result c.args.self.now given c.pending.ensures c.self.view_is h in
    let now : Follows c.deref.result.now given c.go_on.new.machine =
    c.in-Ok.ensures.follows given (subst (λ (code : FlatCode). Follows code given (behind_answer code c.self.inside.machine c.pending.result)) (sym c.deref.ensures) before) in
    let f : Follows (arc_value c.self.inside.code) given c.go_on.new.machine = subst (λ (code : FlatCode). Follows code given c.go_on.new.machine) c.deref.ensures now in
    let d : DemandsWant (arc_value c.self.inside.code) given c.in-Ok.want = demanding (arc_value c.self.inside.code) c.go_on.new.machine given c.in-Ok.want f w in
    (f, subst (λ (code : FlatCode). DemandsWant code given c.in-Ok.want) (ap (λ t. t.code) c.self.view_is) d)
