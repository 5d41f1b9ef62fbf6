use Rattle.std.proofs.Common.{refl, subst}
use Rattle.mpc_values.specs.declared.answers.Answer.TheVariants.{Gives}
use Rattle.mem_space.specs.Accesses.{Answered}
use Rattle.mem_space.proofs.Makes.{new_fits, new_full}
use Rattle.mem_space.proofs.space.Space.new_obj.Goals as goal

pub returns-in_ok-local-in-Some-clause-comes : goal.returns-in_ok-local-in-Some-clause-comes
returns-in_ok-local-in-Some-clause-comes c =
    λ m shows. subst (Answered c.make.new.self c.args.task (Gives c.in_ok-local-in-Some.local))
    (new_fits c.args.self.now m c.args.task c.args.len c.in-Some.words shows c.in-Some.ensures.0 c.in-Some.ensures.1) (c.in_ok-local-in-Some.ensures.comes m shows)

pub returns-in-None-clause-comes : goal.returns-in-None-clause-comes
returns-in-None-clause-comes c = (λ m shows. new_full c.args.self.now m c.args.task c.args.len 0 shows c.in-None.ensures, refl)
