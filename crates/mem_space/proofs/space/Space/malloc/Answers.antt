use Rattle.std.proofs.Common.{w64, subst, sym, ◌∙◌}
use Rattle.std.proofs.lemmas.Int.{to_z-of_z}
use Rattle.mpc_values.specs.declared.answers.Answer.TheVariants.{Gives}
use Rattle.mem_space.specs.Accesses.{Answered}
use Rattle.mem_space.proofs.Makes.{malloc_is, malloc_over}
use Rattle.mem_space.proofs.space.Space.malloc.Goals as goal

pub returns-in_ok-block-in-Some-words_with-clause-comes : goal.returns-in_ok-block-in-Some-words_with-clause-comes
returns-in_ok-block-in-Some-words_with-clause-comes c =
    λ m shows. subst (Answered c.make.new.self c.args.task (Gives c.in_ok-block-in-Some-words_with.block))
    (malloc_is c.args.self.now m c.args.task c.args.n c.in-Some.len c.in-Some-words_with.words (sym (to_z-of_z w64 c.args.n c.ranges.n) ∙ c.in-Some.ensures) shows c.in-Some-words_with.ensures.0 c.in-Some-words_with.ensures.1)
    (c.in_ok-block-in-Some-words_with.ensures.comes m shows)

pub returns-in-None-clause-comes : goal.returns-in-None-clause-comes
returns-in-None-clause-comes c = λ m shows. record {
  memory = m;
  gives = malloc_over c.args.self.now m c.args.task c.args.n c.in-Some.len (sym (to_z-of_z w64 c.args.n c.ranges.n) ∙ c.in-Some.ensures) shows c.in-None.ensures;
  shows = shows;
}
