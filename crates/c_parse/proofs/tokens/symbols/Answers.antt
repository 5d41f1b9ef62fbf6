use Rattle.std.proofs.Common.{ap, ◌∙◌, subst}
use Rattle.c_parse.specs.Seen.{Sees}
use Rattle.c_parse.proofs.Shown.{step_some, step_none, at_the_end}
use Rattle.c_parse.proofs.tokens.symbols.Goals as goal
use Rattle.c_parse.proofs.tokens.symbols.Goals.{in-Some+in_ok-push, in_default}

pub loop-token-preserved : goal.loop-token-preserved
loop-token-preserved c =
    let src = c.args.src.now in
    let all = c.args.tokens.now in
    let i = c.loop-token.token-index in
    elim c.match-branch-2.branch [
      | in-Some+in_ok-push w ↦ step_some src all i _ _ _ w.in-Some.symbol c.loop-token.invariant c.loop-token-test.true (subst (Sees src _) w.in-Some.is c.in_ok-symbol.ensures)
          (ap (λ v. v.items) w.symbols-is ∙ w.in_ok-push.ensures.items)
      | in_default w ↦ step_none src all i _ _ _ c.loop-token.invariant c.loop-token-test.true (subst (Sees src _) w.in_default.is c.in_ok-symbol.ensures) (ap (λ v. v.items) w.symbols-is)
    ]

pub returns : goal.returns
returns c = at_the_end c.args.src.now c.args.tokens.now c.loop-token.token-index c.loop-token.symbols.items c.loop-token.invariant c.loop-token-test.false
