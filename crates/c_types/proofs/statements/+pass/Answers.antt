use Rattle.std.proofs.Common.{IfOk, ◌≡◌, None, false, ap, ◌∙◌, map}
use Rattle.c_tree.specs.ProgramOf.{expr_of, maybe_of, stmt_of}
use Rattle.c_tree.specs.SyntaxOf as syntax
use Rattle.c_types.specs.Statements.{after_head, head_made, levels_of, maybe_typed, stmt_made}
use Rattle.c_types.specs.Typed.{typed}
use Rattle.c_types.proofs.Passes.{at_env, block_names, block_first, block_made, names_on, first_on, made_on, declared_names, declared_first, declared_made, if_else_done, made_if, other_made, single_done}
use Rattle.c_types.proofs.statements.+pass.Goals as goal

pub pass-returns-in_ok-made-in-Block-clause-names : goal.pass-returns-in_ok-made-in-Block-clause-names
pass-returns-in_ok-made-in-Block-clause-names t c = block_names _ _ _ _ _ c.in-Block.is c.deref.ensures.value _ _ c.in_ok-made-in-Block.ensures.names

pub pass-returns-in_ok-made-in-Block-clause-first : goal.pass-returns-in_ok-made-in-Block-clause-first
pass-returns-in_ok-made-in-Block-clause-first t c = block_first _ _ _ _ _ c.in-Block.is c.deref.ensures.value _ _ _ c.in_ok-made-in-Block.ensures.first

pub pass-returns-in_ok-made-in-Block-clause-made : goal.pass-returns-in_ok-made-in-Block-clause-made
pass-returns-in_ok-made-in-Block-clause-made t c = block_made _ _ _ _ _ c.in-Block.is c.deref.ensures.value _ _ c.in_ok-made-in-Block.ensures.made

pub pass_items-loop-s-preserved : goal.pass_items-loop-s-preserved
pass_items-loop-s-preserved t c = (
  names_on _ _ _ _ _ _ c.loop-s-test.true c.s-item.is c.in_ok-next.ensures.names c.loop-s.invariant.0,
  first_on _ _ _ _ _ _ _ _ _ _ c.loop-s-test.true c.s-item.is c.in_ok-next.ensures.names c.in_ok-next.ensures.first c.in_ok-made.ensures.refused c.loop-s.invariant.1,
  made_on _ _ _ _ _ _ _ _ _ c.loop-s-test.true c.s-item.is c.in_ok-next.ensures.names c.in_ok-made.ensures.made c.in_ok-next.ensures.made c.loop-s.invariant.2,
)

pub pass_if-returns-clause-made : goal.pass_if-returns-clause-made
pass_if-returns-clause-made t c = c.if_made.ensures.made _ _ (made_if _ _ c.in_ok-looked.ensures.made) c.in_ok-body.ensures.made

pub pass-returns-in_ok-other-in-IfElse-clause-made : goal.pass-returns-in_ok-other-in-IfElse-clause-made
pass-returns-in_ok-other-in-IfElse-clause-made t c =
    if_else_done c.args.s.now c.args.names.now c.in-IfElse.at c.in-IfElse.test c.in-IfElse.body c.in-IfElse.other _ _ _ _ _ _ _ c.in-IfElse.is c.deref-in-IfElse.ensures c.deref-in-IfElse-2.ensures
    c.in_ok-body-in-IfElse.ensures.names (made_if _ _ c.in_ok-looked-in-IfElse.ensures.made) c.in_ok-body-in-IfElse.ensures.made c.in_ok-other-in-IfElse.ensures.made c.if_else_made.ensures.made

pub pass_while-returns-clause-made : goal.pass_while-returns-clause-made
pass_while-returns-clause-made t c = c.while_made.ensures.made _ _ (made_if _ _ c.in_ok-looked.ensures.made) c.in_ok-body.ensures.made

pub pass_do-returns-clause-made : goal.pass_do-returns-clause-made
pass_do-returns-clause-made t c =
    c.do_made.ensures.made _ _ c.in_ok-body.ensures.made
    (at_env (λ e. IfOk c.in_ok-looked.looked.made (λ v. expr_of v ≡ typed e None (syntax.expr_of c.args.test.now))) _ _ c.in_ok-body.ensures.names (made_if _ _ c.in_ok-looked.ensures.made))

pub pass_for-returns-clause-made : goal.pass_for-returns-clause-made
pass_for-returns-clause-made t c =
    c.for_made.ensures.made _ _ _ _
    (at_env (λ e. IfOk c.in_ok-head.head (λ v. map stmt_of v.items ≡ head_made e c.args.at.line (syntax.head_of c.args.head.now))) _ _ c.in_ok-enter.ensures c.in_ok-head.ensures.made)
    (at_env (λ e. IfOk c.in_ok-test.test.made (λ v. maybe_of v ≡ maybe_typed e (syntax.maybe_of c.args.test.now))) _ _
    (c.in_ok-head.ensures.names ∙ ap (λ e. after_head e (syntax.head_of c.args.head.now)) c.in_ok-enter.ensures) c.in_ok-test.ensures.made)
    (at_env (λ e. IfOk c.in_ok-step.step.made (λ v. maybe_of v ≡ maybe_typed e (syntax.maybe_of c.args.step.now))) _ _
    (c.in_ok-head.ensures.names ∙ ap (λ e. after_head e (syntax.head_of c.args.head.now)) c.in_ok-enter.ensures) c.in_ok-step.ensures.made)
    (at_env (λ e. IfOk c.in_ok-body.body (λ m. stmt_of m ≡ stmt_made e (syntax.stmt_of c.args.body.now))) _ _
    (c.in_ok-head.ensures.names ∙ ap (λ e. after_head e (syntax.head_of c.args.head.now)) c.in_ok-enter.ensures) c.in_ok-body.ensures.made)

pub pass_single-returns-clause-made : goal.pass_single-returns-clause-made
pass_single-returns-clause-made t c =
    single_done c.args.at.line c.args.names.now _ c.args.all.now c.args.nowait (syntax.stmt_of c.args.body.now) _ _ _ _ _
    c.single_kind.ensures (c.levels_of-found.ensures ∙ ap (levels_of false c.args.names.now) c.as_slice.ensures) c.in_ok-number.ensures.names c.in_ok-number.ensures.number c.in_ok-made.ensures.made
    c.single_made.ensures.made

pub pass_item-returns-in_ok-items-in-Some-clause-names : goal.pass_item-returns-in_ok-items-in-Some-clause-names
pass_item-returns-in_ok-items-in-Some-clause-names t c = declared_names _ _ c.args.s.now c.in-Some.is c.declaration_in.ensures c.args.names.now _ c.in_ok-items-in-Some.ensures.names

pub pass_item-returns-in_ok-items-in-Some-clause-first : goal.pass_item-returns-in_ok-items-in-Some-clause-first
pass_item-returns-in_ok-items-in-Some-clause-first t c = declared_first _ _ c.args.s.now c.in-Some.is c.declaration_in.ensures c.args.names.now c.args.in_loop _ c.in_ok-items-in-Some.ensures.first

pub pass_item-returns-in_ok-items-in-Some-clause-made : goal.pass_item-returns-in_ok-items-in-Some-clause-made
pass_item-returns-in_ok-items-in-Some-clause-made t c = declared_made _ _ c.args.s.now c.in-Some.is c.declaration_in.ensures c.args.names.now _ c.in_ok-items-in-Some.ensures.made

pub pass_item-returns-in_ok-items-in-None-clause-made : goal.pass_item-returns-in_ok-items-in-None-clause-made
pass_item-returns-in_ok-items-in-None-clause-made t c = other_made _ c.args.s.now c.args.names.now _ _ c.in-None.is c.declaration_in.ensures c.in_ok-made-in-None.ensures.made c.in_ok-items-in-None.ensures.made
