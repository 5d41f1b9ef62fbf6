use Rattle.std.proofs.Common.{sym, ◌∙◌}
use Rattle.c_lex.specs.Defined.{meanings}
use Rattle.c_lex.proofs.DirectiveSteps.{if_true, if_false}
use Rattle.c_lex.proofs.PieceSteps.{other_is, yes, no}
use Rattle.c_lex.proofs.pieces.other_piece.Goals as goal

pub returns-then-first-eq34 : goal.returns-then-first-eq34
returns-then-first-eq34 c = c.text_piece.ensures ∙ sym (other_is c.args.src.now c.args.at c.requires.room c.args.fresh (meanings c.args.defines.now.numbers) ∙ if_true _ _ _ (yes _ _ c.if-first-eq34.true))

pub returns-then-fresh : goal.returns-then-fresh
returns-then-fresh c = c.directive_piece.ensures ∙ sym (other_is c.args.src.now c.args.at c.requires.room c.args.fresh (meanings c.args.defines.now.numbers) ∙ (if_false _ _ _ (no _ _ c.if-first-eq34.false) ∙ (if_true _ _ _ (yes _ _ c.if-first-eq35.true) ∙ if_true _ _ _ (sym c.if-fresh.true))))

pub returns-else-fresh : goal.returns-else-fresh
returns-else-fresh c = sym (other_is c.args.src.now c.args.at c.requires.room c.args.fresh (meanings c.args.defines.now.numbers) ∙ (if_false _ _ _ (no _ _ c.if-first-eq34.false) ∙ (if_true _ _ _ (yes _ _ c.if-first-eq35.true) ∙ if_false _ _ _ (sym c.if-fresh.false))))

pub returns-then-first-eq47 : goal.returns-then-first-eq47
returns-then-first-eq47 c = c.slash_piece.ensures ∙ sym (other_is c.args.src.now c.args.at c.requires.room c.args.fresh (meanings c.args.defines.now.numbers) ∙ (if_false _ _ _ (no _ _ c.if-first-eq34.false) ∙ (if_false _ _ _ (no _ _ c.if-first-eq35.false) ∙ if_true _ _ _ (yes _ _ c.if-first-eq47.true))))

pub returns : goal.returns
returns c = c.sign_piece.ensures ∙ sym (other_is c.args.src.now c.args.at c.requires.room c.args.fresh (meanings c.args.defines.now.numbers) ∙ (if_false _ _ _ (no _ _ c.if-first-eq34.false) ∙ (if_false _ _ _ (no _ _ c.if-first-eq35.false) ∙ if_false _ _ _ (no _ _ c.if-first-eq47.false))))
