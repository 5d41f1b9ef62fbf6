use Rattle.std.proofs.Common.{sym, ◌∙◌}
use Rattle.c_lex.specs.Defined.{meanings}
use Rattle.c_lex.proofs.DirectiveSteps.{if_true, if_false}
use Rattle.c_lex.proofs.PieceSteps.{piece_is, yes, no}
use Rattle.c_lex.proofs.pieces.piece.Goals as goal

pub returns-then-first-eq10 : goal.returns-then-first-eq10
returns-then-first-eq10 c = sym (piece_is c.args.src.now c.args.at c.requires.room c.args.fresh (meanings c.args.defines.now.numbers) ∙ if_true _ _ _ (yes _ _ c.if-first-eq10.true))

pub returns-then-is_gap : goal.returns-then-is_gap
returns-then-is_gap c = sym (piece_is c.args.src.now c.args.at c.requires.room c.args.fresh (meanings c.args.defines.now.numbers) ∙ (if_false _ _ _ (no _ _ c.if-first-eq10.false) ∙ if_true _ _ _ c.if-is_gap.ensures))

pub returns-then-is_letter : goal.returns-then-is_letter
returns-then-is_letter c = c.word_piece.ensures ∙ sym (piece_is c.args.src.now c.args.at c.requires.room c.args.fresh (meanings c.args.defines.now.numbers) ∙ (if_false _ _ _ (no _ _ c.if-first-eq10.false) ∙ (if_false _ _ _ c.if-is_gap.ensures ∙ if_true _ _ _ c.if-is_letter.ensures)))

pub returns-then-is_digit : goal.returns-then-is_digit
returns-then-is_digit c = c.number_piece.ensures ∙ sym (piece_is c.args.src.now c.args.at c.requires.room c.args.fresh (meanings c.args.defines.now.numbers) ∙ (if_false _ _ _ (no _ _ c.if-first-eq10.false) ∙ (if_false _ _ _ c.if-is_gap.ensures ∙ (if_false _ _ _ c.if-is_letter.ensures ∙ if_true _ _ _ c.if-is_digit.ensures))))

pub returns : goal.returns
returns c = c.other_piece.ensures ∙ sym (piece_is c.args.src.now c.args.at c.requires.room c.args.fresh (meanings c.args.defines.now.numbers) ∙ (if_false _ _ _ (no _ _ c.if-first-eq10.false) ∙ (if_false _ _ _ c.if-is_gap.ensures ∙ (if_false _ _ _ c.if-is_letter.ensures ∙ if_false _ _ _ c.if-is_digit.ensures))))
