use Rattle.std.proofs.Common.{ℕ, ◌+◌, Some, sym, ap, ◌∙◌, arith}
use Rattle.c_lex.specs.declared.pieces.Found.TheVariants.{Comment}
use Rattle.c_lex.proofs.DirectiveSteps.{if_true, if_false}
use Rattle.c_lex.proofs.PieceSteps.{slash_end, slash_more, yes, no}
use Rattle.c_lex.proofs.pieces.slash_piece.Goals as goal

pub returns-then-at-src : goal.returns-then-at-src
returns-then-at-src c = c.sign_piece.ensures ∙ sym (slash_end c.args.src.now c.args.at c.requires (omega arith))

pub returns-then-second-eq47 : goal.returns-then-second-eq47
returns-then-second-eq47 c = ap (λ (n : ℕ). Some (Comment, 2 + n)) c.run.ensures.count ∙ sym (slash_more c.args.src.now c.args.at c.requires (omega arith) ∙ if_true _ _ _ (yes _ _ c.if-second-eq47.true))

pub returns-then-second-eq42 : goal.returns-then-second-eq42
returns-then-second-eq42 c = c.comment_piece.ensures ∙ sym (slash_more c.args.src.now c.args.at c.requires (omega arith) ∙ (if_false _ _ _ (no _ _ c.if-second-eq47.false) ∙ if_true _ _ _ (yes _ _ c.if-second-eq42.true)))

pub returns : goal.returns
returns c = c.sign_piece-2.ensures ∙ sym (slash_more c.args.src.now c.args.at c.requires (omega arith) ∙ (if_false _ _ _ (no _ _ c.if-second-eq47.false) ∙ if_false _ _ _ (no _ _ c.if-second-eq42.false)))
