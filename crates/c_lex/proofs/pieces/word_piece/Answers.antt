use Rattle.std.proofs.Common.{Some, sym, ap, ◌∙◌}
use Rattle.c_lex.specs.declared.pieces.Found.TheVariants.{Taken}
use Rattle.c_lex.specs.Defined.{meanings}
use Rattle.c_lex.proofs.PieceSteps.{word_is}
use Rattle.c_lex.proofs.pieces.word_piece.Goals as goal

pub returns : goal.returns
returns c = ap (λ k. Some (Taken k, c.run-len.result)) c.word_kind-kind.ensures ∙ sym (word_is c.args.src.now (meanings c.args.defines.now.numbers) c.args.at c.run-len.result c.run-len.ensures.count)
