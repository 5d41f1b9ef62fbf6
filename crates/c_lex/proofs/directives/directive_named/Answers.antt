use Rattle.std.proofs.Common.{ℕ, ◌+◌, Some, sym, ap, ◌∙◌}
use Rattle.c_lex.specs.declared.pieces.Found.TheVariants.{Include, Pragma}
use Rattle.c_lex.specs.Defined.{meanings}
use Rattle.c_lex.proofs.DirectiveSteps.{by_word, if_true, if_false}
use Rattle.c_lex.proofs.directives.directive_named.Goals as goal

pub returns-then-is_word : goal.returns-then-is_word
returns-then-is_word c =
    ap (λ (n : ℕ). Some (Include, 8 + n)) c.run.ensures.count
    ∙ sym (by_word c.args.src.now (meanings c.args.defines.now.numbers) c.args.at c.args.word.now ∙ if_true _ _ _ c.if-is_word.ensures)

pub returns-then-is_word-2 : goal.returns-then-is_word-2
returns-then-is_word-2 c =
    ap (λ (n : ℕ). Some (Pragma, 7 + n)) c.run-then-is_word-2.ensures.count
    ∙ sym (by_word c.args.src.now (meanings c.args.defines.now.numbers) c.args.at c.args.word.now ∙ (if_false _ _ _ c.if-is_word.ensures ∙ if_true _ _ _ c.if-is_word-2.ensures))

pub returns-then-is_word-3 : goal.returns-then-is_word-3
returns-then-is_word-3 c =
    c.define_piece.ensures
    ∙ sym (by_word c.args.src.now (meanings c.args.defines.now.numbers) c.args.at c.args.word.now ∙ (if_false _ _ _ c.if-is_word.ensures ∙ (if_false _ _ _ c.if-is_word-2.ensures ∙ if_true _ _ _ c.if-is_word-3.ensures)))

pub returns-else-is_word-3 : goal.returns-else-is_word-3
returns-else-is_word-3 c =
    sym (by_word c.args.src.now (meanings c.args.defines.now.numbers) c.args.at c.args.word.now ∙ (if_false _ _ _ c.if-is_word.ensures ∙ (if_false _ _ _ c.if-is_word-2.ensures ∙ if_false _ _ _ c.if-is_word-3.ensures)))
