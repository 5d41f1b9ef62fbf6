use Rattle.std.proofs.Common.{Some, sym, ap, ◌∙◌}
use Rattle.std.specs.Option.{option_map}
use Rattle.c_lex.specs.declared.pieces.Found.TheVariants.{Taken}
use Rattle.c_lex.specs.Front.{number_found}
use Rattle.c_lex.proofs.PieceSteps.{number_is}
use Rattle.c_lex.proofs.pieces.number_piece.Goals as goal

pub returns-in-None : goal.returns-in-None
returns-in-None c = sym (number_is c.args.src.now c.args.at c.run-len.result c.run-len.ensures.count ∙ ap (option_map (number_found c.run-len.result)) (sym c.in-None.ensures))

pub returns-in-Some : goal.returns-in-Some
returns-in-Some c = ap (λ k. Some (Taken k, c.run-len.result)) c.number_kind.ensures ∙ sym (number_is c.args.src.now c.args.at c.run-len.result c.run-len.ensures.count ∙ ap (option_map (number_found c.run-len.result)) (sym c.in-Some.ensures))
