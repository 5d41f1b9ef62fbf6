use Rattle.std.proofs.Common.{◌++◌, ◌∷◌, [], take, map, sym, ap, ◌∙◌}
use Rattle.std.proofs.lemmas.List.{take_more}
use Rattle.c_parse.specs.Symbols.{sym_of, last_line}
use Rattle.c_parse.proofs.LastLines.{one_later}
use Rattle.c_parse.proofs.cursor.last_line_of.Goals as goal

pub loop-symbol-preserved : goal.loop-symbol-preserved
loop-symbol-preserved c = λ src.
    let xs = c.args.symbols.now in
    let i = c.loop-symbol.symbol-index in
    let s = c.symbol-item.result in
    sym (ap (λ l. last_line (map (sym_of src) l)) (take_more xs i s c.loop-symbol-test.true ∙ ap (λ y. take i xs ++ y ∷ []) (sym c.symbol-item.is)) ∙ one_later src (take i xs) s)
