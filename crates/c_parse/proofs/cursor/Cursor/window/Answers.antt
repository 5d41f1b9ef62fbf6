use Rattle.std.proofs.Common.{◌+◌, map, take, drop, refl, ap, ◌∙◌}
use Rattle.c_parse.specs.Symbols.{sym_of}
use Rattle.c_parse.proofs.Skips.{windowed}
use Rattle.c_parse.proofs.cursor.Cursor.window.Goals as goal

pub returns : goal.returns
returns c =
    let inside = c.self.inside in
    let f = sym_of inside.src.now in
    ap (λ m. map f (drop inside.at (take (inside.at + m) inside.symbols.now))) c.min.ensures ∙ windowed f c.args.most inside.at _ inside.symbols.now refl ∙ ap (take c.args.most) c.self.view_is
