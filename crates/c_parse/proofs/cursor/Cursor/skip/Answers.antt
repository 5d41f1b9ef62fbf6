use Rattle.std.proofs.Common.{◌+◌, map, drop, refl, ap, ◌∙◌}
use Rattle.c_parse.specs.Symbols.{sym_of}
use Rattle.c_parse.proofs.Skips.{skipped}
use Rattle.c_parse.proofs.cursor.Cursor.skip.Goals as goal

pub returns : goal.returns
returns c =
    let inside = c.self.inside in
    let f = sym_of inside.src.now in
    ap (λ m. map f (drop (inside.at + m) inside.symbols.now)) c.min.ensures ∙ skipped f c.args.count inside.at _ inside.symbols.now refl ∙ ap (drop c.args.count) c.self.view_is
