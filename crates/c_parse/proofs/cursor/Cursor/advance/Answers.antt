use Rattle.std.proofs.Common.{ap, ◌∙◌}
use Rattle.c_parse.specs.Symbols.{sym_of}
use Rattle.c_parse.specs.Reading as spec
use Rattle.c_parse.proofs.Heads.{behind_next}
use Rattle.c_parse.proofs.cursor.Cursor.advance.Goals as goal

pub returns-then-self : goal.returns-then-self
returns-then-self c =
    let inside = c.self.inside in
    behind_next (sym_of inside.src.now) inside.at inside.symbols.now c.if-self.true ∙ ap spec.behind c.self.view_is
