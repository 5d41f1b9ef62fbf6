use Rattle.std.proofs.Common.{◌∙◌}
use Rattle.c_compile.proofs.Makings.{mended}
use Rattle.c_compile.proofs.emitter.Emitter.mend.Goals as goal

pub returns : goal.returns
returns c = λ front rest x e len. mended c.self.inside.back.items front rest x c.args.instr c.args.behind (c.self.view_is ∙ e) len
