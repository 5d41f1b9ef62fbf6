use Rattle.std.proofs.Common.{ap, ◌∙◌}
use Rattle.std.specs.FinMap as map
use Rattle.c_types.proofs.ScopeMaps.{inserted}
use Rattle.c_types.proofs.scopes.Scope.insert.Goals as goal

pub returns : goal.returns
returns c = inserted _ _ _ _ c.in_ok-insert.ensures.entries ∙ ap (λ m. map.insert m c.args.name.items c.args.decl) c.self.view_is
