use Rattle.std.proofs.Common.{ap, ◌∙◌}
use Rattle.std.specs.FinMap as map
use Rattle.c_types.proofs.ScopeMaps.{found}
use Rattle.c_types.proofs.scopes.Scope.get.Goals as goal

pub returns : goal.returns
returns c = c.copied.ensures ∙ c.get.ensures.value ∙ found _ _ ∙ ap (λ m. map.get m c.args.name.now) c.self.view_is
