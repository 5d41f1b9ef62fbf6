use Rattle.std.proofs.Common.{refl, ◌∙◌}
use Rattle.std.proofs.lemmas.List.{length-map}
use Rattle.c_types.specs.Kinds.{same_kind}
use Rattle.c_types.specs.Units.{same_kinds, param_kind, param_kinds}
use Rattle.c_types.proofs.Pairs.{other_lengths}
use Rattle.c_types.proofs.signatures.have_kinds.Goals as goal

pub returns-then-kinds-params : goal.returns-then-kinds-params
returns-then-kinds-params c =
    other_lengths same_kinds same_kind (λ _ _ _ _. refl) (λ _ _. refl) (λ _ _. refl) c.args.kinds.now (param_kinds c.args.params.now)
    (λ e. c.if-kinds-params.true (e ∙ length-map c.args.params.now param_kind))
