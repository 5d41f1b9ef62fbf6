use Rattle.std.proofs.Common.{◌∙◌, List, None, length, ap, sym, subst}
use Rattle.mpc_base.specs.declared.journals.Entry.{Entry}
use Rattle.run_model.specs.Setup.{setup_of}
use Rattle.node_core.specs.IsRun.{IsRun}
use Rattle.node_core.proofs.Beginnings.{begins}
use Rattle.node_core.proofs.node.Node.new.Goals as goal

pub invariant_of-result : goal.invariant_of-result
invariant_of-result c = (
  subst (λ (es : List Entry). IsRun (setup_of c.args.setup) es c.in_ok-state.state c.ending_after-end.result None) (sym (c.of.ensures ∙ c.new-entries.ensures.items))
      (begins (setup_of c.args.setup) c.in_ok-state.state c.ending_after-end.result c.requires.valid c.in_ok-state.ensures.stands c.in_ok-state.ensures.set c.in_ok-state.ensures.noted c.ending_after-end.ensures),
  ap length c.as_slice.ensures,
)
