-- How what nodes hold is told apart.
use Rattle.std.specs.Prelude.{List, Option, refl}
use Rattle.std.specs.Coded.{Coded, code_by, coded×, coded_list, coded_option}
use Rattle.mpc_base.specs.declared.journals.Entry.{Entry}
use Rattle.mpc_base.specs.contracts.journals.Entry as entry
use Rattle.mpc_base.specs.declared.journals.End.{End}
use Rattle.mpc_base.specs.contracts.journals.End as end
use Rattle.run_model.specs.declared.records.Setup.{Setup}
use Rattle.run_model.specs.contracts.records.Setup as setup
use Rattle.node_core.specs.Held.{Held}

abbrev pub held_code : Coded Held
held_code =
    code_by (Setup × (List Entry × Option End)) (coded× setup.the_row.coded (coded× (coded_list entry.the_row.coded) (coded_option end.the_row.coded))) (λ h. (h.setup, (h.entries, h.stop))) (λ p. record { setup = p.0; entries = p.1.0; stop = p.1.1 }) (λ _. refl)
