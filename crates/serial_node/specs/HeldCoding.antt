-- How what nodes hold is told apart.
use Rattle.std.specs.Prelude.{List, refl}
use Rattle.std.specs.Coded.{Coded, code_by, coded×, coded_list}
use Rattle.mpc_base.specs.declared.journals.Entry.{Entry}
use Rattle.mpc_base.specs.contracts.journals.Entry as entry
use Rattle.serial_model.specs.declared.records.Setup.{Setup}
use Rattle.serial_model.specs.contracts.records.Setup as setup
use Rattle.serial_node.specs.Held.{Held}

abbrev pub held_code : Coded Held
held_code =
    code_by (Setup × List Entry) (coded× setup.the_row.coded (coded_list entry.the_row.coded)) (λ h. (h.setup, h.entries)) (λ p. record { setup = p.0; entries = p.1 }) (λ _. refl)
