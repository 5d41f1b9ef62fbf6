-- How the objects of a memory are told apart.
use Rattle.std.specs.Prelude.{ℕ, List, refl}
use Rattle.std.specs.Coded.{Coded, code_by, coded×, coded_ℕ, coded_list}
use Rattle.std.specs.FinMap as map
use Rattle.mpc_values.specs.declared.values.Word.{Word}
use Rattle.mpc_values.specs.contracts.values.Word as word
use Rattle.serial_memory.specs.declared.kinds.Kind.{Kind}
use Rattle.serial_memory.specs.contracts.kinds.Kind as kind
use Rattle.serial_memory.specs.Memory.{Memory, Object}
use Rattle.serial_memory.specs.Access.{Objects}

abbrev pub object_code : Coded Object
object_code =
    code_by (Kind × List Word) (coded× kind.the_row.coded (coded_list word.the_row.coded)) (λ o. (o.kind, o.words)) (λ p. record { kind = p.0; words = p.1 }) (λ _. refl)

abbrev pub objects_code : Coded Objects
objects_code =
    code_by (Memory × ℕ) (coded× (map.code (coded_list coded_ℕ) object_code) coded_ℕ) (λ o. (o.memory, o.made)) (λ p. record { memory = p.0; made = p.1 }) (λ _. refl)
