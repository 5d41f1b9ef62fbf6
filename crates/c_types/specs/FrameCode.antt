-- A code of frames, by which a type of the code may have them as its model.
use Rattle.std.specs.Prelude.{Bool, List, refl}
use Rattle.std.specs.Coded.{Coded, coded_bool, coded_list, coded×, code_by}
use Rattle.c_types.specs.Addresses.{Frame}
use Rattle.c_types.specs.Env.{Scope}
use Rattle.c_types.specs.EnvCode.{coded_scope}

abbrev pub frame_code : Coded Frame
frame_code = code_by (List Scope × List Bool) (coded× (coded_list coded_scope) (coded_list coded_bool)) (λ f. (f.scopes, f.taken)) (λ p. record { scopes = p.0; taken = p.1 }) (λ _. refl)
