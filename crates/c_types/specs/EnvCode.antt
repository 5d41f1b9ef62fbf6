-- A code of what is known at a place, by which a type of the code may have it as its model.
use Rattle.std.specs.Prelude.{ℕ, Bool, List, refl}
use Rattle.std.specs.Coded.{Coded, coded_ℕ, coded_bool, coded_list, coded×, code_by}
use Rattle.std.specs.FinMap as map
use Rattle.mpc_values.specs.declared.owners.StaticVar.{StaticVar}
use Rattle.mpc_values.specs.contracts.owners.StaticVar as variable
use Rattle.c_tree.specs.declared.program.Construct.{Construct}
use Rattle.c_tree.specs.contracts.program.Construct as construct
use Rattle.c_types.specs.declared.kinds.Kind.{Kind}
use Rattle.c_types.specs.contracts.kinds.Kind as kind
use Rattle.c_types.specs.contracts.kinds.Decl as decl
use Rattle.c_types.specs.declared.kinds.Sig.{Sig}
use Rattle.c_types.specs.contracts.kinds.Sig as sig
use Rattle.c_types.specs.Env.{Env, Scope}

abbrev pub Declared : Type 0
Declared = (Scope × ℕ) × (List Scope × (List Sig × Bool))

abbrev pub Statics : Type 0
Statics = (List StaticVar × List StaticVar) × (ℕ × List Construct)

abbrev pub Inner : Type 0
Inner = ℕ × (List Bool × Kind)

abbrev pub coded_scope : Coded Scope
coded_scope = map.code (coded_list coded_ℕ) decl.the_row.coded

abbrev pub coded_declared : Coded Declared
coded_declared = coded× (coded× coded_scope coded_ℕ) (coded× (coded_list coded_scope) (coded× (coded_list sig.the_row.coded) coded_bool))

abbrev pub coded_statics : Coded Statics
coded_statics = coded× (coded× (coded_list variable.the_row.coded) (coded_list variable.the_row.coded)) (coded× coded_ℕ (coded_list construct.the_row.coded))

abbrev pub coded_inner : Coded Inner
coded_inner = coded× coded_ℕ (coded× (coded_list coded_bool) kind.the_row.coded)

abbrev pub env_code : Coded Env
env_code = code_by (Declared × (Statics × Inner)) (coded× coded_declared (coded× coded_statics coded_inner))
    (λ e. (((e.definitions, e.file_variables), (e.scopes, (e.functions, e.has_definition))), (((e.globals, e.statics), (e.words, e.constructs)), (e.slots, (e.taken, e.returns)))))
    (λ p. record { definitions = p.0.0.0; file_variables = p.0.0.1; scopes = p.0.1.0; functions = p.0.1.1.0; has_definition = p.0.1.1.1; globals = p.1.0.0.0; statics = p.1.0.0.1; words = p.1.0.1.0; constructs = p.1.0.1.1; slots = p.1.1.0; taken = p.1.1.1.0; returns = p.1.1.1.1 })
    (λ _. refl)
