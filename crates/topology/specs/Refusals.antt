-- The names of refusals.
use Rattle.std.specs.Prelude.{ℕ, List, codes}
use Rattle.topology.specs.declared.refusals.MachineRefusal.{MachineRefusal}
use Rattle.topology.specs.declared.refusals.MachineRefusal.TheVariants.{NotToml, BadField, NoCores, TooManyCores, NotNested}

-- a refusal's name
abbrev pub refusal_name : MachineRefusal → List ℕ
refusal_name NotToml = codes "NotToml"
refusal_name BadField = codes "BadField"
refusal_name NoCores = codes "NoCores"
refusal_name TooManyCores = codes "TooManyCores"
refusal_name NotNested = codes "NotNested"
