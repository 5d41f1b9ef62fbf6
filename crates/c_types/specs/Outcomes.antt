-- The answers of a pass: what it makes, or the first refusal.
use Rattle.std.specs.Global.{Global}
use Rattle.std.specs.Prelude.{◌≡◌, List, ◌++◌, Vec, Option, None, Some, Result, Ok, Err}
use Rattle.c_types.specs.declared.refusals.TypeRefusal.{TypeRefusal}

-- the refusal in an answer
abbrev pub fault : {A : Type 0} → Result A TypeRefusal → Option TypeRefusal
fault (Ok made) = None
fault (Err refusal) = Some refusal

-- these items, and behind them the others, where nothing is refused
abbrev pub Appends : {A : Type 0} → Result (Vec A Global) TypeRefusal → Result (Vec A Global) TypeRefusal → List A → Type 0
Appends (Ok all) (Ok more) items = items ≡ all.items ++ more.items
Appends all more items = ⊥
