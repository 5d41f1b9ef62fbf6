-- What a table keeps.
use Rattle.std.specs.Prelude.{◌≡◌, ℕ, List, map, Option, Some}
use Rattle.std.specs.Option.{option_map}
use Rattle.mpc_values.specs.declared.values.Obj.{Obj}
use Rattle.mpc_values.specs.declared.owners.Owner.{Owner}
use Rattle.slab.specs.Slab.{get}
use Rattle.block_table.specs.declared.entries.Entry.{Entry}
use Rattle.block_table.specs.declared.table.Table.TheInside.{Inside}
use Rattle.block_table.specs.Rows.{Rows, IsNamed}
use Rattle.block_table.specs.Index.{Lines, indexed}
use Rattle.block_table.specs.Entries.{live_of, IsRoomy}

abbrev pub rows_seen : List (Option Entry) → Rows
rows_seen slots = map (option_map live_of) slots

abbrev pub seen_of : Inside → Rows
seen_of t = rows_seen t.rows.slots

-- The index names the rows and nothing else.
pub record Agrees (slots : List (Option Entry)) (index : Lines) : Type 0 where
  pub finds : (key : ℕ) (owner : Owner) (obj : Obj) → IsNamed (rows_seen slots) key owner obj → indexed index owner obj ≡ Some key
  pub names : (key : ℕ) (owner : Owner) (obj : Obj) → indexed index owner obj ≡ Some key → IsNamed (rows_seen slots) key owner obj

pub record IsKept (t : Inside) : Type 0 where
  pub agrees : Agrees t.rows.slots t.index
  pub roomy : (key : ℕ) (e : Entry) → get t.rows key ≡ Some e → IsRoomy e
