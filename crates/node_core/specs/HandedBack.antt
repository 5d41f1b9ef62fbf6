-- What is handed back of a run, by the parts of its state.
use Rattle.std.specs.Prelude.{ℕ, ◌+◌, List, [], ◌∷◌}
use Rattle.mpc_base.specs.declared.journals.End.{End}
use Rattle.mpc_base.specs.declared.journals.RankEnd.{RankEnd}
use Rattle.mpc_base.specs.declared.journals.MapRow.{MapRow}
use Rattle.block_table.specs.declared.rows.Row.{Row}
use Rattle.run_model.specs.Ranks.{rank_state}
use Rattle.node_core.specs.declared.parts.TaskPart.{TaskPart}

-- the end of a rank, with all its output
abbrev pub end_of : ℕ → End → TaskPart → RankEnd
end_of task e part = record { state = rank_state task part.course part.course.exit e; output = part.own.output.items }

-- the same of the ranks from a number on
abbrev pub ends_from : ℕ → End → List TaskPart → List RankEnd
ends_from task e [] = []
ends_from task e (part ∷ more) = end_of task e part ∷ ends_from (task + 1) e more

-- where an object lies, by its row
abbrev pub map_row_of : Row → MapRow
map_row_of row = record { owner = row.owner; obj = row.obj; base = row.base; len = row.len }
