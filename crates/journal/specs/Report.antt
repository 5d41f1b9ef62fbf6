-- The text of a report.
use Rattle.std.specs.Prelude.{ℕ, ◌+◌, ◌-◌, slice_get, ◌==◌, if◌then◌else◌, List, [], ◌∷◌, ◌++◌, length, codes, Option, Some, None}
use Rattle.std.specs.Fmt.{decimal, signed_decimal}
use Rattle.mpc_base.specs.declared.journals.End.{End}
use Rattle.mpc_base.specs.declared.journals.End.TheVariants as end
use Rattle.mpc_values.specs.CallTable.{fault_name, name_of_number}
use Rattle.mpc_base.specs.declared.journals.RankEnd.{RankEnd}
use Rattle.mpc_base.specs.declared.journals.RankState.{RankState}
use Rattle.mpc_base.specs.declared.journals.RankState.TheVariants as rank

-- how a rank stands
abbrev pub state_text : RankState → List ℕ
state_text (rank.Exit code) = codes "exit " ++ signed_decimal code
state_text rank.Stopped = codes "stopped"
state_text (rank.Blocked call line) = codes "blocked in " ++ (name_of_number call ++ (codes " at line " ++ decimal line))
state_text (rank.Fault fault line) = codes "fault " ++ (fault_name fault ++ (codes " at line " ++ decimal line))
state_text (rank.Aborted code line) = codes "aborted " ++ (signed_decimal code ++ (codes " at line " ++ decimal line))

-- the line before a rank's output
abbrev pub rank_line : ℕ → RankState → ℕ → List ℕ
rank_line rank state length' =
    codes "== rank " ++ (decimal rank ++ (codes ": " ++ (state_text state ++ (codes ", " ++ (decimal length' ++ codes " bytes ==\n")))))

-- a line feed, where the output is not empty and does not end with one
abbrev pub closing_at : Option ℕ → List ℕ
closing_at None = []
closing_at (Some last) = if last == 10 then [] else 10 ∷ []

abbrev pub closing : List ℕ → List ℕ
closing output = closing_at (slice_get output (length output - 1))

-- a rank's line and its output
abbrev pub rank_part : ℕ → RankEnd → List ℕ
rank_part rank rank_end = rank_line rank rank_end.state (length rank_end.output) ++ (rank_end.output ++ closing rank_end.output)

-- the parts of the ranks from a number on
abbrev pub rank_parts : ℕ → List RankEnd → List ℕ
rank_parts rank [] = []
rank_parts rank (rank_end ∷ more) = rank_part rank rank_end ++ rank_parts (rank + 1) more

-- the last line; a run that goes on has none, nor has one that is given up for want of memory
abbrev pub ending_line : End → List ℕ
ending_line end.Going = []
ending_line end.Finished = codes "== run: finished ==\n"
ending_line (end.Fault task fault line) = codes "== run: fault in rank " ++ (decimal task ++ codes " ==\n")
ending_line (end.Abort task code line) = codes "== run: aborted by rank " ++ (decimal task ++ codes " ==\n")
ending_line end.Stuck = codes "== run: stuck ==\n"
ending_line end.NoThread = codes "== run: no thread ==\n"
ending_line end.NoMemory = []

-- the report of a run with these ranks and this end
abbrev pub report_of : List RankEnd → End → List ℕ
report_of ranks end' = rank_parts 0 ranks ++ ending_line end'
