use Rattle.std.proofs.Common.{◌≡◌, ℕ, ◌-◌, ◌<◌, cond, length, get_or}
use Rattle.block_table.specs.declared.rows.Mark.TheVariants.{Free}
use Rattle.block_table.specs.Rows.{is_in}
use Rattle.block_table.proofs.entries.mark_all.Given as goal

abbrev pub invariant-loop-p : goal.invariant-loop-p
invariant-loop-p l = (q : ℕ) → q < length l.marks → get_or l.marks q Free ≡ cond (is_in l.at (l.p - l.at) q) (l.mark) (get_or l.fn.marks q Free)
