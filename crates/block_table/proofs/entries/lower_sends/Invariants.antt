use Rattle.std.proofs.Common.{◌≡◌, ℕ, ◌-◌, ◌<◌, cond, length, get_or}
use Rattle.block_table.specs.declared.rows.Mark.TheVariants.{Free}
use Rattle.block_table.specs.Rows.{is_in, without_send}
use Rattle.block_table.proofs.entries.lower_sends.Given as goal

abbrev pub invariant-loop-p : goal.invariant-loop-p
invariant-loop-p l = (q : ℕ) → q < length l.marks → get_or l.marks q Free ≡ cond (is_in l.at (l.p - l.at) q) (without_send (get_or l.fn.marks q Free)) (get_or l.fn.marks q Free)
