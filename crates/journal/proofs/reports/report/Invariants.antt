use Rattle.std.proofs.Common.{◌≡◌, ◌++◌, drop}
use Rattle.journal.specs.Report.{rank_parts}
use Rattle.journal.proofs.reports.report.Given as goal

abbrev pub invariant-loop-rank : goal.invariant-loop-rank
invariant-loop-rank l = l.text.items ++ rank_parts l.rank (drop l.rank l.run.ranks) ≡ rank_parts 0 l.run.ranks
