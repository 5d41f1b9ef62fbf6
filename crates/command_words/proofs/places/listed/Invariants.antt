use Rattle.std.proofs.Common.{◌≡◌, ℕ, length}
use denote.Text.{Utf8}
use denote.Shadow.{shadow}
use Rattle.command_words.specs.Lists.{listed}
use Rattle.command_words.proofs.Pieces.{joined}
use Rattle.command_words.proofs.places.listed.Given as goal

abbrev pub invariant-loop-first : goal.invariant-loop-first
invariant-loop-first l = shadow (Utf8 l.rest) × (joined l.cores.items (listed l.rest) ≡ listed l.fn.text)

abbrev pub decreases-loop-first : goal.decreases-loop-first
decreases-loop-first l = length l.rest
