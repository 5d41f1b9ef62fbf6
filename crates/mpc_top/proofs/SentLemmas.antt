-- A sink takes a text piece after piece.
use Rattle.std.proofs.Common.{◌≡◌, ℕ, ◌+◌, ◌≤◌, Option, Some, None, List, ◌++◌, take, drop, length, refl, ap, ◌∙◌, arith, length-drop, append_assoc}
use Rattle.std.proofs.Math.Seq.{take-add}
use Rattle.std.proofs.lemmas.List.{drop-drop}
use Rattle.mpc_base.specs.Told.{Took}
use Rattle.mpc_top.specs.Sent.{Sent}

took_more : (before after after' : Option (List ℕ)) (piece : List ℕ) (n m : ℕ) → Took before (take n piece) after → Took after (take m (drop n piece)) after' → Took before (take (n + m) piece) after'
took_more None None after' piece n m first second = second
took_more None (Some x) after' piece n m first second = absurd (cc first)
took_more (Some b) None after' piece n m first second = absurd (cc first)
took_more (Some b) (Some x) after' piece n m first second =
    let same : x ≡ b ++ take n piece = cc in
    second ∙ rw (same, append_assoc, take-add n m piece) refl

pub Sent-more : (before after after' : Option (List ℕ)) (piece left : List ℕ) (m : ℕ) → m ≤ length left → Sent before piece after left → Took after (take m left) after' → Sent before piece after' (drop m left)
Sent-more before after after' piece left m small (n, within, is, took) more =
    (n + m, omega (arith, ap length is, length-drop n piece), rw is (drop-drop m n piece), took_more before after after' piece n m took (rw is at more))
