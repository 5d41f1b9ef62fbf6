-- Numbers keep rising, whether a posting waits or its partner leaves.
use Rattle.std.proofs.Common.{ℕ, ◌+◌, ◌≤◌, ◌<◌, ◌∷◌, [], ◌++◌, not, ◌==◌, slice_index_or, arith}
use Rattle.std.specs.Prelude.{All}
use Rattle.std.proofs.lemmas.List.Elements.{All-push, All-filter}
use Rattle.std.proofs.lemmas.List.Quantifiers.{all_pairs_push}
use Rattle.std.proofs.lemmas.List.Kept.{AllPairs-filter}
use Rattle.mpc_values.specs.declared.limits.TheConstants.{MAX_GIVEN}
use Rattle.mpi_queue.specs.declared.postings.Posting.{Posting}
use Rattle.mpi_queue.specs.Matching.{Matching, IsCounted, without}

given_more : (q : Matching) → IsCounted q → All (λ w. w.0 ≤ q.made + 1) q.waiting
given_more q c k d h = let fact : (slice_index_or q.waiting k d).0 ≤ q.made = c.given k d h in omega arith

pub IsCounted-without : (q : Matching) (n : ℕ) → IsCounted q → q.made < MAX_GIVEN → IsCounted (record { made = q.made + 1; waiting = without q.waiting n })
IsCounted-without q n c few = record {
  few = omega arith;
  rising = AllPairs-filter (λ a b. a.0 < b.0) (λ w. not (w.0 == n)) q.waiting c.rising;
  given = All-filter (λ w. not (w.0 == n)) (λ w. w.0 ≤ q.made + 1) q.waiting (given_more q c);
}

pub IsCounted-push : (q : Matching) (p : Posting) → IsCounted q → q.made < MAX_GIVEN → IsCounted (record { made = q.made + 1; waiting = q.waiting ++ (q.made + 1, p) ∷ [] })
IsCounted-push q p c few = record {
  few = omega arith;
  rising = all_pairs_push (λ a b. a.0 < b.0) q.waiting (q.made + 1, p) c.rising
      (λ k d h. let fact : (slice_index_or q.waiting k d).0 ≤ q.made = c.given k d h in omega arith);
  given = All-push (λ w. w.0 ≤ q.made + 1) q.waiting (q.made + 1, p) (given_more q c) (omega arith);
}
