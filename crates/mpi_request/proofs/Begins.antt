-- Requests before the first, and names of rows.
use Rattle.std.proofs.Common.{◌≡◌, ℕ, zero, suc, [], ◌∷◌, map, get_or, replicate, Some, refl, sym, ap, ◌∙◌}
use Rattle.mpi_request.specs.declared.started.Open.{Open}
use Rattle.mpi_request.specs.Active.{OwnRequests, no_own, own_at, open_in}
use Rattle.mpi_request.specs.Steps.{no_requests}
use Rattle.mpi_request.specs.Shown.{Names, Tells, Shows, requests_seen, own_seen}
use Rattle.mpi_request.proofs.Kept.{no_some}

none_at : (tasks k : ℕ) → get_or (replicate tasks no_own) k no_own ≡ no_own
none_at zero k = refl
none_at (suc tasks) zero = refl
none_at (suc tasks) (suc k) = none_at tasks k

alike : (names : Names) (tasks : ℕ) → map (own_seen names) (replicate tasks no_own) ≡ map requests_seen (replicate tasks [])
alike names zero = refl
alike names (suc tasks) = ap (λ l. own_seen names no_own ∷ l) (alike names tasks)

nothing_open : (tasks k number : ℕ) (o : Open) → open_in (own_at (no_requests tasks) k) number ≡ Some o → ⊥
nothing_open tasks k number o found = no_some o (sym (ap (λ (p : OwnRequests). open_in p number) (none_at tasks k)) ∙ found)

-- tasks without requests
pub begins_shown : (names : Names) (tells : Tells) (tasks : ℕ) → Shows names tells 0 (replicate tasks []) (no_requests tasks)
begins_shown names tells tasks = record {
  tasks = alike names tasks;
  tell = λ k number o found. absurd (nothing_open tasks k number o found);
  owned = λ k number post o found awaited. absurd (nothing_open tasks k number o found);
  named = λ post id at. absurd (no_some id at);
  posted = λ k number post o found awaited. absurd (nothing_open tasks k number o found);
}
