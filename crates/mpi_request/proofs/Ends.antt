-- A request that ends.
use Rattle.std.proofs.Common.{◌≡◌, ◌≢◌, ℕ, zero, suc, ◌+◌, ◌<◌, Bool, true, false, cond, List, map, set, length, Option, Some, None, Result, refl, sym, ap, ◌∙◌, inl, inr, arith}
use Rattle.std.proofs.lemmas.List.{length-set}
use Rattle.std.specs.Prelude.{slice_get}
use Rattle.std.proofs.lemmas.Bool.{cases_eq}
use Rattle.std.proofs.lemmas.List.{map-set, get_or-set_same, get_or-set_other}
use Rattle.std.proofs.lemmas.Option.{slice_get_within}
use Rattle.mpc_values.specs.declared.answers.Status.{Status}
use Rattle.mpc_values.specs.declared.faults.Fault.{Fault}
use Rattle.mpi_request.specs.declared.requests.Awaited.{Awaited}
use Rattle.mpi_request.specs.declared.requests.Request.{Request}
use Rattle.mpi_request.specs.declared.started.Open.{Open}
use Rattle.mpi_request.specs.declared.owners.RequestId.{RequestId}
use Rattle.mpi_request.specs.Requests.{Active, named_in, named_at, without_request}
use Rattle.mpi_request.specs.Started.{post_of}
use Rattle.mpi_request.specs.Owners.{PostOwners, owner_in, is_it, has_owner, without_owner}
use Rattle.mpi_request.specs.Active.{OwnRequests, Table, no_own, own_at, open_in, without}
use Rattle.mpi_request.specs.Steps.{id_of, finished, released}
use Rattle.mpi_request.specs.Shown.{Names, seen_opens, seen_listed, Shows, seen_request, seen_started, requests_seen, own_seen}
use Rattle.mpi_request.proofs.Listed.{active_from, active_ended}
use Rattle.mpi_request.proofs.Entries.{apart}
use Rattle.mpi_request.proofs.Kept.{some_same, no_some, apart_mapped, lookup_apart, lookup_others}
use Rattle.mpi_request.proofs.Seen.{own_shown, own_there, made_shown, active_shown}
use Rattle.mpi_request.proofs.Starts.{awaiting, awaits, same_id}

-- the place of an active request in the list
named_within : (list : List Request) (i number : ℕ) (r : Request) → named_at list (suc i) ≡ Active number r → i < length list
named_within list i number r is = by (slice_get list i) refl is
  where
    by : (x : Option Request) → slice_get list i ≡ x → named_in (suc i) x ≡ Active number r → i < length list
    by None at e = let no : ⊥ = cc in absurd no
    by (Some y) at e = slice_get_within list i y at

-- the requests of the task without one
end_shown : (names : Names) (own : OwnRequests) (list : List Request) (n number : ℕ) (r : Request) → own_seen names own ≡ requests_seen list → named_at list n ≡ Active number r
    → own_seen names (without own n) ≡ requests_seen (without_request list n r)
end_shown names own list zero number r same is = let no : ⊥ = cc in absurd no
end_shown names own list (suc i) number r same is =
    let within : i < length list = named_within list i number r is in
    let made : own.made ≡ length (set list i (record r { active = false })) = made_shown names own list same ∙ sym (length-set list i (record r { active = false })) in
    let active : seen_opens names (apart (suc i) own.active) ≡ seen_listed (active_from 1 (set list i (record r { active = false }))) =
    apart_mapped (λ (o : Open). seen_started names o.what) (suc i) own.active
    ∙ (ap (apart (suc i)) (active_shown names own list same)
    ∙ (sym (apart_mapped seen_request (suc i) (active_from 1 list))
    ∙ ap seen_listed (sym (active_ended 1 (suc i) i list (record r { active = false }) (let e : suc i ≡ 1 + i = omega arith in e) within refl)))) in
    λ k. record { made = made k; active = active k }

left_either : (b : Bool) (owners : PostOwners) (p q : ℕ) (first : RequestId) → q ≢ p → owner_in owners q ≡ Some first → owner_in (cond b (apart p owners) owners) q ≡ Some first
left_either true owners p q first other is = lookup_others q p owners other ∙ is
left_either false owners p q first other is = is

-- the postings after an end: those of other requests keep theirs
owner_left : (owners : PostOwners) (found : Option Open) (id : RequestId) (q : ℕ) (first : RequestId) → owner_in owners q ≡ Some first → (first ≡ id → ⊥)
    → ((o : Open) (p : ℕ) → found ≡ Some o → post_of o.what ≡ Some p → owner_in owners p ≡ Some id) → owner_in (released owners found id) q ≡ Some first
owner_left owners None id q first is differs mine = is
owner_left owners (Some o) id q first is differs mine = by (post_of o.what) refl
  where
    by : (x : Option ℕ) → post_of o.what ≡ x → owner_in (without_owner owners x id) q ≡ Some first
    by None at = is
    by (Some p) at =
        left_either (has_owner owners p id) owners p q first (λ same. differs (some_same first id (sym is ∙ (ap (owner_in owners) same ∙ mine o p refl at)))) is

-- whose a posting is after an end
owner_before : (owners : PostOwners) (found : Option Open) (id : RequestId) (q : ℕ) (first : RequestId) → owner_in (released owners found id) q ≡ Some first
    → ((o : Open) (p : ℕ) → found ≡ Some o → post_of o.what ≡ Some p → owner_in owners p ≡ Some id)
    → (owner_in owners q ≡ Some first) × ((o : Open) → found ≡ Some o → post_of o.what ≢ Some q)
owner_before owners None id q first is mine = (is, λ o at. absurd (no_some o at))
owner_before owners (Some o) id q first is mine = by (post_of o.what) refl is
  where
    by : (x : Option ℕ) → post_of o.what ≡ x → owner_in (without_owner owners x id) q ≡ Some first → (owner_in owners q ≡ Some first) × ((z : Open) → Some o ≡ Some z → post_of z.what ≢ Some q)
    by None at e = (e, λ z same this. no_some q (sym at ∙ (ap (λ (w : Open). post_of w.what) (some_same o z same) ∙ this)))
    by (Some p) at e =
        let has : has_owner owners p id ≡ true = ap (λ x. is_it x id) (mine o p refl at) ∙ same_id id in
        let it = lookup_apart q p owners first (ap (λ b. owner_in (cond b (apart p owners) owners) q) (sym has) ∙ e) in
        (it.1, λ z same this. it.0 (some_same q p (sym this ∙ (ap (λ (w : Open). post_of w.what) (sym (some_same o z same)) ∙ at))))

-- the requests after an end
abbrev end_id : ℕ → ℕ → RequestId
end_id task n = id_of task n

abbrev after_end : Table → ℕ → ℕ → Table
after_end t task n = record { tasks = set t.tasks task (without (own_at t task) n); owners = released t.owners (open_in (own_at t task) n) (end_id task n) }

end_at : (t : Table) (task n : ℕ) → task < length t.tasks → own_at (after_end t task n) task ≡ without (own_at t task) n
end_at t task n less = get_or-set_same t.tasks task (without (own_at t task) n) no_own less

end_others : (t : Table) (task n k : ℕ) → k ≢ task → own_at (after_end t task n) k ≡ own_at t k
end_others t task n k differs = get_or-set_other t.tasks task k (without (own_at t task) n) no_own differs

-- what is found after an end was found before, and is not the request that ended
end_cases : (t : Table) (task n : ℕ) → task < length t.tasks → (k number : ℕ) (o : Open) → open_in (own_at (after_end t task n) k) number ≡ Some o
    → (open_in (own_at t k) number ≡ Some o) × (id_of k number ≡ end_id task n → ⊥)
end_cases t task n less k number o found = elim (cases_eq k task) [
  | inl here ↦
      let it = lookup_apart number n (own_at t task).active o (ap (λ (p : OwnRequests). open_in p number) (sym (ap (own_at (after_end t task n)) here ∙ end_at t task n less)) ∙ found) in
      (ap (λ a. open_in (own_at t a) number) here ∙ it.1, λ same. it.0 (ap (λ (x : RequestId). x.number) same))
  | inr there ↦
      (ap (λ (p : OwnRequests). open_in p number) (sym (end_others t task n k there)) ∙ found, λ same. there (ap (λ (x : RequestId). x.task) same))
]

end_kept : (t : Table) (task n : ℕ) → task < length t.tasks → (k number : ℕ) (o : Open) → open_in (own_at t k) number ≡ Some o → ((k ≡ task) × (number ≡ n) → ⊥)
    → open_in (own_at (after_end t task n) k) number ≡ Some o
end_kept t task n less k number o found differs = elim (cases_eq k task) [
  | inl here ↦
      ap (λ (p : OwnRequests). open_in p number) (ap (own_at (after_end t task n)) here ∙ end_at t task n less)
      ∙ (lookup_others number n (own_at t task).active (λ same. differs (here, same)) ∙ (ap (λ a. open_in (own_at t a) number) (sym here) ∙ found))
  | inr there ↦ ap (λ (p : OwnRequests). open_in p number) (end_others t task n k there) ∙ found
]

-- The requests that are kept, without one that was active, stand for those of the definitions without it.
pub finished_shown : (names : Names) (tells : Awaited → Option (Result Status Fault)) (posts : ℕ) (requests : List (List Request)) (t : Table) (task n number : ℕ) (list : List Request) (r : Request)
    → Shows names tells posts requests t → slice_get requests task ≡ Some list → named_at list n ≡ Active number r
    → Shows names tells posts (set requests task (without_request list n r)) (finished t task n)
unfolding finished
finished_shown names tells posts requests t task n number list r s got is =
    let less : task < length t.tasks = own_there names tells posts requests t task list s got in
    let same : own_seen names (own_at t task) ≡ requests_seen list = own_shown names tells posts requests t task list s got in
    let mine : (o : Open) (p : ℕ) → open_in (own_at t task) n ≡ Some o → post_of o.what ≡ Some p → owner_in t.owners p ≡ Some (end_id task n) = λ o p at awaited. s.owned task n p o at awaited in
    record {
      tasks = map-set (own_seen names) t.tasks task (without (own_at t task) n)
          ∙ (ap (λ l. set l task (own_seen names (without (own_at t task) n))) s.tasks
          ∙ (ap (set (map requests_seen requests) task) (end_shown names (own_at t task) list n number r same is)
          ∙ sym (map-set requests_seen requests task (without_request list n r))));
      tell = λ k m o found. s.tell k m o (end_cases t task n less k m o found).0;
      owned = λ k m post o found awaited.
          let it = end_cases t task n less k m o found in
          owner_left t.owners (open_in (own_at t task) n) (end_id task n) post (id_of k m) (s.owned k m post o it.0 awaited) it.1 mine;
      named = λ post first at.
          let it = owner_before t.owners (open_in (own_at t task) n) (end_id task n) post first at mine in
          let a = awaiting t first post (s.named post first it.0) in
          awaits (after_end t task n) first post a.0
          (end_kept t task n less first.task first.number a.0 a.1 (λ both. it.1 a.0 (sym (ap (λ k. open_in (own_at t k) n) both.0) ∙ (sym (ap (open_in (own_at t first.task)) both.1) ∙ a.1)) a.2)) a.2;
      posted = λ k m post o found awaited. s.posted k m post o (end_cases t task n less k m o found).0 awaited;
    }
