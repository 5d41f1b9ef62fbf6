-- Names of rows that change where no active request has a place.
use Rattle.std.proofs.Common.{◌≡◌, ◌≢◌, ℕ, suc, ◌+◌, ◌≤◌, Bool, true, false, cond, List, [], ◌∷◌, map, get_or, Some, None, refl, sym, ap, ◌∙◌, subst, arith}
use Rattle.std.specs.Ordering.{nat_cmp}
use Rattle.std.specs.Map.{lookup, keys_of}
use Rattle.std.specs.BTreeMap.{is_at}
use Rattle.block_table.specs.declared.rows.Span as row
use Rattle.mpi_request.specs.declared.requests.Request.{Request}
use Rattle.mpi_request.specs.declared.started.Started.{Started}
use Rattle.mpi_request.specs.declared.started.Started.TheVariants.{AtOnce, Send, Recv}
use Rattle.mpi_request.specs.declared.started.Open.{Open}
use Rattle.mpi_request.specs.Started.{span_of}
use Rattle.mpi_request.specs.Active.{OwnRequests, Table, no_own, own_at, open_in}
use Rattle.mpi_request.specs.Shown.{Names, seen_opens, seen_listed, Tells, OwnSeen, Shows, seen_started, requests_seen, own_seen}
use Rattle.mpi_request.proofs.Entries.{at_same, at_other}
use Rattle.mpi_request.proofs.Listed.{active_from}
use Rattle.mpi_request.proofs.Kept.{mapped}

-- numbers that rise, from b on
abbrev Rises : ℕ → List ℕ → Type 0
Rises b [] = Unit {0}
Rises b (k ∷ ks) = (b ≤ k) × Rises (k + 1) ks

rises_from : (b c : ℕ) (ks : List ℕ) → b ≤ c → Rises c ks → Rises b ks
rises_from b c [] less r = tt
rises_from b c (k ∷ ks) less r = (let l : b ≤ k = omega (arith, r.0) in l, r.1)

active_rises : (b : ℕ) (rs : List Request) → Rises b (keys_of (seen_listed (active_from b rs)))
active_rises b [] = tt
active_rises b (x ∷ rs) = by x.active (active_rises (b + 1) rs)
  where
    by : (a : Bool) → Rises (b + 1) (keys_of (seen_listed (active_from (b + 1) rs))) → Rises b (keys_of (seen_listed (cond a ((b, x) ∷ active_from (b + 1) rs) (active_from (b + 1) rs))))
    by true rest = (let l : b ≤ b = omega arith in l, rest)
    by false rest = rises_from b (b + 1) (keys_of (seen_listed (active_from (b + 1) rs))) (let l : b ≤ b + 1 = omega arith in l) rest

-- what two functions make of entries whose numbers rise, where they make the same of each that a look-up finds
mapped_alike : {X Y : Type 0} (f g : X → Y) (b : ℕ) (es : List (ℕ × X)) → Rises b (keys_of (mapped g es))
    → ((n : ℕ) (x : X) → b ≤ n → lookup (is_at (nat_cmp n)) es ≡ Some x → f x ≡ g x)
    → mapped f es ≡ mapped g es
mapped_alike f g b [] rises same = refl
mapped_alike f g b (e ∷ es) rises same =
    let here : f e.1 ≡ g e.1 = same e.0 e.1 rises.0 (ap (λ t. cond t (Some e.1) (lookup (is_at (nat_cmp e.0)) es)) (at_same e.0)) in
    let rest : mapped f es ≡ mapped g es =
    mapped_alike f g (e.0 + 1) es rises.1 (λ n x less found.
    same n x (let l : b ≤ n = omega (arith, rises.0) in l)
    (ap (λ t. cond t (Some e.1) (lookup (is_at (nat_cmp n)) es)) (at_other n e.0 (let d : e.0 ≢ n = omega arith in d)) ∙ found)) in
    ap (λ y. (e.0, y) ∷ mapped f es) here ∙ ap (λ l. (e.0, g e.1) ∷ l) rest

named_alike : (before after : Names) (what : Started) → ((s : row.Span) → span_of what ≡ Some s → after s.key ≡ before s.key) → seen_started after what ≡ seen_started before what
named_alike before after (AtOnce status) same = refl
named_alike before after (Send post None eager) same = refl
named_alike before after (Send post (Some s) eager) same = ap (λ n. seen_started (λ k. n) (Send post (Some s) eager)) (same s refl)
named_alike before after (Recv post None) same = refl
named_alike before after (Recv post (Some s)) same = ap (λ n. seen_started (λ k. n) (Recv post (Some s))) (same s refl)

awaited_alike : (before after : Names) (what : Started) → (seen_started after what).awaited ≡ (seen_started before what).awaited
awaited_alike before after (AtOnce status) = refl
awaited_alike before after (Send post span eager) = refl
awaited_alike before after (Recv post span) = refl

own_alike : (before after : Names) (own : OwnRequests) (list : List Request) → own_seen before own ≡ requests_seen list
    → ((number : ℕ) (o : Open) (s : row.Span) → open_in own number ≡ Some o → span_of o.what ≡ Some s → after s.key ≡ before s.key) → own_seen after own ≡ own_seen before own
own_alike before after own list shown same =
    let rises : Rises 1 (keys_of (seen_opens before own.active)) =
    subst (λ (o : OwnSeen). Rises 1 (keys_of o.active)) (sym shown) (active_rises 1 list) in
    let active : seen_opens after own.active ≡ seen_opens before own.active =
    mapped_alike (λ (o : Open). seen_started after o.what) (λ (o : Open). seen_started before o.what) 1 own.active rises
    (λ n o less found. named_alike before after o.what (λ s is. same n o s found is)) in
    λ i. record { made = own.made; active = active i }

tasks_alike : (before after : Names) (tasks : List OwnRequests) (requests : List (List Request)) → map (own_seen before) tasks ≡ map requests_seen requests
    → ((task number : ℕ) (o : Open) (s : row.Span) → open_in (get_or tasks task no_own) number ≡ Some o → span_of o.what ≡ Some s → after s.key ≡ before s.key)
    → map (own_seen after) tasks ≡ map (own_seen before) tasks
tasks_alike before after [] requests shown same = refl
tasks_alike before after (own ∷ tasks) [] shown same = let no : ⊥ = cc in absurd no
tasks_alike before after (own ∷ tasks) (list ∷ requests) shown same =
    let here : own_seen before own ≡ requests_seen list = cc in
    let more : map (own_seen before) tasks ≡ map requests_seen requests = cc in
    ap (λ o. o ∷ map (own_seen after) tasks) (own_alike before after own list here (same 0))
    ∙ ap (λ l. own_seen before own ∷ l) (tasks_alike before after tasks requests more (λ task. same (suc task)))

pub renamed_shown : (before after : Names) (tells : Tells) (posts : ℕ) (requests : List (List Request)) (t : Table)
    → Shows before tells posts requests t
    → ((task number : ℕ) (o : Open) (s : row.Span) → open_in (own_at t task) number ≡ Some o → span_of o.what ≡ Some s → after s.key ≡ before s.key)
    → Shows after tells posts requests t
renamed_shown before after tells posts requests t s same = record {
  tasks = tasks_alike before after t.tasks requests s.tasks same ∙ s.tasks;
  tell = λ task number o found. s.tell task number o found ∙ ap tells (sym (awaited_alike before after o.what));
  owned = s.owned;
  named = s.named;
  posted = s.posted;
}
