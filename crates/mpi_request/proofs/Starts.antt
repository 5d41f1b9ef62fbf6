-- A request that is started, and one whose start is taken back.
use Rattle.std.proofs.Common.{◌≡◌, ◌≢◌, ℕ, zero, suc, ◌+◌, ◌<◌, ◌≤◌, ◌&&◌, true, not, ◌==◌, cond, List, [], ◌∷◌, ◌++◌, map, set, length, Option, Some, None, Result, refl, sym, ap, ◌∙◌, inl, inr, ◌⊎◌, subst, arith, length-append}
use Rattle.std.specs.Prelude.{slice_get}
use Rattle.std.specs.Option.{option_map, option_and_then}
use Rattle.std.specs.Ordering.{nat_cmp}
use Rattle.std.specs.Map.{lookup}
use Rattle.std.specs.BTreeMap.{is_at, insert_entry}
use Rattle.std.specs.declared.cmp.Ordering.TheVariants.{Less, Greater}
use Rattle.std.specs.Ordering.{match_ordering}
use Rattle.std.specs.Cmp.{nat_cmp_is}
use Rattle.std.proofs.lemmas.Bool.{cases_eq, cases_lt}
use Rattle.std.proofs.lemmas.List.{map-set, get_or-set_same, get_or-set_other, set-get_or}
use Rattle.std.proofs.lemmas.Option.{slice_get_past}
use Rattle.mpc_values.specs.declared.answers.Status.{Status}
use Rattle.mpc_values.specs.declared.faults.Fault.{Fault}
use Rattle.mpi_request.specs.declared.requests.Awaited.{Awaited}
use Rattle.mpi_request.specs.declared.requests.Request.{Request}
use Rattle.mpi_request.specs.declared.started.Started.{Started}
use Rattle.mpi_request.specs.declared.started.Started.TheVariants.{AtOnce, Send, Recv}
use Rattle.mpi_request.specs.declared.started.Open.{Open}
use Rattle.mpi_request.specs.declared.owners.RequestId.{RequestId}
use Rattle.mpi_request.specs.Started.{post_of, told, opened}
use Rattle.mpi_request.specs.Owners.{PostOwners, owner_in, is_same, is_it, with_first, with_owner, without_owner}
use Rattle.mpi_request.specs.Active.{OwnRequests, Table, no_own, own_at, open_in, with_start, without_last}
use Rattle.mpi_request.specs.Steps.{id_of, started, released, taken_back}
use Rattle.mpi_request.specs.Shown.{Names, seen_opens, seen_listed, Seen, Shows, TellsMore, awaited_by, seen_request, seen_started, requests_seen, own_seen}
use Rattle.mpi_request.proofs.Entries.{equal, unequal, at_same, at_other, lookup_append, lookup_kept, lookup_insert, apart, filter_none}
use Rattle.mpi_request.specs.Requests.{named_at}
use Rattle.mpi_request.proofs.Counted.{not_other, last_back}
use Rattle.mpi_request.proofs.Listed.{active_from, active_named, active_added, named_found, found_at, active_one}
use Rattle.mpi_request.proofs.Kept.{some_same, no_some}
use Rattle.mpi_request.proofs.Seen.{own_shown, own_there, made_shown, active_shown, open_shown}

opens-append : (names : Names) (es fs : List (ℕ × Open)) → seen_opens names (es ++ fs) ≡ seen_opens names es ++ seen_opens names fs
opens-append names [] fs = refl
opens-append names (e ∷ es) fs = ap (λ l. (e.0, seen_started names e.1.what) ∷ l) (opens-append names es fs)

listed-append : (es fs : List (ℕ × Request)) → seen_listed (es ++ fs) ≡ seen_listed es ++ seen_listed fs
listed-append [] fs = refl
listed-append (e ∷ es) fs = ap (λ l. (e.0, seen_request e.1) ∷ l) (listed-append es fs)

-- the requests of the task with one more
pub start_shown : (names : Names) (own : OwnRequests) (list : List Request) (what : Started) (r : Request) → own_seen names own ≡ requests_seen list → r.active ≡ true → seen_started names what ≡ seen_request r
    → own_seen names (with_start own what) ≡ requests_seen (list ++ r ∷ [])
start_shown names own list what r same on is =
    let made : own.made + 1 ≡ length (list ++ r ∷ []) = ap (λ n. n + 1) (made_shown names own list same) ∙ sym (length-append list (r ∷ [])) in
    let number : own.made + 1 ≡ 1 + length list = ap (λ n. n + 1) (made_shown names own list same) ∙ (let e : length list + 1 ≡ 1 + length list = omega arith in e) in
    let active : seen_opens names (own.active ++ (own.made + 1, opened what) ∷ []) ≡ seen_listed (active_from 1 (list ++ r ∷ [])) =
    opens-append names own.active ((own.made + 1, opened what) ∷ [])
    ∙ (ap (λ (l : List (ℕ × Seen)). l ++ (own.made + 1, seen_started names what) ∷ []) (active_shown names own list same)
    ∙ (ap (λ n. seen_listed (active_from 1 list) ++ (n, seen_started names what) ∷ []) number
    ∙ (ap (λ s. seen_listed (active_from 1 list) ++ (1 + length list, s) ∷ []) is
    ∙ (sym (listed-append (active_from 1 list) ((1 + length list, r) ∷ []))
    ∙ ap seen_listed (sym (active_added 1 list r on)))))) in
    λ i. record { made = made i; active = active i }

-- no request has the next number
pub next_is_free : (names : Names) (own : OwnRequests) (list : List Request) → own_seen names own ≡ requests_seen list → open_in own (own.made + 1) ≡ None
next_is_free names own list same =
    by (open_in own (own.made + 1)) (open_shown names own list (own.made + 1) same ∙ ap (option_map seen_request) past)
  where
    by : (o : Option Open) → option_map (λ (o : Open). seen_started names o.what) o ≡ None → o ≡ None
    by None same = refl
    by (Some o) same = absurd (no_some (seen_started names o.what) (sym same))

    past : active_named (named_at list (own.made + 1)) ≡ None
    past =
        sym (named_found list (own.made + 1))
        ∙ (found_at 1 (own.made + 1) (length list) list (ap (λ n. n + 1) (made_shown names own list same) ∙ (let e : length list + 1 ≡ 1 + length list = omega arith in e))
        ∙ ap active_one (slice_get_past list (length list) (let l : length list ≤ length list = omega arith in l)))

-- What is found after a start: what was found before, or the new request.
pub found_after : (own : OwnRequests) (what : Started) (number : ℕ) (o : Open) → open_in (with_start own what) number ≡ Some o
    → (open_in own number ≡ Some o) ⊎ ((number ≡ own.made + 1) × (o ≡ opened what))
found_after own what number o found = by (open_in own number) refl
  where
    by : (x : Option Open) → open_in own number ≡ x → (open_in own number ≡ Some o) ⊎ ((number ≡ own.made + 1) × (o ≡ opened what))
    by (Some p) is = inl (is ∙ (sym (lookup_kept (is_at (nat_cmp number)) own.active ((own.made + 1, opened what) ∷ []) p is) ∙ found))
    by None is = elim (cases_eq (own.made + 1) number) [
      | inl same ↦ inr (
        sym same,
        sym (some_same (opened what) o
            (ap (λ b. cond b (Some (opened what)) None) (sym (ap (is_at (nat_cmp number)) same ∙ at_same number))
            ∙ (sym (lookup_append (is_at (nat_cmp number)) own.active ((own.made + 1, opened what) ∷ []) is) ∙ found))),
      )
      | inr differs ↦ absurd (no_some o
          (ap (λ b. cond b (Some (opened what)) None) (sym (at_other number (own.made + 1) differs))
          ∙ (sym (lookup_append (is_at (nat_cmp number)) own.active ((own.made + 1, opened what) ∷ []) is) ∙ found)))
    ]

pub found_new : (own : OwnRequests) (what : Started) → open_in own (own.made + 1) ≡ None → open_in (with_start own what) (own.made + 1) ≡ Some (opened what)
found_new own what free =
    lookup_append (is_at (nat_cmp (own.made + 1))) own.active ((own.made + 1, opened what) ∷ []) free
    ∙ ap (λ b. cond b (Some (opened what)) None) (at_same (own.made + 1))

-- what is told of a request that was started before
tells_kept : (names : Names) (before after : Awaited → Option (Result Status Fault)) (posts : ℕ) (what : Started) → TellsMore before after posts → ((post : ℕ) → post_of what ≡ Some post → post ≤ posts)
    → after (seen_started names what).awaited ≡ before (seen_started names what).awaited
tells_kept names before after posts (AtOnce status) more few = more.nothing status
tells_kept names before after posts (Send post span eager) more few = more.earlier post (few post refl)
tells_kept names before after posts (Recv post span) more few = more.earlier post (few post refl)

-- the postings of a start: those that had a request keep it
owner_kept : (owners : PostOwners) (post : Option ℕ) (id : RequestId) (q : ℕ) (first : RequestId) → owner_in owners q ≡ Some first → owner_in (with_owner owners post id) q ≡ Some first
owner_kept owners None id q first is = is
owner_kept owners (Some p) id q first is = by (owner_in owners p) refl
  where
    by : (x : Option RequestId) → owner_in owners p ≡ x → owner_in (with_first owners p x id) q ≡ Some first
    by (Some y) at = is
    by None at = elim (cases_eq p q) [
      | inl same ↦ absurd (no_some first (sym at ∙ (ap (owner_in owners) same ∙ is)))
      | inr differs ↦ lookup_insert q p id owners ∙ (ap (λ b. cond b (Some id) (owner_in owners q)) (at_other q p differs) ∙ is)
    ]

-- the posting of the start has the new request, where it had none
owner_new : (owners : PostOwners) (post : Option ℕ) (id : RequestId) (q : ℕ) → post ≡ Some q → owner_in owners q ≡ None → owner_in (with_owner owners post id) q ≡ Some id
owner_new owners None id q is free = absurd (no_some q is)
owner_new owners (Some p) id q is free =
    let same : p ≡ q = some_same p q is in
    ap (λ x. owner_in (with_first owners p x id) q) (ap (owner_in owners) same ∙ free)
    ∙ (lookup_insert q p id owners ∙ ap (λ b. cond b (Some id) (owner_in owners q)) (ap (is_at (nat_cmp q)) same ∙ at_same q))

-- whose a posting is after a start
owner_after : (owners : PostOwners) (post : Option ℕ) (id : RequestId) (q : ℕ) (first : RequestId) → owner_in (with_owner owners post id) q ≡ Some first
    → (owner_in owners q ≡ Some first) ⊎ ((post ≡ Some q) × (first ≡ id))
owner_after owners None id q first is = inl is
owner_after owners (Some p) id q first is = by (owner_in owners p) is
  where
    by : (x : Option RequestId) → owner_in (with_first owners p x id) q ≡ Some first → (owner_in owners q ≡ Some first) ⊎ ((Some p ≡ Some q) × (first ≡ id))
    by (Some y) at = inl at
    by None at = elim (cases_eq p q) [
      | inl same ↦ inr (
        ap Some same,
        sym (some_same id first
            (ap (λ b. cond b (Some id) (owner_in owners q)) (sym (ap (is_at (nat_cmp q)) same ∙ at_same q)) ∙ (sym (lookup_insert q p id owners) ∙ at))),
      )
      | inr differs ↦ inl (ap (λ b. cond b (Some id) (owner_in owners q)) (sym (at_other q p differs)) ∙ (sym (lookup_insert q p id owners) ∙ at))
    ]

-- the request that awaits a posting
pub awaiting : (t : Table) (id : RequestId) (post : ℕ) → awaited_by t id ≡ Some post → (o : Open) × (open_in (own_at t id.task) id.number ≡ Some o) × (post_of o.what ≡ Some post)
awaiting t id post is = by (open_in (own_at t id.task) id.number) refl is
  where
    by : (x : Option Open) → open_in (own_at t id.task) id.number ≡ x → option_and_then (λ (o : Open). post_of o.what) x ≡ Some post → (o : Open) × (open_in (own_at t id.task) id.number ≡ Some o) × (post_of o.what ≡ Some post)
    by None at e = absurd (no_some post e)
    by (Some o) at e = (o, at, e)

pub awaits : (t : Table) (id : RequestId) (post : ℕ) (o : Open) → open_in (own_at t id.task) id.number ≡ Some o → post_of o.what ≡ Some post → awaited_by t id ≡ Some post
awaits t id post o at is = ap (option_and_then (λ (o : Open). post_of o.what)) at ∙ is

-- a posting that is yet to be made is of no request
pub is_free : (names : Names) (tells : Awaited → Option (Result Status Fault)) (posts : ℕ) (requests : List (List Request)) (t : Table) (post : ℕ)
    → Shows names tells posts requests t → posts < post → owner_in t.owners post ≡ None
is_free names tells posts requests t post s later = by (owner_in t.owners post) refl
  where
    by : (x : Option RequestId) → owner_in t.owners post ≡ x → x ≡ None
    by None is = refl
    by (Some id) is =
        let a = awaiting t id post (s.named post id is) in
        let few : post ≤ posts = s.posted id.task id.number post a.0 a.1 a.2 in
        absurd (omega arith)

-- the requests after a start
abbrev pub start_id : Table → ℕ → RequestId
start_id t task = id_of task ((own_at t task).made + 1)

abbrev pub after_start : Table → ℕ → Started → Table
after_start t task what = record { tasks = set t.tasks task (with_start (own_at t task) what); owners = with_owner t.owners (post_of what) (start_id t task) }

start_at : (t : Table) (task : ℕ) (what : Started) → task < length t.tasks → own_at (after_start t task what) task ≡ with_start (own_at t task) what
start_at t task what less = get_or-set_same t.tasks task (with_start (own_at t task) what) no_own less

start_others : (t : Table) (task : ℕ) (what : Started) (k : ℕ) → k ≢ task → own_at (after_start t task what) k ≡ own_at t k
start_others t task what k differs = get_or-set_other t.tasks task k (with_start (own_at t task) what) no_own differs

start_cases : (t : Table) (task : ℕ) (what : Started) → task < length t.tasks → (k number : ℕ) (o : Open) → open_in (own_at (after_start t task what) k) number ≡ Some o
    → (open_in (own_at t k) number ≡ Some o) ⊎ ((k ≡ task) × (number ≡ (own_at t task).made + 1) × (o ≡ opened what))
start_cases t task what less k number o found = elim (cases_eq k task) [
  | inl here ↦
      elim (found_after (own_at t task) what number o (ap (λ (p : OwnRequests). open_in p number) (sym (ap (own_at (after_start t task what)) here ∙ start_at t task what less)) ∙ found)) [
        | inl old ↦ inl (ap (λ a. open_in (own_at t a) number) here ∙ old)
        | inr new ↦ inr (here, new.0, new.1)
      ]
  | inr there ↦ inl (ap (λ (p : OwnRequests). open_in p number) (sym (start_others t task what k there)) ∙ found)
]

start_kept : (t : Table) (task : ℕ) (what : Started) → task < length t.tasks → (k number : ℕ) (o : Open) → open_in (own_at t k) number ≡ Some o → open_in (own_at (after_start t task what) k) number ≡ Some o
start_kept t task what less k number o found = elim (cases_eq k task) [
  | inl here ↦
      ap (λ (p : OwnRequests). open_in p number) (ap (own_at (after_start t task what)) here ∙ start_at t task what less)
      ∙ lookup_kept (is_at (nat_cmp number)) (own_at t task).active (((own_at t task).made + 1, opened what) ∷ []) o (ap (λ a. open_in (own_at t a) number) (sym here) ∙ found)
  | inr there ↦ ap (λ (p : OwnRequests). open_in p number) (start_others t task what k there) ∙ found
]

start_new : (names : Names) (t : Table) (task : ℕ) (what : Started) (list : List Request) → task < length t.tasks → own_seen names (own_at t task) ≡ requests_seen list
    → open_in (own_at (after_start t task what) task) ((own_at t task).made + 1) ≡ Some (opened what)
start_new names t task what list less same =
    ap (λ (o : OwnRequests). open_in o ((own_at t task).made + 1)) (start_at t task what less) ∙ found_new (own_at t task) what (next_is_free names (own_at t task) list same)

-- Where the new request is one of the definitions, and what it awaits tells what it was started with, the requests that
-- are kept stand for those with one more.
pub started_shown : (names : Names) (before after : Awaited → Option (Result Status Fault)) (posts more : ℕ) (requests : List (List Request)) (t : Table) (task : ℕ) (list : List Request) (what : Started) (r : Request)
    → Shows names before posts requests t → slice_get requests task ≡ Some list → r.active ≡ true → seen_started names what ≡ seen_request r
    → TellsMore before after posts → told (opened what) ≡ after r.awaited → posts ≤ more → ((post : ℕ) → post_of what ≡ Some post → (posts < post) × (post ≤ more))
    → Shows names after more (set requests task (list ++ r ∷ [])) (started t task what)
unfolding started
started_shown names before after posts more requests t task list what r s got on is turns first grows fresh =
    let less : task < length t.tasks = own_there names before posts requests t task list s got in
    let same : own_seen names (own_at t task) ≡ requests_seen list = own_shown names before posts requests t task list s got in
    record {
      tasks = map-set (own_seen names) t.tasks task (with_start (own_at t task) what)
          ∙ (ap (λ l. set l task (own_seen names (with_start (own_at t task) what))) s.tasks
          ∙ (ap (set (map requests_seen requests) task) (start_shown names (own_at t task) list what r same on is)
          ∙ sym (map-set requests_seen requests task (list ++ r ∷ []))));
      tell = λ k number o found. elim (start_cases t task what less k number o found) [
        | inl old ↦ s.tell k number o old ∙ sym (tells_kept names before after posts o.what turns (λ post awaited. s.posted k number post o old awaited))
        | inr new ↦ ap told new.2 ∙ (first ∙ (ap (λ (x : Seen). after x.awaited) (sym is) ∙ ap (λ (p : Open). after (seen_started names p.what).awaited) (sym new.2)))
      ];
      owned = λ k number post o found awaited. elim (start_cases t task what less k number o found) [
        | inl old ↦ owner_kept t.owners (post_of what) (start_id t task) post (id_of k number) (s.owned k number post o old awaited)
        | inr new ↦
            let mine : post_of what ≡ Some post = ap (λ (p : Open). post_of p.what) (sym new.2) ∙ awaited in
            let later = fresh post mine in
            owner_new t.owners (post_of what) (start_id t task) post mine (is_free names before posts requests t post s later.0)
            ∙ (ap (λ a. Some (id_of a ((own_at t task).made + 1))) (sym new.0) ∙ ap (λ n. Some (id_of k n)) (sym new.1))
      ];
      named = λ post first_id at. elim (owner_after t.owners (post_of what) (start_id t task) post first_id at) [
        | inl old ↦
            let a = awaiting t first_id post (s.named post first_id old) in
            awaits (after_start t task what) first_id post a.0 (start_kept t task what less first_id.task first_id.number a.0 a.1) a.2
        | inr new ↦ subst (λ (x : RequestId). awaited_by (after_start t task what) x ≡ Some post) (sym new.1)
            (awaits (after_start t task what) (start_id t task) post (opened what) (start_new names t task what list less same) new.0)
      ];
      posted = λ k number post o found awaited. elim (start_cases t task what less k number o found) [
        | inl old ↦ let few : post ≤ posts = s.posted k number post o old awaited in let far : post ≤ more = omega arith in far
        | inr new ↦ (fresh post (ap (λ (p : Open). post_of p.what) (sym new.2) ∙ awaited)).1
      ];
    }

-- ---- the start taken back

set-set : {A : Type 0} (xs : List A) (i : ℕ) (x y : A) → set (set xs i x) i y ≡ set xs i y
set-set [] i x y = refl
set-set (z ∷ xs) zero x y = refl
set-set (z ∷ xs) (suc i) x y = ap (λ l. z ∷ l) (set-set xs i x y)

apart_inserted : {X : Type 0} (n : ℕ) (v : X) (es : List (ℕ × X)) → lookup (is_at (nat_cmp n)) es ≡ None → apart n (insert_entry nat_cmp es n v) ≡ es
apart_inserted n v [] none = ap (λ b. cond b ((n, v) ∷ []) []) (not_other n)
apart_inserted n v (e ∷ es) none = elim (cases_lt n e.0) [
  | inl less ↦
      ap (λ o. apart n (match_ordering o ((n, v) ∷ e ∷ es) ((e.0, v) ∷ es) (e ∷ insert_entry nat_cmp es n v))) (sym (nat_cmp_is n e.0 Less less))
      ∙ (ap (λ b. cond b ((n, v) ∷ apart n (e ∷ es)) (apart n (e ∷ es))) (not_other n) ∙ filter_none n (e ∷ es) none)
  | inr not_less ↦ elim (cases_eq e.0 n) [
    | inl same ↦ absurd (no_some e.1 (sym none ∙ ap (λ b. cond b (Some e.1) (lookup (is_at (nat_cmp n)) es)) (ap (is_at (nat_cmp n)) same ∙ at_same n)))
    | inr differs ↦
        let less : e.0 < n = omega arith in
        let on : not (e.0 == n) ≡ true = ap not (unequal e.0 n differs) in
        ap (λ o. apart n (match_ordering o ((n, v) ∷ e ∷ es) ((e.0, v) ∷ es) (e ∷ insert_entry nat_cmp es n v))) (sym (nat_cmp_is n e.0 Greater less))
        ∙ (ap (λ b. cond b (e ∷ apart n (insert_entry nat_cmp es n v)) (apart n (insert_entry nat_cmp es n v))) on
        ∙ ap (λ l. e ∷ l) (apart_inserted n v es (ap (λ b. cond b (Some e.1) (lookup (is_at (nat_cmp n)) es)) (sym (at_other n e.0 differs)) ∙ none)))
  ]
]

pub same_id : (id : RequestId) → is_same id id ≡ true
same_id id = ap (λ b. b && (id.number == id.number)) (equal id.task id.task refl) ∙ equal id.number id.number refl

owner_back : (owners : PostOwners) (post : Option ℕ) (id : RequestId) → ((p : ℕ) → post ≡ Some p → owner_in owners p ≡ None) → without_owner (with_owner owners post id) post id ≡ owners
owner_back owners None id free = refl
owner_back owners (Some p) id free =
    ap (λ x. without_owner (with_first owners p x id) (Some p) id) (free p refl)
    ∙ (ap (λ x. cond (is_it x id) (apart p (insert_entry nat_cmp owners p id)) (insert_entry nat_cmp owners p id))
    (lookup_insert p p id owners ∙ ap (λ b. cond b (Some id) (owner_in owners p)) (at_same p))
    ∙ (ap (λ b. cond b (apart p (insert_entry nat_cmp owners p id)) (insert_entry nat_cmp owners p id)) (same_id id)
    ∙ apart_inserted p id owners (free p refl)))

-- a start that was taken back has changed nothing
pub started_back : (names : Names) (tells : Awaited → Option (Result Status Fault)) (posts : ℕ) (requests : List (List Request)) (t : Table) (task : ℕ) (list : List Request) (what : Started)
    → Shows names tells posts requests t → slice_get requests task ≡ Some list → ((post : ℕ) → post_of what ≡ Some post → posts < post)
    → taken_back (started t task what) task ≡ t
unfolding started taken_back
started_back names tells posts requests t task list what s got fresh =
    let less : task < length t.tasks = own_there names tells posts requests t task list s got in
    let same : own_seen names (own_at t task) ≡ requests_seen list = own_shown names tells posts requests t task list s got in
    let free : open_in (own_at t task) ((own_at t task).made + 1) ≡ None = next_is_free names (own_at t task) list same in
    let tasks : set (set t.tasks task (with_start (own_at t task) what)) task (without_last (own_at (after_start t task what) task)) ≡ t.tasks =
    ap (λ (o : OwnRequests). set (set t.tasks task (with_start (own_at t task) what)) task (without_last o)) (start_at t task what less)
    ∙ (set-set t.tasks task (with_start (own_at t task) what) (without_last (with_start (own_at t task) what))
    ∙ (ap (set t.tasks task) (last_back (own_at t task) what free) ∙ set-get_or t.tasks task no_own)) in
    let owners : released (after_start t task what).owners (open_in (own_at (after_start t task what) task) (own_at (after_start t task what) task).made) (id_of task (own_at (after_start t task what) task).made) ≡ t.owners =
    ap (λ (o : OwnRequests). released (after_start t task what).owners (open_in o o.made) (id_of task o.made)) (start_at t task what less)
    ∙ (ap (λ x. released (after_start t task what).owners x (start_id t task)) (found_new (own_at t task) what free)
    ∙ owner_back t.owners (post_of what) (start_id t task) (λ p is. is_free names tells posts requests t p s (fresh p is))) in
    λ i. record { tasks = tasks i; owners = owners i }
