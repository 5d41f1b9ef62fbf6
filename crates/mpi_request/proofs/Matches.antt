-- A posting that is matched.
use Rattle.std.proofs.Common.{◌≡◌, ◌≢◌, ℕ, ◌<◌, Bool, true, false, cond, List, [], ◌∷◌, set, length, Option, Some, None, Result, refl, sym, ap, ◌∙◌, inl, inr, ◌⊎◌, subst}
use Rattle.std.specs.Option.{option_and_then}
use Rattle.std.specs.Ordering.{nat_cmp}
use Rattle.std.specs.Map.{lookup, set_value}
use Rattle.std.specs.BTreeMap.{is_at}
use Rattle.std.proofs.lemmas.Bool.{cases_eq, cases_lt}
use Rattle.std.proofs.lemmas.List.{get_or-set_same, get_or-set_other, get_or_past}
use Rattle.std.proofs.Math.Seq.{map-set_same}
use Rattle.mpc_values.specs.declared.answers.Status.{Status}
use Rattle.mpc_values.specs.declared.faults.Fault.{Fault}
use Rattle.mpi_request.specs.declared.requests.Awaited.{Awaited}
use Rattle.mpi_request.specs.declared.requests.Awaited.TheVariants.{Posting}
use Rattle.mpi_request.specs.declared.requests.Request.{Request}
use Rattle.mpi_request.specs.declared.started.Started.{Started}
use Rattle.mpi_request.specs.declared.started.Started.TheVariants.{AtOnce, Send, Recv}
use Rattle.mpi_request.specs.declared.started.Open.{Open}
use Rattle.mpi_request.specs.declared.owners.RequestId.{RequestId}
use Rattle.mpi_request.specs.Started.{post_of, told, told_by}
use Rattle.mpi_request.specs.Owners.{owner_in}
use Rattle.mpi_request.specs.Active.{OwnRequests, Table, no_own, own_at, open_in, with_note}
use Rattle.mpi_request.specs.Steps.{id_of, matched, matched_of}
use Rattle.mpi_request.specs.Shown.{Names, seen_opens, Shows, TellsOf, awaited_by, seen_started, own_seen}
use Rattle.mpi_request.proofs.Kept.{some_same, no_some, valued_mapped, lookup_valued}
use Rattle.mpi_request.proofs.Starts.{awaiting}

-- what is told of requests that await another posting, or none
tells_others : (names : Names) (before after : Awaited → Option (Result Status Fault)) (post : ℕ) (what : Started) → TellsOf before after post → (post_of what ≡ Some post → ⊥)
    → after (seen_started names what).awaited ≡ before (seen_started names what).awaited
tells_others names before after post (AtOnce status) of other = of.nothing status
tells_others names before after post (Send p span eager) of other = of.others p (λ same. other (ap Some same))
tells_others names before after post (Recv p span) of other = of.others p (λ same. other (ap Some same))

awaited_is : (names : Names) (post : ℕ) (what : Started) → post_of what ≡ Some post → (seen_started names what).awaited ≡ Posting post
awaited_is names post (AtOnce status) is = absurd (no_some post is)
awaited_is names post (Send p span eager) is = ap Posting (some_same p post is)
awaited_is names post (Recv p span) is = ap Posting (some_same p post is)

-- what is read of a value, where a new value reads the same
valued_read : {X Y : Type 0} (k : X → Option Y) (q n : ℕ) (es : List (ℕ × X)) (v w : X) → lookup (is_at (nat_cmp n)) es ≡ Some v → k w ≡ k v
    → option_and_then k (lookup (is_at (nat_cmp q)) (set_value (is_at (nat_cmp n)) es w)) ≡ option_and_then k (lookup (is_at (nat_cmp q)) es)
valued_read k q n [] v w found same = refl
valued_read k q n (e ∷ es) v w found same = by (is_at (nat_cmp n) e.0) (λ got. valued_read k q n es v w got same) found
  where
    here : (b : Bool) → k w ≡ k e.1 → option_and_then k (cond b (Some w) (lookup (is_at (nat_cmp q)) es)) ≡ option_and_then k (cond b (Some e.1) (lookup (is_at (nat_cmp q)) es))
    here true is = is
    here false is = refl

    there : (b : Bool) → option_and_then k (lookup (is_at (nat_cmp q)) (set_value (is_at (nat_cmp n)) es w)) ≡ option_and_then k (lookup (is_at (nat_cmp q)) es)
        → option_and_then k (cond b (Some e.1) (lookup (is_at (nat_cmp q)) (set_value (is_at (nat_cmp n)) es w))) ≡ option_and_then k (cond b (Some e.1) (lookup (is_at (nat_cmp q)) es))
    there true is = refl
    there false is = is

    by : (b : Bool) → (lookup (is_at (nat_cmp n)) es ≡ Some v → option_and_then k (lookup (is_at (nat_cmp q)) (set_value (is_at (nat_cmp n)) es w)) ≡ option_and_then k (lookup (is_at (nat_cmp q)) es))
        → cond b (Some e.1) (lookup (is_at (nat_cmp n)) es) ≡ Some v
        → option_and_then k (lookup (is_at (nat_cmp q)) (cond b ((e.0, w) ∷ es) (e ∷ set_value (is_at (nat_cmp n)) es w))) ≡ option_and_then k (lookup (is_at (nat_cmp q)) (e ∷ es))
    by true rest got = here (is_at (nat_cmp q) e.0) (same ∙ ap k (sym (some_same e.1 v got)))
    by false rest got = there (is_at (nat_cmp q) e.0) (rest got)

-- the requests after a request was noted
abbrev noted : OwnRequests → ℕ → Open → OwnRequests
noted own n w = record own { active = set_value (is_at (nat_cmp n)) own.active w }

abbrev after_note : Table → RequestId → Open → Table
after_note t id w = record t { tasks = set t.tasks id.task (noted (own_at t id.task) id.number w) }

note_within : (t : Table) (id : RequestId) (o : Open) → open_in (own_at t id.task) id.number ≡ Some o → id.task < length t.tasks
note_within t id o found = elim (cases_lt id.task (length t.tasks)) [
  | inl less ↦ less
  | inr past ↦ absurd (no_some o (sym (ap (λ (p : OwnRequests). open_in p id.number) (get_or_past t.tasks id.task no_own past)) ∙ found))
]

note_at : (t : Table) (id : RequestId) (w : Open) → id.task < length t.tasks → own_at (after_note t id w) id.task ≡ noted (own_at t id.task) id.number w
note_at t id w less = get_or-set_same t.tasks id.task (noted (own_at t id.task) id.number w) no_own less

note_others : (t : Table) (id : RequestId) (w : Open) (k : ℕ) → k ≢ id.task → own_at (after_note t id w) k ≡ own_at t k
note_others t id w k differs = get_or-set_other t.tasks id.task k (noted (own_at t id.task) id.number w) no_own differs

note_cases : (t : Table) (id : RequestId) (w : Open) → id.task < length t.tasks → (k m : ℕ) (o : Open) → open_in (own_at (after_note t id w) k) m ≡ Some o
    → ((id_of k m ≡ id) × (o ≡ w)) ⊎ ((open_in (own_at t k) m ≡ Some o) × (id_of k m ≡ id → ⊥))
note_cases t id w less k m o found = elim (cases_eq k id.task) [
  | inl here ↦
      elim (lookup_valued m id.number (own_at t id.task).active w o (ap (λ (p : OwnRequests). open_in p m) (sym (ap (own_at (after_note t id w)) here ∙ note_at t id w less)) ∙ found)) [
        | inl it ↦ inl ((λ i. record { task = here i; number = it.0 i }), it.1)
        | inr it ↦ inr (ap (λ a. open_in (own_at t a) m) here ∙ it.0, λ same. it.1 (ap (λ (x : RequestId). x.number) same))
      ]
  | inr there ↦ inr (ap (λ (p : OwnRequests). open_in p m) (sym (note_others t id w k there)) ∙ found, λ same. there (ap (λ (x : RequestId). x.task) same))
]

note_awaits : (t : Table) (id : RequestId) (o w : Open) → open_in (own_at t id.task) id.number ≡ Some o → w.what ≡ o.what → (x : RequestId) → awaited_by (after_note t id w) x ≡ awaited_by t x
note_awaits t id o w found same x = elim (cases_eq x.task id.task) [
  | inl here ↦
      ap (λ (p : OwnRequests). option_and_then (λ (o : Open). post_of o.what) (open_in p x.number)) (ap (own_at (after_note t id w)) here ∙ note_at t id w (note_within t id o found))
      ∙ (valued_read (λ (o : Open). post_of o.what) x.number id.number (own_at t id.task).active o w found (ap post_of same)
      ∙ ap (λ a. option_and_then (λ (o : Open). post_of o.what) (open_in (own_at t a) x.number)) (sym here))
  | inr there ↦ ap (λ (p : OwnRequests). option_and_then (λ (o : Open). post_of o.what) (open_in p x.number)) (note_others t id w x.task there)
]

noted_shown : (names : Names) (before after : Awaited → Option (Result Status Fault)) (posts : ℕ) (requests : List (List Request)) (t : Table) (post : ℕ) (outcome : Result Status Fault) (id : RequestId) (o : Open)
    → Shows names before posts requests t → TellsOf before after post → owner_in t.owners post ≡ Some id → open_in (own_at t id.task) id.number ≡ Some o → post_of o.what ≡ Some post
    → told_by o.what (Some outcome) ≡ after (Posting post) → Shows names after posts requests (after_note t id (record o { outcome = Some outcome }))
noted_shown names before after posts requests t post outcome id o s turns owner found mine tells =
    let less : id.task < length t.tasks = note_within t id o found in
    let active : seen_opens names (set_value (is_at (nat_cmp id.number)) (own_at t id.task).active (record o { outcome = Some outcome })) ≡ seen_opens names (own_at t id.task).active =
    valued_mapped (λ (p : Open). seen_started names p.what) id.number (own_at t id.task).active o (record o { outcome = Some outcome }) found refl in
    let own : own_seen names (noted (own_at t id.task) id.number (record o { outcome = Some outcome })) ≡ own_seen names (own_at t id.task) = λ i. record { made = (own_at t id.task).made; active = active i } in
    record {
      tasks = map-set_same (own_seen names) t.tasks id.task (noted (own_at t id.task) id.number (record o { outcome = Some outcome })) no_own own ∙ s.tasks;
      tell = λ k m p at. elim (note_cases t id (record o { outcome = Some outcome }) less k m p at) [
        | inl it ↦ ap told it.1 ∙ (tells ∙ (ap after (sym (awaited_is names post o.what mine)) ∙ ap (λ (x : Open). after (seen_started names x.what).awaited) (sym it.1)))
        | inr it ↦ s.tell k m p it.0 ∙ sym (tells_others names before after post p.what turns (λ awaited. it.1 (some_same (id_of k m) id (sym (s.owned k m post p it.0 awaited) ∙ owner))))
      ];
      owned = λ k m q p at awaited. elim (note_cases t id (record o { outcome = Some outcome }) less k m p at) [
        | inl it ↦ s.owned id.task id.number q o found (ap (λ (x : Open). post_of x.what) (sym it.1) ∙ awaited) ∙ ap Some (sym it.0)
        | inr it ↦ s.owned k m q p it.0 awaited
      ];
      named = λ q x at. note_awaits t id o (record o { outcome = Some outcome }) found refl x ∙ s.named q x at;
      posted = λ k m q p at awaited. elim (note_cases t id (record o { outcome = Some outcome }) less k m p at) [
        | inl it ↦ s.posted id.task id.number q o found (ap (λ (x : Open). post_of x.what) (sym it.1) ∙ awaited)
        | inr it ↦ s.posted k m q p it.0 awaited
      ];
    }

-- Where an active request awaits the posting, it ends with what the posting tells from now on; where none does, nothing
-- changes.
pub matched_shown : (names : Names) (before after : Awaited → Option (Result Status Fault)) (posts : ℕ) (requests : List (List Request)) (t : Table) (post : ℕ) (outcome : Result Status Fault)
    → Shows names before posts requests t → TellsOf before after post
    → ((task number : ℕ) (o : Open) → open_in (own_at t task) number ≡ Some o → post_of o.what ≡ Some post → told_by o.what (Some outcome) ≡ after (Posting post))
    → Shows names after posts requests (matched t post outcome)
unfolding matched
matched_shown names before after posts requests t post outcome s turns tells = by (owner_in t.owners post) refl
  where
    by : (x : Option RequestId) → owner_in t.owners post ≡ x → Shows names after posts requests (matched_of t x outcome)
    by None is = record {
      tasks = s.tasks;
      tell = λ k m p at. s.tell k m p at ∙ sym (tells_others names before after post p.what turns (λ awaited. no_some (id_of k m) (sym is ∙ s.owned k m post p at awaited)));
      owned = s.owned;
      named = s.named;
      posted = s.posted;
    }
    by (Some id) is =
        let a = awaiting t id post (s.named post id is) in
        subst (λ (x : OwnRequests). Shows names after posts requests (record t { tasks = set t.tasks id.task x }))
        (sym (ap (λ x. with_note (own_at t id.task) id.number x outcome) a.1))
        (noted_shown names before after posts requests t post outcome id a.0 s turns is a.1 a.2 (tells id.task id.number a.0 a.1 a.2))
