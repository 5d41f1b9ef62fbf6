-- A receive that is under way: its task's request is active, and its places have an object that has room for them. No call
-- changes that while the receive is not matched.
use Rattle.std.proofs.Common.{◌≡◌, ◌≢◌, ◌⊎◌, inl, inr, ◌<◌, ◌+◌, ◌==◌, ◌&&◌, ◌||◌, ℕ, ℤ, pos, negsuc, zero, suc, Bool, true, false, if◌then◌else◌, nat_le, nat_lt, List, [], ◌∷◌, filter_map, position, slice_get, slice_set, Option, Some, None, Result, Ok, Err, refl, ap, sym, ◌∙◌, subst, arith}
use Rattle.std.specs.List.{list_any, list_all, cons_option}
use Rattle.std.proofs.lemmas.Bool.{le-leb, lt-ltb}
use Rattle.std.proofs.lemmas.Bool.Decides.{eqb_tells}
use Rattle.std.proofs.lemmas.List.Concat.{flat_map-cons}
use Rattle.std.proofs.lemmas.List.Folds.{list_any-append}
use Rattle.mpc_values.specs.declared.values.Word.{Word}
use Rattle.mpc_values.specs.declared.values.Word.TheVariants.{Undef, Int, Null, Ptr, Comm, Req}
use Rattle.mpc_values.specs.declared.values.Obj.{Obj}
use Rattle.mpc_values.specs.declared.owners.Owner.{Owner}
use Rattle.mpc_values.specs.declared.answers.Status.{Status}
use Rattle.mpc_values.specs.declared.faults.Fault.{Fault}
use Rattle.memory_model.specs.declared.kinds.Span.{Span}
use Rattle.memory_model.specs.Memory.{key_of}
use Rattle.memory_model.specs.Marks.{barred_to_stores, is_some_place}
use Rattle.memory_model.proofs.Maps.{alike}
use Rattle.memory_model.proofs.Accesses.{some_place}
use Rattle.mpi_queue.specs.History.{Made}
use Rattle.mpi_request.specs.declared.requests.Awaited.TheVariants as awaited
use Rattle.mpi_request.specs.declared.requests.Request.{Request}
use Rattle.mpi_request.specs.declared.requests.Carried.{Carried}
use Rattle.mpi_request.specs.Messages.{empty_status}
use Rattle.mpi_request.specs.Requests.{Named, NullRequest, Active, NotActive, named_in, named, told_of, without_request}
use Rattle.mpi_request.specs.Completing.{Completion, Ends, Breaks, NotReady, ended, completion_in, completion_at, any_at, any_completion, is_null, is_not_active, is_ready}
use Rattle.mpi_request.specs.Pending.{pending_places, all_pending, has_place, marks_of}
use Rattle.run_model.specs.World.{Core}
use Rattle.run_model.specs.Outcomes.{requests_at, requests_of, with_requests}
use Rattle.run_model.proofs.Lists.{get_set_other}
use Rattle.run_model.proofs.Lengths.{Lives, Room}

-- the request of a receive of this number, with its places
abbrev pub receiving : ℕ → Span → Request
receiving number span = record { awaited = awaited.Posting number; send = false; places = Some span; active = true }

-- the receive of this number is under way: a request of the task waits for it, and its places have room
pub record IsUnderWay (core : Core) (task number : ℕ) (span : Span) : Type 0 where
  pub at : ℕ
  pub there : slice_get (requests_of core task) at ≡ Some (receiving number span)
  pub room : Room core.memory span

or_left : (a b : Bool) → a ≡ true → (a || b) ≡ true
or_left true b h = refl
or_left false b h = let no : false ≡ true = h in cc

or_right : (a b : Bool) → b ≡ true → (a || b) ≡ true
or_right true b h = refl
or_right false b h = h

some_request : (a b : Request) → Some a ≡ Some b → a ≡ b
some_request a b e = cc

-- the places of active receives are barred
any_of : (test : Span → Bool) (own : List Request) (at number : ℕ) (span : Span) → slice_get own at ≡ Some (receiving number span) → test span ≡ true → list_any test (filter_map (pending_places false) own) ≡ true
any_of test [] at number span got is = let no : ⊥ = cc in absurd no
any_of test (request ∷ own) zero number span got is =
    let same : request ≡ receiving number span = some_request request (receiving number span) got in
    ap (λ r. list_any test (cons_option (pending_places false r) (filter_map (pending_places false) own))) same
    ∙ ap (λ b. b || list_any test (filter_map (pending_places false) own)) is
any_of test (request ∷ own) (suc at) number span got is = later (pending_places false request) (any_of test own at number span got is)
  where
    later : (o : Option Span) → list_any test (filter_map (pending_places false) own) ≡ true → list_any test (cons_option o (filter_map (pending_places false) own)) ≡ true
    later None h = h
    later (Some s) h = or_right (test s) _ h

any_all : (test : Span → Bool) (all : List (List Request)) (task at number : ℕ) (span : Span) → slice_get (requests_at (slice_get all task)) at ≡ Some (receiving number span) → test span ≡ true → list_any test (all_pending all false) ≡ true
any_all test [] task at number span got is = let no : ⊥ = cc in absurd no
any_all test (own ∷ all) zero at number span got is =
    ap (list_any test) (flat_map-cons (filter_map (pending_places false)) own all)
    ∙ list_any-append test (filter_map (pending_places false) own) (all_pending all false)
    ∙ or_left (list_any test (filter_map (pending_places false) own)) (list_any test (all_pending all false)) (any_of test own at number span got is)
any_all test (own ∷ all) (suc task) at number span got is =
    ap (list_any test) (flat_map-cons (filter_map (pending_places false)) own all)
    ∙ list_any-append test (filter_map (pending_places false) own) (all_pending all false)
    ∙ or_right (list_any test (filter_map (pending_places false) own)) (list_any test (all_pending all false)) (any_all test all task at number span got is)

-- the first place of a span is one of it
has_first : (span : Span) → 0 < span.count → has_place span.owner span.obj span.at span ≡ true
has_first span some =
    ap (λ b. b && (nat_le span.at span.at && nat_lt span.at (span.at + span.count))) (alike (key_of span.owner span.obj))
    ∙ ap (λ b. b && nat_lt span.at (span.at + span.count)) (le-leb span.at span.at (omega arith))
    ∙ lt-ltb span.at (span.at + span.count) (omega (arith, some))

-- so the object of a receive under way has a barred place
pub barred_object : (core : Core) (task number : ℕ) (span : Span) (h : IsUnderWay core task number span) → is_some_place (barred_to_stores (marks_of core.requests)) span.owner span.obj 0 h.room.len ≡ true
barred_object core task number span h =
    some_place (barred_to_stores (marks_of core.requests)) span.owner span.obj h.room.len span.at (omega (arith, h.room.some, h.room.within))
    (or_right (list_any (has_place span.owner span.obj span.at) (all_pending core.requests true)) _
    (any_all (has_place span.owner span.obj span.at) core.requests task h.at number span h.there (has_first span h.room.some)))

-- A change leaves the receives that are under way and not matched.
pub record Kept (core after : Core) : Type 0 where
  pub carried : after.carried ≡ core.carried
  pub held : (task number : ℕ) (span : Span) → told_of core.postings core.carried (awaited.Posting number) ≡ None → IsUnderWay core task number span → IsUnderWay after task number span

pub kept_same : (core after : Core) → after.memory ≡ core.memory → after.requests ≡ core.requests → after.carried ≡ core.carried → Kept core after
kept_same core after m r c = record {
  carried = c;
  held = λ task number span open' h. record {
    at = h.at;
    there = ap (λ (all : List (List Request)). slice_get (requests_at (slice_get all task)) h.at) r ∙ h.there;
    room = subst (λ m'. Room m' span) (sym m) h.room;
  };
}

-- memory changes, and the objects that have a barred place live on
pub kept_memory : (core after : Core) → after.requests ≡ core.requests → after.carried ≡ core.carried
    → ((owner : Owner) (obj : Obj) (len : ℕ) → is_some_place (barred_to_stores (marks_of core.requests)) owner obj 0 len ≡ true → Lives core.memory owner obj len → Lives after.memory owner obj len) → Kept core after
kept_memory core after r c lives = record {
  carried = c;
  held = λ task number span open' h. record {
    at = h.at;
    there = ap (λ (all : List (List Request)). slice_get (requests_at (slice_get all task)) h.at) r ∙ h.there;
    room = record {
      some = h.room.some;
      len = h.room.len;
      lives = lives span.owner span.obj h.room.len (barred_object core task number span h) h.room.lives;
      within = h.room.within;
    };
  };
}

-- a task's requests change, and those that are not ready stay
set_requests : (all : List (List Request)) (task : ℕ) (requests : List Request) (other at : ℕ) (request : Request) → slice_get (requests_at (slice_get all other)) at ≡ Some request → (other ≡ task → slice_get requests at ≡ Some request)
    → slice_get (requests_at (slice_get (slice_set all task requests) other)) at ≡ Some request
set_requests [] task requests other at request h g = h
set_requests (first ∷ all) zero requests zero at request h g = g refl
set_requests (first ∷ all) zero requests (suc other) at request h g = h
set_requests (first ∷ all) (suc task) requests zero at request h g = h
set_requests (first ∷ all) (suc task) requests (suc other) at request h g = set_requests all task requests other at request h (λ e. g (ap suc e))

abbrev pub ReadyLeave : List Made → List Carried → List Request → List Request → Type 0
ReadyLeave postings carried requests after = (at : ℕ) (request : Request) → slice_get requests at ≡ Some request → told_of postings carried request.awaited ≡ None → slice_get after at ≡ Some request

pub kept_requests : (core : Core) (task : ℕ) (requests : List Request) → ReadyLeave core.postings core.carried (requests_of core task) requests → Kept core (with_requests core task requests)
kept_requests core task requests leave = record {
  carried = refl;
  held = λ other number span open' h. record {
    at = h.at;
    there = set_requests core.requests task requests other h.at (receiving number span) h.there
        (λ e. leave h.at (receiving number span) (subst (λ t. slice_get (requests_of core t) h.at ≡ Some (receiving number span)) e h.there) open');
    room = h.room;
  };
}

-- what a word names is one of the requests
abbrev IsIn : List Request → Named → Type 0
IsIn requests NullRequest = Unit {0}
IsIn requests (Active zero request) = Unit {0}
IsIn requests (Active (suc index) request) = slice_get requests index ≡ Some request
IsIn requests NotActive = Unit {0}

named_is : (requests : List Request) (word : Word) → IsIn requests (named requests word)
named_is requests (Req zero) = tt
named_is requests (Req (suc index)) = by (slice_get requests index) refl
  where
    active : (request : Request) → slice_get requests index ≡ Some request → (b : Bool) → IsIn requests (if b then Active (suc index) request else NotActive)
    active request e true = e
    active request e false = tt

    by : (o : Option Request) → slice_get requests index ≡ o → IsIn requests (named_in (suc index) o)
    by None e = tt
    by (Some request) e = active request e request.active
named_is requests Undef = tt
named_is requests (Int z) = tt
named_is requests Null = tt
named_is requests (Ptr obj at) = tt
named_is requests (Comm comm) = tt

-- a call that completes a request changes one that is ready
abbrev pub CompletionLeaves : List Made → List Carried → List Request → Completion → Type 0
CompletionLeaves postings carried requests (Ends index status after) = ReadyLeave postings carried requests after
CompletionLeaves postings carried requests (Breaks fault) = Unit {0}
CompletionLeaves postings carried requests NotReady = Unit {0}

module _ (postings : List Made) (carried : List Carried) (requests : List Request) where
  all_leave : ReadyLeave postings carried requests requests
  all_leave at request h g = h

  without_leaves : (number : ℕ) (request : Request) (status : Status) → IsIn requests (Active number request) → told_of postings carried request.awaited ≡ Some (Ok status) → ReadyLeave postings carried requests (without_request requests number request)
  without_leaves zero request status is told = all_leave
  without_leaves (suc index) request status is told = λ at other h open'. by at other h open' (eqb_tells at index)
    where
      never : ◌≡◌ {A = Option (Result Status Fault)} (Some (Ok status)) None → ⊥
      never e = cc

      by : (at : ℕ) (other : Request) → slice_get requests at ≡ Some other → told_of postings carried other.awaited ≡ None → ((at == index) ≡ true) × (at ≡ index) ⊎ ((at == index) ≡ false) × (at ≢ index)
          → slice_get (slice_set requests index (record request { active = false })) at ≡ Some other
      by at other h open' (inl e) =
          let one : request ≡ other = some_request request other (sym is ∙ ap (slice_get requests) (sym e.1) ∙ h) in
          absurd (never (sym told ∙ ap (λ (r : Request). told_of postings carried r.awaited) one ∙ open'))
      by at other h open' (inr e) = get_set_other requests index at (record request { active = false }) e.1 ∙ h

  ended_leaves : (index : ℤ) (number : ℕ) (request : Request) (o : Option (Result Status Fault)) → told_of postings carried request.awaited ≡ o → IsIn requests (Active number request) → CompletionLeaves postings carried requests (ended index requests number request o)
  ended_leaves index number request None told is = tt
  ended_leaves index number request (Some (Ok status)) told is = without_leaves number request status is told
  ended_leaves index number request (Some (Err fault)) told is = tt

  in_leaves : (index : ℤ) (n : Named) → IsIn requests n → CompletionLeaves postings carried requests (completion_in postings carried requests index n)
  in_leaves index NullRequest is = all_leave
  in_leaves index (Active number request) is = ended_leaves index number request (told_of postings carried request.awaited) refl is
  in_leaves index NotActive is = tt

  pub completion_leaves : (index : ℤ) (word : Word) → CompletionLeaves postings carried requests (completion_in postings carried requests index (named requests word))
  completion_leaves index word = in_leaves index (named requests word) (named_is requests word)

  at_leaves : (words : List Word) (index : Option ℕ) → CompletionLeaves postings carried requests (any_at postings carried requests words index)
  at_leaves words None = tt
  at_leaves words (Some index) = by (slice_get words index)
    where
      by : (o : Option Word) → CompletionLeaves postings carried requests (completion_at postings carried requests index o)
      by None = tt
      by (Some word) = completion_leaves (pos index) word

  if_leaves : (b : Bool) (x y : Completion) → CompletionLeaves postings carried requests x → CompletionLeaves postings carried requests y → CompletionLeaves postings carried requests (if b then x else y)
  if_leaves true x y h g = h
  if_leaves false x y h g = g

  pub any_leaves : (words : List Word) → CompletionLeaves postings carried requests (any_completion postings carried requests words)
  any_leaves words =
      if_leaves (list_any (λ word. is_not_active (named requests word)) words) _ _ tt
      (if_leaves (list_all (λ word. is_null (named requests word)) words) (Ends (negsuc 2) empty_status requests) _ all_leave
      (at_leaves words (position (λ word. is_ready postings carried (named requests word)) words)))
