-- What the requests that are kept say of those that they stand for.
use Rattle.std.proofs.Common.{◌≡◌, ℕ, zero, suc, ◌<◌, ◌&&◌, Bool, true, false, not, cond, List, [], ◌∷◌, ◌++◌, map, filter, length, Option, Some, None, Result, refl, sym, ap, ◌∙◌}
use Rattle.std.specs.Prelude.{slice_get, is_some, filter_map, flat_map}
use Rattle.std.specs.Option.{option_map, option_and_then}
use Rattle.std.specs.List.{position, cons_option}
use Rattle.std.specs.Ordering.{nat_cmp}
use Rattle.std.specs.Map.{lookup}
use Rattle.std.specs.BTreeMap.{is_at}
use Rattle.std.proofs.lemmas.Map.Made.{lookup-map_values}
use Rattle.mpc_values.specs.declared.values.Word.{Word}
use Rattle.mpc_values.specs.declared.values.Word.TheVariants as word
use Rattle.mpc_values.specs.declared.answers.Status.{Status}
use Rattle.mpc_values.specs.declared.faults.Fault.{Fault}
use Rattle.memory_model.specs.declared.kinds.Span.{Span}
use Rattle.mpi_queue.specs.History.{Made}
use Rattle.mpi_request.specs.declared.requests.Awaited.{Awaited}
use Rattle.mpi_request.specs.declared.requests.Request.{Request}
use Rattle.mpi_request.specs.declared.requests.Carried.{Carried}
use Rattle.mpi_request.specs.declared.started.Started.{Started}
use Rattle.mpi_request.specs.declared.started.Started.TheVariants.{AtOnce, Send, Recv}
use Rattle.mpi_request.specs.declared.started.Open.{Open}
use Rattle.mpi_request.specs.Requests.{Named, NullRequest, Active, NotActive, named, named_in, named_at, told_of}
use Rattle.mpi_request.specs.Completing.{is_ready}
use Rattle.mpi_request.specs.Pending.{pending_places, all_pending}
use Rattle.mpi_request.specs.Started.{span_of, told}
use Rattle.mpi_request.specs.Active.{OwnRequests, Table, no_own, own_at, open_in, told_in, span_in, ready_in, is_ready_one, is_ready_in}
use Rattle.mpi_request.specs.Shown.{Names, seen_opens, seen_listed, Seen, OwnSeen, Shows, seen_request, seen_started, places_of, side, requests_seen, own_seen, ready_by, kept_places}
use Rattle.mpi_request.proofs.Listed.{active_from, active_named, named_found, active_count, pending_from}
use Rattle.mpi_request.proofs.Kept.{some_same, no_some, alike_at, alike_within}

-- the requests of a task
pub own_shown : (names : Names) (tells : Awaited → Option (Result Status Fault)) (posts : ℕ) (requests : List (List Request)) (t : Table) (task : ℕ) (list : List Request)
    → Shows names tells posts requests t → slice_get requests task ≡ Some list → own_seen names (own_at t task) ≡ requests_seen list
own_shown names tells posts requests t task list s got = alike_at (own_seen names) requests_seen t.tasks requests task no_own list s.tasks got

pub own_there : (names : Names) (tells : Awaited → Option (Result Status Fault)) (posts : ℕ) (requests : List (List Request)) (t : Table) (task : ℕ) (list : List Request)
    → Shows names tells posts requests t → slice_get requests task ≡ Some list → task < length t.tasks
own_there names tells posts requests t task list s got = alike_within (own_seen names) requests_seen t.tasks requests task list s.tasks got

pub made_shown : (names : Names) (own : OwnRequests) (list : List Request) → own_seen names own ≡ requests_seen list → own.made ≡ length list
made_shown names own list same = ap (λ (o : OwnSeen). o.made) same

pub active_shown : (names : Names) (own : OwnRequests) (list : List Request) → own_seen names own ≡ requests_seen list
    → seen_opens names own.active ≡ seen_listed (active_from 1 list)
active_shown names own list same = ap (λ (o : OwnSeen). o.active) same

-- the request of a number
pub open_shown : (names : Names) (own : OwnRequests) (list : List Request) (n : ℕ) → own_seen names own ≡ requests_seen list
    → option_map (λ (o : Open). seen_started names o.what) (open_in own n) ≡ option_map seen_request (active_named (named_at list n))
open_shown names own list n same =
    sym (lookup-map_values (λ (o : Open). seen_started names o.what) (is_at (nat_cmp n)) own.active)
    ∙ (ap (lookup (is_at (nat_cmp n))) (active_shown names own list same)
    ∙ (lookup-map_values seen_request (is_at (nat_cmp n)) (active_from 1 list)
    ∙ ap (option_map seen_request) (named_found list n)))

-- the same by the request that is kept, and by what the number names
pub ready_at : (names : Names) (tells : Awaited → Option (Result Status Fault)) (found : Option Open) (what : Named)
    → option_map (λ (o : Open). seen_started names o.what) found ≡ option_map seen_request (active_named what)
    → ((o : Open) → found ≡ Some o → told o ≡ tells (seen_started names o.what).awaited)
    → option_map (λ (o : Open). is_some (told o)) found ≡ ready_by tells what
ready_at names tells None NullRequest same tell = refl
ready_at names tells None (Active number r) same tell = absurd (no_some (seen_request r) same)
ready_at names tells None NotActive same tell = refl
ready_at names tells (Some o) NullRequest same tell = absurd (no_some (seen_started names o.what) (sym same))
ready_at names tells (Some o) (Active number r) same tell =
    ap (λ x. Some (is_some x)) (tell o refl ∙ ap (λ (s : Seen). tells s.awaited) (some_same (seen_started names o.what) (seen_request r) same))
ready_at names tells (Some o) NotActive same tell = absurd (no_some (seen_started names o.what) (sym same))

-- a request is ready exactly where the one that it stands for is
pub ready_shown : (names : Names) (tells : Awaited → Option (Result Status Fault)) (posts : ℕ) (requests : List (List Request)) (t : Table) (task number : ℕ) (list : List Request)
    → Shows names tells posts requests t → slice_get requests task ≡ Some list → ready_in (own_at t task) number ≡ ready_by tells (named_at list number)
ready_shown names tells posts requests t task number list s got =
    ready_at names tells (open_in (own_at t task) number) (named_at list number)
    (open_shown names (own_at t task) list number (own_shown names tells posts requests t task list s got)) (s.tell task number)

ready_one_at : (postings : List Made) (carried : List Carried) (found : Option Open) (what : Named)
    → option_map (λ (o : Open). is_some (told o)) found ≡ ready_by (told_of postings carried) what → is_ready_one found ≡ is_ready postings carried what
ready_one_at postings carried None NullRequest same = refl
ready_one_at postings carried None (Active number r) same = absurd (no_some (is_some (told_of postings carried r.awaited)) same)
ready_one_at postings carried None NotActive same = refl
ready_one_at postings carried (Some o) NullRequest same = absurd (no_some (is_some (told o)) (sym same))
ready_one_at postings carried (Some o) (Active number r) same = some_same (is_some (told o)) (is_some (told_of postings carried r.awaited)) same
ready_one_at postings carried (Some o) NotActive same = absurd (no_some (is_some (told o)) (sym same))

pub ready_word_shown : (names : Names) (posts : ℕ) (postings : List Made) (carried : List Carried) (requests : List (List Request)) (t : Table) (task : ℕ) (list : List Request)
    → Shows names (told_of postings carried) posts requests t → slice_get requests task ≡ Some list → (w : Word) → is_ready_in (own_at t task) w ≡ is_ready postings carried (named list w)
ready_word_shown names posts postings carried requests t task list s got (word.Req number) =
    ready_one_at postings carried (open_in (own_at t task) number) (named_at list number) (ready_shown names (told_of postings carried) posts requests t task number list s got)
ready_word_shown names posts postings carried requests t task list s got word.Undef = refl
ready_word_shown names posts postings carried requests t task list s got (word.Int z) = refl
ready_word_shown names posts postings carried requests t task list s got word.Null = refl
ready_word_shown names posts postings carried requests t task list s got (word.Ptr obj at) = refl
ready_word_shown names posts postings carried requests t task list s got (word.Comm comm) = refl

-- the least index that is ready
pub any_ready_shown : (names : Names) (posts : ℕ) (postings : List Made) (carried : List Carried) (requests : List (List Request)) (t : Table) (task : ℕ) (list : List Request) (words : List Word)
    → Shows names (told_of postings carried) posts requests t → slice_get requests task ≡ Some list
    → position (is_ready_in (own_at t task)) words ≡ position (λ w. is_ready postings carried (named list w)) words
any_ready_shown names posts postings carried requests t task list words s got =
    ap (λ (p : Word → Bool). position p words) (λ i w. ready_word_shown names posts postings carried requests t task list s got w i)

-- what a request that is ready ends with
told_at : (names : Names) (tells : Awaited → Option (Result Status Fault)) (found : Option Open) (number : ℕ) (r : Request)
    → option_map (λ (o : Open). seen_started names o.what) found ≡ Some (seen_request r)
    → ((o : Open) → found ≡ Some o → told o ≡ tells (seen_started names o.what).awaited)
    → option_and_then told found ≡ tells r.awaited
told_at names tells None number r same tell = absurd (no_some (seen_request r) same)
told_at names tells (Some o) number r same tell =
    tell o refl ∙ ap (λ (s : Seen). tells s.awaited) (some_same (seen_started names o.what) (seen_request r) same)

named_open : (names : Names) (own : OwnRequests) (list : List Request) (n number : ℕ) (r : Request) → own_seen names own ≡ requests_seen list → named_at list n ≡ Active number r
    → option_map (λ (o : Open). seen_started names o.what) (open_in own n) ≡ Some (seen_request r)
named_open names own list n number r same is = open_shown names own list n same ∙ ap (λ w. option_map seen_request (active_named w)) is

pub told_shown : (names : Names) (tells : Awaited → Option (Result Status Fault)) (posts : ℕ) (requests : List (List Request)) (t : Table) (task n number : ℕ) (list : List Request) (r : Request)
    → Shows names tells posts requests t → slice_get requests task ≡ Some list → named_at list n ≡ Active number r → told_in (own_at t task) n ≡ tells r.awaited
told_shown names tells posts requests t task n number list r s got is =
    told_at names tells (open_in (own_at t task) n) number r
    (named_open names (own_at t task) list n number r (own_shown names tells posts requests t task list s got) is) (s.tell task n)

-- the places of an active request
of_sent : (send : Bool) (places sent : Option Span) → sent ≡ cond send places None → None ≡ cond (not send) places None → sent ≡ places
of_sent true places sent a b = a
of_sent false places sent a b = a ∙ b

of_received : (send : Bool) (places received : Option Span) → None ≡ cond send places None → received ≡ cond (not send) places None → received ≡ places
of_received true places received a b = b ∙ a
of_received false places received a b = b

sent_when_active : (r : Request) (o : Option Span) → r.active ≡ true → o ≡ pending_places true r → o ≡ cond r.send r.places None
sent_when_active r o on is = is ∙ ap (λ a. cond (a && r.send) r.places None) on

received_when_active : (r : Request) (o : Option Span) → r.active ≡ true → o ≡ pending_places false r → o ≡ cond (not r.send) r.places None
received_when_active r o on is = is ∙ ap (λ a. cond (a && not r.send) r.places None) on

pub span_shown : (names : Names) (what : Started) (r : Request) → r.active ≡ true → seen_started names what ≡ seen_request r → option_map (places_of names) (span_of what) ≡ r.places
span_shown names (AtOnce status) r on same =
    of_sent r.send r.places None (sent_when_active r None on (ap (λ (s : Seen). s.sent) same)) (received_when_active r None on (ap (λ (s : Seen). s.received) same))
span_shown names (Send post span eager) r on same =
    of_sent r.send r.places (option_map (places_of names) span) (sent_when_active r (option_map (places_of names) span) on (ap (λ (s : Seen). s.sent) same))
    (received_when_active r None on (ap (λ (s : Seen). s.received) same))
span_shown names (Recv post span) r on same =
    of_received r.send r.places (option_map (places_of names) span) (sent_when_active r None on (ap (λ (s : Seen). s.sent) same))
    (received_when_active r (option_map (places_of names) span) on (ap (λ (s : Seen). s.received) same))

spans_at : (names : Names) (found : Option Open) (r : Request) → r.active ≡ true → option_map (λ (o : Open). seen_started names o.what) found ≡ Some (seen_request r)
    → option_map (places_of names) (option_and_then (λ (o : Open). span_of o.what) found) ≡ r.places
spans_at names None r on same = absurd (no_some (seen_request r) same)
spans_at names (Some o) r on same = span_shown names o.what r on (some_same (seen_started names o.what) (seen_request r) same)

named_active : (found : Option Request) (n number : ℕ) (r : Request) → named_in n found ≡ Active number r → r.active ≡ true
named_active None n number r is = let no : ⊥ = cc in absurd no
named_active (Some x) n number r is = by x.active refl is
  where
    by : (a : Bool) → x.active ≡ a → cond a (Active n x) NotActive ≡ Active number r → r.active ≡ true
    by true on same = let it : x ≡ r = cc in ap (λ (y : Request). y.active) (sym it) ∙ on
    by false on same = let no : ⊥ = cc in absurd no

pub active_of_named : (list : List Request) (n number : ℕ) (r : Request) → named_at list n ≡ Active number r → r.active ≡ true
active_of_named list zero number r is = let no : ⊥ = cc in absurd no
active_of_named list (suc i) number r is = named_active (slice_get list i) (suc i) number r is

pub places_shown : (names : Names) (tells : Awaited → Option (Result Status Fault)) (posts : ℕ) (requests : List (List Request)) (t : Table) (task n number : ℕ) (list : List Request) (r : Request)
    → Shows names tells posts requests t → slice_get requests task ≡ Some list → named_at list n ≡ Active number r
    → option_map (places_of names) (span_in (own_at t task) n) ≡ r.places
places_shown names tells posts requests t task n number list r s got is =
    spans_at names (open_in (own_at t task) n) r (active_of_named list n number r is)
    (named_open names (own_at t task) list n number r (own_shown names tells posts requests t task list s got) is)

length-opens : (names : Names) (es : List (ℕ × Open)) → length (seen_opens names es) ≡ length es
length-opens names [] = refl
length-opens names (e ∷ es) = ap suc (length-opens names es)

length-listed : (es : List (ℕ × Request)) → length (seen_listed es) ≡ length es
length-listed [] = refl
length-listed (e ∷ es) = ap suc (length-listed es)

-- how many requests of a task are active
pub count_shown : (names : Names) (tells : Awaited → Option (Result Status Fault)) (posts : ℕ) (requests : List (List Request)) (t : Table) (task : ℕ) (list : List Request)
    → Shows names tells posts requests t → slice_get requests task ≡ Some list → length (own_at t task).active ≡ length (filter (λ (r : Request). r.active) list)
count_shown names tells posts requests t task list s got =
    sym (length-opens names (own_at t task).active)
    ∙ (ap length (active_shown names (own_at t task) list (own_shown names tells posts requests t task list s got))
    ∙ (length-listed (active_from 1 list) ∙ active_count 1 list))

-- the places that are pending
abbrev side_places : Bool → OwnSeen → List Span
side_places send own = filter_map (λ (e : ℕ × Seen). side send e.1) own.active

side_of_listed : (send : Bool) (es : List (ℕ × Request)) → filter_map (λ (e : ℕ × Seen). side send e.1) (seen_listed es) ≡ filter_map (λ (e : ℕ × Request). side send (seen_request e.1)) es
side_of_listed send [] = refl
side_of_listed send (e ∷ es) = ap (cons_option (side send (seen_request e.1))) (side_of_listed send es)

side_of_opens : (names : Names) (send : Bool) (es : List (ℕ × Open)) → filter_map (λ (e : ℕ × Seen). side send e.1) (seen_opens names es) ≡ filter_map (λ (e : ℕ × Open). side send (seen_started names e.1.what)) es
side_of_opens names send [] = refl
side_of_opens names send (e ∷ es) = ap (cons_option (side send (seen_started names e.1.what))) (side_of_opens names send es)

flat_map-map : {X Y Z : Type 0} (h : Y → List Z) (g : X → Y) (xs : List X) → flat_map h (map g xs) ≡ flat_map (λ x. h (g x)) xs
flat_map-map h g [] = refl
flat_map-map h g (x ∷ xs) = ap (λ l. h (g x) ++ l) (flat_map-map h g xs)

side_of_list : (send : Bool) (list : List Request) → filter_map (pending_places send) list ≡ side_places send (requests_seen list)
side_of_list send list = pending_from send 1 list ∙ sym (side_of_listed send (active_from 1 list))

side_of_own : (names : Names) (send : Bool) (own : OwnRequests) → side_places send (own_seen names own) ≡ filter_map (λ (e : ℕ × Open). side send (seen_started names e.1.what)) own.active
side_of_own names send own = side_of_opens names send own.active

pub pending_shown : (names : Names) (tells : Awaited → Option (Result Status Fault)) (posts : ℕ) (requests : List (List Request)) (t : Table) (send : Bool)
    → Shows names tells posts requests t → all_pending requests send ≡ kept_places names send t
pending_shown names tells posts requests t send s =
    ap (λ (h : List Request → List Span). flat_map h requests) (λ i list. side_of_list send list i)
    ∙ (sym (flat_map-map (side_places send) requests_seen requests)
    ∙ (ap (flat_map (side_places send)) (sym s.tasks)
    ∙ (flat_map-map (side_places send) (own_seen names) t.tasks
    ∙ ap (λ (h : OwnRequests → List Span). flat_map h t.tasks) (λ i own. side_of_own names send own i))))
