-- What a posting leaves: another task's objects change only where the posting is a send that met that task's receive.
use Rattle.std.proofs.Common.{◌≡◌, ◌≢◌, ◌⊎◌, inl, inr, ◌<◌, ◌+◌, ◌-◌, ◌==◌, ◌&&◌, not, ℕ, zero, suc, Bool, true, false, IsTrue, if◌then◌else◌, nat_abs, int_lt, pos, is_none, List, [], ◌∷◌, ◌++◌, length, slice_get, slice_set, Option, Some, None, IsSomeAnd, Result, Ok, Err, refl, ap, sym, ◌∙◌, subst, length-append, arith}
use Rattle.std.proofs.lemmas.Bool.Decides.{eqb_tells}
use Rattle.std.proofs.lemmas.Option.{slice_get_within}
use Rattle.mpc_values.specs.declared.values.Obj.{Obj}
use Rattle.mpc_values.specs.declared.values.Obj.TheVariants.{Dyn}
use Rattle.mpc_values.specs.declared.owners.Owner.TheVariants.{Task}
use Rattle.mpc_values.specs.declared.faults.Fault.{Fault}
use Rattle.mpc_values.specs.declared.faults.Fault.TheVariants.{NotInit, BadComm, BadRank, BadTag, BadCount}
use Rattle.memory_model.specs.declared.kinds.Span.{Span}
use Rattle.memory_model.specs.Memory.{Memory, IsOrdered, object_of}
use Rattle.memory_model.specs.Marks.{Marks}
use Rattle.memory_model.specs.Ranges.{with_words_at}
use Rattle.mpi_args.specs.Arguments.{is_proc_null, is_peer, is_tag_argument}
use Rattle.mpi_queue.specs.declared.postings.Posting.{Posting}
use Rattle.mpi_queue.specs.Fits.{is_fit}
use Rattle.mpi_queue.specs.History.{Made, is_open_to, with_partner, made_with, partner_of, with_posting, IsPartner}
use Rattle.mpi_queue.proofs.Partners as partners
use Rattle.mpi_queue.proofs.Changes.{with_posting-made, with_posting-joined, with_posting-others}
use Rattle.mpi_queue.proofs.Histories.{length-with_partner}
use Rattle.mpi_request.specs.declared.requests.Carried.{Carried}
use Rattle.mpi_request.specs.declared.requests.Request.{Request}
use Rattle.mpi_request.specs.declared.requests.Awaited.TheVariants as awaited
use Rattle.mpi_request.specs.Pending.{marks_of}
use Rattle.mpi_request.specs.Messages.{carried_of, posting_of, is_taken, delivered, empty_status, null_status, held_words}
use Rattle.mpi_comm.specs.declared.communicators.View.{View}
use Rattle.run_model.specs.declared.offers.Offer.{Offer}
use Rattle.run_model.specs.declared.offers.Asked.{Asked}
use Rattle.run_model.specs.declared.offers.Asked.TheVariants.{Refused, Nobody, Posts}
use Rattle.run_model.specs.Setup.{Setup}
use Rattle.run_model.specs.World.{Core}
use Rattle.run_model.specs.Owners.{owner_of}
use Rattle.mpc_values.specs.declared.answers.Answer.TheVariants.{Posted}
use Rattle.run_model.specs.Outcomes.{Outcome, Does, requests_at, is_inside, state_of, requests_of, with_requests}
use Rattle.run_model.specs.Posting.{post, asked, asked_in, asked_at, barred, memory_after, offered, partner_carried}
use Rattle.run_model.specs.Separate.{OwnPlaces, MetReceive, LeavesOthers}
use Rattle.run_model.proofs.Lists.{get_set_same, get_before, length_set}
use Rattle.run_model.proofs.Places.{owner_apart, span_owner, words_apart, words_dead, words_ordered}
use Rattle.run_model.proofs.Leaving.{Left, Leaves, does_leave, fails_leave, left_requests, requests_set, requests_few}

-- the places of what is posted are of the copy that its own task touches
unfoldable PostsOwn : Setup → ℕ → Bool → Asked → Type 0
PostsOwn setup task send (Refused fault) = Unit {0}
PostsOwn setup task send Nobody = Unit {0}
PostsOwn setup task send (Posts p mine) = (p.task ≡ task) × (p.send ≡ send) × ((span : Span) → mine.places ≡ Some span → span.owner ≡ owner_of setup task span.obj)

own_if : (setup : Setup) (task : ℕ) (send b : Bool) (x y : Asked) → PostsOwn setup task send x → PostsOwn setup task send y → PostsOwn setup task send (if b then x else y)
own_if setup task send true x y h g = h
own_if setup task send false x y h g = g

refused_own : (setup : Setup) (task : ℕ) (send : Bool) (fault : Fault) → PostsOwn setup task send (Refused fault)
unfolding PostsOwn
refused_own setup task send fault = tt

nobody_own : (setup : Setup) (task : ℕ) (send : Bool) → PostsOwn setup task send Nobody
unfolding PostsOwn
nobody_own setup task send = tt

at_own : (setup : Setup) (m : Memory) (held task : ℕ) (o : Offer) (view : View) (places : Result (Option Span) Fault) → ((span : Span) → places ≡ Ok (Some span) → span.owner ≡ owner_of setup task span.obj) → PostsOwn setup task o.send (asked_at setup m held task o view places)
unfolding PostsOwn
at_own setup m held task o view (Err fault) h = tt
at_own setup m held task o view (Ok places) h = (refl, refl, λ span e. h span (ap Ok e))

in_own : (setup : Setup) (m : Memory) (marks : Marks) (held task : ℕ) (o : Offer) (view : Option View) → PostsOwn setup task o.send (asked_in setup m marks held task o view)
in_own setup m marks held task o None = refused_own setup task o.send BadComm
in_own setup m marks held task o (Some view) =
    own_if setup task o.send (not (is_peer o.peer view.size (not o.send))) _ _ (refused_own setup task o.send BadRank)
    (own_if setup task o.send (not (is_tag_argument o.tag (not o.send))) _ _ (refused_own setup task o.send BadTag)
    (own_if setup task o.send (int_lt o.count (pos 0)) _ _ (refused_own setup task o.send BadCount)
    (own_if setup task o.send (is_proc_null o.peer) _ _ (nobody_own setup task o.send)
    (at_own setup m held task o view _ (λ span e. span_owner (owner_of setup task) (barred marks o.send) m o.at (nat_abs o.count) span e)))))

-- how many postings there are after one more
pub length-with_posting : (all : List Made) (p : Posting) → length (with_posting all p) ≡ length all + 1
unfolding with_posting
length-with_posting all p = by (partner_of all p)
  where
    by : (met : Option ℕ) → length (made_with all p met) ≡ length all + 1
    by (Some n) = length-append (with_partner all n (length all + 1)) _ ∙ ap (λ k. k + 1) (length-with_partner all n (length all + 1))
    by None = length-append all _

-- the postings that were there have their envelopes
pub same_posting : (all : List Made) (p : Posting) (index : ℕ) (was now' : Made) → slice_get all index ≡ Some was → slice_get (with_posting all p) index ≡ Some now' → now'.posting ≡ was.posting
same_posting all p index was now' at at' = by (partner_of all p) refl
  where
    envelope_is : (x : Made) → slice_get (with_posting all p) index ≡ Some x → now'.posting ≡ x.posting
    envelope_is x e = ap (λ (m : Made). m.posting) (some_made now' x (sym at' ∙ e))
      where
        some_made : (a b : Made) → Some a ≡ Some b → a ≡ b
        some_made a b h = cc

    other : partner_of all p ≢ Some (index + 1) → now'.posting ≡ was.posting
    other apart = envelope_is was (with_posting-others all p index was at apart)

    by : (met : Option ℕ) → partner_of all p ≡ met → now'.posting ≡ was.posting
    by None e = other (λ h. never (sym e ∙ h))
      where
        never : None ≡ Some (index + 1) → ⊥
        never h = cc
    by (Some n) e = decide (eqb_tells n (index + 1))
      where
        number_is : (a b : ℕ) → Some a ≡ Some b → a ≡ b
        number_is a b h = cc

        decide : ((n == index + 1) ≡ true) × (n ≡ index + 1) ⊎ ((n == index + 1) ≡ false) × (n ≢ index + 1) → now'.posting ≡ was.posting
        decide (inl h) =
            let place : n - 1 ≡ index = omega (arith, h.1) in
            envelope_is (record was { met = Some (length all + 1) })
            (ap (slice_get (with_posting all p)) (sym place) ∙ with_posting-joined all p n was e (ap (slice_get all) place ∙ at))
        decide (inr h) = other (λ h'. h.1 (number_is n (index + 1) (sym e ∙ h')))

pub get_last : {X : Type 0} (xs : List X) (x : X) → slice_get (xs ++ x ∷ []) (length xs) ≡ Some x
get_last [] x = refl
get_last (y ∷ xs) x = get_last xs x

pub get_there : {X : Type 0} (xs : List X) (i : ℕ) → i < length xs → (x : X) × (slice_get xs i ≡ Some x)
get_there [] i h = absurd (omega (arith, h))
get_there (y ∷ xs) zero h = (y, refl)
get_there (y ∷ xs) (suc i) h = get_there xs i (omega (arith, h))

some_is : {X : Type 0} (a b : X) → Some a ≡ Some b → a ≡ b
some_is a b h = cc

module _ (setup : Setup) (core : Core) (task : ℕ) (p : Posting) (mine : Carried) (by' : p.task ≡ task) (places : (span : Span) → mine.places ≡ Some span → span.owner ≡ owner_of setup task span.obj) where
  -- the postings with one more, and what they carry
  own_more : (after : Core) → after.postings ≡ with_posting core.postings p → after.carried ≡ core.carried ++ mine ∷ [] → OwnPlaces setup core → OwnPlaces setup after
  own_more after ps cs own = record {
    even = ap length cs ∙ length-append core.carried (mine ∷ []) ∙ ap (λ n. n + 1) own.even ∙ sym (ap length ps ∙ length-with_posting core.postings p);
    own = λ index made carried span at has named. at_index index made carried span (ap (λ x. slice_get x index) (sym ps) ∙ at) (ap (λ x. slice_get x index) (sym cs) ∙ has) named (eqb_tells index (length core.postings));
  }
    where
      at_index : (index : ℕ) (made : Made) (carried : Carried) (span : Span) → slice_get (with_posting core.postings p) index ≡ Some made → slice_get (core.carried ++ mine ∷ []) index ≡ Some carried → carried.places ≡ Some span
          → ((index == length core.postings) ≡ true) × (index ≡ length core.postings) ⊎ ((index == length core.postings) ≡ false) × (index ≢ length core.postings)
          → span.owner ≡ owner_of setup made.posting.task span.obj
      at_index index made carried span at has named (inl e) =
          let made_is : record { posting = p; met = partner_of core.postings p } ≡ made = some_is _ _ (sym (with_posting-made core.postings p) ∙ ap (slice_get (with_posting core.postings p)) (sym e.1) ∙ at) in
          let mine_is : mine ≡ carried = some_is _ _ (sym (get_last core.carried mine) ∙ ap (slice_get (core.carried ++ mine ∷ [])) (own.even ∙ sym e.1) ∙ has) in
          places span (ap (λ (c : Carried). c.places) mine_is ∙ named)
          ∙ ap (λ t. owner_of setup t span.obj) (sym by' ∙ ap (λ (m : Made). m.posting.task) made_is)
      at_index index made carried span at has named (inr e) =
          let within : index < length (with_posting core.postings p) = slice_get_within (with_posting core.postings p) index made at in
          let early : index < length core.postings = omega (arith, within, length-with_posting core.postings p, e.1) in
          let (was, was_at) = get_there core.postings index early in
          let has_it : slice_get core.carried index ≡ Some carried = sym (get_before core.carried (mine ∷ []) index (omega (arith, early, own.even))) ∙ has in
          own.own index was carried span was_at has_it named
          ∙ ap (λ (q : Posting). owner_of setup q.task span.obj) (sym (same_posting core.postings p index was made was_at at))

  delivered_apart : (m : Memory) (send recv : Carried) (other : ℕ) (obj : Obj) → ((span : Span) → recv.places ≡ Some span → span.owner ≢ Task other) → object_of (delivered m send recv) (Task other) obj ≡ object_of m (Task other) obj
  delivered_apart m send recv other obj h = by (is_taken send recv)
    where
      by : (b : Bool) → object_of (if b then with_words_at m recv.places send.words else m) (Task other) obj ≡ object_of m (Task other) obj
      by true = words_apart m recv.places send.words (Task other) obj h
      by false = refl

  delivered_dead : (m : Memory) (send recv : Carried) (t : ℕ) (obj : Obj) → object_of m (Task t) obj ≡ None → object_of (delivered m send recv) (Task t) obj ≡ None
  delivered_dead m send recv t obj h = by (is_taken send recv)
    where
      by : (b : Bool) → object_of (if b then with_words_at m recv.places send.words else m) (Task t) obj ≡ None
      by true = words_dead m recv.places send.words (Task t) obj h
      by false = h

  memory_dead : (m : Memory) (send : Bool) (other : Option Carried) (t : ℕ) (obj : Obj) → object_of m (Task t) obj ≡ None → object_of (memory_after m send mine other) (Task t) obj ≡ None
  memory_dead m send None t obj h = h
  memory_dead m true (Some c) t obj h = delivered_dead m mine c t obj h
  memory_dead m false (Some c) t obj h = delivered_dead m c mine t obj h

  delivered_ordered : (m : Memory) (send recv : Carried) → IsOrdered m → IsOrdered (delivered m send recv)
  delivered_ordered m send recv h = by (is_taken send recv)
    where
      by : (b : Bool) → IsOrdered (if b then with_words_at m recv.places send.words else m)
      by true = words_ordered m recv.places send.words h
      by false = h

  memory_ordered : (m : Memory) (send : Bool) (other : Option Carried) → IsOrdered m → IsOrdered (memory_after m send mine other)
  memory_ordered m send None h = h
  memory_ordered m true (Some c) h = delivered_ordered m mine c h
  memory_ordered m false (Some c) h = delivered_ordered m c mine h

  -- the receive that a send has met
  met_made : (number : ℕ) → p.send ≡ true → partner_of core.postings p ≡ Some number → (index : ℕ) × (made : Made) × (number ≡ suc index) × (slice_get core.postings index ≡ Some made) × (made.posting.send ≡ false)
  met_made number sends e = by (partners.partner_of-IsPartner core.postings p number e)
    where
      open_is : (made : Made) → IsTrue (is_open_to p made) → made.posting.send ≡ false
      open_is made h = fits (is_none made.met) (subst (λ b. IsTrue (is_none made.met && (if b then not made.posting.send && is_fit made.posting p else (made.posting.send && is_fit p made.posting)))) sends h)
        where
          fits : (b : Bool) → IsTrue (b && (not made.posting.send && is_fit made.posting p)) → made.posting.send ≡ false
          fits true h' = no (made.posting.send) (is_fit made.posting p) h'
            where
              no : (a b : Bool) → IsTrue (not a && b) → a ≡ false
              no true b h'' = cc
              no false b h'' = refl
          fits false h' = cc

      found : (o : Option Made) → IsSomeAnd o (λ m. IsTrue (is_open_to p m)) → (made : Made) × (o ≡ Some made) × IsTrue (is_open_to p made)
      found None h = absurd h
      found (Some made) h = (made, refl, h)

      by : IsPartner core.postings p number → (index : ℕ) × (made : Made) × (number ≡ suc index) × (slice_get core.postings index ≡ Some made) × (made.posting.send ≡ false)
      by partner =
          let (made, at, open') = found (slice_get core.postings (number - 1)) partner.meets in
          (number - 1, made, omega (arith, partner.counted), at, open_is made open')

  suc_carried : (number index : ℕ) → number ≡ suc index → carried_of core.carried number ≡ slice_get core.carried index
  suc_carried number index e = ap (carried_of core.carried) e

  -- another task's objects after the match
  others_met : (after : Core) (send : Bool) (met : Option ℕ) → p.send ≡ send → partner_of core.postings p ≡ met → after.postings ≡ with_posting core.postings p
      → after.memory ≡ memory_after core.memory send mine (partner_carried core.carried met) → OwnPlaces setup core → LeavesOthers core after task
  others_met after send None side partner ps m own other obj apart = inl (ap (λ x. object_of x (Task other) obj) m)
  others_met after false (Some number) side partner ps m own other obj apart = by (carried_of core.carried number) refl
    where
      by : (c : Option Carried) → carried_of core.carried number ≡ c → (object_of after.memory (Task other) obj ≡ object_of core.memory (Task other) obj) ⊎ MetReceive core after task other
      by None e = inl (ap (λ x. object_of x (Task other) obj) (m ∙ ap (memory_after core.memory false mine) e))
      by (Some c) e =
          inl (ap (λ x. object_of x (Task other) obj) (m ∙ ap (memory_after core.memory false mine) e)
          ∙ delivered_apart core.memory c mine other obj (λ span named h. owner_apart setup task other span.obj apart (sym (places span named) ∙ h)))
  others_met after true (Some number) side partner ps m own other obj apart = with_made (met_made number side partner)
    where
      with_made : (index : ℕ) × (made : Made) × (number ≡ suc index) × (slice_get core.postings index ≡ Some made) × (made.posting.send ≡ false)
          → (object_of after.memory (Task other) obj ≡ object_of core.memory (Task other) obj) ⊎ MetReceive core after task other
      with_made (index, made, counted, at, receives) = decide (eqb_tells made.posting.task other)
        where
          stays : made.posting.task ≢ other → (c : Option Carried) → carried_of core.carried number ≡ c → object_of after.memory (Task other) obj ≡ object_of core.memory (Task other) obj
          stays differs None e = ap (λ x. object_of x (Task other) obj) (m ∙ ap (memory_after core.memory true mine) e)
          stays differs (Some c) e =
              ap (λ x. object_of x (Task other) obj) (m ∙ ap (memory_after core.memory true mine) e)
              ∙ delivered_apart core.memory mine c other obj (λ span named h.
              owner_apart setup made.posting.task other span.obj (λ e'. differs (sym e'))
              (sym (own.own index made c span at (sym (suc_carried number index counted) ∙ e) named) ∙ h))

          decide : ((made.posting.task == other) ≡ true) × (made.posting.task ≡ other) ⊎ ((made.posting.task == other) ≡ false) × (made.posting.task ≢ other)
              → (object_of after.memory (Task other) obj ≡ object_of core.memory (Task other) obj) ⊎ MetReceive core after task other
          decide (inl h) = inr (record {
            posting = p;
            number = number;
            made = made;
            sent = side;
            by = by';
            postings = ps;
            partner = partner;
            at = ap (posting_of core.postings) counted ∙ at;
            received = receives;
            of = h.1;
          })
          decide (inr h) = inl (stays h.1 (carried_of core.carried number) refl)

  -- the core after the posting, with its next request
  posted_left : (met : Option ℕ) → partner_of core.postings p ≡ met → (more : Request) → Left setup core (with_requests (record core {
    memory = memory_after core.memory p.send mine (partner_carried core.carried met);
    postings = with_posting core.postings p;
    carried = core.carried ++ mine ∷ [];
  }) task (requests_of core task ++ more ∷ [])) task
  posted_left met partner more = record {
    keeps = record {
      postings = omega (arith, length-with_posting core.postings p);
      comms = omega arith;
      requests = requests_set core.requests task (requests_of core task ++ more ∷ []) (omega (arith, length-append (requests_of core task) (more ∷ [])));
      made = λ other. omega arith;
      names = λ other left number past. memory_dead core.memory p.send (partner_carried core.carried met) other (Dyn number) (left number past);
    };
    few = record {
      postings = omega (arith, length-with_posting core.postings p);
      requests = requests_few core.requests task (requests_of core task ++ more ∷ []) (omega (arith, length-append (requests_of core task) (more ∷ [])));
      made = λ other. omega arith;
      arrivals = omega arith;
      visits = omega arith;
      exits = omega arith;
    };
    order = memory_ordered core.memory p.send (partner_carried core.carried met);
    tasks = refl;
    lists = length_set core.requests task _;
    own = own_more _ refl refl;
    others = others_met _ p.send met refl partner refl refl;
  }

offered_leaves : (setup : Setup) (core : Core) (task : ℕ) (send : Bool) (a : Asked) → PostsOwn setup task send a → Leaves setup core task (offered core task send a)
unfolding PostsOwn
offered_leaves setup core task send (Refused fault) h = fails_leave setup core task fault
offered_leaves setup core task send Nobody h =
    does_leave setup core _ task _ (left_requests setup core task _ (omega (arith, length-append (requests_of core task) (nobody_request ∷ []))) (omega (arith, length-append (requests_of core task) (nobody_request ∷ []))))
  where
    nobody_request : Request
    nobody_request = record { awaited = awaited.Nothing (if send then empty_status else null_status); send = send; places = None; active = true }
offered_leaves setup core task send (Posts p mine) h =
    does_leave setup core _ task _ (posted_left setup core task p mine h.0 h.2 (partner_of core.postings p) refl (record { awaited = awaited.Posting (length core.postings + 1); send = p.send; places = mine.places; active = true }))

pub post_leaves : (setup : Setup) (core : Core) (task : ℕ) (o : Offer) → Leaves setup core task (post setup core task o)
unfolding post asked
post_leaves setup core task o =
    offered_leaves setup core task o.send _ (own_if setup task o.send (is_inside (state_of core task).phase) _ _ (in_own setup core.memory (marks_of core.requests) (held_words core.postings core.carried task) task o _) (refused_own setup task o.send NotInit))

-- a posting's request and number are the next ones
unfoldable pub PostsNew : Core → ℕ → Outcome → Type 0
PostsNew core task (Does (Posted req post met words) after) =
    (req ≡ length (requests_of core task) + 1) × (task < length core.requests → length (requests_of after task) ≡ req)
    × ((post ≡ 0) ⊎ ((post ≡ length core.postings + 1) × (length after.postings ≡ post)))
PostsNew core task other = Unit {0}

-- the requests with one more
one_more : (core : Core) (task : ℕ) (request : Request) → task < length core.requests → length (requests_at (slice_get (slice_set core.requests task (requests_of core task ++ request ∷ [])) task)) ≡ length (requests_of core task) + 1
one_more core task request there =
    ap (λ o. length (requests_at o)) (get_set_same core.requests task (requests_of core task ++ request ∷ []) there) ∙ length-append (requests_of core task) (request ∷ [])

offered_new : (core : Core) (task : ℕ) (send : Bool) (a : Asked) → PostsNew core task (offered core task send a)
unfolding PostsNew
offered_new core task send (Refused fault) = tt
offered_new core task send Nobody = (refl, one_more core task _, inl refl)
offered_new core task send (Posts p mine) = (refl, one_more core task _, inr (refl, length-with_posting core.postings p))

pub post_new : (setup : Setup) (core : Core) (task : ℕ) (o : Offer) → PostsNew core task (post setup core task o)
unfolding post
post_new setup core task o = offered_new core task o.send _
