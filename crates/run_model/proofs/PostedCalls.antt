-- What the step of a send or a receive posts: the task's envelope, with the places and the words that its call names. What
-- every step leaves of the receives that are under way.
use Rattle.std.proofs.Common.{◌≡◌, ◌⊎◌, inl, inr, ◌<◌, ◌+◌, not, ℕ, zero, suc, Bool, true, false, if◌then◌else◌, nat_abs, int_lt, nat_le, pos, List, [], ◌∷◌, ◌++◌, length, slice_get, slice_set, Option, Some, None, Result, Ok, Err, refl, ap, sym, ◌∙◌, subst, arith}
use Rattle.mpc_values.specs.declared.owners.Owner.{Owner}
use Rattle.mpc_values.specs.declared.values.Obj.{Obj}
use Rattle.mpc_values.specs.declared.calls.Call.{Call}
use Rattle.mpc_values.specs.declared.calls.Call.TheVariants as call
use Rattle.mpc_values.specs.declared.faults.Fault.{Fault}
use Rattle.mpc_values.specs.declared.faults.Fault.TheVariants.{NotInit, BadComm, BadRank, BadTag, BadCount, Calls}
use Rattle.mpc_base.specs.declared.journals.Out.{Out}
use Rattle.mpc_base.specs.declared.journals.Out.TheVariants as out
use Rattle.mpc_base.specs.declared.journals.Entry.{Entry}
use Rattle.memory_model.specs.declared.kinds.Span.{Span}
use Rattle.memory_model.specs.Memory.{Memory}
use Rattle.memory_model.specs.Marks.{Marks}
use Rattle.memory_model.specs.Names.{NamesAreLeft}
use Rattle.memory_model.specs.Ranges.{span_of, words_at, with_words_at}
use Rattle.mpi_args.specs.Arguments.{is_proc_null, is_peer, is_tag_argument}
use Rattle.mpi_queue.specs.declared.postings.Posting.{Posting}
use Rattle.mpi_queue.specs.History.{partner_of, with_posting}
use Rattle.mpi_request.specs.declared.requests.Awaited.{Awaited}
use Rattle.mpi_request.specs.declared.requests.Awaited.TheVariants as awaited
use Rattle.mpi_request.specs.declared.requests.Request.{Request}
use Rattle.mpi_request.specs.declared.requests.Carried.{Carried}
use Rattle.mpi_request.specs.Messages.{is_taken, delivered, empty_status, null_status, held_words}
use Rattle.mpi_request.specs.Pending.{marks_of}
use Rattle.mpi_comm.specs.declared.communicators.View.{View}
use Rattle.run_model.specs.declared.offers.Offer.{Offer}
use Rattle.run_model.specs.declared.offers.Asked.{Asked}
use Rattle.run_model.specs.declared.offers.Asked.TheVariants.{Refused, Nobody, Posts}
use Rattle.run_model.specs.Setup.{Setup}
use Rattle.run_model.specs.World.{Core, World}
use Rattle.run_model.specs.Owners.{owner_of}
use Rattle.run_model.specs.Outcomes.{Outcome, Does, Fails, Waits, is_inside, requests_at, state_of, requests_of}
use Rattle.run_model.specs.Posting.{barred, next_request, with_request, memory_after, words_after, partner_carried, number_or_none, asked_at, asked_in, asked, offered, post}
use Rattle.run_model.specs.Act.{act}
use Rattle.run_model.specs.Steps.{tried, course_of, out_of, core_after}
use Rattle.run_model.specs.Stepping.{IsStep}
use Rattle.run_model.specs.Matches.{told_in}
use Rattle.run_model.proofs.Lists.{get_set_same}
use Rattle.run_model.proofs.Steps.{after_is}
use Rattle.run_model.proofs.Answers.{out_is}
use Rattle.run_model.proofs.SamePostings.{SamePostings, same_fails, same_if, same_act, IsPostingCall}
use Rattle.run_model.proofs.LeavingMessages.{get_last, length-with_posting}
use Rattle.run_model.proofs.Posted.{TellsNone, StepPosts, none_told, nobody_tells, step_posts}
use Rattle.run_model.proofs.Lengths.{Lives, Room, lives_written, unbarred, unbarred_span, named_span}
use Rattle.run_model.proofs.UnderWay.{receiving, IsUnderWay, Kept, kept_same}
use Rattle.run_model.proofs.UnderWayAll.{KeepsUnderWay, fails, keeps_if, keeps_act}

-- What is posted is what an offer of a task names in a memory.
pub record Carries (setup : Setup) (m : Memory) (task : ℕ) (o : Offer) (p : Posting) (mine : Carried) : Type 0 where
  pub by : p.task ≡ task
  pub side : p.send ≡ o.send
  pub kind : mine.kind ≡ o.kind
  pub count : mine.count ≡ nat_abs o.count
  pub places : span_of (owner_of setup task) unbarred m o.at (nat_abs o.count) ≡ Ok mine.places
  pub words : mine.words ≡ (if o.send then words_at m mine.places else [])

unfoldable AsksWhat : Setup → Memory → ℕ → Offer → Asked → Type 0
AsksWhat setup m task o (Refused fault) = Unit {0}
AsksWhat setup m task o Nobody = Unit {0}
AsksWhat setup m task o (Posts p mine) = Carries setup m task o p mine

module _ (setup : Setup) (m : Memory) (task : ℕ) (o : Offer) where
  refused_what : (fault : Fault) → AsksWhat setup m task o (Refused fault)
  unfolding AsksWhat
  refused_what fault = tt

  nobody_what : AsksWhat setup m task o Nobody
  unfolding AsksWhat
  nobody_what = tt

  what_if : (b : Bool) (x y : Asked) → AsksWhat setup m task o x → AsksWhat setup m task o y → AsksWhat setup m task o (if b then x else y)
  what_if true x y h g = h
  what_if false x y h g = g

  at_what : (marks : Marks) (held : ℕ) (view : View) (places : Result (Option Span) Fault) → span_of (owner_of setup task) (barred marks o.send) m o.at (nat_abs o.count) ≡ places → AsksWhat setup m task o (asked_at setup m held task o view places)
  unfolding AsksWhat
  at_what marks held view (Err fault) e = tt
  at_what marks held view (Ok places) e = record {
    by = refl;
    side = refl;
    kind = refl;
    count = refl;
    places = unbarred_span (owner_of setup task) (barred marks o.send) m o.at (nat_abs o.count) places e;
    words = refl;
  }

  in_what : (marks : Marks) (held : ℕ) (view : Option View) → AsksWhat setup m task o (asked_in setup m marks held task o view)
  in_what marks held None = refused_what BadComm
  in_what marks held (Some view) =
      what_if (not (is_peer o.peer view.size (not o.send))) _ _ (refused_what BadRank)
      (what_if (not (is_tag_argument o.tag (not o.send))) _ _ (refused_what BadTag)
      (what_if (int_lt o.count (pos 0)) _ _ (refused_what BadCount)
      (what_if (is_proc_null o.peer) _ _ nobody_what
      (at_what marks held view (span_of (owner_of setup task) (barred marks o.send) m o.at (nat_abs o.count)) refl))))

-- the core after such a posting
abbrev pub posted_core : Core → ℕ → Posting → Carried → Core
posted_core core task p mine =
    with_request (record core {
      memory = memory_after core.memory p.send mine (partner_carried core.carried (partner_of core.postings p));
      postings = with_posting core.postings p;
      carried = core.carried ++ mine ∷ [];
    }) task (awaited.Posting (length core.postings + 1)) p.send mine.places

-- One posting more, which is what the offer names; what is told of it; and the core after it.
pub record PostedAs (setup : Setup) (core after : Core) (task : ℕ) (o : Offer) (out' : Out) : Type 0 where
  pub p : Posting
  pub mine : Carried
  pub is : Carries setup core.memory task o p mine
  pub told : told_in out' ≡ Some (record {
    post = length core.postings + 1;
    met = number_or_none (partner_of core.postings p);
    words = words_after p.send mine (partner_carried core.carried (partner_of core.postings p));
  })
  pub core_is : posted_core core task p mine ≡ after

-- A step that posted nothing.
pub record QuietStep (core after : Core) (out' : Out) : Type 0 where
  pub tells : TellsNone out'
  pub postings : after.postings ≡ core.postings
  pub kept : Kept core after

unfoldable OfferPosts : Setup → Core → ℕ → Offer → Outcome → Type 0
OfferPosts setup core task o (Does answer after) = QuietStep core after (out.Did answer) ⊎ PostedAs setup core after task o (out.Did answer)
OfferPosts setup core task o (Fails fault) = Unit {0}
OfferPosts setup core task o Waits = Unit {0}

-- the request of a posting, and that of none
abbrev posted_request : Core → Posting → Carried → Request
posted_request core p mine = record { awaited = awaited.Posting (length core.postings + 1); send = p.send; places = mine.places; active = true }

abbrev nobody_request : Awaited → Bool → Request
nobody_request waits send = record { awaited = waits; send = send; places = None; active = true }

-- a request more leaves all others
more_requests : (all : List (List Request)) (task : ℕ) (request : Request) (other at : ℕ) (r : Request) → slice_get (requests_at (slice_get all other)) at ≡ Some r
    → slice_get (requests_at (slice_get (slice_set all task (requests_at (slice_get all task) ++ request ∷ [])) other)) at ≡ Some r
more_requests [] task request other at r h = h
more_requests (own ∷ all) zero request zero at r h = within own at h
  where
    within : (own : List Request) (at : ℕ) → slice_get own at ≡ Some r → slice_get (own ++ request ∷ []) at ≡ Some r
    within [] at g = let no : ⊥ = cc in absurd no
    within (x ∷ own') zero g = g
    within (x ∷ own') (suc at') g = within own' at' g
more_requests (own ∷ all) zero request (suc other) at r h = h
more_requests (own ∷ all) (suc task) request zero at r h = h
more_requests (own ∷ all) (suc task) request (suc other) at r h = more_requests all task request other at r h

delivered_lives : (m : Memory) (send recv : Carried) (owner : Owner) (obj : Obj) (len : ℕ) → Lives m owner obj len → Lives (delivered m send recv) owner obj len
delivered_lives m send recv owner obj len h = by (is_taken send recv)
  where
    by : (b : Bool) → Lives (if b then with_words_at m recv.places send.words else m) owner obj len
    by true = lives_written m recv.places send.words owner obj len h
    by false = h

after_lives : (m : Memory) (send : Bool) (mine : Carried) (other : Option Carried) (owner : Owner) (obj : Obj) (len : ℕ) → Lives m owner obj len → Lives (memory_after m send mine other) owner obj len
after_lives m send mine None owner obj len h = h
after_lives m true mine (Some other) owner obj len h = delivered_lives m mine other owner obj len h
after_lives m false mine (Some other) owner obj len h = delivered_lives m other mine owner obj len h

-- a receive under way stays so after a posting
pub posted_under_way : (core : Core) (task : ℕ) (p : Posting) (mine : Carried) (other number : ℕ) (span : Span) → IsUnderWay core other number span → IsUnderWay (posted_core core task p mine) other number span
posted_under_way core task p mine other number span h = record {
  at = h.at;
  there = more_requests core.requests task (posted_request core p mine) other h.at (receiving number span) h.there;
  room = record {
    some = h.room.some;
    len = h.room.len;
    lives = after_lives core.memory p.send mine (partner_carried core.carried (partner_of core.postings p)) span.owner span.obj h.room.len h.room.lives;
    within = h.room.within;
  };
}

-- a receive that is posted without a partner is under way
pub new_under_way : (setup : Setup) (core : Core) (task : ℕ) (o : Offer) (p : Posting) (mine : Carried) (span : Span) → task < length core.requests → Carries setup core.memory task o p mine → p.send ≡ false → partner_of core.postings p ≡ None → mine.places ≡ Some span
    → IsUnderWay (posted_core core task p mine) task (length core.postings + 1) span
new_under_way setup core task o p mine span there is receives alone places = record {
  at = length (requests_of core task);
  there =
      ap (λ x. slice_get (requests_at x) (length (requests_of core task))) (get_set_same core.requests task (requests_of core task ++ posted_request core p mine ∷ []) there)
      ∙ get_last (requests_of core task) (posted_request core p mine)
      ∙ ap (λ (b : Bool). Some (record { awaited = awaited.Posting (length core.postings + 1); send = b; places = mine.places; active = true })) receives
      ∙ ap (λ (x : Option Span). Some (record { awaited = awaited.Posting (length core.postings + 1); send = false; places = x; active = true })) places;
  room = subst (λ m. Room m span) (sym (ap (λ met. memory_after core.memory p.send mine (partner_carried core.carried met)) alone))
      (named_span (owner_of setup task) core.memory o.at (nat_abs o.count) span (is.places ∙ ap Ok places)).room;
}

nobody_kept : (core : Core) (task : ℕ) (waits : Awaited) (send : Bool) → Kept core (with_request core task waits send None)
nobody_kept core task waits send = record {
  carried = refl;
  held = λ other number span open' h. record { at = h.at; there = more_requests core.requests task (nobody_request waits send) other h.at (receiving number span) h.there; room = h.room };
}

offer_posts : (setup : Setup) (core : Core) (task : ℕ) (o : Offer) (a : Asked) → AsksWhat setup core.memory task o a → OfferPosts setup core task o (offered core task o.send a)
unfolding AsksWhat OfferPosts
offer_posts setup core task o (Refused fault) h = tt
offer_posts setup core task o Nobody h = inl (record { tells = nobody_tells (next_request core task); postings = refl; kept = nobody_kept core task (awaited.Nothing (if o.send then empty_status else null_status)) o.send })
offer_posts setup core task o (Posts p mine) h = inr (record { p = p; mine = mine; is = h; told = refl; core_is = refl })

post_posts : (setup : Setup) (core : Core) (task : ℕ) (o : Offer) → OfferPosts setup core task o (post setup core task o)
unfolding post asked
post_posts setup core task o =
    offer_posts setup core task o _
    (what_if setup core.memory task o (is_inside (state_of core task).phase) _ _ (in_what setup core.memory task o (marks_of core.requests) (held_words core.postings core.carried task) _) (refused_what setup core.memory task o NotInit))

-- what a send or a receive offers
abbrev pub offer_of : Call → Option Offer
offer_of (call.Send at count kind peer tag comm sync) = Some (record { send = true; at = at; count = count; kind = kind; peer = peer; tag = tag; comm = comm; sync = sync })
offer_of (call.Recv at count kind peer tag comm) = Some (record { send = false; at = at; count = count; kind = kind; peer = peer; tag = tag; comm = comm; sync = false })
offer_of other = None

-- A step that posted what its call offers.
pub record PostingStep (setup : Setup) (core after : Core) (task : ℕ) (c : Call) (out' : Out) : Type 0 where
  pub offer : Offer
  pub offered : offer_of c ≡ Some offer
  pub posted : PostedAs setup core after task offer out'

-- a call is a posting of what it offers, or none
call_kind : (c : Call) → ((o : Offer) × (offer_of c ≡ Some o) × ((setup : Setup) (core : Core) (task : ℕ) → act setup core task c ≡ post setup core task o)) ⊎ (IsPostingCall c → ⊥)
unfolding act
call_kind (call.Send at count kind peer tag comm sync) = inl (record { send = true; at = at; count = count; kind = kind; peer = peer; tag = tag; comm = comm; sync = sync }, refl, λ setup core task. refl)
call_kind (call.Recv at count kind peer tag comm) = inl (record { send = false; at = at; count = count; kind = kind; peer = peer; tag = tag; comm = comm; sync = false }, refl, λ setup core task. refl)
call_kind other = inr (λ h. h)

fails_posts : (setup : Setup) (core : Core) (task : ℕ) (o : Offer) (b : Bool) (x : Outcome) → OfferPosts setup core task o x → OfferPosts setup core task o (if b then Fails Calls else x)
unfolding OfferPosts
fails_posts setup core task o true x h = tt
fails_posts setup core task o false x h = h

no_step : (core : Core) (out' : Out) → told_in out' ≡ None → QuietStep core core out'
no_step core out' e = record { tells = none_told out' e; postings = refl; kept = kept_same core core refl refl refl }

outcome_posts : (setup : Setup) (core : Core) (task : ℕ) (o : Offer) (x : Outcome) → OfferPosts setup core task o x → QuietStep core (core_after core x) (out_of x) ⊎ PostedAs setup core (core_after core x) task o (out_of x)
unfolding OfferPosts
outcome_posts setup core task o (Does answer after) h = h
outcome_posts setup core task o (Fails fault) h = inl (no_step core (out.Broke fault) refl)
outcome_posts setup core task o Waits h = inl (no_step core out.Waits refl)

kept_after : (core : Core) (x : Outcome) → KeepsUnderWay core x → Kept core (core_after core x)
unfolding KeepsUnderWay
kept_after core (Does answer after) h = h
kept_after core (Fails fault) h = kept_same core core refl refl refl
kept_after core Waits h = kept_same core core refl refl refl

same_after : (core : Core) (x : Outcome) → SamePostings core x → (core_after core x).postings ≡ core.postings
unfolding SamePostings
same_after core (Does answer after) h = h
same_after core (Fails fault) h = refl
same_after core Waits h = refl

module _ {setup : Setup} {w : World} {task : ℕ} {entry : Entry} {after : World} (s : IsStep setup w task entry after) where
  step_core : core_after w.core (tried setup w task s.call) ≡ after.core
  step_core = ap (λ (x : World). x.core) (after_is s)

  posting_step : (o : Offer) → offer_of s.call ≡ Some o → act setup w.core task s.call ≡ post setup w.core task o → QuietStep w.core after.core entry.out ⊎ PostingStep setup w.core after.core task s.call entry.out
  posting_step o offers is =
      by (subst (λ (x : Out). QuietStep w.core after.core x ⊎ PostedAs setup w.core after.core task o x) (out_is s)
      (subst (λ (c : Core). QuietStep w.core c (out_of (tried setup w task s.call)) ⊎ PostedAs setup w.core c task o (out_of (tried setup w task s.call))) step_core
      (outcome_posts setup w.core task o (tried setup w task s.call)
      (fails_posts setup w.core task o (nat_le setup.calls (course_of w.log task).entries) (act setup w.core task s.call)
      (subst (OfferPosts setup w.core task o) (sym is) (post_posts setup w.core task o))))))
    where
      by : QuietStep w.core after.core entry.out ⊎ PostedAs setup w.core after.core task o entry.out → QuietStep w.core after.core entry.out ⊎ PostingStep setup w.core after.core task s.call entry.out
      by (inl quiet) = inl quiet
      by (inr one) = inr (record { offer = o; offered = offers; posted = one })

  quiet_step : NamesAreLeft task (state_of w.core task).made w.core.memory → (IsPostingCall s.call → ⊥) → QuietStep w.core after.core entry.out
  quiet_step left other = by (step_posts s)
    where
      same : after.core.postings ≡ w.core.postings
      same =
          ap (λ (c : Core). c.postings) (sym step_core)
          ∙ same_after w.core (tried setup w task s.call)
          (same_if w.core (nat_le setup.calls (course_of w.log task).entries) (Fails Calls) (act setup w.core task s.call) (same_fails w.core Calls) (same_act setup w.core task s.call other))

      kept : Kept w.core after.core
      kept =
          subst (Kept w.core) step_core
          (kept_after w.core (tried setup w task s.call)
          (keeps_if w.core (nat_le setup.calls (course_of w.log task).entries) (Fails Calls) (act setup w.core task s.call) (fails w.core Calls) (keeps_act setup w.core task left s.call other)))

      by : StepPosts w.core after.core entry.out → QuietStep w.core after.core entry.out
      by (inl none) = record { tells = none.0; postings = same; kept = kept }
      by (inr one) = absurd (omega (arith, length-with_posting w.core.postings one.posting, ap length one.postings, ap length same))

  -- what a step of a run posts, and what it leaves of the receives under way
  pub step_does : NamesAreLeft task (state_of w.core task).made w.core.memory → QuietStep w.core after.core entry.out ⊎ PostingStep setup w.core after.core task s.call entry.out
  step_does left = by (call_kind s.call)
    where
      by : ((o : Offer) × (offer_of s.call ≡ Some o) × ((setup' : Setup) (core : Core) (task' : ℕ) → act setup' core task' s.call ≡ post setup' core task' o)) ⊎ (IsPostingCall s.call → ⊥) → QuietStep w.core after.core entry.out ⊎ PostingStep setup w.core after.core task s.call entry.out
      by (inl (o, offers, is)) = posting_step o offers (is setup w.core task)
      by (inr other) = inl (quiet_step left other)
