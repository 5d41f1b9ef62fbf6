-- In every run each message arrives once, and is not overtaken.
use Rattle.std.proofs.Common.{◌≡◌, ◌≢◌, ◌⊎◌, inl, inr, ◌<◌, ◌≤◌, ◌+◌, ◌-◌, ◌==◌, ◌&&◌, not, ℕ, zero, suc, Bool, true, false, IsTrue, if◌then◌else◌, List, [], ◌∷◌, ◌++◌, length, take, slice_get, Option, Some, None, is_none, refl, ap, sym, ◌∙◌, subst, length-append, arith}
use Rattle.std.proofs.lemmas.List.{take-append-le}
use Rattle.std.proofs.lemmas.Option.{slice_get_within}
use Rattle.mpc_base.specs.declared.journals.Entry.{Entry}
use Rattle.mpi_queue.specs.declared.postings.Posting.{Posting}
use Rattle.mpi_queue.specs.Fits.{Fits, is_fit, is_match}
use Rattle.mpi_queue.specs.History.{Made, IsSettled, is_open_to, partner_of, with_posting}
use Rattle.mpi_queue.proofs.Fitting.{is_fit-Fits}
use Rattle.mpi_queue.proofs.Settled.{IsSettled-none, IsSettled-with_posting}
use Rattle.mpi_queue.proofs.Changes.{with_posting-made}
use Rattle.mpi_request.specs.Messages.{posting_of}
use Rattle.run_model.specs.Setup.{Setup}
use Rattle.run_model.specs.World.{World}
use Rattle.run_model.specs.Posting.{number_or_none}
use Rattle.run_model.specs.Steps.{Makes}
use Rattle.run_model.specs.Go.{go}
use Rattle.run_model.specs.Run.{Ran, run, at_start, order_of, world_of}
use Rattle.run_model.specs.Stepping.{IsStep}
use Rattle.run_model.specs.Matches.{Told, told_in, told_at, IsMatch, AreOf, IsMatchedBefore, world_before, IsPosting}
use Rattle.run_model.specs.Orderly.{Once, Unovertaken}
use Rattle.run_model.proofs.Steps.{step_is, task_is}
use Rattle.run_model.proofs.Runs.{run_keeps, run-push, run_from-none}
use Rattle.run_model.proofs.LeavingMessages.{get_there, length-with_posting, same_posting}
use Rattle.run_model.proofs.Posted.{TellsNone, TellsOne, StepPosts, step_posts}
use Rattle.run_model.proofs.MatchSteps.{IsMet, met_stays, new_met, partner_met, was_open, met_before, told_last, told_within, match_lift, match_split}

-- an entry that matched the posting of this number
abbrev pub MatchedIn : List Entry → ℕ → Type 0
MatchedIn entries number = (index post met words : ℕ) × IsMatch entries index post met words × ((post ≡ number) ⊎ (met ≡ number))

-- what holds of the postings and entries of every run
pub record Matched (setup : Setup) (r : Ran) : Type 0 where
  pub again : run setup (order_of r.entries) ≡ r
  pub settled : IsSettled r.world.core.postings
  pub pairs : (index post met words : ℕ) → IsMatch r.entries index post met words → IsMet r.world.core.postings post × IsMet r.world.core.postings met
  pub known : (number : ℕ) → IsMet r.world.core.postings number → MatchedIn r.entries number
  pub once : Once r.entries
  pub fair : Unovertaken setup r.entries

no_told : (index : ℕ) (t : Told) → told_at [] index ≡ Some t → ⊥
no_told index t h = cc

no_posting : (index : ℕ) (made : Made) → slice_get {X = Made} [] index ≡ Some made → ⊥
no_posting index made h = cc

matched_start : (setup : Setup) → Matched setup (at_start setup)
matched_start setup = record {
  again = run_from-none setup (at_start setup);
  settled = IsSettled-none;
  pairs = λ index post met words m. absurd (no_told index _ m.told);
  known = λ number m. absurd (no_posting m.index m.made m.at);
  once = λ i j post met words post' met' words' early m m'. absurd (no_told i _ m.told);
  fair = record {
    sends = λ index post met words send recv earlier s r e m. absurd (no_told index _ m.told);
    receives = λ index post met words send recv earlier s r e m. absurd (no_told index _ m.told);
  };
}

module _ (setup : Setup) (r : Ran) (task : ℕ) (entry : Entry) (after : World) (h : Matched setup r) (went : go setup r.world task ≡ Makes entry after) where
  s : IsStep setup r.world task entry after
  s = step_is setup r.world task entry after went

  abbrev all : List Entry
  all = r.entries ++ entry ∷ []

  went_own : go setup r.world entry.task ≡ Makes entry after
  went_own = subst (λ t. go setup r.world t ≡ Makes entry after) (sym (task_is s)) went

  again' : run setup (order_of all) ≡ record { entries = all; world = after }
  again' = run-push setup r.entries r entry after h.again went_own

  lift_known : (number : ℕ) → MatchedIn r.entries number → MatchedIn all number
  lift_known number (index, post, met, words, m, which) = (index, post, met, words, match_lift r.entries entry index post met words m, which)

  -- the world before an earlier entry is that of the entries so far
  earlier_world : (index : ℕ) → index < length r.entries → world_before setup all (index + 1) ≡ world_before setup r.entries (index + 1)
  earlier_world index early = ap (world_of setup) (take-append-le (index + 1) r.entries (entry ∷ []) (omega (arith, early)))

  lift_before : (index number : ℕ) → IsMatchedBefore r.entries index number → IsMatchedBefore all index number
  lift_before index number (earlier, post, met, words, early, m, which) = (earlier, post, met, words, early, match_lift r.entries entry earlier post met words m, which)

  lift_posting : (index number : ℕ) (send : Bool) (p : Posting) → index < length r.entries → IsPosting (world_before setup all (index + 1)) number send p → IsPosting (world_before setup r.entries (index + 1)) number send p
  lift_posting index number send p early q = subst (λ (w : World). IsPosting w number send p) (earlier_world index early) q

  old_sends : (index post met words send recv earlier : ℕ) (s r' e : Posting) → IsMatch r.entries index post met words → AreOf post met send recv
      → IsPosting (world_before setup all (index + 1)) send true s → IsPosting (world_before setup all (index + 1)) recv false r'
      → earlier < send → IsPosting (world_before setup all (index + 1)) earlier true e → e.task ≡ s.task → Fits r' e → IsMatchedBefore all index earlier
  old_sends index post met words send recv earlier s r' e m of ps pr before pe by fit =
      let early : index < length r.entries = told_within r.entries index _ m.told in
      lift_before index earlier (h.fair.sends index post met words send recv earlier s r' e m of (lift_posting index send true s early ps) (lift_posting index recv false r' early pr) before (lift_posting index earlier true e early pe) by fit)

  old_receives : (index post met words send recv earlier : ℕ) (s r' e : Posting) → IsMatch r.entries index post met words → AreOf post met send recv
      → IsPosting (world_before setup all (index + 1)) send true s → IsPosting (world_before setup all (index + 1)) recv false r'
      → earlier < recv → IsPosting (world_before setup all (index + 1)) earlier false e → e.task ≡ r'.task → Fits e s → IsMatchedBefore all index earlier
  old_receives index post met words send recv earlier s r' e m of ps pr before pe by fit =
      let early : index < length r.entries = told_within r.entries index _ m.told in
      lift_before index earlier (h.fair.receives index post met words send recv earlier s r' e m of (lift_posting index send true s early ps) (lift_posting index recv false r' early pr) before (lift_posting index earlier false e early pe) by fit)

  -- nothing was posted: the entry is no match
  module _ (none : TellsNone entry.out) (same : after.core.postings ≡ r.world.core.postings) where
    only_old : (index post met words : ℕ) → IsMatch all index post met words → IsMatch r.entries index post met words
    unfolding TellsNone
    only_old index post met words m = by (match_split r.entries entry index post met words m)
      where
        by : IsMatch r.entries index post met words ⊎ ((index ≡ length r.entries) × (told_in entry.out ≡ Some (record { post = post; met = met; words = words }))) → IsMatch r.entries index post met words
        by (inl m') = m'
        by (inr new') = absurd (m.met_one (none (record { post = post; met = met; words = words }) new'.1).1)

    quiet : Matched setup (record { entries = all; world = after })
    quiet = record {
      again = again';
      settled = subst IsSettled (sym same) h.settled;
      pairs = λ index post met words m.
          let both = h.pairs index post met words (only_old index post met words m) in
          (subst (λ ps. IsMet ps post) (sym same) both.0, subst (λ ps. IsMet ps met) (sym same) both.1);
      known = λ number m. lift_known number (h.known number (subst (λ ps. IsMet ps number) same m));
      once = λ i j post met words post' met' words' early m m'. h.once i j post met words post' met' words' early (only_old i post met words m) (only_old j post' met' words' m');
      fair = record {
        sends = λ index post met words send recv earlier s' r' e m. old_sends index post met words send recv earlier s' r' e (only_old index post met words m);
        receives = λ index post met words send recv earlier s' r' e m. old_receives index post met words send recv earlier s' r' e (only_old index post met words m);
      };
    }

take_whole : {X : Type 0} (xs : List X) → take (length xs) xs ≡ xs
take_whole [] = refl
take_whole (x ∷ xs) = ap (λ ys. x ∷ ys) (take_whole xs)

is_true : (recv send : Posting) → Fits recv send → is_fit recv send ≡ true
is_true recv send h = (is_fit-Fits recv send).1 h

-- a receive and a send that fit are a match, whichever is named first
match_of : (r e : Posting) → r.send ≡ false → e.send ≡ true → Fits r e → is_match r e ≡ true
match_of r e hr he fit =
    ap (λ b. if b then not e.send && is_fit e r else (e.send && is_fit r e)) hr ∙ ap (λ b. b && is_fit r e) he ∙ is_true r e fit

match_from : (s e : Posting) → s.send ≡ true → e.send ≡ false → Fits e s → is_match s e ≡ true
match_from s e hs he fit =
    ap (λ b. if b then not e.send && is_fit e s else (e.send && is_fit s e)) hs ∙ ap (λ b. not b && is_fit e s) he ∙ is_true e s fit

-- a posting that was there, of a number
pub record OldPosting (all : List Made) (number : ℕ) (send : Bool) (e : Posting) : Type 0 where
  pub index : ℕ
  pub counted : number ≡ suc index
  pub was : Made
  pub at : slice_get all index ≡ Some was
  pub is : was.posting ≡ e
  pub side : e.send ≡ send

true_false : true ≡ false → ⊥
true_false h = cc

module _ (setup : Setup) (r : Ran) (task : ℕ) (entry : Entry) (after : World) (h : Matched setup r) (went : go setup r.world task ≡ Makes entry after) (one : TellsOne r.world.core after.core entry.out) where
  abbrev ps : List Made
  ps = r.world.core.postings

  abbrev p : Posting
  p = one.posting

  abbrev entries' : List Entry
  entries' = r.entries ++ entry ∷ []

  -- the new entry, where it is a match
  abbrev NewMatch : ℕ → ℕ → ℕ → Type 0
  NewMatch index post met = (index ≡ length r.entries) × (post ≡ length ps + 1) × (n : ℕ) × (partner_of ps p ≡ Some n) × (met ≡ n)

  same_told : (a b : Told) → Some a ≡ Some b → a ≡ b
  same_told a b e = cc

  match_new : (index post met words : ℕ) → IsMatch entries' index post met words → IsMatch r.entries index post met words ⊎ NewMatch index post met
  match_new index post met words m = by (match_split r.entries entry index post met words m)
    where
      partner : (o : Option ℕ) → partner_of ps p ≡ o → met ≡ number_or_none o → (n : ℕ) × (partner_of ps p ≡ Some n) × (met ≡ n)
      partner None e is = absurd (m.met_one is)
      partner (Some n) e is = (n, e, is)

      by : IsMatch r.entries index post met words ⊎ ((index ≡ length r.entries) × (told_in entry.out ≡ Some (record { post = post; met = met; words = words }))) → IsMatch r.entries index post met words ⊎ NewMatch index post met
      by (inl m') = inl m'
      by (inr new') =
          let same = same_told _ _ (sym new'.1 ∙ one.told) in
          let x = partner (partner_of ps p) refl (ap (λ (t : Told). t.met) same) in
          inr (new'.0, ap (λ (t : Told). t.post) same, x.0, x.1, x.2)

  new_known : (n number : ℕ) → partner_of ps p ≡ Some n → (length ps + 1 ≡ number) ⊎ (n ≡ number) → MatchedIn entries' number
  new_known n number e which =
      let was = was_open ps p n e in (
        length r.entries,
        length ps + 1,
        n,
        one.words,
        record {
          told = told_last r.entries entry ∙ one.told ∙ ap (λ o. Some (record { post = length ps + 1; met = number_or_none o; words = one.words })) e;
          met_one = λ z. omega (arith, z, was.counted);
        },
        which,
      )

  known' : (number : ℕ) → IsMet after.core.postings number → MatchedIn entries' number
  known' number m = by (met_before ps p number (subst (λ x. IsMet x number) one.postings m))
    where
      by : IsMet ps number ⊎ ((n : ℕ) × (partner_of ps p ≡ Some n) × ((length ps + 1 ≡ number) ⊎ (n ≡ number))) → MatchedIn entries' number
      by (inl old) = lift_known setup r task entry after h went number (h.known number old)
      by (inr (n, e, which)) = new_known n number e which

  pairs' : (index post met words : ℕ) → IsMatch entries' index post met words → IsMet after.core.postings post × IsMet after.core.postings met
  pairs' index post met words m = by (match_new index post met words m)
    where
      back : (number : ℕ) → IsMet (with_posting ps p) number → IsMet after.core.postings number
      back number m' = subst (λ x. IsMet x number) (sym one.postings) m'

      by : IsMatch r.entries index post met words ⊎ NewMatch index post met → IsMet after.core.postings post × IsMet after.core.postings met
      by (inl old) = let both = h.pairs index post met words old in (back post (met_stays ps p post both.0), back met (met_stays ps p met both.1))
      by (inr (is, post_is, n, e, met_is)) =
          (back post (subst (IsMet (with_posting ps p)) (sym post_is) (new_met ps p n e)), back met (subst (IsMet (with_posting ps p)) (sym met_is) (partner_met ps p n e (was_open ps p n e))))

  -- a matched posting is neither the new one nor its partner
  not_new : (number : ℕ) → IsMet ps number → number ≢ length ps + 1
  not_new number m e = absurd (omega (arith, e, m.counted, slice_get_within ps m.index m.made m.at))

  not_partner : (number n : ℕ) → IsMet ps number → partner_of ps p ≡ Some n → number ≢ n
  not_partner number n m e same =
      let was = was_open ps p n e in
      let place : m.index ≡ was.index = omega (arith, same, m.counted, was.counted) in
      let made_is : m.made ≡ was.made = some_made _ _ (sym m.at ∙ ap (slice_get ps) place ∙ was.at) in
      m.met (ap (λ (x : Made). x.met) made_is ∙ was.open')
    where
      some_made : (a b : Made) → Some a ≡ Some b → a ≡ b
      some_made a b e' = cc

  once' : Once entries'
  once' i j post met words post' met' words' early m m' = by (match_new i post met words m) (match_new j post' met' words' m')
    where
      by : IsMatch r.entries i post met words ⊎ NewMatch i post met → IsMatch r.entries j post' met' words' ⊎ NewMatch j post' met' → (post ≢ post') × (post ≢ met') × (met ≢ post') × (met ≢ met')
      by (inl old) (inl old') = h.once i j post met words post' met' words' early old old'
      by (inl old) (inr (is, post_is, n, e, met_is)) =
          let both = h.pairs i post met words old in
          (λ x. not_new post both.0 (x ∙ post_is), λ x. not_partner post n both.0 e (x ∙ met_is), λ x. not_new met both.1 (x ∙ post_is), λ x. not_partner met n both.1 e (x ∙ met_is))
      by (inr (is, post_is, n, e, met_is)) (inl old') = absurd (omega (arith, early, is, told_within r.entries j _ old'.told))
      by (inr (is, post_is, n, e, met_is)) (inr (is', post_is', n', e', met_is')) = absurd (omega (arith, early, is, is'))

  -- the world after the new entry
  last_world : world_before setup entries' (length r.entries + 1) ≡ after
  last_world =
      ap (world_of setup) (ap (λ k. take k entries') (sym (length-append r.entries (entry ∷ []))) ∙ take_whole entries')
      ∙ ap (λ (x : Ran). x.world) (again' setup r task entry after h went)

  -- a posting of that world: the new one, or one that was there
  at_suc : (all : List Made) (number : ℕ) (made : Made) → posting_of all number ≡ Some made → (index : ℕ) × (number ≡ suc index) × (slice_get all index ≡ Some made)
  at_suc all zero made e = cc
  at_suc all (suc index) made e = (index, refl, e)

  old_posting : (number : ℕ) (send : Bool) (e : Posting) → IsPosting after number send e → number < length ps + 1 → OldPosting ps number send e
  old_posting number send e q early =
      let (index, counted, at) = at_suc (with_posting ps p) number q.made (ap (λ x. posting_of x number) (sym one.postings) ∙ q.at) in
      let (was, was_at) = get_there ps index (omega (arith, early, counted)) in
      record { index = index; counted = counted; was = was; at = was_at; is = sym (same_posting ps p index was q.made was_at at) ∙ q.is; side = q.side }

  new_posting : (number : ℕ) (send : Bool) (e : Posting) → IsPosting after number send e → number ≡ length ps + 1 → e ≡ p
  new_posting number send e q is =
      let (index, counted, at) = at_suc (with_posting ps p) number q.made (ap (λ x. posting_of x number) (sym one.postings) ∙ q.at) in
      let place : length ps ≡ index = omega (arith, is, counted) in
      sym q.is ∙ ap (λ (m : Made). m.posting) (some_made _ _ (sym at ∙ ap (slice_get (with_posting ps p)) (sym place) ∙ with_posting-made ps p))
    where
      some_made : (a b : Made) → Some a ≡ Some b → a ≡ b
      some_made a b e' = cc

  -- a posting that was there was matched before, since it cannot have been unmatched
  before_of : (number : ℕ) (send : Bool) (e : Posting) (o : OldPosting ps number send e) → (o.was.met ≡ None → ⊥) → IsMatchedBefore entries' (length r.entries) number
  before_of number send e o never =
      let (index, post, met, words, m, which) = h.known number (record { index = o.index; counted = o.counted; made = o.was; at = o.at; met = never }) in
      (index, post, met, words, told_within r.entries index _ m.told, match_lift r.entries entry index post met words m, which)

  -- where the new entry matched a send and a receive, the earlier send of the same sender was matched before
  new_sends : (post met send recv earlier : ℕ) (s' r' e : Posting) → post ≡ length ps + 1 → (n : ℕ) → partner_of ps p ≡ Some n → met ≡ n → AreOf post met send recv
      → IsPosting after send true s' → IsPosting after recv false r' → earlier < send → IsPosting after earlier true e → Fits r' e → IsMatchedBefore entries' (length r.entries) earlier
  new_sends post met send recv earlier s' r' e post_is n partner met_is (inl of) ps' pr before pe fit =
      let was = was_open ps p n partner in
      let o = old_posting earlier true e pe (omega (arith, before, of.0, post_is)) in
      let q = old_posting recv false r' pr (omega (arith, of.1, met_is, was.counted, slice_get_within ps was.index was.made was.at)) in
      before_of earlier true e o (λ none.
      let place : q.index ≡ was.index = omega (arith, q.counted, of.1, met_is, was.counted) in
      let open' : q.was.met ≡ None = ap (λ (m : Made). m.met) (some_made _ _ (sym q.at ∙ ap (slice_get ps) place ∙ was.at)) ∙ was.open' in
      true_false (sym (ap (λ x. is_match x o.was.posting) q.is ∙ ap (is_match r') o.is ∙ match_of r' e q.side o.side fit) ∙ h.settled q.index o.index q.was o.was q.at o.at open' none))
    where
      some_made : (a b : Made) → Some a ≡ Some b → a ≡ b
      some_made a b e' = cc
  new_sends post met send recv earlier s' r' e post_is n partner met_is (inr of) ps' pr before pe fit =
      let was = was_open ps p n partner in
      let o = old_posting earlier true e pe (omega (arith, before, of.1, met_is, was.counted, slice_get_within ps was.index was.made was.at)) in
      let r_is : r' ≡ p = new_posting recv false r' pr (sym of.0 ∙ post_is) in
      before_of earlier true e o (λ none.
      let first = was.first o.index o.was (omega (arith, o.counted, before, of.1, met_is, was.counted)) o.at in
      true_false (sym (ap (λ x. is_none x && is_match p o.was.posting) none ∙ ap (is_match p) o.is ∙ ap (λ x. is_match x e) (sym r_is) ∙ match_of r' e pr.side o.side fit) ∙ first))

  -- and so was the earlier receive of the same receiver
  new_receives : (post met send recv earlier : ℕ) (s' r' e : Posting) → post ≡ length ps + 1 → (n : ℕ) → partner_of ps p ≡ Some n → met ≡ n → AreOf post met send recv
      → IsPosting after send true s' → IsPosting after recv false r' → earlier < recv → IsPosting after earlier false e → Fits e s' → IsMatchedBefore entries' (length r.entries) earlier
  new_receives post met send recv earlier s' r' e post_is n partner met_is (inl of) ps' pr before pe fit =
      let was = was_open ps p n partner in
      let o = old_posting earlier false e pe (omega (arith, before, of.1, met_is, was.counted, slice_get_within ps was.index was.made was.at)) in
      let s_is : s' ≡ p = new_posting send true s' ps' (sym of.0 ∙ post_is) in
      before_of earlier false e o (λ none.
      let first = was.first o.index o.was (omega (arith, o.counted, before, of.1, met_is, was.counted)) o.at in
      true_false (sym (ap (λ x. is_none x && is_match p o.was.posting) none ∙ ap (is_match p) o.is ∙ ap (λ x. is_match x e) (sym s_is) ∙ match_from s' e ps'.side o.side fit) ∙ first))
  new_receives post met send recv earlier s' r' e post_is n partner met_is (inr of) ps' pr before pe fit =
      let was = was_open ps p n partner in
      let o = old_posting earlier false e pe (omega (arith, before, of.0, post_is)) in
      let q = old_posting send true s' ps' (omega (arith, of.1, met_is, was.counted, slice_get_within ps was.index was.made was.at)) in
      before_of earlier false e o (λ none.
      let place : q.index ≡ was.index = omega (arith, q.counted, of.1, met_is, was.counted) in
      let open' : q.was.met ≡ None = ap (λ (m : Made). m.met) (some_made _ _ (sym q.at ∙ ap (slice_get ps) place ∙ was.at)) ∙ was.open' in
      true_false (sym (ap (λ x. is_match x q.was.posting) o.is ∙ ap (is_match e) q.is ∙ match_of e s' o.side q.side fit) ∙ h.settled o.index q.index o.was q.was o.at q.at none open'))
    where
      some_made : (a b : Made) → Some a ≡ Some b → a ≡ b
      some_made a b e' = cc

  at_last : (number : ℕ) (send : Bool) (q : Posting) (index : ℕ) → index ≡ length r.entries → IsPosting (world_before setup entries' (index + 1)) number send q → IsPosting after number send q
  at_last number send q index is x = subst (λ (w : World). IsPosting w number send q) (ap (λ k. world_before setup entries' (k + 1)) is ∙ last_world) x

  sends_by : (index post met words send recv earlier : ℕ) (s' r' e : Posting) → IsMatch r.entries index post met words ⊎ NewMatch index post met → AreOf post met send recv
      → IsPosting (world_before setup entries' (index + 1)) send true s' → IsPosting (world_before setup entries' (index + 1)) recv false r'
      → earlier < send → IsPosting (world_before setup entries' (index + 1)) earlier true e → e.task ≡ s'.task → Fits r' e → IsMatchedBefore entries' index earlier
  sends_by index post met words send recv earlier s' r' e (inl old) of ps' pr before pe by fit =
      old_sends setup r task entry after h went index post met words send recv earlier s' r' e old of ps' pr before pe by fit
  sends_by index post met words send recv earlier s' r' e (inr (is, post_is, n, partner, met_is)) of ps' pr before pe by fit =
      subst (λ k. IsMatchedBefore entries' k earlier) (sym is)
      (new_sends post met send recv earlier s' r' e post_is n partner met_is of (at_last send true s' index is ps') (at_last recv false r' index is pr) before (at_last earlier true e index is pe) fit)

  receives_by : (index post met words send recv earlier : ℕ) (s' r' e : Posting) → IsMatch r.entries index post met words ⊎ NewMatch index post met → AreOf post met send recv
      → IsPosting (world_before setup entries' (index + 1)) send true s' → IsPosting (world_before setup entries' (index + 1)) recv false r'
      → earlier < recv → IsPosting (world_before setup entries' (index + 1)) earlier false e → e.task ≡ r'.task → Fits e s' → IsMatchedBefore entries' index earlier
  receives_by index post met words send recv earlier s' r' e (inl old) of ps' pr before pe by fit =
      old_receives setup r task entry after h went index post met words send recv earlier s' r' e old of ps' pr before pe by fit
  receives_by index post met words send recv earlier s' r' e (inr (is, post_is, n, partner, met_is)) of ps' pr before pe by fit =
      subst (λ k. IsMatchedBefore entries' k earlier) (sym is)
      (new_receives post met send recv earlier s' r' e post_is n partner met_is of (at_last send true s' index is ps') (at_last recv false r' index is pr) before (at_last earlier false e index is pe) fit)

  fair' : Unovertaken setup entries'
  fair' = record {
    sends = λ index post met words send recv earlier s' r' e m of ps' pr before pe by fit. sends_by index post met words send recv earlier s' r' e (match_new index post met words m) of ps' pr before pe by fit;
    receives = λ index post met words send recv earlier s' r' e m of ps' pr before pe by fit. receives_by index post met words send recv earlier s' r' e (match_new index post met words m) of ps' pr before pe by fit;
  }

  posted : Matched setup (record { entries = entries'; world = after })
  posted = record {
    again = again' setup r task entry after h went;
    settled = subst IsSettled (sym one.postings) (IsSettled-with_posting ps p h.settled);
    pairs = pairs';
    known = known';
    once = once';
    fair = fair';
  }

matched_step : (setup : Setup) (r : Ran) (task : ℕ) (entry : Entry) (after : World) → Matched setup r → go setup r.world task ≡ Makes entry after → Matched setup (record { entries = r.entries ++ entry ∷ []; world = after })
matched_step setup r task entry after h went = by (step_posts (step_is setup r.world task entry after went))
  where
    by : StepPosts r.world.core after.core entry.out → Matched setup (record { entries = r.entries ++ entry ∷ []; world = after })
    by (inl none) = quiet setup r task entry after h went none.0 none.1
    by (inr one) = posted setup r task entry after h went one

pub matched : (setup : Setup) (order : List ℕ) → Matched setup (run setup order)
matched setup order = run_keeps setup (Matched setup) (matched_start setup) (matched_step setup) order
