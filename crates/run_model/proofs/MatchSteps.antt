-- What a posting does to matched postings, and what entries tell with one more.
use Rattle.std.proofs.Common.{◌≡◌, ◌≢◌, ◌⊎◌, inl, inr, ◌<◌, ◌≤◌, ◌+◌, ◌-◌, ◌==◌, ◌&&◌, ℕ, zero, suc, Bool, true, false, IsTrue, IsSomeAnd, is_none, List, [], ◌∷◌, ◌++◌, length, slice_get, Option, Some, None, option_and_then, refl, ap, sym, ◌∙◌, subst, length-append, arith}
use Rattle.std.proofs.lemmas.Bool.Decides.{eqb_tells}
use Rattle.std.proofs.lemmas.Option.{slice_get_within}
use Rattle.mpc_base.specs.declared.journals.Entry.{Entry}
use Rattle.mpi_queue.specs.declared.postings.Posting.{Posting}
use Rattle.mpi_queue.specs.Fits.{is_match}
use Rattle.mpi_queue.specs.History.{Made, is_open_to, partner_of, with_posting}
use Rattle.mpi_queue.proofs.Partners.{partner_of-IsPartner}
use Rattle.mpi_queue.proofs.Changes.{with_posting-made, with_posting-joined, with_posting-others}
use Rattle.mpi_request.specs.Messages.{posting_of}
use Rattle.run_model.specs.Matches.{Told, told_in, told_at, IsMatch}
use Rattle.run_model.proofs.Lists.{get_before}
use Rattle.run_model.proofs.LeavingMessages.{get_last, get_there, length-with_posting}

-- the posting of a number is matched
pub record IsMet (postings : List Made) (number : ℕ) : Type 0 where
  pub index : ℕ
  pub counted : number ≡ suc index
  pub made : Made
  pub at : slice_get postings index ≡ Some made
  pub met : made.met ≢ None

some_not_none : (n : ℕ) → Some n ≢ None
some_not_none n h = cc

-- a matched posting stays matched
pub met_stays : (all : List Made) (p : Posting) (number : ℕ) → IsMet all number → IsMet (with_posting all p) number
met_stays all p number m = by (partner_of all p) refl
  where
    kept : partner_of all p ≢ Some (m.index + 1) → IsMet (with_posting all p) number
    kept apart = record { index = m.index; counted = m.counted; made = m.made; at = with_posting-others all p m.index m.made m.at apart; met = m.met }

    by : (met : Option ℕ) → partner_of all p ≡ met → IsMet (with_posting all p) number
    by None e = kept (λ h. never (sym e ∙ h))
      where
        never : None ≡ Some (m.index + 1) → ⊥
        never h = cc
    by (Some n) e = decide (eqb_tells n (m.index + 1))
      where
        same_number : (a b : ℕ) → Some a ≡ Some b → a ≡ b
        same_number a b h = cc

        decide : ((n == m.index + 1) ≡ true) × (n ≡ m.index + 1) ⊎ ((n == m.index + 1) ≡ false) × (n ≢ m.index + 1) → IsMet (with_posting all p) number
        decide (inl h) =
            let place : n - 1 ≡ m.index = omega (arith, h.1) in
            record {
              index = m.index;
              counted = m.counted;
              made = record m.made { met = Some (length all + 1) };
              at = ap (slice_get (with_posting all p)) (sym place) ∙ with_posting-joined all p n m.made e (ap (slice_get all) place ∙ m.at);
              met = some_not_none (length all + 1);
            }
        decide (inr h) = kept (λ h'. h.1 (same_number n (m.index + 1) (sym e ∙ h')))

-- the new posting, where it has a partner, and the partner are matched
pub new_met : (all : List Made) (p : Posting) (n : ℕ) → partner_of all p ≡ Some n → IsMet (with_posting all p) (length all + 1)
new_met all p n e = record {
  index = length all;
  counted = omega arith;
  made = record { posting = p; met = partner_of all p };
  at = with_posting-made all p;
  met = λ h. some_not_none n (sym e ∙ h);
}

-- The partner of a posting, as it was: unmatched.
pub record WasOpen (all : List Made) (p : Posting) (n : ℕ) : Type 0 where
  pub index : ℕ
  pub counted : n ≡ suc index
  pub made : Made
  pub at : slice_get all index ≡ Some made
  pub open' : made.met ≡ None
  pub fits : is_match p made.posting ≡ true
  pub first : (k : ℕ) (m : Made) → k < index → slice_get all k ≡ Some m → is_open_to p m ≡ false

pub partner_met : (all : List Made) (p : Posting) (n : ℕ) → partner_of all p ≡ Some n → WasOpen all p n → IsMet (with_posting all p) n
partner_met all p n e was =
    let place : n - 1 ≡ was.index = omega (arith, was.counted) in
    record {
      index = was.index;
      counted = was.counted;
      made = record was.made { met = Some (length all + 1) };
      at = ap (slice_get (with_posting all p)) (sym place) ∙ with_posting-joined all p n was.made e (ap (slice_get all) place ∙ was.at);
      met = some_not_none (length all + 1);
    }

found : (o : Option Made) (p : Posting) → IsSomeAnd o (λ m. IsTrue (is_open_to p m)) → (made : Made) × (o ≡ Some made) × (is_open_to p made ≡ true)
found None p h = absurd h
found (Some made) p h = (made, refl, h)

both_true : (a b : Bool) → (a && b) ≡ true → (a ≡ true) × (b ≡ true)
both_true true b h = (refl, h)
both_true false b h = cc

none_is : (o : Option ℕ) → is_none o ≡ true → o ≡ None
none_is None h = refl
none_is (Some n) h = cc

pub was_open : (all : List Made) (p : Posting) (n : ℕ) → partner_of all p ≡ Some n → WasOpen all p n
was_open all p n e =
    let is = partner_of-IsPartner all p n e in
    let (made, at, open') = found (slice_get all (n - 1)) p is.meets in
    let both = both_true (is_none made.met) (is_match p made.posting) open' in
    record {
      index = n - 1;
      counted = omega (arith, is.counted);
      made = made;
      at = at;
      open' = none_is made.met both.0;
      fits = both.1;
      first = λ k m early got. is.first k m (omega (arith, early, is.counted)) got;
    }

-- a posting that is matched after one more was matched before, or is the new one or its partner
pub met_before : (all : List Made) (p : Posting) (number : ℕ) → IsMet (with_posting all p) number
    → IsMet all number ⊎ ((n : ℕ) × (partner_of all p ≡ Some n) × ((length all + 1 ≡ number) ⊎ (n ≡ number)))
met_before all p number m = place (eqb_tells m.index (length all))
  where
    some_made : (a b : Made) → Some a ≡ Some b → a ≡ b
    some_made a b h = cc

    partner_is : (met : Option ℕ) → partner_of all p ≡ met → met ≢ None → (n : ℕ) × (partner_of all p ≡ Some n)
    partner_is None e h = absurd (h refl)
    partner_is (Some n) e h = (n, e)

    new' : m.index ≡ length all → IsMet all number ⊎ ((n : ℕ) × (partner_of all p ≡ Some n) × ((length all + 1 ≡ number) ⊎ (n ≡ number)))
    new' is =
        let made_is : record { posting = p; met = partner_of all p } ≡ m.made = some_made _ _ (sym (with_posting-made all p) ∙ ap (slice_get (with_posting all p)) (sym is) ∙ m.at) in
        let (n, e) = partner_is (partner_of all p) refl (λ h. m.met (ap (λ (x : Made). x.met) (sym made_is) ∙ h)) in
        inr (n, e, inl (omega (arith, is, m.counted)))

    old : m.index ≢ length all → IsMet all number ⊎ ((n : ℕ) × (partner_of all p ≡ Some n) × ((length all + 1 ≡ number) ⊎ (n ≡ number)))
    old other =
        let within : m.index < length (with_posting all p) = slice_get_within (with_posting all p) m.index m.made m.at in
        let (was, at) = get_there all m.index (omega (arith, within, length-with_posting all p, other)) in
        by was at (partner_of all p) refl
      where
        by : (was : Made) → slice_get all m.index ≡ Some was → (met : Option ℕ) → partner_of all p ≡ met → IsMet all number ⊎ ((n : ℕ) × (partner_of all p ≡ Some n) × ((length all + 1 ≡ number) ⊎ (n ≡ number)))
        by was at met e = decide met e
          where
            kept : partner_of all p ≢ Some (m.index + 1) → IsMet all number
            kept apart =
                let same : was ≡ m.made = some_made was m.made (sym (with_posting-others all p m.index was at apart) ∙ m.at) in
                record { index = m.index; counted = m.counted; made = was; at = at; met = λ h. m.met (ap (λ (x : Made). x.met) (sym same) ∙ h) }

            decide : (met : Option ℕ) → partner_of all p ≡ met → IsMet all number ⊎ ((n : ℕ) × (partner_of all p ≡ Some n) × ((length all + 1 ≡ number) ⊎ (n ≡ number)))
            decide None e' = inl (kept (λ h. never (sym e' ∙ h)))
              where
                never : None ≡ Some (m.index + 1) → ⊥
                never h = cc
            decide (Some n) e' = which (eqb_tells n (m.index + 1))
              where
                same_number : (a b : ℕ) → Some a ≡ Some b → a ≡ b
                same_number a b h = cc

                which : ((n == m.index + 1) ≡ true) × (n ≡ m.index + 1) ⊎ ((n == m.index + 1) ≡ false) × (n ≢ m.index + 1) → IsMet all number ⊎ ((n : ℕ) × (partner_of all p ≡ Some n) × ((length all + 1 ≡ number) ⊎ (n ≡ number)))
                which (inl h) = inr (n, e', inr (omega (arith, h.1, m.counted)))
                which (inr h) = inl (kept (λ h'. h.1 (same_number n (m.index + 1) (sym e' ∙ h'))))

    place : ((m.index == length all) ≡ true) × (m.index ≡ length all) ⊎ ((m.index == length all) ≡ false) × (m.index ≢ length all) → IsMet all number ⊎ ((n : ℕ) × (partner_of all p ≡ Some n) × ((length all + 1 ≡ number) ⊎ (n ≡ number)))
    place (inl h) = new' h.1
    place (inr h) = old h.1

-- entries with one more
pub told_before : (entries : List Entry) (e : Entry) (index : ℕ) → index < length entries → told_at (entries ++ e ∷ []) index ≡ told_at entries index
told_before entries e index h = ap (option_and_then (λ (entry : Entry). told_in entry.out)) (get_before entries (e ∷ []) index h)

pub told_last : (entries : List Entry) (e : Entry) → told_at (entries ++ e ∷ []) (length entries) ≡ told_in e.out
told_last entries e = ap (option_and_then (λ (entry : Entry). told_in entry.out)) (get_last entries e)

pub told_within : (entries : List Entry) (index : ℕ) (t : Told) → told_at entries index ≡ Some t → index < length entries
told_within entries index t h = by (slice_get entries index) refl h
  where
    by : (o : Option Entry) → slice_get entries index ≡ o → option_and_then (λ (entry : Entry). told_in entry.out) o ≡ Some t → index < length entries
    by None e h' = cc
    by (Some entry) e h' = slice_get_within entries index entry e

pub match_lift : (entries : List Entry) (e : Entry) (index post met words : ℕ) → IsMatch entries index post met words → IsMatch (entries ++ e ∷ []) index post met words
match_lift entries e index post met words m = record {
  told = told_before entries e index (told_within entries index _ m.told) ∙ m.told;
  met_one = m.met_one;
}

pub match_split : (entries : List Entry) (e : Entry) (index post met words : ℕ) → IsMatch (entries ++ e ∷ []) index post met words
    → IsMatch entries index post met words ⊎ ((index ≡ length entries) × (told_in e.out ≡ Some (record { post = post; met = met; words = words })))
match_split entries e index post met words m = decide (eqb_tells index (length entries))
  where
    decide : ((index == length entries) ≡ true) × (index ≡ length entries) ⊎ ((index == length entries) ≡ false) × (index ≢ length entries)
        → IsMatch entries index post met words ⊎ ((index ≡ length entries) × (told_in e.out ≡ Some (record { post = post; met = met; words = words })))
    decide (inl h) = inr (h.1, sym (told_last entries e) ∙ ap (told_at (entries ++ e ∷ [])) (sym h.1) ∙ m.told)
    decide (inr h) =
        let within : index < length (entries ++ e ∷ []) = told_within (entries ++ e ∷ []) index _ m.told in
        let early : index < length entries = omega (arith, within, length-append entries (e ∷ []), h.1) in
        inl (record { told = sym (told_before entries e index early) ∙ m.told; met_one = m.met_one })
