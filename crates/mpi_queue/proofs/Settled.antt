-- Where no two unmatched postings could meet, none can behind a further posting.
use Rattle.std.proofs.Common.{◌≡◌, ◌⊎◌, inl, inr, ℕ, ◌+◌, Bool, true, false, ◌==◌, cond, List, ◌∷◌, [], ◌++◌, length, map, refl, ap, sym, ◌∙◌, zero, suc}
use Rattle.std.specs.Prelude.{Option, Some, None, slice_get}
use Rattle.std.specs.List.{enumerate_from}
use Rattle.mpi_queue.specs.declared.postings.Posting.{Posting}
use Rattle.mpi_queue.specs.Fits.{is_match}
use Rattle.mpi_queue.specs.History.{Made, is_open_to, partner_of, with_partner, made_with, with_posting, IsSettled}
use Rattle.mpi_queue.proofs.Partners.{partner_of-None}
use Rattle.mpi_queue.proofs.Histories.{marked}
use Rattle.mpi_queue.proofs.Fitting.{is_match-mutual, is_match-itself}

-- the element stood there before, or is the new one
slice_get-push : (xs : List Made) (y : Made) (k : ℕ) (a : Made) → slice_get (xs ++ y ∷ []) k ≡ Some a → (slice_get xs k ≡ Some a) ⊎ (y ≡ a)
slice_get-push [] y zero a got = inr (cc)
slice_get-push [] y (suc k) a got = let no : ⊥ = cc in absurd no
slice_get-push (x ∷ xs) y zero a got = inl got
slice_get-push (x ∷ xs) y (suc k) a got = slice_get-push xs y k a got

marked_open : (n k b : ℕ) (x a : Made) (c : Bool) → cond c (record x { met = Some k }) x ≡ a → a.met ≡ None → x ≡ a
marked_open n k b x a true got open_ = let e : (let m : Made = record x { met = Some k } in m.met) ≡ a.met = ap (λ (m : Made). m.met) got in let no : ⊥ = cc in absurd no
marked_open n k b x a false got open_ = got

-- what is unmatched was so before
slice_get-marked : (n k b : ℕ) (xs : List Made) (i : ℕ) (a : Made) → slice_get (map (marked n k) (enumerate_from b xs)) i ≡ Some a → a.met ≡ None → slice_get xs i ≡ Some a
slice_get-marked n k b [] i a got unmatched = got
slice_get-marked n k b (x ∷ xs) zero a got unmatched =
    ap (λ m. Some m) (marked_open n k b x a (b == n) (let e : marked n k (b, x) ≡ a = cc in e) unmatched)
slice_get-marked n k b (x ∷ xs) (suc i) a got unmatched = slice_get-marked n k (b + 1) xs i a got unmatched

-- what is unmatched behind a posting with a partner was unmatched before
matched_old : (all : List Made) (p : Posting) (n : ℕ) (i : ℕ) (a : Made) → slice_get (made_with all p (Some n)) i ≡ Some a → a.met ≡ None → slice_get all i ≡ Some a
matched_old all p n i a got unmatched =
    elim (slice_get-push (with_partner all n (length all + 1)) (record { posting = p; met = Some n }) i a got) [
      | inl old ↦ slice_get-marked n (length all + 1) 1 all i a old unmatched
      | inr new ↦ let e : Some n ≡ a.met = ap (λ (m : Made). m.met) new in let no : ⊥ = cc in absurd no
    ]

-- an unmatched posting to which nothing is open
unmatched_apart : (p : Posting) (a : Made) → is_open_to p a ≡ false → a.met ≡ None → is_match p a.posting ≡ false
unmatched_apart p a closed unmatched = rw unmatched at closed

settled_with : (all : List Made) (p : Posting) (met : Option ℕ) → partner_of all p ≡ met → IsSettled all → IsSettled (made_with all p met)
settled_with all p (Some n) is settled i j a b got_a got_b open_a open_b =
    settled i j a b (matched_old all p n i a got_a open_a) (matched_old all p n j b got_b open_b) open_a open_b
settled_with all p None is settled i j a b got_a got_b open_a open_b =
    elim (slice_get-push all (record { posting = p; met = None }) i a got_a) [
      | inl old_a ↦ elim (slice_get-push all (record { posting = p; met = None }) j b got_b) [
        | inl old_b ↦ settled i j a b old_a old_b open_a open_b
        | inr new_b ↦ is_match-mutual a.posting b.posting ∙ (ap (λ (m : Made). is_match m.posting a.posting) (sym new_b) ∙ unmatched_apart p a (partner_of-None all p is i a old_a) open_a)
      ]
      | inr new_a ↦ elim (slice_get-push all (record { posting = p; met = None }) j b got_b) [
        | inl old_b ↦ ap (λ (m : Made). is_match m.posting b.posting) (sym new_a) ∙ unmatched_apart p b (partner_of-None all p is j b old_b) open_b
        | inr new_b ↦ ap (λ (m : Made). is_match m.posting b.posting) (sym new_a) ∙ (ap (λ (m : Made). is_match p m.posting) (sym new_b) ∙ is_match-itself p)
      ]
    ]

pub IsSettled-none : IsSettled []
IsSettled-none i j a b got_a = let no : ⊥ = cc in absurd no

pub IsSettled-with_posting : (all : List Made) (p : Posting) → IsSettled all → IsSettled (with_posting all p)
unfolding with_posting
IsSettled-with_posting all p settled = settled_with all p (partner_of all p) refl settled
