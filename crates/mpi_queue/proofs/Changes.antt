-- What a posting changes in the list of all postings.
use Rattle.std.proofs.Common.{◌≡◌, ◌≢◌, ℕ, ◌+◌, ◌-◌, ◌<◌, true, false, ◌==◌, List, ◌∷◌, [], ◌++◌, length, map, refl, ap, sym, ◌∙◌, arith, zero, suc}
use Rattle.std.specs.Prelude.{Option, Some, None, slice_get}
use Rattle.std.specs.Option.{option_map}
use Rattle.std.specs.List.{enumerate_from}
use Rattle.std.proofs.lemmas.Bool.Decides.{nat_tests}
use Rattle.mpi_queue.specs.declared.postings.Posting.{Posting}
use Rattle.mpi_queue.specs.History.{Made, partner_of, with_partner, made_with, with_posting}
use Rattle.mpi_queue.proofs.Partners.{partner_of-IsPartner}
use Rattle.mpi_queue.proofs.Histories.{marked, length-with_partner}

slice_get-append : (xs ys : List Made) (k : ℕ) (a : Made) → slice_get xs k ≡ Some a → slice_get (xs ++ ys) k ≡ Some a
slice_get-append [] ys k a got = let no : ⊥ = cc in absurd no
slice_get-append (x ∷ xs) ys zero a got = got
slice_get-append (x ∷ xs) ys (suc k) a got = slice_get-append xs ys k a got

slice_get-last : (xs : List Made) (y : Made) → slice_get (xs ++ y ∷ []) (length xs) ≡ Some y
slice_get-last [] y = refl
slice_get-last (x ∷ xs) y = slice_get-last xs y

-- the element at a place of the marked list
slice_get-marked : (n k b : ℕ) (xs : List Made) (i : ℕ) → slice_get (map (marked n k) (enumerate_from b xs)) i ≡ option_map (λ m. marked n k (b + i, m)) (slice_get xs i)
slice_get-marked n k b [] i = refl
slice_get-marked n k b (x ∷ xs) zero = ap (λ c. Some (marked n k (c, x))) (omega arith)
slice_get-marked n k b (x ∷ xs) (suc i) =
    slice_get-marked n k (b + 1) xs i ∙ ap (λ c. option_map (λ m. marked n k (c, m)) (slice_get xs i)) (omega arith)

marked_same : (n k c : ℕ) (m : Made) → c ≡ n → marked n k (c, m) ≡ record m { met = Some k }
marked_same n k c m e = let is : (c == n) ≡ true = grind (arith, nat_tests) in rw is refl

marked_other : (n k c : ℕ) (m : Made) → c ≢ n → marked n k (c, m) ≡ m
marked_other n k c m e = let is : (c == n) ≡ false = grind (arith, nat_tests) in rw is refl

made_at_end : (all : List Made) (p : Posting) (met : Option ℕ) → slice_get (made_with all p met) (length all) ≡ Some (record { posting = p; met = met })
made_at_end all p (Some n) =
    ap (slice_get (made_with all p (Some n))) (sym (length-with_partner all n (length all + 1)))
    ∙ slice_get-last (with_partner all n (length all + 1)) (record { posting = p; met = Some n })
made_at_end all p None = slice_get-last all (record { posting = p; met = None })

-- the new posting stands behind all others
pub with_posting-made : (all : List Made) (p : Posting) → slice_get (with_posting all p) (length all) ≡ Some (record { posting = p; met = partner_of all p })
unfolding with_posting
with_posting-made all p = made_at_end all p (partner_of all p)

joined_at : (all : List Made) (p : Posting) (n : ℕ) (m : Made) → 0 < n → slice_get all (n - 1) ≡ Some m → slice_get (made_with all p (Some n)) (n - 1) ≡ Some (record m { met = Some (length all + 1) })
joined_at all p n m counted got =
    slice_get-append (with_partner all n (length all + 1)) (record { posting = p; met = Some n } ∷ []) (n - 1) (record m { met = Some (length all + 1) })
    (slice_get-marked n (length all + 1) 1 all (n - 1)
    ∙ (ap (option_map (λ e. marked n (length all + 1) (1 + (n - 1), e))) got
    ∙ ap (λ e. Some e) (marked_same n (length all + 1) (1 + (n - 1)) m (omega arith))))

-- the partner has the new posting as its partner
pub with_posting-joined : (all : List Made) (p : Posting) (n : ℕ) (m : Made) → partner_of all p ≡ Some n → slice_get all (n - 1) ≡ Some m → slice_get (with_posting all p) (n - 1) ≡ Some (record m { met = Some (length all + 1) })
unfolding with_posting
with_posting-joined all p n m is got =
    ap (λ met. slice_get (made_with all p met) (n - 1)) is ∙ joined_at all p n m (partner_of-IsPartner all p n is).counted got

kept_at : (all : List Made) (p : Posting) (met : Option ℕ) (k : ℕ) (m : Made) → slice_get all k ≡ Some m → met ≢ Some (k + 1) → slice_get (made_with all p met) k ≡ Some m
kept_at all p (Some n) k m got other =
    slice_get-append (with_partner all n (length all + 1)) (record { posting = p; met = Some n } ∷ []) k m
    (slice_get-marked n (length all + 1) 1 all k
    ∙ (ap (option_map (λ e. marked n (length all + 1) (1 + k, e))) got
    ∙ ap (λ e. Some e) (marked_other n (length all + 1) (1 + k) m (λ e. other (ap (λ i. Some i) (omega arith))))))
kept_at all p None k m got other = slice_get-append all (record { posting = p; met = None } ∷ []) k m got

-- no other posting changes
pub with_posting-others : (all : List Made) (p : Posting) (k : ℕ) (m : Made) → slice_get all k ≡ Some m → partner_of all p ≢ Some (k + 1) → slice_get (with_posting all p) k ≡ Some m
unfolding with_posting
with_posting-others all p k m got other = kept_at all p (partner_of all p) k m got other
