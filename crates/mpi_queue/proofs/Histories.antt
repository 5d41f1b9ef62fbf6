-- A posting made over all postings is the queue's posting.
use Rattle.std.proofs.Common.{◌≡◌, ℕ, ◌+◌, Bool, true, false, ◌==◌, cond, List, ◌∷◌, [], ◌++◌, length, map, refl, ap, sym, ◌∙◌, arith, length-append, append-nil}
use Rattle.std.specs.Prelude.{Option, Some, None, filter, is_none}
use Rattle.std.specs.List.{enumerate_from}
use Rattle.std.proofs.lemmas.List.{map-append, length-map}
use Rattle.std.proofs.lemmas.List.Elements.{filter-append}
use Rattle.std.proofs.lemmas.List.FromFn.{length-enumerate_from}
use Rattle.mpi_queue.specs.declared.postings.Posting.{Posting}
use Rattle.mpi_queue.specs.Matching.{Matching, without, posted, posted_with}
use Rattle.mpi_queue.specs.History.{Made, numbered, partner_of, with_partner, made_with, with_posting, matching_of}
use Rattle.mpi_queue.proofs.Partners.{waits, shown, partner-matching_of}

-- the list with a further posting
enumerate_from-append : (b : ℕ) (xs ys : List Made) → enumerate_from b (xs ++ ys) ≡ enumerate_from b xs ++ enumerate_from (b + length xs) ys
enumerate_from-append b [] ys = ap (λ k. enumerate_from k ys) (omega arith)
enumerate_from-append b (x ∷ xs) ys =
    ap (λ es. (b, x) ∷ es) (enumerate_from-append (b + 1) xs ys ∙ ap (λ k. enumerate_from (b + 1) xs ++ enumerate_from k ys) (omega arith))

abbrev waiting_from : ℕ → List Made → List (ℕ × Posting)
waiting_from b all = map shown (filter waits (enumerate_from b all))

waiting_from-append : (b : ℕ) (xs ys : List Made) → waiting_from b (xs ++ ys) ≡ waiting_from b xs ++ waiting_from (b + length xs) ys
waiting_from-append b xs ys =
    ap (λ es. map shown (filter waits es)) (enumerate_from-append b xs ys)
    ∙ (ap (map shown) (filter-append waits (enumerate_from b xs) (enumerate_from (b + length xs) ys))
    ∙ map-append shown (filter waits (enumerate_from b xs)) (filter waits (enumerate_from (b + length xs) ys)))

-- a change that looks at the number, and at nothing before or behind
abbrev pub marked : ℕ → ℕ → ℕ × Made → Made
marked n k e = cond (e.0 == n) (record e.1 { met = Some k }) e.1

enumerate_from-marked : (n k b : ℕ) (xs : List Made)
    → enumerate_from b (map (marked n k) (enumerate_from b xs)) ≡ map (λ e. (e.0, marked n k e)) (enumerate_from b xs)
enumerate_from-marked n k b [] = refl
enumerate_from-marked n k b (x ∷ xs) = ap (λ es. (b, marked n k (b, x)) ∷ es) (enumerate_from-marked n k (b + 1) xs)

marked-front : (n k : ℕ) (e : ℕ × Made) (more rest : List (ℕ × Made)) (b c : Bool)
    → b ≡ is_none e.1.met → c ≡ (e.0 == n)
    → map shown more ≡ without (map shown rest) n
    → map shown (cond (waits (e.0, marked n k e)) ((e.0, marked n k e) ∷ more) more) ≡ without (map shown (cond (waits e) (e ∷ rest) rest)) n
marked-front n k e more rest false true ib ic h = rw (← ic, ← ib) h
marked-front n k e more rest false false ib ic h = rw (← ic, ← ib) h
marked-front n k e more rest true true ib ic h = rw (← ic, ← ib, ← ic) h
marked-front n k e more rest true false ib ic h = rw (← ic, ← ib, ← ic) (ap (λ ws. (e.0, e.1.posting) ∷ ws) h)

waiting-marked : (n k : ℕ) (es : List (ℕ × Made)) → map shown (filter waits (map (λ e. (e.0, marked n k e)) es)) ≡ without (map shown (filter waits es)) n
waiting-marked n k [] = refl
waiting-marked n k (e ∷ es) =
    marked-front n k e (filter waits (map (λ f. (f.0, marked n k f)) es)) (filter waits es) (is_none e.1.met) (e.0 == n) refl refl (waiting-marked n k es)

waiting_from-with_partner : (all : List Made) (n k : ℕ) → waiting_from 1 (with_partner all n k) ≡ without (waiting_from 1 all) n
waiting_from-with_partner all n k = ap (λ es. map shown (filter waits es)) (enumerate_from-marked n k 1 all) ∙ waiting-marked n k (numbered all)

pub length-with_partner : (all : List Made) (n k : ℕ) → length (with_partner all n k) ≡ length all
length-with_partner all n k = length-map (numbered all) (marked n k) ∙ length-enumerate_from 1 all

-- lists of one posting more
matched-behind : (xs : List Made) (p : Posting) (n : ℕ) → waiting_from 1 (xs ++ record { posting = p; met = Some n } ∷ []) ≡ waiting_from 1 xs
matched-behind xs p n = waiting_from-append 1 xs (record { posting = p; met = Some n } ∷ []) ∙ append-nil (waiting_from 1 xs)

unmatched-behind : (xs : List Made) (p : Posting) → waiting_from 1 (xs ++ record { posting = p; met = None } ∷ []) ≡ waiting_from 1 xs ++ (length xs + 1, p) ∷ []
unmatched-behind xs p =
    waiting_from-append 1 xs (record { posting = p; met = None } ∷ []) ∙ ap (λ n. waiting_from 1 xs ++ (n, p) ∷ []) (omega arith)

same_matching : (made made' : ℕ) (ws ws' : List (ℕ × Posting)) → made ≡ made' → ws ≡ ws'
    → let q : Matching = record { made = made; waiting = ws } in q ≡ record { made = made'; waiting = ws' }
same_matching made made' ws ws' e f = cc

made_with-matching_of : (all : List Made) (p : Posting) (met : Option ℕ) → posted_with (matching_of all) p met ≡ matching_of (made_with all p met)
made_with-matching_of all p (Some n) =
    same_matching _ _ _ _
    (sym (length-append (with_partner all n (length all + 1)) (record { posting = p; met = Some n } ∷ []) ∙ ap (λ k. k + 1) (length-with_partner all n (length all + 1))))
    (sym (matched-behind (with_partner all n (length all + 1)) p n ∙ waiting_from-with_partner all n (length all + 1)))
made_with-matching_of all p None =
    same_matching _ _ _ _
    (sym (length-append all (record { posting = p; met = None } ∷ [])))
    (sym (unmatched-behind all p))

-- the queue after a posting
pub posted-matching_of : (all : List Made) (p : Posting) → posted (matching_of all) p ≡ matching_of (with_posting all p)
unfolding posted with_posting
posted-matching_of all p =
    ap (posted_with (matching_of all) p) (partner-matching_of all p) ∙ made_with-matching_of all p (partner_of all p)
