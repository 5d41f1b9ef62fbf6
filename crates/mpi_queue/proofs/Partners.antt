-- The partner over all postings: it is the one that the queue finds, and the first of those that are open.
use Rattle.std.proofs.Common.{◌≡◌, ℕ, ◌+◌, ◌-◌, ◌<◌, Bool, true, false, ◌&&◌, cond, List, ◌∷◌, [], map, refl, sym, arith, subst, zero, suc}
use Rattle.std.specs.Prelude.{Option, Some, None, find, filter, slice_get, is_none}
use Rattle.std.specs.Option.{option_map}
use Rattle.std.specs.List.{enumerate_from}
use Rattle.mpi_queue.specs.declared.postings.Posting.{Posting}
use Rattle.mpi_queue.specs.Fits.{is_match}
use Rattle.mpi_queue.specs.Matching.{partner}
use Rattle.mpi_queue.specs.History.{Made, numbered, is_open_to, partner_of, matching_of, IsPartner}

abbrev pub waits : ℕ × Made → Bool
waits e = is_none e.1.met

abbrev pub shown : ℕ × Made → ℕ × Posting
shown e = (e.0, e.1.posting)

-- one posting more in front of both
partner-front : (p : Posting) (e : ℕ × Made) (rest : List (ℕ × Made)) (found : Option (ℕ × Made)) (b c : Bool)
    → c ≡ is_match p e.1.posting
    → partner (map shown rest) p ≡ option_map (λ f. f.0) found
    → partner (map shown (cond b (e ∷ rest) rest)) p ≡ option_map (λ f. f.0) (cond (b && is_match p e.1.posting) (Some e) found)
unfolding partner
partner-front p e rest found false c is h = h
partner-front p e rest found true true is h = rw (← is) refl
partner-front p e rest found true false is h = rw (← is) h

partner-shown : (p : Posting) (es : List (ℕ × Made)) → partner (map shown (filter waits es)) p ≡ option_map (λ f. f.0) (find (λ e. is_open_to p e.1) es)
unfolding partner
partner-shown p [] = refl
partner-shown p (e ∷ es) = partner-front p e (filter waits es) (find (λ f. is_open_to p f.1) es) (waits e) (is_match p e.1.posting) refl (partner-shown p es)

-- the queue finds the partner
pub partner-matching_of : (all : List Made) (p : Posting) → partner (matching_of all).waiting p ≡ partner_of all p
unfolding partner_of
partner-matching_of all p = partner-shown p (numbered all)

-- where an element is found: its place, and that none before passes
record FoundAt (t : Made → Bool) (b : ℕ) (all : List Made) (e : ℕ × Made) : Type 0 where
  place : ℕ
  number : e.0 ≡ b + place
  there : slice_get all place ≡ Some e.1
  passes : t e.1 ≡ true
  first : (k : ℕ) (m : Made) → k < place → slice_get all k ≡ Some m → t m ≡ false

found_here : (t : Made → Bool) (b : ℕ) (x : Made) (xs : List Made) (e : ℕ × Made) → t x ≡ true → let f : ℕ × Made = (b, x) in f ≡ e → FoundAt t b (x ∷ xs) e
found_here t b x xs e is same = subst (FoundAt t b (x ∷ xs)) same (record {
  place = 0;
  number = omega arith;
  there = refl;
  passes = is;
  first = λ k m h got. absurd (omega arith);
})

first_later : (t : Made → Bool) (x : Made) (xs : List Made) (place : ℕ) → t x ≡ false
    → ((k : ℕ) (m : Made) → k < place → slice_get xs k ≡ Some m → t m ≡ false)
    → (k : ℕ) (m : Made) → k < suc place → slice_get (x ∷ xs) k ≡ Some m → t m ≡ false
first_later t x xs place is later zero m h got = let same : x ≡ m = cc in subst (λ y. t y ≡ false) same is
first_later t x xs place is later (suc k) m h got = later k m (omega arith) got

found_later : (t : Made → Bool) (b : ℕ) (x : Made) (xs : List Made) (e : ℕ × Made) → t x ≡ false → FoundAt t (b + 1) xs e → FoundAt t b (x ∷ xs) e
found_later t b x xs e is f = record {
  place = suc f.place;
  number = let n : e.0 ≡ b + 1 + f.place = f.number in omega arith;
  there = f.there;
  passes = f.passes;
  first = first_later t x xs f.place is f.first;
}

found-front : (t : Made → Bool) (b : ℕ) (x : Made) (xs : List Made) (e : ℕ × Made) (found : Option (ℕ × Made)) (c : Bool) → c ≡ t x
    → (found ≡ Some e → FoundAt t (b + 1) xs e)
    → cond c (Some (b, x)) found ≡ Some e → FoundAt t b (x ∷ xs) e
found-front t b x xs e found true is later got = found_here t b x xs e (sym is) (cc)
found-front t b x xs e found false is later got = found_later t b x xs e (sym is) (later got)

found_at : (t : Made → Bool) (b : ℕ) (all : List Made) (e : ℕ × Made) → find (λ f. t f.1) (enumerate_from b all) ≡ Some e → FoundAt t b all e
found_at t b [] e got = let no : ⊥ = cc in absurd no
found_at t b (x ∷ xs) e got = found-front t b x xs e (find (λ f. t f.1) (enumerate_from (b + 1) xs)) (t x) refl (found_at t (b + 1) xs e) got

none-front : (t : Made → Bool) (b : ℕ) (x : Made) (xs : List Made) (found : Option (ℕ × Made)) (c : Bool) → c ≡ t x
    → (found ≡ None → (k : ℕ) (m : Made) → slice_get xs k ≡ Some m → t m ≡ false)
    → cond c (Some (b, x)) found ≡ None → (k : ℕ) (m : Made) → slice_get (x ∷ xs) k ≡ Some m → t m ≡ false
none-front t b x xs found true is later got k m there = let no : ⊥ = cc in absurd no
none-front t b x xs found false is later got zero m there = let same : x ≡ m = cc in subst (λ y. t y ≡ false) same (sym is)
none-front t b x xs found false is later got (suc k) m there = later got k m there

none_at : (t : Made → Bool) (b : ℕ) (all : List Made) → find (λ f. t f.1) (enumerate_from b all) ≡ None → (k : ℕ) (m : Made) → slice_get all k ≡ Some m → t m ≡ false
none_at t b [] got = λ k m there. let no : ⊥ = cc in absurd no
none_at t b (x ∷ xs) got = none-front t b x xs (find (λ f. t f.1) (enumerate_from (b + 1) xs)) (t x) refl (none_at t (b + 1) xs) got

-- from a number back to the element
partner-found : (all : List Made) (p : Posting) (n : ℕ) (found : Option (ℕ × Made))
    → ((e : ℕ × Made) → found ≡ Some e → FoundAt (is_open_to p) 1 all e)
    → option_map (λ f. f.0) found ≡ Some n → IsPartner all p n
partner-found all p n None at got = let no : ⊥ = cc in absurd no
partner-found all p n (Some e) at got =
    let f : FoundAt (is_open_to p) 1 all e = at e refl in
    let same : e.0 ≡ n = cc in
    let place : n - 1 ≡ f.place = omega (arith, f.number, same) in
    record {
      counted = omega (arith, f.number, same);
      meets = rw (place, f.there) f.passes;
      first = λ k m h got. f.first k m (omega (arith, f.number, same)) got;
    }

-- the partner is unmatched, of the other kind and fits, and none before it does
pub partner_of-IsPartner : (all : List Made) (p : Posting) (n : ℕ) → partner_of all p ≡ Some n → IsPartner all p n
unfolding partner_of
partner_of-IsPartner all p n got = partner-found all p n (find (λ f. is_open_to p f.1) (numbered all)) (found_at (is_open_to p) 1 all) got

none-found : (found : Option (ℕ × Made)) → option_map {T = ℕ × Made} {U = ℕ} (λ f. f.0) found ≡ None → found ≡ None
none-found None got = refl
none-found (Some e) got = cc

-- no partner: no posting is open to this one
pub partner_of-None : (all : List Made) (p : Posting) → partner_of all p ≡ None → (k : ℕ) (m : Made) → slice_get all k ≡ Some m → is_open_to p m ≡ false
unfolding partner_of
partner_of-None all p got = none_at (is_open_to p) 1 all (none-found (find (λ f. is_open_to p f.1) (numbered all)) got)
