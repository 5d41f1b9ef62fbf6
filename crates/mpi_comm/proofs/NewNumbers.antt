-- Which numbers a meeting gives, and that nothing later changes them.
use Rattle.std.proofs.Common.{◌≡◌, ◌≢◌, ◌⊎◌, inl, inr, ℕ, ◌+◌, ◌<◌, zero, suc, Bool, true, false, cond, not, ◌&&◌, ◌||◌, ◌==◌, List, [], ◌∷◌, ◌++◌, length, map, refl, sym, ap, ◌∙◌, arith}
use Rattle.std.specs.Prelude.{Option, Some, None, find, slice_get, slice_set, position, nat_lt}
use Rattle.std.specs.List.{list_any, enumerate_from, position_or_len}
use Rattle.std.proofs.lemmas.Bool.Decides.{eqb_tells, same_from_decides, Decides-like, Decides-ltb}
use Rattle.mpi_comm.specs.declared.communicators.Communicator.{Communicator}
use Rattle.mpi_comm.specs.Splitting.{Chosen, groups_of}
use Rattle.mpi_comm.specs.Making.{made_by, with_dup, with_split, freed_at, freed, is_new_of, number_found, new_comm}
use Rattle.mpi_comm.proofs.Colours.{test_same}
use Rattle.mpi_comm.specs.Numbers.{number_from, number_in, is_made_by, NoneMadeBy}

abbrev has_task : ℕ → List ℕ → Bool
has_task task group = list_any (λ member. member == task) group

abbrev is_new : ℕ → ℕ → ℕ → ℕ × Communicator → Bool
is_new task parent meeting c = is_new_of task parent meeting c.1

-- a communicator of another meeting is not the member's
not_new : (task parent meeting : ℕ) (c : Communicator) → is_made_by parent meeting c ≡ false → is_new_of task parent meeting c ≡ false
not_new task parent meeting c = by (c.parent == parent) (c.meeting == meeting) (has_task task c.members)
  where
    by : (a b r : Bool) → (a && b) ≡ false → (a && (b && r)) ≡ false
    by true true r e = let no : true ≡ false = e in absurd (cc)
    by true false r e = refl
    by false b r e = refl

or_false : (a b : Bool) → (a || b) ≡ false → (a ≡ false) × (b ≡ false)
or_false true b e = let no : true ≡ false = e in absurd (cc)
or_false false b e = (refl, e)

find_none : (task parent meeting b : ℕ) (xs : List Communicator) → NoneMadeBy xs parent meeting → find (is_new task parent meeting) (enumerate_from b xs) ≡ None
find_none task parent meeting b [] h = refl
find_none task parent meeting b (x ∷ xs) h =
    let no = or_false (is_made_by parent meeting x) (list_any (is_made_by parent meeting) xs) h in
    ap (λ t. cond t (Some (b, x)) (find (is_new task parent meeting) (enumerate_from (b + 1) xs))) (not_new task parent meeting x no.0)
    ∙ find_none task parent meeting (b + 1) xs no.1

find_after : (task parent meeting b : ℕ) (xs ys : List Communicator) → NoneMadeBy xs parent meeting
    → find (is_new task parent meeting) (enumerate_from b (xs ++ ys)) ≡ find (is_new task parent meeting) (enumerate_from (b + length xs) ys)
find_after task parent meeting b [] ys h = ap (λ k. find (is_new task parent meeting) (enumerate_from k ys)) (omega arith)
find_after task parent meeting b (x ∷ xs) ys h =
    let no = or_false (is_made_by parent meeting x) (list_any (is_made_by parent meeting) xs) h in
    ap (λ t. cond t (Some (b, x)) (find (is_new task parent meeting) (enumerate_from (b + 1) (xs ++ ys)))) (not_new task parent meeting x no.0)
    ∙ (find_after task parent meeting (b + 1) xs ys no.1 ∙ ap (λ k. find (is_new task parent meeting) (enumerate_from k ys)) (omega arith))

-- of a communicator that the meeting made, membership decides
new_made : (task parent meeting : ℕ) (group : List ℕ) → is_new_of task parent meeting (made_by parent meeting group) ≡ has_task task group
new_made task parent meeting group =
    ap (λ b. b && ((meeting == meeting) && has_task task group)) (test_same parent) ∙ ap (λ b. b && has_task task group) (test_same meeting)

pub number-dup : (comms : List Communicator) (task parent meeting : ℕ) (members : List ℕ) → NoneMadeBy comms parent meeting → has_task task members ≡ true
    → new_comm (with_dup comms parent meeting members) task parent meeting ≡ length comms + 1
number-dup comms task parent meeting members none member =
    ap number_found (find_after task parent meeting 1 comms (made_by parent meeting members ∷ []) none)
    ∙ (ap (λ t. number_found (cond t (Some (1 + length comms, made_by parent meeting members)) None)) (new_made task parent meeting members ∙ member) ∙ omega arith)

-- a place in a list, counted from a number
abbrev place_of : ℕ → ℕ → Option ℕ
place_of n len = cond (nat_lt n len) (Some n) None

first_place : (b n : ℕ) → number_from b (place_of 0 (suc n)) ≡ b
first_place b n = ap (λ t. number_from b (cond t (Some 0) None)) ((Decides-ltb 0 (suc n)).1 (omega arith)) ∙ omega arith

later_place : (b k n : ℕ) → number_from b (place_of (1 + k) (suc n)) ≡ number_from (b + 1) (place_of k n)
later_place b k n = ap (λ t. number_from b (cond t (Some (1 + k)) None)) tests ∙ by (nat_lt k n)
  where
    tests : nat_lt (1 + k) (suc n) ≡ nat_lt k n
    tests =
        let up : k < n → 1 + k < suc n = λ h. omega arith in
        let down : 1 + k < suc n → k < n = λ h. omega arith in
        same_from_decides (nat_lt (1 + k) (suc n)) (nat_lt k n) (Decides-ltb (1 + k) (suc n)) (Decides-like (nat_lt k n) up down (Decides-ltb k n))

    by : (t : Bool) → number_from b (cond t (Some (1 + k)) None) ≡ number_from (b + 1) (cond t (Some k) None)
    by true = omega arith
    by false = refl

number_cons : {X : Type 0} (b : ℕ) (p : X → Bool) (x : X) (xs : List X) → number_from b (position p (x ∷ xs)) ≡ cond (p x) b (number_from (b + 1) (position p xs))
number_cons b p x xs = by (p x)
  where
    by : (t : Bool) → number_from b (place_of (cond (not t) (1 + position_or_len p xs) 0) (suc (length xs))) ≡ cond t b (number_from (b + 1) (position p xs))
    by true = first_place b (length xs)
    by false = later_place b (position_or_len p xs) (length xs)

number_made : (b task parent meeting : ℕ) (groups : List (List ℕ))
    → number_found (find (is_new task parent meeting) (enumerate_from b (map (made_by parent meeting) groups))) ≡ number_in b groups task
number_made b task parent meeting [] = refl
number_made b task parent meeting (g ∷ gs) =
    ap (λ t. number_found (cond t (Some (b, made_by parent meeting g)) (find (is_new task parent meeting) (enumerate_from (b + 1) (map (made_by parent meeting) gs))))) (new_made task parent meeting g)
    ∙ (by (has_task task g) (number_made (b + 1) task parent meeting gs) ∙ sym (number_cons b (has_task task) g gs))
  where
    by : (t : Bool) → number_found (find (is_new task parent meeting) (enumerate_from (b + 1) (map (made_by parent meeting) gs))) ≡ number_in (b + 1) gs task
        → number_found (cond t (Some (b, made_by parent meeting g)) (find (is_new task parent meeting) (enumerate_from (b + 1) (map (made_by parent meeting) gs))))
        ≡ cond t b (number_from (b + 1) (position (has_task task) gs))
    by true rest = refl
    by false rest = rest

pub number-split : (comms : List Communicator) (task parent meeting : ℕ) (members : List ℕ) (chosen : List Chosen) → NoneMadeBy comms parent meeting
    → new_comm (with_split comms parent meeting members chosen) task parent meeting ≡ number_in (length comms + 1) (groups_of members chosen) task
number-split comms task parent meeting members chosen none =
    ap number_found (find_after task parent meeting 1 comms (map (made_by parent meeting) (groups_of members chosen)) none)
    ∙ (number_made (1 + length comms) task parent meeting (groups_of members chosen) ∙ ap (λ b. number_in b (groups_of members chosen) task) (omega arith))

-- what another meeting makes changes nothing
find_before : (task parent meeting b : ℕ) (xs ys : List Communicator) → NoneMadeBy ys parent meeting
    → find (is_new task parent meeting) (enumerate_from b (xs ++ ys)) ≡ find (is_new task parent meeting) (enumerate_from b xs)
find_before task parent meeting b [] ys h = find_none task parent meeting b ys h
find_before task parent meeting b (x ∷ xs) ys h = ap (cond (is_new task parent meeting (b, x)) (Some (b, x))) (find_before task parent meeting (b + 1) xs ys h)

none_append : (parent meeting : ℕ) (xs ys : List Communicator) → NoneMadeBy xs parent meeting → NoneMadeBy ys parent meeting → NoneMadeBy (xs ++ ys) parent meeting
none_append parent meeting [] ys h k = k
none_append parent meeting (x ∷ xs) ys h k =
    let no = or_false (is_made_by parent meeting x) (list_any (is_made_by parent meeting) xs) h in
    ap (λ b. b || list_any (is_made_by parent meeting) (xs ++ ys)) no.0 ∙ none_append parent meeting xs ys no.1 k

-- the meeting is another
abbrev Apart : ℕ → ℕ → ℕ → ℕ → Type 0
Apart parent meeting other turn = (other ≡ parent) × (turn ≡ meeting) → ⊥

apart_test : (parent meeting other turn : ℕ) → Apart parent meeting other turn → ((other == parent) && (turn == meeting)) ≡ false
apart_test parent meeting other turn apart = cases (eqb_tells other parent) (eqb_tells turn meeting)
  where
    cases : ((other == parent) ≡ true) × (other ≡ parent) ⊎ ((other == parent) ≡ false) × (other ≢ parent) → ((turn == meeting) ≡ true) × (turn ≡ meeting) ⊎ ((turn == meeting) ≡ false) × (turn ≢ meeting)
        → ((other == parent) && (turn == meeting)) ≡ false
    cases (inl p) (inl m) = absurd (apart (p.1, m.1))
    cases (inl p) (inr m) = ap (λ b. b && (turn == meeting)) p.0 ∙ m.0
    cases (inr p) m = ap (λ b. b && (turn == meeting)) p.0

none_made : (parent meeting other turn : ℕ) (groups : List (List ℕ)) → Apart parent meeting other turn → NoneMadeBy (map (made_by other turn) groups) parent meeting
none_made parent meeting other turn [] apart = refl
none_made parent meeting other turn (g ∷ gs) apart =
    ap (λ b. b || list_any (is_made_by parent meeting) (map (made_by other turn) gs)) (apart_test parent meeting other turn apart) ∙ none_made parent meeting other turn gs apart

pub dup-keeps : (comms : List Communicator) (task parent meeting other turn : ℕ) (members : List ℕ) → Apart parent meeting other turn
    → new_comm (with_dup comms other turn members) task parent meeting ≡ new_comm comms task parent meeting
dup-keeps comms task parent meeting other turn members apart =
    ap number_found (find_before task parent meeting 1 comms (made_by other turn members ∷ []) (none_made parent meeting other turn (members ∷ []) apart))

pub split-keeps : (comms : List Communicator) (task parent meeting other turn : ℕ) (members : List ℕ) (chosen : List Chosen) → Apart parent meeting other turn
    → new_comm (with_split comms other turn members chosen) task parent meeting ≡ new_comm comms task parent meeting
split-keeps comms task parent meeting other turn members chosen apart =
    ap number_found (find_before task parent meeting 1 comms (map (made_by other turn) (groups_of members chosen)) (none_made parent meeting other turn (groups_of members chosen) apart))

pub dup-makes_no_other : (comms : List Communicator) (parent meeting other turn : ℕ) (members : List ℕ) → Apart parent meeting other turn
    → NoneMadeBy comms parent meeting → NoneMadeBy (with_dup comms other turn members) parent meeting
dup-makes_no_other comms parent meeting other turn members apart none =
    none_append parent meeting comms (made_by other turn members ∷ []) none (none_made parent meeting other turn (members ∷ []) apart)

pub split-makes_no_other : (comms : List Communicator) (parent meeting other turn : ℕ) (members : List ℕ) (chosen : List Chosen) → Apart parent meeting other turn
    → NoneMadeBy comms parent meeting → NoneMadeBy (with_split comms other turn members chosen) parent meeting
split-makes_no_other comms parent meeting other turn members chosen apart none =
    none_append parent meeting comms (map (made_by other turn) (groups_of members chosen)) none (none_made parent meeting other turn (groups_of members chosen) apart)

-- nor does a free
abbrev dead : Communicator → Communicator
dead comm = record comm { lives = false }

number_freed : (task parent meeting b : ℕ) (xs : List Communicator) (index : ℕ) (comm : Communicator) → slice_get xs index ≡ Some comm
    → number_found (find (is_new task parent meeting) (enumerate_from b (slice_set xs index (dead comm)))) ≡ number_found (find (is_new task parent meeting) (enumerate_from b xs))
number_freed task parent meeting b [] index comm got = refl
number_freed task parent meeting b (x ∷ xs) zero comm got =
    let got' : Some x ≡ Some comm = got in
    let same' : comm ≡ x = cc in
    by (is_new_of task parent meeting comm)
    ∙ ap (λ c. number_found (cond (is_new_of task parent meeting c) (Some (b, c)) (find (is_new task parent meeting) (enumerate_from (b + 1) xs)))) same'
  where
    by : (t : Bool) → number_found (cond t (Some (b, dead comm)) (find (is_new task parent meeting) (enumerate_from (b + 1) xs)))
        ≡ number_found (cond t (Some (b, comm)) (find (is_new task parent meeting) (enumerate_from (b + 1) xs)))
    by true = refl
    by false = refl
number_freed task parent meeting b (x ∷ xs) (suc index) comm got = by (is_new_of task parent meeting x) (number_freed task parent meeting (b + 1) xs index comm got)
  where
    by : (t : Bool)
        → number_found (find (is_new task parent meeting) (enumerate_from (b + 1) (slice_set xs index (dead comm)))) ≡ number_found (find (is_new task parent meeting) (enumerate_from (b + 1) xs))
        → number_found (cond t (Some (b, x)) (find (is_new task parent meeting) (enumerate_from (b + 1) (slice_set xs index (dead comm)))))
        ≡ number_found (cond t (Some (b, x)) (find (is_new task parent meeting) (enumerate_from (b + 1) xs)))
    by true rest = refl
    by false rest = rest

pub free-keeps : (comms : List Communicator) (task parent meeting number : ℕ) → new_comm (freed comms number) task parent meeting ≡ new_comm comms task parent meeting
free-keeps comms task parent meeting zero = refl
free-keeps comms task parent meeting (suc index) = by (slice_get comms index) refl
  where
    by : (o : Option Communicator) → slice_get comms index ≡ o → new_comm (freed_at comms index o) task parent meeting ≡ new_comm comms task parent meeting
    by None got = refl
    by (Some comm) got = number_freed task parent meeting 1 comms index comm got

any_freed : (parent meeting : ℕ) (xs : List Communicator) (index : ℕ) (comm : Communicator) → slice_get xs index ≡ Some comm
    → list_any (is_made_by parent meeting) (slice_set xs index (dead comm)) ≡ list_any (is_made_by parent meeting) xs
any_freed parent meeting [] index comm got = refl
any_freed parent meeting (x ∷ xs) zero comm got =
    let got' : Some x ≡ Some comm = got in
    let same' : comm ≡ x = cc in
    ap (λ c. is_made_by parent meeting c || list_any (is_made_by parent meeting) xs) same'
any_freed parent meeting (x ∷ xs) (suc index) comm got = ap (λ r. is_made_by parent meeting x || r) (any_freed parent meeting xs index comm got)

pub free-makes_none : (comms : List Communicator) (parent meeting number : ℕ) → NoneMadeBy comms parent meeting → NoneMadeBy (freed comms number) parent meeting
free-makes_none comms parent meeting zero none = none
free-makes_none comms parent meeting (suc index) none = by (slice_get comms index) refl
  where
    by : (o : Option Communicator) → slice_get comms index ≡ o → NoneMadeBy (freed_at comms index o) parent meeting
    by None got = none
    by (Some comm) got = any_freed parent meeting comms index comm got ∙ none
