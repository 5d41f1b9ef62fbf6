-- That each active request has a number which was given.
use Rattle.std.proofs.Common.{◌≡◌, ◌≢◌, ℕ, ◌+◌, ◌-◌, ◌<◌, ◌≤◌, Bool, true, false, cond, not, ◌==◌, List, [], ◌∷◌, ◌++◌, get_or, set, length, replicate, Some, None, refl, ap, ◌∙◌, arith}
use Rattle.std.specs.List.{All}
use Rattle.std.specs.List.Sorted.{IsStrictlySortedBy}
use Rattle.std.specs.Ordering.{nat_cmp}
use Rattle.std.specs.Map.{lookup, keys_of, remove_entry}
use Rattle.std.specs.BTreeMap.{is_at, insert_entry}
use Rattle.std.proofs.lemmas.List.{replicate-append-replicate, set-get_or}
use Rattle.std.proofs.lemmas.List.Elements.{All-weaker, All-nil, All-cons, All-head, All-tail}
use Rattle.std.proofs.lemmas.Map.Entries.{length-keys_of}
use Rattle.std.proofs.lemmas.Map.Views.{length-le_from_below, All-keys-insert_entry, All-map-remove_entry}
use Rattle.mpc_values.specs.declared.limits.TheConstants.{MAX_GIVEN}
use Rattle.mpi_request.specs.declared.started.Started.{Started}
use Rattle.mpi_request.specs.declared.started.Open.{Open}
use Rattle.mpi_request.specs.Started.{opened}
use Rattle.mpi_request.specs.Active.{OwnRequests, IsCounted, no_own, with_start, without_last}
use Rattle.mpi_request.proofs.Entries.{equal, unequal_by, at_other, insert_last, apart, filter_none}

abbrev pub own_of : ℕ → List (ℕ × Open) → OwnRequests
own_of made active = record { made = made; active = active }

pub replicate_more : (n : ℕ) → replicate n no_own ++ no_own ∷ [] ≡ replicate (n + 1) no_own
replicate_more n = replicate-append-replicate n 1 no_own

-- no more requests are active than numbers were given
pub few_active : (own : OwnRequests) → IsCounted own → IsStrictlySortedBy nat_cmp (keys_of own.active) → length own.active ≤ MAX_GIVEN + 1
few_active own counted sorted =
    let below = All-weaker (λ (k : ℕ). k ≤ own.made) (λ (k : ℕ). k < own.made + 1) (λ k less. (let l : k < own.made + 1 = omega arith in l)) (keys_of own.active) counted.given in
    let few : length (keys_of own.active) ≤ own.made + 1 = length-le_from_below (own.made + 1) (keys_of own.active) sorted below in
    let same : length (keys_of own.active) ≡ length own.active = length-keys_of own.active in
    let given : own.made ≤ MAX_GIVEN = counted.few in
    omega arith

-- one more
pub counted_start : (own : OwnRequests) (o : Open) → IsCounted own → own.made < MAX_GIVEN → IsCounted (own_of (own.made + 1) (insert_entry nat_cmp own.active (own.made + 1) o))
counted_start own o counted room = record {
  few = (let l : own.made + 1 ≤ MAX_GIVEN = omega arith in l);
  given = All-keys-insert_entry nat_cmp (own.made + 1) o (λ (k : ℕ). k ≤ own.made + 1) own.active
      (All-weaker (λ (k : ℕ). k ≤ own.made) (λ (k : ℕ). k ≤ own.made + 1) (λ k less. (let l : k ≤ own.made + 1 = omega arith in l)) (keys_of own.active) counted.given)
      (let l : own.made + 1 ≤ own.made + 1 = omega arith in l);
}

pub start_entries : (own : OwnRequests) (what : Started) → IsCounted own → own_of (own.made + 1) (insert_entry nat_cmp own.active (own.made + 1) (opened what)) ≡ with_start own what
start_entries own what counted =
    ap (own_of (own.made + 1)) (insert_last own.made (own.made + 1) (opened what) own.active (let l : own.made < own.made + 1 = omega arith in l) counted.given)

-- one less
pub counted_end : (own : OwnRequests) (n : ℕ) → IsCounted own → IsCounted (own_of own.made (remove_entry (is_at (nat_cmp n)) own.active))
counted_end own n counted = record {
  few = counted.few;
  given = All-map-remove_entry (is_at (nat_cmp n)) (λ (e : ℕ × Open). e.0) (λ (k : ℕ). k ≤ own.made) own.active counted.given;
}

-- numbers other than the last one are below it
less_one : (n k : ℕ) → k ≤ n → (k == n) ≡ false → k ≤ n - 1
less_one n k less is =
    let differs : k ≢ n = unequal_by k n is in
    omega arith

pub apart_below : (n : ℕ) (es : List (ℕ × Open)) → All (λ (k : ℕ). k ≤ n) (keys_of es) → All (λ (k : ℕ). k ≤ n - 1) (keys_of (apart n es))
apart_below n [] given = All-nil (λ (k : ℕ). k ≤ n - 1)
apart_below n (e ∷ es) given = by (e.0 == n) refl (apart_below n es (All-tail (λ (k : ℕ). k ≤ n) e.0 (keys_of es) given))
  where
    by : (b : Bool) → (e.0 == n) ≡ b → All (λ (k : ℕ). k ≤ n - 1) (keys_of (apart n es)) → All (λ (k : ℕ). k ≤ n - 1) (keys_of (cond (not b) (e ∷ apart n es) (apart n es)))
    by true is rest = rest
    by false is rest = All-cons (λ (k : ℕ). k ≤ n - 1) e.0 (keys_of (apart n es)) (less_one n e.0 (All-head (λ (k : ℕ). k ≤ n) e.0 (keys_of es) given) is) rest

-- the last one less
pub counted_last : (own : OwnRequests) → IsCounted own → IsCounted (without_last own)
counted_last own counted = record {
  few = (let given : own.made ≤ MAX_GIVEN = counted.few in let l : own.made - 1 ≤ MAX_GIVEN = omega arith in l);
  given = apart_below own.made own.active counted.given;
}

-- a number that was not given is of no request
lookup_past : (m n : ℕ) (es : List (ℕ × Open)) → m < n → All (λ (k : ℕ). k ≤ m) (keys_of es) → lookup (is_at (nat_cmp n)) es ≡ None
lookup_past m n [] less given = refl
lookup_past m n (e ∷ es) less given =
    let here : e.0 ≤ m = All-head (λ (k : ℕ). k ≤ m) e.0 (keys_of es) given in
    let differs : e.0 ≢ n = omega arith in
    ap (λ b. cond b (Some e.1) (lookup (is_at (nat_cmp n)) es)) (at_other n e.0 differs)
    ∙ lookup_past m n es less (All-tail (λ (k : ℕ). k ≤ m) e.0 (keys_of es) given)

pub counted_free : (own : OwnRequests) → IsCounted own → lookup (is_at (nat_cmp (own.made + 1))) own.active ≡ None
counted_free own counted = lookup_past own.made (own.made + 1) own.active (let l : own.made < own.made + 1 = omega arith in l) counted.given

-- an entry at the end, taken out again
pub not_other : (n : ℕ) → not (n == n) ≡ false
not_other n = ap not (equal n n refl)

apart-append : (n : ℕ) (es : List (ℕ × Open)) (v : Open) → apart n (es ++ (n, v) ∷ []) ≡ apart n es
apart-append n [] v = ap (λ b. cond b ((n, v) ∷ []) []) (not_other n)
apart-append n (e ∷ es) v = by (not (e.0 == n)) (apart-append n es v)
  where
    by : (b : Bool) → apart n (es ++ (n, v) ∷ []) ≡ apart n es → cond b (e ∷ apart n (es ++ (n, v) ∷ [])) (apart n (es ++ (n, v) ∷ [])) ≡ cond b (e ∷ apart n es) (apart n es)
    by true rest = ap (λ l. e ∷ l) rest
    by false rest = rest

less_more : (n : ℕ) → n + 1 - 1 ≡ n
less_more n = omega arith

-- the last start, taken back
pub last_back : (own : OwnRequests) (what : Started) → lookup (is_at (nat_cmp (own.made + 1))) own.active ≡ None → without_last (with_start own what) ≡ own
last_back own what free =
    ap (λ n. own_of n (apart (own.made + 1) (own.active ++ (own.made + 1, opened what) ∷ []))) (less_more own.made)
    ∙ ap (own_of own.made) (apart-append (own.made + 1) own.active (opened what) ∙ filter_none (own.made + 1) own.active free)

pub restored : (tasks : List OwnRequests) (task : ℕ) (own a b : OwnRequests) (what : Started) → own ≡ get_or tasks task own → IsCounted own → a ≡ with_start own what → b ≡ without_last a
    → set tasks task b ≡ tasks
restored tasks task own a b what is counted started back =
    ap (set tasks task) (back ∙ (ap without_last started ∙ (last_back own what (counted_free own counted) ∙ is))) ∙ set-get_or tasks task own
