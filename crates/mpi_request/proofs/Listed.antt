-- The active requests of a task, behind their numbers.
use Rattle.std.proofs.Common.{◌≡◌, ◌≢◌, ℕ, zero, suc, ◌+◌, ◌<◌, ◌&&◌, Bool, true, false, not, ◌==◌, cond, List, [], ◌∷◌, ◌++◌, filter, set, length, Option, Some, None, refl, sym, ap, ◌∙◌, arith}
use Rattle.std.specs.Prelude.{slice_get, filter_map}
use Rattle.std.specs.List.{enumerate_from, cons_option}
use Rattle.std.specs.Ordering.{nat_cmp}
use Rattle.std.specs.Map.{lookup}
use Rattle.std.specs.BTreeMap.{is_at}
use Rattle.mpi_request.specs.declared.requests.Request.{Request}
use Rattle.mpi_request.specs.Requests.{Named, NullRequest, Active, NotActive, named_in, named_at}
use Rattle.mpi_request.specs.Pending.{is_of_side, pending_places}
use Rattle.mpi_request.specs.Shown.{seen_request, side}
use Rattle.mpi_request.proofs.Entries.{equal, unequal, at_same, at_other, apart, filter_none}

-- the active requests, numbered from b on
abbrev pub active_from : ℕ → List Request → List (ℕ × Request)
active_from b requests = filter (λ (e : ℕ × Request). e.1.active) (enumerate_from b requests)

-- a request, where it is active
abbrev pub active_one : Option Request → Option Request
active_one None = None
active_one (Some r) = cond r.active (Some r) None

-- the active request that is named
abbrev pub active_named : Named → Option Request
active_named NullRequest = None
active_named (Active number r) = Some r
active_named NotActive = None

pub below : (n b : ℕ) (rs : List Request) → n < b → lookup (is_at (nat_cmp n)) (active_from b rs) ≡ None
below n b [] less = refl
below n b (r ∷ rs) less = by r.active (below n (b + 1) rs (let l : n < b + 1 = omega arith in l))
  where
    by : (a : Bool) → lookup (is_at (nat_cmp n)) (active_from (b + 1) rs) ≡ None → lookup (is_at (nat_cmp n)) (cond a ((b, r) ∷ active_from (b + 1) rs) (active_from (b + 1) rs)) ≡ None
    by true rest = ap (λ t. cond t (Some r) (lookup (is_at (nat_cmp n)) (active_from (b + 1) rs))) (at_other n b (let d : b ≢ n = omega arith in d)) ∙ rest
    by false rest = rest

pub found_at : (b n i : ℕ) (rs : List Request) → n ≡ b + i → lookup (is_at (nat_cmp n)) (active_from b rs) ≡ active_one (slice_get rs i)
found_at b n i [] is = refl
found_at b n zero (r ∷ rs) is = by r.active
  where
    by : (a : Bool) → lookup (is_at (nat_cmp n)) (cond a ((b, r) ∷ active_from (b + 1) rs) (active_from (b + 1) rs)) ≡ cond a (Some r) None
    by true =
        let same : b ≡ n = omega arith in
        ap (λ t. cond t (Some r) (lookup (is_at (nat_cmp n)) (active_from (b + 1) rs))) (ap (is_at (nat_cmp n)) same ∙ at_same n)
    by false = below n (b + 1) rs (let l : n < b + 1 = omega arith in l)
found_at b n (suc i) (r ∷ rs) is = by r.active (found_at (b + 1) n i rs (let e : n ≡ b + 1 + i = omega arith in e))
  where
    by : (a : Bool) → lookup (is_at (nat_cmp n)) (active_from (b + 1) rs) ≡ active_one (slice_get rs i) → lookup (is_at (nat_cmp n)) (cond a ((b, r) ∷ active_from (b + 1) rs) (active_from (b + 1) rs)) ≡ active_one (slice_get rs i)
    by true rest = ap (λ t. cond t (Some r) (lookup (is_at (nat_cmp n)) (active_from (b + 1) rs))) (at_other n b (let d : b ≢ n = omega arith in d)) ∙ rest
    by false rest = rest

one_named : (n : ℕ) (o : Option Request) → active_one o ≡ active_named (named_in n o)
one_named n None = refl
one_named n (Some r) = by r.active
  where
    by : (a : Bool) → cond a (Some r) None ≡ active_named (cond a (Active n r) NotActive)
    by true = refl
    by false = refl

-- what a number names is what is found among the active requests
pub named_found : (rs : List Request) (n : ℕ) → lookup (is_at (nat_cmp n)) (active_from 1 rs) ≡ active_named (named_at rs n)
named_found rs zero = below 0 1 rs (let l : 0 < 1 = omega arith in l)
named_found rs (suc i) = found_at 1 (suc i) i rs (let e : suc i ≡ 1 + i = omega arith in e) ∙ one_named (suc i) (slice_get rs i)

abbrev one_entry : ℕ → Request → List (ℕ × Request)
one_entry n r = (n, r) ∷ []

-- one active request more
pub active_added : (b : ℕ) (rs : List Request) (r : Request) → r.active ≡ true → active_from b (rs ++ r ∷ []) ≡ active_from b rs ++ (b + length rs, r) ∷ []
active_added b [] r is = ap (λ a. cond a (one_entry b r) []) is ∙ ap (λ n. one_entry n r) (let e : b ≡ b + 0 = omega arith in e)
active_added b (x ∷ rs) r is =
    by x.active (active_added (b + 1) rs r is ∙ ap (λ n. active_from (b + 1) rs ++ (n, r) ∷ []) (let e : b + 1 + length rs ≡ b + suc (length rs) = omega arith in e))
  where
    by : (a : Bool) → active_from (b + 1) (rs ++ r ∷ []) ≡ active_from (b + 1) rs ++ (b + suc (length rs), r) ∷ [] → cond a ((b, x) ∷ active_from (b + 1) (rs ++ r ∷ [])) (active_from (b + 1) (rs ++ r ∷ []))
        ≡ cond a ((b, x) ∷ active_from (b + 1) rs) (active_from (b + 1) rs) ++ (b + suc (length rs), r) ∷ []
    by true more = ap (λ l. (b, x) ∷ l) more
    by false more = more

-- one active request less
pub active_ended : (b n i : ℕ) (rs : List Request) (y : Request) → n ≡ b + i → i < length rs → y.active ≡ false → active_from b (set rs i y) ≡ apart n (active_from b rs)
active_ended b n i [] y is within ended = absurd (omega arith)
active_ended b n zero (x ∷ rs) y is within ended =
    ap (λ a. cond a ((b, y) ∷ active_from (b + 1) rs) (active_from (b + 1) rs)) ended ∙ by x.active
  where
    rest : active_from (b + 1) rs ≡ apart n (active_from (b + 1) rs)
    rest = sym (filter_none n (active_from (b + 1) rs) (below n (b + 1) rs (let l : n < b + 1 = omega arith in l)))

    here : false ≡ not (b == n)
    here = sym (ap not (equal b n (let e : b ≡ n = omega arith in e)))

    by : (a : Bool) → active_from (b + 1) rs ≡ apart n (cond a ((b, x) ∷ active_from (b + 1) rs) (active_from (b + 1) rs))
    by true = rest ∙ ap (λ t. cond t ((b, x) ∷ apart n (active_from (b + 1) rs)) (apart n (active_from (b + 1) rs))) here
    by false = rest
active_ended b n (suc i) (x ∷ rs) y is within ended =
    by x.active (active_ended (b + 1) n i rs y (let e : n ≡ b + 1 + i = omega arith in e) (let l : i < length rs = omega arith in l) ended)
  where
    here : true ≡ not (b == n)
    here = sym (ap not (unequal b n (let e : b ≢ n = omega arith in e)))

    by : (a : Bool) → active_from (b + 1) (set rs i y) ≡ apart n (active_from (b + 1) rs) → cond a ((b, x) ∷ active_from (b + 1) (set rs i y)) (active_from (b + 1) (set rs i y))
        ≡ apart n (cond a ((b, x) ∷ active_from (b + 1) rs) (active_from (b + 1) rs))
    by true rest = ap (λ l. (b, x) ∷ l) rest ∙ ap (λ t. cond t ((b, x) ∷ apart n (active_from (b + 1) rs)) (apart n (active_from (b + 1) rs))) here
    by false rest = rest

-- how many are active
pub active_count : (b : ℕ) (rs : List Request) → length (active_from b rs) ≡ length (filter (λ (r : Request). r.active) rs)
active_count b [] = refl
active_count b (r ∷ rs) = by r.active (active_count (b + 1) rs)
  where
    by : (a : Bool) → length (active_from (b + 1) rs) ≡ length (filter (λ (r : Request). r.active) rs) → length (cond a ((b, r) ∷ active_from (b + 1) rs) (active_from (b + 1) rs)) ≡ length (cond a (r ∷ filter (λ (r : Request). r.active) rs) (filter (λ (r : Request). r.active) rs))
    by true rest = ap suc rest
    by false rest = rest

-- the places of one side
pub side_of : (send : Bool) (r : Request) → pending_places send r ≡ side send (seen_request r)
side_of true r = refl
side_of false r = refl

not_pending : (send : Bool) (r : Request) → r.active ≡ false → pending_places send r ≡ None
not_pending send r ended = ap (λ a. cond (a && is_of_side send r) r.places None) ended

pub pending_from : (send : Bool) (b : ℕ) (rs : List Request) → filter_map (pending_places send) rs ≡ filter_map (λ (e : ℕ × Request). side send (seen_request e.1)) (active_from b rs)
pending_from send b [] = refl
pending_from send b (r ∷ rs) = by r.active refl (pending_from send (b + 1) rs)
  where
    by : (a : Bool) → r.active ≡ a → filter_map (pending_places send) rs ≡ filter_map (λ (e : ℕ × Request). side send (seen_request e.1)) (active_from (b + 1) rs)
        → filter_map (pending_places send) (r ∷ rs) ≡ filter_map (λ (e : ℕ × Request). side send (seen_request e.1)) (cond a ((b, r) ∷ active_from (b + 1) rs) (active_from (b + 1) rs))
    by true is rest = ap (λ o. cons_option o (filter_map (pending_places send) rs)) (side_of send r) ∙ ap (cons_option (side send (seen_request r))) rest
    by false is rest = ap (λ o. cons_option o (filter_map (pending_places send) rs)) (not_pending send r is) ∙ rest
