-- Lists over the numbers from 0 on, one number more.
use Rattle.std.proofs.Common.{◌≡◌, ℕ, zero, suc, ◌+◌, ◌<◌, ◌≤◌, Bool, true, false, cond, List, [], ◌∷◌, ◌++◌, length, map, sym, ap, ◌∙◌, refl, add-one, length-append, ⊎_elim, arith}
use Rattle.std.specs.List.{filter, list_all, range_with_len}
use Rattle.std.proofs.lemmas.Bool.{cases_lt}
use Rattle.std.proofs.lemmas.List.{map-id, append-nil, map_push}
use Rattle.std.proofs.lemmas.List.FromFn.{map-range_with_len_more}
use Rattle.std.proofs.lemmas.List.Elements.{filter-append}

pub range_next : (n : ℕ) → range_with_len 0 (n + 1) ≡ range_with_len 0 n ++ n ∷ []
range_next n =
    sym (map-id (range_with_len 0 (n + 1))) ∙ map-range_with_len_more (λ k. k) 0 n n (omega arith)
    ∙ ap (λ xs. xs ++ n ∷ []) (map-id (range_with_len 0 n))

pub map-range_next : {X : Type 0} (f : ℕ → X) (n : ℕ) → map f (range_with_len 0 (n + 1)) ≡ map f (range_with_len 0 n) ++ f n ∷ []
map-range_next f n = map-range_with_len_more f 0 n n (omega arith)

pub filter-range_next : (p : ℕ → Bool) (n : ℕ) → filter p (range_with_len 0 (n + 1)) ≡ filter p (range_with_len 0 n) ++ cond (p n) (n ∷ []) []
filter-range_next p n = ap (filter p) (range_next n) ∙ filter-append p (range_with_len 0 n) (n ∷ [])

-- a number that passes is the last of those that pass so far
pub filter_push : (p : ℕ → Bool) (n : ℕ) (xs ys : List ℕ) → xs ≡ filter p (range_with_len 0 n) → p n ≡ true → ys ≡ xs ++ n ∷ [] → ys ≡ filter p (range_with_len 0 (n + 1))
filter_push p n xs ys before passes pushed =
    pushed ∙ ap (λ zs. zs ++ n ∷ []) before ∙ ap (λ b. filter p (range_with_len 0 n) ++ cond b (n ∷ []) []) (sym passes) ∙ sym (filter-range_next p n)

-- a number that does not pass changes nothing
pub filter_skip : (p : ℕ → Bool) (n : ℕ) (xs ys : List ℕ) → xs ≡ filter p (range_with_len 0 n) → p n ≡ false → ys ≡ xs → ys ≡ filter p (range_with_len 0 (n + 1))
filter_skip p n xs ys before fails same =
    same ∙ before ∙ sym (append-nil (filter p (range_with_len 0 n))) ∙ ap (λ b. filter p (range_with_len 0 n) ++ cond b (n ∷ []) []) (sym fails) ∙ sym (filter-range_next p n)

-- the same under a map of what passes
pub map_filter_push : {X : Type 0} (f : ℕ → X) (p : ℕ → Bool) (n : ℕ) (xs ys : List X) → xs ≡ map f (filter p (range_with_len 0 n)) → p n ≡ true → ys ≡ xs ++ f n ∷ [] → ys ≡ map f (filter p (range_with_len 0 (n + 1)))
map_filter_push f p n xs ys before passes pushed =
    pushed ∙ ap (λ zs. zs ++ f n ∷ []) before ∙ sym (map_push f (filter p (range_with_len 0 n)) n)
    ∙ ap (map f) (filter_push p n _ _ refl passes refl)

pub map_filter_skip : {X : Type 0} (f : ℕ → X) (p : ℕ → Bool) (n : ℕ) (xs ys : List X) → xs ≡ map f (filter p (range_with_len 0 n)) → p n ≡ false → ys ≡ xs → ys ≡ map f (filter p (range_with_len 0 (n + 1)))
map_filter_skip f p n xs ys before fails same = same ∙ before ∙ ap (map f) (filter_skip p n _ _ refl fails refl)

-- some number below n passes
pub filter_some : (p : ℕ → Bool) (n k : ℕ) → k < n → p k ≡ true → 0 < length (filter p (range_with_len 0 n))
filter_some p zero k below passes = absurd (omega arith)
filter_some p (suc n) k below passes =
    let more : filter p (range_with_len 0 (suc n)) ≡ filter p (range_with_len 0 n) ++ cond (p n) (n ∷ []) [] =
    ap (λ j. filter p (range_with_len 0 j)) (sym (add-one n)) ∙ filter-range_next p n in
    let long : length (filter p (range_with_len 0 (suc n))) ≡ length (filter p (range_with_len 0 n)) + length (cond (p n) (n ∷ []) []) =
    ap length more ∙ length-append _ _ in
    ⊎_elim (λ (before : k < n). let some = filter_some p n k before passes in omega arith)
    (λ (past : n ≤ k).
    let here : n ≡ k = omega arith in
    let one : length (cond (p n) (n ∷ []) []) ≡ 1 = ap (λ b. length (cond b (n ∷ []) [])) (ap p here ∙ passes) in
    omega arith)
    (cases_lt k n)

kept_step : {X : Type 0} (q : X → Bool) (f : ℕ → X) (x : ℕ) (b : Bool) (rest : List ℕ) → q (f x) ≡ b → list_all q (map f rest) ≡ true → list_all q (map f (cond b (x ∷ rest) rest)) ≡ true
kept_step q f x true rest e ih = rw e ih
kept_step q f x false rest e ih = ih

-- what passes a test passes it
pub list_all-map-filter : {X : Type 0} (q : X → Bool) (f : ℕ → X) (xs : List ℕ) → list_all q (map f (filter (λ x. q (f x)) xs)) ≡ true
list_all-map-filter q f [] = refl
list_all-map-filter q f (x ∷ xs) = kept_step q f x (q (f x)) _ refl (list_all-map-filter q f xs)
