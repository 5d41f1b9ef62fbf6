-- In a list by rising colour the members of one colour stand side by side.
use Rattle.std.proofs.Common.{◌≡◌, ℕ, ◌+◌, ◌-◌, ◌≤◌, ◌<◌, ◌⊎◌, inl, inr, zero, suc, Bool, true, false, cond, ◌==◌, List, [], ◌∷◌, length, map, get_or, take, drop, length-drop, refl, sym, ap, ◌∙◌, arith}
use Rattle.std.specs.Prelude.{filter, nat_lt, nat_le}
use Rattle.std.specs.List.Sorted.{IsPartitionPoint}
use Rattle.std.proofs.lemmas.Bool.Decides.{leb_tells, Decides-eqb, Decides-ltb}
use Rattle.std.proofs.lemmas.List.{get_or-drop}
use Rattle.mpi_comm.specs.declared.splitting.Asked.{Asked}
use Rattle.mpi_comm.specs.Asked.{tasks_at}
use Rattle.mpi_comm.proofs.Colours.{test_other}

filter_range : {X : Type 0} (p : X → Bool) (xs : List X) (from n : ℕ)
    → ((k : ℕ) (d : X) → k < from → k < length xs → p (get_or xs k d) ≡ false)
    → ((k : ℕ) (d : X) → from ≤ k → k < from + n → k < length xs → p (get_or xs k d) ≡ true)
    → ((k : ℕ) (d : X) → from + n ≤ k → k < length xs → p (get_or xs k d) ≡ false)
    → take n (drop from xs) ≡ filter p xs
filter_range p [] zero zero front mid back = refl
filter_range p [] zero (suc n) front mid back = refl
filter_range p [] (suc from) zero front mid back = refl
filter_range p [] (suc from) (suc n) front mid back = refl
filter_range p (x ∷ xs) zero zero front mid back =
    filter_range p xs zero zero (λ k d h w. absurd (omega (arith, h))) (λ k d l h w. absurd (omega (arith, h))) (λ k d l w. back (suc k) d (omega arith) (omega (arith, w)))
    ∙ sym (ap (λ t. cond t (x ∷ filter p xs) (filter p xs)) (back zero x (omega arith) (omega arith)))
filter_range p (x ∷ xs) zero (suc n) front mid back =
    ap (λ ys. x ∷ ys)
    (filter_range p xs zero n (λ k d h w. absurd (omega (arith, h))) (λ k d l h w. mid (suc k) d (omega arith) (omega (arith, h)) (omega (arith, w)))
    (λ k d l w. back (suc k) d (omega (arith, l)) (omega (arith, w))))
    ∙ sym (ap (λ t. cond t (x ∷ filter p xs) (filter p xs)) (mid zero x (omega arith) (omega arith) (omega arith)))
filter_range p (x ∷ xs) (suc from) n front mid back =
    filter_range p xs from n (λ k d h w. front (suc k) d (omega (arith, h)) (omega (arith, w))) (λ k d l h w. mid (suc k) d (omega (arith, l)) (omega (arith, h)) (omega (arith, w)))
    (λ k d l w. back (suc k) d (omega (arith, l)) (omega (arith, w)))
    ∙ sym (ap (λ t. cond t (x ∷ filter p xs) (filter p xs)) (front zero x (omega arith) (omega arith)))

abbrev pub StartsAt : List Asked → ℕ → ℕ → Type 0
StartsAt asked colour from = IsPartitionPoint (λ (a : Asked). nat_lt a.colour colour ≡ true) (λ (a : Asked). nat_lt a.colour colour ≡ false) asked from

abbrev pub EndsAt : List Asked → ℕ → ℕ → Type 0
EndsAt asked colour to = IsPartitionPoint (λ (a : Asked). nat_le a.colour colour ≡ true) (λ (a : Asked). nat_le a.colour colour ≡ false) asked to

below : (a b : ℕ) → nat_lt a b ≡ true → a < b
below a b h = (Decides-ltb a b).0 h

not_below : (a b : ℕ) → nat_lt a b ≡ false → b ≤ a
not_below a b h = by (leb_tells (suc a) b)
  where
    by : ((nat_lt a b ≡ true) × (suc a ≤ b)) ⊎ ((nat_lt a b ≡ false) × (b < suc a)) → b ≤ a
    by (inl low) = let wrong : true ≡ false = sym low.0 ∙ h in absurd (cc)
    by (inr high) = let above : b < suc a = high.1 in omega arith

at_most : (a b : ℕ) → nat_le a b ≡ true → a ≤ b
at_most a b h = by (leb_tells a b)
  where
    by : ((nat_le a b ≡ true) × (a ≤ b)) ⊎ ((nat_le a b ≡ false) × (b < a)) → a ≤ b
    by (inl low) = low.1
    by (inr high) = let wrong : true ≡ false = sym h ∙ high.0 in absurd (cc)

above : (a b : ℕ) → nat_le a b ≡ false → b < a
above a b h = by (leb_tells a b)
  where
    by : ((nat_le a b ≡ true) × (a ≤ b)) ⊎ ((nat_le a b ≡ false) × (b < a)) → b < a
    by (inl low) = let wrong : true ≡ false = sym low.0 ∙ h in absurd (cc)
    by (inr high) = high.1

-- the range has the members of the colour
pub range_of_colour : (asked : List Asked) (colour from count : ℕ) → from ≤ length asked → StartsAt asked colour from → EndsAt (drop from asked) colour count
    → map (λ (a : Asked). a.task) (take count (drop from asked)) ≡ tasks_at asked colour
range_of_colour asked colour from count within starts ends =
    ap (map (λ (a : Asked). a.task))
    (filter_range (λ (a : Asked). a.colour == colour) asked from count
    (λ k d h w. test_other (get_or asked k d).colour colour (λ e. let less : (get_or asked k d).colour < colour = below _ _ (starts.0 k d (omega arith) h) in absurd (omega (arith, less, e))))
    (λ k d l h w.
    let low : colour ≤ (get_or asked k d).colour = not_below _ _ (starts.1 k d l w) in
    let there : get_or (drop from asked) (k - from) d ≡ get_or asked k d = get_or-drop from asked (k - from) d ∙ ap (λ j. get_or asked j d) (omega (arith, l)) in
    let high : (get_or (drop from asked) (k - from) d).colour ≤ colour = at_most _ _ (ends.0 (k - from) d (omega arith) (omega (arith, h, l))) in
    let same : (get_or (drop from asked) (k - from) d).colour ≡ (get_or asked k d).colour = ap (λ (a : Asked). a.colour) there in
    (Decides-eqb (get_or asked k d).colour colour).1 (omega (arith, low, high, same)))
    (λ k d l w.
    let there : get_or (drop from asked) (k - from) d ≡ get_or asked k d = get_or-drop from asked (k - from) d ∙ ap (λ j. get_or asked j d) (omega (arith, l)) in
    let more : colour < (get_or (drop from asked) (k - from) d).colour = above _ _ (ends.1 (k - from) d (omega (arith, l)) (omega (arith, l, w, length-drop from asked))) in
    let same : (get_or (drop from asked) (k - from) d).colour ≡ (get_or asked k d).colour = ap (λ (a : Asked). a.colour) there in
    test_other (get_or asked k d).colour colour (λ e. absurd (omega (arith, more, same, e)))))
