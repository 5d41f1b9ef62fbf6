-- The symbols behind some, and the first of them.
use Rattle.std.proofs.Common.{◌≡◌, ℕ, ◌+◌, ◌-◌, ◌≤◌, min, List, length, take, drop, map, sym, ap, ◌∙◌, arith}
use Rattle.std.proofs.lemmas.List.{drop-drop, drop-take, drop-map, take-map, take_min, drop_all, length-drop}
use Rattle.c_parse.specs.Symbols.{Sym}

drop_min : {X : Type 0} (n : ℕ) (xs : List X) → drop (min n (length xs)) xs ≡ drop n xs
drop_min n xs =
    let few : n ≤ length xs → drop (min n (length xs)) xs ≡ drop n xs = λ le. (let e : min n (length xs) ≡ n = omega arith in ap (λ m. drop m xs) e) in
    let many : length xs ≤ n → drop (min n (length xs)) xs ≡ drop n xs = λ le. (let e : min n (length xs) ≡ length xs = omega arith in drop_all (min n (length xs)) xs (omega arith) ∙ sym (drop_all n xs le)) in
    grind arith

pub skipped : {X : Type 0} (f : X → Sym) (count at left : ℕ) (xs : List X) → left ≡ length xs - at → map f (drop (at + min count left) xs) ≡ drop count (map f (drop at xs))
skipped f count at left xs e =
    let l : min count left ≡ min count (length (drop at xs)) = omega (arith, length-drop at xs) in
    ap (λ m. map f (drop (at + m) xs)) l ∙ ap (map f) (sym (drop-drop (min count (length (drop at xs))) at xs) ∙ drop_min count (drop at xs)) ∙ sym (drop-map f count (drop at xs))

pub windowed : {X : Type 0} (f : X → Sym) (most at left : ℕ) (xs : List X) → left ≡ length xs - at → map f (drop at (take (at + min most left) xs)) ≡ take most (map f (drop at xs))
windowed f most at left xs e =
    let l : min most left ≡ min most (length (drop at xs)) = omega (arith, length-drop at xs) in
    ap (λ m. map f (drop at (take (at + m) xs))) l ∙ ap (map f) (drop-take at (min most (length (drop at xs))) xs ∙ take_min most (drop at xs)) ∙ sym (take-map f most (drop at xs))
