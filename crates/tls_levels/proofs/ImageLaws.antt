-- Variables of one image stand one behind the other.
use Rattle.std.proofs.Common.{◌≡◌, ◌≢◌, ℕ, ◌+◌, ◌<◌, ◌≤◌, Bool, true, false, cond, eqb, List, [], ◌∷◌, ◌++◌, length, map, take, get_or, set, None, refl, sym, ap, ◌∙◌, append_assoc, length-take-le, add-zero, get_or-set_same, get_or-set_other, arith}
use Rattle.std.specs.List.{filter, range_with_len, sum_by}
use Rattle.std.specs.Option.{option_and_then, option_map_or}
use Rattle.std.proofs.lemmas.Bool.{eq-eqb, eqb-true, false≢true}
use Rattle.std.proofs.lemmas.List.{take-take, get_or-take}
use Rattle.std.proofs.lemmas.List.Sums.{sum_by_more, sum_by_more_le, sum_by_more_le_part}
use Rattle.std.proofs.lemmas.Option.{slice_get-get_or}
use Rattle.topology.proofs.Ranges.{map_filter_push, map_filter_skip}
use Rattle.tls_levels.specs.declared.shapes.VarShape.{VarShape}
use Rattle.tls_levels.specs.Images.{level_at, len_at, image_number, words_at, words_in, offset_in}

-- any shape
abbrev pub some_shape : VarShape
some_shape = record { len = 0; level = None }

pub level_at-get : (shapes : List VarShape) (var : ℕ) → var < length shapes → level_at shapes var ≡ (get_or shapes var some_shape).level
level_at-get shapes var there = ap (option_and_then (λ (s : VarShape). s.level)) (slice_get-get_or shapes var some_shape there)

len_at-get : (shapes : List VarShape) (var : ℕ) → var < length shapes → len_at shapes var ≡ (get_or shapes var some_shape).len
len_at-get shapes var there = ap (λ o. option_map_or (λ (s : VarShape). s.len) o 0) (slice_get-get_or shapes var some_shape there)

own_words : (s : VarShape) (kind : ℕ) → kind ≡ image_number s.level → words_at kind s ≡ s.len
own_words s kind e = rw (eq-eqb (image_number s.level) kind (sym e)) refl

-- the words of a variable in its own image are all its words
words_at-own : (shapes : List VarShape) (var : ℕ) → var < length shapes → words_at (image_number (level_at shapes var)) (get_or shapes var some_shape) ≡ len_at shapes var
words_at-own shapes var there =
    own_words (get_or shapes var some_shape) (image_number (level_at shapes var)) (ap image_number (level_at-get shapes var there))
    ∙ sym (len_at-get shapes var there)

-- a variable ends within its image
pub ends_within : (shapes : List VarShape) (var : ℕ) → var < length shapes
    → offset_in shapes var + len_at shapes var ≤ words_in shapes (image_number (level_at shapes var))
ends_within shapes var there =
    let kind = image_number (level_at shapes var) in
    let own = words_at-own shapes var there in
    let whole = sum_by_more_le (words_at kind) shapes var some_shape there in
    omega (arith, own, whole)

-- a variable of the same image with a lower number ends where the other begins, or before
pub ends_before : (shapes : List VarShape) (other var : ℕ) → var < length shapes → other < var → level_at shapes other ≡ level_at shapes var
    → offset_in shapes other + len_at shapes other ≤ offset_in shapes var
ends_before shapes other var there before same =
    let kind = image_number (level_at shapes var) in
    let front = take var shapes in
    let long : length front ≡ var = length-take-le var shapes (omega arith) in
    let within = sum_by_more_le (words_at kind) front other some_shape (omega arith) in
    let begins : sum_by (words_at kind) (take other front) ≡ sum_by (words_at kind) (take other shapes) = ap (sum_by (words_at kind)) (take-take other var shapes (omega arith)) in
    let item : get_or front other some_shape ≡ get_or shapes other some_shape = get_or-take var shapes other some_shape before in
    let own : words_at kind (get_or shapes other some_shape) ≡ len_at shapes other =
    ap (λ l. words_at (image_number l) (get_or shapes other some_shape)) (sym same) ∙ words_at-own shapes other (omega arith) in
    let seen : words_at kind (get_or front other some_shape) ≡ len_at shapes other = ap (words_at kind) item ∙ own in
    let start : offset_in shapes other ≡ sum_by (words_at kind) (take other shapes) = ap (λ l. words_in (take other shapes) (image_number l)) same in
    omega (arith, within, begins, seen, start)

part : (b : Bool) (n : ℕ) → cond b n 0 ≤ n
part true n = omega arith
part false n = omega arith

pub words_at-le : (kind : ℕ) (s : VarShape) → words_at kind s ≤ s.len
words_at-le kind s = part (eqb (image_number s.level) kind) s.len

-- the words so far in an image and those of the next variable are within all words
pub next_within : (shapes : List VarShape) (i kind : ℕ) → i < length shapes
    → words_in (take i shapes) kind + (get_or shapes i some_shape).len ≤ sum_by (λ s. s.len) shapes
next_within shapes i kind there = sum_by_more_le_part (words_at kind) (λ (s : VarShape). s.len) shapes i some_shape there (words_at-le kind)

-- ---- the totals of the images, one variable more

-- what a table of totals holds at a kind, after the variable's words were added at its own kind
next_total : (totals : List ℕ) (s : VarShape) (at kind k before : ℕ) (b : Bool) → eqb (image_number s.level) k ≡ b
    → kind ≡ image_number s.level → kind < length totals → at ≡ get_or totals kind 0 → get_or totals k 0 ≡ before
    → get_or (set totals kind (at + s.len)) k 0 ≡ before + cond b s.len 0
next_total totals s at kind k before true same is there from was =
    let here : k ≡ kind = sym (is ∙ eqb-true (image_number s.level) k same) in
    ap (λ j. get_or (set totals kind (at + s.len)) j 0) here ∙ get_or-set_same totals kind (at + s.len) 0 there
    ∙ ap (λ n. n + s.len) (from ∙ ap (λ j. get_or totals j 0) (sym here) ∙ was)
next_total totals s at kind k before false other is there from was =
    let apart : k ≢ kind = λ here. false≢true (sym other ∙ eq-eqb (image_number s.level) k (sym (here ∙ is))) in
    get_or-set_other totals kind k (at + s.len) 0 apart ∙ was ∙ sym (add-zero before)

pub totals_next : (shapes : List VarShape) (i : ℕ) (totals : List ℕ) (at kind : ℕ)
    → i < length shapes → kind ≡ image_number (get_or shapes i some_shape).level → kind < length totals → at ≡ get_or totals kind 0
    → (k : ℕ) → get_or totals k 0 ≡ words_in (take i shapes) k
    → get_or (set totals kind (at + (get_or shapes i some_shape).len)) k 0 ≡ words_in (take (i + 1) shapes) k
totals_next shapes i totals at kind below is there from k was =
    let s = get_or shapes i some_shape in
    next_total totals s at kind k (words_in (take i shapes) k) (eqb (image_number s.level) k) refl is there from was
    ∙ sym (sum_by_more (words_at k) shapes i some_shape below)

-- where the next variable begins
pub offset_in-next : (shapes : List VarShape) (i kind : ℕ) → i < length shapes → kind ≡ image_number (get_or shapes i some_shape).level
    → words_in (take i shapes) kind ≡ offset_in shapes i
offset_in-next shapes i kind below is = ap (words_in (take i shapes)) (is ∙ ap image_number (sym (level_at-get shapes i below)))

-- ---- owners behind those that are there

pub append_push : {X : Type 0} (front : List X) (f : ℕ → X) (p : ℕ → Bool) (n : ℕ) (xs ys : List X)
    → xs ≡ front ++ map f (filter p (range_with_len 0 n)) → p n ≡ true → ys ≡ xs ++ f n ∷ []
    → ys ≡ front ++ map f (filter p (range_with_len 0 (n + 1)))
append_push front f p n xs ys before passes pushed =
    pushed ∙ ap (λ zs. zs ++ f n ∷ []) before ∙ append_assoc front (map f (filter p (range_with_len 0 n))) (f n ∷ [])
    ∙ ap (λ zs. front ++ zs) (map_filter_push f p n _ _ refl passes refl)

pub append_skip : {X : Type 0} (front : List X) (f : ℕ → X) (p : ℕ → Bool) (n : ℕ) (xs ys : List X)
    → xs ≡ front ++ map f (filter p (range_with_len 0 n)) → p n ≡ false → ys ≡ xs
    → ys ≡ front ++ map f (filter p (range_with_len 0 (n + 1)))
append_skip front f p n xs ys before fails same = same ∙ before ∙ ap (λ zs. front ++ zs) (map_filter_skip f p n _ _ refl fails refl)
