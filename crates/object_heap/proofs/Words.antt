-- The words of ranges of places.
use Rattle.std.proofs.Common.{◌≡◌, ℕ, ◌+◌, ◌-◌, ◌<◌, ◌≤◌, true, false, List, ◌++◌, length, get_or, set, take, drop, replicate, slice_get, Option, Some, None, refl, sym, ap, ◌∙◌, inl, inr, arith}
use Rattle.std.proofs.lemmas.Bool.{cases_lt, cases_eq}
use Rattle.std.proofs.lemmas.Bool.Decides.{nat_tests}
use Rattle.std.proofs.lemmas.List.{same_lists, get_or-take, get_or-drop, get_or_append_left, get_or-append_right, get_or-replicate, get_or-set_same, get_or-set_other, get_or_default, length-take-le, length-drop, length-append, length-set, length-replicate}
use Rattle.std.proofs.lemmas.List.FromFn.{length-map-range_with_len, get_or-map-range_with_len}
use Rattle.std.proofs.lemmas.Option.{slice_get-get_or}
use Rattle.mpc_values.specs.declared.values.Word.{Word}
use Rattle.mpc_values.specs.declared.values.Word.TheVariants.{Undef}
use Rattle.memory_model.specs.Ranges.{overwritten}
use Rattle.word_region.specs.Places.{cell, is_in}
use Rattle.object_heap.specs.Objects.{word_or, word_at, words_from}

pub in_range : (base len p : ℕ) → base ≤ p → p < base + len → is_in base len p ≡ true
in_range base len p low high = grind (arith, nat_tests)

pub below_range : (base len p : ℕ) → p < base → is_in base len p ≡ false
below_range base len p low = grind (arith, nat_tests)

pub above_range : (base len p : ℕ) → base + len ≤ p → is_in base len p ≡ false
above_range base len p high = grind (arith, nat_tests)

pub range_low : (base len p : ℕ) → is_in base len p ≡ true → base ≤ p
range_low base len p inside = grind (arith, nat_tests)

pub range_high : (base len p : ℕ) → is_in base len p ≡ true → p < base + len
range_high base len p inside = grind (arith, nat_tests)

pub length_words : (cells : List (Option Word)) (base len : ℕ) → length (words_from cells base len) ≡ len
unfolding words_from
length_words cells base len = length-map-range_with_len (word_at cells) base len

pub get_words : (cells : List (Option Word)) (base len k : ℕ) (d : Word) → k < len → get_or (words_from cells base len) k d ≡ word_at cells (base + k)
unfolding words_from
get_words cells base len k d within = get_or-map-range_with_len (word_at cells) base len k (base + k) d within refl

-- the word of a place of an object
pub slice_words : (cells : List (Option Word)) (base len k : ℕ) → k < len → slice_get (words_from cells base len) k ≡ Some (word_at cells (base + k))
slice_words cells base len k within =
    slice_get-get_or (words_from cells base len) k Undef (let n = length_words cells base len in omega arith)
    ∙ ap Some (get_words cells base len k Undef within)

-- a list of the words of a range
pub words_are : (cells : List (Option Word)) (base len : ℕ) (list : List Word) → length list ≡ len
    → ((k : ℕ) (d : Word) → k < len → get_or list k d ≡ word_at cells (base + k)) → words_from cells base len ≡ list
words_are cells base len list size each =
    let n = length_words cells base len in
    same_lists (words_from cells base len) list (n ∙ sym size)
    (λ k d within. let inside : k < len = omega arith in get_words cells base len k d inside ∙ sym (each k d inside))

-- the words of a range that holds what another one held
pub same_words : (new old : List (Option Word)) (base other len : ℕ) → ((k : ℕ) → k < len → cell new (base + k) ≡ cell old (other + k)) → words_from new base len ≡ words_from old other len
same_words new old base other len same =
    words_are new base len (words_from old other len) (length_words old other len)
    (λ k d within. get_words old other len k d within ∙ ap word_or (sym (same k within)))

-- the words of a part of a range
pub part_words : (cells : List (Option Word)) (base n at len : ℕ) → at + len ≤ n → take len (drop at (words_from cells base n)) ≡ words_from cells (base + at) len
part_words cells base n at len within =
    let size = length_words cells base n in
    let rest : length (drop at (words_from cells base n)) ≡ n - at = length-drop at (words_from cells base n) ∙ ap (λ m. m - at) size in
    sym (words_are cells (base + at) len (take len (drop at (words_from cells base n)))
    (length-take-le len (drop at (words_from cells base n)) (omega arith))
    (λ k d inside. get_or-take len (drop at (words_from cells base n)) k d inside
    ∙ (get_or-drop at (words_from cells base n) k d
    ∙ (get_words cells base n (at + k) d (omega arith)
    ∙ ap (word_at cells) (let e : base + (at + k) ≡ base + at + k = omega arith in e)))))

-- the words of a range of which one place is written
pub written_words : (old : List (Option Word)) (base n at : ℕ) (word : Word) → at < n → base + at < length old
    → words_from (set old (base + at) (Some word)) base n ≡ set (words_from old base n) at word
written_words old base n at word within there =
    let size = length_words old base n in
    words_are (set old (base + at) (Some word)) base n (set (words_from old base n) at word)
    (length-set (words_from old base n) at word ∙ size)
    (λ k d inside. elim (cases_eq k at) [
      | inl same ↦
          ap (λ i. get_or (set (words_from old base n) at word) i d) same
          ∙ (get_or-set_same (words_from old base n) at word d (omega arith)
          ∙ (ap word_or (sym (get_or-set_same old (base + at) (Some word) None there))
          ∙ ap (λ i. word_at (set old (base + at) (Some word)) (base + i)) (sym same)))
      | inr differs ↦
          get_or-set_other (words_from old base n) at k word d differs
          ∙ (get_words old base n k d inside
          ∙ ap word_or (sym (get_or-set_other old (base + at) (base + k) (Some word) None (λ same. differs (omega arith)))))
    ])

-- the words of a range into which others are put
pub overwritten_words : (old new : List (Option Word)) (base n at : ℕ) (words : List Word) → at + length words ≤ n
    → ((k : ℕ) → k < length words → word_at new (base + (at + k)) ≡ get_or words k Undef)
    → ((k : ℕ) → k < n → is_in at (length words) k ≡ false → cell new (base + k) ≡ cell old (base + k))
    → words_from new base n ≡ overwritten (words_from old base n) at words
overwritten_words old new base n at words within inside outside =
    let size = length_words old base n in
    let front : length (take at (words_from old base n)) ≡ at = length-take-le at (words_from old base n) (omega arith) in
    let back : length (drop (at + length words) (words_from old base n)) ≡ n - (at + length words) = length-drop (at + length words) (words_from old base n) ∙ ap (λ m. m - (at + length words)) size in
    words_are new base n (overwritten (words_from old base n) at words)
    (length-append (take at (words_from old base n)) (words ++ drop (at + length words) (words_from old base n))
    ∙ (let e = length-append words (drop (at + length words) (words_from old base n)) in omega arith))
    (λ k d there. elim (cases_lt k at) [
      | inl under ↦
          get_or_append_left (take at (words_from old base n)) (words ++ drop (at + length words) (words_from old base n)) d k (omega arith)
          ∙ (get_or-take at (words_from old base n) k d under
          ∙ (get_words old base n k d there
          ∙ ap word_or (sym (outside k there (below_range at (length words) k under)))))
      | inr over ↦
          get_or-append_right (take at (words_from old base n)) (words ++ drop (at + length words) (words_from old base n)) at k d front over
          ∙ elim (cases_lt k (at + length words)) [
            | inl middle ↦
                get_or_append_left words (drop (at + length words) (words_from old base n)) d (k - at) (omega arith)
                ∙ (get_or_default words (k - at) d Undef (omega arith)
                ∙ (sym (inside (k - at) (omega arith))
                ∙ ap (λ i. word_at new (base + i)) (let e : at + (k - at) ≡ k = omega arith in e)))
            | inr past ↦
                get_or-append_right words (drop (at + length words) (words_from old base n)) (length words) (k - at) d refl (omega arith)
                ∙ (get_or-drop (at + length words) (words_from old base n) (k - at - length words) d
                ∙ (ap (λ i. get_or (words_from old base n) i d) (let e : at + length words + (k - at - length words) ≡ k = omega arith in e)
                ∙ (get_words old base n k d there
                ∙ ap word_or (sym (outside k there (above_range at (length words) k past))))))
          ]
    ])

-- the words of a range that was just taken
pub unset_words : (new : List (Option Word)) (base len : ℕ) → ((k : ℕ) → k < len → cell new (base + k) ≡ Some Undef) → words_from new base len ≡ replicate len Undef
unset_words new base len unset =
    words_are new base len (replicate len Undef) (length-replicate len Undef)
    (λ k d within. get_or-replicate len k Undef d within ∙ ap word_or (sym (unset k within)))
