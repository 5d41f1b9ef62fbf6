-- Lists of copies before and behind a change.
use Rattle.std.proofs.Common.{◌≡◌, ℕ, ◌+◌, Bool, true, false, List, [], ◌∷◌, ◌++◌, length, get_or, None, is_some, refl, sym, ap, ◌∙◌, arith}
use Rattle.std.specs.List.{All}
use Rattle.std.proofs.lemmas.Bool.{false≢true}
use Rattle.std.proofs.lemmas.List.{length-append}
use Rattle.std.proofs.lemmas.List.Elements.{All-nil, All-cons, All-head, All-tail, All-weaker, All-push}
use Rattle.mpi_copy.specs.declared.Held.{Held}
use Rattle.block_table.specs.Rows.{IsLive}
use Rattle.word_region.specs.Places.{cell, is_in}
use Rattle.object_heap.specs.Layout.{Layout, is_in_row}
use Rattle.object_heap.specs.Copies.{IsCopy, AreApart, AreAllApart, AreCopies, copy_words, KeepsCopies, GainsCopy, LosesCopy, IsOneCopy}
use Rattle.object_heap.proofs.Words.{in_range, range_low, range_high, same_words}

-- the place is no live row's
abbrev pub IsNoRow : Layout → ℕ → Type 0
IsNoRow h p = (key : ℕ) → IsLive h.rows key (λ row. is_in_row row p ≡ true) → ⊥

-- a held place of no row keeps its word, and stays a place of no row
abbrev pub Stays : Layout → Layout → ℕ → Type 0
Stays old new p = is_some (cell old.cells p) ≡ true → IsNoRow old p → (cell new.cells p ≡ cell old.cells p) × IsNoRow new p

both_ways : (x y : Bool) → (x ≡ true → y ≡ false) → y ≡ true → x ≡ false
both_ways true y never is = absurd (false≢true (sym (never refl) ∙ is))
both_ways false y never is = refl

pub apart_again : (a b : Held) → AreApart a b → AreApart b a
apart_again a b apart p inside = both_ways (is_in a.base a.len p) (is_in b.base b.len p) (apart p) inside

-- a copy whose places stay
pub copy_stays : (old new : Layout) (copy : Held) → IsCopy old copy → ((p : ℕ) → is_in copy.base copy.len p ≡ true → Stays old new p) → IsCopy new copy
copy_stays old new copy is stays = record {
  some = is.some;
  held = λ p from until.
      let inside = in_range copy.base copy.len p from until in
      ap is_some (stays p inside (is.held p from until) (λ key there. is.apart key p inside there)).0 ∙ is.held p from until;
  apart = λ key p inside there.
      (stays p inside (held_at p inside) (λ k here. is.apart k p inside here)).1 key there;
}
  where
    held_at : (p : ℕ) → is_in copy.base copy.len p ≡ true → is_some (cell old.cells p) ≡ true
    held_at p inside = is.held p (range_low copy.base copy.len p inside) (range_high copy.base copy.len p inside)

pub words_stay : (old new : Layout) (copy : Held) → IsCopy old copy → ((p : ℕ) → is_in copy.base copy.len p ≡ true → Stays old new p) → copy_words new copy ≡ copy_words old copy
words_stay old new copy is stays =
    same_words new.cells old.cells copy.base copy.base copy.len
    (λ k within.
    let inside = in_range copy.base copy.len (copy.base + k) (omega arith) (omega arith) in
    (stays (copy.base + k) inside (is.held (copy.base + k) (omega arith) (omega arith)) (λ key there. is.apart key (copy.base + k) inside there)).0)

-- all copies stay
pub keeps_copies : (old new : Layout) → new.copies ≡ old.copies → ((p : ℕ) → Stays old new p) → KeepsCopies old new
keeps_copies old new count stays = record {
  kept = λ all are. record {
    count = are.count ∙ sym count;
    each = All-weaker (IsCopy old) (IsCopy new) (λ copy is. copy_stays old new copy is (λ p inside. stays p)) all are.each;
    apart = are.apart;
  };
  words = λ all are. All-weaker (IsCopy old) (λ copy. copy_words new copy ≡ copy_words old copy) (λ copy is. words_stay old new copy is (λ p inside. stays p)) all are.each;
}

all_apart_push : (all : List Held) (held : Held) → AreAllApart all → All (λ other. AreApart other held) all → AreAllApart (all ++ held ∷ [])
all_apart_push [] held apart others = (All-nil (AreApart held), tt)
all_apart_push (x ∷ all) held apart others = (
  All-push (AreApart x) all held apart.0 (All-head (λ other. AreApart other held) x all others),
  all_apart_push all held apart.1 (All-tail (λ other. AreApart other held) x all others),
)

-- one copy more, in places that were free
pub gains_copy : (old new : Layout) (held : Held) → new.copies ≡ old.copies + 1 → ((p : ℕ) → Stays old new p) → IsCopy new held
    → ((p : ℕ) → is_in held.base held.len p ≡ true → cell old.cells p ≡ None) → GainsCopy old new held
gains_copy old new held count stays is free = record {
  gained = λ all are. record {
    count = length-append all (held ∷ []) ∙ (let e = are.count in let f : length all + 1 ≡ new.copies = omega arith in f);
    each = All-push (IsCopy new) all held (All-weaker (IsCopy old) (IsCopy new) (λ copy was. copy_stays old new copy was (λ p inside. stays p)) all are.each) is;
    apart = all_apart_push all held are.apart (All-weaker (IsCopy old) (λ other. AreApart other held) apart_from all are.each);
  };
  words = λ all are. All-weaker (IsCopy old) (λ copy. copy_words new copy ≡ copy_words old copy) (λ copy was. words_stay old new copy was (λ p inside. stays p)) all are.each;
}
  where
    apart_from : (other : Held) → IsCopy old other → AreApart other held
    apart_from other was p inside = by (is_in held.base held.len p) refl
      where
        by : (b : Bool) → is_in held.base held.len p ≡ b → is_in held.base held.len p ≡ false
        by false e = e
        by true e = absurd (false≢true (ap is_some (sym (free p e)) ∙ was.held p (range_low other.base other.len p inside) (range_high other.base other.len p inside)))

pub all_middle : (P : Held → Type 0) (before after : List Held) (held : Held) → All P (before ++ held ∷ after) → P held
all_middle P [] after held all = All-head P held after all
all_middle P (x ∷ before) after held all = all_middle P before after held (All-tail P x (before ++ held ∷ after) all)

pub all_without : (P : Held → Type 0) (before after : List Held) (held : Held) → All P (before ++ held ∷ after) → All P (before ++ after)
all_without P [] after held all = All-tail P held after all
all_without P (x ∷ before) after held all =
    All-cons P x (before ++ after) (All-head P x (before ++ held ∷ after) all) (all_without P before after held (All-tail P x (before ++ held ∷ after) all))

apart_without : (before after : List Held) (held : Held) → AreAllApart (before ++ held ∷ after) → AreAllApart (before ++ after)
apart_without [] after held apart = apart.1
apart_without (x ∷ before) after held apart = (all_without (AreApart x) before after held apart.0, apart_without before after held apart.1)

apart_middle : (before after : List Held) (held : Held) → AreAllApart (before ++ held ∷ after) → All (AreApart held) (before ++ after)
apart_middle [] after held apart = apart.0
apart_middle (x ∷ before) after held apart =
    All-cons (AreApart held) x (before ++ after) (apart_again x held (all_middle (AreApart x) before after held apart.0)) (apart_middle before after held apart.1)

all_both : (P Q R : Held → Type 0) → ((x : Held) → P x → Q x → R x) → (xs : List Held) → All P xs → All Q xs → All R xs
all_both P Q R joins xs ps qs k d within = joins (get_or xs k d) (ps k d within) (qs k d within)

length_without : (before after : List Held) (held : Held) → length (before ++ held ∷ after) ≡ length (before ++ after) + 1
length_without before after held = let a = length-append before (held ∷ after) in let b = length-append before after in omega arith

-- one copy less, whose places alone are given up
pub loses_copy : (old new : Layout) (held : Held) → new.copies + 1 ≡ old.copies → ((p : ℕ) → is_in held.base held.len p ≡ false → Stays old new p) → LosesCopy old new held
loses_copy old new held count stays = record {
  lost = λ before after are. record {
    count = let a = are.count in let b = length_without before after held in omega arith;
    each = all_both (IsCopy old) (AreApart held) (IsCopy new)
        (λ copy is apart. copy_stays old new copy is (λ p inside. stays p (apart_again held copy apart p inside)))
        (before ++ after) (all_without (IsCopy old) before after held are.each) (apart_middle before after held are.apart);
    apart = apart_without before after held are.apart;
  };
  words = λ before after are. all_both (IsCopy old) (AreApart held) (λ copy. copy_words new copy ≡ copy_words old copy)
      (λ copy is apart. words_stay old new copy is (λ p inside. stays p (apart_again held copy apart p inside)))
      (before ++ after) (all_without (IsCopy old) before after held are.each) (apart_middle before after held are.apart);
}

-- each member of a list of all copies
pub one_of_all : (h : Layout) (before after : List Held) (held : Held) → AreCopies h (before ++ held ∷ after) → IsOneCopy h held
one_of_all h before after held are = record {
  stands = all_middle (IsCopy h) before after held are.each;
  counted = let a = are.count in let b = length_without before after held in omega arith;
}
