-- The items that are worked out are those that the line is cut into, and no others.
use Rattle.std.proofs.Common.{◌≡◌, ℕ, zero, suc, ◌+◌, ◌<◌, true, false, cond, nat_eq, List, [], ◌∷◌, ◌++◌, length, refl, sym, ap, ◌∙◌, subst, arith, add-zero, append_assoc}
use Rattle.std.proofs.lemmas.Bool.Decides.{nat_tests}
use Rattle.std.proofs.lemmas.Grind.{common_steps}
use Rattle.hls_pragma.specs.declared.items.Item.{Item}
use Rattle.hls_pragma.specs.declared.items.Item.TheVariants.{Word}
use Rattle.hls_pragma.specs.Items.{is_blank, is_word_byte, sign_of, word_of, item_of, items_of}
use Rattle.hls_pragma.specs.Cuts.{AllInWord, WordEnds, Cut}
use Rattle.hls_pragma.specs.Cuts as cuts
use Rattle.hls_pragma.proofs.Lists.{if_true, if_false, bool_cases}

blank_no_word : (c : ℕ) → is_blank c ≡ true → is_word_byte c ≡ false
blank_no_word c e = grind (arith, nat_tests)

not_zero : (n : ℕ) → 0 < n → nat_eq n 0 ≡ false
not_zero n e = grind (arith, nat_tests)

start_is : (n s : ℕ) → cond (nat_eq n 0) (s + n) s ≡ s
start_is n s = grind (arith, nat_tests)

append_none : (xs : List Item) → xs ++ [] ≡ xs
append_none [] = refl
append_none (x ∷ xs) = ap (λ l. x ∷ l) (append_none xs)

moved : (at bt s len m : ℕ) (rest : List ℕ) → at ≡ bt → len ≡ m → items_of at s len rest ≡ items_of bt s m rest
moved at bt s len m rest e f = ap (λ k. items_of k s len rest) e ∙ ap (λ k. items_of bt s k rest) f

one_word : (s n : ℕ) → 0 < n → word_of s n ≡ Word (record { start = s; len = n }) ∷ []
one_word s zero h = absurd (omega arith)
one_word s (suc n) h = refl

-- where no word has begun it does not matter where one did before
start_free : (at s t : ℕ) (bytes : List ℕ) → items_of at s 0 bytes ≡ items_of at t 0 bytes
start_free at s t [] = refl
start_free at s t (c ∷ cs) = bool_cases (λ b. cond b (items_of (at + 1) at 1 cs) (item_of c ++ items_of (at + 1) s 0 cs) ≡ cond b (items_of (at + 1) at 1 cs) (item_of c ++ items_of (at + 1) t 0 cs)) (is_word_byte c) (λ _. refl) (λ _. ap (λ l. item_of c ++ l) (start_free (at + 1) s t cs))

-- a word ends before these bytes
closes : (at s len : ℕ) (rest : List ℕ) → WordEnds rest → items_of at s len rest ≡ word_of s len ++ items_of at s 0 rest
closes at s len [] h = sym (append_none (word_of s len))
closes at s len (c ∷ cs) h = if_false _ _ _ h ∙ ap (λ l. word_of s len ++ l) (sym (if_false _ _ _ h))

goes : (at s len : ℕ) (w rest : List ℕ) → 0 < len → AllInWord w → items_of at s len (w ++ rest) ≡ items_of (at + length w) s (len + length w) rest
goes at s len [] rest p h = moved at (at + 0) s len (len + 0) rest (omega arith) (omega arith)
goes at s len (c ∷ cs) rest p h =
    if_true _ _ _ h.0
    ∙ (ap (λ k. items_of (at + 1) k (len + 1) (cs ++ rest)) (if_false (nat_eq len 0) at s (not_zero len p))
    ∙ (goes (at + 1) s (len + 1) cs rest (omega arith) h.1
    ∙ moved (at + 1 + length cs) (at + length (c ∷ cs)) s (len + 1 + length cs) (len + length (c ∷ cs)) rest (omega arith) (omega arith)))

word_front : (at s c : ℕ) (cs rest : List ℕ) → AllInWord (c ∷ cs) → WordEnds rest → items_of at s 0 (c ∷ (cs ++ rest)) ≡ Word (record { start = at; len = length (c ∷ cs) }) ∷ items_of (at + length (c ∷ cs)) at 0 rest
word_front at s c cs rest h e =
    if_true _ _ _ h.0
    ∙ (goes (at + 1) at 1 cs rest (omega arith) h.1
    ∙ (moved (at + 1 + length cs) (at + length (c ∷ cs)) at (1 + length cs) (length (c ∷ cs)) rest (omega arith) (omega arith)
    ∙ (closes (at + length (c ∷ cs)) at (length (c ∷ cs)) rest e
    ∙ ap (λ l. l ++ items_of (at + length (c ∷ cs)) at 0 rest) (one_word at (length (c ∷ cs)) (omega arith)))))

other_front : (at s c : ℕ) (rest : List ℕ) → is_word_byte c ≡ false → items_of at s 0 (c ∷ rest) ≡ item_of c ++ items_of (at + 1) s 0 rest
other_front at s c rest e = if_false _ _ _ e

pub cut_is : {at : ℕ} {bytes : List ℕ} {items : List Item} → Cut at bytes items → (s : ℕ) → items ≡ items_of at s 0 bytes
cut_is cuts.over s = refl
cut_is (cuts.blank {at} {bytes} {items} c rest e b h) s =
    cut_is h s
    ∙ (ap (λ l. l ++ items_of (at + 1) s 0 rest) (sym (if_true (is_blank c) [] (sign_of c ∷ []) b))
    ∙ (sym (other_front at s c rest (blank_no_word c b)) ∙ ap (items_of at s 0) (sym e)))
cut_is (cuts.sign {at} {bytes} {items} c rest behind e b w f h) s =
    f ∙ (ap (λ l. sign_of c ∷ l) (cut_is h s)
    ∙ (ap (λ l. l ++ items_of (at + 1) s 0 rest) (sym (if_false (is_blank c) [] (sign_of c ∷ []) b))
    ∙ (sym (other_front at s c rest w) ∙ ap (items_of at s 0) (sym e))))
cut_is (cuts.word {at} {bytes} {items} c cs rest behind e a w f h) s =
    f ∙ (ap (λ l. Word (record { start = at; len = length (c ∷ cs) }) ∷ l) (cut_is h at)
    ∙ (sym (word_front at s c cs rest a w) ∙ ap (items_of at s 0) (sym e)))

all_more : (w : List ℕ) (b : ℕ) → AllInWord w → is_word_byte b ≡ true → AllInWord (w ++ b ∷ [])
all_more [] b h e = (e, tt)
all_more (c ∷ cs) b h e = (h.0, all_more cs b h.1 e)

one_longer : (w : List ℕ) (b : ℕ) → length (w ++ b ∷ []) ≡ length w + 1
one_longer w b = grind (arith, common_steps)

-- a byte in no word, before bytes that are cut
before : (at b : ℕ) (bs : List ℕ) (behind : List Item) → is_word_byte b ≡ false → Cut (at + 1) bs behind → Cut at (b ∷ bs) (item_of b ++ behind)
before at b bs behind w h = bool_cases (λ x. is_blank b ≡ x → Cut at (b ∷ bs) (cond x [] (sign_of b ∷ []) ++ behind)) (is_blank b)
    (λ _ e. cuts.blank b bs refl e h)
    (λ _ e. cuts.sign b bs behind refl e w refl h) refl

-- a word, before a byte in none
ended : (s : ℕ) (w : List ℕ) (b : ℕ) (bs : List ℕ) (behind : List Item) → AllInWord w → is_word_byte b ≡ false → Cut (s + length w) (b ∷ bs) behind → Cut s (w ++ b ∷ bs) (word_of s (length w) ++ behind)
ended s [] b bs behind a e h = subst (λ k. Cut k (b ∷ bs) behind) (add-zero s) h
ended s (c ∷ cs) b bs behind a e h = cuts.word c cs (b ∷ bs) behind refl a e (ap (λ l. l ++ behind) (one_word s (length (c ∷ cs)) (omega arith))) h

found : (bytes : List ℕ) (s : ℕ) (w : List ℕ) → AllInWord w → Cut s (w ++ bytes) (items_of (s + length w) s (length w) bytes)
found [] s [] h = cuts.over
found [] s (c ∷ cs) h = cuts.word c cs [] [] refl h tt (one_word s (length (c ∷ cs)) (omega arith)) cuts.over
found (b ∷ bs) s w h = bool_cases (λ x. is_word_byte b ≡ x → Cut s (w ++ b ∷ bs) (cond x (items_of (s + length w + 1) (cond (nat_eq (length w) 0) (s + length w) s) (length w + 1) bs) (word_of s (length w) ++ (item_of b ++ items_of (s + length w + 1) s 0 bs)))) (is_word_byte b)
    (λ _ e.
    let l : length (w ++ b ∷ []) ≡ length w + 1 = one_longer w b in
    let k : s + length (w ++ b ∷ []) ≡ s + length w + 1 = omega (arith, l) in
    let i : items_of (s + length (w ++ b ∷ [])) s (length (w ++ b ∷ [])) bs ≡ items_of (s + length w + 1) (cond (nat_eq (length w) 0) (s + length w) s) (length w + 1) bs =
    moved (s + length (w ++ b ∷ [])) (s + length w + 1) s (length (w ++ b ∷ [])) (length w + 1) bs k l ∙ ap (λ t. items_of (s + length w + 1) t (length w + 1) bs) (sym (start_is (length w) s)) in
    subst (λ t. Cut s (w ++ b ∷ bs) t) i (subst (λ t. Cut s t (items_of (s + length (w ++ b ∷ [])) s (length (w ++ b ∷ [])) bs)) (append_assoc w (b ∷ []) bs) (found bs s (w ++ b ∷ []) (all_more w b h e))))
    (λ _ e.
    let at = s + length w in
    let i : items_of (at + 1 + 0) (at + 1) 0 bs ≡ items_of (at + 1) s 0 bs = moved (at + 1 + 0) (at + 1) (at + 1) 0 0 bs (add-zero (at + 1)) refl ∙ start_free (at + 1) (at + 1) s bs in
    ended s w b bs (item_of b ++ items_of (at + 1) s 0 bs) h e (before at b bs (items_of (at + 1) s 0 bs) e (subst (λ t. Cut (at + 1) bs t) i (found bs (at + 1) [] tt)))) refl

pub cut_of : (line : List ℕ) → Cut 0 line (items_of 0 0 0 line)
cut_of line = found line 0 [] tt
