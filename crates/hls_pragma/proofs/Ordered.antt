-- The names of a directive stand in order within its line.
use Rattle.std.proofs.Common.{◌≡◌, ℕ, ◌+◌, ◌≤◌, cond, codes, nat_eq, List, [], ◌∷◌, ◌++◌, length, refl, sym, ap, ◌∙◌, subst, arith, length-append}
use Rattle.hls_pragma.specs.declared.directives.NameSpan.{NameSpan}
use Rattle.hls_pragma.specs.declared.directives.Pragma.{Pragma}
use Rattle.hls_pragma.specs.declared.directives.Pragma.TheVariants.{Scope, Single, Barrier, Foreign}
use Rattle.hls_pragma.specs.declared.items.Item.{Item}
use Rattle.hls_pragma.specs.declared.items.Item.TheVariants.{Word, Open, Comma, Close, Other}
use Rattle.hls_pragma.specs.Items.{sign_of}
use Rattle.hls_pragma.specs.Cuts.{Cut}
use Rattle.hls_pragma.specs.Cuts as cuts
use Rattle.hls_pragma.specs.Reads.{listed, level_text, Lists, Reads}
use Rattle.hls_pragma.specs.Spans.{InOrder, names_of}
use Rattle.hls_pragma.proofs.Lists.{bool_cases}

-- the words among some items
abbrev words_of : List Item → List NameSpan
words_of [] = []
words_of (Word n ∷ items) = n ∷ words_of items
words_of (Open ∷ items) = words_of items
words_of (Comma ∷ items) = words_of items
words_of (Close ∷ items) = words_of items
words_of (Other ∷ items) = words_of items

from_earlier : (at from size : ℕ) (ns : List NameSpan) → at ≤ from → InOrder from size ns → InOrder at size ns
from_earlier at from size [] le h = tt
from_earlier at from size (n ∷ ns) le h = (omega (arith, h.0), h.1, h.2, h.3)

front : (at size : ℕ) (ns ms : List NameSpan) → InOrder at size (ns ++ ms) → InOrder at size ns
front at size [] ms h = tt
front at size (n ∷ ns) ms h = (h.0, h.1, h.2, front (n.start + n.len) size ns ms h.3)

no_word : (c : ℕ) (items : List Item) → words_of (sign_of c ∷ items) ≡ words_of items
no_word c items = bool_cases (λ b. words_of (cond b Open (cond (nat_eq c 44) Comma (cond (nat_eq c 41) Close Other)) ∷ items) ≡ words_of items) (nat_eq c 40) (λ _. refl)
    (λ _. bool_cases (λ b. words_of (cond b Comma (cond (nat_eq c 41) Close Other) ∷ items) ≡ words_of items) (nat_eq c 44) (λ _. refl)
    (λ _. bool_cases (λ b. words_of (cond b Close Other ∷ items) ≡ words_of items) (nat_eq c 41) (λ _. refl) (λ _. refl)))

ordered : {at : ℕ} {bytes : List ℕ} {items : List Item} (size : ℕ) → at + length bytes ≡ size → Cut at bytes items → InOrder at size (words_of items)
ordered size e cuts.over = tt
ordered size e (cuts.blank {at} {bytes} {items} c rest is b h) =
    let n : length bytes ≡ length (c ∷ rest) = ap length is in
    from_earlier at (at + 1) size (words_of items) (omega arith) (ordered size (omega (arith, n, e)) h)
ordered size e (cuts.sign {at} {bytes} {items} c rest behind is b w f h) =
    let n : length bytes ≡ length (c ∷ rest) = ap length is in
    subst (InOrder at size) (sym (ap words_of f ∙ no_word c behind)) (from_earlier at (at + 1) size (words_of behind) (omega arith) (ordered size (omega (arith, n, e)) h))
ordered size e (cuts.word {at} {bytes} {items} c cs rest behind is a w f h) =
    let n : length bytes ≡ length (c ∷ (cs ++ rest)) = ap length is in
    let m : length (cs ++ rest) ≡ length cs + length rest = length-append cs rest in
    let k : length bytes ≡ length (c ∷ cs) + length rest = omega (arith, n, m) in
    let le : at + length (c ∷ cs) ≤ size = omega (arith, k, e) in
    let tail : InOrder (at + length (c ∷ cs)) size (words_of behind) = ordered size (omega (arith, k, e)) h in
    subst (InOrder at size) (sym (ap words_of f)) (omega arith, omega arith, le, tail)

listed_words : (ns : List NameSpan) (rest : List Item) → words_of (listed ns ++ Close ∷ rest) ≡ ns ++ words_of rest
listed_words [] rest = refl
listed_words (n ∷ []) rest = refl
listed_words (n ∷ m ∷ ns) rest = ap (λ l. n ∷ l) (listed_words (m ∷ ns) rest)

names_ordered : (line word : List ℕ) (names : List NameSpan) (rest : List Item) → Lists line word names rest → InOrder 0 (length line) names
names_ordered line word names rest h =
    let all = ordered (length line) (omega arith) h.items in
    let mine : InOrder (h.second.start + h.second.len) (length line) (names ++ words_of rest) = subst (InOrder (h.second.start + h.second.len) (length line)) (listed_words names rest) all.3.3 in
    from_earlier 0 (h.second.start + h.second.len) (length line) names (omega arith) (front (h.second.start + h.second.len) (length line) names (words_of rest) mine)

pub reading_ordered : (line : List ℕ) (p : Pragma) → Reads line p → InOrder 0 (length line) (names_of p)
reading_ordered line (Scope level names) h = names_ordered line (level_text level) names [] h
reading_ordered line (Single names nowait) h = names_ordered line (codes "single") names h.0 h.1
reading_ordered line (Barrier names) h = names_ordered line (codes "barrier") names [] h
reading_ordered line Foreign h = tt
