-- What an item more says of the names that are read.
use Rattle.std.proofs.Common.{◌≡◌, ℕ, ◌-◌, ◌≤◌, length, take, drop, get_or, arith, append_assoc, cond, List, [], ◌∷◌, ◌++◌, refl, sym, ap, ◌∙◌, subst, Option, Some, None}
use Rattle.std.proofs.lemmas.Grind.{common_steps}
use Rattle.std.specs.Option.{option_map}
use Rattle.hls_pragma.specs.declared.directives.NameSpan.{NameSpan}
use Rattle.hls_pragma.specs.declared.items.Item.{Item}
use Rattle.hls_pragma.specs.declared.items.Item.TheVariants.{Word, Open, Comma, Close, Other}
use Rattle.hls_pragma.specs.Front.{begins_name, name_in, one_more, names_at}
use Rattle.hls_pragma.proofs.Lists.{bool_cases}

-- names before those that are read
abbrev pub prepend : List NameSpan → List NameSpan × List Item → List NameSpan × List Item
prepend ns p = (ns ++ p.0, p.1)

cut_two : (i s : Item) (rest : List Item) → take (length (i ∷ s ∷ rest) - 2) (drop 2 (i ∷ s ∷ rest)) ≡ rest
cut_two i s rest = grind (arith, common_steps)

prepended : (list : List NameSpan) (n : NameSpan) (o : Option (List NameSpan × List Item)) → option_map (prepend list) (option_map (one_more n) o) ≡ option_map (prepend (list ++ n ∷ [])) o
prepended list n None = refl
prepended list n (Some p) = ap (λ ns. Some (ns, p.1)) (sym (append_assoc list (n ∷ []) p.0))

listed_more : (line : List ℕ) (i : Item) (n : NameSpan) (rest : List Item) → name_in line i ≡ Some n → names_at line (i ∷ Comma ∷ rest) ≡ option_map (one_more n) (names_at line rest)
listed_more line (Word m) n rest e = bool_cases (λ b. ◌≡◌ {A = Option NameSpan} (cond {A = Option NameSpan} b (Some m) None) (Some n) → ◌≡◌ {A = Option (List NameSpan × List Item)} (cond {A = Option (List NameSpan × List Item)} b (option_map (one_more m) (names_at line rest)) None) (option_map (one_more n) (names_at line rest))) (begins_name line m)
    (λ _ g. let q : m ≡ n = cc in ap (λ k. option_map (one_more k) (names_at line rest)) q)
    (λ _ g. cc) e
listed_more line Open n rest e = cc
listed_more line Comma n rest e = cc
listed_more line Close n rest e = cc
listed_more line Other n rest e = cc

-- a name and a comma at the front of what is left
pub goes_on : (line : List ℕ) (list : List NameSpan) (rest : List Item) (d : Item) (n : NameSpan) → 2 ≤ length rest → name_in line (get_or rest 0 d) ≡ Some n → get_or rest 1 d ≡ Comma →
    option_map (prepend list) (names_at line rest) ≡ option_map (prepend (list ++ n ∷ [])) (names_at line (take (length rest - 2) (drop 2 rest)))
goes_on line list [] d n h e f = absurd (omega arith)
goes_on line list (i ∷ []) d n h e f = absurd (omega arith)
goes_on line list (i ∷ s ∷ rest) d n h e f =
    subst (λ l. option_map (prepend list) (names_at line (i ∷ s ∷ rest)) ≡ option_map (prepend (list ++ n ∷ [])) (names_at line l)) (sym (cut_two i s rest))
    (subst (λ t. option_map (prepend list) (names_at line (i ∷ t ∷ rest)) ≡ option_map (prepend (list ++ n ∷ [])) (names_at line rest)) (sym f)
    (ap (option_map (prepend list)) (listed_more line i n rest e) ∙ prepended list n (names_at line rest)))
