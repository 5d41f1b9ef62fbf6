-- What stands at a place of the source, by its first bytes.
use Rattle.std.proofs.Common.{◌≡◌, ℕ, ◌+◌, ◌-◌, ◌<◌, ◌≤◌, Bool, true, false, cond, nat_eq, List, [], ◌∷◌, length, get_or, take, drop, sym, ap, ◌∙◌, arith, eq-eqb, Some, None}
use Rattle.std.proofs.lemmas.Bool.Decides.{nat_tests}
use Rattle.std.proofs.lemmas.List.{drop_more, drop_all}
use Rattle.std.specs.Option.{option_map}
use Rattle.c_lex.specs.declared.pieces.Found.TheVariants.{Feed, Blank, Comment, Taken}
use Rattle.c_lex.specs.Bytes.{is_gap, is_letter, is_digit, is_name_byte, is_line_byte}
use Rattle.c_lex.specs.Defined.{Meanings}
use Rattle.c_lex.specs.Lookups.{sign_at}
use Rattle.c_lex.specs.Front.{run, number_of, number_found, word_kind, word_at, number_at, text_found, text_len, comment_found, close_len, sign_found, slash_at, slash_of, directive_at, other_from, other_at, piece_from, piece_at}
use Rattle.c_lex.proofs.DirectiveSteps.{part}

pub word_is : (src : List ℕ) (known : Meanings) (at len : ℕ) → len ≡ run is_name_byte (drop at src) → word_at known (drop at src) ≡ Some (Taken (word_kind known (take (at + len - at) (drop at src))), len)
unfolding word_at
word_is src known at len e =
    ap (λ n. Some (Taken (word_kind known (take n (drop at src))), n)) (sym e) ∙ ap (λ l. Some (Taken (word_kind known l), len)) (sym (part src at len))

pub number_is : (src : List ℕ) (at len : ℕ) → len ≡ run is_name_byte (drop at src) → number_at (drop at src) ≡ option_map (number_found len) (number_of (take (at + len - at) (drop at src)))
unfolding number_at
number_is src at len e =
    ap (λ n. option_map (number_found n) (number_of (take n (drop at src)))) (sym e) ∙ ap (λ l. option_map (number_found len) (number_of l)) (sym (part src at len))

module _ (src : List ℕ) (at : ℕ) (inside : at < length src) where
  first : drop at src ≡ get_or src at 0 ∷ drop (at + 1) src
  first = drop_more src at 0 inside

  pub slash_end : length src ≤ at + 1 → slash_of (drop at src) ≡ sign_found (sign_at (drop at src))
  unfolding slash_of slash_at
  slash_end le =
      let e : drop (at + 1) src ≡ [] = drop_all (at + 1) src le in
      let one : drop at src ≡ get_or src at 0 ∷ [] = first ∙ ap (λ l. get_or src at 0 ∷ l) e in
      ap slash_of one ∙ ap (λ l. sign_found (sign_at l)) (sym one)

  pub slash_more : at + 1 < length src → slash_of (drop at src) ≡ cond (nat_eq (get_or src (at + 1) 0) 47) (Some (Comment, 2 + run is_line_byte (drop (at + 2) src))) (cond (nat_eq (get_or src (at + 1) 0) 42) (option_map comment_found (close_len false (drop (at + 2) src))) (sign_found (sign_at (drop at src))))
  unfolding slash_of slash_at
  slash_more lt =
      let n : at + 1 + 1 ≡ at + 2 = omega arith in
      let e : drop (at + 1) src ≡ get_or src (at + 1) 0 ∷ drop (at + 2) src = drop_more src (at + 1) 0 lt ∙ ap (λ k. get_or src (at + 1) 0 ∷ drop k src) n in
      let two : drop at src ≡ get_or src at 0 ∷ get_or src (at + 1) 0 ∷ drop (at + 2) src = first ∙ ap (λ l. get_or src at 0 ∷ l) e in
      ap slash_of two ∙ ap (λ l. cond (nat_eq (get_or src (at + 1) 0) 47) (Some (Comment, 2 + run is_line_byte (drop (at + 2) src))) (cond (nat_eq (get_or src (at + 1) 0) 42) (option_map comment_found (close_len false (drop (at + 2) src))) (sign_found (sign_at l)))) (sym two)

  pub other_is : (fresh : Bool) (known : Meanings) → other_at fresh known (drop at src) ≡ cond (nat_eq (get_or src at 0) 34) (option_map text_found (text_len false (drop (at + 1) src))) (cond (nat_eq (get_or src at 0) 35) (cond fresh (directive_at known (drop (at + 1) src)) None) (cond (nat_eq (get_or src at 0) 47) (slash_of (drop at src)) (sign_found (sign_at (drop at src)))))
  unfolding other_at other_from slash_of
  other_is fresh known =
      ap (other_at fresh known) first ∙ ap (λ l. cond (nat_eq (get_or src at 0) 34) (option_map text_found (text_len false (drop (at + 1) src))) (cond (nat_eq (get_or src at 0) 35) (cond fresh (directive_at known (drop (at + 1) src)) None) (cond (nat_eq (get_or src at 0) 47) (slash_of l) (sign_found (sign_at l))))) (sym first)

  pub piece_is : (fresh : Bool) (known : Meanings) → piece_at fresh known (drop at src) ≡ cond (nat_eq (get_or src at 0) 10) (Some (Feed, 1)) (cond (is_gap (get_or src at 0)) (Some (Blank, 1)) (cond (is_letter (get_or src at 0)) (word_at known (drop at src)) (cond (is_digit (get_or src at 0)) (number_at (drop at src)) (other_at fresh known (drop at src)))))
  unfolding piece_at piece_from
  piece_is fresh known =
      ap (piece_at fresh known) first ∙ ap (λ l. cond (nat_eq (get_or src at 0) 10) (Some (Feed, 1)) (cond (is_gap (get_or src at 0)) (Some (Blank, 1)) (cond (is_letter (get_or src at 0)) (word_at known l) (cond (is_digit (get_or src at 0)) (number_at l) (other_at fresh known l))))) (sym first)

pub yes : (a b : ℕ) → a ≡ b → true ≡ nat_eq a b
yes a b e = sym (eq-eqb a b e)

pub no : (a b : ℕ) → (a ≡ b → ⊥) → false ≡ nat_eq a b
no a b h = grind (arith, nat_tests)
