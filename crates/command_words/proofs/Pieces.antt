-- Cutting a list at its first comma.
use Rattle.std.proofs.Common.{◌≡◌, ◌<◌, ◌+◌, ℕ, zero, suc, Bool, true, false, ◌==◌, not, cond, if◌then◌else◌, List, [], ◌∷◌, ◌++◌, length, take, drop, Option, Some, None, refl, sym, ap, ap₂, ◌∙◌, subst, arith, option_map, append_assoc, append-nil}
use Rattle.std.specs.List.{position_or_len, prefix_len, before_first, after_first}
use Rattle.command_words.specs.Numbers.{number_between}
use Rattle.command_words.specs.Lists.{with_byte, pieces, with_number, numbers_of, listed}

abbrev is_comma : ℕ → Bool
is_comma byte = byte == 44

-- numbers that were read, and those of the rest
abbrev pub joined : List ℕ → Option (List ℕ) → Option (List ℕ)
joined read others = option_map (λ (numbers : List ℕ). read ++ numbers) others

pieces_more : (byte : ℕ) (text : List ℕ) → pieces (byte ∷ text) ≡ (if byte == 44 then [] ∷ pieces text else with_byte byte (pieces text))
unfolding pieces
pieces_more byte text = refl

pieces_none : pieces [] ≡ [] ∷ []
unfolding pieces
pieces_none = refl

-- a list without a comma is one piece
pub whole : (text : List ℕ) → position_or_len is_comma text ≡ length text → pieces text ≡ text ∷ []
whole [] e = pieces_none
whole (byte ∷ text) e = pieces_more byte text ∙ by (byte == 44) refl (whole text)
  where
    by : (b : Bool) → (byte == 44) ≡ b → (position_or_len is_comma text ≡ length text → pieces text ≡ text ∷ [])
        → (if b then [] ∷ pieces text else with_byte byte (pieces text)) ≡ (byte ∷ text) ∷ []
    by true is again = absurd (grind arith)
    by false is again = ap (with_byte byte) (again (grind arith))

cut_more : (byte : ℕ) (text : List ℕ) → (byte == 44) ≡ false → before_first is_comma (byte ∷ text) ≡ byte ∷ before_first is_comma text
cut_more byte text is = grind arith

rest_more : (byte : ℕ) (text : List ℕ) → (byte == 44) ≡ false → after_first is_comma (byte ∷ text) ≡ after_first is_comma text
rest_more byte text is = grind arith

-- and else the first piece stands before the first comma
pub cut : (text : List ℕ) → position_or_len is_comma text < length text → pieces text ≡ before_first is_comma text ∷ pieces (after_first is_comma text)
cut [] few = absurd (omega (arith, few))
cut (byte ∷ text) few = pieces_more byte text ∙ by (byte == 44) refl (cut text)
  where
    by : (b : Bool) → (byte == 44) ≡ b → (position_or_len is_comma text < length text → pieces text ≡ before_first is_comma text ∷ pieces (after_first is_comma text))
        → (if b then [] ∷ pieces text else with_byte byte (pieces text)) ≡ before_first is_comma (byte ∷ text) ∷ pieces (after_first is_comma (byte ∷ text))
    by true is again = grind arith
    by false is again =
        ap (with_byte byte) (again (grind arith))
        ∙ ap₂ (λ (x : List ℕ) (y : List ℕ). x ∷ pieces y) (sym (cut_more byte text is)) (sym (rest_more byte text is))

listed_cut : (rest : List ℕ) → position_or_len is_comma rest < length rest
    → listed rest ≡ with_number (number_between 0 255 (before_first is_comma rest)) (listed (after_first is_comma rest))
listed_cut rest few = ap numbers_of (cut rest few)

listed_whole : (rest : List ℕ) → position_or_len is_comma rest ≡ length rest → listed rest ≡ with_number (number_between 0 255 rest) (Some [])
listed_whole rest e = ap numbers_of (whole rest e)

none_more : (read : List ℕ) (first : Option ℕ) (others : Option (List ℕ)) → first ≡ None → None ≡ joined read (with_number first others)
none_more read None others e = refl
none_more read (Some n) others e = absurd (never e)
  where
    never : Some n ≡ None → ⊥
    never f = cc

some_more : (read : List ℕ) (n : ℕ) (first : Option ℕ) (others : Option (List ℕ)) → first ≡ Some n → joined (read ++ n ∷ []) others ≡ joined read (with_number first others)
some_more read n first None e = subst (λ (f : Option ℕ). joined (read ++ n ∷ []) None ≡ joined read (with_number f None)) (sym e) refl
some_more read n first (Some numbers) e =
    subst (λ (f : Option ℕ). joined (read ++ n ∷ []) (Some numbers) ≡ joined read (with_number f (Some numbers))) (sym e) (ap (λ (x : List ℕ). Some x) (append_assoc read (n ∷ []) numbers))

-- a piece that is no number ends the reading
pub stops : (read text rest first : List ℕ) → joined read (listed rest) ≡ listed text → position_or_len is_comma rest < length rest
    → first ≡ before_first is_comma rest → number_between 0 255 first ≡ None → None ≡ listed text
stops read text rest first kept few is none =
    none_more read _ _ (ap (number_between 0 255) (sym is) ∙ none) ∙ ap (joined read) (sym (listed_cut rest few)) ∙ kept

-- a piece that is one leaves the rest
pub goes : (read text rest first more : List ℕ) (n : ℕ) → joined read (listed rest) ≡ listed text → position_or_len is_comma rest < length rest
    → first ≡ before_first is_comma rest → more ≡ after_first is_comma rest → number_between 0 255 first ≡ Some n → joined (read ++ n ∷ []) (listed more) ≡ listed text
goes read text rest first more n kept few is left some =
    ap (λ (m : List ℕ). joined (read ++ n ∷ []) (listed m)) left
    ∙ some_more read n _ (listed (after_first is_comma rest)) (ap (number_between 0 255) (sym is) ∙ some) ∙ ap (joined read) (sym (listed_cut rest few)) ∙ kept

-- so it is with the last piece
pub stops_last : (read text rest : List ℕ) → joined read (listed rest) ≡ listed text → position_or_len is_comma rest ≡ length rest
    → number_between 0 255 rest ≡ None → None ≡ listed text
stops_last read text rest kept e none = none_more read _ (Some []) none ∙ ap (joined read) (sym (listed_whole rest e)) ∙ kept

pub ends : (read text rest : List ℕ) (n : ℕ) → joined read (listed rest) ≡ listed text → position_or_len is_comma rest ≡ length rest
    → number_between 0 255 rest ≡ Some n → Some (read ++ n ∷ []) ≡ listed text
ends read text rest n kept e some =
    ap Some (sym (append-nil (read ++ n ∷ []))) ∙ some_more read n _ (Some []) some ∙ ap (joined read) (sym (listed_whole rest e)) ∙ kept
