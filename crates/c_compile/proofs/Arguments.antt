-- Words that were put on the stack one after the other, as the arguments of a call.
use Rattle.std.proofs.Common.{◌≡◌, ℕ, List, [], ◌∷◌, ◌++◌, length, refl, sym, ap, ◌∙◌, append_assoc, take, drop, reverse}
use Rattle.std.proofs.lemmas.List.{reverse-append, reverse-reverse, length-reverse}
use Rattle.std.proofs.Math.Seq.{take-append_seam, drop-append_seam}
use Rattle.mpc_values.specs.declared.values.Word.{Word}
use Rattle.c_code.specs.Machine.{arguments_on}

-- the words on the stack, the last on top
abbrev pub pushed : List Word → List Word → List Word
pushed [] stack = stack
pushed (w ∷ ws) stack = pushed ws (w ∷ stack)

pushed_is : (ws stack : List Word) → pushed ws stack ≡ reverse ws ++ stack
pushed_is [] stack = refl
pushed_is (w ∷ ws) stack =
    pushed_is ws (w ∷ stack) ∙ sym (append_assoc (reverse ws) (w ∷ []) stack) ∙ ap (λ l. l ++ stack) (sym (reverse-append (w ∷ []) ws))

taken_length : (args stack : List Word) → reverse (take (length args) (pushed args stack)) ≡ args
taken_length args stack =
    ap (λ l. reverse (take (length args) l)) (pushed_is args stack)
    ∙ ap (λ n. reverse (take n (reverse args ++ stack))) (sym (length-reverse args))
    ∙ ap reverse (take-append_seam (reverse args) stack)
    ∙ reverse-reverse args

dropped_length : (args stack : List Word) → drop (length args) (pushed args stack) ≡ stack
dropped_length args stack =
    ap (λ l. drop (length args) l) (pushed_is args stack)
    ∙ ap (λ n. drop n (reverse args ++ stack)) (sym (length-reverse args))
    ∙ drop-append_seam (reverse args) stack

-- so many words that were put there are the arguments, and the stack is left below them
pub taken : (count : ℕ) (args stack : List Word) → length args ≡ count → arguments_on count (pushed args stack) ≡ args
taken count args stack e = ap (λ n. reverse (take n (pushed args stack))) (sym e) ∙ taken_length args stack

pub dropped : (count : ℕ) (args stack : List Word) → length args ≡ count → drop count (pushed args stack) ≡ stack
dropped count args stack e = ap (λ n. drop n (pushed args stack)) (sym e) ∙ dropped_length args stack
