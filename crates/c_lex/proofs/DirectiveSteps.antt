-- What stands behind a directive's word, by places of the source.
use Rattle.std.proofs.Common.{◌≡◌, ℕ, ◌+◌, ◌-◌, Bool, true, false, cond, not, ◌&&◌, List, take, drop, refl, sym, ap, ◌∙◌, arith, Some, None, codes}
use Rattle.std.proofs.lemmas.List.{drop-drop}
use Rattle.std.specs.Option.{option_map}
use Rattle.std.specs.Str.{bytes_eq}
use Rattle.c_lex.specs.declared.pieces.Found.TheVariants.{Include, Pragma}
use Rattle.c_lex.specs.declared.directives.Along.TheVariants.{Between}
use Rattle.c_lex.specs.Bytes.{is_gap, is_letter, is_name_byte, is_line_byte}
use Rattle.c_lex.specs.Defined.{Meanings}
use Rattle.c_lex.specs.Lookups.{is_key}
use Rattle.c_lex.specs.Front.{run, is_line_over, number_of, value_found, value_at, numbered, starts, define_agreed, define_named, define_at, directive_named, directive_at}

-- a part of the source by its two ends
pub part : (src : List ℕ) (at len : ℕ) → take (at + len - at) (drop at src) ≡ take len (drop at src)
part src at len = ap (λ n. take n (drop at src)) (omega arith)

value_is : (space len : ℕ) (rest : List ℕ) → len ≡ run is_name_byte rest → value_at space rest ≡ cond (is_line_over Between (drop len rest)) (option_map (value_found (space + len)) (number_of (take len rest))) None
unfolding value_at
value_is space len rest e = ap (λ m. cond (is_line_over Between (drop m rest)) (option_map (value_found (space + m)) (number_of (take m rest))) None) (sym e)

pub numbered_is : (src : List ℕ) (from space len : ℕ) → space ≡ run is_gap (drop from src) → len ≡ run is_name_byte (drop (from + space) src) →
    numbered (drop from src) ≡ cond (is_line_over Between (drop (from + space + len) src)) (option_map (value_found (space + len)) (number_of (take (from + space + len - (from + space)) (drop (from + space) src)))) None
unfolding numbered
numbered_is src from space len e f =
    ap (λ k. value_at k (drop k (drop from src))) (sym e)
    ∙ (ap (value_at space) (drop-drop space from src)
    ∙ (value_is space len (drop (from + space) src) f
    ∙ (ap (λ l. cond (is_line_over Between l) (option_map (value_found (space + len)) (number_of (take len (drop (from + space) src)))) None) (drop-drop len (from + space) src)
    ∙ ap (λ l. cond (is_line_over Between (drop (from + space + len) src)) (option_map (value_found (space + len)) (number_of l)) None) (sym (part src (from + space) len)))))

pub named_is : (src : List ℕ) (known : Meanings) (gap at len : ℕ) → len ≡ run is_name_byte (drop at src) →
    define_named known gap (drop at src) ≡ cond (starts is_letter (drop at src) && not (is_key (take len (drop at src)))) (define_agreed known gap (take (at + len - at) (drop at src)) len (numbered (drop (at + len) src))) None
unfolding define_named
named_is src known gap at len e =
    ap (λ m. cond (starts is_letter (drop at src) && not (is_key (take m (drop at src)))) (define_agreed known gap (take m (drop at src)) m (numbered (drop m (drop at src)))) None) (sym e)
    ∙ (ap (λ l. cond (starts is_letter (drop at src) && not (is_key (take len (drop at src)))) (define_agreed known gap (take len (drop at src)) len (numbered l)) None) (drop-drop len at src)
    ∙ ap (λ l. cond (starts is_letter (drop at src) && not (is_key (take len (drop at src)))) (define_agreed known gap l len (numbered (drop (at + len) src))) None) (sym (part src at len)))

pub define_is : (src : List ℕ) (known : Meanings) (at gap : ℕ) → gap ≡ run is_gap (drop at src) → define_at known (drop at src) ≡ define_named known gap (drop (at + gap) src)
unfolding define_at
define_is src known at gap e = ap (λ k. define_named known k (drop k (drop at src))) (sym e) ∙ ap (define_named known gap) (drop-drop gap at src)

pub directive_is : (src : List ℕ) (known : Meanings) (at len : ℕ) → len ≡ run is_name_byte (drop at src) → directive_at known (drop at src) ≡ directive_named known (take (at + len - at) (drop at src)) (drop at src)
unfolding directive_at
directive_is src known at len e = ap (λ m. directive_named known (take m (drop at src)) (drop at src)) (sym e) ∙ ap (λ l. directive_named known l (drop at src)) (sym (part src at len))

-- the four kinds of directive
pub by_word : (src : List ℕ) (known : Meanings) (at : ℕ) (word : List ℕ) →
    directive_named known word (drop at src)
    ≡ cond (bytes_eq word (codes "include")) (Some (Include, 8 + run is_line_byte (drop (at + 7) src)))
    (cond (bytes_eq word (codes "pragma")) (Some (Pragma, 7 + run is_line_byte (drop (at + 6) src)))
    (cond (bytes_eq word (codes "define")) (define_at known (drop (at + 6) src)) None))
unfolding directive_named
by_word src known at word =
    ap (λ l. cond (bytes_eq word (codes "include")) (Some (Include, 8 + run is_line_byte l))
    (cond (bytes_eq word (codes "pragma")) (Some (Pragma, 7 + run is_line_byte (drop 6 (drop at src))))
    (cond (bytes_eq word (codes "define")) (define_at known (drop 6 (drop at src))) None))) (drop-drop 7 at src)
    ∙ ap (λ l. cond (bytes_eq word (codes "include")) (Some (Include, 8 + run is_line_byte (drop (at + 7) src)))
    (cond (bytes_eq word (codes "pragma")) (Some (Pragma, 7 + run is_line_byte l))
    (cond (bytes_eq word (codes "define")) (define_at known l) None))) (drop-drop 6 at src)

pub if_true : {A : Type 0} (b : Bool) (x y : A) → true ≡ b → cond b x y ≡ x
if_true true x y e = refl
if_true false x y e = cc

pub if_false : {A : Type 0} (b : Bool) (x y : A) → false ≡ b → cond b x y ≡ y
if_false true x y e = cc
if_false false x y e = refl
