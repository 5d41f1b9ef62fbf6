-- The key that is looked up is the one that is spelt so.
use Rattle.std.proofs.Common.{◌≡◌, ℕ, true, false, cond, List, [], ◌∷◌, map, refl, sym, ap, ◌∙◌, Option, Some, None, is_some}
use Rattle.std.specs.Str.{bytes_eq}
use Rattle.std.proofs.lemmas.Slice.Eq.{bytes_eq-Decides}
use Rattle.c_lex.specs.declared.keys.Key.{Key}
use Rattle.c_lex.specs.declared.keys.Key.TheVariants as key
use Rattle.c_lex.specs.Spellings.{key_spelling, IsNoKey}
use Rattle.c_lex.specs.Lookups.{all_keys, key_row, looked_up, key_of, is_key}
use Rattle.c_lex.proofs.Runs.{bool_cases}

-- each key is looked up by its spelling
key_found : (k : Key) → key_of (key_spelling k) ≡ Some k
unfolding key_of key_spelling
key_found key.Int = refl
key_found k = refl

looked_spelt : (keys : List Key) (word : List ℕ) (k : Key) → looked_up (map key_row keys) word ≡ Some k → word ≡ key_spelling k
looked_spelt [] word k e = cc
looked_spelt (j ∷ keys) word k e = bool_cases (λ b. bytes_eq word (key_spelling j) ≡ b → cond b (Some j) (looked_up (map key_row keys) word) ≡ Some k → word ≡ key_spelling k) (bytes_eq word (key_spelling j))
    (λ _ t g. let same : j ≡ k = cc in (bytes_eq-Decides word (key_spelling j)).0 t ∙ ap key_spelling same)
    (λ _ t g. looked_spelt keys word k g) refl e

pub key_spelt : (word : List ℕ) (k : Key) → key_of word ≡ Some k → word ≡ key_spelling k
unfolding key_of
key_spelt word k e = looked_spelt all_keys word k e

pub key_is : (word : List ℕ) (k : Key) → word ≡ key_spelling k → key_of word ≡ Some k
key_is word k e = ap key_of e ∙ key_found k

pub no_key_is : (word : List ℕ) → IsNoKey word → key_of word ≡ None
no_key_is word h = by (key_of word) refl
  where
    by : (o : Option Key) → key_of word ≡ o → o ≡ None
    by None e = refl
    by (Some k) e = absurd (h k (key_spelt word k e))

pub no_key_stands : (word : List ℕ) → key_of word ≡ None → IsNoKey word
no_key_stands word e k is = let z : ◌≡◌ {A = Option Key} None (Some k) = sym e ∙ key_is word k is in cc

pub no_key_test : (word : List ℕ) → IsNoKey word → is_key word ≡ false
no_key_test word h = ap is_some (no_key_is word h)

pub test_no_key : (word : List ℕ) → is_key word ≡ false → IsNoKey word
test_no_key word e = by (key_of word) refl
  where
    by : (o : Option Key) → key_of word ≡ o → IsNoKey word
    by None q = no_key_stands word q
    by (Some k) q = let z : true ≡ false = sym (ap is_some q) ∙ e in cc
