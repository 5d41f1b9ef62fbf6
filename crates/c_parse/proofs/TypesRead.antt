-- Types and lists with commas are read exactly.
use Rattle.std.proofs.Common.{◌≡◌, ℕ, nat_eq, ◌⊎◌, inl, inr, Bool, true, false, if◌then◌else◌, ◌&&◌, ◌||◌, not, List, [], ◌∷◌, ◌++◌, length, Option, Some, None, refl, sym, ap, ◌∙◌}
use Rattle.c_tree.specs.declared.syntax.Base.{Base}
use Rattle.c_tree.specs.declared.syntax.Base.TheVariants as base
use Rattle.c_parse.specs.declared.symbols.Key.TheVariants as key
use Rattle.c_parse.specs.declared.symbols.Mark.TheVariants as mark
use Rattle.c_parse.specs.Symbols.{Sym}
use Rattle.c_parse.specs.Signs.{base_of, is_star, is_number}
use Rattle.c_parse.specs.Phrases.{Phrase, ◌or◌, repeat}
use Rattle.c_parse.specs.Phrases as ph
use Rattle.c_parse.specs.Reading.{Got, Fails, Reader, and_then, ◌>>=◌, pure, class_at, behind, sees, behind_if, eat_key, expect, no_comma}
use Rattle.c_parse.specs.Reading as rd
use Rattle.c_parse.specs.Expressions as ex
use Rattle.c_parse.specs.Grammar.{one_if, flag_if, long_int}
use Rattle.c_parse.specs.Grammar as gr
use Rattle.c_parse.proofs.Sets.{code, is_in, apart, within, in_either, left_no}
use Rattle.c_parse.proofs.ClassTests.{in_mark, in_bases, BASES, in_stars, STARS}
use Rattle.c_parse.proofs.Exact.{Exact, Stops, give_exact, take_one, taken}
use Rattle.c_parse.proofs.Choices.{widen, by_reader}
use Rattle.c_parse.proofs.Repeats.{repeat_exact}
use Rattle.c_parse.proofs.Blocks.{token_then, seq_maybe, map_same, one_as_exact, flag_exact, flag_key_exact, mark_exact, within_self, within_when, repeat_is, or_true}

-- ---- bases

long_of : Base → Reader Base
long_of base.Long = eat_key key.Int >>= (λ _. pure base.Long)
long_of b = pure b

long_exact : (b : Base) → Exact (long_int b) (long_of b) (10 ∷ []) (λ _. 10 ∷ []) false
unfolding long_of
long_exact base.Long = map_same (λ _. base.Long) (flag_key_exact key.Int refl)
long_exact base.Int = widen (10 ∷ []) (λ _. 10 ∷ []) (give_exact base.Int) refl (λ _. refl)
long_exact base.Comm = widen (10 ∷ []) (λ _. 10 ∷ []) (give_exact base.Comm) refl (λ _. refl)
long_exact base.Request = widen (10 ∷ []) (λ _. 10 ∷ []) (give_exact base.Request) refl (λ _. refl)
long_exact base.Status = widen (10 ∷ []) (λ _. 10 ∷ []) (give_exact base.Status) refl (λ _. refl)

base_from_is : (o : Option Base) (s : Sym) (ts : List Sym) → ex.base_from o (s ∷ ts) ≡ and_then (taken o s ts) long_of
unfolding long_of
base_from_is None s ts = refl
base_from_is (Some base.Long) s ts = refl
base_from_is (Some base.Int) s ts = refl
base_from_is (Some base.Comm) s ts = refl
base_from_is (Some base.Request) s ts = refl
base_from_is (Some base.Status) s ts = refl

type_base_is : (ts : List Sym) → ex.type_base ts ≡ and_then (take_one (λ s. base_of s.class) ts) long_of
unfolding ex.type_base
type_base_is [] = refl
type_base_is (s ∷ ts) = base_from_is (base_of s.class) s ts

pub type_base_exact : Exact gr.type_base ex.type_base BASES (λ _. 10 ∷ []) true
unfolding gr.type_base
type_base_exact = by_reader ex.type_base (token_then (one_as_exact base_of BASES in_bases refl) long_exact) type_base_is

-- ---- a star

not_behind : (ts : List Sym) → behind_if false ts ≡ ts
unfolding behind_if
not_behind ts = refl

pub star_exact : (b : Base) → Exact (gr.star b) (ex.star b) STARS (λ _. STARS) false
unfolding ex.sees_star
star_exact b = by (is_number b)
  where
    stays : (ts : List Sym) → Got false (behind_if false ts) ≡ Got false ts
    stays ts = ap (Got false) (not_behind ts)

    by : (n : Bool) → Exact (flag_if n (one_if is_star (λ _. tt))) (λ ts. Got (n && is_star (class_at ts)) (behind_if (n && is_star (class_at ts)) ts)) STARS (λ _. STARS) false
    by true = flag_exact is_star STARS in_stars refl refl
    by false = widen STARS (λ _. STARS) (by_reader _ (give_exact false) stays) refl (λ _. refl)

pub type_name_exact : Exact gr.type_name ex.type_name BASES (λ _. 50 ∷ 10 ∷ []) true
unfolding gr.type_name ex.type_name
type_name_exact = seq_maybe type_base_exact (λ b. map_same (λ p. record { base = b; pointer = p }) (star_exact b)) refl

-- ---- one or more, with commas between

abbrev one_more_of : {A : Type 0} → Reader A → List A → Reader (List A)
one_more_of item found = expect mark.Comma >>= (λ _. item >>= (λ x. pure (found ++ x ∷ [])))

not_false : (b : Bool) → not b ≡ false → b ≡ true
not_false true e = refl
not_false false e = cc

expected : {A : Type 0} (b : Bool) (ts : List Sym) (k : Reader A) → b ≡ true → k (behind ts) ≡ and_then {A = Unit {0}} (if b then Got tt (behind ts) else Fails ts) (λ _. k)
expected true ts k e = refl
expected false ts k e = cc

comma_seen : {A : Type 0} (item : Reader A) (found : List A) (ts : List Sym) → no_comma ts ≡ false → rd.one_more item found ts ≡ one_more_of item found ts
unfolding expect
comma_seen item found ts e = expected (sees mark.Comma ts) ts (item >>= (λ x. pure (found ++ x ∷ []))) (not_false (sees mark.Comma ts) e)

pub commas_exact : {A : Type 0} {p : Phrase A} {r : Reader A} {s gp : List ℕ} → Exact p r s (λ _. gp) true → apart (37 ∷ []) gp ≡ true → (found : List A) → Exact (ph.repeat (gr.one_more p) found) (rd.repeat no_comma (rd.one_more r) found) (37 ∷ []) (λ _. 37 ∷ gp) false
unfolding sees
commas_exact {A} {p} {r} {s} {gp} e h found = by_reader _
    (repeat_exact (gr.one_more p) (one_more_of r) no_comma (37 ∷ []) gp
    (λ found. token_then (mark_exact mark.Comma) (λ _. map_same (λ x. found ++ x ∷ []) e))
    started h (λ _. 37 ∷ gp) (λ t. within_when gp (37 ∷ gp) (λ n k. later n k)) ends found)
    (λ ts. repeat_is no_comma (rd.one_more r) (one_more_of r) (λ found us k. comma_seen r found us k) (length ts) found ts)
  where
    started : (c : Sym) (ts : List Sym) → is_in (37 ∷ []) (code c.class) ≡ true → no_comma (c ∷ ts) ≡ false
    started c ts k = ap not (sym (in_mark mark.Comma c.class) ∙ k)

    later : (n : ℕ) → is_in gp n ≡ true → is_in (37 ∷ gp) n ≡ true
    later n k = ap (λ b. nat_eq 37 n || b) k ∙ or_true (nat_eq 37 n)

    first_no : (n : ℕ) → is_in (37 ∷ gp) n ≡ false → is_in (37 ∷ []) n ≡ false
    first_no n k = left_no (nat_eq 37 n) (is_in gp n) k

    ends : (t : List A) (rest : List Sym) → Stops (37 ∷ gp) rest → no_comma rest ≡ true
    ends t [] k = refl
    ends t (c ∷ rest) k = ap not (sym (in_mark mark.Comma c.class) ∙ first_no (code c.class) k)

pub separated_exact : {A : Type 0} {p : Phrase A} {r : Reader A} {s gp : List ℕ} → Exact p r s (λ _. gp) true → apart (37 ∷ []) gp ≡ true → Exact (gr.separated p) (rd.separated r) s (λ _. 37 ∷ gp) true
unfolding rd.separated
separated_exact {A} {p} {r} {s} {gp} e h = widen s (λ _. 37 ∷ gp) (seq_maybe e (λ first. commas_exact e h (first ∷ [])) h) (within_self s) (λ _. all)
  where
    later : (n : ℕ) → is_in gp n ≡ true → is_in (37 ∷ gp) n ≡ true
    later n k = ap (λ b. nat_eq 37 n || b) k ∙ or_true (nat_eq 37 n)

    both : (n : ℕ) → (is_in (37 ∷ gp) n ≡ true) ⊎ (is_in gp n ≡ true) → is_in (37 ∷ gp) n ≡ true
    both n (inl k) = k
    both n (inr k) = later n k

    all : within ((37 ∷ gp) ++ gp) (37 ∷ gp) ≡ true
    all = within_when ((37 ∷ gp) ++ gp) (37 ∷ gp) (λ n k. both n (in_either (37 ∷ gp) gp n k))
