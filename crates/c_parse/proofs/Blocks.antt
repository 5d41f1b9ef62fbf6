-- The common cases of the lemmas on phrases: a symbol and what stands behind it, two phrases behind one another, a test and its two branches, lists with commas.
use Rattle.std.proofs.Common.{◌≡◌, ℕ, zero, suc, inl, inr, Bool, true, false, if◌then◌else◌, ◌&&◌, ◌||◌, nat_eq, is_some, List, [], ◌∷◌, ◌++◌, Option, Some, None, refl, sym, ap, ◌∙◌, subst, arith}
use Rattle.std.proofs.lemmas.List.{append-nil}
use Rattle.std.proofs.lemmas.Bool.Decides.{nat_tests}
use Rattle.c_parse.specs.declared.symbols.Class.{Class}
use Rattle.c_parse.specs.declared.symbols.Class.TheVariants as class
use Rattle.c_parse.specs.declared.symbols.Key.{Key}
use Rattle.c_parse.specs.declared.symbols.Key.TheVariants as key
use Rattle.c_parse.specs.declared.symbols.Mark.{Mark}
use Rattle.c_parse.specs.declared.symbols.Mark.TheVariants as mark
use Rattle.c_parse.specs.Symbols.{Sym}
use Rattle.c_parse.specs.Signs.{is_mark, is_key, is_name}
use Rattle.c_parse.specs.Phrases.{Phrase, give, ◌or◌}
use Rattle.c_parse.specs.Phrases as ph
use Rattle.c_parse.specs.Reading.{Read, Got, Fails, Reader, and_then, ◌>>=◌, pure, refuse, class_at, behind, sees, sees_key, behind_if, eat, eat_key, expect, expect_key, name, repeat_from}
use Rattle.c_parse.specs.Grammar.{one_if, one_as, mark_, key_, name_, flag, when}
use Rattle.c_parse.proofs.Sets.{code, mark_code, key_code, is_in, apart, within, bool_is, apart_no, in_left, in_right}
use Rattle.c_parse.proofs.ClassTests.{in_mark, in_key, in_names, NAMES}
use Rattle.c_parse.proofs.Exact.{Exact, bind_exact, give_exact, nothing_exact, one_exact, take_one, taken}
use Rattle.c_parse.proofs.Choices.{widen, by_reader, or_exact}

-- ---- sets

self_eq : (x : ℕ) → nat_eq x x ≡ true
self_eq x = grind (arith, nat_tests)

first_in : (x : ℕ) (xs : List ℕ) → is_in (x ∷ xs) x ≡ true
first_in x xs = ap (λ b. b || is_in xs x) (self_eq x)

pub or_true : (b : Bool) → (b || true) ≡ true
or_true true = refl
or_true false = refl

later_in : (x : ℕ) (xs : List ℕ) (n : ℕ) → is_in xs n ≡ true → is_in (x ∷ xs) n ≡ true
later_in x xs n k = ap (λ b. nat_eq x n || b) k ∙ or_true (nat_eq x n)

pub within_when : (xs ys : List ℕ) → ((n : ℕ) → is_in xs n ≡ true → is_in ys n ≡ true) → within xs ys ≡ true
within_when [] ys h = refl
within_when (x ∷ xs) ys h =
    let e : is_in ys x ≡ true = h x (first_in x xs) in
    ap (λ b. b && within xs ys) e ∙ within_when xs ys (λ n k. h n (later_in x xs n k))

pub within_self : (xs : List ℕ) → within xs xs ≡ true
within_self xs = within_when xs xs (λ n h. h)

-- ---- one behind another

-- where the first may be continued by nothing
pub token_then : {A B : Type 0} {p : Phrase A} {k : A → Phrase B} {r : Reader A} {l : A → Reader B} {sp sk : List ℕ} {gk : B → List ℕ} {nk : Bool}
    → Exact p r sp (λ _. []) true → ((a : A) → Exact (k a) (l a) sk gk nk) → Exact (ph.◌>>=◌ p k) (r >>= l) sp gk true
token_then {p = p} {k = k} {r = r} {l = l} {sp = sp} {sk = sk} {gk = gk} {nk = nk} ep ek =
    bind_exact p k r l sp (λ _. []) true sk (λ _. gk) nk sp gk true ep ek (within_self sp) (λ e. cc) (λ _. inl refl) (λ a c ts f. refl) (λ a b ts h. within_self (gk b)) (λ a b h. refl)

-- where the second takes a symbol, with which the first does not go on
pub seq : {A B : Type 0} {p : Phrase A} {k : A → Phrase B} {r : Reader A} {l : A → Reader B} {sp gp sk : List ℕ} {gk : B → List ℕ}
    → Exact p r sp (λ _. gp) true → ((a : A) → Exact (k a) (l a) sk gk true) → apart sk gp ≡ true → Exact (ph.◌>>=◌ p k) (r >>= l) sp gk true
seq {p = p} {k = k} {r = r} {l = l} {sp = sp} {gp = gp} {sk = sk} {gk = gk} ep ek h =
    bind_exact p k r l sp (λ _. gp) true sk (λ _. gk) true sp gk true ep ek (within_self sp) (λ e. cc) (λ _. inl refl)
    (λ a c ts f. apart_no sk gp (code c.class) h ((ek a).first c ts f)) (λ a b ts h. within_self (gk b)) (λ a b h. absurd ((ek a).fills refl b h))

-- where the first may be empty
pub maybe_seq : {A B : Type 0} {p : Phrase A} {k : A → Phrase B} {r : Reader A} {l : A → Reader B} {sp gp sk : List ℕ} {gk : B → List ℕ}
    → Exact p r sp (λ _. gp) false → ((a : A) → Exact (k a) (l a) sk gk true) → apart sk gp ≡ true → Exact (ph.◌>>=◌ p k) (r >>= l) (sp ++ sk) gk true
maybe_seq {p = p} {k = k} {r = r} {l = l} {sp = sp} {gp = gp} {sk = sk} {gk = gk} ep ek h =
    bind_exact p k r l sp (λ _. gp) false sk (λ _. gk) true (sp ++ sk) gk true ep ek
    (within_when sp (sp ++ sk) (λ n h. in_left sp sk n h)) (λ e. within_when sk (sp ++ sk) (λ n h. in_right sp sk n h)) (λ _. inr refl)
    (λ a c ts f. apart_no sk gp (code c.class) h ((ek a).first c ts f)) (λ a b ts h. within_self (gk b)) (λ a b h. absurd ((ek a).fills refl b h))

-- where the second may be empty
pub seq_maybe : {A B : Type 0} {p : Phrase A} {k : A → Phrase B} {r : Reader A} {l : A → Reader B} {sp gp sk gk : List ℕ}
    → Exact p r sp (λ _. gp) true → ((a : A) → Exact (k a) (l a) sk (λ _. gk) false) → apart sk gp ≡ true → Exact (ph.◌>>=◌ p k) (r >>= l) sp (λ _. gk ++ gp) true
seq_maybe {p = p} {k = k} {r = r} {l = l} {sp = sp} {gp = gp} {sk = sk} {gk = gk} ep ek h =
    bind_exact p k r l sp (λ _. gp) true sk (λ _ _. gk) false sp (λ _. gk ++ gp) true ep ek (within_self sp) (λ e. cc) (λ _. inl refl)
    (λ a c ts f. apart_no sk gp (code c.class) h ((ek a).first c ts f))
    (λ a b ts h. within_when gk (gk ++ gp) (λ n h. in_left gk gp n h)) (λ a b h. within_when gp (gk ++ gp) (λ n h. in_right gk gp n h))

-- where both may be empty
pub maybe_both : {A B : Type 0} {p : Phrase A} {k : A → Phrase B} {r : Reader A} {l : A → Reader B} {sp gp sk gk : List ℕ}
    → Exact p r sp (λ _. gp) false → ((a : A) → Exact (k a) (l a) sk (λ _. gk) false) → apart sk gp ≡ true → Exact (ph.◌>>=◌ p k) (r >>= l) (sp ++ sk) (λ _. gk ++ gp) false
maybe_both {p = p} {k = k} {r = r} {l = l} {sp = sp} {gp = gp} {sk = sk} {gk = gk} ep ek h =
    bind_exact p k r l sp (λ _. gp) false sk (λ _ _. gk) false (sp ++ sk) (λ _. gk ++ gp) false ep ek
    (within_when sp (sp ++ sk) (λ n h. in_left sp sk n h)) (λ e. within_when sk (sp ++ sk) (λ n h. in_right sp sk n h)) (λ e. cc)
    (λ a c ts f. apart_no sk gp (code c.class) h ((ek a).first c ts f))
    (λ a b ts h. within_when gk (gk ++ gp) (λ n h. in_left gk gp n h)) (λ a b h. within_when gp (gk ++ gp) (λ n h. in_right gk gp n h))

-- a value of what was spelt
pub map_exact : {A B : Type 0} {p : Phrase A} {r : Reader A} {sp : List ℕ} {gp : A → List ℕ} {n : Bool} (f : A → B) (g : B → List ℕ)
    → Exact p r sp gp n → ((a : A) → within (gp a) (g (f a)) ≡ true) → Exact (ph.◌>>=◌ p (λ a. give (f a))) (r >>= (λ a. pure (f a))) sp g n
map_exact {p = p} {r = r} {sp = sp} {gp = gp} {n = n} f g ep h =
    bind_exact p (λ a. give (f a)) r (λ a. pure (f a)) sp gp n [] (λ _ _. []) false sp g n ep (λ a. give_exact (f a)) (within_self sp) (λ e. refl) (λ e. inl e)
    (λ a c ts f. cc) (λ a b ts h. refl) (λ a b k. subst (λ b. within (gp a) (g b) ≡ true) (sym k.1) (h a))

-- the same where what may follow does not depend on the value
pub map_same : {A B : Type 0} {p : Phrase A} {r : Reader A} {sp gp : List ℕ} {n : Bool} (f : A → B)
    → Exact p r sp (λ _. gp) n → Exact (ph.◌>>=◌ p (λ a. give (f a))) (r >>= (λ a. pure (f a))) sp (λ _. gp) n
map_same {gp = gp} f ep = map_exact f (λ _. gp) ep (λ a. within_self gp)

-- ---- symbols

if_yes : {A : Type 0} (b : Bool) (x y : A) → b ≡ true → (if b then x else y) ≡ x
if_yes true x y e = refl
if_yes false x y e = cc

if_no : {A : Type 0} (b : Bool) (x y : A) → b ≡ false → (if b then x else y) ≡ y
if_no true x y e = cc
if_no false x y e = refl

was_test : {A : Type 0} (b : Bool) (a x : A) → (if b then Some a else None) ≡ Some x → b ≡ true
was_test true a x e = refl
was_test false a x e = cc

was_some : {A : Type 0} (o : Option A) (x : A) → o ≡ Some x → is_some o ≡ true
was_some None x e = cc
was_some (Some a) x e = refl

-- one symbol whose class passes a test
pub one_if_exact : {A : Type 0} (test : Class → Bool) (value : Sym → A) (set : List ℕ) → ((c : Class) → is_in set (code c) ≡ test c) → is_in set 6 ≡ false
    → Exact (one_if test value) (take_one (λ s. if test s.class then Some (value s) else None)) set (λ _. []) true
one_if_exact test value set same plain = one_exact _ set (λ s a e. same s.class ∙ was_test (test s.class) (value s) a e) plain

pub one_as_exact : {A : Type 0} (meaning : Class → Option A) (set : List ℕ) → ((c : Class) → is_in set (code c) ≡ is_some (meaning c)) → is_in set 6 ≡ false
    → Exact (one_as meaning) (take_one (λ s. meaning s.class)) set (λ _. []) true
one_as_exact meaning set same plain = one_exact _ set (λ s a e. same s.class ∙ was_some (meaning s.class) a e) plain

no_refused : (m : Mark) → is_in (mark_code m ∷ []) 6 ≡ false
no_refused mark.Open = refl
no_refused m = refl

no_refused_key : (k : Key) → is_in (key_code k ∷ []) 6 ≡ false
no_refused_key key.Int = refl
no_refused_key k = refl

pub took : {A : Type 0} (b : Bool) (a : A) (s : Sym) (ts : List Sym) → (if b then Got a ts else Fails (s ∷ ts)) ≡ taken (if b then Some a else None) s ts
took true a s ts = refl
took false a s ts = refl

expect_is : (m : Mark) (ts : List Sym) → expect m ts ≡ take_one (λ s. if is_mark m s.class then Some tt else None) ts
unfolding expect sees
expect_is m [] = refl
expect_is m (s ∷ ts) = took (is_mark m s.class) tt s ts

pub mark_exact : (m : Mark) → Exact (mark_ m) (expect m) (mark_code m ∷ []) (λ _. []) true
mark_exact m = by_reader (expect m) (one_if_exact (is_mark m) (λ _. tt) (mark_code m ∷ []) (in_mark m) (no_refused m)) (expect_is m)

expect_key_is : (k : Key) (ts : List Sym) → expect_key k ts ≡ take_one (λ s. if is_key k s.class then Some tt else None) ts
unfolding expect_key sees_key
expect_key_is k [] = refl
expect_key_is k (s ∷ ts) = took (is_key k s.class) tt s ts

pub key_exact : (k : Key) → Exact (key_ k) (expect_key k) (key_code k ∷ []) (λ _. []) true
key_exact k = by_reader (expect_key k) (one_if_exact (is_key k) (λ _. tt) (key_code k ∷ []) (in_key k) (no_refused_key k)) (expect_key_is k)

name_is : (ts : List Sym) → name ts ≡ take_one (λ s. if is_name s.class then Some s.bytes else None) ts
unfolding name
name_is [] = refl
name_is (s ∷ ts) = took (is_name s.class) s.bytes s ts

pub name_exact : Exact name_ name NAMES (λ _. []) true
name_exact = by_reader name (one_if_exact is_name (λ s. s.bytes) NAMES in_names refl) name_is

-- ---- a test and its two branches

-- reads the one behind the symbol where it passes the test, else the other
abbrev pub branch : {A : Type 0} → (Class → Bool) → Reader A → Reader A → Reader A
branch test yes' no' = λ ts. if test (class_at ts) then yes' (behind ts) else no' ts

-- one symbol that passes a test
abbrev pub passing : (Class → Bool) → Phrase (Unit {0})
passing test = one_if test (λ _. tt)

pub branch_exact : {A : Type 0} {p q : Phrase A} {r t : Reader A} {sp sq : List ℕ} {gp gq : A → List ℕ} {np nq : Bool} (test : Class → Bool) (set : List ℕ) (g : A → List ℕ)
    → ((c : Class) → is_in set (code c) ≡ test c) → is_in set 6 ≡ false → test class.Other ≡ false
    → Exact p r sp gp np → Exact q t sq gq nq → apart sq set ≡ true
    → ((a : A) → within (gp a) (g a) ≡ true) → ((a : A) → within (gq a) (g a) ≡ true) → (nq ≡ false → (a : A) → q.spells [] a → within set (g a) ≡ true)
    → Exact ((ph.◌>>◌ (passing test) p) or q) (branch test r t) (set ++ sq) g nq
branch_exact {A} {p} {q} {r} {t} {sp} {sq} {gp} {gq} {np} {nq} test set g same plain other ep eq parted goes_p goes_q goes_on =
    or_exact (ph.◌>>◌ (passing test) p) q (take_one read >>= (λ _. r)) t (branch test r t) set sq gp gq g nq
    (token_then (one_if_exact test (λ _. tt) set same plain) (λ _. ep)) eq parted
    (λ s ts e. if_yes (test s.class) (r ts) (t (s ∷ ts)) (sym (same s.class) ∙ e) ∙ sym (ap (λ b. and_then (taken (if b then Some tt else None) s ts) (λ _. r)) (sym (same s.class) ∙ e)))
    (λ s ts e. if_no (test s.class) (r ts) (t (s ∷ ts)) (sym (same s.class) ∙ e))
    (if_no (test class.Other) (r []) (t []) other)
    goes_p goes_q goes_on
  where
    read : Sym → Option (Unit {0})
    read s = if test s.class then Some tt else None

-- a test that is made first, and then a choice
pub eaten : {A : Type 0} (b : Bool) (ts : List Sym) (yes' no' : Reader A) → and_then (Got b (behind_if b ts)) (λ b. if b then yes' else no') ≡ (if b then yes' (behind ts) else no' ts)
unfolding behind_if
eaten true ts yes' no' = refl
eaten false ts yes' no' = refl

flag_is : (b : Bool) (ts : List Sym) → Got b (behind_if b ts) ≡ (if b then Got true (behind ts) else Got false ts)
unfolding behind_if
flag_is true ts = refl
flag_is false ts = refl

-- whether the phrase stands there
pub flag_exact : (test : Class → Bool) (set : List ℕ) → ((c : Class) → is_in set (code c) ≡ test c) → is_in set 6 ≡ false → test class.Other ≡ false
    → Exact (flag (passing test)) (λ ts. Got (test (class_at ts)) (behind_if (test (class_at ts)) ts)) set (λ _. set) false
flag_exact test set same plain other = widen set (λ _. set) (by_reader _ (branch_exact test set (λ _. set) same plain other (give_exact true) (give_exact false) refl (λ _. refl) (λ _. refl) (λ _ _ _. within_self set)) (λ ts. flag_is (test (class_at ts)) ts)) (within_when (set ++ []) set (λ n h. without n h)) (λ _. within_self set)
  where
    without : (n : ℕ) → is_in (set ++ []) n ≡ true → is_in set n ≡ true
    without n h = subst (λ l. is_in l n ≡ true) (append-nil set) h

pub flag_mark_exact : (m : Mark) → is_mark m class.Other ≡ false → Exact (flag (mark_ m)) (eat m) (mark_code m ∷ []) (λ _. mark_code m ∷ []) false
unfolding sees
flag_mark_exact m e = flag_exact (is_mark m) (mark_code m ∷ []) (in_mark m) (no_refused m) e

pub flag_key_exact : (k : Key) → is_key k class.Other ≡ false → Exact (flag (key_ k)) (eat_key k) (key_code k ∷ []) (λ _. key_code k ∷ []) false
unfolding sees_key
flag_key_exact k e = flag_exact (is_key k) (key_code k ∷ []) (in_key k) (no_refused_key k) e

-- ---- what may stand only where something may be deeper

pub when_exact : {A : Type 0} {p : Phrase A} {r : Reader A} {s : List ℕ} {g : A → List ℕ} (deep : Bool) → Exact p r s g true → Exact (when deep p) (if deep then r else refuse) s g true
when_exact true e = e
when_exact {s = s} {g = g} false e = widen s g nothing_exact refl (λ _. refl)

-- ---- repetitions with another step that is the same wherever it is made

pub then_same : {A B : Type 0} (o : Read A) {k l : A → Reader B} → ((a : A) (rest : List Sym) → k a rest ≡ l a rest) → and_then o k ≡ and_then o l
then_same (Got a rest) h = h a rest
then_same (Fails rest) h = refl

pub repeat_is : {S : Type 0} (stops : List Sym → Bool) (step other : S → Reader S) → ((s : S) (ts : List Sym) → stops ts ≡ false → step s ts ≡ other s ts) → (n : ℕ) (s : S) (ts : List Sym) → repeat_from stops step n s ts ≡ repeat_from stops other n s ts
unfolding repeat_from
repeat_is stops step other h zero s ts = refl
repeat_is stops step other h (suc n) s ts = elim (bool_is (stops ts)) [
  | inl e ↦ if_yes (stops ts) _ _ e ∙ sym (if_yes (stops ts) _ _ e)
  | inr e ↦ if_no (stops ts) _ _ e ∙ (ap (λ o. and_then o (λ t rest. repeat_from stops step n t rest)) (h s ts e)
      ∙ (then_same (other s ts) (λ t rest. repeat_is stops step other h n t rest) ∙ sym (if_no (stops ts) _ _ e)))
]

-- ---- a choice by the next symbol's class

abbrev pub pick : {A : Type 0} → List ℕ → Reader A → Reader A → Reader A
pick set r t [] = t []
pick set r t (s ∷ ts) = if is_in set (code s.class) then r (s ∷ ts) else t (s ∷ ts)

pub pick_exact : {A : Type 0} {p q : Phrase A} {r t : Reader A} {sp sq gp gq : List ℕ} (g : List ℕ)
    → Exact p r sp (λ _. gp) true → Exact q t sq (λ _. gq) true → apart sq sp ≡ true → within gp g ≡ true → within gq g ≡ true
    → Exact (p or q) (pick sp r t) (sp ++ sq) (λ _. g) true
pick_exact {A} {p} {q} {r} {t} {sp} {sq} {gp} {gq} g ep eq h hp hq =
    or_exact p q r t (pick sp r t) sp sq (λ _. gp) (λ _. gq) (λ _. g) true ep eq h
    (λ s ts e. if_yes (is_in sp (code s.class)) _ _ e) (λ s ts e. if_no (is_in sp (code s.class)) _ _ e) refl (λ _. hp) (λ _. hq) (λ e. cc)

pub if_yes_at : {A : Type 0} (b : Bool) (r t : Reader A) (ts : List Sym) → b ≡ true → (if b then r else t) ts ≡ r ts
if_yes_at true r t ts e = refl
if_yes_at false r t ts e = cc

pub if_no_at : {A : Type 0} (b : Bool) (r t : Reader A) (ts : List Sym) → b ≡ false → (if b then r else t) ts ≡ t ts
if_no_at true r t ts e = cc
if_no_at false r t ts e = refl

-- readers behind one another, grouped in another way
pub regroup_read : {A B C : Type 0} (o : Read A) (k : A → Reader B) (l : B → Reader C) → and_then (and_then o k) l ≡ and_then o (λ a rest. and_then (k a rest) l)
regroup_read (Got a rest) k l = refl
regroup_read (Fails rest) k l = refl

-- the same where what may follow depends on the value
pub pick_over : {A : Type 0} {p q : Phrase A} {r t : Reader A} {sp sq : List ℕ} {gp gq : A → List ℕ} (g : A → List ℕ)
    → Exact p r sp gp true → Exact q t sq gq true → apart sq sp ≡ true → ((a : A) → within (gp a) (g a) ≡ true) → ((a : A) → within (gq a) (g a) ≡ true)
    → Exact (p or q) (pick sp r t) (sp ++ sq) g true
pick_over {A} {p} {q} {r} {t} {sp} {sq} {gp} {gq} g ep eq h hp hq =
    or_exact p q r t (pick sp r t) sp sq gp gq g true ep eq h
    (λ s ts e. if_yes (is_in sp (code s.class)) _ _ e) (λ s ts e. if_no (is_in sp (code s.class)) _ _ e) refl hp hq (λ e. cc)
