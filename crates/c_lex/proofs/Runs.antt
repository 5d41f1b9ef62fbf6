-- Runs of bytes, texts and comments: what is counted is what the relations say.
use Rattle.std.proofs.Common.{◌≡◌, ℕ, suc, ◌+◌, Bool, true, false, cond, ◌&&◌, nat_eq, List, [], ◌∷◌, ◌++◌, length, get_or, take, drop, refl, sym, ap, ◌∙◌, arith, Option, Some, None}
use Rattle.std.proofs.lemmas.Bool.Decides.{nat_tests}
use Rattle.c_lex.specs.Bytes.{is_plain, is_escape, AllAre, Stops}
use Rattle.c_lex.specs.Words.{TextBody}
use Rattle.c_lex.specs.Words as words
use Rattle.c_lex.specs.Front.{run, more, text_len, close_len}

pub if_true : {A : Type 0} (b : Bool) (x y : A) → b ≡ true → cond b x y ≡ x
if_true b x y e = rw e refl

pub if_false : {A : Type 0} (b : Bool) (x y : A) → b ≡ false → cond b x y ≡ y
if_false b x y e = rw e refl

pub bool_cases : (P : Bool → Type 0) (b : Bool) → (b ≡ true → P true) → (b ≡ false → P false) → P b
bool_cases P true t f = t refl
bool_cases P false t f = f refl

-- a run is counted whole
pub run_is : (p : ℕ → Bool) (word rest : List ℕ) → AllAre p word → Stops p rest → run p (word ++ rest) ≡ length word
run_is p [] [] all stops = refl
run_is p [] (c ∷ cs) all stops = if_false (p c) _ _ stops
run_is p (c ∷ word) rest all stops = if_true (p c) _ _ all.0 ∙ ap suc (run_is p word rest all.1 stops)

pub record Cut (p : ℕ → Bool) (bytes : List ℕ) (n : ℕ) : Type 0 where
  pub is : bytes ≡ take n bytes ++ drop n bytes
  pub len : length (take n bytes) ≡ n
  pub all : AllAre p (take n bytes)
  pub stops : Stops p (drop n bytes)

pub cut : (p : ℕ → Bool) (bytes : List ℕ) → Cut p bytes (run p bytes)
cut p [] = record { is = refl; len = refl; all = tt; stops = tt }
cut p (c ∷ cs) = bool_cases (λ b. p c ≡ b → Cut p (c ∷ cs) (cond b (suc (run p cs)) 0)) (p c) (λ t e. let h = cut p cs in record { is = ap (λ l. c ∷ l) h.is; len = ap suc h.len; all = (e, h.all); stops = h.stops }) (λ f e. record { is = refl; len = refl; all = tt; stops = e }) refl

pub more_some : (o : Option ℕ) (n : ℕ) → more 1 o ≡ Some n → (m : ℕ) × (o ≡ Some m) × (n ≡ suc m)
more_some None n e = cc
more_some (Some m) n e = let h : 1 + m ≡ n = cc in (m, refl, omega arith)

-- texts

pub text_is : {body : List ℕ} (rest : List ℕ) → TextBody body → text_len false (body ++ 34 ∷ rest) ≡ Some (suc (length body))
text_is rest words.empty = refl
text_is rest (words.plain c {cs} p h) =
    let quote : nat_eq c 34 ≡ false = grind (arith, nat_tests) in
    let slash : nat_eq c 92 ≡ false = grind (arith, nat_tests) in
    if_false _ _ _ quote ∙ (if_false _ _ _ slash ∙ (if_true _ _ _ p ∙ (ap (more 1) (text_is rest h) ∙ ap (λ n. Some n) (omega arith))))
text_is rest (words.escape b c {cs} s p h) =
    let quote : nat_eq b 34 ≡ false = grind (arith, nat_tests) in
    let slash : nat_eq b 92 ≡ true = grind (arith, nat_tests) in
    if_false _ _ _ quote ∙ (if_true _ _ _ slash ∙ (ap (more 1) (if_true _ _ _ p ∙ ap (more 1) (text_is rest h)) ∙ ap (λ n. Some n) (omega arith)))

pub record Ends (bytes : List ℕ) (n : ℕ) : Type 0 where
  pub body : List ℕ
  pub rest : List ℕ
  pub is : bytes ≡ body ++ 34 ∷ rest
  pub len : n ≡ suc (length body)
  pub holds : TextBody body

pub record EndsBehind (bytes : List ℕ) (n : ℕ) : Type 0 where
  pub c : ℕ
  pub cs : List ℕ
  pub m : ℕ
  pub is : bytes ≡ c ∷ cs
  pub escape : is_escape c ≡ true
  pub len : n ≡ suc m
  pub ends : Ends cs m

abbrev pub TextEnds : Bool → List ℕ → ℕ → Type 0
TextEnds true bytes n = EndsBehind bytes n
TextEnds false bytes n = Ends bytes n

pub text_ends : (b : Bool) (bytes : List ℕ) (n : ℕ) → text_len b bytes ≡ Some n → TextEnds b bytes n
text_ends true [] n e = cc
text_ends false [] n e = cc
text_ends true (c ∷ cs) n e = bool_cases (λ b. is_escape c ≡ b → cond b (more 1 (text_len false cs)) None ≡ Some n → EndsBehind (c ∷ cs) n) (is_escape c)
    (λ _ t h. let m = more_some (text_len false cs) n h in record { c = c; cs = cs; m = m.0; is = refl; escape = t; len = m.2; ends = text_ends false cs m.0 m.1 })
    (λ _ f h. cc) refl e
text_ends false (c ∷ cs) n e = bool_cases (λ b. nat_eq c 34 ≡ b → cond b (Some 1) (cond (nat_eq c 92) (more 1 (text_len true cs)) (cond (is_plain c) (more 1 (text_len false cs)) None)) ≡ Some n → Ends (c ∷ cs) n) (nat_eq c 34)
    (λ _ t h. let one : 1 ≡ n = cc in let quote : c ≡ 34 = grind (arith, nat_tests) in record { body = []; rest = cs; is = ap (λ x. x ∷ cs) quote; len = sym one; holds = words.empty })
    (λ _ f h. bool_cases (λ b. nat_eq c 92 ≡ b → cond b (more 1 (text_len true cs)) (cond (is_plain c) (more 1 (text_len false cs)) None) ≡ Some n → Ends (c ∷ cs) n) (nat_eq c 92)
    (λ _ s g. let m = more_some (text_len true cs) n g in let r = text_ends true cs m.0 m.1 in let slash : c ≡ 92 = grind (arith, nat_tests) in
    record { body = c ∷ r.c ∷ r.ends.body; rest = r.ends.rest; is = ap (λ l. c ∷ l) (r.is ∙ ap (λ l. r.c ∷ l) r.ends.is); len = omega (arith, m.2, r.len, r.ends.len); holds = words.escape c r.c slash r.escape r.ends.holds })
    (λ _ s g. bool_cases (λ b. is_plain c ≡ b → cond b (more 1 (text_len false cs)) None ≡ Some n → Ends (c ∷ cs) n) (is_plain c)
    (λ _ p q. let m = more_some (text_len false cs) n q in let r = text_ends false cs m.0 m.1 in
    record { body = c ∷ r.body; rest = r.rest; is = ap (λ l. c ∷ l) r.is; len = omega (arith, m.2, r.len); holds = words.plain c p r.holds })
    (λ _ p q. cc) refl g)
    refl h)
    refl e

-- comments

-- a star that stands before the bytes
abbrev lead : Bool → List ℕ → List ℕ
lead true bytes = 42 ∷ bytes
lead false bytes = bytes

-- no end of a comment stands in a body before the one behind it
abbrev pub NoClose : List ℕ → Type 0
NoClose body = (a b : List ℕ) → body ++ 42 ∷ [] ≡ a ++ 42 ∷ 47 ∷ b → ⊥

close_behind : (star : Bool) (body rest : List ℕ) → NoClose (lead star body) → close_len star (body ++ 42 ∷ 47 ∷ rest) ≡ Some (2 + length body)
close_behind true [] rest h = refl
close_behind false [] rest h = refl
close_behind star (c ∷ cs) rest h =
    let test : (star && nat_eq c 47) ≡ false = bool_cases (λ b. NoClose (lead b (c ∷ cs)) → (b && nat_eq c 47) ≡ false) star (λ _ k. closes k) (λ _ k. refl) h in
    let inner : NoClose (lead (nat_eq c 42) cs) = bool_cases (λ b. nat_eq c 42 ≡ b → NoClose (lead b cs)) (nat_eq c 42) (λ _ e a b is. starred e a b is) (λ _ e a b is. plain a b is) refl in
    if_false _ _ _ test ∙ (ap (more 1) (close_behind (nat_eq c 42) cs rest inner) ∙ ap (λ n. Some n) (omega arith))
  where
    closes : NoClose (42 ∷ c ∷ cs) → nat_eq c 47 ≡ false
    closes k = bool_cases (λ b. nat_eq c 47 ≡ b → b ≡ false) (nat_eq c 47) (λ _ e. let same : c ≡ 47 = grind (arith, nat_tests) in absurd (k [] (cs ++ 42 ∷ []) (ap (λ x. 42 ∷ x ∷ (cs ++ 42 ∷ [])) same))) (λ _ e. refl) refl

    put : (a b : List ℕ) → (c ∷ cs) ++ 42 ∷ [] ≡ a ++ 42 ∷ 47 ∷ b → ⊥
    put a b is = bool_cases (λ t. NoClose (lead t (c ∷ cs)) → ⊥) star (λ _ k. k (42 ∷ a) b (ap (λ l. 42 ∷ l) is)) (λ _ k. k a b is) h

    starred : nat_eq c 42 ≡ true → (a b : List ℕ) → 42 ∷ (cs ++ 42 ∷ []) ≡ a ++ 42 ∷ 47 ∷ b → ⊥
    starred e a b is = let same : c ≡ 42 = grind (arith, nat_tests) in put a b (ap (λ x. x ∷ (cs ++ 42 ∷ [])) same ∙ is)

    plain : (a b : List ℕ) → cs ++ 42 ∷ [] ≡ a ++ 42 ∷ 47 ∷ b → ⊥
    plain a b is = put (c ∷ a) b (ap (λ l. c ∷ l) is)

pub close_is : (body rest : List ℕ) → NoClose body → close_len false (body ++ 42 ∷ 47 ∷ rest) ≡ Some (2 + length body)
close_is body rest h = close_behind false body rest h

pub record Closes (star : Bool) (bytes : List ℕ) (n : ℕ) : Type 0 where
  pub body : List ℕ
  pub rest : List ℕ
  pub is : lead star bytes ≡ body ++ 42 ∷ 47 ∷ rest
  pub len : n + length (lead star []) ≡ 2 + length body
  pub next : NoClose body

no_close_nil : NoClose []
no_close_nil [] b is = cc
no_close_nil (x ∷ []) b is = cc
no_close_nil (x ∷ y ∷ a) b is = cc

-- a byte more in front of a body
no_close_more : (c : ℕ) (body tail : List ℕ) → ((x : ℕ) (xs : List ℕ) → c ≡ 42 → body ++ 42 ∷ tail ≡ x ∷ xs → x ≡ 47 → ⊥) → NoClose body → NoClose (c ∷ body)
no_close_more c [] tail h k [] b is = let second : ◌≡◌ {A = ℕ} 42 47 = ap (λ l. get_or l 1 0) is in omega arith
no_close_more c (x ∷ body) tail h k [] b is = let first : c ≡ 42 = ap (λ l. get_or l 0 0) is in let second : x ≡ 47 = ap (λ l. get_or l 1 0) is in h x (body ++ 42 ∷ tail) first refl second
no_close_more c body tail h k (y ∷ a) b is = let rest : body ++ 42 ∷ [] ≡ a ++ 42 ∷ 47 ∷ b = cc in k a b rest

pub close_ends : (star : Bool) (bytes : List ℕ) (n : ℕ) → close_len star bytes ≡ Some n → Closes star bytes n
close_ends star [] n e = cc
close_ends star (c ∷ cs) n e = bool_cases (λ t. (star && nat_eq c 47) ≡ t → cond t (Some 1) (more 1 (close_len (nat_eq c 42) cs)) ≡ Some n → Closes star (c ∷ cs) n) (star && nat_eq c 47)
    (λ _ t g. at_end star t (let one : 1 ≡ n = cc in one))
    (λ _ t g. let m = more_some (close_len (nat_eq c 42) cs) n g in on star t m.0 m.2 (close_ends (nat_eq c 42) cs m.0 m.1))
    refl e
  where
    at_end : (star : Bool) → (star && nat_eq c 47) ≡ true → 1 ≡ n → Closes star (c ∷ cs) n
    at_end true t one = let same : c ≡ 47 = grind (arith, nat_tests) in record { body = []; rest = cs; is = ap (λ x. 42 ∷ x ∷ cs) same; len = omega arith; next = no_close_nil }
    at_end false t one = cc

    starred : (star : Bool) → nat_eq c 42 ≡ true → (m : ℕ) → n ≡ suc m → Closes true cs m → Closes star (c ∷ cs) n
    starred true e m len h =
        let same : c ≡ 42 = grind (arith, nat_tests) in
        record {
          body = 42 ∷ h.body;
          rest = h.rest;
          is = ap (λ x. 42 ∷ x ∷ cs) same ∙ ap (λ l. 42 ∷ l) h.is;
          len = omega (arith, h.len, len);
          next = no_close_more 42 h.body (47 ∷ h.rest) (λ x xs _ s q. let first : 42 ∷ cs ≡ x ∷ xs = h.is ∙ s in let f : 42 ≡ x = cc in absurd (omega arith)) h.next;
        }
    starred false e m len h =
        let same : c ≡ 42 = grind (arith, nat_tests) in
        record { body = h.body; rest = h.rest; is = ap (λ x. x ∷ cs) same ∙ h.is; len = omega (arith, h.len, len); next = h.next }

    plain : (star : Bool) → (star && nat_eq c 47) ≡ false → nat_eq c 42 ≡ false → (m : ℕ) → n ≡ suc m → Closes false cs m → Closes star (c ∷ cs) n
    plain true t e m len h =
        let inner : NoClose (c ∷ h.body) = no_close_more c h.body (47 ∷ h.rest) (λ x xs q _ _. absurd (let k : nat_eq c 42 ≡ true = grind (arith, nat_tests) in let w : true ≡ false = sym k ∙ e in cc)) h.next in
        record {
          body = 42 ∷ c ∷ h.body;
          rest = h.rest;
          is = ap (λ l. 42 ∷ c ∷ l) h.is;
          len = omega (arith, h.len, len);
          next = no_close_more 42 (c ∷ h.body) (47 ∷ h.rest) (λ x xs _ s q. let f : c ≡ x = cc in let k : nat_eq c 47 ≡ true = grind (arith, nat_tests) in let w : true ≡ false = sym k ∙ t in cc) inner;
        }
    plain false t e m len h =
        record {
          body = c ∷ h.body;
          rest = h.rest;
          is = ap (λ l. c ∷ l) h.is;
          len = omega (arith, h.len, len);
          next = no_close_more c h.body (47 ∷ h.rest) (λ x xs q _ _. absurd (let k : nat_eq c 42 ≡ true = grind (arith, nat_tests) in let w : true ≡ false = sym k ∙ e in cc)) h.next;
        }

    on : (star : Bool) → (star && nat_eq c 47) ≡ false → (m : ℕ) → n ≡ suc m → Closes (nat_eq c 42) cs m → Closes star (c ∷ cs) n
    on star t m len h = bool_cases (λ b. nat_eq c 42 ≡ b → Closes b cs m → Closes star (c ∷ cs) n) (nat_eq c 42) (λ _ q k. starred star q m len k) (λ _ q k. plain star t q m len k) refl h
