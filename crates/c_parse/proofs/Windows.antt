-- A bound on the symbols of a phrase is kept by reading it in a window of one symbol more.
use Rattle.std.proofs.Common.{◌≡◌, ℕ, zero, suc, ◌+◌, ◌-◌, ◌⊎◌, inl, inr, ⊎_elim, ◌≤◌, ◌<◌, Bool, true, false, if◌then◌else◌, List, [], ◌∷◌, ◌++◌, length, take, drop, nat_lt, refl, sym, ap, ◌∙◌, subst, append_assoc, arith, length-append}
use Rattle.std.proofs.lemmas.Bool.Decides.{nat_tests}
use Rattle.std.proofs.lemmas.List.{append-nil}
use Rattle.c_parse.specs.Symbols.{Sym}
use Rattle.c_parse.specs.Phrases.{Phrase, at_most}
use Rattle.c_parse.specs.Reading.{Read, Got, Fails, Reader, within, end_of, put_back, ending_at}
use Rattle.c_parse.proofs.Exact.{Exact, Ends, Stops, left}

take_over : (w rest : List Sym) (m n : ℕ) → length w + m ≡ n → take n (w ++ rest) ≡ w ++ take m rest
take_over [] rest m n e = ap (λ k. take k rest) (omega arith)
take_over (c ∷ w) rest m zero e = absurd (omega arith)
take_over (c ∷ w) rest m (suc n) e = ap (λ l. c ∷ l) (take_over w rest m n (omega arith))

drop_over : (w rest : List Sym) (n : ℕ) → length w ≡ n → drop n (w ++ rest) ≡ rest
drop_over [] rest zero e = refl
drop_over [] rest (suc n) e = absurd (omega arith)
drop_over (c ∷ w) rest zero e = absurd (omega arith)
drop_over (c ∷ w) rest (suc n) e = drop_over w rest n (omega arith)

taken_all : (n : ℕ) (ts : List Sym) → take n ts ++ drop n ts ≡ ts
taken_all zero ts = refl
taken_all (suc n) [] = refl
taken_all (suc n) (c ∷ ts) = ap (λ l. c ∷ l) (taken_all n ts)

taken_length : (n : ℕ) (ts : List Sym) → length (take n ts) ≤ n
taken_length zero ts = omega arith
taken_length (suc n) [] = omega arith
taken_length (suc n) (c ∷ ts) = omega (arith, taken_length n ts)

drop_length : (n : ℕ) (ts : List Sym) → length (drop n ts) + n ≤ length ts ⊎ (length ts ≤ n × (drop n ts ≡ []))
drop_length zero ts = inl (omega arith)
drop_length (suc n) [] = inr (omega arith, refl)
drop_length (suc n) (c ∷ ts) = ⊎_elim (λ h. inl (omega arith)) (λ h. inr (omega (arith, h.0), h.1)) (drop_length n ts)

-- a window's first symbols are those of the list
window_split : (n : ℕ) (ts : List Sym) → (m : List Sym) × (take (n + 1) ts ≡ take n ts ++ m)
window_split zero ts = (take (zero + 1) ts, refl)
window_split (suc n) [] = let e : suc n + 1 ≡ suc (n + 1) = omega arith in ([], ap (λ k. take {A = Sym} k []) e)
window_split (suc n) (c ∷ ts) =
    let h = window_split n ts in
    let e : suc n + 1 ≡ suc (n + 1) = omega arith in
    (h.0, ap (λ k. take k (c ∷ ts)) e ∙ ap (λ l. c ∷ l) h.1)

end_left : {A : Type 0} (o : Read A) → length (end_of o) ≡ left o
end_left (Got a rest) = refl
end_left (Fails rest) = refl

if_yes : {A : Type 0} (b : Bool) (x y : A) → b ≡ true → (if b then x else y) ≡ x
if_yes true x y e = refl
if_yes false x y e = cc

if_no : {A : Type 0} (b : Bool) (x y : A) → b ≡ false → (if b then x else y) ≡ y
if_no true x y e = cc
if_no false x y e = refl

over_of : (n t : ℕ) → nat_lt n t ≡ true → n < t
over_of n t e = grind (arith, nat_tests)

within_of : (n t : ℕ) → nat_lt n t ≡ false → t ≤ n
within_of n t e = grind (arith, nat_tests)

is_within : (n t : ℕ) → t ≤ n → nat_lt n t ≡ false
is_within n t e = grind (arith, nat_tests)

module _ {A : Type 0} (n : ℕ) (p : Phrase A) (r : Reader A) (s : List ℕ) (g : A → List ℕ) (ep : Exact p r s g true) where
  abbrev took : List Sym → ℕ
  took ts = length (take (n + 1) ts) - length (end_of (r (take (n + 1) ts)))

  opened : (ts : List Sym) → within n r ts ≡ put_back n (took ts) ts (r (take (n + 1) ts))
  unfolding within
  opened ts = refl

  -- a window that is not used up
  kept : (ts w rest : List Sym) (a : A) → take (n + 1) ts ≡ w ++ rest → r (take (n + 1) ts) ≡ Got a rest → length w ≤ n → (more : List Sym) → ts ≡ w ++ more → within n r ts ≡ Got a more
  kept ts w rest a e h le more split =
      let t : took ts ≡ length w = omega (arith, ap length e, ap (λ o. length (end_of o)) h, length-append w rest) in
      opened ts
      ∙ (if_no (nat_lt n (took ts)) _ _ (is_within n (took ts) (omega arith))
      ∙ (ap (ending_at (drop (took ts) ts)) h
      ∙ ap (Got a) (ap (λ l. drop (took ts) l) split ∙ drop_over w more (took ts) (sym t))))

  got_in : (ts : List Sym) (a b : A) (rest more w : List Sym) → r (take (n + 1) ts) ≡ Got b rest → take (n + 1) ts ≡ w ++ rest → p.spells w b → within n r ts ≡ Got a more → (over : Bool) → nat_lt n (took ts) ≡ over → Ends ts more (λ w. p.spells w a × (length w ≤ n))
  got_in ts a b rest more w h e sp q true o =
      let bad : Fails (drop n ts) ≡ Got a more = sym (if_yes (nat_lt n (took ts)) _ _ o) ∙ (sym (opened ts) ∙ q) in cc
  got_in ts a b rest more w h e sp q false o =
      let t : took ts ≡ length w = omega (arith, ap length e, ap (λ o. length (end_of o)) h, length-append w rest) in
      let split : ts ≡ w ++ (rest ++ drop (n + 1) ts) = sym (taken_all (n + 1) ts) ∙ (ap (λ l. l ++ drop (n + 1) ts) e ∙ append_assoc w rest (drop (n + 1) ts)) in
      let le : length w ≤ n = omega (arith, within_of n (took ts) o) in
      let same : Got b (rest ++ drop (n + 1) ts) ≡ Got a more = sym (kept ts w rest b e h le (rest ++ drop (n + 1) ts) split) ∙ q in
      let v : b ≡ a = cc in
      let z : rest ++ drop (n + 1) ts ≡ more = cc in
      record { read = w; is = split ∙ ap (λ l. w ++ l) z; holds = (subst (p.spells w) v sp, le) }

  never_got : (ts : List Sym) (a : A) (rest more : List Sym) → r (take (n + 1) ts) ≡ Fails rest → within n r ts ≡ Got a more → (over : Bool) → nat_lt n (took ts) ≡ over → ⊥
  never_got ts a rest more h q true o = let bad : Fails (drop n ts) ≡ Got a more = sym (if_yes (nat_lt n (took ts)) _ _ o) ∙ (sym (opened ts) ∙ q) in cc
  never_got ts a rest more h q false o = let bad : Fails (drop (took ts) ts) ≡ Got a more = sym (if_no (nat_lt n (took ts)) (Fails (drop n ts)) _ o ∙ ap (ending_at (drop (took ts) ts)) h) ∙ (sym (opened ts) ∙ q) in cc

  got_by : (ts : List Sym) (a : A) (more : List Sym) → within n r ts ≡ Got a more → (o : Read A) → r (take (n + 1) ts) ≡ o → Ends ts more (λ w. p.spells w a × (length w ≤ n))
  got_by ts a more q (Got b rest) h =
      let d = ep.got (take (n + 1) ts) b rest h in
      got_in ts a b rest more d.read h d.is d.holds q (nat_lt n (took ts)) refl
  got_by ts a more q (Fails rest) h = absurd (never_got ts a rest more h q (nat_lt n (took ts)) refl)

  -- the whole window is used up
  used_up : (ts w rest : List Sym) → take (n + 1) ts ≡ w ++ rest → length (end_of (r (take (n + 1) ts))) ≡ length rest → n < took ts → p.front w → Ends ts (drop n ts) (λ w. p.front w × (length w ≤ n))
  used_up ts w [] e l over h =
      let m = window_split n ts in
      let f : p.front (take n ts ++ m.0) = subst p.front (sym (e ∙ append-nil w) ∙ m.1) h in
      record { read = take n ts; is = sym (taken_all n ts); holds = (ep.closed (take n ts) m.0 f, taken_length n ts) }
  used_up ts w (c ∷ rest) e l over h = absurd (omega (arith, taken_length (n + 1) ts))

  fails_in : (ts x w rest : List Sym) → r (take (n + 1) ts) ≡ Fails rest → take (n + 1) ts ≡ w ++ rest → p.front w → within n r ts ≡ Fails x → (over : Bool) → nat_lt n (took ts) ≡ over → Ends ts x (λ w. p.front w × (length w ≤ n))
  fails_in ts x w rest h e f q true o =
      let same : ◌≡◌ {A = Read A} (Fails (drop n ts)) (Fails x) = sym (if_yes (nat_lt n (took ts)) (Fails (drop n ts)) _ o) ∙ (sym (opened ts) ∙ q) in
      let z : drop n ts ≡ x = cc in
      subst (λ x. Ends ts x (λ w. p.front w × (length w ≤ n))) z (used_up ts w rest e (ap (λ o. length (end_of o)) h) (over_of n (took ts) o) f)
  fails_in ts x w rest h e f q false o =
      let t : took ts ≡ length w = omega (arith, ap length e, ap (λ o. length (end_of o)) h, length-append w rest) in
      let split : ts ≡ w ++ (rest ++ drop (n + 1) ts) = sym (taken_all (n + 1) ts) ∙ (ap (λ l. l ++ drop (n + 1) ts) e ∙ append_assoc w rest (drop (n + 1) ts)) in
      let same : ◌≡◌ {A = Read A} (Fails (drop (took ts) ts)) (Fails x) = sym (if_no (nat_lt n (took ts)) (Fails (drop n ts)) _ o ∙ ap (ending_at (drop (took ts) ts)) h) ∙ (sym (opened ts) ∙ q) in
      let z : drop (took ts) ts ≡ x = cc in
      let y : drop (took ts) ts ≡ rest ++ drop (n + 1) ts = ap (λ l. drop (took ts) l) split ∙ drop_over w (rest ++ drop (n + 1) ts) (took ts) (sym t) in
      record { read = w; is = split ∙ ap (λ l. w ++ l) (sym y ∙ z); holds = (f, omega (arith, within_of n (took ts) o)) }

  fails_got : (ts x w rest : List Sym) (b : A) → r (take (n + 1) ts) ≡ Got b rest → take (n + 1) ts ≡ w ++ rest → p.front w → within n r ts ≡ Fails x → (over : Bool) → nat_lt n (took ts) ≡ over → Ends ts x (λ w. p.front w × (length w ≤ n))
  fails_got ts x w rest b h e f q true o =
      let same : ◌≡◌ {A = Read A} (Fails (drop n ts)) (Fails x) = sym (if_yes (nat_lt n (took ts)) (Fails (drop n ts)) _ o) ∙ (sym (opened ts) ∙ q) in
      let z : drop n ts ≡ x = cc in
      subst (λ x. Ends ts x (λ w. p.front w × (length w ≤ n))) z (used_up ts w rest e (ap (λ o. length (end_of o)) h) (over_of n (took ts) o) f)
  fails_got ts x w rest b h e f q false o =
      let bad : Got b (drop (took ts) ts) ≡ Fails x = sym (if_no (nat_lt n (took ts)) (Fails (drop n ts)) _ o ∙ ap (ending_at (drop (took ts) ts)) h) ∙ (sym (opened ts) ∙ q) in cc

  fails_by : (ts x : List Sym) → within n r ts ≡ Fails x → (o : Read A) → r (take (n + 1) ts) ≡ o → Ends ts x (λ w. p.front w × (length w ≤ n))
  fails_by ts x q (Got b rest) h =
      let d = ep.got (take (n + 1) ts) b rest h in
      fails_got ts x d.read rest b h d.is (ep.whole d.read b d.holds) q (nat_lt n (took ts)) refl
  fails_by ts x q (Fails rest) h =
      let d = ep.fails (take (n + 1) ts) rest h in
      fails_in ts x d.read rest h d.is d.holds q (nat_lt n (took ts)) refl

  stops_taken : (l : List ℕ) (rest : List Sym) (m : ℕ) → Stops l rest → Stops l (take m rest)
  stops_taken l [] zero h = tt
  stops_taken l [] (suc m) h = tt
  stops_taken l (c ∷ rest) zero h = tt
  stops_taken l (c ∷ rest) (suc m) h = h

  complete_in : (w : List Sym) (a : A) → p.spells w a × (length w ≤ n) → (rest : List Sym) → Stops (g a) rest → within n r (w ++ rest) ≡ Got a rest
  complete_in w a h rest st =
      let e : take (n + 1) (w ++ rest) ≡ w ++ take (n + 1 - length w) rest = take_over w rest (n + 1 - length w) (n + 1) (omega (arith, h.1)) in
      kept (w ++ rest) w (take (n + 1 - length w) rest) a e (ap r e ∙ ep.complete w a h.0 (take (n + 1 - length w) rest) (stops_taken (g a) rest (n + 1 - length w) st)) h.1 rest refl

  through_in : (f : List Sym) → p.front f → length f ≤ n → (rest : List Sym) → (over : Bool) → nat_lt n (took (f ++ rest)) ≡ over → left (within n r (f ++ rest)) ≤ length rest
  through_in f h le rest true o =
      let e : within n r (f ++ rest) ≡ Fails (drop n (f ++ rest)) = opened (f ++ rest) ∙ if_yes (nat_lt n (took (f ++ rest))) _ _ o in
      ⊎_elim
      (λ d. omega (arith, ap left e, length-append f rest, d))
      (λ d. omega (arith, ap left e, ap length d.1))
      (drop_length n (f ++ rest))
  through_in f h le rest false o =
      let e : take (n + 1) (f ++ rest) ≡ f ++ take (n + 1 - length f) rest = take_over f rest (n + 1 - length f) (n + 1) (omega arith) in
      let k : left (r (take (n + 1) (f ++ rest))) ≤ length (take (n + 1 - length f) rest) = subst (λ l. left (r l) ≤ length (take (n + 1 - length f) rest)) (sym e) (ep.through f h (take (n + 1 - length f) rest)) in
      let t : length f ≤ took (f ++ rest) = omega (arith, ap length e, end_left (r (take (n + 1) (f ++ rest))), length-append f (take (n + 1 - length f) rest)) in
      let q : within n r (f ++ rest) ≡ ending_at (drop (took (f ++ rest)) (f ++ rest)) (r (take (n + 1) (f ++ rest))) = opened (f ++ rest) ∙ if_no (nat_lt n (took (f ++ rest))) _ _ o in
      ⊎_elim
      (λ d. omega (arith, ap left q, left_ending (drop (took (f ++ rest)) (f ++ rest)) (r (take (n + 1) (f ++ rest))), length-append f rest, d))
      (λ d. omega (arith, ap left q, left_ending (drop (took (f ++ rest)) (f ++ rest)) (r (take (n + 1) (f ++ rest))), ap length d.1))
      (drop_length (took (f ++ rest)) (f ++ rest))
    where
      left_ending : (l : List Sym) (o : Read A) → left (ending_at l o) ≡ length l
      left_ending l (Got a x) = refl
      left_ending l (Fails x) = refl

  pub at_most_exact : Exact (at_most n p) (within n r) s g true
  at_most_exact = record {
    whole = λ w a h. (ep.whole w a h.0, h.1);
    empty = (ep.empty, omega arith);
    first = λ c ts f. ep.first c ts f.0;
    fills = λ e a h. ep.fills e a h.0;
    got = λ ts a rest q. got_by ts a rest q (r (take (n + 1) ts)) refl;
    fails = λ ts x q. fails_by ts x q (r (take (n + 1) ts)) refl;
    complete = complete_in;
    through = λ f h rest. through_in f h.0 h.1 rest (nat_lt n (took (f ++ rest))) refl;
    closed = λ u v h. (ep.closed u v h.0, omega (arith, h.1, length-append u v));
    clean = λ w h. ep.clean w h.0;
  }
