-- Repetitions are read exactly where each step is.
use Rattle.std.proofs.Common.{◌≡◌, ℕ, zero, suc, ◌⊎◌, inl, inr, ⊎_elim, ◌≤◌, Bool, true, false, if◌then◌else◌, List, [], ◌∷◌, ◌++◌, length, refl, sym, ap, ◌∙◌, subst, append_assoc, arith, length-append}
use Rattle.c_parse.specs.Symbols.{Sym}
use Rattle.c_parse.specs.Phrases.{Phrase, Cut, Steps, StepsFront, done, step, now, later}
use Rattle.c_parse.specs.Phrases as ph
use Rattle.c_parse.specs.Reading.{Got, Fails, Reader, and_then, ◌>>=◌, repeat_from, repeat}
use Rattle.c_parse.proofs.Sets.{code, is_in, apart, within, bool_is, apart_no, in_left, in_right}
use Rattle.c_parse.specs.Parsed.{NoneRefused}
use Rattle.c_parse.proofs.Exact.{Exact, Ends, Stops, left, less, then_got, then_fails, then_less, clean_append, clean_empty, Overlap, within_first, over_first, overlap}
use Rattle.c_parse.proofs.Choices.{stops_more}

if_yes : {A : Type 0} (b : Bool) (x y : A) → b ≡ true → (if b then x else y) ≡ x
if_yes true x y e = refl
if_yes false x y e = cc

if_no : {A : Type 0} (b : Bool) (x y : A) → b ≡ false → (if b then x else y) ≡ y
if_no true x y e = cc
if_no false x y e = refl

module _ {S : Type 0} (k : S → Phrase S) (next : S → Reader S) (stops : List Sym → Bool) (sk gk : List ℕ)
    (ek : (s : S) → Exact (k s) (next s) sk (λ _. gk) true)
    (started : (c : Sym) (ts : List Sym) → is_in sk (code c.class) ≡ true → stops (c ∷ ts) ≡ false)
    (parted : apart sk gk ≡ true) where
  abbrev pub Spells : S → List Sym → S → Type 0
  Spells s = (k s).spells

  abbrev pub Front : S → List Sym → Type 0
  Front s = (k s).front

  abbrev pub loop : ℕ → S → Reader S
  loop = repeat_from stops next

  turn : (n : ℕ) (s : S) (ts : List Sym) → stops ts ≡ false → loop (suc n) s ts ≡ and_then (next s ts) (λ t rest. loop n t rest)
  unfolding repeat_from
  turn n s ts e = if_no (stops ts) (Got s ts) _ e

  stay : (n : ℕ) (s : S) (ts : List Sym) → stops ts ≡ true → loop n s ts ≡ Got s ts
  unfolding repeat_from
  stay zero s ts e = refl
  stay (suc n) s ts e = if_yes (stops ts) (Got s ts) _ e

  none_left : (s : S) (ts : List Sym) → loop zero s ts ≡ Got s ts
  unfolding repeat_from
  none_left s ts = refl

  pub loop_less : (n : ℕ) (s : S) (ts : List Sym) → left (loop n s ts) ≤ length ts
  loop_less zero s ts = omega (arith, ap left (none_left s ts))
  loop_less (suc n) s ts = elim (bool_is (stops ts)) [
    | inl e ↦ omega (arith, ap left (stay (suc n) s ts e))
    | inr e ↦ omega (arith, ap left (turn n s ts e), then_less (next s ts) (λ t rest. loop n t rest) (length ts) (less (ek s) ts) (λ t rest. loop_less n t rest))
  ]

  stay_got : (s : S) (ts : List Sym) (t : S) (rest : List Sym) → Got s ts ≡ Got t rest → Ends ts rest (λ w. Steps Spells s w t)
  stay_got s ts t rest e =
      let q : ts ≡ rest = cc in
      let v : s ≡ t = cc in
      record { read = []; is = q; holds = subst (Steps Spells s []) v (done refl) }

  pub loop_got : (n : ℕ) (s : S) (ts : List Sym) (t : S) (rest : List Sym) → loop n s ts ≡ Got t rest → Ends ts rest (λ w. Steps Spells s w t)
  loop_got zero s ts t rest e = stay_got s ts t rest (sym (none_left s ts) ∙ e)
  loop_got (suc n) s ts t rest e = elim (bool_is (stops ts)) [
    | inl q ↦ stay_got s ts t rest (sym (stay (suc n) s ts q) ∙ e)
    | inr q ↦
        (let m = then_got (next s ts) (λ t rest. loop n t rest) t rest (sym (turn n s ts q) ∙ e) in
        let u = (ek s).got ts m.0 m.1 m.2 in
        let v = loop_got n m.0 m.1 t rest m.3 in
        record {
          read = u.read ++ v.read;
          is = u.is ∙ (ap (λ x. u.read ++ x) v.is ∙ sym (append_assoc u.read v.read rest));
          holds = step m.0 u.read v.read refl u.holds v.holds;
        })
  ]

  pub loop_fails : (n : ℕ) (s : S) (ts x : List Sym) → loop n s ts ≡ Fails x → Ends ts x (λ w. StepsFront Spells Front s w)
  loop_fails zero s ts x e = let bad : Got s ts ≡ Fails x = sym (none_left s ts) ∙ e in cc
  loop_fails (suc n) s ts x e = elim (bool_is (stops ts)) [
    | inl q ↦ (let bad : Got s ts ≡ Fails x = sym (stay (suc n) s ts q) ∙ e in cc)
    | inr q ↦ ⊎_elim
        (λ bad. let u = (ek s).fails ts x bad in record { read = u.read; is = u.is; holds = now u.holds })
        (λ m.
        let u = (ek s).got ts m.0 m.1 m.2 in
        let v = loop_fails n m.0 m.1 x m.3 in
        record {
          read = u.read ++ v.read;
          is = u.is ∙ (ap (λ y. u.read ++ y) v.is ∙ sym (append_assoc u.read v.read x));
          holds = later m.0 u.read v.read refl u.holds v.holds;
        })
        (then_fails (next s ts) (λ t rest. loop n t rest) x (sym (turn n s ts q) ∙ e))
  ]

  -- steps begin with a symbol with which a step begins
  pub steps_begin : (s t : S) (c : Sym) (w : List Sym) → Steps Spells s (c ∷ w) t → is_in sk (code c.class) ≡ true
  steps_begin s t c w (done e) = cc
  steps_begin s t c w (step u [] behind e h more) = absurd ((ek s).fills refl u h)
  steps_begin s t c w (step u (d ∷ before) behind e h more) =
      let same : d ≡ c = cc in
      (ek s).first c before (subst (λ d. (k s).front (d ∷ before)) same ((ek s).whole (d ∷ before) u h))

  pub front_begins : (s : S) (c : Sym) (w : List Sym) → StepsFront Spells Front s (c ∷ w) → is_in sk (code c.class) ≡ true
  front_begins s c w (now f) = (ek s).first c w f
  front_begins s c w (later u [] behind e h more) = absurd ((ek s).fills refl u h)
  front_begins s c w (later u (d ∷ before) behind e h more) =
      let same : d ≡ c = cc in
      (ek s).first c before (subst (λ d. (k s).front (d ∷ before)) same ((ek s).whole (d ∷ before) u h))

  pub steps_whole : {s t : S} {w : List Sym} → Steps Spells s w t → StepsFront Spells Front s w
  steps_whole {s = s} (done e) = now (subst (k s).front (sym e) (ek s).empty)
  steps_whole (step u before behind e h more) = later u before behind e h (steps_whole more)

  parts_steps : (u t : S) (behind rest : List Sym) → Steps Spells u behind t → Stops gk rest → Stops gk (behind ++ rest)
  parts_steps u t [] rest h st = st
  parts_steps u t (c ∷ behind) rest h st = apart_no sk gk (code c.class) parted (steps_begin u t c behind h)

  -- one step that is spelt
  one_turn : (n : ℕ) (s u : S) (c : Sym) (before behind rest : List Sym) → (k s).spells (c ∷ before) u → Stops gk (behind ++ rest) → loop (suc n) s ((c ∷ before ++ behind) ++ rest) ≡ loop n u (behind ++ rest)
  one_turn n s u c before behind rest h st =
      ap (loop (suc n) s) (append_assoc (c ∷ before) behind rest)
      ∙ (turn n s (c ∷ before ++ (behind ++ rest)) (started c (before ++ (behind ++ rest)) ((ek s).first c before ((ek s).whole (c ∷ before) u h)))
      ∙ ap (λ o. and_then o (λ t rest. loop n t rest)) ((ek s).complete (c ∷ before) u h (behind ++ rest) st))

  pub loop_complete : {s t : S} {w : List Sym} → Steps Spells s w t → (rest : List Sym) → Stops gk rest → stops rest ≡ true → (n : ℕ) → length (w ++ rest) ≤ n → loop n s (w ++ rest) ≡ Got t rest
  loop_complete {s = s} (done e) rest st end n le = ap (λ x. loop n s (x ++ rest)) e ∙ stay n s rest end
  loop_complete {s = s} (step u [] behind e h more) rest st end n le = absurd ((ek s).fills refl u h)
  loop_complete {s = s} {w = w} (step u (c ∷ before) behind e h more) rest st end zero le =
      absurd (omega (arith, ap (λ x. length (x ++ rest)) e))
  loop_complete {s = s} {t = t} {w = w} (step u (c ∷ before) behind e h more) rest st end (suc n) le =
      ap (λ x. loop (suc n) s (x ++ rest)) e
      ∙ (one_turn n s u c before behind rest h (parts_steps u t behind rest more st)
      ∙ loop_complete more rest st end n (omega (arith, ap (λ x. length (x ++ rest)) e, ap length (append_assoc before behind rest), length-append before (behind ++ rest))))

  -- where a step is whole and its symbols are the last
  last_through : (n : ℕ) (s : S) (c : Sym) (f rest : List Sym) → (k s).front (c ∷ f) → left (loop (suc n) s (c ∷ f ++ rest)) ≤ length rest
  last_through n s c f rest h = omega (
    arith,
    ap left (turn n s (c ∷ f ++ rest) (started c (f ++ rest) ((ek s).first c f h))),
    then_less (next s (c ∷ f ++ rest)) (λ t rest. loop n t rest) (length rest) ((ek s).through (c ∷ f) h rest) (λ t rest. loop_less n t rest),
  )

  now_through : (s : S) (f : List Sym) → (k s).front f → (rest : List Sym) → (n : ℕ) → length (f ++ rest) ≤ n → left (loop n s (f ++ rest)) ≤ length rest
  now_through s [] h rest n le = loop_less n s rest
  now_through s (c ∷ f) h rest zero le = absurd (omega arith)
  now_through s (c ∷ f) h rest (suc n) le = last_through n s c f rest h

  pub loop_through : {s : S} {f : List Sym} → StepsFront Spells Front s f → (rest : List Sym) (n : ℕ) → length (f ++ rest) ≤ n → left (loop n s (f ++ rest)) ≤ length rest
  loop_through {s = s} {f = f} (now h) rest n le = now_through s f h rest n le
  loop_through {s = s} (later u [] behind e h more) rest n le = absurd ((ek s).fills refl u h)
  loop_through {s = s} (later u (c ∷ before) behind e h more) rest zero le = absurd (omega (arith, ap (λ x. length (x ++ rest)) e))
  loop_through {s = s} (later u (c ∷ before) [] e h more) rest (suc n) le =
      omega (arith, ap (λ x. left (loop (suc n) s x)) (ap (λ x. x ++ rest) e ∙ append_assoc (c ∷ before) [] rest), last_through n s c before rest ((ek s).whole (c ∷ before) u h))
  loop_through {s = s} (later u (c ∷ before) (d ∷ behind) e h more) rest (suc n) le =
      omega (
        arith,
        ap (λ x. left (loop (suc n) s (x ++ rest))) e,
        ap left (one_turn n s u c before (d ∷ behind) rest h (apart_no sk gk (code d.class) parted (front_begins u d behind more))),
        loop_through more rest n (omega (arith, ap (λ x. length (x ++ rest)) e, ap length (append_assoc before (d ∷ behind) rest), length-append before (d ∷ behind ++ rest))),
      )

  pub clean_steps : {s t : S} {w : List Sym} → Steps Spells s w t → NoneRefused w
  clean_steps (done {ts = w} e) = clean_empty w e
  clean_steps {s = s} (step u before behind e h more) = subst NoneRefused (sym e) (clean_append before behind ((ek s).clean before ((ek s).whole before u h)) (clean_steps more))

  pub front_clean : {s : S} {w : List Sym} → StepsFront Spells Front s w → NoneRefused w
  front_clean {s = s} {w = w} (now f) = (ek s).clean w f
  front_clean {s = s} (later u before behind e h more) = subst NoneRefused (sym e) (clean_append before behind ((ek s).clean before ((ek s).whole before u h)) (front_clean more))

  closed_at : (s x : S) (u v before behind : List Sym) → Spells s before x → ((m : List Sym) → behind ≡ m ++ v → StepsFront Spells Front x m) → Overlap u v before behind → StepsFront Spells Front s u
  closed_at s x u v before behind h more (within_first m z) = now ((ek s).closed u m (subst (k s).front z ((ek s).whole before x h)))
  closed_at s x u v before behind h more (over_first m y z) = later x before m y h (more m z)

  pub front_closed : {s : S} {w : List Sym} → StepsFront Spells Front s w → (u v : List Sym) → w ≡ u ++ v → StepsFront Spells Front s u
  front_closed {s = s} (now f) u v e = now ((ek s).closed u v (subst (k s).front e f))
  front_closed {s = s} (later x before behind e h more) u v q = closed_at s x u v before behind h (λ m z. front_closed more m v z) (overlap u v before behind (sym q ∙ e))

-- a repetition that ends where no step begins
module _ {S : Type 0} (k : S → Phrase S) (next : S → Reader S) (stops : List Sym → Bool) (sk gk : List ℕ)
    (ek : (s : S) → Exact (k s) (next s) sk (λ _. gk) true)
    (started : (c : Sym) (ts : List Sym) → is_in sk (code c.class) ≡ true → stops (c ∷ ts) ≡ false)
    (parted : apart sk gk ≡ true)
    (g : S → List ℕ) (more : (t : S) → within gk (g t) ≡ true)
    (ends : (t : S) (rest : List Sym) → Stops (g t) rest → stops rest ≡ true) where
  pub repeat_exact : (s : S) → Exact (ph.repeat k s) (repeat stops next s) sk g false
  repeat_exact s = record {
    whole = λ w t h. steps_whole k next stops sk gk ek started parted h;
    empty = now (ek s).empty;
    first = λ c ts f. front_begins k next stops sk gk ek started parted s c ts f;
    fills = λ e. cc;
    got = λ ts t rest e. loop_got k next stops sk gk ek started parted (length ts) s ts t rest e;
    fails = λ ts x e. loop_fails k next stops sk gk ek started parted (length ts) s ts x e;
    complete = λ w t h rest st. loop_complete k next stops sk gk ek started parted h rest (stops_more gk (g t) rest (more t) st) (ends t rest st) (length (w ++ rest)) (omega arith);
    through = λ f h rest. loop_through k next stops sk gk ek started parted h rest (length (f ++ rest)) (omega arith);
    closed = λ u v h. front_closed k next stops sk gk ek started parted h u v refl;
    clean = λ w h. front_clean k next stops sk gk ek started parted h;
  }

-- a repetition, and what closes it
module _ {S B : Type 0} (k : S → Phrase S) (next : S → Reader S) (stops : List Sym → Bool) (sk gk : List ℕ)
    (ek : (s : S) → Exact (k s) (next s) sk (λ _. gk) true)
    (started : (c : Sym) (ts : List Sym) → is_in sk (code c.class) ≡ true → stops (c ∷ ts) ≡ false)
    (parted : apart sk gk ≡ true)
    (q : S → Phrase B) (l : S → Reader B) (sq : List ℕ) (gq : B → List ℕ)
    (eq : (s : S) → Exact (q s) (l s) sq gq true)
    (closed : (c : Sym) (ts : List Sym) → is_in sq (code c.class) ≡ true → stops (c ∷ ts) ≡ true)
    (closing : apart sq gk ≡ true) where
  until_got : (s : S) (ts : List Sym) (b : B) (rest : List Sym) → and_then (repeat stops next s ts) l ≡ Got b rest → Ends ts rest (λ w. Cut (λ us t. Steps (λ u. (k u).spells) s us t) (λ t us. (q t).spells us b) w)
  until_got s ts b rest e =
      let m = then_got (repeat stops next s ts) l b rest e in
      let u = loop_got k next stops sk gk ek started parted (length ts) s ts m.0 m.1 m.2 in
      let v = (eq m.0).got m.1 b rest m.3 in
      record {
        read = u.read ++ v.read;
        is = u.is ∙ (ap (λ x. u.read ++ x) v.is ∙ sym (append_assoc u.read v.read rest));
        holds = record { before = u.read; behind = v.read; value = m.0; is = refl; spelt = u.holds; follows = v.holds };
      }

  until_fails : (s : S) (ts x : List Sym) → and_then (repeat stops next s ts) l ≡ Fails x → Ends ts x (λ w. StepsFront (λ u. (k u).spells) (λ u. (k u).front) s w ⊎ Cut (λ us t. Steps (λ u. (k u).spells) s us t) (λ t. (q t).front) w)
  until_fails s ts x e = ⊎_elim
      (λ bad. let u = loop_fails k next stops sk gk ek started parted (length ts) s ts x bad in record { read = u.read; is = u.is; holds = inl u.holds })
      (λ m.
      let u = loop_got k next stops sk gk ek started parted (length ts) s ts m.0 m.1 m.2 in
      let v = (eq m.0).fails m.1 x m.3 in
      record {
        read = u.read ++ v.read;
        is = u.is ∙ (ap (λ y. u.read ++ y) v.is ∙ sym (append_assoc u.read v.read x));
        holds = inr (record { before = u.read; behind = v.read; value = m.0; is = refl; spelt = u.holds; follows = v.holds });
      })
      (then_fails (repeat stops next s ts) l x e)

  -- behind the steps comes what closes them
  to_close : (s t : S) (u : List Sym) (c : Sym) (v rest : List Sym) → Steps (λ u. (k u).spells) s u t → (q t).front (c ∷ v) → repeat stops next s ((u ++ c ∷ v) ++ rest) ≡ Got t (c ∷ v ++ rest)
  to_close s t u c v rest h f =
      ap (repeat stops next s) (append_assoc u (c ∷ v) rest)
      ∙ loop_complete k next stops sk gk ek started parted h (c ∷ v ++ rest) (apart_no sq gk (code c.class) closing ((eq t).first c v f)) (closed c (v ++ rest) ((eq t).first c v f)) (length (u ++ (c ∷ v ++ rest))) (omega arith)

  until_complete : (s t : S) (w u v : List Sym) (b : B) → w ≡ u ++ v → Steps (λ u. (k u).spells) s u t → (q t).spells v b → (rest : List Sym) → Stops (gq b) rest → and_then (repeat stops next s (w ++ rest)) l ≡ Got b rest
  until_complete s t w u [] b e h f rest st = absurd ((eq t).fills refl b f)
  until_complete s t w u (c ∷ v) b e h f rest st =
      ap (λ x. and_then (repeat stops next s (x ++ rest)) l) e
      ∙ (ap (λ o. and_then o l) (to_close s t u c v rest h ((eq t).whole (c ∷ v) b f))
      ∙ (eq t).complete (c ∷ v) b f rest st)

  until_through_cut : (s t : S) (w u v : List Sym) → w ≡ u ++ v → Steps (λ u. (k u).spells) s u t → (q t).front v → (rest : List Sym) → left (and_then (repeat stops next s (w ++ rest)) l) ≤ length rest
  until_through_cut s t w u [] e h f rest =
      omega (
        arith,
        ap (λ x. left (and_then (repeat stops next s x) l)) (ap (λ x. x ++ rest) e ∙ append_assoc u [] rest),
        then_less (repeat stops next s (u ++ rest)) l (length rest)
            (loop_through k next stops sk gk ek started parted (steps_whole k next stops sk gk ek started parted h) rest (length (u ++ rest)) (omega arith))
            (λ a ts. less (eq a) ts),
      )
  until_through_cut s t w u (c ∷ v) e h f rest =
      omega (
        arith,
        ap (λ x. left (and_then (repeat stops next s (x ++ rest)) l)) e,
        ap (λ o. left (and_then o l)) (to_close s t u c v rest h f),
        (eq t).through (c ∷ v) f rest,
      )

  until_first : (s : S) (c : Sym) (ts u v : List Sym) (t : S) → c ∷ ts ≡ u ++ v → Steps (λ u. (k u).spells) s u t → (q t).front v → is_in (sk ++ sq) (code c.class) ≡ true
  until_first s c ts [] v t e h f = in_right sk sq (code c.class) ((eq t).first c ts (subst (λ l. (q t).front l) (sym e) f))
  until_first s c ts (d ∷ u) v t e h f =
      let same : d ≡ c = cc in
      in_left sk sq (code c.class) (subst (λ d. is_in sk (code d.class) ≡ true) same (steps_begin k next stops sk gk ek started parted s t d u h))

  until_fills : (s t : S) (u v : List Sym) (b : B) → [] ≡ u ++ v → Steps (λ u. (k u).spells) s u t → (q t).spells v b → ⊥
  until_fills s t [] v b e h f = (eq t).fills refl b (subst (λ l. (q t).spells l b) (sym e) f)
  until_fills s t (d ∷ u) v b e h f = cc

  until_closed : (s t : S) (u v a b : List Sym) → Steps (λ u. (k u).spells) s a t → (q t).front b → Overlap u v a b → StepsFront (λ u. (k u).spells) (λ u. (k u).front) s u ⊎ Cut (λ us t. Steps (λ u. (k u).spells) s us t) (λ t. (q t).front) u
  until_closed s t u v a b h f (within_first m e) = inl (front_closed k next stops sk gk ek started parted (steps_whole k next stops sk gk ek started parted h) u m e)
  until_closed s t u v a b h f (over_first m e z) = inr (record { before = a; behind = m; value = t; is = e; spelt = h; follows = (eq t).closed m v (subst (q t).front z f) })

  pub until_exact : (s : S) → Exact (ph.◌>>=◌ (ph.repeat k s) q) (repeat stops next s >>= l) (sk ++ sq) gq true
  until_exact s = record {
    whole = λ w b c. inr (record { before = c.before; behind = c.behind; value = c.value; is = c.is; spelt = c.spelt; follows = (eq c.value).whole c.behind b c.follows });
    empty = inl (now (ek s).empty);
    first = λ c ts f. ⊎_elim (λ x. in_left sk sq (code c.class) (front_begins k next stops sk gk ek started parted s c ts x)) (λ x. until_first s c ts x.before x.behind x.value x.is x.spelt x.follows) f;
    fills = λ e b c. until_fills s c.value c.before c.behind b c.is c.spelt c.follows;
    got = until_got s;
    fails = until_fails s;
    complete = λ w b c rest st. until_complete s c.value w c.before c.behind b c.is c.spelt c.follows rest st;
    through = λ f h rest. ⊎_elim
        (λ x. then_less (repeat stops next s (f ++ rest)) l (length rest) (loop_through k next stops sk gk ek started parted x rest (length (f ++ rest)) (omega arith)) (λ a ts. less (eq a) ts))
        (λ c. until_through_cut s c.value f c.before c.behind c.is c.spelt c.follows rest) h;
    closed = λ u v h. ⊎_elim
        (λ x. inl (front_closed k next stops sk gk ek started parted x u v refl))
        (λ c. until_closed s c.value u v c.before c.behind c.spelt c.follows (overlap u v c.before c.behind c.is)) h;
    clean = λ w h. ⊎_elim
        (λ x. front_clean k next stops sk gk ek started parted x)
        (λ c. subst NoneRefused (sym c.is) (clean_append c.before c.behind (clean_steps k next stops sk gk ek started parted c.spelt) ((eq c.value).clean c.behind c.follows))) h;
  }
