-- When a reader reads a phrase exactly, and that it does so where its parts do.
use Rattle.std.proofs.Common.{◌≡◌, ℕ, ◌⊎◌, inl, inr, ⊎_elim, ◌≤◌, Bool, true, false, List, [], ◌∷◌, ◌++◌, length, Option, Some, None, refl, sym, ap, ◌∙◌, subst, append_assoc, arith}
use Rattle.c_parse.specs.declared.symbols.Class.TheVariants as class
use Rattle.c_parse.specs.Symbols.{Sym}
use Rattle.c_parse.specs.Parsed.{NoneRefused}
use Rattle.c_parse.specs.Phrases.{Phrase, Cut, IsOne, nothing, give, one, ◌or◌}
use Rattle.c_parse.specs.Phrases as ph
use Rattle.c_parse.specs.Reading.{Read, Got, Fails, Reader, and_then, ◌>>=◌, pure}
use Rattle.c_parse.proofs.Sets.{code, is_in, within, within_in, within_no}

-- how many symbols are left where a reader ends
abbrev pub left : {A : Type 0} → Read A → ℕ
left (Got a rest) = length rest
left (Fails rest) = length rest

-- no symbol of the set comes next
abbrev pub Stops : List ℕ → List Sym → Type 0
Stops g [] = Unit {0}
Stops g (s ∷ ts) = is_in g (code s.class) ≡ false

-- a list cut where a reader ends
pub record Ends (ts rest : List Sym) (P : List Sym → Type 0) : Type 0 where
  pub read : List Sym
  pub is : ts ≡ read ++ rest
  pub holds : P read

-- the reader gives what the phrase spells, and goes through its fronts. The phrase begins with a symbol of the first set, and does not go on, behind a value, with one that is not in the second
pub record Exact {A : Type 0} (p : Phrase A) (r : Reader A) (starts : List ℕ) (goes : A → List ℕ) (full : Bool) : Type 0 where
  pub whole : (w : List Sym) (a : A) → p.spells w a → p.front w
  pub empty : p.front []
  pub first : (s : Sym) (ts : List Sym) → p.front (s ∷ ts) → is_in starts (code s.class) ≡ true
  pub fills : full ≡ true → (a : A) → p.spells [] a → ⊥
  pub got : (ts : List Sym) (a : A) (rest : List Sym) → r ts ≡ Got a rest → Ends ts rest (λ w. p.spells w a)
  pub fails : (ts x : List Sym) → r ts ≡ Fails x → Ends ts x p.front
  pub complete : (w : List Sym) (a : A) → p.spells w a → (rest : List Sym) → Stops (goes a) rest → r (w ++ rest) ≡ Got a rest
  pub through : (f : List Sym) → p.front f → (rest : List Sym) → left (r (f ++ rest)) ≤ length rest
  pub closed : (u v : List Sym) → p.front (u ++ v) → p.front u
  pub clean : (w : List Sym) → p.front w → NoneRefused w

-- ---- lists

pub empty_left : (u v : List Sym) → u ++ v ≡ [] → u ≡ []
empty_left [] v e = refl
empty_left (c ∷ u) v e = cc

pub clean_append : (u v : List Sym) → NoneRefused u → NoneRefused v → NoneRefused (u ++ v)
clean_append [] v h k = k
clean_append (c ∷ u) v h k = (h.0, clean_append u v h.1 k)

pub clean_empty : (w : List Sym) → w ≡ [] → NoneRefused w
clean_empty w e = subst NoneRefused (sym e) tt

-- a list cut twice: the first part of the one is within that of the other
pub data Overlap (u v a b : List Sym) : Type 0 where
  within_first : (m : List Sym) → a ≡ u ++ m → Overlap u v a b
  over_first : (m : List Sym) → u ≡ a ++ m → b ≡ m ++ v → Overlap u v a b

overlap_more : (c d : Sym) (u v a b : List Sym) → c ≡ d → Overlap u v a b → Overlap (c ∷ u) v (d ∷ a) b
overlap_more c d u v a b e (within_first m p) = within_first m (let q : d ∷ a ≡ c ∷ (u ++ m) = cc in q)
overlap_more c d u v a b e (over_first m p q) = over_first m (let h : c ∷ u ≡ d ∷ (a ++ m) = cc in h) q

pub overlap : (u v a b : List Sym) → u ++ v ≡ a ++ b → Overlap u v a b
overlap [] v a b e = within_first a refl
overlap (c ∷ u) v [] b e = over_first (c ∷ u) refl (sym e)
overlap (c ∷ u) v (d ∷ a) b e =
    let p : c ≡ d = cc in
    let q : u ++ v ≡ a ++ b = cc in
    overlap_more c d u v a b p (overlap u v a b q)

-- ---- what is read, cut at a step

pub then_got : {A B : Type 0} (o : Read A) (k : A → Reader B) (b : B) (rest : List Sym) → and_then o k ≡ Got b rest → (a : A) × (ts : List Sym) × (o ≡ Got a ts) × (k a ts ≡ Got b rest)
then_got (Got a ts) k b rest e = (a, ts, refl, e)
then_got (Fails ts) k b rest e = cc

pub then_fails : {A B : Type 0} (o : Read A) (k : A → Reader B) (x : List Sym) → and_then o k ≡ Fails x → (o ≡ Fails x) ⊎ ((a : A) × (ts : List Sym) × (o ≡ Got a ts) × (k a ts ≡ Fails x))
then_fails (Got a ts) k x e = inr (a, ts, refl, e)
then_fails (Fails ts) k x e = inl (cc)

pub then_less : {A B : Type 0} (o : Read A) (k : A → Reader B) (n : ℕ) → left o ≤ n → ((a : A) (ts : List Sym) → left (k a ts) ≤ length ts) → left (and_then o k) ≤ n
then_less (Got a ts) k n le h = let m : left (k a ts) ≤ length ts = h a ts in omega arith
then_less (Fails ts) k n le h = le

pub less : {A : Type 0} {p : Phrase A} {r : Reader A} {s : List ℕ} {g : A → List ℕ} {n : Bool} → Exact p r s g n → (ts : List Sym) → left (r ts) ≤ length ts
less e ts = e.through [] e.empty ts

-- ---- a value alone

pub give_exact : {A : Type 0} (a : A) → Exact (give a) (pure a) [] (λ _. []) false
give_exact {A} a = record {
  whole = λ w b h. h.0;
  empty = refl;
  first = λ s ts h. cc;
  fills = λ q b h. cc;
  got = λ ts b rest e. got ts b rest e;
  fails = λ ts x e. cc;
  complete = λ w b h rest _. complete w b h rest;
  through = λ f h rest. through f h rest;
  closed = λ u v h. empty_left u v h;
  clean = λ w h. clean_empty w h;
}
  where
    got : (ts : List Sym) (b : A) (rest : List Sym) → Got a ts ≡ Got b rest → Ends ts rest (λ w. (w ≡ []) × (b ≡ a))
    got ts b rest e = let q : ts ≡ rest = cc in let v : b ≡ a = cc in record { read = []; is = q; holds = (refl, v) }

    complete : (w : List Sym) (b : A) → (w ≡ []) × (b ≡ a) → (rest : List Sym) → Got a (w ++ rest) ≡ Got b rest
    complete w b h rest = let e : w ++ rest ≡ rest = ap (λ l. l ++ rest) h.0 in let v : b ≡ a = h.1 in cc

    through : (f : List Sym) → f ≡ [] → (rest : List Sym) → length (f ++ rest) ≤ length rest
    through f h rest = let e : f ++ rest ≡ rest = ap (λ l. l ++ rest) h in omega (arith, ap length e)

-- ---- nothing

pub nothing_exact : {A : Type 0} → Exact {A = A} nothing (λ ts. Fails ts) [] (λ _. []) true
nothing_exact {A} = record {
  whole = λ w b h. absurd h;
  empty = refl;
  first = λ s ts h. cc;
  fills = λ q b h. h;
  got = λ ts b rest e. cc;
  fails = λ ts x e. fails ts x e;
  complete = λ w b h rest _. absurd h;
  through = λ f h rest. through f h rest;
  closed = λ u v h. empty_left u v h;
  clean = λ w h. clean_empty w h;
}
  where
    fails : (ts x : List Sym) → ◌≡◌ {A = Read A} (Fails ts) (Fails x) → Ends ts x (λ w. w ≡ [])
    fails ts x e = let q : ts ≡ x = cc in record { read = []; is = q; holds = refl }

    through : (f : List Sym) → f ≡ [] → (rest : List Sym) → length (f ++ rest) ≤ length rest
    through f h rest = let e : f ++ rest ≡ rest = ap (λ l. l ++ rest) h in omega (arith, ap length e)

-- ---- one symbol

abbrev pub taken : {A : Type 0} → Option A → Sym → List Sym → Read A
taken None s ts = Fails (s ∷ ts)
taken (Some a) s ts = Got a ts

-- reads one symbol
abbrev pub take_one : {A : Type 0} → (Sym → Option A) → Reader A
take_one read [] = Fails []
take_one read (s ∷ ts) = taken (read s) s ts

taken_got : {A : Type 0} (o : Option A) (s : Sym) (ts : List Sym) (a : A) (rest : List Sym) → taken o s ts ≡ Got a rest → (o ≡ Some a) × (ts ≡ rest)
taken_got None s ts a rest e = cc
taken_got (Some b) s ts a rest e = let v : b ≡ a = cc in let q : ts ≡ rest = cc in (ap Some v, q)

taken_fails : {A : Type 0} (o : Option A) (s : Sym) (ts x : List Sym) → taken o s ts ≡ Fails x → s ∷ ts ≡ x
taken_fails None s ts x e = cc
taken_fails (Some b) s ts x e = cc

taken_less : {A : Type 0} (o : Option A) (s : Sym) (ts : List Sym) → left (taken o s ts) ≤ length (s ∷ ts)
taken_less None s ts = omega arith
taken_less (Some b) s ts = omega arith

pub one_exact : {A : Type 0} (read : Sym → Option A) (starts : List ℕ) → ((s : Sym) (a : A) → read s ≡ Some a → is_in starts (code s.class) ≡ true) → is_in starts 6 ≡ false → Exact (one read) (take_one read) starts (λ _. []) true
one_exact {A} read starts begins plain = record {
  whole = λ w a h. inr (a, h);
  empty = inl refl;
  first = first;
  fills = λ _ a h. cc h.1;
  got = got;
  fails = fails;
  complete = λ w a h rest _. complete w a h rest;
  through = through;
  closed = closed;
  clean = clean;
}
  where
    first : (s : Sym) (ts : List Sym) → (s ∷ ts ≡ []) ⊎ ((a : A) × IsOne read (s ∷ ts) a) → is_in starts (code s.class) ≡ true
    first s ts (inl e) = cc
    first s ts (inr h) = let q : s ≡ h.1.0 = (let e : s ∷ ts ≡ h.1.0 ∷ [] = h.1.1 in cc) in begins s h.0 (ap read q ∙ h.1.2)

    got : (ts : List Sym) (a : A) (rest : List Sym) → take_one read ts ≡ Got a rest → Ends ts rest (λ w. IsOne read w a)
    got [] a rest e = cc
    got (s ∷ ts) a rest e = let h = taken_got (read s) s ts a rest e in record { read = s ∷ []; is = ap (λ l. s ∷ l) h.1; holds = (s, refl, h.0) }

    fails : (ts x : List Sym) → take_one read ts ≡ Fails x → Ends ts x (λ ts. (ts ≡ []) ⊎ ((a : A) × IsOne read ts a))
    fails [] x e = let q : [] ≡ x = cc in record { read = []; is = q; holds = inl refl }
    fails (s ∷ ts) x e = record { read = []; is = taken_fails (read s) s ts x e; holds = inl refl }

    complete : (w : List Sym) (a : A) → IsOne read w a → (rest : List Sym) → take_one read (w ++ rest) ≡ Got a rest
    complete w a h rest = ap (λ l. take_one read (l ++ rest)) h.1 ∙ ap (λ o. taken o h.0 rest) h.2

    any_less : (ts : List Sym) → left (take_one read ts) ≤ length ts
    any_less [] = omega arith
    any_less (s ∷ ts) = taken_less (read s) s ts

    through : (f : List Sym) → (f ≡ []) ⊎ ((a : A) × IsOne read f a) → (rest : List Sym) → left (take_one read (f ++ rest)) ≤ length rest
    through f (inl e) rest = subst (λ l. left (take_one read (l ++ rest)) ≤ length rest) (sym e) (any_less rest)
    through f (inr h) rest = omega (arith, ap left (complete f h.0 h.1 rest))

    closed : (u v : List Sym) → (u ++ v ≡ []) ⊎ ((a : A) × IsOne read (u ++ v) a) → (u ≡ []) ⊎ ((a : A) × IsOne read u a)
    closed u v (inl e) = inl (empty_left u v e)
    closed [] v (inr h) = inl refl
    closed (c ∷ u) v (inr h) =
        let e : c ∷ (u ++ v) ≡ h.1.0 ∷ [] = h.1.1 in
        let tail : u ++ v ≡ [] = cc in
        let z : u ≡ [] = empty_left u v tail in
        inr (h.0, (h.1.0, (let k : c ∷ u ≡ h.1.0 ∷ [] = cc in k), h.1.2))

    clean : (w : List Sym) → (w ≡ []) ⊎ ((a : A) × IsOne read w a) → NoneRefused w
    clean w (inl e) = clean_empty w e
    clean w (inr h) = subst NoneRefused (sym h.1.1) (kept h.1.0 h.0 h.1.2, tt)
      where
        kept : (s : Sym) (a : A) → read s ≡ Some a → s.class ≡ class.Refused → ⊥
        kept s a e q = let y = begins s a e in let z : is_in starts (code s.class) ≡ is_in starts 6 = ap (λ c. is_in starts (code c)) q in cc

-- ---- one behind another

module _ {A B : Type 0} (p : Phrase A) (k : A → Phrase B) (r : Reader A) (l : A → Reader B)
    (sp : List ℕ) (gp : A → List ℕ) (np : Bool) (sk : List ℕ) (gk : A → B → List ℕ) (nk : Bool)
    (s : List ℕ) (g : B → List ℕ) (n : Bool)
    (ep : Exact p r sp gp np) (ek : (a : A) → Exact (k a) (l a) sk (gk a) nk)
    (begins : within sp s ≡ true) (skips : np ≡ false → within sk s ≡ true) (fills : n ≡ true → (np ≡ true) ⊎ (nk ≡ true))
    (parted : (a : A) (c : Sym) (ts : List Sym) → (k a).front (c ∷ ts) → is_in (gp a) (code c.class) ≡ false)
    (ends : (a : A) (b : B) (ts : List Sym) → (k a).spells ts b → within (gk a b) (g b) ≡ true)
    (open_ends : (a : A) (b : B) → (k a).spells [] b → within (gp a) (g b) ≡ true) where
  stops_in : (xs ys : List ℕ) (rest : List Sym) → within xs ys ≡ true → Stops ys rest → Stops xs rest
  stops_in xs ys [] e h = tt
  stops_in xs ys (c ∷ ts) e h = within_no xs ys (code c.class) e h

  -- what stands behind the first lets it stop
  stopped : (a : A) (b : B) (v rest : List Sym) → (k a).spells v b → Stops (g b) rest → Stops (gp a) (v ++ rest)
  stopped a b [] rest h st = stops_in (gp a) (g b) rest (open_ends a b h) st
  stopped a b (c ∷ v) rest h st = parted a c v ((ek a).whole (c ∷ v) b h)

  after : (a : A) (v : List Sym) (u rest : List Sym) → p.spells u a → (k a).front v → left (and_then (r (u ++ (v ++ rest))) l) ≤ length rest
  after a [] u rest h f = then_less (r (u ++ rest)) l (length rest) (ep.through u (ep.whole u a h) rest) (λ a ts. less (ek a) ts)
  after a (c ∷ v) u rest h f = omega (arith, ap (λ o. left (and_then o l)) (ep.complete u a h (c ∷ v ++ rest) (parted a c v f)), (ek a).through (c ∷ v) f rest)

  bind_whole : (w : List Sym) (b : B) → Cut p.spells (λ a us. (k a).spells us b) w → p.front w ⊎ Cut p.spells (λ a. (k a).front) w
  bind_whole w b c = inr (record { before = c.before; behind = c.behind; value = c.value; is = c.is; spelt = c.spelt; follows = (ek c.value).whole c.behind b c.follows })

  bind_first_in : (c : Sym) (ts u v : List Sym) (a : A) → c ∷ ts ≡ u ++ v → p.spells u a → (k a).front v → (b : Bool) → np ≡ b → is_in s (code c.class) ≡ true
  bind_first_in c ts [] v a e h f true q = absurd (ep.fills q a h)
  bind_first_in c ts [] v a e h f false q = within_in sk s (code c.class) (skips q) ((ek a).first c ts (subst (λ l. (k a).front l) (sym e) f))
  bind_first_in c ts (d ∷ u) v a e h f b q =
      let same : d ≡ c = cc in
      within_in sp s (code c.class) begins (ep.first c u (subst (λ d. p.front (d ∷ u)) same (ep.whole (d ∷ u) a h)))

  bind_first : (c : Sym) (ts : List Sym) → p.front (c ∷ ts) ⊎ Cut p.spells (λ a. (k a).front) (c ∷ ts) → is_in s (code c.class) ≡ true
  bind_first c ts (inl f) = within_in sp s (code c.class) begins (ep.first c ts f)
  bind_first c ts (inr f) = bind_first_in c ts f.before f.behind f.value f.is f.spelt f.follows np refl

  bind_fills_in : (u v : List Sym) (a : A) (b : B) → [] ≡ u ++ v → p.spells u a → (k a).spells v b → (np ≡ true) ⊎ (nk ≡ true) → ⊥
  bind_fills_in [] v a b e h f (inl q) = ep.fills q a h
  bind_fills_in [] v a b e h f (inr q) = (ek a).fills q b (subst (λ l. (k a).spells l b) (sym e) f)
  bind_fills_in (d ∷ u) v a b e h f q = cc

  bind_got : (ts : List Sym) (b : B) (rest : List Sym) → and_then (r ts) l ≡ Got b rest → Ends ts rest (λ w. Cut p.spells (λ a us. (k a).spells us b) w)
  bind_got ts b rest e =
      let m = then_got (r ts) l b rest e in
      let u = ep.got ts m.0 m.1 m.2 in
      let v = (ek m.0).got m.1 b rest m.3 in
      record {
        read = u.read ++ v.read;
        is = u.is ∙ (ap (λ x. u.read ++ x) v.is ∙ sym (append_assoc u.read v.read rest));
        holds = record { before = u.read; behind = v.read; value = m.0; is = refl; spelt = u.holds; follows = v.holds };
      }

  bind_fails : (ts x : List Sym) → and_then (r ts) l ≡ Fails x → Ends ts x (λ w. p.front w ⊎ Cut p.spells (λ a. (k a).front) w)
  bind_fails ts x e = ⊎_elim
      (λ bad. let u = ep.fails ts x bad in record { read = u.read; is = u.is; holds = inl u.holds })
      (λ m.
      let u = ep.got ts m.0 m.1 m.2 in
      let v = (ek m.0).fails m.1 x m.3 in
      record {
        read = u.read ++ v.read;
        is = u.is ∙ (ap (λ y. u.read ++ y) v.is ∙ sym (append_assoc u.read v.read x));
        holds = inr (record { before = u.read; behind = v.read; value = m.0; is = refl; spelt = u.holds; follows = v.holds });
      })
      (then_fails (r ts) l x e)

  bind_complete : (w : List Sym) (b : B) → Cut p.spells (λ a us. (k a).spells us b) w → (rest : List Sym) → Stops (g b) rest → and_then (r (w ++ rest)) l ≡ Got b rest
  bind_complete w b c rest st =
      ap (λ x. and_then (r x) l) (ap (λ x. x ++ rest) c.is ∙ append_assoc c.before c.behind rest)
      ∙ (ap (λ o. and_then o l) (ep.complete c.before c.value c.spelt (c.behind ++ rest) (stopped c.value b c.behind rest c.follows st))
      ∙ (ek c.value).complete c.behind b c.follows rest (stops_in (gk c.value b) (g b) rest (ends c.value b c.behind c.follows) st))

  bind_through : (f : List Sym) → p.front f ⊎ Cut p.spells (λ a. (k a).front) f → (rest : List Sym) → left (and_then (r (f ++ rest)) l) ≤ length rest
  bind_through f (inl h) rest = then_less (r (f ++ rest)) l (length rest) (ep.through f h rest) (λ a ts. less (ek a) ts)
  bind_through f (inr c) rest = omega (
    arith,
    ap (λ x. left (and_then (r x) l)) (ap (λ x. x ++ rest) c.is ∙ append_assoc c.before c.behind rest),
    after c.value c.behind c.before rest c.spelt c.follows,
  )

  bind_closed_in : (u v a b : List Sym) (x : A) → u ++ v ≡ a ++ b → p.spells a x → (k x).front b → Overlap u v a b → p.front u ⊎ Cut p.spells (λ a. (k a).front) u
  bind_closed_in u v a b x e h f (within_first m q) = inl (ep.closed u m (subst p.front q (ep.whole a x h)))
  bind_closed_in u v a b x e h f (over_first m q z) = inr (record { before = a; behind = m; value = x; is = q; spelt = h; follows = (ek x).closed m v (subst (k x).front z f) })

  bind_closed : (u v : List Sym) → p.front (u ++ v) ⊎ Cut p.spells (λ a. (k a).front) (u ++ v) → p.front u ⊎ Cut p.spells (λ a. (k a).front) u
  bind_closed u v (inl h) = inl (ep.closed u v h)
  bind_closed u v (inr c) = bind_closed_in u v c.before c.behind c.value c.is c.spelt c.follows (overlap u v c.before c.behind c.is)

  bind_clean : (w : List Sym) → p.front w ⊎ Cut p.spells (λ a. (k a).front) w → NoneRefused w
  bind_clean w (inl h) = ep.clean w h
  bind_clean w (inr c) = subst NoneRefused (sym c.is) (clean_append c.before c.behind (ep.clean c.before (ep.whole c.before c.value c.spelt)) ((ek c.value).clean c.behind c.follows))

  pub bind_exact : Exact (ph.◌>>=◌ p k) (r >>= l) s g n
  bind_exact = record {
    whole = bind_whole;
    empty = inl ep.empty;
    first = bind_first;
    fills = λ q b c. bind_fills_in c.before c.behind c.value b c.is c.spelt c.follows (fills q);
    got = bind_got;
    fails = bind_fails;
    complete = bind_complete;
    through = bind_through;
    closed = bind_closed;
    clean = bind_clean;
  }
