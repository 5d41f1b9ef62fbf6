-- Choices, phrases that know where they begin, wider sets, and other readers and phrases that are the same.
use Rattle.std.proofs.Common.{◌≡◌, ℕ, ◌⊎◌, inl, inr, ⊎_elim, ◌≤◌, Bool, true, false, List, [], ◌∷◌, ◌++◌, length, refl, sym, ap, ◌∙◌, subst, append_assoc, arith}
use Rattle.std.proofs.lemmas.List.{append-nil}
use Rattle.c_tree.specs.declared.syntax.Place.{Place}
use Rattle.c_parse.specs.Symbols.{Sym}
use Rattle.c_parse.specs.Phrases.{Phrase, Cut, nothing, give, ◌or◌, place_of, placed}
use Rattle.c_parse.specs.Phrases as ph
use Rattle.c_parse.specs.Reading.{Got, Fails, Reader, ◌>>=◌, here, place_at}
use Rattle.c_parse.proofs.Sets.{code, is_in, apart, within, bool_is, apart_no, within_in, within_no, in_left, in_right}
use Rattle.c_parse.proofs.Exact.{Exact, Ends, Stops, left, less}

-- ---- larger sets

pub stops_more : (xs ys : List ℕ) (rest : List Sym) → within xs ys ≡ true → Stops ys rest → Stops xs rest
stops_more xs ys [] e h = tt
stops_more xs ys (c ∷ ts) e h = within_no xs ys (code c.class) e h

pub widen : {A : Type 0} {p : Phrase A} {r : Reader A} {s : List ℕ} {g : A → List ℕ} {n : Bool} (s' : List ℕ) (g' : A → List ℕ)
    → Exact p r s g n → within s s' ≡ true → ((a : A) → within (g a) (g' a) ≡ true) → Exact p r s' g' n
widen {g = g} s' g' e h k = record {
  whole = e.whole;
  empty = e.empty;
  first = λ c ts f. within_in _ s' (code c.class) h (e.first c ts f);
  fills = e.fills;
  got = e.got;
  fails = e.fails;
  complete = λ w a p rest st. e.complete w a p rest (stops_more (g a) (g' a) rest (k a) st);
  through = e.through;
  closed = e.closed;
  clean = e.clean;
}

-- ---- another reader that does the same

pub by_reader : {A : Type 0} {p : Phrase A} {r : Reader A} {s : List ℕ} {g : A → List ℕ} {n : Bool} (t : Reader A)
    → Exact p r s g n → ((ts : List Sym) → t ts ≡ r ts) → Exact p t s g n
by_reader t e h = record {
  whole = e.whole;
  empty = e.empty;
  first = e.first;
  fills = e.fills;
  got = λ ts a rest q. e.got ts a rest (sym (h ts) ∙ q);
  fails = λ ts x q. e.fails ts x (sym (h ts) ∙ q);
  complete = λ w a p rest st. h (w ++ rest) ∙ e.complete w a p rest st;
  through = λ f p rest. omega (arith, ap left (h (f ++ rest)), e.through f p rest);
  closed = e.closed;
  clean = e.clean;
}

-- ---- another phrase that says the same

pub record Same {A : Type 0} (p q : Phrase A) : Type 0 where
  pub spelt : (w : List Sym) (a : A) → p.spells w a → q.spells w a
  pub spelt_back : (w : List Sym) (a : A) → q.spells w a → p.spells w a
  pub begun : (w : List Sym) → p.front w → q.front w
  pub begun_back : (w : List Sym) → q.front w → p.front w

pub ends_as : {P Q : List Sym → Type 0} {ts rest : List Sym} → ((w : List Sym) → P w → Q w) → Ends ts rest P → Ends ts rest Q
ends_as f e = record { read = e.read; is = e.is; holds = f e.read e.holds }

pub by_phrase : {A : Type 0} {p : Phrase A} {r : Reader A} {s : List ℕ} {g : A → List ℕ} {n : Bool} (q : Phrase A)
    → Exact p r s g n → Same p q → Exact q r s g n
by_phrase q e h = record {
  whole = λ w a k. h.begun w (e.whole w a (h.spelt_back w a k));
  empty = h.begun [] e.empty;
  first = λ c ts f. e.first c ts (h.begun_back (c ∷ ts) f);
  fills = λ x a k. e.fills x a (h.spelt_back [] a k);
  got = λ ts a rest x. ends_as (λ w. h.spelt w a) (e.got ts a rest x);
  fails = λ ts x y. ends_as h.begun (e.fails ts x y);
  complete = λ w a k rest st. e.complete w a (h.spelt_back w a k) rest st;
  through = λ f k rest. e.through f (h.begun_back f k) rest;
  closed = λ u v k. h.begun u (e.closed u v (h.begun_back (u ++ v) k));
  clean = λ w k. e.clean w (h.begun_back w k);
}

pub same_refl : {A : Type 0} (p : Phrase A) → Same p p
same_refl p = record { spelt = λ w a h. h; spelt_back = λ w a h. h; begun = λ w h. h; begun_back = λ w h. h }

pub same_sym : {A : Type 0} {p q : Phrase A} → Same p q → Same q p
same_sym h = record { spelt = h.spelt_back; spelt_back = h.spelt; begun = h.begun_back; begun_back = h.begun }

pub same_trans : {A : Type 0} {p q r : Phrase A} → Same p q → Same q r → Same p r
same_trans h k = record {
  spelt = λ w a x. k.spelt w a (h.spelt w a x);
  spelt_back = λ w a x. h.spelt_back w a (k.spelt_back w a x);
  begun = λ w x. k.begun w (h.begun w x);
  begun_back = λ w x. h.begun_back w (k.begun_back w x);
}

abbrev recut : {A : Type 0} {P P' : List Sym → A → Type 0} {Q Q' : A → List Sym → Type 0} {ts : List Sym} → ((w : List Sym) (a : A) → P w a → P' w a) → ((a : A) (w : List Sym) → Q a w → Q' a w) → Cut P Q ts → Cut P' Q' ts
recut f g c = record { before = c.before; behind = c.behind; value = c.value; is = c.is; spelt = f c.before c.value c.spelt; follows = g c.value c.behind c.follows }

pub same_bind : {A B : Type 0} {p p' : Phrase A} {k k' : A → Phrase B} → Same p p' → ((a : A) → Same (k a) (k' a)) → Same (ph.◌>>=◌ p k) (ph.◌>>=◌ p' k')
same_bind h g = record {
  spelt = λ w b c. recut h.spelt (λ a us x. (g a).spelt us b x) c;
  spelt_back = λ w b c. recut h.spelt_back (λ a us x. (g a).spelt_back us b x) c;
  begun = λ w f. ⊎_elim (λ x. inl (h.begun w x)) (λ c. inr (recut h.spelt (λ a. (g a).begun) c)) f;
  begun_back = λ w f. ⊎_elim (λ x. inl (h.begun_back w x)) (λ c. inr (recut h.spelt_back (λ a. (g a).begun_back) c)) f;
}

pub same_or : {A : Type 0} {p p' q q' : Phrase A} → Same p p' → Same q q' → Same (p or q) (p' or q')
same_or h g = record {
  spelt = λ w a x. ⊎_elim (λ y. inl (h.spelt w a y)) (λ y. inr (g.spelt w a y)) x;
  spelt_back = λ w a x. ⊎_elim (λ y. inl (h.spelt_back w a y)) (λ y. inr (g.spelt_back w a y)) x;
  begun = λ w x. ⊎_elim (λ y. inl (h.begun w y)) (λ y. inr (g.begun w y)) x;
  begun_back = λ w x. ⊎_elim (λ y. inl (h.begun_back w y)) (λ y. inr (g.begun_back w y)) x;
}

pub same_placed : {A : Type 0} {k k' : Place → Phrase A} → ((at : Place) → Same (k at) (k' at)) → Same (placed k) (placed k')
same_placed h = record {
  spelt = λ w a x. (h (place_of w)).spelt w a x;
  spelt_back = λ w a x. (h (place_of w)).spelt_back w a x;
  begun = λ w x. (h (place_of w)).begun w x;
  begun_back = λ w x. (h (place_of w)).begun_back w x;
}

pub or_swap : {A : Type 0} (p q : Phrase A) → Same (p or q) (q or p)
or_swap p q = record {
  spelt = λ w a x. ⊎_elim inr inl x;
  spelt_back = λ w a x. ⊎_elim inr inl x;
  begun = λ w x. ⊎_elim inr inl x;
  begun_back = λ w x. ⊎_elim inr inl x;
}

pub or_group : {A : Type 0} (p q r : Phrase A) → Same ((p or q) or r) (p or (q or r))
or_group p q r = record {
  spelt = λ w a x. ⊎_elim (λ y. ⊎_elim inl (λ z. inr (inl z)) y) (λ y. inr (inr y)) x;
  spelt_back = λ w a x. ⊎_elim (λ y. inl (inl y)) (λ y. ⊎_elim (λ z. inl (inr z)) inr y) x;
  begun = λ w x. ⊎_elim (λ y. ⊎_elim inl (λ z. inr (inl z)) y) (λ y. inr (inr y)) x;
  begun_back = λ w x. ⊎_elim (λ y. inl (inl y)) (λ y. ⊎_elim (λ z. inl (inr z)) inr y) x;
}

-- a choice in front of what follows both
pub or_then : {A B : Type 0} (p q : Phrase A) (k : A → Phrase B) → Same (ph.◌>>=◌ (p or q) k) ((ph.◌>>=◌ p k) or (ph.◌>>=◌ q k))
or_then {A} {B} p q k = record { spelt = spelt; spelt_back = spelt_back; begun = begun; begun_back = begun_back }
  where
    S : B → List Sym → Type 0
    S b w = Cut (λ ts a. p.spells ts a ⊎ q.spells ts a) (λ a us. (k a).spells us b) w

    pick : (w : List Sym) (Q : A → List Sym → Type 0) (u v : List Sym) (a : A) → w ≡ u ++ v → p.spells u a ⊎ q.spells u a → Q a v → Cut p.spells Q w ⊎ Cut q.spells Q w
    pick w Q u v a e (inl x) f = inl (record { before = u; behind = v; value = a; is = e; spelt = x; follows = f })
    pick w Q u v a e (inr x) f = inr (record { before = u; behind = v; value = a; is = e; spelt = x; follows = f })

    spelt : (w : List Sym) (b : B) → S b w → Cut p.spells (λ a us. (k a).spells us b) w ⊎ Cut q.spells (λ a us. (k a).spells us b) w
    spelt w b c = pick w (λ a us. (k a).spells us b) c.before c.behind c.value c.is c.spelt c.follows

    spelt_back : (w : List Sym) (b : B) → Cut p.spells (λ a us. (k a).spells us b) w ⊎ Cut q.spells (λ a us. (k a).spells us b) w → S b w
    spelt_back w b (inl c) = record { before = c.before; behind = c.behind; value = c.value; is = c.is; spelt = inl c.spelt; follows = c.follows }
    spelt_back w b (inr c) = record { before = c.before; behind = c.behind; value = c.value; is = c.is; spelt = inr c.spelt; follows = c.follows }

    begun : (w : List Sym) → (p.front w ⊎ q.front w) ⊎ Cut (λ ts a. p.spells ts a ⊎ q.spells ts a) (λ a. (k a).front) w → (p.front w ⊎ Cut p.spells (λ a. (k a).front) w) ⊎ (q.front w ⊎ Cut q.spells (λ a. (k a).front) w)
    begun w (inl (inl x)) = inl (inl x)
    begun w (inl (inr x)) = inr (inl x)
    begun w (inr c) = ⊎_elim (λ x. inl (inr x)) (λ x. inr (inr x)) (pick w (λ a. (k a).front) c.before c.behind c.value c.is c.spelt c.follows)

    begun_back : (w : List Sym) → (p.front w ⊎ Cut p.spells (λ a. (k a).front) w) ⊎ (q.front w ⊎ Cut q.spells (λ a. (k a).front) w) → (p.front w ⊎ q.front w) ⊎ Cut (λ ts a. p.spells ts a ⊎ q.spells ts a) (λ a. (k a).front) w
    begun_back w (inl (inl x)) = inl (inl x)
    begun_back w (inl (inr c)) = inr (record { before = c.before; behind = c.behind; value = c.value; is = c.is; spelt = inl c.spelt; follows = c.follows })
    begun_back w (inr (inl x)) = inl (inr x)
    begun_back w (inr (inr c)) = inr (record { before = c.before; behind = c.behind; value = c.value; is = c.is; spelt = inr c.spelt; follows = c.follows })

-- what two choices begin with, taken in front
pub factor : {A B : Type 0} (p : Phrase A) (k l : A → Phrase B) → Same ((ph.◌>>=◌ p k) or (ph.◌>>=◌ p l)) (ph.◌>>=◌ p (λ a. k a or l a))
factor {A} {B} p k l = record { spelt = spelt; spelt_back = spelt_back; begun = begun; begun_back = begun_back }
  where
    pick : (w : List Sym) (P Q : A → List Sym → Type 0) (u v : List Sym) (a : A) → w ≡ u ++ v → p.spells u a → P a v ⊎ Q a v → Cut p.spells P w ⊎ Cut p.spells Q w
    pick w P Q u v a e x (inl f) = inl (record { before = u; behind = v; value = a; is = e; spelt = x; follows = f })
    pick w P Q u v a e x (inr f) = inr (record { before = u; behind = v; value = a; is = e; spelt = x; follows = f })

    spelt : (w : List Sym) (b : B) → Cut p.spells (λ a us. (k a).spells us b) w ⊎ Cut p.spells (λ a us. (l a).spells us b) w → Cut p.spells (λ a us. (k a).spells us b ⊎ (l a).spells us b) w
    spelt w b (inl c) = recut (λ w a x. x) (λ a us x. inl x) c
    spelt w b (inr c) = recut (λ w a x. x) (λ a us x. inr x) c

    spelt_back : (w : List Sym) (b : B) → Cut p.spells (λ a us. (k a).spells us b ⊎ (l a).spells us b) w → Cut p.spells (λ a us. (k a).spells us b) w ⊎ Cut p.spells (λ a us. (l a).spells us b) w
    spelt_back w b c = pick w (λ a us. (k a).spells us b) (λ a us. (l a).spells us b) c.before c.behind c.value c.is c.spelt c.follows

    begun : (w : List Sym) → (p.front w ⊎ Cut p.spells (λ a. (k a).front) w) ⊎ (p.front w ⊎ Cut p.spells (λ a. (l a).front) w) → p.front w ⊎ Cut p.spells (λ a us. (k a).front us ⊎ (l a).front us) w
    begun w (inl (inl x)) = inl x
    begun w (inl (inr c)) = inr (recut (λ w a x. x) (λ a us x. inl x) c)
    begun w (inr (inl x)) = inl x
    begun w (inr (inr c)) = inr (recut (λ w a x. x) (λ a us x. inr x) c)

    begun_back : (w : List Sym) → p.front w ⊎ Cut p.spells (λ a us. (k a).front us ⊎ (l a).front us) w → (p.front w ⊎ Cut p.spells (λ a. (k a).front) w) ⊎ (p.front w ⊎ Cut p.spells (λ a. (l a).front) w)
    begun_back w (inl x) = inl (inl x)
    begun_back w (inr c) = ⊎_elim (λ x. inl (inr x)) (λ x. inr (inr x)) (pick w (λ a. (k a).front) (λ a. (l a).front) c.before c.behind c.value c.is c.spelt c.follows)

-- three behind one another
pub regroup : {A B C : Type 0} (p : Phrase A) (k : A → Phrase B) (l : B → Phrase C) → Same (ph.◌>>=◌ (ph.◌>>=◌ p k) l) (ph.◌>>=◌ p (λ a. ph.◌>>=◌ (k a) l))
regroup {A} {B} {C} p k l = record { spelt = λ w c x. right w _ x; spelt_back = λ w c x. back w _ x; begun = begun; begun_back = begun_back }
  where
    Inner : B → List Sym → Type 0
    Inner b w = Cut p.spells (λ a us. (k a).spells us b) w

    right : (w : List Sym) (Q : B → List Sym → Type 0) → Cut (λ us b. Inner b us) Q w → Cut p.spells (λ a. Cut (k a).spells Q) w
    right w Q c =
        let d = c.spelt in
        record {
          before = d.before;
          behind = d.behind ++ c.behind;
          value = d.value;
          is = c.is ∙ (ap (λ x. x ++ c.behind) d.is ∙ append_assoc d.before d.behind c.behind);
          spelt = d.spelt;
          follows = record { before = d.behind; behind = c.behind; value = c.value; is = refl; spelt = d.follows; follows = c.follows };
        }

    back : (w : List Sym) (Q : B → List Sym → Type 0) → Cut p.spells (λ a. Cut (k a).spells Q) w → Cut (λ us b. Inner b us) Q w
    back w Q c =
        let d = c.follows in
        record {
          before = c.before ++ d.before;
          behind = d.behind;
          value = d.value;
          is = c.is ∙ (ap (λ x. c.before ++ x) d.is ∙ sym (append_assoc c.before d.before d.behind));
          spelt = record { before = c.before; behind = d.before; value = c.value; is = refl; spelt = c.spelt; follows = d.spelt };
          follows = d.follows;
        }

    begun : (w : List Sym) → (p.front w ⊎ Cut p.spells (λ a. (k a).front) w) ⊎ Cut (λ us b. Inner b us) (λ b. (l b).front) w → p.front w ⊎ Cut p.spells (λ a us. (k a).front us ⊎ Cut (k a).spells (λ b. (l b).front) us) w
    begun w (inl (inl x)) = inl x
    begun w (inl (inr c)) = inr (recut (λ w a x. x) (λ a us x. inl x) c)
    begun w (inr c) = inr (recut (λ w a x. x) (λ a us x. inr x) (right w (λ b. (l b).front) c))

    split : (w : List Sym) (u v : List Sym) (a : A) → w ≡ u ++ v → p.spells u a → (k a).front v ⊎ Cut (k a).spells (λ b. (l b).front) v → (p.front w ⊎ Cut p.spells (λ a. (k a).front) w) ⊎ Cut (λ us b. Inner b us) (λ b. (l b).front) w
    split w u v a e x (inl f) = inl (inr (record { before = u; behind = v; value = a; is = e; spelt = x; follows = f }))
    split w u v a e x (inr f) = inr (back w (λ b. (l b).front) (record { before = u; behind = v; value = a; is = e; spelt = x; follows = f }))

    begun_back : (w : List Sym) → p.front w ⊎ Cut p.spells (λ a us. (k a).front us ⊎ Cut (k a).spells (λ b. (l b).front) us) w → (p.front w ⊎ Cut p.spells (λ a. (k a).front) w) ⊎ Cut (λ us b. Inner b us) (λ b. (l b).front) w
    begun_back w (inl x) = inl (inl x)
    begun_back w (inr c) = split w c.before c.behind c.value c.is c.spelt c.follows

-- a value alone in front
pub give_then : {A B : Type 0} (a : A) (k : A → Phrase B) → (k a).front [] → Same (ph.◌>>=◌ (give a) k) (k a)
give_then {A} {B} a k z = record { spelt = λ w b c. drop_it w (λ x us. (k x).spells us b) c; spelt_back = λ w b x. put w (λ x us. (k x).spells us b) x; begun = begun; begun_back = λ w x. inr (put w (λ x. (k x).front) x) }
  where
    drop_it : (w : List Sym) (Q : A → List Sym → Type 0) → Cut (λ ts b. (ts ≡ []) × (b ≡ a)) Q w → Q a w
    drop_it w Q c =
        let e : w ≡ c.behind = c.is ∙ ap (λ x. x ++ c.behind) c.spelt.0 in
        subst (Q a) (sym e) (subst (λ x. Q x c.behind) c.spelt.1 c.follows)

    put : (w : List Sym) (Q : A → List Sym → Type 0) → Q a w → Cut (λ ts b. (ts ≡ []) × (b ≡ a)) Q w
    put w Q x = record { before = []; behind = w; value = a; is = refl; spelt = (refl, refl); follows = x }

    begun : (w : List Sym) → (w ≡ []) ⊎ Cut (λ ts b. (ts ≡ []) × (b ≡ a)) (λ x. (k x).front) w → (k a).front w
    begun w (inl e) = subst (k a).front (sym e) z
    begun w (inr c) = drop_it w (λ x. (k x).front) c

-- a value alone behind
pub then_give : {A : Type 0} (p : Phrase A) → ((w : List Sym) (a : A) → p.spells w a → p.front w) → Same (ph.◌>>=◌ p (λ a. give a)) p
then_give {A} p whole = record { spelt = spelt; spelt_back = spelt_back; begun = begun; begun_back = λ w x. inl x }
  where
    spelt : (w : List Sym) (a : A) → Cut p.spells (λ b us. (us ≡ []) × (a ≡ b)) w → p.spells w a
    spelt w a c =
        let e : w ≡ c.before = c.is ∙ (ap (λ x. c.before ++ x) c.follows.0 ∙ append-nil c.before) in
        subst (λ x. p.spells w x) (sym c.follows.1) (subst (λ x. p.spells x c.value) (sym e) c.spelt)

    spelt_back : (w : List Sym) (a : A) → p.spells w a → Cut p.spells (λ b us. (us ≡ []) × (a ≡ b)) w
    spelt_back w a x = record { before = w; behind = []; value = a; is = sym (append-nil w); spelt = x; follows = (refl, refl) }

    begun : (w : List Sym) → p.front w ⊎ Cut p.spells (λ b us. us ≡ []) w → p.front w
    begun w (inl x) = x
    begun w (inr c) =
        let e : w ≡ c.before = c.is ∙ (ap (λ x. c.before ++ x) c.follows ∙ append-nil c.before) in
        subst p.front (sym e) (whole c.before c.value c.spelt)

-- ---- one or the other, told by the next symbol

module _ {A : Type 0} (p q : Phrase A) (r t u : Reader A) (sp sq : List ℕ) (gp gq g : A → List ℕ) (nq : Bool)
    (ep : Exact p r sp gp true) (eq : Exact q t sq gq nq)
    (parted : apart sq sp ≡ true)
    (first_of_p : (s : Sym) (ts : List Sym) → is_in sp (code s.class) ≡ true → u (s ∷ ts) ≡ r (s ∷ ts))
    (first_of_q : (s : Sym) (ts : List Sym) → is_in sp (code s.class) ≡ false → u (s ∷ ts) ≡ t (s ∷ ts))
    (at_end : u [] ≡ t [])
    (goes_p : (a : A) → within (gp a) (g a) ≡ true) (goes_q : (a : A) → within (gq a) (g a) ≡ true)
    (goes_on : nq ≡ false → (a : A) → q.spells [] a → within sp (g a) ≡ true) where
  or_less : (ts : List Sym) → left (u ts) ≤ length ts
  or_less [] = omega (arith, ap left at_end, less eq [])
  or_less (s ∷ ts) = elim (bool_is (is_in sp (code s.class))) [
    | inl h ↦ omega (arith, ap left (first_of_p s ts h), less ep (s ∷ ts))
    | inr h ↦ omega (arith, ap left (first_of_q s ts h), less eq (s ∷ ts))
  ]

  or_got : (ts : List Sym) (a : A) (rest : List Sym) → u ts ≡ Got a rest → Ends ts rest (λ w. p.spells w a ⊎ q.spells w a)
  or_got [] a rest e = ends_as (λ w x. inr x) (eq.got [] a rest (sym at_end ∙ e))
  or_got (s ∷ ts) a rest e = elim (bool_is (is_in sp (code s.class))) [
    | inl h ↦ ends_as (λ w x. inl x) (ep.got (s ∷ ts) a rest (sym (first_of_p s ts h) ∙ e))
    | inr h ↦ ends_as (λ w x. inr x) (eq.got (s ∷ ts) a rest (sym (first_of_q s ts h) ∙ e))
  ]

  or_fails : (ts x : List Sym) → u ts ≡ Fails x → Ends ts x (λ w. p.front w ⊎ q.front w)
  or_fails [] x e = ends_as (λ w x. inr x) (eq.fails [] x (sym at_end ∙ e))
  or_fails (s ∷ ts) x e = elim (bool_is (is_in sp (code s.class))) [
    | inl h ↦ ends_as (λ w x. inl x) (ep.fails (s ∷ ts) x (sym (first_of_p s ts h) ∙ e))
    | inr h ↦ ends_as (λ w x. inr x) (eq.fails (s ∷ ts) x (sym (first_of_q s ts h) ∙ e))
  ]

  other : (s : Sym) (ts : List Sym) → q.front (s ∷ ts) → is_in sp (code s.class) ≡ false
  other s ts f = apart_no sq sp (code s.class) parted (eq.first s ts f)

  or_complete_p : (w : List Sym) (a : A) → p.spells w a → (rest : List Sym) → Stops (g a) rest → u (w ++ rest) ≡ Got a rest
  or_complete_p [] a h rest st = absurd (ep.fills refl a h)
  or_complete_p (s ∷ w) a h rest st = first_of_p s (w ++ rest) (ep.first s w (ep.whole (s ∷ w) a h)) ∙ ep.complete (s ∷ w) a h rest (stops_more (gp a) (g a) rest (goes_p a) st)

  or_complete_empty : (a : A) → q.spells [] a → (rest : List Sym) → Stops (g a) rest → nq ≡ false → u rest ≡ Got a rest
  or_complete_empty a h [] st e = at_end ∙ eq.complete [] a h [] tt
  or_complete_empty a h (s ∷ rest) st e = first_of_q s rest (within_no sp (g a) (code s.class) (goes_on e a h) st) ∙ eq.complete [] a h (s ∷ rest) (stops_more (gq a) (g a) (s ∷ rest) (goes_q a) st)

  or_complete_q : (w : List Sym) (a : A) → q.spells w a → (rest : List Sym) → Stops (g a) rest → u (w ++ rest) ≡ Got a rest
  or_complete_q [] a h rest st = ⊎_elim (λ e. absurd (eq.fills e a h)) (λ e. or_complete_empty a h rest st e) (bool_is nq)
  or_complete_q (s ∷ w) a h rest st = first_of_q s (w ++ rest) (other s w (eq.whole (s ∷ w) a h)) ∙ eq.complete (s ∷ w) a h rest (stops_more (gq a) (g a) rest (goes_q a) st)

  or_through_p : (f : List Sym) → p.front f → (rest : List Sym) → left (u (f ++ rest)) ≤ length rest
  or_through_p [] h rest = or_less rest
  or_through_p (s ∷ f) h rest = omega (arith, ap left (first_of_p s (f ++ rest) (ep.first s f h)), ep.through (s ∷ f) h rest)

  or_through_q : (f : List Sym) → q.front f → (rest : List Sym) → left (u (f ++ rest)) ≤ length rest
  or_through_q [] h rest = or_less rest
  or_through_q (s ∷ f) h rest = omega (arith, ap left (first_of_q s (f ++ rest) (other s f h)), eq.through (s ∷ f) h rest)

  pub or_exact : Exact (p or q) u (sp ++ sq) g nq
  or_exact = record {
    whole = λ w a h. ⊎_elim (λ x. inl (ep.whole w a x)) (λ x. inr (eq.whole w a x)) h;
    empty = inl ep.empty;
    first = λ s ts f. ⊎_elim (λ x. in_left sp sq (code s.class) (ep.first s ts x)) (λ x. in_right sp sq (code s.class) (eq.first s ts x)) f;
    fills = λ e a h. ⊎_elim (ep.fills refl a) (eq.fills e a) h;
    got = or_got;
    fails = or_fails;
    complete = λ w a h rest st. ⊎_elim (λ x. or_complete_p w a x rest st) (λ x. or_complete_q w a x rest st) h;
    through = λ f h rest. ⊎_elim (λ x. or_through_p f x rest) (λ x. or_through_q f x rest) h;
    closed = λ u v h. ⊎_elim (λ x. inl (ep.closed u v x)) (λ x. inr (eq.closed u v x)) h;
    clean = λ w h. ⊎_elim (ep.clean w) (eq.clean w) h;
  }

-- ---- a phrase that knows where it begins

module _ {A : Type 0} (k : Place → Phrase A) (r : Place → Reader A) (s : List ℕ) (g : A → List ℕ)
    (e : (at : Place) → Exact (k at) (r at) s g true) where
  placed_got : (at : Place) (w : List Sym) (a : A) (rest : List Sym) → at ≡ place_of (w ++ rest) → (k at).spells w a → (k (place_of w)).spells w a
  placed_got at [] a rest q h = absurd ((e at).fills refl a h)
  placed_got at (c ∷ w) a rest q h = subst (λ x. (k x).spells (c ∷ w) a) q h

  placed_fails : (at : Place) (w rest : List Sym) → at ≡ place_of (w ++ rest) → (k at).front w → (k (place_of w)).front w
  placed_fails at [] rest q h = (e (place_of [])).empty
  placed_fails at (c ∷ w) rest q h = subst (λ x. (k x).front (c ∷ w)) q h

  placed_complete : (w : List Sym) (a : A) → (k (place_of w)).spells w a → (rest : List Sym) → Stops (g a) rest → r (place_at (w ++ rest)) (w ++ rest) ≡ Got a rest
  placed_complete [] a h rest st = absurd ((e (place_of [])).fills refl a h)
  placed_complete (c ∷ w) a h rest st = (e c.at).complete (c ∷ w) a h rest st

  placed_through : (w : List Sym) → (k (place_of w)).front w → (rest : List Sym) → left (r (place_at (w ++ rest)) (w ++ rest)) ≤ length rest
  placed_through [] h rest = less (e (place_at rest)) rest
  placed_through (c ∷ w) h rest = (e c.at).through (c ∷ w) h rest

  same_place : (ts : List Sym) → place_at ts ≡ place_of ts
  same_place [] = refl
  same_place (c ∷ ts) = refl

  placed_closed : (u v : List Sym) → (k (place_of (u ++ v))).front (u ++ v) → (k (place_of u)).front u
  placed_closed [] v h = (e (place_of [])).empty
  placed_closed (c ∷ u) v h = (e c.at).closed (c ∷ u) v h

  pub placed_exact : Exact (placed k) (here >>= r) s g true
  placed_exact = record {
    whole = λ w a h. (e (place_of w)).whole w a h;
    empty = (e (place_of [])).empty;
    first = λ c ts f. (e c.at).first c ts f;
    fills = λ q a h. (e (place_of [])).fills q a h;
    got = λ ts a rest q. (let d = (e (place_at ts)).got ts a rest q in record { read = d.read; is = d.is; holds = placed_got (place_at ts) d.read a rest (same_place ts ∙ ap place_of d.is) d.holds });
    fails = λ ts x q. (let d = (e (place_at ts)).fails ts x q in record { read = d.read; is = d.is; holds = placed_fails (place_at ts) d.read x (same_place ts ∙ ap place_of d.is) d.holds });
    complete = placed_complete;
    through = placed_through;
    closed = placed_closed;
    clean = λ w h. (e (place_of w)).clean w h;
  }

-- nothing has nothing behind it
pub nothing_then : {A B : Type 0} (k : A → Phrase B) → Same (ph.◌>>=◌ nothing k) nothing
nothing_then {A} {B} k = record { spelt = λ w b c. c.spelt; spelt_back = λ w b x. absurd x; begun = begun; begun_back = λ w x. inl x }
  where
    begun : (w : List Sym) → (w ≡ []) ⊎ Cut (λ ts a. ⊥) (λ a. (k a).front) w → w ≡ []
    begun w (inl e) = e
    begun w (inr c) = absurd c.spelt

pub nothing_twice : {A : Type 0} → Same {A = A} (nothing or nothing) nothing
nothing_twice = record { spelt = λ w a x. ⊎_elim (λ y. y) (λ y. y) x; spelt_back = λ w a x. inl x; begun = λ w x. ⊎_elim (λ y. y) (λ y. y) x; begun_back = λ w x. inl x }

-- five choices in another order
pub arrange : {A : Type 0} (s c z a g : Phrase A) → Same (((s or c) or z) or (a or g)) (s or ((c or g) or (z or a)))
arrange s c z a g = record {
  spelt = λ w v x. to (s.spells w v) (c.spells w v) (z.spells w v) (a.spells w v) (g.spells w v) x;
  spelt_back = λ w v x. back (s.spells w v) (c.spells w v) (z.spells w v) (a.spells w v) (g.spells w v) x;
  begun = λ w x. to (s.front w) (c.front w) (z.front w) (a.front w) (g.front w) x;
  begun_back = λ w x. back (s.front w) (c.front w) (z.front w) (a.front w) (g.front w) x;
}
  where
    to : (S C Z A G : Type 0) → (((S ⊎ C) ⊎ Z) ⊎ (A ⊎ G)) → S ⊎ ((C ⊎ G) ⊎ (Z ⊎ A))
    to S C Z A G (inl (inl (inl x))) = inl x
    to S C Z A G (inl (inl (inr x))) = inr (inl (inl x))
    to S C Z A G (inl (inr x)) = inr (inr (inl x))
    to S C Z A G (inr (inl x)) = inr (inr (inr x))
    to S C Z A G (inr (inr x)) = inr (inl (inr x))

    back : (S C Z A G : Type 0) → S ⊎ ((C ⊎ G) ⊎ (Z ⊎ A)) → (((S ⊎ C) ⊎ Z) ⊎ (A ⊎ G))
    back S C Z A G (inl x) = inl (inl (inl x))
    back S C Z A G (inr (inl (inl x))) = inl (inl (inr x))
    back S C Z A G (inr (inl (inr x))) = inr (inr x)
    back S C Z A G (inr (inr (inl x))) = inl (inr x)
    back S C Z A G (inr (inr (inr x))) = inr (inl x)

-- what stands behind a phrase that knows where it begins
pub placed_then : {A B : Type 0} (k : Place → Phrase A) (l : A → Phrase B) → ((at : Place) (a : A) → (k at).spells [] a → ⊥) → Same (ph.◌>>=◌ (placed k) l) (placed (λ at. ph.◌>>=◌ (k at) l))
placed_then {A} {B} k l fills = record { spelt = λ w b c. to w (λ a us. (l a).spells us b) c; spelt_back = λ w b c. back w (λ a us. (l a).spells us b) c; begun = begun; begun_back = begun_back }
  where
    same_place : (w u v : List Sym) (a : A) (at : Place) → w ≡ u ++ v → (k at).spells u a → at ≡ place_of w ⊎ at ≡ place_of u → (place_of w ≡ place_of u)
    same_place w [] v a at e h q = absurd (fills at a h)
    same_place w (c ∷ u) v a at e h q = ap place_of e

    to : (w : List Sym) (Q : A → List Sym → Type 0) → Cut (λ us a. (k (place_of us)).spells us a) Q w → Cut (k (place_of w)).spells Q w
    to w Q c = record { before = c.before; behind = c.behind; value = c.value; is = c.is; spelt = subst (λ at. (k at).spells c.before c.value) (sym (same_place w c.before c.behind c.value (place_of c.before) c.is c.spelt (inr refl))) c.spelt; follows = c.follows }

    back : (w : List Sym) (Q : A → List Sym → Type 0) → Cut (k (place_of w)).spells Q w → Cut (λ us a. (k (place_of us)).spells us a) Q w
    back w Q c = record { before = c.before; behind = c.behind; value = c.value; is = c.is; spelt = subst (λ at. (k at).spells c.before c.value) (same_place w c.before c.behind c.value (place_of w) c.is c.spelt (inl refl)) c.spelt; follows = c.follows }

    begun : (w : List Sym) → (k (place_of w)).front w ⊎ Cut (λ us a. (k (place_of us)).spells us a) (λ a. (l a).front) w → (k (place_of w)).front w ⊎ Cut (k (place_of w)).spells (λ a. (l a).front) w
    begun w (inl x) = inl x
    begun w (inr c) = inr (to w (λ a. (l a).front) c)

    begun_back : (w : List Sym) → (k (place_of w)).front w ⊎ Cut (k (place_of w)).spells (λ a. (l a).front) w → (k (place_of w)).front w ⊎ Cut (λ us a. (k (place_of us)).spells us a) (λ a. (l a).front) w
    begun_back w (inl x) = inl x
    begun_back w (inr c) = inr (back w (λ a. (l a).front) c)

-- three choices in another order
pub turn_round : {A : Type 0} (a b c : Phrase A) → Same (a or (b or c)) (b or (c or a))
turn_round a b c = same_trans (or_swap a (b or c)) (or_group b c a)
