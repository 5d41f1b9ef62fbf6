-- Totals over the views, and items by number.
use Rattle.std.proofs.Common.{◌≡◌, ◌≢◌, ◌⊎◌, ℕ, zero, suc, ◌+◌, ◌≤◌, List, [], ◌∷◌, ◌++◌, length, set, refl, sym, ap, ◌∙◌, subst, inl, inr, ⊎_elim, arith, append_assoc, append-nil}
use mathlib.Core.Option.{some, some-injective, some-ne-none}
use lib.ListN.{get_elem?}
use base.Stored.{Gv}
use Rattle.atomic_table.proofs.Lists.{at_set}
use Rattle.task_gate.specs.History.{items_of, StartsWith, KeepsAll}
use Rattle.task_gate.specs.Rule.{total, Owned, NotAmong}
use Rattle.task_gate.specs.declared.views.View.{View}

pub total_set : (f : View → ℕ) (views : List View) (i : ℕ) (v w : View) → get_elem? views i ≡ some v → total f (set views i w) + f v ≡ total f views + f w
total_set f [] i v w at = absurd (some-ne-none v (sym at))
total_set f (x ∷ xs) zero v w at = let e : f x ≡ f v = ap f (some-injective x v at) in omega arith
total_set f (x ∷ xs) (suc i) v w at = omega (arith, total_set f xs i v w at)

pub total_snoc : (f : View → ℕ) (views : List View) (w : View) → total f (views ++ w ∷ []) ≡ total f views + f w
total_snoc f [] w = omega arith
total_snoc f (x ∷ xs) w = omega (arith, total_snoc f xs w)

pub total_le : (f g : View → ℕ) (views : List View) → ((j : ℕ) (v : View) → get_elem? views j ≡ some v → f v ≤ g v) → total f views ≤ total g views
total_le f g [] each = omega arith
total_le f g (x ∷ xs) each = omega (arith, each 0 x refl, total_le f g xs (λ j v e. each (suc j) v e))

pub length_set : (views : List View) (i : ℕ) (w : View) → length (set views i w) ≡ length views
length_set [] i w = refl
length_set (x ∷ xs) zero w = refl
length_set (x ∷ xs) (suc i) w = ap suc (length_set xs i w)

pub at_below : (views : List View) (i : ℕ) (v : View) → get_elem? views i ≡ some v → suc i ≤ length views
at_below [] i v e = absurd (some-ne-none v (sym e))
at_below (x ∷ xs) zero v e = omega arith
at_below (x ∷ xs) (suc i) v e = omega (arith, at_below xs i v e)

pub at_end : (views : List View) (a b : View) (j : ℕ) → get_elem? (views ++ a ∷ []) j ≡ some b → (get_elem? views j ≡ some b) ⊎ ((j ≡ length views) × (a ≡ b))
at_end [] a b zero e = inr (refl, some-injective a b e)
at_end [] a b (suc j) e = absurd (some-ne-none b (sym e))
at_end (x ∷ xs) a b zero e = inl e
at_end (x ∷ xs) a b (suc j) e = ⊎_elim (λ (h : get_elem? xs j ≡ some b). inl h) (λ (h : (j ≡ length xs) × (a ≡ b)). inr (ap suc h.0, h.1)) (at_end xs a b j e)

-- a fact of every seat, after one view has changed
pub each_set : (K : ℕ → View → Type 0) (views : List View) (i : ℕ) (w : View) → ((j : ℕ) (u : View) → j ≢ i → get_elem? views j ≡ some u → K j u) → K i w → (j : ℕ) (u : View) → get_elem? (set views i w) j ≡ some u → K j u
each_set K views i w others mine j u e =
    ⊎_elim
    (λ (x : (j ≡ i) × (w ≡ u)). subst (λ (y : ℕ × View). K y.0 y.1) (λ k. (sym x.0 k, x.1 k)) mine)
    (λ (x : (j ≢ i) × (get_elem? views j ≡ some u)). others j u x.0 x.1)
    (at_set views i j w u e)

pub starts_more : (h log log' : List (ℕ × Gv)) → StartsWith log h → StartsWith log' log → StartsWith log' h
starts_more h log log' a b = (a.0 ++ b.0, b.1 ∙ (ap (λ l. l ++ b.0) a.1 ∙ append_assoc h a.0 b.0))

pub starts_same : (h : List (ℕ × Gv)) → StartsWith h h
starts_same h = ([], sym (append-nil h))

-- claims on numbers whose items are the same in the longer history
pub keeps_more : (log log' : List (ℕ × Gv)) → StartsWith log' log → (cs : List (ℕ × List (ℕ × Gv))) (n : ℕ) → ((m : ℕ) → m ≢ n → items_of m log' ≡ items_of m log) → NotAmong n cs → KeepsAll log cs → KeepsAll log' cs
keeps_more log log' more [] n same apart k = tt
keeps_more log log' more (c ∷ cs) n same apart k = ((starts_more c.1 log log' k.0.0 more, same c.0 apart.0 ∙ k.0.1), keeps_more log log' more cs n same apart.1 k.1)

pub not_owned : (owner : ℕ → ℕ) (j n : ℕ) (cs : List (ℕ × List (ℕ × Gv))) → owner n ≢ j → Owned owner j cs → NotAmong n cs
not_owned owner j n [] ne o = tt
not_owned owner j n (c ∷ cs) ne o = ((λ (e : c.0 ≡ n). ne (ap owner (sym e) ∙ o.0)), not_owned owner j n cs ne o.1)

pub owned_as : (owner owner' : ℕ → ℕ) (j j' : ℕ) (cs : List (ℕ × List (ℕ × Gv))) → ((n : ℕ) → owner n ≡ j → owner' n ≡ j') → Owned owner j cs → Owned owner' j' cs
owned_as owner owner' j j' [] f o = tt
owned_as owner owner' j j' (c ∷ cs) f o = (f c.0 o.0, owned_as owner owner' j j' cs f o.1)

pub owned_both : (owner : ℕ → ℕ) (j : ℕ) (cs ds : List (ℕ × List (ℕ × Gv))) → Owned owner j cs → Owned owner j ds → Owned owner j (cs ++ ds)
owned_both owner j [] ds o p = p
owned_both owner j (c ∷ cs) ds o p = (o.0, owned_both owner j cs ds o.1 p)

pub apart_both : (n : ℕ) (cs ds : List (ℕ × List (ℕ × Gv))) → NotAmong n cs → NotAmong n ds → NotAmong n (cs ++ ds)
apart_both n [] ds o p = p
apart_both n (c ∷ cs) ds o p = (o.0, apart_both n cs ds o.1 p)

pub keeps_both : (log : List (ℕ × Gv)) (cs ds : List (ℕ × List (ℕ × Gv))) → KeepsAll log cs → KeepsAll log ds → KeepsAll log (cs ++ ds)
keeps_both log [] ds o p = p
keeps_both log (c ∷ cs) ds o p = (o.0, keeps_both log cs ds o.1 p)
