-- Whose items histories have, which claims they keep, and passes taken from the last.
use Rattle.std.proofs.Common.{◌≡◌, ℕ, zero, suc, List, [], ◌∷◌, ◌++◌, length, cond, eqb, eq-eqb, refl, ap, ◌∙◌, subst, Bool, true, false, slice_get, Some}
use base.Stored.{Gv}
use Rattle.task_gate.specs.History.{items_of, StartsWith, KeepsAll}
use Rattle.task_gate.specs.Laws.{HistoryLaws, ClaimLaws, PassLaws}
use Rattle.task_gate.specs.Passes.{leaving_with, number_of}
use Rattle.task_gate.proofs.Claims.{items_else}
use Rattle.task_gate.proofs.Lists.{starts_more, starts_same, keeps_both}

items_both : (n : ℕ) (front back : List (ℕ × Gv)) → items_of n (front ++ back) ≡ items_of n front ++ items_of n back
items_both n [] back = refl
items_both n (x ∷ front) back = ap (λ l. cond (eqb x.0 n) (x.1 ∷ l) l) (items_both n front back) ∙ under (eqb x.0 n)
  where
    under : (b : Bool) → cond b (x.1 ∷ (items_of n front ++ items_of n back)) (items_of n front ++ items_of n back) ≡ cond b (x.1 ∷ items_of n front) (items_of n front) ++ items_of n back
    under true = refl
    under false = refl

items_head : (n : ℕ) (x : Gv) (back : List (ℕ × Gv)) → items_of n ((n, x) ∷ back) ≡ x ∷ items_of n back
items_head n x back = ap (λ b. cond b (x ∷ items_of n back) (items_of n back)) (eq-eqb n n refl)

items_at : (n : ℕ) (x : Gv) (front back : List (ℕ × Gv)) → items_of n (front ++ (n, x) ∷ back) ≡ items_of n front ++ x ∷ items_of n back
items_at n x front back = items_both n front ((n, x) ∷ back) ∙ ap (λ l. items_of n front ++ l) (items_head n x back)

items_front : (n : ℕ) (seen log : List (ℕ × Gv)) → StartsWith log seen → (more : List Gv) × (items_of n log ≡ items_of n seen ++ more)
items_front n seen log s = (items_of n s.0, ap (items_of n) s.1 ∙ items_both n seen s.0)

pub histories : HistoryLaws
histories = record {
  same = starts_same;
  front = λ h more. (more, refl);
  composed = λ seen log later a b. starts_more seen log later a b;
  items_both = items_both;
  items_own = λ n x h. items_at n x h [];
  items_other = λ n m x h apart. items_else h n m x apart;
  items_at = items_at;
  items_front = items_front;
}

keeps_parts : (log : List (ℕ × Gv)) (cs ds : List (ℕ × List (ℕ × Gv))) → KeepsAll log (cs ++ ds) → KeepsAll log cs × KeepsAll log ds
keeps_parts log [] ds k = (tt, k)
keeps_parts log (c ∷ cs) ds k = let r = keeps_parts log cs ds k.1 in ((k.0, r.0), r.1)

pub claims : ClaimLaws
claims = record {
  both = keeps_both;
  parts = keeps_parts;
  only = λ log cs n seen e k. (subst (KeepsAll log) e k).0;
  longer = λ log later c k s e. (starts_more c.1 log later k.0 s, e ∙ k.1);
  leaves = λ h seen cs n e. ap (leaving_with h) e;
}

get_front : {A : Type 0} (xs ys : List A) (k : ℕ) (x : A) → slice_get xs k ≡ Some x → slice_get (xs ++ ys) k ≡ Some x
get_front [] ys k x e = absurd (cc)
get_front (y ∷ xs) ys zero x e = e
get_front (y ∷ xs) ys (suc k) x e = get_front xs ys k x e

get_last : {A : Type 0} (xs : List A) (x : A) → slice_get (xs ++ x ∷ []) (length xs) ≡ Some x
get_last [] x = refl
get_last (y ∷ xs) x = get_last xs x

pub passes : PassLaws
passes = record {
  last = λ z b ps p all. ((λ k q there. all k q (get_front ps (p ∷ []) k q there)), all (length ps) p (get_last ps p));
  at = λ z b n p new. (new.0, new.2, ap number_of new.3);
}
