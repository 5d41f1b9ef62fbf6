-- A pass's claims, and what it may add.
use Rattle.std.proofs.Common.{◌≡◌, ◌≢◌, ◌⊎◌, ℕ, zero, suc, ◌+◌, ◌-◌, ◌<◌, ◌≤◌, List, [], ◌∷◌, ◌++◌, length, cond, eqb, ne_eqb, refl, sym, ap, ◌∙◌, subst, arith, inl, inr, ⊎_elim, length-append, slice_get, Option, Some, None, true}
use base.Stored.{Gv}
use Rattle.atomic_table.specs.Seated.{TableId}
use Rattle.task_gate.specs.History.{items_of, Adds}
use Rattle.task_gate.specs.Rule.{all_parts, maker, fresh_pass, one_less}
use Rattle.task_gate.specs.Passes.{number_of, left_of, IsNew, gate_of, pass_view, view_or}
use Rattle.task_gate.specs.declared.views.View.{View}
use Rattle.task_gate.specs.declared.views.Stage.TheVariants.{Outside}
use Rattle.task_gate.specs.declared.passes.Pass.{Pass}
use Rattle.task_gate.proofs.Lists.{starts_same}

abbrev some_or : Pass → Option Pass → Pass
some_or x (Some p) = p
some_or x None = x

abbrev pub rest_of : (cs : List (ℕ × List (ℕ × Gv))) → List (ℕ × List (ℕ × Gv))
rest_of [] = []
rest_of (c ∷ cs) = cs

pub parted : (cs : List (ℕ × List (ℕ × Gv))) → 0 < length cs → cs ≡ (number_of cs, left_of cs) ∷ rest_of cs
parted [] lt = absurd (omega arith)
parted (c ∷ cs) lt = refl

pub items_else : (h : List (ℕ × Gv)) (n m : ℕ) (x : Gv) → m ≢ n → items_of m (h ++ (n, x) ∷ []) ≡ items_of m h
items_else [] n m x ne = ap (λ b. cond b (x ∷ []) []) (ne_eqb n m (λ e. ne (sym e)))
items_else (y ∷ h) n m x ne = ap (λ l. cond (eqb y.0 m) (y.1 ∷ l) l) (items_else h n m x ne)

abbrev pub AtMostOne : List (ℕ × Gv) → List (ℕ × Gv) → ℕ → Type 0
AtMostOne h h' n = (h' ≡ h) ⊎ ((x : Gv) × (h' ≡ h ++ (n, x) ∷ []))

pub adds : (h h' : List (ℕ × Gv)) (n a b : ℕ) → AtMostOne h h' n → a ≡ length h' → b ≡ length h → (b ≤ a) × Adds h h' n (a - b)
adds h h' n a b (inl e) la lb = let s : length h' ≡ length h = ap length e in (omega arith, ((subst (λ l. (more : List (ℕ × Gv)) × (l ≡ h ++ more)) (sym e) (starts_same h)), omega arith, λ m ne. ap (items_of m) e))
adds h h' n a b (inr (x, e)) la lb = let s : length h' ≡ length (h ++ (n, x) ∷ []) = ap length e in let t : length (h ++ (n, x) ∷ []) ≡ length h + 1 = length-append h ((n, x) ∷ []) in (omega arith, (((n, x) ∷ [], e), omega arith, λ m ne. ap (items_of m) e ∙ items_else h n m x ne))

pub get_end : (xs : List Pass) (x p : Pass) (k : ℕ) → slice_get (xs ++ x ∷ []) k ≡ Some p → (slice_get xs k ≡ Some p) ⊎ ((k ≡ length xs) × (x ≡ p))
get_end [] x p zero e = inr (refl, ap (some_or x) e)
get_end [] x p (suc k) e = absurd (cc)
get_end (y ∷ xs) x p zero e = inl e
get_end (y ∷ xs) x p (suc k) e = ⊎_elim (λ (h : slice_get xs k ≡ Some p). inl h) (λ (h : (k ≡ length xs) × (x ≡ p)). inr (ap suc h.0, h.1)) (get_end xs x p k e)

pub maker_next : (b : Gv) (n : ℕ) → one_less (maker b n) ≡ maker b (n + 1)
maker_next b n = let e : (all_parts - n) - 1 ≡ all_parts - (n + 1) = omega arith in ap (λ (k : ℕ). record { base = b; parts = k; makes = true; next = n + 1; claims = []; stage = Outside }) e

pub new_pass : (z : TableId) (b : Gv) (k : ℕ) (p : Pass) → gate_of p ≡ z → p.badge.views ≡ fresh_pass b k ∷ [] → IsNew z b k p
new_pass z b k p gate views =
    let v : pass_view p ≡ fresh_pass b k = ap view_or views in
    (gate, ap (λ w. w.base) v, (views ∙ ap (λ w. w ∷ []) (sym v), (ap (λ w. w.makes) v, omega (arith, ap (λ w. w.parts) v), omega (arith, ap (λ (w : View). length w.claims) v)), ap (λ w. w.stage) v), ap (λ w. w.claims) v)
