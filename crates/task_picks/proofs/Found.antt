-- Finding, counting and choosing among numbers that pass a test.
use Rattle.std.proofs.Common.{◌≡◌, ◌<◌, ◌≤◌, ◌+◌, ◌-◌, ℕ, zero, suc, not, ◌&&◌, Bool, true, false, List, [], ◌∷◌, ◌++◌, if◌then◌else◌, filter, find, slice_get, Option, Some, None, refl, sym, ap, ◌∙◌, arith}
use Rattle.std.specs.List.{range_with_len}
use Rattle.std.specs.Option.{is_some}
use Rattle.run_model.specs.Setup.{setup_of}
use Rattle.run_model.specs.Choice.{can_go}
use Rattle.node_core.specs.Held.{Held, world_in}
use Rattle.task_picks.specs.Picked.{goes}

-- the numbers from one on, up to another, begin with it
pub range_step : (a b : ℕ) → a < b → range_with_len a (b - a) ≡ a ∷ range_with_len (a + 1) (b - (a + 1))
range_step a b less = ap (range_with_len a) (let e : b - a ≡ suc (b - (a + 1)) = omega (arith, less) in e)

pub range_none : (a b : ℕ) → b ≤ a → range_with_len a (b - a) ≡ []
range_none a b most = ap (range_with_len a) (let e : b - a ≡ 0 = omega (arith, most) in e)

module _ (p : ℕ → Bool) (a b : ℕ) (less : a < b) where
  pub find_here : p a ≡ true → find p (range_with_len a (b - a)) ≡ Some a
  find_here holds = ap (find p) (range_step a b less) ∙ ap (λ t. if t then Some a else find p (range_with_len (a + 1) (b - (a + 1)))) holds

  pub find_later : p a ≡ false → find p (range_with_len a (b - a)) ≡ find p (range_with_len (a + 1) (b - (a + 1)))
  find_later fails = ap (find p) (range_step a b less) ∙ ap (λ t. if t then Some a else find p (range_with_len (a + 1) (b - (a + 1)))) fails

  pub filter_here : p a ≡ true → filter p (range_with_len a (b - a)) ≡ a ∷ filter p (range_with_len (a + 1) (b - (a + 1)))
  filter_here holds = ap (filter p) (range_step a b less)
      ∙ ap (λ t. if t then a ∷ filter p (range_with_len (a + 1) (b - (a + 1))) else filter p (range_with_len (a + 1) (b - (a + 1)))) holds

  pub filter_later : p a ≡ false → filter p (range_with_len a (b - a)) ≡ filter p (range_with_len (a + 1) (b - (a + 1)))
  filter_later fails = ap (filter p) (range_step a b less)
      ∙ ap (λ t. if t then a ∷ filter p (range_with_len (a + 1) (b - (a + 1))) else filter p (range_with_len (a + 1) (b - (a + 1)))) fails

-- what is found in two lists, one after the other
abbrev pub or_else : Option ℕ → Option ℕ → Option ℕ
or_else None other = other
or_else (Some x) other = Some x

found_after : (p : ℕ → Bool) (x : ℕ) (xs ys : List ℕ) (b : Bool) → p x ≡ b → find p (xs ++ ys) ≡ or_else (find p xs) (find p ys)
    → find p (x ∷ (xs ++ ys)) ≡ or_else (find p (x ∷ xs)) (find p ys)
found_after p x xs ys true holds rest =
    ap (λ t. if t then Some x else find p (xs ++ ys)) holds ∙ ap (λ t. or_else (if t then Some x else find p xs) (find p ys)) (sym holds)
found_after p x xs ys false fails rest =
    ap (λ t. if t then Some x else find p (xs ++ ys)) fails ∙ rest ∙ ap (λ t. or_else (if t then Some x else find p xs) (find p ys)) (sym fails)

pub find_append : (p : ℕ → Bool) (xs ys : List ℕ) → find p (xs ++ ys) ≡ or_else (find p xs) (find p ys)
find_append p [] ys = refl
find_append p (x ∷ xs) ys = found_after p x xs ys (p x) refl (find_append p xs ys)

-- whether a task of a node can go that was not stopped
pub goes_is : (held : Held) (task : ℕ) (b : Bool) → held.stop ≡ None → b ≡ (not (is_some held.stop) && can_go (setup_of held.setup) (world_in held) task) → goes held task ≡ b
goes_is held task b none is = sym (is ∙ ap (λ o. not (is_some o) && goes held task) none)

-- a later place of a list is one of its rest
pub get_later : (x : ℕ) (xs : List ℕ) (n : ℕ) → 0 < n → slice_get (x ∷ xs) n ≡ slice_get xs (n - 1)
get_later x xs zero some = absurd (omega (arith, some))
get_later x xs (suc n) some = ap (slice_get xs) (let e : n ≡ suc n - 1 = omega arith in e)
