-- Two lists that are related place by place.
use Rattle.std.specs.Prelude.{◌≡◌, ℕ, List, length, slice_get, Some}

-- a relation holds of the items of two lists of one length, place by place
pub record Each {A : Type 0} {B : Type 0} (R : A → B → Type 0) (xs : List A) (ys : List B) : Type 0 where
  pub same : length xs ≡ length ys
  pub at : (i : ℕ) (x : A) (y : B) → slice_get xs i ≡ Some x → slice_get ys i ≡ Some y → R x y
