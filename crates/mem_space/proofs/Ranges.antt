-- The range that a word names, by the object that it points into.
use Rattle.std.proofs.Common.{◌≡◌, ℕ, ◌+◌, ◌<◌, ◌≤◌, nat_le, true, false, if◌then◌else◌, length, Some, None, ap, ◌∙◌, arith}
use Rattle.std.proofs.lemmas.Bool.Decides.{nat_tests}
use Rattle.mpc_values.specs.declared.values.Word.TheVariants.{Ptr}
use Rattle.mpc_values.specs.declared.values.Obj.{Obj}
use Rattle.mpc_values.specs.declared.owners.Owner.{Owner}
use Rattle.mpc_values.specs.declared.faults.Fault.TheVariants.{Bounds, Dangling, PendingTouch}
use Rattle.memory_model.specs.Memory.{Memory, Object, object_of}
use Rattle.memory_model.specs.Marks.{Places, is_some_place}
use Rattle.memory_model.specs.Ranges.{Within, NoRange, range_in, range_of}

pub le_true : (a b : ℕ) → a ≤ b → nat_le a b ≡ true
le_true a b h = grind (arith, nat_tests)

pub le_false : (a b : ℕ) → b < a → nat_le a b ≡ false
le_false a b h = grind (arith, nat_tests)

module _ (owner_of : Obj → Owner) (barred : Places) (m : Memory) (obj : Obj) (at count : ℕ) where
  pub dangling : object_of m (owner_of obj) obj ≡ None → range_of owner_of barred m (Ptr obj at) count ≡ NoRange Dangling
  dangling none = ap (range_in barred (owner_of obj) obj at count) none

  -- the range in an object that lives, by its tests
  module _ (object : Object) (lives : object_of m (owner_of obj) obj ≡ Some object) where
    pub outside : length object.words < at + count → range_of owner_of barred m (Ptr obj at) count ≡ NoRange Bounds
    outside h =
        ap (range_in barred (owner_of obj) obj at count) lives
        ∙ ap (λ b. if b then (if is_some_place barred (owner_of obj) obj at count then NoRange PendingTouch else Within (owner_of obj) obj at object) else NoRange Bounds) (le_false (at + count) (length object.words) h)

    inside : at + count ≤ length object.words → range_of owner_of barred m (Ptr obj at) count ≡ (if is_some_place barred (owner_of obj) obj at count then NoRange PendingTouch else Within (owner_of obj) obj at object)
    inside h =
        ap (range_in barred (owner_of obj) obj at count) lives
        ∙ ap (λ b. if b then (if is_some_place barred (owner_of obj) obj at count then NoRange PendingTouch else Within (owner_of obj) obj at object) else NoRange Bounds) (le_true (at + count) (length object.words) h)

    pub touched : at + count ≤ length object.words → is_some_place barred (owner_of obj) obj at count ≡ true → range_of owner_of barred m (Ptr obj at) count ≡ NoRange PendingTouch
    touched h is = inside h ∙ ap (λ b. if b then NoRange PendingTouch else Within (owner_of obj) obj at object) is

    pub within : at + count ≤ length object.words → is_some_place barred (owner_of obj) obj at count ≡ false → range_of owner_of barred m (Ptr obj at) count ≡ Within (owner_of obj) obj at object
    within h is = inside h ∙ ap (λ b. if b then NoRange PendingTouch else Within (owner_of obj) obj at object) is
