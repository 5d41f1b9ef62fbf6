-- Memories as finite maps: what is read after a change, and that memories that read alike are equal.
use Rattle.std.proofs.Common.{◌≡◌, ℕ, not, Bool, true, false, cond, List, Option, Some, None, refl, sym, ap, ◌∙◌}
use Rattle.std.specs.Ordering.{eq_by_cmp, is_eq}
use Rattle.std.specs.declared.cmp.Ordering.{Ordering}
use Rattle.std.specs.declared.cmp.Ordering.TheVariants.{Less, Equal, Greater}
use Rattle.std.specs.Cmp.{eq_by_cmp_equiv}
use Rattle.std.proofs.lemmas.Cmp.{nat_list_cmp_total}
use Rattle.std.specs.FinMap.{slice_cmp-IsAntisymmetric, nat_cmp-IsAntisymmetric}
use Rattle.std.specs.FinMap.Entries.{find, find-put, find-where_key, is_sorted-put, is_sorted-where_key, same_entries}
use Rattle.mpc_values.specs.declared.values.Obj.{Obj}
use Rattle.mpc_values.specs.declared.owners.Owner.{Owner}
use Rattle.memory_model.specs.Memory.{Memory, Object, IsOrdered, key_cmp, key_of, object_of, with_object, without, is_same_object}

is_eq_Equal : (r : Ordering) → is_eq r ≡ true → r ≡ Equal
is_eq_Equal Less h = cc
is_eq_Equal Equal h = refl
is_eq_Equal Greater h = cc

-- keys that are compared alike are one key
pub same_key : (a b : List ℕ) → eq_by_cmp key_cmp a b ≡ true → a ≡ b
same_key a b h = slice_cmp-IsAntisymmetric nat_cmp-IsAntisymmetric a b (is_eq_Equal (key_cmp a b) h)

pub alike : (k : List ℕ) → eq_by_cmp key_cmp k k ≡ true
alike k = (eq_by_cmp_equiv nat_list_cmp_total).refl k

pub false_of : (b : Bool) → (b ≡ true → ⊥) → b ≡ false
false_of true never = absurd (never refl)
false_of false never = refl

pub read_with : (m : Memory) (owner other : Owner) (obj another : Obj) (object : Object) → object_of (with_object m owner obj object) other another ≡ cond (is_same_object other another owner obj) (Some object) (object_of m other another)
read_with m owner other obj another object = find-put key_cmp nat_list_cmp_total (key_of other another) (key_of owner obj) object m

pub read_with_same : (m : Memory) (owner : Owner) (obj : Obj) (object : Object) → object_of (with_object m owner obj object) owner obj ≡ Some object
read_with_same m owner obj object =
    read_with m owner owner obj obj object ∙ ap (λ b. cond b (Some object) (object_of m owner obj)) (alike (key_of owner obj))

pub read_with_other : (m : Memory) (owner other : Owner) (obj another : Obj) (object : Object) → (key_of other another ≡ key_of owner obj → ⊥) → object_of (with_object m owner obj object) other another ≡ object_of m other another
read_with_other m owner other obj another object different =
    read_with m owner other obj another object
    ∙ ap (λ b. cond b (Some object) (object_of m other another)) (false_of (is_same_object other another owner obj) (λ h. different (same_key (key_of other another) (key_of owner obj) h)))

pub read_without : (m : Memory) (owner other : Owner) (obj another : Obj) → object_of (without m owner obj) other another ≡ cond (not (is_same_object owner obj other another)) (object_of m other another) None
read_without m owner other obj another =
    find-where_key key_cmp (λ key. not (eq_by_cmp key_cmp (key_of owner obj) key)) (key_of other another)
    (λ key same. sym (ap (λ k. not (eq_by_cmp key_cmp (key_of owner obj) k)) (slice_cmp-IsAntisymmetric nat_cmp-IsAntisymmetric (key_of other another) key same))) m

pub read_without_same : (m : Memory) (owner : Owner) (obj : Obj) → object_of (without m owner obj) owner obj ≡ None
read_without_same m owner obj =
    read_without m owner owner obj obj ∙ ap (λ b. cond (not b) (object_of m owner obj) None) (alike (key_of owner obj))

pub read_without_other : (m : Memory) (owner other : Owner) (obj another : Obj) → (key_of other another ≡ key_of owner obj → ⊥) → object_of (without m owner obj) other another ≡ object_of m other another
read_without_other m owner other obj another different =
    read_without m owner other obj another
    ∙ ap (λ b. cond (not b) (object_of m other another) None) (false_of (is_same_object owner obj other another) (λ h. different (sym (same_key (key_of owner obj) (key_of other another) h))))

-- what does not live does not live after another object has ended
pub none_without : (m : Memory) (owner other : Owner) (obj another : Obj) → object_of m other another ≡ None → object_of (without m owner obj) other another ≡ None
none_without m owner other obj another none =
    read_without m owner other obj another ∙ ap (λ o. cond (not (is_same_object owner obj other another)) o None) none ∙ both (not (is_same_object owner obj other another))
  where
    both : (b : Bool) → ◌≡◌ {A = Option Object} (cond b None None) None
    both true = refl
    both false = refl

pub ordered_with : (m : Memory) (owner : Owner) (obj : Obj) (object : Object) → IsOrdered m → IsOrdered (with_object m owner obj object)
ordered_with m owner obj object h = is_sorted-put key_cmp nat_list_cmp_total (key_of owner obj) object m h

pub ordered_without : (m : Memory) (owner : Owner) (obj : Obj) → IsOrdered m → IsOrdered (without m owner obj)
ordered_without m owner obj h = is_sorted-where_key key_cmp (λ key. not (eq_by_cmp key_cmp (key_of owner obj) key)) m h

pub same_memory : (m n : Memory) → IsOrdered m → IsOrdered n → ((key : List ℕ) → find key_cmp key m ≡ find key_cmp key n) → m ≡ n
same_memory m n g h alike = same_entries key_cmp nat_list_cmp_total (slice_cmp-IsAntisymmetric nat_cmp-IsAntisymmetric) m n g h alike
