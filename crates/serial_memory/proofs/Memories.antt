-- Laws of the map of live objects.
use Rattle.std.proofs.Common.{◌≡◌, ℕ, Bool, true, false, cond, List, Option, Some, None, refl, sym, ap, ◌∙◌}
use Rattle.std.specs.Ordering.{nat_cmp, eq_by_cmp, is_eq}
use Rattle.std.specs.declared.cmp.Ordering.{Ordering}
use Rattle.std.specs.declared.cmp.Ordering.TheVariants.{Less, Equal, Greater}
use Rattle.std.specs.Cmp.Lexicographic.{slice_cmp}
use Rattle.std.specs.Cmp.{eq_by_cmp_equiv}
use Rattle.std.proofs.lemmas.Cmp.{nat_list_cmp_total}
use Rattle.std.specs.FinMap as map
use Rattle.serial_memory.specs.Memory.{Memory, Object}

is_eq_Equal : (r : Ordering) → is_eq r ≡ true → r ≡ Equal
is_eq_Equal Less h = cc
is_eq_Equal Equal h = refl
is_eq_Equal Greater h = cc

-- keys that are compared alike are one key
pub same_key : (a b : List ℕ) → eq_by_cmp (slice_cmp nat_cmp) a b ≡ true → a ≡ b
same_key a b h = map.slice_cmp-IsAntisymmetric map.nat_cmp-IsAntisymmetric a b (is_eq_Equal (slice_cmp nat_cmp a b) h)

pub alike : (k : List ℕ) → eq_by_cmp (slice_cmp nat_cmp) k k ≡ true
alike k = (eq_by_cmp_equiv nat_list_cmp_total).refl k

pub false_of : (b : Bool) → (b ≡ true → ⊥) → b ≡ false
false_of true never = absurd (never refl)
false_of false never = refl

pub get-insert_same : (m : Memory) (k : List ℕ) (object : Object) → map.get (map.insert m k object) k ≡ Some object
get-insert_same m k object =
    map.get-insert nat_list_cmp_total m k object k ∙ ap (λ b. cond b (Some object) (map.get m k)) (alike k)

pub get-insert_other : (m : Memory) (k q : List ℕ) (object : Object) → (q ≡ k → ⊥) → map.get (map.insert m k object) q ≡ map.get m q
get-insert_other m k q object other =
    map.get-insert nat_list_cmp_total m k object q
    ∙ ap (λ b. cond b (Some object) (map.get m q)) (false_of (eq_by_cmp (slice_cmp nat_cmp) q k) (λ h. other (same_key q k h)))

shadowed : {X : Type 0} (b : Bool) (x y z : X) → cond b y (cond b x z) ≡ cond b y z
shadowed true x y z = refl
shadowed false x y z = refl

pub swapped : {X : Type 0} (b c : Bool) (x y z : X) → (b ≡ true → c ≡ true → ⊥) → cond c y (cond b x z) ≡ cond b x (cond c y z)
swapped true true x y z h = absurd (h refl refl)
swapped true false x y z h = refl
swapped false true x y z h = refl
swapped false false x y z h = refl

-- the later of two inserts of one key counts
pub insert-insert_same : (m : Memory) (k : List ℕ) (x y : Object) → map.insert (map.insert m k x) k y ≡ map.insert m k y
insert-insert_same m k x y =
    map.same_map nat_list_cmp_total (map.slice_cmp-IsAntisymmetric map.nat_cmp-IsAntisymmetric) _ _ (λ q.
    map.get-insert nat_list_cmp_total (map.insert m k x) k y q
    ∙ ap (cond (eq_by_cmp (slice_cmp nat_cmp) q k) (Some y)) (map.get-insert nat_list_cmp_total m k x q)
    ∙ shadowed (eq_by_cmp (slice_cmp nat_cmp) q k) (Some x) (Some y) (map.get m q)
    ∙ sym (map.get-insert nat_list_cmp_total m k y q))

-- inserts of two keys may change places
pub insert-insert_other : (m : Memory) (k l : List ℕ) (x y : Object) → (k ≡ l → ⊥) → map.insert (map.insert m k x) l y ≡ map.insert (map.insert m l y) k x
insert-insert_other m k l x y other =
    map.same_map nat_list_cmp_total (map.slice_cmp-IsAntisymmetric map.nat_cmp-IsAntisymmetric) _ _ (λ q.
    map.get-insert nat_list_cmp_total (map.insert m k x) l y q
    ∙ ap (cond (eq_by_cmp (slice_cmp nat_cmp) q l) (Some y)) (map.get-insert nat_list_cmp_total m k x q)
    ∙ swapped (eq_by_cmp (slice_cmp nat_cmp) q k) (eq_by_cmp (slice_cmp nat_cmp) q l) (Some x) (Some y) (map.get m q)
    (λ a b. other (sym (same_key q k a) ∙ same_key q l b))
    ∙ sym (map.get-insert nat_list_cmp_total (map.insert m l y) k x q
    ∙ ap (cond (eq_by_cmp (slice_cmp nat_cmp) q k) (Some x)) (map.get-insert nat_list_cmp_total m l y q)))

pub get-remove_same : (m : Memory) (k : List ℕ) → map.get (map.remove m k) k ≡ None
get-remove_same m k = map.get-remove nat_list_cmp_total m k k ∙ ap (λ b. cond b None (map.get m k)) (alike k)

pub get-remove_other : (m : Memory) (k q : List ℕ) → (q ≡ k → ⊥) → map.get (map.remove m k) q ≡ map.get m q
get-remove_other m k q other =
    map.get-remove nat_list_cmp_total m k q
    ∙ ap (λ b. cond b None (map.get m q)) (false_of (eq_by_cmp (slice_cmp nat_cmp) q k) (λ h. other (same_key q k h)))

nothing_there : {X : Type 0} (b : Bool) (x : Option X) → (b ≡ true → x ≡ None) → cond b None x ≡ x
nothing_there true x none = sym (none refl)
nothing_there false x none = refl

-- taking out what does not live changes nothing
pub remove-absent : (m : Memory) (k : List ℕ) → map.get m k ≡ None → map.remove m k ≡ m
remove-absent m k none =
    map.same_map nat_list_cmp_total (map.slice_cmp-IsAntisymmetric map.nat_cmp-IsAntisymmetric) _ _ (λ q.
    map.get-remove nat_list_cmp_total m k q ∙ nothing_there (eq_by_cmp (slice_cmp nat_cmp) q k) (map.get m q) (λ h. ap (map.get m) (same_key q k h) ∙ none))
