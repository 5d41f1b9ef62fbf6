-- The files that a map from names to contents has, one by one.
use Rattle.std.proofs.Common.{◌≡◌, ℕ, Bool, true, false, cond, List, [], ◌∷◌, map, refl, sym, ap, ◌∙◌, Option, Some, String, Vec, Global, string_bytes}
use Rattle.std.specs.Option.{option_map}
use Rattle.std.specs.Ordering.{nat_cmp, eq_by_cmp}
use Rattle.std.specs.Cmp.Lexicographic.{slice_cmp}
use Rattle.std.specs.Cmp.{eq_by_cmp_equiv}
use Rattle.std.specs.Str.{bytes_eq}
use Rattle.std.specs.String.{string_cmp}
use Rattle.std.specs.Map.{lookup}
use Rattle.std.specs.BTreeMap.{BTreeMap, is_at, UpdatesBy}
use Rattle.std.proofs.lemmas.Map.Text.{btree_map_updates_text, is_eq-slice_cmp}
use Rattle.std.proofs.lemmas.Cmp.{nat_list_cmp_total}
use Rattle.std.specs.FinMap as finite

-- a name and a content
abbrev pub file_of : String Global × Vec ℕ Global → List ℕ × List ℕ
file_of e = (string_bytes e.0, e.1.items)

-- the content among the entries
abbrev pub content_at : List (String Global × Vec ℕ Global) → List ℕ → Option (Vec ℕ Global)
content_at es q = lookup (is_at (λ k. slice_cmp nat_cmp q (string_bytes k))) es

find_file : (es : List (String Global × Vec ℕ Global)) (q : List ℕ) → finite.find (slice_cmp nat_cmp) q (map file_of es) ≡ option_map (λ v. v.items) (content_at es q)
find_file [] q = refl
find_file (e ∷ es) q =
    elim (is_at (λ k. slice_cmp nat_cmp q (string_bytes k)) e.0) as (λ b. cond b (Some e.1.items) (finite.find (slice_cmp nat_cmp) q (map file_of es)) ≡ option_map (λ v. v.items) (cond b (Some e.1) (content_at es q))) [
      | true ↦ refl
      | false ↦ find_file es q
    ]

-- a file's content is that of the map
pub get_file : (es : List (String Global × Vec ℕ Global)) (q : List ℕ) → finite.get (finite.from_entries {R = slice_cmp nat_cmp} (map file_of es)) q ≡ option_map (λ v. v.items) (content_at es q)
get_file es q = finite.get-from_entries nat_list_cmp_total (map file_of es) q ∙ find_file es q

items_chosen : (b : Bool) (v : Vec ℕ Global) (other : Option (Vec ℕ Global)) → option_map (λ w. w.items) (cond b (Some v) other) ≡ cond b (Some v.items) (option_map (λ w. w.items) other)
items_chosen true v other = refl
items_chosen false v other = refl

-- two names are compared alike in either order
same_name : (a b : List ℕ) → bytes_eq a b ≡ eq_by_cmp (slice_cmp nat_cmp) b a
same_name a b = sym (is_eq-slice_cmp a b) ∙ (eq_by_cmp_equiv nat_list_cmp_total).symm a b

-- after a change at one name
pub put_file : (old new : BTreeMap (String Global) (Vec ℕ Global)) (name : List ℕ) (v : Vec ℕ Global) → UpdatesBy string_cmp (λ k. slice_cmp nat_cmp name (string_bytes k)) old new (Some v)
    → finite.from_entries {R = slice_cmp nat_cmp} (map file_of new.entries) ≡ finite.insert (finite.from_entries (map file_of old.entries)) name v.items
put_file old new name v h =
    finite.same_map nat_list_cmp_total (finite.slice_cmp-IsAntisymmetric finite.nat_cmp-IsAntisymmetric) _ _ (λ q.
    get_file new.entries q
    ∙ ap (option_map (λ w. w.items)) (btree_map_updates_text name old new (Some v) h q)
    ∙ items_chosen (bytes_eq name q) v (content_at old.entries q)
    ∙ ap (λ b. cond b (Some v.items) (option_map (λ w. w.items) (content_at old.entries q))) (same_name name q)
    ∙ sym (finite.get-insert nat_list_cmp_total (finite.from_entries (map file_of old.entries)) name v.items q
    ∙ ap (cond (eq_by_cmp (slice_cmp nat_cmp) q name) (Some v.items)) (get_file old.entries q)))
