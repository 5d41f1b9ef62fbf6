-- A map by names as the code has it, and as contracts see it.
use Rattle.std.proofs.Common.{◌≡◌, ℕ, List, [], ◌∷◌, refl, sym, ap, ◌∙◌, Vec, Global, cond, Some, reverse, take, length, ◌+◌, ◌<◌, get_or}
use Rattle.std.specs.Ordering.{nat_cmp, eq_by_cmp, match_ordering}
use Rattle.std.specs.Cmp.Lexicographic.{slice_cmp, nat_list_cmp_total}
use Rattle.std.specs.declared.cmp.Ordering.{Ordering}
use Rattle.std.specs.declared.cmp.Ordering.TheVariants.{Less, Equal, Greater}
use Rattle.std.specs.FinMap as map
use Rattle.std.specs.FinMap.Entries as entries
use Rattle.std.specs.Map.{lookup}
use Rattle.std.specs.BTreeMap.{insert_entry, is_at}
use Rattle.c_types.specs.Keys.{by_name}
use Rattle.std.proofs.lemmas.List.{take_more, reverse-append}
use Rattle.c_types.specs.Env.{Scope, find, first_some}

by : List ℕ → List ℕ → Ordering
by = slice_cmp nat_cmp

pub found : {X : Type 0} (q : List ℕ) (es : List (Vec ℕ Global × X)) → lookup (is_at (λ k. slice_cmp nat_cmp q k.items)) es ≡ map.get (map.from_entries {R = slice_cmp nat_cmp} (by_name es)) q
found q es = seen q es ∙ sym (map.get-from_entries nat_list_cmp_total (by_name es) q)
  where
    seen : {X : Type 0} (q : List ℕ) (es : List (Vec ℕ Global × X)) → lookup (is_at (λ k. slice_cmp nat_cmp q k.items)) es ≡ entries.find (slice_cmp nat_cmp) q (by_name es)
    seen q [] = refl
    seen q (e ∷ es) = ap (cond (eq_by_cmp (slice_cmp nat_cmp) q e.0.items) (Some e.1)) (seen q es)

placed : {X : Type 0} (k : Vec ℕ Global) (v : X) (es : List (Vec ℕ Global × X)) → by_name (insert_entry (λ a b. slice_cmp nat_cmp a.items b.items) es k v) ≡ entries.put (slice_cmp nat_cmp) k.items v (by_name es)
placed k v [] = refl
placed k v (e ∷ es) =
    elim (slice_cmp nat_cmp k.items e.0.items) as (λ o. by_name (match_ordering o ((k, v) ∷ e ∷ es) ((e.0, v) ∷ es) (e ∷ insert_entry (λ a b. slice_cmp nat_cmp a.items b.items) es k v)) ≡ entries.by_order o ((k.items, v) ∷ by_name (e ∷ es)) ((e.0.items, v) ∷ by_name es) ((e.0.items, e.1) ∷ entries.put (slice_cmp nat_cmp) k.items v (by_name es))) [
      | Less ↦ refl
      | Equal ↦ refl
      | Greater ↦ ap (λ l. (e.0.items, e.1) ∷ l) (placed k v es)
    ]

pub inserted : {X : Type 0} (k : Vec ℕ Global) (v : X) (old new : List (Vec ℕ Global × X)) → new ≡ insert_entry (λ a b. slice_cmp nat_cmp a.items b.items) old k v
    → map.from_entries {R = slice_cmp nat_cmp} (by_name new) ≡ map.insert (map.from_entries (by_name old)) k.items v
inserted k v old new e =
    map.same_map nat_list_cmp_total (map.slice_cmp-IsAntisymmetric map.nat_cmp-IsAntisymmetric) _ _ (λ q.
    map.get-from_entries nat_list_cmp_total (by_name new) q
    ∙ ap (entries.find (slice_cmp nat_cmp) q) (ap by_name e ∙ placed k v old)
    ∙ entries.find-put (slice_cmp nat_cmp) nat_list_cmp_total q k.items v (by_name old)
    ∙ ap (cond (eq_by_cmp (slice_cmp nat_cmp) q k.items) (Some v)) (sym (map.get-from_entries nat_list_cmp_total (by_name old) q))
    ∙ sym (map.get-insert nat_list_cmp_total (map.from_entries (by_name old)) k.items v q))

-- the scopes below a place, from the innermost on
pub found_below : (name : List ℕ) (ss : List Scope) (m n : ℕ) (d : Scope) → m ≡ n + 1 → n < length ss
    → find name (reverse (take m ss)) ≡ first_some (map.get (get_or ss n d) name) (find name (reverse (take n ss)))
found_below name ss m n d is h =
    ap (λ k. find name (reverse (take k ss))) is
    ∙ ap (λ l. find name (reverse l)) (take_more ss n d h)
    ∙ ap (find name) (reverse-append (take n ss) (get_or ss n d ∷ []))
