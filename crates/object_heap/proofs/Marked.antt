-- What a change of marks leaves of a heap, and what the marks of some places tell.
use Rattle.std.proofs.Common.{◌≡◌, ℕ, zero, suc, ◌+◌, ◌<◌, ◌≤◌, Bool, true, false, not, ◌||◌, cond, Some, refl, sym, ap, ◌∙◌, inl, inr, arith}
use Rattle.std.specs.List.{list_any, range_with_len}
use Rattle.std.proofs.lemmas.Bool.{cases_lt, cases_eq, false≢true}
use Rattle.mpc_values.specs.declared.values.Obj.{Obj}
use Rattle.mpc_values.specs.declared.owners.Owner.{Owner}
use Rattle.memory_model.specs.Marks.{is_some_place, barred_to_loads, barred_to_stores}
use Rattle.block_table.specs.declared.rows.Row.{Row}
use Rattle.block_table.specs.declared.rows.Mark.{Mark}
use Rattle.block_table.specs.declared.rows.Mark.TheVariants.{Free, Sends, Receive}
use Rattle.block_table.specs.Rows.{Rows, live, row_in, IsLive, IsNamed, Marks, AreMarked, mark_at, mark_in, is_in, is_free, is_send, is_receive}
use Rattle.object_heap.specs.declared.heap.Heap.TheInside.{Inside}
use Rattle.object_heap.specs.Layout.{Layout, row_of, is_in_row, IsSound}
use Rattle.object_heap.specs.Kept.{seen_of, IsKept}
use Rattle.object_heap.specs.Marks.{marks_in}
use Rattle.object_heap.specs.Changes.{KeepsObjects}
use Rattle.object_heap.specs.Copies.{KeepsCopies}
use Rattle.object_heap.proofs.Words.{above_range, range_low, range_high}
use Rattle.object_heap.proofs.Rows.{live_row, row_live, live_at, same_ranges, range_by_row}
use Rattle.object_heap.proofs.Heaps.{keeps_objects, rows_marked, sound_kept, mark_named}
use Rattle.object_heap.proofs.Copies.{IsNoRow, keeps_copies}

-- the heap with this table
abbrev pub with_table : Inside → Rows → Inside
with_table h table = record { region = h.region; table = table; copies = h.copies }

pub no_row_same : (old new : Layout) (p : ℕ) → ((key : ℕ) → row_of new key ≡ row_of old key) → IsNoRow old p → IsNoRow new p
no_row_same old new p rows never key there =
    let row = live_row (λ row. is_in_row row p ≡ true) (live new.rows key) there in
    never key (row_live (λ row. is_in_row row p ≡ true) (live old.rows key) row.0 (sym (rows key) ∙ row.1) row.2)

module _ (h : Inside) (table : Rows) (key at len : ℕ) (change : Mark → Mark) (kept : IsKept h) (marks : Marks h.table table key at len change) where
  same_rows : (k : ℕ) → row_of (seen_of (with_table h table)) k ≡ row_of (seen_of h) k
  same_rows = rows_marked h.table table key at len change marks

  free_past : IsLive h.table key (λ row. at + len ≤ row.len) → (k : ℕ) (row : Row) → row_of (seen_of h) k ≡ Some row → (p : ℕ) → row.len ≤ p → mark_at table k p ≡ Free
  free_past within k row is p past = elim (cases_eq k key) [
    | inl same ↦
        let there : at + len ≤ row.len = live_at (λ row. at + len ≤ row.len) (live h.table key) row (ap (λ n. row_in (live h.table n)) (sym same) ∙ is) within in
        ap (λ n. mark_at table n p) same
        ∙ (marks.marks p
        ∙ (ap (λ b. cond b (change (mark_at h.table key p)) (mark_at h.table key p)) (let e : is_in at len p ≡ false = above_range at len p (omega arith) in e)
        ∙ (ap (λ n. mark_at h.table n p) (sym same) ∙ kept.sound.marks k row is p past)))
    | inr differs ↦ ap (λ slot. mark_in slot p) (marks.others k differs) ∙ kept.sound.marks k row is p past
  ]

  pub marked_kept : IsLive h.table key (λ row. at + len ≤ row.len) → IsKept (with_table h table)
  marked_kept within = record {
    sound = sound_kept (seen_of h) (seen_of (with_table h table)) kept.sound same_rows (free_past within)
        (λ k row is p inside. kept.sound.held k row is p (range_low row.base row.len p inside) (range_high row.base row.len p inside)) (omega arith);
    ranges = kept.ranges ∙ ap (λ n. n + h.copies) (sym (same_ranges h.table table (λ k. range_by_row (live table k) (live h.table k) (same_rows k))));
  }

  pub marked_objects : KeepsObjects (seen_of h) (seen_of (with_table h table))
  marked_objects = keeps_objects (seen_of h) (seen_of (with_table h table)) kept.sound.named same_rows (λ k row is p inside. refl)

  pub marked_copies : KeepsCopies (seen_of h) (seen_of (with_table h table))
  marked_copies = keeps_copies (seen_of h) (seen_of (with_table h table)) refl
      (λ p held never. (refl, no_row_same (seen_of h) (seen_of (with_table h table)) p same_rows never))

-- tests that agree on the places of a range agree on whether one passes
pub some_alike : (f g : ℕ → Bool) (at len : ℕ) → ((p : ℕ) → at ≤ p → p < at + len → f p ≡ g p) → list_any f (range_with_len at len) ≡ list_any g (range_with_len at len)
some_alike f g at zero same = refl
some_alike f g at (suc len) same =
    ap (λ b. b || list_any f (range_with_len (at + 1) len)) (same at (omega arith) (omega arith))
    ∙ ap (λ b. g at || b) (some_alike f g (at + 1) len (λ p from until. same p (omega arith) (omega arith)))

or_left : (a b : Bool) → (a || b) ≡ false → a ≡ false
or_left true b e = e
or_left false b e = refl

or_right : (a b : Bool) → (a || b) ≡ false → b ≡ false
or_right true b e = absurd (false≢true (sym e))
or_right false b e = e

-- no place of a range passes a test
pub none_pass : (f : ℕ → Bool) (at len : ℕ) → list_any f (range_with_len at len) ≡ false → (p : ℕ) → at ≤ p → p < at + len → f p ≡ false
none_pass f at zero none p from until = absurd (omega arith)
none_pass f at (suc len) none p from until = elim (cases_eq p at) [
  | inl same ↦ ap f same ∙ or_left (f at) (list_any f (range_with_len (at + 1) len)) none
  | inr differs ↦ none_pass f (at + 1) len (or_right (f at) (list_any f (range_with_len (at + 1) len)) none) p (omega arith) (omega arith)
]

pub all_fail : (f : ℕ → Bool) (at len : ℕ) → ((p : ℕ) → at ≤ p → p < at + len → f p ≡ false) → list_any f (range_with_len at len) ≡ false
all_fail f at zero none = refl
all_fail f at (suc len) none =
    ap (λ b. b || list_any f (range_with_len (at + 1) len)) (none at (omega arith) (omega arith))
    ∙ all_fail f (at + 1) len (λ p from until. none p (omega arith) (omega arith))

either_mark : (mark : Mark) → not (is_free mark) ≡ (is_send mark || is_receive mark)
either_mark Free = refl
either_mark (Sends n) = refl
either_mark Receive = refl

-- the marks of a key's places are those of its object's
pub some_received : (h : Layout) (key at len : ℕ) (owner : Owner) (obj : Obj) → IsSound h → IsNamed h.rows key owner obj
    → list_any (λ p. is_receive (mark_at h.rows key p)) (range_with_len at len) ≡ is_some_place (barred_to_loads (marks_in h)) owner obj at len
some_received h key at len owner obj sound named =
    some_alike (λ p. is_receive (mark_at h.rows key p)) (barred_to_loads (marks_in h) owner obj) at len
    (λ p from until. ap is_receive (sym (mark_named h key p owner obj sound.named named)))

pub some_marked : (h : Layout) (key at len : ℕ) (owner : Owner) (obj : Obj) → IsSound h → IsNamed h.rows key owner obj
    → list_any (λ p. not (is_free (mark_at h.rows key p))) (range_with_len at len) ≡ is_some_place (barred_to_stores (marks_in h)) owner obj at len
some_marked h key at len owner obj sound named =
    some_alike (λ p. not (is_free (mark_at h.rows key p))) (barred_to_stores (marks_in h) owner obj) at len
    (λ p from until. either_mark (mark_at h.rows key p) ∙ ap (λ m. is_send m || is_receive m) (sym (mark_named h key p owner obj sound.named named)))

not_not : (b : Bool) → not b ≡ false → b ≡ true
not_not true e = refl
not_not false e = absurd (false≢true (sym e))

pub not_false : (b : Bool) → b ≡ false → not b ≡ true
not_false b e = ap not e

pub unmarked_free : (table : Rows) (key at len : ℕ) → list_any (λ p. not (is_free (mark_at table key p))) (range_with_len at len) ≡ false → AreMarked table key at len is_free
unmarked_free table key at len none p from until = not_not (is_free (mark_at table key p)) (none_pass (λ q. not (is_free (mark_at table key q))) at len none p from until)

pub unreceived : (table : Rows) (key at len : ℕ) → list_any (λ p. is_receive (mark_at table key p)) (range_with_len at len) ≡ false → AreMarked table key at len (λ mark. not (is_receive mark))
unreceived table key at len none p from until = not_false (is_receive (mark_at table key p)) (none_pass (λ q. is_receive (mark_at table key q)) at len none p from until)

free_of : (mark : Mark) → mark ≡ Free → is_free mark ≡ true
free_of mark e = ap is_free e

-- whether an object is clear, by the marks of all places that its key may have
pub clear_object : (h : Layout) (key : ℕ) (row : Row) (owner : Owner) (obj : Obj) (answer : Bool) → IsSound h → IsNamed h.rows key owner obj → row_of h key ≡ Some row
    → (answer ≡ true → (p : ℕ) → is_free (mark_at h.rows key p) ≡ true) → (((p : ℕ) → is_free (mark_at h.rows key p) ≡ true) → answer ≡ true)
    → answer ≡ not (is_some_place (barred_to_stores (marks_in h)) owner obj 0 row.len)
clear_object h key row owner obj answer sound named is says back =
    by answer (list_any (λ p. not (is_free (mark_at h.rows key p))) (range_with_len 0 row.len)) refl refl
    ∙ ap not (some_marked h key 0 row.len owner obj sound named)
  where
    by : (a b : Bool) → answer ≡ a → list_any (λ p. not (is_free (mark_at h.rows key p))) (range_with_len 0 row.len) ≡ b
        → answer ≡ not (list_any (λ p. not (is_free (mark_at h.rows key p))) (range_with_len 0 row.len))
    by a true ea eb = ended a ea ∙ ap not (sym eb)
      where
        ended : (a : Bool) → answer ≡ a → answer ≡ not true
        ended false e = e
        ended true e = absurd (false≢true (sym (all_fail (λ p. not (is_free (mark_at h.rows key p))) 0 row.len (λ p from until. ap not (says e p))) ∙ eb))
    by a false ea eb =
        back (λ p. elim (cases_lt p row.len) [
          | inl inside ↦ unmarked_free h.rows key 0 row.len eb p (omega arith) (omega arith)
          | inr past ↦ free_of (mark_at h.rows key p) (sound.marks key row is p past)
        ]) ∙ ap not (sym eb)
