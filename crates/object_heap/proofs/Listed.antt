-- The rows and the words of a heap as a map.
use Rattle.std.proofs.Common.{◌≡◌, ◌≢◌, ℕ, ◌+◌, ◌<◌, true, List, length, get_or, take, drop, Some, None, is_some, IsSomeAnd, refl, sym, ap, subst, ◌∙◌, inl, inr, arith}
use Rattle.std.proofs.lemmas.Bool.{false≢true}
use Rattle.std.proofs.lemmas.List.{get_or-take, get_or-drop, length-take-le, length-drop}
use Rattle.std.proofs.lemmas.Option.{slice_get-get_or}
use Rattle.mpc_values.specs.declared.values.Word.{Word}
use Rattle.memory_model.specs.Memory.{Object}
use Rattle.block_table.specs.declared.rows.Row.{Row}
use Rattle.block_table.specs.Rows.{live, IsNamed, rows_of}
use Rattle.word_region.specs.Places.{cell, ShowsHeld}
use Rattle.object_heap.specs.Layout.{Layout, row_of, IsSound}
use Rattle.object_heap.specs.Objects.{word_or, word_at, words_from}
use Rattle.object_heap.specs.Maps.{MapAgrees}
use Rattle.object_heap.proofs.Words.{in_range, length_words, words_are}
use Rattle.object_heap.proofs.Names.{name_cases}
use Rattle.object_heap.proofs.Rows.{row_live, row_listed, listed_row, listed_rows}
use Rattle.object_heap.proofs.Heaps.{named_row, object_named, object_of_row, no_object}

module _ (h : Layout) (ranges : ℕ) (words : List Word) (sound : IsSound h) (shows : ShowsHeld (record { cells = h.cells; ranges = ranges }) words) where
  -- a row's words in the list
  row_words : (key : ℕ) (row : Row) → row_of h key ≡ Some row → take row.len (drop row.base words) ≡ words_from h.cells row.base row.len
  row_words key row is =
      let within = sound.within key row is in
      let end : length words ≡ length h.cells = shows.end in
      sym (words_are h.cells row.base row.len (take row.len (drop row.base words))
      (length-take-le row.len (drop row.base words) (let e = length-drop row.base words in omega arith))
      (λ k d inside.
      get_or-take row.len (drop row.base words) k d inside
      ∙ (get_or-drop row.base words k d
      ∙ word (row.base + k) d (omega arith) (sound.held key row is (row.base + k) (omega arith) (omega arith)))))
    where
      word : (p : ℕ) (d : Word) → p < length words → is_some (cell h.cells p) ≡ true → get_or words p d ≡ word_at h.cells p
      word p d there held = some_word (get_or words p d) (sym (slice_get-get_or words p d there) ∙ sym (shows.held p held))
        where
          some_word : (w : Word) → Some w ≡ cell h.cells p → w ≡ word_at h.cells p
          some_word w e = ap word_or e

  named_by : (key : ℕ) (row : Row) → row_of h key ≡ Some row → IsNamed h.rows key row.owner row.obj
  named_by key row is = row_live (λ r. (r.owner ≡ row.owner) × (r.obj ≡ row.obj)) (live h.rows key) row is (refl, refl)

  pub map_agrees : MapAgrees (rows_of h.rows) words h
  map_agrees = record {
    each = λ owner obj object lives. elim (name_cases h.rows owner obj) [
      | inl found ↦
          let row = named_row h.rows found.0 owner obj found.1 in
          let listed = row_listed h.rows found.0 row.0 row.1 in
          (listed.0, row.0, listed.1, (row.2, row.3))
      | inr none ↦ absurd (none_some object (sym (no_object h owner obj none.0) ∙ lives))
    ];
    live = λ i row is.
        let at = listed_row h.rows i row is in
        subst (λ o. IsSomeAnd o (λ object. (length object.words ≡ row.len) × (take row.len (drop row.base words) ≡ object.words)))
        (sym (object_named h at.0 row.owner row.obj sound.named (named_by at.0 row at.1) ∙ object_of_row h at.0 row at.1))
        (length_words h.cells row.base row.len, row_words at.0 row at.1);
    within = λ i row is. let at = listed_row h.rows i row is in let w = sound.within at.0 row at.1 in let e = shows.end in omega arith;
    one = λ i j row other before is also.
        let at = listed_rows h.rows i j row other before is also in
        let apart : at.0 ≢ at.1 = λ same. absurd (let b = at.2 in omega arith) in (
          (λ named. apart (sound.named at.0 at.1 row.owner row.obj (named_by at.0 row at.3) (row_live (λ r. (r.owner ≡ row.owner) × (r.obj ≡ row.obj)) (live h.rows at.1) other at.4 named))),
          (λ place first second. false≢true (sym (sound.apart at.0 at.1 row other apart at.3 at.4 place (in_range row.base row.len place first.0 first.1)) ∙ in_range other.base other.len place second.0 second.1)),
        );
  }
    where
      none_some : (object : Object) → None ≡ Some object → ⊥
      none_some object e = cc
