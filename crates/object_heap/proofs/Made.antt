-- What an object that comes or goes leaves of a heap.
use Rattle.std.proofs.Common.{◌≡◌, ◌≢◌, ℕ, ◌+◌, ◌<◌, ◌≤◌, max, true, false, length, replicate, Option, Some, None, is_some, refl, sym, ap, subst, ◌∙◌, inl, inr, arith}
use Rattle.std.proofs.lemmas.Bool.{cases_lt, cases_eq, false≢true}
use Rattle.std.proofs.lemmas.List.{get_or_past, get_or-replicate, length-replicate}
use Rattle.mpc_values.specs.declared.values.Word.TheVariants.{Undef}
use Rattle.mpc_values.specs.declared.values.Obj.{Obj}
use Rattle.mpc_values.specs.declared.owners.Owner.{Owner}
use Rattle.memory_model.specs.declared.kinds.Kind.{Kind}
use Rattle.block_table.specs.declared.rows.Row.{Row}
use Rattle.block_table.specs.declared.rows.Mark.TheVariants.{Free}
use Rattle.block_table.specs.Rows.{Live, Rows, live, row_in, IsNamed, IsNoName, IsNamedOnce, Changes, mark_at, mark_in, is_free}
use Rattle.word_region.specs.Places.{Places, cell, is_in, IsHeld, IsFree, Takes, Releases}
use Rattle.object_heap.specs.declared.heap.Heap.TheInside.{Inside}
use Rattle.object_heap.specs.Layout.{row_of, is_in_row}
use Rattle.object_heap.specs.Kept.{seen_of, IsKept, range_of, range_in}
use Rattle.object_heap.specs.Marks.{KeepsMarks}
use Rattle.object_heap.specs.Changes.{Puts, KeepsObjects}
use Rattle.object_heap.specs.Copies.{KeepsCopies}
use Rattle.object_heap.proofs.Words.{in_range, range_low, range_high, unset_words}
use Rattle.object_heap.proofs.Names.{named_by_row}
use Rattle.object_heap.proofs.Rows.{live_row, row_live, one_row, no_row, free_is, changed_ranges, range_among, range_of_row, one_range}
use Rattle.object_heap.proofs.Heaps.{object_named, object_of_row, no_object, keeps_objects, once_changed, puts, one_name, keeps_marks}
use Rattle.object_heap.proofs.Copies.{IsNoRow, keeps_copies}
use Rattle.object_heap.proofs.Messages.{bool_cases, choose_no, choose_yes, not_both, outside_free, outside_held}

-- the heap with these places and rows
abbrev pub with_both : Inside → Places → Rows → Inside
with_both h places table = record { region = places; table = table; copies = h.copies }

-- rows stand but for one
rows_but : (old new : Rows) (key : ℕ) (slot : Option Live) → Changes old new key slot → (other : ℕ) → other ≢ key → row_in (live new other) ≡ row_in (live old other)
rows_but old new key slot changes other differs = ap row_in (changes.others other differs)

none_some : (row : Row) → None ≡ Some row → ⊥
none_some row e = cc

-- an object comes
module _ (h : Inside) (region : Places) (table : Rows) (kept : IsKept h) (key base len : ℕ) (owner : Owner) (obj : Obj) (kind : Kind) (free : IsFree h.region.cells base len)
    (takes : Takes h.region.cells region.cells base len) (vacant : live h.table key ≡ None)
    (added : Changes h.table table key (Some (record { row = record { owner = owner; obj = obj; kind = kind; base = base; len = len }; marks = replicate len Free })))
    (fresh : IsNoName h.table owner obj) where
  row : Row
  row = record { owner = owner; obj = obj; kind = kind; base = base; len = len }

  here : row_in (live table key) ≡ Some (record { owner = owner; obj = obj; kind = kind; base = base; len = len })
  here = ap row_in added.changed

  named_here : IsNamed table key owner obj
  named_here = row_live (λ r. (r.owner ≡ owner) × (r.obj ≡ obj)) (live table key) (record { owner = owner; obj = obj; kind = kind; base = base; len = len }) here (refl, refl)

  vacant_name : (o : Owner) (a : Obj) → IsNamed h.table key o a → ⊥
  vacant_name o a named = no_row (row_in (live h.table key)) (live_row (λ r. (r.owner ≡ o) × (r.obj ≡ a)) (live h.table key) named).0 (ap row_in vacant) (live_row (λ r. (r.owner ≡ o) × (r.obj ≡ a)) (live h.table key) named).1

  once : IsNamedOnce table
  once = once_changed h.table table key owner obj kept.sound.named (rows_but h.table table key (Some (record { row = record { owner = owner; obj = obj; kind = kind; base = base; len = len }; marks = replicate len Free })) added)
      (λ o a named. one_name table key owner o obj a named_here named) (λ other differs named. fresh other named)

  -- a place of another row
  old_place : (other : ℕ) (second : Row) (p : ℕ) → row_in (live h.table other) ≡ Some second → is_in_row second p ≡ true → (cell region.cells p ≡ cell h.region.cells p) × (is_in base len p ≡ false)
  old_place other second p is inside =
      let away = outside_free (seen_of h) base len other second p kept.sound free is inside in
      (choose_no (is_in base len p) (Some Undef) (cell h.region.cells p) (cell region.cells p) (takes.cells p) away, away)

  row_before : (k : ℕ) (second : Row) → k ≢ key → row_in (live table k) ≡ Some second → row_in (live h.table k) ≡ Some second
  row_before k second differs is = sym (ap row_in (added.others k differs)) ∙ is

  row_here : (k : ℕ) (second : Row) → k ≡ key → row_in (live table k) ≡ Some second → record { owner = owner; obj = obj; kind = kind; base = base; len = len } ≡ second
  row_here k second same is = one_row (row_in (live table k)) (record { owner = owner; obj = obj; kind = kind; base = base; len = len }) second (ap (λ n. row_in (live table n)) same ∙ here) is

  held_all : (k : ℕ) (second : Row) → row_in (live table k) ≡ Some second → IsHeld region.cells second.base second.len
  held_all k second is = elim (cases_eq k key) [
    | inl same ↦ subst (λ (r : Row). IsHeld region.cells r.base r.len) (row_here k second same is)
        (λ p from until. ap is_some (choose_yes (is_in base len p) (Some Undef) (cell h.region.cells p) (cell region.cells p) (takes.cells p) (in_range base len p from until)))
    | inr differs ↦ λ p from until.
        let was = row_before k second differs is in
        ap is_some (old_place k second p was (in_range second.base second.len p from until)).0 ∙ kept.sound.held k second was p from until
  ]

  within_all : (k : ℕ) (second : Row) → row_in (live table k) ≡ Some second → second.base + second.len ≤ length region.cells
  within_all k second is =
      let end : length region.cells ≡ max (length h.region.cells) (base + len) = takes.end in
      elim (cases_eq k key) [
        | inl same ↦ subst (λ (r : Row). r.base + r.len ≤ length region.cells) (row_here k second same is) (let e : base + len ≤ length region.cells = omega arith in e)
        | inr differs ↦ let w = kept.sound.within k second (row_before k second differs is) in omega arith
      ]

  apart_all : (k other : ℕ) (one two : Row) → k ≢ other → row_in (live table k) ≡ Some one → row_in (live table other) ≡ Some two → (p : ℕ) → is_in_row one p ≡ true → is_in_row two p ≡ false
  apart_all k other one two differs is also p inside = elim (cases_eq k key) [
    | inl same ↦
        not_both (is_in_row two p)
        (λ there. false≢true (sym (old_place other two p (row_before other two (λ e. differs (same ∙ sym e)) also) there).1
        ∙ subst (λ (r : Row). is_in_row r p ≡ true) (sym (row_here k one same is)) inside))
    | inr apart ↦ elim (cases_eq other key) [
      | inl same ↦ subst (λ (r : Row). is_in_row r p ≡ false) (row_here other two same also) (old_place k one p (row_before k one apart is) inside).1
      | inr away ↦ kept.sound.apart k other one two differs (row_before k one apart is) (row_before other two away also) p inside
    ]
  ]

  free_marks : (p : ℕ) → mark_at table key p ≡ Free
  free_marks p = ap (λ slot. mark_in slot p) added.changed ∙ elim (cases_lt p len) [
    | inl inside ↦ get_or-replicate len p Free Free inside
    | inr past ↦ get_or_past (replicate len Free) p Free (let n = length-replicate len Free in omega arith)
  ]

  pub added_kept : region.ranges ≡ h.region.ranges + range_of len → IsKept (with_both h region table)
  added_kept ranges = record {
    sound = record {
      named = once;
      held = held_all;
      within = within_all;
      apart = apart_all;
      marks = λ k second is p past. elim (cases_eq k key) [
        | inl same ↦ ap (λ n. mark_at table n p) same ∙ free_marks p
        | inr differs ↦ ap (λ slot. mark_in slot p) (added.others k differs) ∙ kept.sound.marks k second (row_before k second differs is) p past
      ];
    };
    ranges =
        let changed = changed_ranges h.table table key added.others in
        let was : range_in (live h.table key) ≡ 0 = ap range_in vacant in
        let now : range_in (live table key) ≡ range_of len = range_of_row (live table key) (record { owner = owner; obj = obj; kind = kind; base = base; len = len }) here in
        let before = kept.ranges in
        omega arith;
  }

  pub added_object : Puts (seen_of h) (seen_of (with_both h region table)) owner obj (Some (record { kind = kind; words = replicate len Undef }))
  added_object =
      puts (seen_of h) (seen_of (with_both h region table)) key owner obj (Some (record { kind = kind; words = replicate len Undef })) kept.sound.named once
      (λ other differs. ap row_in (added.others other differs))
      (λ o a named. absurd (vacant_name o a named))
      (λ o a named. one_name table key owner o obj a named_here named)
      (λ other second differs is p inside. (old_place other second p is inside).0)
      (object_named (seen_of (with_both h region table)) key owner obj once named_here
      ∙ (object_of_row (seen_of (with_both h region table)) key (record { owner = owner; obj = obj; kind = kind; base = base; len = len }) here
      ∙ ap (λ words. Some (record { kind = kind; words = words }))
      (unset_words region.cells base len
      (λ k inside. choose_yes (is_in base len (base + k)) (Some Undef) (cell h.region.cells (base + k)) (cell region.cells (base + k)) (takes.cells (base + k)) (in_range base len (base + k) (omega arith) (omega arith))))))

  pub added_marks : KeepsMarks (seen_of h) (seen_of (with_both h region table))
  added_marks = keeps_marks (seen_of h) (seen_of (with_both h region table)) key kept.sound.named once added.others (λ p. ap (λ slot. mark_in slot p) vacant) free_marks

  pub added_copies : KeepsCopies (seen_of h) (seen_of (with_both h region table))
  added_copies = keeps_copies (seen_of h) (seen_of (with_both h region table)) refl
      (λ p there never.
      let away = outside_held h.region.cells base len p free there in
      (choose_no (is_in base len p) (Some Undef) (cell h.region.cells p) (cell region.cells p) (takes.cells p) away, none_new p away never))
    where
      none_new : (p : ℕ) → is_in base len p ≡ false → IsNoRow (seen_of h) p → IsNoRow (seen_of (with_both h region table)) p
      none_new p away never k there =
          let found = live_row (λ r. is_in_row r p ≡ true) (live table k) there in
          elim (cases_eq k key) [
            | inl same ↦ false≢true (sym away ∙ subst (λ (r : Row). is_in_row r p ≡ true) (sym (row_here k found.0 same found.1)) found.2)
            | inr differs ↦ never k (row_live (λ r. is_in_row r p ≡ true) (live h.table k) found.0 (row_before k found.0 differs found.1) found.2)
          ]

-- a range that was taken and released again
module _ (h : Inside) (between region : Places) (kept : IsKept h) (base len : ℕ) (free : IsFree h.region.cells base len)
    (takes : Takes h.region.cells between.cells base len) (releases : Releases between.cells region.cells base len) where
  again : (p : ℕ) → cell region.cells p ≡ cell h.region.cells p
  again p = elim (bool_cases (is_in base len p)) [
    | inl inside ↦ choose_yes (is_in base len p) None (cell between.cells p) (cell region.cells p) (releases.cells p) inside
        ∙ sym (free p (range_low base len p inside) (range_high base len p inside))
    | inr away ↦ choose_no (is_in base len p) None (cell between.cells p) (cell region.cells p) (releases.cells p) away
        ∙ choose_no (is_in base len p) (Some Undef) (cell h.region.cells p) (cell between.cells p) (takes.cells p) away
  ]

  pub given_up_objects : KeepsObjects (seen_of h) (seen_of (with_both h region h.table))
  given_up_objects = keeps_objects (seen_of h) (seen_of (with_both h region h.table)) kept.sound.named (λ k. refl) (λ key row is p inside. again p)

  pub given_up_copies : KeepsCopies (seen_of h) (seen_of (with_both h region h.table))
  given_up_copies = keeps_copies (seen_of h) (seen_of (with_both h region h.table)) refl (λ p there never. (again p, never))

-- an object goes
module _ (h : Inside) (region : Places) (table : Rows) (kept : IsKept h) (key : ℕ) (row : Row) (is : row_of (seen_of h) key ≡ Some row) (clear : (p : ℕ) → is_free (mark_at h.table key p) ≡ true)
    (closed : Changes h.table table key None) (releases : Releases h.region.cells region.cells row.base row.len) where
  not_here : (o : Owner) (a : Obj) → IsNamed table key o a → ⊥
  not_here o a named = no_row (row_in (live table key)) (live_row (λ r. (r.owner ≡ o) × (r.obj ≡ a)) (live table key) named).0 (ap row_in closed.changed) (live_row (λ r. (r.owner ≡ o) × (r.obj ≡ a)) (live table key) named).1

  differs_from : (k : ℕ) (second : Row) → row_in (live table k) ≡ Some second → k ≢ key
  differs_from k second there same = none_some second (sym (ap row_in closed.changed) ∙ (ap (λ n. row_in (live table n)) (sym same) ∙ there))

  row_was : (k : ℕ) (second : Row) → row_in (live table k) ≡ Some second → row_in (live h.table k) ≡ Some second
  row_was k second there = sym (ap row_in (closed.others k (differs_from k second there))) ∙ there

  other_place : (k : ℕ) (second : Row) (p : ℕ) → k ≢ key → row_in (live h.table k) ≡ Some second → is_in_row second p ≡ true → cell region.cells p ≡ cell h.region.cells p
  other_place k second p differs there inside =
      choose_no (is_in row.base row.len p) None (cell h.region.cells p) (cell region.cells p) (releases.cells p) (kept.sound.apart k key second row differs there is p inside)

  once_still : IsNamedOnce table
  once_still k other o a named also =
      let one = live_row (λ r. (r.owner ≡ o) × (r.obj ≡ a)) (live table k) named in
      let two = live_row (λ r. (r.owner ≡ o) × (r.obj ≡ a)) (live table other) also in
      kept.sound.named k other o a
      (named_by_row table h.table k k o a (ap row_in (closed.others k (differs_from k one.0 one.1))) named)
      (named_by_row table h.table other other o a (ap row_in (closed.others other (differs_from other two.0 two.1))) also)

  pub closed_kept : region.ranges + range_of row.len ≡ h.region.ranges → IsKept (with_both h region table)
  closed_kept ranges = record {
    sound = record {
      named = once_still;
      held = λ k second there p from until.
          let was = row_was k second there in
          ap is_some (other_place k second p (differs_from k second there) was (in_range second.base second.len p from until)) ∙ kept.sound.held k second was p from until;
      within = λ k second there. let w = kept.sound.within k second (row_was k second there) in let e = releases.end in omega arith;
      apart = λ k other one two differs there also. kept.sound.apart k other one two differs (row_was k one there) (row_was other two also);
      marks = λ k second there p past. ap (λ slot. mark_in slot p) (closed.others k (differs_from k second there)) ∙ kept.sound.marks k second (row_was k second there) p past;
    };
    ranges =
        let changed = changed_ranges h.table table key closed.others in
        let now : range_in (live table key) ≡ 0 = ap range_in closed.changed in
        let was : range_in (live h.table key) ≡ range_of row.len = range_of_row (live h.table key) row is in
        let before = kept.ranges in
        omega arith;
  }

  pub closed_object : (owner : Owner) (obj : Obj) → IsNamed h.table key owner obj → Puts (seen_of h) (seen_of (with_both h region table)) owner obj None
  closed_object owner obj named =
      puts (seen_of h) (seen_of (with_both h region table)) key owner obj None kept.sound.named once_still
      (λ other differs. ap row_in (closed.others other differs))
      (λ o a also. one_name h.table key owner o obj a named also)
      (λ o a also. absurd (not_here o a also))
      (λ other second differs there p inside. other_place other second p differs there inside)
      (no_object (seen_of (with_both h region table)) owner obj
      (λ k also.
      let there = live_row (λ r. (r.owner ≡ owner) × (r.obj ≡ obj)) (live table k) also in
      let apart = differs_from k there.0 there.1 in
      apart (kept.sound.named k key owner obj (named_by_row table h.table k k owner obj (ap row_in (closed.others k apart)) also) named)))

  pub closed_marks : KeepsMarks (seen_of h) (seen_of (with_both h region table))
  closed_marks = keeps_marks (seen_of h) (seen_of (with_both h region table)) key kept.sound.named once_still closed.others
      (λ p. free_is (mark_at h.table key p) (clear p)) (λ p. ap (λ slot. mark_in slot p) closed.changed)

  pub closed_copies : KeepsCopies (seen_of h) (seen_of (with_both h region table))
  closed_copies = keeps_copies (seen_of h) (seen_of (with_both h region table)) refl
      (λ p there never. (
        choose_no (is_in row.base row.len p) None (cell h.region.cells p) (cell region.cells p) (releases.cells p)
            (not_both (is_in row.base row.len p) (λ inside. never key (row_live (λ r. is_in_row r p ≡ true) (live h.table key) row is inside))),
        λ k also.
            let found = live_row (λ r. is_in_row r p ≡ true) (live table k) also in
            never k (row_live (λ r. is_in_row r p ≡ true) (live h.table k) found.0 (row_was k found.0 found.1) found.2),
      ))

  -- the region counts the row's range
  pub range_taken : 0 < row.len → 0 < h.region.ranges
  range_taken some =
      let among = range_among h.table key in
      let was : range_in (live h.table key) ≡ range_of row.len = range_of_row (live h.table key) row is in
      let one = one_range row.len some in
      let before = kept.ranges in
      omega arith
