-- What a change of the slots of a table leaves.
use Rattle.std.proofs.Common.{◌≡◌, ◌≢◌, ℕ, zero, suc, ◌+◌, ◌<◌, ◌≤◌, true, false, cond, List, [], ◌∷◌, length, map, get_or, set, replicate, Option, Some, None, is_some, IsSomeAnd, vec_capacity, refl, sym, ap, subst, ◌∙◌, inl, inr, ◌⊎◌, arith}
use Rattle.std.specs.Option.{option_map}
use Rattle.std.proofs.lemmas.Bool.{cases_eq, cases_lt, false≢true}
use Rattle.std.proofs.lemmas.List.{get_or_past, get_or-set_same, get_or-set_other, length-replicate}
use Rattle.std.proofs.lemmas.Bool.Decides.{nat_tests}
use Rattle.mpc_values.specs.declared.values.Obj.{Obj}
use Rattle.mpc_values.specs.declared.values.Obj.TheVariants.{Glob, Dyn}
use Rattle.mpc_values.specs.declared.owners.Owner.{Owner}
use Rattle.slab.specs.Slab.{get, with_value, entries_from}
use Rattle.block_table.specs.declared.rows.Row.{Row}
use Rattle.block_table.specs.declared.rows.Mark.{Mark}
use Rattle.block_table.specs.declared.rows.Mark.TheVariants.{Free}
use Rattle.block_table.specs.declared.entries.Entry.{Entry}
use Rattle.block_table.specs.Rows.{Live, Rows, live, IsNamed, IsNoName, Changes, Marks, row_in, rows_of, mark_in, mark_at, is_in}
use Rattle.block_table.specs.Index.{Lines, indexed, HasPlace, IsSame, SetsKey}
use Rattle.block_table.specs.Places.{Grid, key_at, IsThere}
use Rattle.block_table.specs.Entries.{live_of, marks_of, marks_shown, IsRoomy, Remarked}
use Rattle.block_table.specs.Kept.{rows_seen, Agrees, IsKept}
use Rattle.block_table.specs.declared.table.Table.TheInside.{Inside}
use Rattle.block_table.proofs.Names.{same_cases}

-- the row of a key, by its slot
pub seen_at : (slots : List (Option Entry)) (key : ℕ) → live (rows_seen slots) key ≡ option_map live_of (get_or slots key None)
seen_at [] key = refl
seen_at (slot ∷ slots) zero = refl
seen_at (slot ∷ slots) (suc key) = seen_at slots key

pub seen_some : (slots : List (Option Entry)) (key : ℕ) (e : Entry) → get_or slots key None ≡ Some e → live (rows_seen slots) key ≡ Some (live_of e)
seen_some slots key e is = seen_at slots key ∙ ap (option_map live_of) is

entry_in : (o : Option Entry) → is_some (option_map live_of o) ≡ true → (e : Entry) × (o ≡ Some e)
entry_in None there = absurd (false≢true there)
entry_in (Some e) there = (e, refl)

-- a live key has an entry
pub seen_entry : (slots : List (Option Entry)) (key : ℕ) → is_some (live (rows_seen slots) key) ≡ true → (e : Entry) × (get_or slots key None ≡ Some e)
seen_entry slots key there = entry_in (get_or slots key None) (ap is_some (sym (seen_at slots key)) ∙ there)

named_in : (o o' : Option Live) (owner : Owner) (obj : Obj) → row_in o ≡ row_in o' → IsSomeAnd o (λ l. (l.row.owner ≡ owner) × (l.row.obj ≡ obj))
    → IsSomeAnd o' (λ l. (l.row.owner ≡ owner) × (l.row.obj ≡ obj))
named_in None o' owner obj same named = absurd named
named_in (Some l) None owner obj same named = absurd (cc)
named_in (Some l) (Some l') owner obj same named =
    let rows : l.row ≡ l'.row = cc in
    (ap (λ (r : Row). r.owner) (sym rows) ∙ named.0, ap (λ (r : Row). r.obj) (sym rows) ∙ named.1)

-- names are those of the rows
pub named_same : (rows rows' : Rows) (key : ℕ) (owner : Owner) (obj : Obj) → row_in (live rows key) ≡ row_in (live rows' key) → IsNamed rows key owner obj → IsNamed rows' key owner obj
named_same rows rows' key owner obj same named = named_in (live rows key) (live rows' key) owner obj same named

pub agrees_same : (slots slots' : List (Option Entry)) (index : Lines) → ((key : ℕ) → row_in (live (rows_seen slots) key) ≡ row_in (live (rows_seen slots') key)) → Agrees slots index → Agrees slots' index
agrees_same slots slots' index same agrees = record {
  finds = λ key owner obj named. agrees.finds key owner obj (named_same (rows_seen slots') (rows_seen slots) key owner obj (sym (same key)) named);
  names = λ key owner obj found. named_same (rows_seen slots) (rows_seen slots') key owner obj (same key) (agrees.names key owner obj found);
}

pub agrees_index : (slots : List (Option Entry)) (index index' : Lines) → ((owner : Owner) (obj : Obj) → indexed index' owner obj ≡ indexed index owner obj) → Agrees slots index → Agrees slots index'
agrees_index slots index index' same agrees = record {
  finds = λ key owner obj named. same owner obj ∙ agrees.finds key owner obj named;
  names = λ key owner obj found. agrees.names key owner obj (sym (same owner obj) ∙ found);
}

-- the changes of slots, seen as changes of rows
pub changes : (old new : List (Option Entry)) (key : ℕ) (slot : Option Entry) → get_or new key None ≡ slot → ((other : ℕ) → other ≢ key → get_or new other None ≡ get_or old other None)
    → Changes (rows_seen old) (rows_seen new) key (option_map live_of slot)
changes old new key slot here others = record {
  changed = seen_at new key ∙ ap (option_map live_of) here;
  others = λ other differs. seen_at new other ∙ (ap (option_map live_of) (others other differs) ∙ sym (seen_at old other));
}

named_here : (rows : Rows) (key : ℕ) (l : Live) (owner : Owner) (obj : Obj) → live rows key ≡ Some l → IsNamed rows key owner obj → IsSame owner obj l.row.owner l.row.obj
named_here rows key l owner obj is named =
    let there : IsSomeAnd (Some l) (λ (l : Live). (l.row.owner ≡ owner) × (l.row.obj ≡ obj)) = subst (λ o. IsSomeAnd o (λ (l : Live). (l.row.owner ≡ owner) × (l.row.obj ≡ obj))) is named in
    (sym there.0, sym there.1)

pub names_here : (rows : Rows) (key : ℕ) (l : Live) (owner : Owner) (obj : Obj) → live rows key ≡ Some l → IsSame owner obj l.row.owner l.row.obj → IsNamed rows key owner obj
names_here rows key l owner obj is same =
    subst (λ o. IsSomeAnd o (λ (l : Live). (l.row.owner ≡ owner) × (l.row.obj ≡ obj))) (sym is) (sym same.0, sym same.1)

some_inj : (a b : ℕ) → Some a ≡ Some b → a ≡ b
some_inj a b e = cc

no_entry : (e : Entry) → ◌≡◌ {A = Option Entry} None (Some e) → ⊥
no_entry e is = cc

none_some : (a : ℕ) → ◌≡◌ {A = Option ℕ} None (Some a) → ⊥
none_some a e = cc

named_not_none : (rows : Rows) (key : ℕ) (owner : Owner) (obj : Obj) → live rows key ≡ None → IsNamed rows key owner obj → ⊥
named_not_none rows key owner obj is named = subst (λ o. IsSomeAnd o (λ (l : Live). (l.row.owner ≡ owner) × (l.row.obj ≡ obj))) is named

-- a row more, under a key that was vacant
pub agrees_added : (old new : List (Option Entry)) (index index' : Lines) (key : ℕ) (e : Entry) → Agrees old index → live (rows_seen old) key ≡ None
    → Changes (rows_seen old) (rows_seen new) key (Some (live_of e)) → IsNoName (rows_seen old) e.row.owner e.row.obj → SetsKey index index' e.row.owner e.row.obj (Some key) → Agrees new index'
agrees_added old new index index' key e agrees vacant changes fresh sets = record {
  finds = λ other owner obj named. elim (cases_eq other key) [
    | inl same ↦
        let it = named_here (rows_seen new) key (live_of e) owner obj changes.changed (subst (λ n. IsNamed (rows_seen new) n owner obj) same named) in
        subst (λ o. indexed index' o obj ≡ Some other) (sym it.0) (subst (λ b. indexed index' e.row.owner b ≡ Some other) (sym it.1) (sets.here ∙ ap Some (sym same)))
    | inr differs ↦
        let was : IsNamed (rows_seen old) other owner obj = named_same (rows_seen new) (rows_seen old) other owner obj (ap row_in (changes.others other differs)) named in
        sets.others owner obj (λ it. fresh other (subst (λ o. IsNamed (rows_seen old) other o e.row.obj) it.0 (subst (λ b. IsNamed (rows_seen old) other owner b) it.1 was)))
        ∙ agrees.finds other owner obj was
  ];
  names = λ other owner obj found. elim (same_cases owner obj e.row.owner e.row.obj) [
    | inl it ↦
        let is : other ≡ key = some_inj other key (sym found ∙ (ap (λ o. indexed index' o obj) it.0 ∙ (ap (λ b. indexed index' e.row.owner b) it.1 ∙ sets.here))) in
        subst (λ n. IsNamed (rows_seen new) n owner obj) (sym is) (names_here (rows_seen new) key (live_of e) owner obj changes.changed it)
    | inr other_one ↦
        let was : IsNamed (rows_seen old) other owner obj = agrees.names other owner obj (sym (sets.others owner obj other_one) ∙ found) in
        let differs : other ≢ key = λ same. named_not_none (rows_seen old) key owner obj vacant (subst (λ n. IsNamed (rows_seen old) n owner obj) same was) in
        named_same (rows_seen old) (rows_seen new) other owner obj (ap row_in (sym (changes.others other differs))) was
  ];
}

-- a row less
pub agrees_closed : (old new : List (Option Entry)) (index index' : Lines) (key : ℕ) (e : Entry) → Agrees old index → live (rows_seen old) key ≡ Some (live_of e)
    → Changes (rows_seen old) (rows_seen new) key None → SetsKey index index' e.row.owner e.row.obj None → Agrees new index'
agrees_closed old new index index' key e agrees was changes sets = record {
  finds = λ other owner obj named. elim (cases_eq other key) [
    | inl same ↦ absurd (named_not_none (rows_seen new) key owner obj changes.changed (subst (λ n. IsNamed (rows_seen new) n owner obj) same named))
    | inr differs ↦
        let before : IsNamed (rows_seen old) other owner obj = named_same (rows_seen new) (rows_seen old) other owner obj (ap row_in (changes.others other differs)) named in
        sets.others owner obj (λ it. differs (some_inj other key
        (sym (agrees.finds other owner obj before) ∙ agrees.finds key owner obj (names_here (rows_seen old) key (live_of e) owner obj was it))))
        ∙ agrees.finds other owner obj before
  ];
  names = λ other owner obj found. elim (same_cases owner obj e.row.owner e.row.obj) [
    | inl it ↦ absurd (none_some other (sym sets.here ∙ (ap (λ b. indexed index' e.row.owner b) (sym it.1) ∙ (ap (λ o. indexed index' o obj) (sym it.0) ∙ found))))
    | inr other_one ↦
        let before : IsNamed (rows_seen old) other owner obj = agrees.names other owner obj (sym (sets.others owner obj other_one) ∙ found) in
        let differs : other ≢ key = λ same. other_one (named_here (rows_seen old) key (live_of e) owner obj was (subst (λ n. IsNamed (rows_seen old) n owner obj) same before)) in
        named_same (rows_seen old) (rows_seen new) other owner obj (ap row_in (sym (changes.others other differs))) before
  ];
}

key_there : (grid : Grid) (line place key : ℕ) → key_at grid line place ≡ Some key → IsThere grid line place
key_there grid line place key found = elim (cases_lt place (length (get_or grid line []))) [
  | inl within ↦ within
  | inr past ↦ absurd (none_some key (sym (get_or_past (get_or grid line []) place None past) ∙ found))
]

-- an object with a key has a place in the index
pub has_place : (lines : Lines) (owner : Owner) (obj : Obj) (key : ℕ) → indexed lines owner obj ≡ Some key → HasPlace lines owner obj
unfolding indexed
has_place lines owner (Glob variable) key found = key_there lines.globs _ variable key found
has_place lines owner (Dyn made) key found = key_there lines.dyns _ made key found

shown_length : (len : ℕ) (marks : List Mark) → (length marks ≡ 0) ⊎ (length marks ≡ len) → length (marks_shown len marks) ≡ len
shown_length len [] all = length-replicate len Free
shown_length len (m ∷ marks) (inl none) = absurd (omega arith)
shown_length len (m ∷ marks) (inr all) = all

pub some_entry : (a b : Entry) → Some a ≡ Some b → a ≡ b
some_entry a b e = cc

slot_there : (slots : List (Option Entry)) (key : ℕ) (e : Entry) → get_or slots key None ≡ Some e → key < length slots
slot_there slots key e is = elim (cases_lt key (length slots)) [
  | inl within ↦ within
  | inr past ↦ absurd (no_entry e (sym (get_or_past slots key None past) ∙ is))
]

length_shown : (e : Entry) → IsRoomy e → length (marks_of e) ≡ e.row.len
length_shown e roomy = shown_length e.row.len e.marks.items roomy.all

-- the marks of a row, changed in its entry
pub marked : (slots : List (Option Entry)) (key : ℕ) (e e' : Entry) (at len : ℕ) (change : Mark → Mark) → get_or slots key None ≡ Some e → IsRoomy e → at + len ≤ e.row.len
    → Remarked e e' at len change → Marks (rows_seen slots) (rows_seen (set slots key (Some e'))) key at len change
marked slots key e e' at len change is roomy within remarked =
    let old : live (rows_seen slots) key ≡ Some (live_of e) = seen_some slots key e is in
    let new : live (rows_seen (set slots key (Some e'))) key ≡ Some (live_of e') = seen_some (set slots key (Some e')) key e' (get_or-set_same slots key (Some e') None (slot_there slots key e is)) in
    record {
      marks = λ p.
          let now : mark_at (rows_seen (set slots key (Some e'))) key p ≡ get_or (marks_of e') p Free = ap (λ o. mark_in o p) new in
          let was : mark_at (rows_seen slots) key p ≡ get_or (marks_of e) p Free = ap (λ o. mark_in o p) old in
          now ∙ (elim (cases_lt p e.row.len) [
            | inl inside ↦ remarked.marks p inside
            | inr past ↦ get_or_past (marks_of e') p Free (let n = remarked.end in omega arith)
                ∙ (sym (get_or_past (marks_of e) p Free (let n = length_shown e roomy in omega arith))
                ∙ ap (λ b. cond b (change (get_or (marks_of e) p Free)) (get_or (marks_of e) p Free)) (let f : false ≡ is_in at len p = grind (arith, nat_tests) in f))
          ] ∙ ap (λ m. cond (is_in at len p) (change m) m) (sym was));
      row = ap row_in new ∙ (ap Some remarked.row ∙ sym (ap row_in old));
      others = λ other differs. seen_at (set slots key (Some e')) other ∙ (ap (option_map live_of) (get_or-set_other slots key other (Some e') None differs) ∙ sym (seen_at slots other));
    }

-- a table whose marks were changed keeps its index
pub kept_marked : (t : Inside) (key : ℕ) (e e' : Entry) (at len : ℕ) (change : Mark → Mark) → IsKept t → get t.rows key ≡ Some e → Remarked e e' at len change
    → IsKept (record t { rows = with_value t.rows key e' })
kept_marked t key e e' at len change kept is remarked = record {
  agrees = agrees_same t.rows.slots (set t.rows.slots key (Some e')) t.index
      (λ other. elim (cases_eq other key) [
        | inl same ↦ subst (λ n. row_in (live (rows_seen t.rows.slots) n) ≡ row_in (live (rows_seen (set t.rows.slots key (Some e'))) n)) (sym same)
            (ap row_in (seen_some t.rows.slots key e is) ∙ (ap Some (sym remarked.row)
            ∙ sym (ap row_in (seen_some (set t.rows.slots key (Some e')) key e' (get_or-set_same t.rows.slots key (Some e') None (slot_there t.rows.slots key e is))))))
        | inr differs ↦ ap row_in (seen_at t.rows.slots other ∙ (ap (option_map live_of) (sym (get_or-set_other t.rows.slots key other (Some e') None differs)) ∙ sym (seen_at (set t.rows.slots key (Some e')) other)))
      ])
      kept.agrees;
  roomy = λ other e'' found. elim (cases_eq other key) [
    | inl same ↦
        let it : e' ≡ e'' = some_entry e' e'' (sym (get_or-set_same t.rows.slots key (Some e') None (slot_there t.rows.slots key e is)) ∙ (ap (λ n. get_or (set t.rows.slots key (Some e')) n None) (sym same) ∙ found)) in
        subst IsRoomy it remarked.roomy
    | inr differs ↦ kept.roomy other e'' (sym (get_or-set_other t.rows.slots key other (Some e') None differs) ∙ found)
  ];
}

no_key : (owner : Owner) (obj : Obj) → indexed (record { globs = []; dyns = [] }) owner obj ≡ None
unfolding indexed
no_key owner (Glob variable) = refl
no_key owner (Dyn made) = refl

-- a table without rows
pub agrees_empty : Agrees [] (record { globs = []; dyns = [] })
agrees_empty = record {
  finds = λ key owner obj named. absurd (named_not_none (rows_seen []) key owner obj refl named);
  names = λ key owner obj found. absurd (none_some key (sym (no_key owner obj) ∙ found));
}

pub roomy_empty : (slots : List (Option Entry)) → slots ≡ [] → (key : ℕ) (e : Entry) → get_or slots key None ≡ Some e → IsRoomy e
roomy_empty slots none key e found = absurd (no_entry e (ap (λ s. get_or s key None) (sym none) ∙ found))

-- an entry whose marks are not written down
pub roomy_new : (e : Entry) → e.marks.items ≡ [] → e.row.len ≤ vec_capacity e.marks → IsRoomy e
roomy_new e none room = record { all = inl (ap length none); room = room }

pub shown_new : (e : Entry) → e.marks.items ≡ [] → Some (live_of e) ≡ Some (record { row = e.row; marks = replicate e.row.len Free })
shown_new e none = ap (λ items. Some (record { row = e.row; marks = marks_shown e.row.len items })) none

-- the entry of one key is another, and those of the others are as they were
pub roomy_set : (old new : List (Option Entry)) (key : ℕ) (slot : Option Entry) → ((k : ℕ) (e : Entry) → get_or old k None ≡ Some e → IsRoomy e) → get_or new key None ≡ slot
    → ((other : ℕ) → other ≢ key → get_or new other None ≡ get_or old other None) → ((e : Entry) → slot ≡ Some e → IsRoomy e) → (k : ℕ) (e : Entry) → get_or new k None ≡ Some e → IsRoomy e
roomy_set old new key slot roomy here others fits k e found = elim (cases_eq k key) [
  | inl same ↦ fits e (sym here ∙ (ap (λ n. get_or new n None) (sym same) ∙ found))
  | inr differs ↦ roomy k e (sym (others k differs) ∙ found)
]

-- the rows of the entries
pub rows_listed : (slots : List (Option Entry)) (key : ℕ) → map (λ (e : ℕ × Entry). e.1.row) (entries_from key slots) ≡ rows_of (rows_seen slots)
rows_listed [] key = refl
rows_listed (None ∷ slots) key = rows_listed slots (key + 1)
rows_listed (Some e ∷ slots) key = ap (λ rows. e.row ∷ rows) (rows_listed slots (key + 1))
