-- Images of static variables, owner by owner and variable by variable.
use Rattle.std.proofs.Common.{◌≡◌, ℕ, zero, suc, ◌+◌, ◌<◌, ◌≤◌, true, List, [], ◌∷◌, ◌++◌, length, get_or, slice_get, slice_index, take, drop, set, replicate, Option, Some, None, is_some, refl, sym, ap, subst, ◌∙◌, inl, inr, ◌⊎◌, arith}
use Rattle.std.specs.List.{Contains}
use Rattle.std.proofs.lemmas.Grind.{common_steps}
use Rattle.std.proofs.lemmas.Bool.{cases_eq, false≢true}
use Rattle.std.proofs.lemmas.Option.{slice_get_within}
use Rattle.std.proofs.lemmas.List.{length-replicate}
use Rattle.std.proofs.lemmas.List.Elements.{All-nil, Contains-append_cases, Contains-append_left, Contains-append_right}
use Rattle.mpc_values.specs.declared.values.Word.{Word}
use Rattle.mpc_values.specs.declared.values.Obj.{Obj}
use Rattle.mpc_values.specs.declared.values.Obj.TheVariants.{Glob, Dyn}
use Rattle.mpc_values.specs.declared.owners.Owner.{Owner}
use Rattle.mpc_values.specs.declared.owners.Owner.TheVariants.{Task}
use Rattle.mpc_values.specs.declared.owners.StaticVar.{StaticVar}
use Rattle.memory_model.specs.Memory.{Object}
use Rattle.memory_model.specs.Access.{with_word}
use Rattle.block_table.specs.Rows.{Live, Rows, live, row_in, IsNamed}
use Rattle.block_table.specs.Index.{IsSame}
use Rattle.block_table.proofs.Names.{same_cases}
use Rattle.tls_levels.specs.Owners.{owner_level}
use Rattle.object_heap.specs.Layout.{Layout}
use Rattle.object_heap.specs.Objects.{object_in, object_at, object_by, object_where, key_named, words_from}
use Rattle.object_heap.specs.Marks.{KeepsMarks}
use Rattle.object_heap.specs.Copies.{IsCopy, AreCopies, KeepsCopies}
use Rattle.object_heap.specs.Changes.{Puts, Edits}
use Rattle.mem_space.specs.First.{HasFirst, first_object}
use Rattle.mem_space.specs.Kept.{IsCounted, AreCounted}

-- whose variable of a number stands already: those of owners before, and those of this one below a number
abbrev pub IsDone : List Owner → Owner → ℕ → Owner → ℕ → Type 0
IsDone before owner n other number = Contains before other ⊎ ((other ≡ owner) × (number < n))

-- The variables of the owners before stand, and of this one those below a number, and no other object lives.
pub record HasSome (globals : List StaticVar) (before : List Owner) (owner : Owner) (n : ℕ) (heap : Layout) : Type 0 where
  pub copies : (other : Owner) (number : ℕ) (var : StaticVar) → IsDone before owner n other number → slice_get globals number ≡ Some var → var.level ≡ owner_level other → object_in heap other (Glob number) ≡ Some (first_object var)
  pub only : (other : Owner) (obj : Obj) (object : Object) → object_in heap other obj ≡ Some object → (number : ℕ) × (var : StaticVar) × (obj ≡ Glob number) × IsDone before owner n other number × (slice_get globals number ≡ Some var) × (var.level ≡ owner_level other)

pub has_none : (globals : List StaticVar) (heap : Layout) → ((owner : Owner) (obj : Obj) → object_in heap owner obj ≡ None) → HasFirst globals [] heap
has_none globals heap none = record {
  copies = λ owner number var there got level. absurd (nobody owner there);
  only = λ owner obj object lives. absurd (none_some object (sym (none owner obj) ∙ lives));
}
  where
    nobody : (owner : Owner) → Contains [] owner → ⊥
    nobody owner there = let below = there.1 in omega arith

    none_some : (object : Object) → None ≡ Some object → ⊥
    none_some object e = cc

module _ (globals : List StaticVar) (before : List Owner) (owner : Owner) where
  pub some_begin : (heap : Layout) → HasFirst globals before heap → HasSome globals before owner 0 heap
  some_begin heap has = record {
    copies = λ other number var finished got level. begin other number var finished got level;
    only = λ other obj object lives. let it = has.only other obj object lives in (it.0, it.1, it.2, inl it.3, it.4, it.5);
  }
    where
      begin : (other : Owner) (number : ℕ) (var : StaticVar) → IsDone before owner 0 other number → slice_get globals number ≡ Some var → var.level ≡ owner_level other → object_in heap other (Glob number) ≡ Some (first_object var)
      begin other number var (inl there) got level = has.copies other number var there got level
      begin other number var (inr mine) got level = let low = mine.1 in absurd (omega arith)

  pub some_end : (heap : Layout) → HasSome globals before owner (length globals) heap → HasFirst globals (before ++ owner ∷ []) heap
  some_end heap has = record {
    copies = λ other number var there got level. has.copies other number var (finished other number var there got) got level;
    only = λ other obj object lives. let it = has.only other obj object lives in (it.0, it.1, it.2, listed other it.0 it.3, it.4, it.5);
  }
    where
      listed : (other : Owner) (number : ℕ) → IsDone before owner (length globals) other number → Contains (before ++ owner ∷ []) other
      listed other number (inl there) = Contains-append_left before (owner ∷ []) other there
      listed other number (inr mine) = subst (Contains (before ++ owner ∷ [])) (sym mine.0) (Contains-append_right before (owner ∷ []) owner (0, omega arith, refl))

      only_one : (other : Owner) → Contains (owner ∷ []) other → other ≡ owner
      only_one other (zero, below, is) = sym is
      only_one other (suc k, below, is) = absurd (omega arith)

      split : (list : List Owner) (other : Owner) → Contains (list ++ owner ∷ []) other → Contains list other ⊎ (other ≡ owner)
      split list other there = elim (Contains-append_cases list (owner ∷ []) other there) [
        | inl listed ↦ inl listed
        | inr mine ↦ inr (only_one other mine)
      ]

      finished : (other : Owner) (number : ℕ) (var : StaticVar) → Contains (before ++ owner ∷ []) other → slice_get globals number ≡ Some var → IsDone before owner (length globals) other number
      finished other number var there got = elim (split before other there) [
        | inl listed ↦ inl listed
        | inr mine ↦ inr (mine, slice_get_within globals number var got)
      ]

  -- one variable more that is not of the owner's level
  pub some_skip : (n : ℕ) (var : StaticVar) (heap : Layout) → slice_get globals n ≡ Some var → (var.level ≡ owner_level owner → ⊥) → HasSome globals before owner n heap → HasSome globals before owner (n + 1) heap
  some_skip n var heap here differs has = record {
    copies = λ other number v finished got level. has.copies other number v (earlier other number v finished got level) got level;
    only = λ other obj object lives. let it = has.only other obj object lives in (it.0, it.1, it.2, later other it.0 it.3, it.4, it.5);
  }
    where
      earlier : (other : Owner) (number : ℕ) (v : StaticVar) → IsDone before owner (n + 1) other number → slice_get globals number ≡ Some v → v.level ≡ owner_level other → IsDone before owner n other number
      earlier other number v (inl there) got level = inl there
      earlier other number v (inr mine) got level = elim (cases_eq number n) [
        | inl same ↦
            let one : Some v ≡ Some var = sym got ∙ (ap (λ i. slice_get globals i) same ∙ here) in let v_is : v ≡ var = cc in
            absurd (differs (ap (λ (x : StaticVar). x.level) (sym v_is) ∙ (level ∙ ap owner_level mine.0)))
        | inr other_one ↦ let low = mine.1 in inr (mine.0, omega arith)
      ]

      later : (other : Owner) (number : ℕ) → IsDone before owner n other number → IsDone before owner (n + 1) other number
      later other number (inl there) = inl there
      later other number (inr mine) = let low = mine.1 in inr (mine.0, omega arith)

  -- one variable more, which is added
  pub some_added : (n : ℕ) (var : StaticVar) (old new : Layout) → slice_get globals n ≡ Some var → var.level ≡ owner_level owner → Puts old new owner (Glob n) (Some (first_object var))
      → HasSome globals before owner n old → HasSome globals before owner (n + 1) new
  some_added n var old new here at puts has = record {
    copies = λ other number v finished got level. elim (same_cases other (Glob number) owner (Glob n)) [
      | inl same ↦
          let number_is : number ≡ n = cc in
          let one : Some v ≡ Some var = sym got ∙ (ap (λ i. slice_get globals i) number_is ∙ here) in let v_is : v ≡ var = cc in
          ap (λ o. object_in new o (Glob number)) same.0 ∙ (ap (λ i. object_in new owner (Glob i)) number_is ∙ (puts.here ∙ ap (λ x. Some (first_object x)) (sym v_is)))
      | inr differs ↦ puts.others other (Glob number) differs ∙ has.copies other number v (earlier other number differs finished) got level
    ];
    only = λ other obj object lives. elim (same_cases other obj owner (Glob n)) [
      | inl same ↦ (n, var, same.1, inr (same.0, omega arith), here, at ∙ ap owner_level (sym same.0))
      | inr differs ↦ let it = has.only other obj object (sym (puts.others other obj differs) ∙ lives) in (it.0, it.1, it.2, later other it.0 it.3, it.4, it.5)
    ];
  }
    where
      earlier : (other : Owner) (number : ℕ) → (IsSame other (Glob number) owner (Glob n) → ⊥) → IsDone before owner (n + 1) other number → IsDone before owner n other number
      earlier other number differs (inl there) = inl there
      earlier other number differs (inr mine) = elim (cases_eq number n) [
        | inl same ↦ absurd (differs (mine.0, ap Glob same))
        | inr other_one ↦ let low = mine.1 in inr (mine.0, omega arith)
      ]

      later : (other : Owner) (number : ℕ) → IsDone before owner n other number → IsDone before owner (n + 1) other number
      later other number (inl there) = inl there
      later other number (inr mine) = let low = mine.1 in inr (mine.0, omega arith)

  -- one variable more, of which the owner, which stands twice in the list, has a copy
  pub some_there : (n : ℕ) (var : StaticVar) (heap : Layout) → slice_get globals n ≡ Some var → var.level ≡ owner_level owner → (object : Object) → object_in heap owner (Glob n) ≡ Some object
      → HasSome globals before owner n heap → HasSome globals before owner (n + 1) heap
  some_there n var heap here at object lives has = record {
    copies = λ other number v finished got level. has.copies other number v (earlier other number finished) got level;
    only = λ other obj o is. let it = has.only other obj o is in (it.0, it.1, it.2, later other it.0 it.3, it.4, it.5);
  }
    where
      there : IsDone before owner n owner n
      there = let it = has.only owner (Glob n) object lives in let number_is : n ≡ it.0 = let e = it.2 in cc in subst (λ i. IsDone before owner n owner i) (sym number_is) it.3

      earlier : (other : Owner) (number : ℕ) → IsDone before owner (n + 1) other number → IsDone before owner n other number
      earlier other number (inl listed) = inl listed
      earlier other number (inr mine) = elim (cases_eq number n) [
        | inl same ↦ subst (λ i. IsDone before owner n other i) (sym same) (subst (λ o. IsDone before owner n o n) (sym mine.0) there)
        | inr other_one ↦ let low = mine.1 in inr (mine.0, omega arith)
      ]

      later : (other : Owner) (number : ℕ) → IsDone before owner n other number → IsDone before owner (n + 1) other number
      later other number (inl listed) = inl listed
      later other number (inr mine) = let low = mine.1 in inr (mine.0, omega arith)

-- frames one behind the other
pub marks_then : (a b c : Layout) → KeepsMarks a b → KeepsMarks b c → KeepsMarks a c
marks_then a b c first second owner obj p = second owner obj p ∙ first owner obj p

pub copies_then : (a b c : Layout) → KeepsCopies a b → KeepsCopies b c → KeepsCopies a c
copies_then a b c first second = record {
  kept = λ all are. second.kept all (first.kept all are);
  words = λ all are k d within. second.words all (first.kept all are) k d within ∙ first.words all are k d within;
}

pub puts_then : (a b c : Layout) (owner : Owner) (obj : Obj) (was : Option Object) (now : Option Object) → Puts a b owner obj was → Puts b c owner obj now → Puts a c owner obj now
puts_then a b c owner obj was now first second = record {
  here = second.here;
  others = λ other another differs. second.others other another differs ∙ first.others other another differs;
}

-- words of a list over those of another, one place more
pub over_one : (ws os : List Word) (i : ℕ) (w : Word) → i < length ws → i < length os → get_or ws i w ≡ w → set (take i ws ++ drop i os) i w ≡ take (suc i) ws ++ drop (suc i) os
over_one [] os i w low also is = absurd (omega arith)
over_one (a ∷ ws) [] i w low also is = absurd (omega arith)
over_one (a ∷ ws) (b ∷ os) zero w low also is = ap (λ x. x ∷ os) (sym is)
over_one (a ∷ ws) (b ∷ os) (suc i) w low also is = ap (λ l. a ∷ l) (over_one ws os i w (omega arith) (omega arith) is)

-- one word more of an object is written
pub fill_step : (start now new : Layout) (key at place : ℕ) (ws : List Word) (w : Word) (owner : Owner) (obj : Obj) (object : Object) → IsNamed start.rows key owner obj → now.rows ≡ start.rows
    → Puts start now owner obj (Some (record { kind = object.kind; words = take at ws ++ drop at object.words })) → length object.words ≡ length ws → at < length ws → place ≡ at
    → Edits now new key (λ o. with_word o place w) → get_or ws at w ≡ w → Puts start new owner obj (Some (record { kind = object.kind; words = take (at + 1) ws ++ drop (at + 1) object.words }))
fill_step start now new key at place ws w owner obj object named rows puts long low same_place edits is =
    let over : Object = record { kind = object.kind; words = take at ws ++ drop at object.words } in
    let edit = edits.object owner obj over (subst (λ (r : Rows). IsNamed r key owner obj) (sym rows) named) puts.here in
    let words : set (take at ws ++ drop at object.words) place w ≡ take (at + 1) ws ++ drop (at + 1) object.words =
    ap (λ n. set (take at ws ++ drop at object.words) n w) same_place
    ∙ (over_one ws object.words at w low (omega arith) is ∙ ap (λ n. take n ws ++ drop n object.words) (let f : suc at ≡ at + 1 = omega arith in f)) in
    record {
      here = edit.here ∙ ap (λ l. Some (record { kind = object.kind; words = l })) words;
      others = λ other another differs. edit.others other another differs ∙ puts.others other another differs;
    }

-- all words of an object are written
pub fill_end : (start now : Layout) (n : ℕ) (ws : List Word) (owner : Owner) (obj : Obj) (object : Object) → length ws ≤ n
    → Puts start now owner obj (Some (record { kind = object.kind; words = take n ws ++ drop n object.words })) → length object.words ≡ length ws
    → Puts start now owner obj (Some (record { kind = object.kind; words = ws }))
fill_end start now n ws owner obj object past puts long =
    let words : take n ws ++ drop n object.words ≡ ws = grind (arith, common_steps) in
    record {
      here = puts.here ∙ ap (λ l. Some (record { kind = object.kind; words = l })) words;
      others = puts.others;
    }

-- no word of an object is written
pub fill_begin : (start : Layout) (ws : List Word) (owner : Owner) (obj : Obj) (object : Object) → object_in start owner obj ≡ Some object
    → Puts start start owner obj (Some (record { kind = object.kind; words = take 0 ws ++ drop 0 object.words }))
fill_begin start ws owner obj object lives = record { here = lives; others = λ other another differs. refl }

some_lives : (h : Layout) (slot : Option Live) (key : ℕ) → live h.rows key ≡ slot → is_some slot ≡ true → object_at h key ≡ None → ⊥
some_lives h None key is there none = false≢true there
some_lives h (Some l) key is there none = none_some (record { kind = l.row.kind; words = words_from h.cells l.row.base l.row.len }) (sym none ∙ ap (λ o. object_by h.cells (row_in o)) is)
  where
    none_some : (object : Object) → None ≡ Some object → ⊥
    none_some object e = cc

-- an object that is found lives
pub found_lives : (h : Layout) (owner : Owner) (obj : Obj) (key : ℕ) → key_named h.rows owner obj ≡ Some key → is_some (live h.rows key) ≡ true → object_in h owner obj ≡ None → ⊥
found_lives h owner obj key named there none = some_lives h (live h.rows key) key refl there (sym (ap (object_where h) named) ∙ none)

-- one variable more of the owner's level, which is added where the owner has no copy yet
pub variable_added : (globals : List StaticVar) (before : List Owner) (owner : Owner) (n : ℕ) (var : StaticVar) (old new : Layout) → slice_get globals n ≡ Some var → var.level ≡ owner_level owner
    → (object_in old owner (Glob n) ≡ None → Puts old new owner (Glob n) (Some (first_object var))) → (is_some (object_in old owner (Glob n)) ≡ true → new ≡ old)
    → HasSome globals before owner n old → HasSome globals before owner (n + 1) new
variable_added globals before owner n var old new here at absent present has = by (object_in old owner (Glob n)) refl
  where
    by : (o : Option Object) → object_in old owner (Glob n) ≡ o → HasSome globals before owner (n + 1) new
    by None none = some_added globals before owner n var old new here at (absent none) has
    by (Some object) lives =
        subst (HasSome globals before owner (n + 1)) (sym (present (ap is_some lives))) (some_there globals before owner n var old here at object lives has)

no_made : (globals : List StaticVar) (owners : List Owner) (heap : Layout) (task number : ℕ) → HasFirst globals owners heap → object_in heap (Task task) (Dyn number) ≡ None
no_made globals owners heap task number has = by (object_in heap (Task task) (Dyn number)) refl
  where
    by : (o : Option Object) → object_in heap (Task task) (Dyn number) ≡ o → object_in heap (Task task) (Dyn number) ≡ None
    by None is = is
    by (Some object) is = let it = has.only (Task task) (Dyn number) object is in let e = it.2 in absurd (cc)

-- no task has made an object at the start
pub first_counted : (globals : List StaticVar) (owners : List Owner) (heap : Layout) (quota tasks : ℕ) (made used : List ℕ) → HasFirst globals owners heap → made ≡ replicate tasks 0 → used ≡ replicate tasks 0
    → AreCounted heap quota tasks made used
first_counted globals owners heap quota tasks made used has made_is used_is = record {
  all_made = ap length made_is ∙ length-replicate tasks 0;
  all_used = ap length used_is ∙ length-replicate tasks 0;
  each = λ task below.
      let m : get_or made task 0 ≡ 0 = ap (λ l. get_or l task 0) made_is ∙ get_or-replicate_default tasks task in
      let u : get_or used task 0 ≡ 0 = ap (λ l. get_or l task 0) used_is ∙ get_or-replicate_default tasks task in
      subst (λ n. IsCounted heap quota task n (get_or used task 0)) (sym m) (subst (λ n. IsCounted heap quota task 0 n) (sym u) (record {
        first = no_made globals owners heap task 0 has;
        later = λ number past. no_made globals owners heap task number has;
        words = refl;
        within = omega arith;
      }));
}
  where
    get_or-replicate_default : (n k : ℕ) → slice_index (replicate n 0) k ≡ 0
    get_or-replicate_default zero k = refl
    get_or-replicate_default (suc n) zero = refl
    get_or-replicate_default (suc n) (suc k) = get_or-replicate_default n k

-- a new heap has no copies
pub no_copies : (h : Layout) → h.copies ≡ 0 → AreCopies h []
no_copies h none = record { count = sym none; each = All-nil (IsCopy h); apart = tt }
