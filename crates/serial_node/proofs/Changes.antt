-- What a change of an object in its list does to the memory.
use Rattle.std.proofs.Common.{◌≡◌, ℕ, zero, suc, ◌+◌, ◌-◌, ◌<◌, ◌==◌, Bool, true, false, cond, List, [], ◌∷◌, ◌++◌, length, slice_get, slice_set, Option, Some, None, MatchOption, inl, inr, refl, sym, ap, ◌∙◌, arith, length-append}
use Rattle.std.proofs.lemmas.Option.{slice_get_cases}
use Rattle.std.proofs.lemmas.List.{length-set}
use Rattle.mpc_values.specs.declared.values.Obj.TheVariants.{Glob, Dyn}
use Rattle.mpc_values.specs.declared.owners.Owner.TheVariants.{Task}
use Rattle.serial_memory.specs.Memory.{Object, object_of, with_object, without}
use Rattle.serial_memory.specs.Access.{Objects, length_of}
use Rattle.serial_memory.proofs.Memories.{remove-absent}
use Rattle.serial_node.specs.Slots.{joined, slot_at}
use Rattle.serial_node.specs.Placed.{memory_of, held_words}
use Rattle.serial_node.proofs.Placed.{positive, variable_at, dyn_at, variable_set, made_set, made_ended, made_more, held-set, held-append}

-- where an object of a number lives in its list
record Lives (made : List (Option Object)) (number : ℕ) (object : Object) : Type 0 where
  place : ℕ
  is : number ≡ place + 1
  before : number - 1 ≡ place
  within : place < length made
  here : joined (slice_get made place) ≡ Some object

in_list : (made : List (Option Object)) (place : ℕ) (object : Object) → joined (slice_get made place) ≡ Some object → place < length made
in_list made place object here =
    elim (slice_get_cases made place).1 [
      | inl (slot, within, there, at) ↦ within
      | inr (past, none) ↦ let no : joined (slice_get made place) ≡ None = ap joined none in absurd (cc)
    ]

slot_at-suc : (made : List (Option Object)) (place : ℕ) → slot_at made (suc place) ≡ joined (slice_get made place)
slot_at-suc made place =
    let less : suc place - 1 ≡ place = omega arith in
    ap (λ b. cond b None (joined (slice_get made (suc place - 1)))) (positive place) ∙ ap (λ n. joined (slice_get made n)) less

lives : (made : List (Option Object)) (number : ℕ) (object : Object) → slot_at made number ≡ Some object → Lives made number object
lives made zero object is = absurd (cc is)
lives made (suc place) object is =
    let here : joined (slice_get made place) ≡ Some object = sym (slot_at-suc made place) ∙ is in
    record { place = place; is = omega arith; before = omega arith; within = in_list made place object here; here = here }

abbrev pub objects : List Object → List (Option Object) → ℕ → Objects
objects variables made n = record { memory = memory_of variables made; made = n }

module _ (variables : List Object) (made : List (Option Object)) (change : Object → Object) (number : ℕ) where
  pub variable_changed : (new : List Object) → MatchOption (slice_get variables number) (new ≡ variables) (λ object. new ≡ slice_set variables number (change object))
      → MatchOption (object_of (memory_of variables made) (Task 0) (Glob number)) (objects new made (length made) ≡ objects variables made (length made))
      (λ object. objects new made (length made) ≡ record { memory = with_object (memory_of variables made) (Task 0) (Glob number) (change object); made = length made })
  variable_changed new done =
      rw (variable_at variables made number) (elim (slice_get_cases variables number).1 [
        | inl (object, within, there, at) ↦ let done' = rw there at done in rw there (rw (variable_set variables made number (change object) within, done') refl)
        | inr (past, none) ↦ let done' = rw none at done in rw none (ap (λ vs. objects vs made (length made)) done')
      ])

  pub made_changed : (new : List (Option Object)) → MatchOption (slot_at made number) (new ≡ made) (λ object. new ≡ slice_set made (number - 1) (Some (change object)))
      → MatchOption (object_of (memory_of variables made) (Task 0) (Dyn number)) (objects variables new (length new) ≡ objects variables made (length made))
      (λ object. objects variables new (length new) ≡ record { memory = with_object (memory_of variables made) (Task 0) (Dyn number) (change object); made = length made })
  made_changed new done =
      rw (dyn_at variables made number) (elim (slot_at made number) as (λ slot. slot_at made number ≡ slot
      → MatchOption slot (new ≡ made) (λ object. new ≡ slice_set made (number - 1) (Some (change object)))
      → MatchOption slot (objects variables new (length new) ≡ objects variables made (length made))
      (λ object. objects variables new (length new) ≡ record { memory = with_object (memory_of variables made) (Task 0) (Dyn number) (change object); made = length made })) [
        | None ↦ λ is done. ap (λ m. objects variables m (length m)) done
        | Some object ↦ λ is done.
            let at = lives made number object is in
            let new_is : new ≡ slice_set made at.place (Some (change object)) = done ∙ ap (λ n. slice_set made n (Some (change object))) at.before in
            let long : length new ≡ length made = ap length new_is ∙ simp length-set in
            rw (at.is, made_set variables made at.place (change object) at.within, long) (ap (λ m. objects variables m (length made)) new_is)
      ] refl done)

  -- an object that keeps its length leaves the live words as they were
  pub held_changed : (new : List (Option Object)) → ((object : Object) → length (change object).words ≡ length object.words)
      → MatchOption (slot_at made number) (new ≡ made) (λ object. new ≡ slice_set made (number - 1) (Some (change object))) → held_words made ≡ held_words new
  held_changed new keeps done =
      elim (slot_at made number) as (λ slot. slot_at made number ≡ slot
      → MatchOption slot (new ≡ made) (λ object. new ≡ slice_set made (number - 1) (Some (change object))) → held_words made ≡ held_words new) [
        | None ↦ λ is done. sym (ap held_words done)
        | Some object ↦ λ is done.
            let at = lives made number object is in
            let new_is : held_words new ≡ held_words (slice_set made at.place (Some (change object))) = ap held_words done ∙ ap (λ n. held_words (slice_set made n (Some (change object)))) at.before in
            let was : length_of (joined (slice_get made at.place)) ≡ length object.words = ap length_of at.here in
            let sums = held-set made at.place (Some (change object)) at.within in
            let same = keeps object in
            omega arith
      ] refl done

module _ (variables : List Object) (made new : List (Option Object)) (number : ℕ) where
  -- nothing lives there, and nothing is taken
  pub none_taken : slot_at made number ≡ None → new ≡ made → objects variables new (length new) ≡ record { memory = without (memory_of variables made) (Task 0) (Dyn number); made = length made }
  none_taken none same =
      let gone : without (memory_of variables made) (Task 0) (Dyn number) ≡ memory_of variables made = remove-absent _ _ (dyn_at variables made number ∙ none) in
      rw (gone, same) refl

  pub one_taken : (object : Object) → slot_at made number ≡ Some object → new ≡ slice_set made (number - 1) None
      → objects variables new (length new) ≡ record { memory = without (memory_of variables made) (Task 0) (Dyn number); made = length made }
  one_taken object is done =
      let at = lives made number object is in
      let new_is : new ≡ slice_set made at.place None = done ∙ ap (λ n. slice_set made n None) at.before in
      let long : length new ≡ length made = ap length new_is ∙ simp length-set in
      rw (at.is, made_ended variables made at.place at.within, long) (ap (λ m. objects variables m (length made)) new_is)

  pub words_taken : (object : Object) → slot_at made number ≡ Some object → new ≡ slice_set made (number - 1) None → held_words new + length object.words ≡ held_words made
  words_taken object is done =
      let at = lives made number object is in
      let new_is : held_words new ≡ held_words (slice_set made at.place None) = ap held_words done ∙ ap (λ n. held_words (slice_set made n None)) at.before in
      let was : length_of (joined (slice_get made at.place)) ≡ length object.words = ap length_of at.here in
      let sums = held-set made at.place None at.within in
      omega arith

module _ (variables : List Object) (made new : List (Option Object)) (object : Object) where
  -- one object more
  pub one_more : (number : ℕ) → new ≡ made ++ Some object ∷ [] → number ≡ length new
      → objects variables new (length new) ≡ record { memory = with_object (memory_of variables made) (Task 0) (Dyn number) object; made = number }
  one_more number new_is number_is =
      let long : length made + 1 ≡ length (made ++ Some object ∷ []) = omega (arith, length-append made (Some object ∷ [])) in
      let name : number ≡ length made + 1 = number_is ∙ ap length new_is ∙ sym long in
      ap (λ m. record { memory = m; made = length new }) (ap (memory_of variables) new_is ∙ sym (made_more variables made object) ∙ ap (λ n. with_object (memory_of variables made) (Task 0) (Dyn n) object) (sym name))
      ∙ ap (λ n. record { memory = with_object (memory_of variables made) (Task 0) (Dyn number) object; made = n }) (sym number_is)

  pub words_more : new ≡ made ++ Some object ∷ [] → held_words new ≡ held_words made + length object.words
  words_more new_is = ap held_words new_is ∙ held-append made (Some object)

nothing_either_way : {X : Type 0} (b : Bool) → ◌≡◌ {A = Option X} (cond b None None) None
nothing_either_way true = refl
nothing_either_way false = refl

-- a slot that holds nothing is no object's
pub slot_at-none : (made : List (Option Object)) (number : ℕ) → slice_get made (number - 1) ≡ Some None → slot_at made number ≡ None
slot_at-none made number none = ap (λ slot. cond (number == 0) None (joined slot)) none ∙ nothing_either_way (number == 0)
