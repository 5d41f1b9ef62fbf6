-- The memory of a task whose objects stand in two lists.
use Rattle.std.proofs.Common.{◌≡◌, ℕ, zero, suc, ◌+◌, ◌-◌, ◌<◌, ◌≤◌, false, cond, List, [], ◌∷◌, ◌++◌, map, length, slice_get, slice_set, Option, Some, None, refl, sym, ap, ◌∙◌, ◌==◌, arith}
use Rattle.std.proofs.lemmas.Bool.Decides.{nat_tests}
use Rattle.std.specs.Ordering.{nat_cmp}
use Rattle.std.specs.Cmp.Lexicographic.{slice_cmp}
use Rattle.std.specs.FinMap as finite
use Rattle.mpc_values.specs.declared.owners.StaticVar.{StaticVar}
use Rattle.mpc_values.specs.declared.values.Obj.TheVariants.{Glob, Dyn}
use Rattle.mpc_values.specs.declared.owners.Owner.TheVariants.{Task}
use Rattle.serial_memory.specs.Memory.{Memory, Object, key_of, object_of, with_object, without}
use Rattle.serial_memory.specs.Access.{length_of, live_from, live_words}
use Rattle.serial_model.specs.World.{with_variables, first_memory}
use Rattle.serial_node.specs.Slots.{first_object, joined, slot_at}
use Rattle.serial_node.specs.Placed.{laid_from, variable_key, made_key, memory_of, held_words}
use Rattle.serial_node.proofs.Laid.{there, laid_from-append, laid_from-other, laid_from-under, laid_from-here, laid_from-insert, laid_from-remove}

abbrev kept : Option Object → Option Object
kept slot = slot

variable_key-one : (i j : ℕ) → variable_key i ≡ variable_key j → i ≡ j
variable_key-one i j h = cc

made_key-one : (i j : ℕ) → made_key i ≡ made_key j → i ≡ j
made_key-one i j h = let same : i + 1 ≡ j + 1 = cc in omega arith

apart : (i j : ℕ) → variable_key i ≡ made_key j → ⊥
apart i j h = cc

abbrev no_memory : Memory
no_memory = finite.empty

nothing : (k : List ℕ) → finite.get no_memory k ≡ None
nothing k = finite.get-empty (slice_cmp nat_cmp) k

there-joined : (slot : Option (Option Object)) → there kept slot ≡ joined slot
there-joined None = refl
there-joined (Some slot) = refl

there-some : (object : Option Object) → there Some object ≡ object
there-some None = refl
there-some (Some object) = refl

pub positive : (number : ℕ) → (suc number == 0) ≡ false
positive number = grind (arith, nat_tests)

module _ (variables : List Object) (made : List (Option Object)) where
  abbrev under : Memory
  under = laid_from Some variable_key 0 variables no_memory

  free_under : (j : ℕ) → 0 ≤ j → finite.get under (made_key j) ≡ None
  free_under j le = laid_from-other Some variable_key 0 variables no_memory (made_key j) (λ i le e. apart i j (sym e)) ∙ nothing (made_key j)

  pub variable_at : (number : ℕ) → object_of (memory_of variables made) (Task 0) (Glob number) ≡ slice_get variables number
  unfolding memory_of
  variable_at number =
      let same : number ≡ 0 + number = omega arith in
      laid_from-other kept made_key 0 made under (variable_key number) (λ j le e. apart number j e)
      ∙ ap (λ n. finite.get under (variable_key n)) same
      ∙ laid_from-here Some variable_key variable_key-one 0 variables no_memory number (λ j le. nothing (variable_key j))
      ∙ there-some (slice_get variables number)

  pub none_at : object_of (memory_of variables made) (Task 0) (Dyn 0) ≡ None
  unfolding memory_of
  none_at =
      laid_from-other kept made_key 0 made under (key_of (Task 0) (Dyn 0)) (λ j le e. let same : 0 ≡ j + 1 = cc in omega arith)
      ∙ laid_from-other Some variable_key 0 variables no_memory (key_of (Task 0) (Dyn 0)) (λ j le e. cc)
      ∙ nothing (key_of (Task 0) (Dyn 0))

  pub made_at : (number : ℕ) → object_of (memory_of variables made) (Task 0) (Dyn (number + 1)) ≡ joined (slice_get made number)
  unfolding memory_of
  made_at number =
      let same : number ≡ 0 + number = omega arith in
      ap (λ n. finite.get (laid_from kept made_key 0 made under) (made_key n)) same
      ∙ laid_from-here kept made_key made_key-one 0 made under number free_under
      ∙ there-joined (slice_get made number)

  -- an object of a number, counted from 1
  pub dyn_at : (number : ℕ) → object_of (memory_of variables made) (Task 0) (Dyn number) ≡ slot_at made number
  dyn_at zero = none_at
  dyn_at (suc number) =
      let more : suc number ≡ number + 1 = omega arith in
      let less : number ≡ suc number - 1 = omega arith in
      ap (λ n. object_of (memory_of variables made) (Task 0) (Dyn n)) more ∙ made_at number ∙ ap (λ n. joined (slice_get made n)) less
      ∙ ap (λ b. cond b None (joined (slice_get made (suc number - 1)))) (sym (positive number))

  pub variable_set : (number : ℕ) (object : Object) → number < length variables
      → with_object (memory_of variables made) (Task 0) (Glob number) object ≡ memory_of (slice_set variables number object) made
  unfolding memory_of
  variable_set number object lt =
      let same : number ≡ 0 + number = omega arith in
      laid_from-under kept made_key 0 made under (variable_key number) object (λ j le e. apart number j e)
      ∙ ap (laid_from kept made_key 0 made) (ap (λ n. finite.insert under (variable_key n) object) same
      ∙ laid_from-insert Some variable_key variable_key-one 0 variables no_memory number object object refl lt (λ j le. nothing (variable_key j)))

  pub made_set : (number : ℕ) (object : Object) → number < length made
      → with_object (memory_of variables made) (Task 0) (Dyn (number + 1)) object ≡ memory_of variables (slice_set made number (Some object))
  unfolding memory_of
  made_set number object lt =
      let same : number ≡ 0 + number = omega arith in
      ap (λ n. finite.insert (laid_from kept made_key 0 made under) (made_key n) object) same
      ∙ laid_from-insert kept made_key made_key-one 0 made under number (Some object) object refl lt free_under

  pub made_ended : (number : ℕ) → number < length made → without (memory_of variables made) (Task 0) (Dyn (number + 1)) ≡ memory_of variables (slice_set made number None)
  unfolding memory_of
  made_ended number lt =
      let same : number ≡ 0 + number = omega arith in
      ap (λ n. finite.remove (laid_from kept made_key 0 made under) (made_key n)) same
      ∙ laid_from-remove kept made_key made_key-one 0 made under number None refl lt free_under

  pub made_more : (object : Object) → with_object (memory_of variables made) (Task 0) (Dyn (length made + 1)) object ≡ memory_of variables (made ++ Some object ∷ [])
  unfolding memory_of
  made_more object =
      let same : 0 + length made ≡ length made = omega arith in
      sym (laid_from-append kept made_key 0 made (Some object) under ∙ ap (λ n. finite.insert (laid_from kept made_key 0 made under) (made_key n) object) same)

-- the live words from a number on, where the slots from there on are these
live-held : (m : Memory) (number : ℕ) (made : List (Option Object)) → ((i : ℕ) → object_of m (Task 0) (Dyn (number + i)) ≡ joined (slice_get made i))
    → live_from m 0 number (length made) ≡ held_words made
live-held m number [] here = refl
live-held m number (slot ∷ made) here =
    let same : number + 0 ≡ number = omega arith in
    let first : object_of m (Task 0) (Dyn number) ≡ slot = ap (λ n. object_of m (Task 0) (Dyn n)) (sym same) ∙ here 0 in
    ap (λ o. length_of o + live_from m 0 (number + 1) (length made)) first
    ∙ ap (λ n. length_of slot + n) (live-held m (number + 1) made (λ i. let next : (number + 1) + i ≡ number + suc i = omega arith in ap (λ n. object_of m (Task 0) (Dyn n)) next ∙ here (suc i)))

-- a task's live words are those in its slots
pub live_here : (variables : List Object) (made : List (Option Object)) → live_words 0 (record { memory = memory_of variables made; made = length made }) ≡ held_words made
live_here variables made =
    live-held (memory_of variables made) 1 made (λ i. let same : 1 + i ≡ i + 1 = omega arith in ap (λ n. object_of (memory_of variables made) (Task 0) (Dyn n)) same ∙ made_at variables made i)

pub held-append : (made : List (Option Object)) (slot : Option Object) → held_words (made ++ slot ∷ []) ≡ held_words made + length_of slot
held-append [] slot = omega arith
held-append (x ∷ made) slot = let more = held-append made slot in omega arith

-- the words of an object that is set, or taken out
pub held-set : (made : List (Option Object)) (number : ℕ) (slot : Option Object) → number < length made
    → held_words (slice_set made number slot) + length_of (joined (slice_get made number)) ≡ held_words made + length_of slot
held-set [] number slot lt = absurd (omega arith)
held-set (x ∷ made) zero slot lt = omega arith
held-set (x ∷ made) (suc number) slot lt = let more = held-set made number slot (omega arith) in omega arith

variables_laid : (variables : List StaticVar) (number : ℕ) (m : Memory) → with_variables (Task 0) number variables m ≡ laid_from Some variable_key number (map first_object variables) m
variables_laid [] number m = refl
variables_laid (variable ∷ more) number m = variables_laid more (number + 1) (with_object m (Task 0) (Glob number) (first_object variable))

-- at the start only the static variables stand there
pub first_here : (variables : List StaticVar) → memory_of (map first_object variables) [] ≡ first_memory variables 1
unfolding memory_of
first_here variables = sym (variables_laid variables 0 no_memory)
