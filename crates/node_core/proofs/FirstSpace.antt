-- A space with the variables of all images at the start holds the memory of the start.
use Rattle.std.proofs.Common.{◌≡◌, ◌<◌, ◌+◌, ◌==◌, ℕ, zero, suc, Bool, true, false, cond, if◌then◌else◌, List, [], ◌∷◌, length, slice_get, replicate, Contains, Option, Some, None, refl, sym, ap, subst, ◌∙◌, arith}
use Rattle.std.specs.List.{slice_index_or, list_any}
use Rattle.std.proofs.lemmas.Bool.{eqb-true, eq-eqb}
use Rattle.std.proofs.lemmas.Option.{slice_get_within, get_or_from_slice_get}
use Rattle.mpc_values.specs.declared.values.Obj.{Obj}
use Rattle.mpc_values.specs.declared.values.Obj.TheVariants.{Glob}
use Rattle.mpc_values.specs.declared.owners.Level.{Level}
use Rattle.mpc_values.specs.declared.owners.Level.TheVariants.{Core, L1, L2, L3, Numa, Node}
use Rattle.mpc_values.specs.declared.owners.Owner.{Owner}
use Rattle.mpc_values.specs.declared.owners.StaticVar.{StaticVar}
use Rattle.memory_model.specs.Memory.{Memory, Object, key_of, object_of, with_object, is_same_object}
use Rattle.memory_model.proofs.Maps.{same_key, read_with, read_with_same, read_with_other}
use Rattle.tls_levels.specs.Images.{image_number}
use Rattle.tls_levels.specs.Owners.{owner_level}
use Rattle.tls_levels.specs.Owners.{owners_of}
use Rattle.tls_levels.specs.Sharing.{sharing_of, owners_in}
use Rattle.block_table.specs.declared.rows.Mark.TheVariants.{Free}
use Rattle.block_table.specs.Rows.{is_send, is_receive}
use Rattle.mpi_request.specs.Pending.{marks_of, all_pending, has_place}
use Rattle.object_heap.specs.Layout.{Layout}
use Rattle.object_heap.specs.Marks.{mark_of, marks_in}
use Rattle.mem_space.specs.Spaces.{Space, made_in}
use Rattle.run_model.specs.Setup.{Setup, tasks_of}
use Rattle.run_model.specs.World.{TaskState}
use Rattle.node_core.specs.Stands.{SpaceStands}
use Rattle.object_heap.specs.Objects.{object_in}
use Rattle.mem_space.specs.First.{HasFirst, first_object}
use Rattle.run_model.specs.Start.{with_copies, with_copies_of, first_memory, first_task, first_core}

-- the kind of image of a number
abbrev pub level_of_number : ℕ → Option Level
level_of_number zero = None
level_of_number (suc zero) = Some Core
level_of_number (suc (suc zero)) = Some L1
level_of_number (suc (suc (suc zero))) = Some L2
level_of_number (suc (suc (suc (suc zero)))) = Some L3
level_of_number (suc (suc (suc (suc (suc zero))))) = Some Numa
level_of_number other = Some Node

number_back : (level : Option Level) → level_of_number (image_number level) ≡ level
number_back None = refl
number_back (Some Core) = refl
number_back (Some L1) = refl
number_back (Some L2) = refl
number_back (Some L3) = refl
number_back (Some Numa) = refl
number_back (Some Node) = refl

-- images of one number are of one level
same_level : (a b : Option Level) → (image_number a == image_number b) ≡ true → a ≡ b
same_level a b h = sym (number_back a) ∙ ap level_of_number (eqb-true (image_number a) (image_number b) h) ∙ number_back b

level_tells : (a b : Option Level) → a ≡ b → (image_number a == image_number b) ≡ true
level_tells a b e = eq-eqb (image_number a) (image_number b) (ap image_number e)

-- a name is told by its key
abbrev pub ObjectsOfKeys : Type 0
ObjectsOfKeys = (owner other : Owner) (obj another : Obj) → key_of owner obj ≡ key_of other another → obj ≡ another

abbrev pub OwnersOfKeys : Type 0
OwnersOfKeys = (owner other : Owner) (obj another : Obj) → key_of owner obj ≡ key_of other another → owner ≡ other

same_variable : (a b : ℕ) → Glob a ≡ Glob b → a ≡ b
same_variable a b h = cc

module _ (objects : ObjectsOfKeys) where
  -- copies of one owner leave a copy that has the words of its variable
  keeps_copy : (o owner : Owner) (number k : ℕ) (suffix : List StaticVar) (m : Memory) (object : Object)
      → ((i : ℕ) (v : StaticVar) → slice_get suffix i ≡ Some v → number + i ≡ k → first_object v ≡ object)
      → object_of m owner (Glob k) ≡ Some object → object_of (with_copies o number suffix m) owner (Glob k) ≡ Some object
  keeps_copy o owner number k [] m object same has = has
  keeps_copy o owner number k (v ∷ more) m object same has =
      kept (keeps_copy o owner (number + 1) k more m object (λ i w at is. same (suc i) w at (omega (arith, is))) has) (image_number v.level == image_number (owner_level o))
    where
      by_same : object_of (with_copies o (number + 1) more m) owner (Glob k) ≡ Some object → (b : Bool) → is_same_object owner (Glob k) o (Glob number) ≡ b
          → cond b (Some (first_object v)) (object_of (with_copies o (number + 1) more m) owner (Glob k)) ≡ Some object
      by_same rest true is =
          let e : k ≡ number = same_variable k number (objects owner o (Glob k) (Glob number) (same_key (key_of owner (Glob k)) (key_of o (Glob number)) is)) in
          ap Some (same 0 v refl (omega (arith, e)))
      by_same rest false is = rest

      kept : object_of (with_copies o (number + 1) more m) owner (Glob k) ≡ Some object → (b : Bool)
          → object_of (if b then with_object (with_copies o (number + 1) more m) o (Glob number) (first_object v) else with_copies o (number + 1) more m) owner (Glob k) ≡ Some object
      kept rest true =
          read_with (with_copies o (number + 1) more m) o owner (Glob number) (Glob k) (first_object v)
          ∙ by_same rest (is_same_object owner (Glob k) o (Glob number)) refl
      kept rest false = rest

  -- an owner's copies are there
  puts_copy : (owner : Owner) (number : ℕ) (suffix : List StaticVar) (m : Memory) (i : ℕ) (v : StaticVar) → slice_get suffix i ≡ Some v → v.level ≡ owner_level owner
      → object_of (with_copies owner number suffix m) owner (Glob (number + i)) ≡ Some (first_object v)
  puts_copy owner number [] m i v at level = absurd (cc at)
  puts_copy owner number (w ∷ more) m zero v at level =
      let e : w ≡ v = cc in
      let rest = with_copies owner (number + 1) more m in
      let yes : (image_number w.level == image_number (owner_level owner)) ≡ true = level_tells w.level (owner_level owner) (ap (λ (x : StaticVar). x.level) e ∙ level) in
      let zero_more : number + 0 ≡ number = omega arith in
      ap (λ b. object_of (if b then with_object rest owner (Glob number) (first_object w) else rest) owner (Glob (number + 0))) yes
      ∙ ap (λ n. object_of (with_object rest owner (Glob number) (first_object w)) owner (Glob n)) zero_more
      ∙ read_with_same rest owner (Glob number) (first_object w) ∙ ap (λ x. Some (first_object x)) e
  puts_copy owner number (w ∷ more) m (suc i) v at level =
      let one_more : number + 1 + i ≡ number + suc i = omega arith in
      put (ap (λ n. object_of (with_copies owner (number + 1) more m) owner (Glob n)) (sym one_more) ∙ puts_copy owner (number + 1) more m i v at level) (image_number w.level == image_number (owner_level owner))
    where
      put : object_of (with_copies owner (number + 1) more m) owner (Glob (number + suc i)) ≡ Some (first_object v) → (b : Bool)
          → object_of (if b then with_object (with_copies owner (number + 1) more m) owner (Glob number) (first_object w) else with_copies owner (number + 1) more m) owner (Glob (number + suc i)) ≡ Some (first_object v)
      put there true =
          read_with_other (with_copies owner (number + 1) more m) owner owner (Glob number) (Glob (number + suc i)) (first_object w)
          (λ h. let e : number + suc i ≡ number = same_variable (number + suc i) number (objects owner owner (Glob (number + suc i)) (Glob number) h) in omega (arith, e))
          ∙ there
      put there false = there

  -- so they are among those of all owners
  all_have : (variables : List StaticVar) (owner : Owner) (k : ℕ) (v : StaticVar) → slice_get variables k ≡ Some v → v.level ≡ owner_level owner
      → (owners : List Owner) (i : ℕ) → i < length owners → slice_index_or owners i owner ≡ owner → object_of (with_copies_of variables owners) owner (Glob k) ≡ Some (first_object v)
  all_have variables owner k v at level [] i less is = absurd (omega (arith, less))
  all_have variables owner k v at level (o ∷ more) zero less is =
      let zero_less : k ≡ 0 + k = omega arith in
      ap (λ x. object_of (with_copies x 0 variables (with_copies_of variables more)) owner (Glob k)) is
      ∙ ap (λ n. object_of (with_copies owner 0 variables (with_copies_of variables more)) owner (Glob n)) zero_less
      ∙ puts_copy owner 0 variables (with_copies_of variables more) k v at level
  all_have variables owner k v at level (o ∷ more) (suc i) less is =
      keeps_copy o owner 0 k variables (with_copies_of variables more) (first_object v)
      (λ j w here e. let zero_less : 0 + j ≡ j = omega arith in let same : slice_get variables k ≡ Some w = ap (slice_get variables) (sym e ∙ zero_less) ∙ here in let both : Some v ≡ Some w = sym at ∙ same in let one : w ≡ v = cc in ap first_object one)
      (all_have variables owner k v at level more i (omega (arith, less)) is)

  -- what is no copy of an owner stays dead
  no_copy : (o owner : Owner) (obj : Obj) (number : ℕ) (suffix : List StaticVar) (m : Memory)
      → ((i : ℕ) (v : StaticVar) → slice_get suffix i ≡ Some v → v.level ≡ owner_level o → key_of owner obj ≡ key_of o (Glob (number + i)) → ⊥)
      → object_of m owner obj ≡ None → object_of (with_copies o number suffix m) owner obj ≡ None
  no_copy o owner obj number [] m never none = none
  no_copy o owner obj number (v ∷ more) m never none =
      stays
      (no_copy o owner obj (number + 1) more m
      (λ i w at level h. let one_more : number + 1 + i ≡ number + suc i = omega arith in never (suc i) w at level (h ∙ ap (λ n. key_of o (Glob n)) one_more)) none)
      (image_number v.level == image_number (owner_level o)) refl
    where
      stays : object_of (with_copies o (number + 1) more m) owner obj ≡ None → (b : Bool) → (image_number v.level == image_number (owner_level o)) ≡ b
          → object_of (if b then with_object (with_copies o (number + 1) more m) o (Glob number) (first_object v) else with_copies o (number + 1) more m) owner obj ≡ None
      stays rest true on =
          let zero_more : number ≡ number + 0 = omega arith in
          read_with_other (with_copies o (number + 1) more m) o owner (Glob number) obj (first_object v)
          (λ h. never 0 v refl (same_level v.level (owner_level o) on) (h ∙ ap (λ n. key_of o (Glob n)) zero_more)) ∙ rest
      stays rest false off = rest

  no_copies : (variables : List StaticVar) (owner : Owner) (obj : Obj) (owners : List Owner)
      → ((j : ℕ) (o : Owner) (i : ℕ) (v : StaticVar) → slice_get owners j ≡ Some o → slice_get variables i ≡ Some v → v.level ≡ owner_level o → key_of owner obj ≡ key_of o (Glob i) → ⊥)
      → object_of (with_copies_of variables owners) owner obj ≡ None
  no_copies variables owner obj [] never = refl
  no_copies variables owner obj (o ∷ more) never =
      no_copy o owner obj 0 variables (with_copies_of variables more) (λ i v at level h. let zero_less : 0 + i ≡ i = omega arith in never 0 o i v refl at level (h ∙ ap (λ n. key_of o (Glob n)) zero_less))
      (no_copies variables owner obj more (λ j p i v there at level h. never (suc j) p i v there at level h))

contains_at : (owners : List Owner) (j : ℕ) (o : Owner) → slice_get owners j ≡ Some o → Contains owners o
contains_at owners j o at = (j, slice_get_within owners j o at, get_or_from_slice_get owners j o o at)

-- the memory of the start and such a heap read alike
pub first_shown : ObjectsOfKeys → OwnersOfKeys → (variables : List StaticVar) (owners : List Owner) (heap : Layout) → HasFirst variables owners heap
    → (owner : Owner) (obj : Obj) → object_of (with_copies_of variables owners) owner obj ≡ object_in heap owner obj
first_shown objects names variables owners heap has owner obj = by (object_in heap owner obj) refl
  where
    by : (found : Option Object) → object_in heap owner obj ≡ found → object_of (with_copies_of variables owners) owner obj ≡ object_in heap owner obj
    by (Some object) is =
        let (number, v, name, within, at, level) = has.only owner obj object is in
        let copy = has.copies owner number v within at level in
        let (i, less, here) = within in
        ap (object_of (with_copies_of variables owners) owner) name
        ∙ all_have objects variables owner number v at level owners i less here ∙ sym copy ∙ ap (object_in heap owner) (sym name)
    by None is =
        no_copies objects variables owner obj owners
        (λ j o i v there at level h.
        let copy : object_in heap o (Glob i) ≡ Some (first_object v) = has.copies o i v (contains_at owners j o there) at level in
        let e : object_in heap owner obj ≡ object_in heap o (Glob i) = ap (λ x. object_in heap x obj) (names owner o obj (Glob i) h) ∙ ap (object_in heap o) (objects owner o obj (Glob i) h) in
        let both : None ≡ Some (first_object v) = sym is ∙ e ∙ copy in cc)
        ∙ sym is

none_pending : (count : ℕ) (send : Bool) → all_pending (replicate count []) send ≡ []
none_pending zero send = refl
none_pending (suc count) send = none_pending count send

first_marks : (count : ℕ) (heap : Layout) → ((owner : Owner) (obj : Obj) (p : ℕ) → mark_of heap owner obj p ≡ Free) → marks_of (replicate count []) ≡ marks_in heap
first_marks count heap free i = record {
  sent = λ owner obj p. (ap (list_any (has_place owner obj p)) (none_pending count true) ∙ sym (ap is_send (free owner obj p))) i;
  received = λ owner obj p. (ap (list_any (has_place owner obj p)) (none_pending count false) ∙ sym (ap is_receive (free owner obj p))) i;
}

first_made : (count i : ℕ) (state : TaskState) → slice_get (replicate count first_task) i ≡ Some state → state.made ≡ 0
first_made zero i state at = absurd (cc at)
first_made (suc count) zero state at = let e : first_task ≡ state = cc in sym (ap (λ (s : TaskState). s.made) e)
first_made (suc count) (suc i) state at = first_made count i state at

-- such a space stands for the start
pub first_stands : ObjectsOfKeys → OwnersOfKeys → (setup : Setup) (variables : List StaticVar) (cores : List ℕ) (space : Space) → variables ≡ setup.program.variables → cores ≡ setup.cores
    → space.sharing ≡ sharing_of variables setup.machine cores → HasFirst variables (owners_in space.sharing) space.heap → ((task : ℕ) → made_in space task ≡ 0)
    → ((owner : Owner) (obj : Obj) (p : ℕ) → mark_of space.heap owner obj p ≡ Free) → SpaceStands (first_core setup) space
unfolding first_memory
first_stands objects names setup variables cores space same there shared has made free =
    let owners : owners_in space.sharing ≡ owners_of setup.machine setup.cores = ap owners_in shared ∙ ap (owners_of setup.machine) there in
    let all : HasFirst setup.program.variables (owners_of setup.machine setup.cores) space.heap =
    subst (λ vs. HasFirst vs (owners_of setup.machine setup.cores) space.heap) same (subst (λ os. HasFirst variables os space.heap) owners has) in
    record {
      memory = first_shown objects names setup.program.variables (owners_of setup.machine setup.cores) space.heap all;
      made = λ i state at. first_made (tasks_of setup) i state at ∙ sym (made i);
      marks = first_marks (tasks_of setup) space.heap free;
    }
