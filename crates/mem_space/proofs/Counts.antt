-- What is counted of the objects of tasks, after a change of the heap.
use Rattle.std.proofs.Common.{◌≡◌, ◌≢◌, ℕ, zero, suc, ◌+◌, ◌-◌, ◌<◌, ◌≤◌, List, length, get_or, set, Option, Some, None, refl, sym, ap, subst, ◌∙◌, inl, inr, arith, length-set}
use Rattle.std.specs.Option.{option_map}
use Rattle.std.proofs.lemmas.Bool.{cases_eq, cases_lt}
use Rattle.std.proofs.lemmas.List.{get_or-set_same, get_or-set_other, set-get_or}
use Rattle.mpc_values.specs.declared.values.Obj.{Obj}
use Rattle.mpc_values.specs.declared.values.Obj.TheVariants.{Glob, Dyn}
use Rattle.mpc_values.specs.declared.owners.Owner.{Owner}
use Rattle.mpc_values.specs.declared.owners.Owner.TheVariants.{Task, Inst}
use Rattle.memory_model.specs.Memory.{Memory, Object, object_of}
use Rattle.memory_model.specs.Access.{length_of, live_from, live_words}
use Rattle.block_table.specs.Index.{IsSame}
use Rattle.block_table.proofs.Names.{same_cases}
use Rattle.object_heap.specs.Layout.{Layout}
use Rattle.object_heap.specs.Objects.{Shows, object_in}
use Rattle.object_heap.specs.Changes.{Puts, KeepsObjects}
use Rattle.mem_space.specs.Spaces.{Space, objects_in, made_in}
use Rattle.mem_space.specs.Words.{words_of, live_of}
use Rattle.mem_space.specs.Kept.{IsCounted, AreCounted}

-- how many words an object has, where it lives
abbrev pub size_of : Option Object → Option ℕ
size_of o = option_map (λ (object : Object). length object.words) o

-- Every object lives or does not live as before, and has as many words.
pub record SameSizes (old new : Layout) : Type 0 where
  pub size : (owner : Owner) (obj : Obj) → size_of (object_in new owner obj) ≡ size_of (object_in old owner obj)

none_of : (o : Option Object) → size_of o ≡ None → o ≡ None
none_of None h = refl
none_of (Some object) h = cc

length_same : (o o' : Option Object) → size_of o ≡ size_of o' → length_of o ≡ length_of o'
length_same None None h = refl
length_same None (Some object) h = cc
length_same (Some object) None h = cc
length_same (Some object) (Some object') h = cc

pub sizes_kept : (old new : Layout) → KeepsObjects old new → SameSizes old new
sizes_kept old new keeps = record { size = λ owner obj. ap size_of (keeps owner obj) }

pub sizes_put : (old new : Layout) (owner : Owner) (obj : Obj) (was object : Object) → object_in old owner obj ≡ Some was → length object.words ≡ length was.words
    → Puts old new owner obj (Some object) → SameSizes old new
sizes_put old new owner obj was object lives long puts = record {
  size = λ other another. elim (same_cases other another owner obj) [
    | inl same ↦
        let here : size_of (object_in new owner obj) ≡ size_of (object_in old owner obj) = ap size_of puts.here ∙ (ap Some long ∙ sym (ap size_of lives)) in
        ap (λ o. size_of (object_in new o another)) same.0 ∙ (ap (λ x. size_of (object_in new owner x)) same.1
        ∙ (here ∙ (ap (λ x. size_of (object_in old owner x)) (sym same.1) ∙ ap (λ o. size_of (object_in old o another)) (sym same.0))))
    | inr differ ↦ ap size_of (puts.others other another differ)
  ];
}

module _ (old new : Layout) (same : SameSizes old new) where
  none_same : (task number : ℕ) → object_in old (Task task) (Dyn number) ≡ None → object_in new (Task task) (Dyn number) ≡ None
  none_same task number none = none_of (object_in new (Task task) (Dyn number)) (same.size (Task task) (Dyn number) ∙ ap size_of none)

  live_same : (task made : ℕ) → live_of new task made ≡ live_of old task made
  live_same task zero = refl
  live_same task (suc made) =
      ap (λ n. n + words_of new task (suc made)) (live_same task made)
      ∙ ap (λ n. live_of old task made + n) (length_same (object_in new (Task task) (Dyn (suc made))) (object_in old (Task task) (Dyn (suc made))) (same.size (Task task) (Dyn (suc made))))

  pub counted_same : (quota tasks : ℕ) (made used : List ℕ) → AreCounted old quota tasks made used → AreCounted new quota tasks made used
  counted_same quota tasks made used counted = record {
    all_made = counted.all_made;
    all_used = counted.all_used;
    each = λ task below. let was = counted.each task below in record {
      first = none_same task 0 was.first;
      later = λ number past. none_same task number (was.later number past);
      words = was.words ∙ sym (live_same task (get_or made task 0));
      within = was.within;
    };
  }

-- the last of the objects that a task made counts last
from_back : (m : Memory) (task k n : ℕ) → live_from m task k (n + 1) ≡ live_from m task k n + length_of (object_of m (Task task) (Dyn (k + n)))
from_back m task k zero = let e : length_of (object_of m (Task task) (Dyn k)) ≡ length_of (object_of m (Task task) (Dyn (k + 0))) = ap (λ i. length_of (object_of m (Task task) (Dyn i))) (omega arith) in omega arith
from_back m task k (suc n) =
    let rest = from_back m task (k + 1) n in
    let e : length_of (object_of m (Task task) (Dyn (k + 1 + n))) ≡ length_of (object_of m (Task task) (Dyn (k + suc n))) = ap (λ i. length_of (object_of m (Task task) (Dyn i))) (omega arith) in
    let one : live_from m task k (suc n + 1) ≡ length_of (object_of m (Task task) (Dyn k)) + live_from m task (k + 1) (n + 1) = ap (λ i. live_from m task k i) (let f : suc n + 1 ≡ suc (n + 1) = omega arith in f) in
    omega arith

live_shown : (h : Layout) (m : Memory) (task made : ℕ) → Shows h m → live_from m task 1 made ≡ live_of h task made
live_shown h m task zero shows = refl
live_shown h m task (suc made) shows =
    ap (λ i. live_from m task 1 i) (let f : suc made ≡ made + 1 = omega arith in f)
    ∙ (from_back m task 1 made
    ∙ (ap (λ n. n + length_of (object_of m (Task task) (Dyn (1 + made)))) (live_shown h m task made shows)
    ∙ ap (λ n. live_of h task made + n) (ap (λ i. length_of (object_of m (Task task) (Dyn i))) (let f : 1 + made ≡ suc made = omega arith in f) ∙ ap length_of (shows (Task task) (Dyn (suc made))))))

-- the live words of the definitions are those that are counted
pub words_shown : (s : Space) (m : Memory) (task : ℕ) → Shows s.heap m → live_words task (objects_in s m task) ≡ live_of s.heap task (made_in s task)
words_shown s m task shows = live_shown s.heap m task (made_in s task) shows

live_below : (old new : Layout) (task made : ℕ) → ((number : ℕ) → number ≤ made → object_in new (Task task) (Dyn number) ≡ object_in old (Task task) (Dyn number)) → live_of new task made ≡ live_of old task made
live_below old new task zero same = refl
live_below old new task (suc made) same =
    ap (λ n. n + words_of new task (suc made)) (live_below old new task made (λ number below. same number (omega arith)))
    ∙ ap (λ o. live_of old task made + length_of o) (same (suc made) (omega arith))

task_of : Owner → ℕ
task_of (Task task) = task
task_of (Inst level id) = 0

number_of : Obj → ℕ
number_of (Glob variable) = 0
number_of (Dyn made) = made

-- another number or another task is another object
other_number : (task number k : ℕ) → number ≢ k → IsSame (Task task) (Dyn number) (Task task) (Dyn k) → ⊥
unfolding number_of
other_number task number k differs same = differs (ap number_of same.1)

other_task : (task other : ℕ) (obj another : Obj) → other ≢ task → IsSame (Task other) another (Task task) obj → ⊥
unfolding task_of
other_task task other obj another differs same = differs (ap task_of same.0)

-- a task's objects stay where another task's is made or ended
counted_other : (old new : Layout) (quota task other made used : ℕ) (obj : Obj) (object : Option Object) → other ≢ task → Puts old new (Task task) obj object → IsCounted old quota other made used → IsCounted new quota other made used
counted_other old new quota task other made used obj object differs puts was =
    let same : (number : ℕ) → object_in new (Task other) (Dyn number) ≡ object_in old (Task other) (Dyn number) = λ number. puts.others (Task other) (Dyn number) (other_task task other obj (Dyn number) differs) in
    record {
      first = same 0 ∙ was.first;
      later = λ number past. same number ∙ was.later number past;
      words = was.words ∙ sym (live_below old new other made (λ number below. same number));
      within = was.within;
    }

counted_made : (old new : Layout) (quota task made used : ℕ) (object : Object) → Puts old new (Task task) (Dyn (made + 1)) (Some object) → used + length object.words ≤ quota
    → IsCounted old quota task made used → IsCounted new quota task (made + 1) (used + length object.words)
counted_made old new quota task made used object puts fits was =
    let same : (number : ℕ) → number ≢ made + 1 → object_in new (Task task) (Dyn number) ≡ object_in old (Task task) (Dyn number) = λ number differs. puts.others (Task task) (Dyn number) (other_number task number (made + 1) differs) in
    let below = live_below old new task made (λ number low. same number (λ e. omega arith)) in
    let last : words_of new task (suc made) ≡ length object.words = ap (λ i. words_of new task i) (let f : suc made ≡ made + 1 = omega arith in f) ∙ ap length_of puts.here in
    let all : live_of new task (made + 1) ≡ live_of new task made + words_of new task (suc made) = ap (λ i. live_of new task i) (let f : made + 1 ≡ suc made = omega arith in f) in
    record {
      first = same 0 (λ e. omega arith) ∙ was.first;
      later = λ number past. same number (λ e. omega arith) ∙ was.later number (omega arith);
      words = let w = was.words in omega arith;
      within = fits;
    }

live_ended : (old new : Layout) (task k made : ℕ) (object : Object) → 0 < k → k ≤ made → object_in old (Task task) (Dyn k) ≡ Some object → Puts old new (Task task) (Dyn k) None
    → live_of old task made ≡ live_of new task made + length object.words
live_ended old new task k zero object some low lives puts = absurd (omega arith)
live_ended old new task k (suc made) object some low lives puts =
    elim (cases_eq k (suc made)) [
      | inl last ↦
          let below = live_below old new task made (λ number under. puts.others (Task task) (Dyn number) (other_number task number k (λ e. omega arith))) in
          let was : words_of old task (suc made) ≡ length object.words = ap (λ i. words_of old task i) (sym last) ∙ ap length_of lives in
          let now : words_of new task (suc made) ≡ 0 = ap (λ i. words_of new task i) (sym last) ∙ ap length_of puts.here in
          omega arith
      | inr earlier ↦
          let rest = live_ended old new task k made object some (omega arith) lives puts in
          let same : words_of new task (suc made) ≡ words_of old task (suc made) = ap length_of (puts.others (Task task) (Dyn (suc made)) (other_number task (suc made) k (λ e. earlier (sym e)))) in
          omega arith
    ]

some_none : (object : Object) → Some object ≡ None → ⊥
some_none object e = cc

-- an object that a task made and that lives has one of the names that were given
given_name : (h : Layout) (quota task k made used : ℕ) (object : Object) → object_in h (Task task) (Dyn k) ≡ Some object → IsCounted h quota task made used → (0 < k) × (k ≤ made)
given_name h quota task k made used object lives was = (first, last)
  where
    first : 0 < k
    first = elim (cases_lt 0 k) [
      | inl some ↦ some
      | inr none ↦ let zero_is : k ≡ 0 = omega arith in absurd (some_none object (sym lives ∙ (ap (λ i. object_in h (Task task) (Dyn i)) zero_is ∙ was.first)))
    ]

    last : k ≤ made
    last = elim (cases_lt made k) [
      | inl past ↦ absurd (some_none object (sym lives ∙ was.later k past))
      | inr low ↦ low
    ]

pub counted_words : (h : Layout) (quota task k made used : ℕ) (object : Object) → object_in h (Task task) (Dyn k) ≡ Some object → IsCounted h quota task made used → length object.words ≤ used
counted_words h quota task k made used object lives was =
    let name = given_name h quota task k made used object lives was in
    let among = words_among made name.0 name.1 in
    omega (arith, was.words)
  where
    words_among : (n : ℕ) → 0 < k → k ≤ n → length object.words ≤ live_of h task n
    words_among zero some low = absurd (omega arith)
    words_among (suc n) some low = elim (cases_eq k (suc n)) [
      | inl last ↦ let was : words_of h task (suc n) ≡ length object.words = ap (λ i. words_of h task i) (sym last) ∙ ap length_of lives in omega arith
      | inr earlier ↦ let rest = words_among n some (omega arith) in omega arith
    ]

counted_ended : (old new : Layout) (quota task k made used : ℕ) (object : Object) → object_in old (Task task) (Dyn k) ≡ Some object → Puts old new (Task task) (Dyn k) None
    → IsCounted old quota task made used → IsCounted new quota task made (used - length object.words)
counted_ended old new quota task k made used object lives puts was =
    let name = given_name old quota task k made used object lives was in
    let some = name.0 in let low = name.1 in
    let ended = live_ended old new task k made object some low lives puts in
    let same : (number : ℕ) → number ≢ k → object_in new (Task task) (Dyn number) ≡ object_in old (Task task) (Dyn number) = λ number differs. puts.others (Task task) (Dyn number) (other_number task number k differs) in
    record {
      first = same 0 (λ e. omega arith) ∙ was.first;
      later = λ number past. same number (λ e. omega arith) ∙ was.later number past;
      words = let w = was.words in omega arith;
      within = let w = was.within in omega arith;
    }

-- one task's counts are changed
module _ (old new : Layout) (quota tasks task : ℕ) (made used made' used' : List ℕ) (below : task < tasks) (counted : AreCounted old quota tasks made used) where
  counted_one : (obj : Obj) (object : Option Object) (n u : ℕ) → Puts old new (Task task) obj object → IsCounted new quota task n u → made' ≡ set made task n → used' ≡ set used task u → AreCounted new quota tasks made' used'
  counted_one obj object n u puts now made_is used_is = record {
    all_made = ap length made_is ∙ (length-set made task n ∙ counted.all_made);
    all_used = ap length used_is ∙ (length-set used task u ∙ counted.all_used);
    each = λ other under. elim (cases_eq other task) [
      | inl here ↦
          let m : get_or made' other 0 ≡ n = ap (λ l. get_or l other 0) made_is ∙ (ap (λ i. get_or (set made task n) i 0) here ∙ get_or-set_same made task n 0 (omega (arith, counted.all_made))) in
          let w : get_or used' other 0 ≡ u = ap (λ l. get_or l other 0) used_is ∙ (ap (λ i. get_or (set used task u) i 0) here ∙ get_or-set_same used task u 0 (omega (arith, counted.all_used))) in
          subst (λ i. IsCounted new quota other i (get_or used' other 0)) (sym m) (subst (λ i. IsCounted new quota other n i) (sym w) (subst (λ i. IsCounted new quota i n u) (sym here) now))
      | inr differs ↦
          let m : get_or made' other 0 ≡ get_or made other 0 = ap (λ l. get_or l other 0) made_is ∙ get_or-set_other made task other n 0 differs in
          let w : get_or used' other 0 ≡ get_or used other 0 = ap (λ l. get_or l other 0) used_is ∙ get_or-set_other used task other u 0 differs in
          subst (λ i. IsCounted new quota other i (get_or used' other 0)) (sym m) (subst (λ i. IsCounted new quota other (get_or made other 0) i) (sym w)
          (counted_other old new quota task other (get_or made other 0) (get_or used other 0) obj object differs puts (counted.each other under)))
    ];
  }

  pub all_counted_made : (object : Object) → Puts old new (Task task) (Dyn (get_or made task 0 + 1)) (Some object) → get_or used task 0 + length object.words ≤ quota
      → made' ≡ set made task (get_or made task 0 + 1) → used' ≡ set used task (get_or used task 0 + length object.words) → AreCounted new quota tasks made' used'
  all_counted_made object puts fits made_is used_is =
      counted_one (Dyn (get_or made task 0 + 1)) (Some object) (get_or made task 0 + 1) (get_or used task 0 + length object.words) puts
      (counted_made old new quota task (get_or made task 0) (get_or used task 0) object puts fits (counted.each task below)) made_is used_is

  pub all_counted_ended : (k : ℕ) (object : Object) → object_in old (Task task) (Dyn k) ≡ Some object → Puts old new (Task task) (Dyn k) None
      → made' ≡ made → used' ≡ set used task (get_or used task 0 - length object.words) → AreCounted new quota tasks made' used'
  all_counted_ended k object lives puts made_is used_is =
      counted_one (Dyn k) None (get_or made task 0) (get_or used task 0 - length object.words) puts
      (counted_ended old new quota task k (get_or made task 0) (get_or used task 0) object lives puts (counted.each task below)) (made_is ∙ sym (set-get_or made task 0)) used_is
