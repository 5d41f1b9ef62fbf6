-- Objects that are made and ended.
use Rattle.std.proofs.Common.{◌≡◌, ℕ, ◌+◌, ◌≤◌, nat_le, Bool, true, false, not, if◌then◌else◌, List, length, get_or, replicate, Some, None, ℤ, pos, negsuc, ◌<ℤ◌, ◌<◌, ◌⊎◌, inl, inr, refl, sym, ap, ◌∙◌, arith}
use Rattle.std.proofs.lemmas.Bool.{false≢true}
use Rattle.std.proofs.lemmas.Int.{ints}
use Rattle.mpc_values.specs.declared.values.Word.TheVariants.{Undef, Null, Ptr}
use Rattle.mpc_values.specs.declared.values.Obj.TheVariants.{Dyn}
use Rattle.mpc_values.specs.declared.owners.Owner.TheVariants.{Task}
use Rattle.mpc_values.specs.declared.answers.Answer.TheVariants.{Done, Gives}
use Rattle.mpc_values.specs.declared.faults.Fault.TheVariants.{PendingDrop, StackFull}
use Rattle.memory_model.specs.declared.kinds.Kind.{Kind}
use Rattle.memory_model.specs.declared.kinds.Kind.TheVariants.{Local, Block}
use Rattle.memory_model.specs.Memory.{Memory, Object, with_object, without}
use Rattle.memory_model.specs.Marks.{barred_to_stores, is_some_place}
use Rattle.memory_model.specs.Access.{Answers, Breaks, makes, new, malloc, live_words, drop, drop_in}
use Rattle.object_heap.specs.Layout.{Layout}
use Rattle.object_heap.specs.Objects.{Shows, object_in}
use Rattle.object_heap.specs.Marks.{marks_in}
use Rattle.object_heap.specs.Changes.{Puts}
use Rattle.object_heap.proofs.Heaps.{shows_given, shows_ended}
use Rattle.mem_space.specs.Spaces.{Space, made_in, objects_in}
use Rattle.mem_space.specs.Words.{live_of}
use Rattle.mem_space.specs.Accesses.{Answered}
use Rattle.mem_space.proofs.Ranges.{le_true, le_false}
use Rattle.mem_space.proofs.Counts.{words_shown}

-- an object whose words are unset
abbrev pub new_object : Kind → ℕ → Object
new_object kind len = record { kind = kind; words = replicate len Undef }

pub makes_is : (s : Space) (h : Layout) (task : ℕ) (kind : Kind) (len number : ℕ) (made : List ℕ) → number ≡ made_in s task + 1 → get_or made task 0 ≡ number
    → Puts s.heap h (Task task) (Dyn number) (Some (new_object kind len)) → (m : Memory) → Shows s.heap m
    → Answered (record s { heap = h; made = made }) task (Gives (Ptr (Dyn number) 0)) (makes task (objects_in s m task) kind len)
makes_is s h task kind len number made next now puts m shows = record {
  memory = with_object m (Task task) (Dyn number) (new_object kind len);
  gives =
      ap (λ n. Answers (Gives (Ptr (Dyn n) 0)) (record { memory = with_object m (Task task) (Dyn n) (new_object kind len); made = n })) (sym next)
      ∙ ap (λ n. Answers (Gives (Ptr (Dyn number) 0)) (record { memory = with_object m (Task task) (Dyn number) (new_object kind len); made = n })) (sym now);
  shows = shows_given s.heap h m (Task task) (Dyn number) (new_object kind len) shows puts;
}

not_true : (b : Bool) → true ≡ not b → b ≡ false
not_true true h = absurd (false≢true (sym h))
not_true false h = refl

pub ends_is : (s : Space) (h : Layout) (task k : ℕ) (object : Object) → object_in s.heap (Task task) (Dyn k) ≡ Some object
    → true ≡ not (is_some_place (barred_to_stores (marks_in s.heap)) (Task task) (Dyn k) 0 (length object.words)) → Puts s.heap h (Task task) (Dyn k) None
    → (m : Memory) → Shows s.heap m → Answered (record s { heap = h }) task Done (drop (marks_in s.heap) task (objects_in s m task) (Dyn k))
ends_is s h task k object lives clear puts m shows = record {
  memory = without m (Task task) (Dyn k);
  gives =
      ap (drop_in (marks_in s.heap) task (objects_in s m task) (Dyn k)) (shows (Task task) (Dyn k) ∙ lives)
      ∙ ap (λ b. if b then Breaks PendingDrop else Answers Done (record { memory = without m (Task task) (Dyn k); made = made_in s task })) (not_true (is_some_place (barred_to_stores (marks_in s.heap)) (Task task) (Dyn k) 0 (length object.words)) clear);
  shows = shows_ended s.heap h m (Task task) (Dyn k) shows puts;
}

module _ (s : Space) (m : Memory) (task len words : ℕ) (shows : Shows s.heap m) where
  fits : words ≡ live_of s.heap task (made_in s task) + len → words ≤ s.quota → nat_le (live_words task (objects_in s m task) + len) s.quota ≡ true
  fits is room = let live = words_shown s m task shows in le_true (live_words task (objects_in s m task) + len) s.quota (omega arith)

  full : s.quota < live_of s.heap task (made_in s task) + len → nat_le (live_words task (objects_in s m task) + len) s.quota ≡ false
  full past = let live = words_shown s m task shows in le_false (live_words task (objects_in s m task) + len) s.quota (omega arith)

  pub new_fits : words ≡ live_of s.heap task (made_in s task) + len → words ≤ s.quota → makes task (objects_in s m task) Local len ≡ new s.quota task (objects_in s m task) len
  new_fits is room = sym (ap (λ b. if b then makes task (objects_in s m task) Local len else Breaks StackFull) (fits is room))

  pub new_full : s.quota < live_of s.heap task (made_in s task) + len → new s.quota task (objects_in s m task) len ≡ Breaks StackFull
  new_full past = ap (λ b. if b then makes task (objects_in s m task) Local len else Breaks StackFull) (full past)

  pub malloc_fits : words ≡ live_of s.heap task (made_in s task) + len → words ≤ s.quota → makes task (objects_in s m task) Block len ≡ malloc s.quota task (objects_in s m task) (pos len)
  malloc_fits is room = sym (ap (λ b. if b then makes task (objects_in s m task) Block len else Answers (Gives Null) (objects_in s m task)) (fits is room))

  pub malloc_full : s.quota < live_of s.heap task (made_in s task) + len → malloc s.quota task (objects_in s m task) (pos len) ≡ Answers (Gives Null) (objects_in s m task)
  malloc_full past = ap (λ b. if b then makes task (objects_in s m task) Block len else Answers (Gives Null) (objects_in s m task)) (full past)

-- a block by the number that was asked for; none of a negative number of words, nor of more than the quota
pub malloc_is : (s : Space) (m : Memory) (task : ℕ) (n : ℤ) (len words : ℕ) → n ≡ pos len → Shows s.heap m → words ≡ live_of s.heap task (made_in s task) + len → words ≤ s.quota → makes task (objects_in s m task) Block len ≡ malloc s.quota task (objects_in s m task) n
malloc_is s m task n len words number shows is room = malloc_fits s m task len words shows is room ∙ ap (λ k. malloc s.quota task (objects_in s m task) k) (sym number)

pub malloc_over : (s : Space) (m : Memory) (task : ℕ) (n : ℤ) (len : ℕ) → n ≡ pos len → Shows s.heap m → s.quota < live_of s.heap task (made_in s task) + len → malloc s.quota task (objects_in s m task) n ≡ Answers (Gives Null) (objects_in s m task)
malloc_over s m task n len number shows past = ap (λ k. malloc s.quota task (objects_in s m task) k) number ∙ malloc_full s m task len 0 shows past

pub malloc_none : (s : Space) (m : Memory) (task : ℕ) (n : ℤ) → Shows s.heap m → (n <ℤ pos 0) ⊎ (pos s.quota <ℤ n) → malloc s.quota task (objects_in s m task) n ≡ Answers (Gives Null) (objects_in s m task)
malloc_none s m task (pos n) shows (inl low) = absurd (omega (arith, ints))
malloc_none s m task (pos n) shows (inr high) = malloc_full s m task n 0 shows (omega (arith, ints))
malloc_none s m task (negsuc n) shows past = refl
