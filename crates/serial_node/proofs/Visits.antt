-- What a visit finds, as the model's step.
use Rattle.std.proofs.Common.{◌≡◌, ℕ, true, false, Bool, ◌||◌, ◌&&◌, length, slice_index, arith, List, [], ◌∷◌, ◌++◌, Option, Some, None, refl, ap, sym, ◌∙◌, ◌≤◌}
use Rattle.std.specs.Option.{is_some}
use Rattle.mpc_values.specs.declared.calls.Call.{Call}
use Rattle.mpc_values.specs.declared.answers.Answer.{Answer}
use Rattle.mpc_base.specs.declared.journals.Out.{Out}
use Rattle.mpc_base.specs.declared.journals.Entry.{Entry}
use Rattle.mpc_values.specs.CallTable.{call_number}
use Rattle.c_tree.specs.Asking.{Asks}
use Rattle.c_tree.specs.Next.{next_of}
use Rattle.c_tree.specs.ProgramOf.{program_of}
use Rattle.serial_model.specs.declared.records.Setup.{Setup}
use Rattle.serial_model.specs.World.{World, TaskState, start}
use Rattle.serial_model.specs.Go.{Stays, Makes, go, has_ended, visited, answers_of, calls_limit, entry_of}
use Rattle.serial_model.specs.Run.{world_of, run, order_of}
use Rattle.serial_model.proofs.Bounds.{bounded}
use Rattle.serial_model.proofs.Runs.{run-start, world_of-push, entries-push}
use Rattle.serial_node.specs.declared.state.State.{State}
use Rattle.serial_node.specs.Worlds.{world_seen, answers_after, state_of, SameState}
use Rattle.serial_node.specs.Visits.{made, reply_of, reply_to}
use Rattle.serial_node.specs.IsRun.{IsRun}

module _ (setup : Setup) (w : World) where
  pub go_ended : has_ended w ≡ true → go setup w 0 ≡ Stays
  go_ended ended = rw ended refl

pub left_false : (a b : Bool) → (a || b) ≡ false → a ≡ false
left_false true b h = absurd (cc h)
left_false false b h = refl

pub right_false : (a b : Bool) → (a || b) ≡ false → b ≡ false
right_false true b h = absurd (cc h)
right_false false b h = h

pub and_true : (a : Bool) → (a && true) ≡ false → a ≡ false
and_true true h = absurd (cc h)
and_true false h = refl

pub none_of : {A : Type 0} (x : Option A) → is_some x ≡ false → x ≡ None
none_of None h = refl
none_of (Some x) h = absurd (cc h)

-- a task that has not finished asks a call
go_state : (setup : Setup) (answers : List (List Answer)) (s : State) (call : Call) (line : ℕ) → has_ended (world_seen answers s) ≡ false
    → next_of (program_of setup.program) (answers_of (world_seen answers s) 0) ≡ Asks call line
    → go setup (world_seen answers s) 0 ≡ visited (world_seen answers s) 0 (state_of s) call line
go_state setup answers s call line going asks =
    let none : is_some s.last ≡ false = left_false _ _ going in
    let goes : is_some s.exit ≡ false = and_true _ (right_false _ _ going) in
    rw (none, goes, asks) refl

abbrev made_first : List TaskState → ℕ
made_first [] = 0
made_first (state ∷ more) = state.made

module _ (setup : Setup) (entries : List Entry) (state : State) (is : IsRun setup entries state) where
  pub end_here : (b : Bool) → b ≡ has_ended (world_seen (world_of setup entries).answers state) → has_ended (world_of setup entries) ≡ b
  end_here b h = ap has_ended is.world ∙ sym h

  pub stepped : (call : Call) (line : ℕ) (after : World) (e : Entry) → next_of (program_of setup.program) (answers_of (world_of setup entries) 0) ≡ Asks call line
      → false ≡ has_ended (world_seen (world_of setup entries).answers state)
      → visited (world_seen (world_of setup entries).answers state) 0 (state_of state) call line ≡ Makes e after
      → go setup (world_of setup entries) 0 ≡ Makes e after
  stepped call line after e asks going did =
      ap (λ w. go setup w 0) is.world
      ∙ go_state setup (world_of setup entries).answers state call line (sym going) (ap (λ w. next_of (program_of setup.program) (answers_of w 0)) (sym is.world) ∙ asks)
      ∙ did

  -- the run has made as many entries as the state counts, and no more objects
  pub few_here : false ≡ has_ended (world_seen (world_of setup entries).answers state) → (state.count ≤ calls_limit) × (state.places.made ≤ state.count)
  few_here going =
      let b = bounded setup (order_of entries) in
      let none : state.last ≡ None = none_of state.last (left_false (is_some state.last) (is_some state.exit && true) (sym going)) in
      let gone : (world_of setup entries).last ≡ None = ap (λ w. w.last) is.world ∙ none in
      let counts : state.count ∷ [] ≡ length (run setup (order_of entries)).entries ∷ [] = sym (ap (λ w. w.counts) is.world) ∙ b.counts in
      let count : state.count ≡ length (run setup (order_of entries)).entries = ap (λ ns. slice_index ns 0) counts in
      let tasks : state_of state ∷ [] ≡ b.state ∷ [] = sym (ap (λ w. w.tasks) is.world) ∙ b.tasks in
      let made : state.places.made ≡ b.state.made = ap made_first tasks in
      let few = b.few gone in
      let less = b.made in
      (omega arith, omega arith)

-- a step's entry keeps the run
pub IsRun-push : (setup : Setup) (entries : List Entry) (before after : State) (answers : List (List Answer)) (e : Entry) → IsRun setup entries before
    → go setup (world_of setup entries) e.task ≡ Makes e (world_seen answers after) → IsRun setup (entries ++ e ∷ []) after
IsRun-push setup entries before after answers e is went =
    let there : world_of setup (entries ++ e ∷ []) ≡ world_seen answers after = world_of-push setup entries e (world_seen answers after) went in
    record {
      legal = entries-push setup entries e (world_seen answers after) is.legal went;
      world = there ∙ ap (λ w. world_seen w.answers after) (sym there);
    }

-- a state that looks the same
pub IsRun-same : (setup : Setup) (entries : List Entry) (before after : State) → IsRun setup entries before → SameState before after → IsRun setup entries after
IsRun-same setup entries before after is same = record { legal = is.legal; world = rw (same.places, same.output, same.exit, same.count, same.last) is.world }

-- at the start there is no entry
pub IsRun-start : (setup : Setup) (state : State) → start setup ≡ world_seen (start setup).answers state → IsRun setup [] state
IsRun-start setup state is =
    let begins = run-start setup in
    record {
      legal = ap (λ r. r.entries) begins;
      world = ap (λ r. r.world) begins ∙ is ∙ ap (λ w. world_seen w.answers state) (sym (ap (λ r. r.world) begins));
    }

-- a visit of a run that has not ended makes the entry that is put behind the others
module _ (setup : Setup) (entries : List Entry) (state after : State) (is : IsRun setup entries state) (call : Call) (line : ℕ) (out : Out)
    (asks : next_of (program_of setup.program) (answers_of (world_of setup entries) 0) ≡ Asks call line)
    (going : false ≡ has_ended (world_seen (world_of setup entries).answers state))
    (did : visited (world_seen (world_of setup entries).answers state) 0 (state_of state) call line
    ≡ Makes (entry_of 0 call line out) (world_seen (answers_after (world_of setup entries).answers out) after)) where
  went : go setup (world_of setup entries) 0 ≡ Makes (entry_of 0 call line out) (world_seen (answers_after (world_of setup entries).answers out) after)
  went = stepped setup entries state is call line (world_seen (answers_after (world_of setup entries).answers out) after) (entry_of 0 call line out) asks going did

  pub visit_keeps : (pushed : List Entry) → pushed ≡ entries ++ entry_of 0 call line out ∷ [] → IsRun setup pushed after
  visit_keeps pushed pushed_is =
      rw pushed_is (IsRun-push setup entries state after (answers_after (world_of setup entries).answers out) (entry_of 0 call line out) is went)

  pub visit_makes : (pushed : List Entry) → pushed ≡ entries ++ entry_of 0 call line out ∷ [] → pushed ≡ made entries (go setup (world_of setup entries) 0)
  visit_makes pushed pushed_is = pushed_is ∙ ap (made entries) (sym went)

  pub visit_replies : reply_to out ≡ reply_of (has_ended (world_of setup entries)) (go setup (world_of setup entries) 0)
  visit_replies = ap (reply_of (has_ended (world_of setup entries))) (sym went)

-- the entry that is put behind the others is that of the call
pub entry_pushed : (entries reserved pushed : List Entry) (task number : ℕ) (call : Call) (line : ℕ) (out : Out) → reserved ≡ entries
    → pushed ≡ reserved ++ record { task = task; line = line; call = number; out = out } ∷ [] → task ≡ 0 → number ≡ call_number call → pushed ≡ entries ++ entry_of 0 call line out ∷ []
entry_pushed entries reserved pushed task number call line out same pushed_is task_is number_is =
    pushed_is
    ∙ ap (λ es. es ++ record { task = task; line = line; call = number; out = out } ∷ []) same
    ∙ ap (λ t. entries ++ record { task = t; line = line; call = number; out = out } ∷ []) task_is
    ∙ ap (λ n. entries ++ record { task = 0; line = line; call = n; out = out } ∷ []) number_is
