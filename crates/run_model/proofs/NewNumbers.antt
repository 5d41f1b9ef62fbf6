-- A posting gets its task's next request and the next number.
use Rattle.std.proofs.Common.{◌≡◌, ◌⊎◌, ◌<◌, ◌+◌, ℕ, Bool, true, false, T, if◌then◌else◌, nat_le, length, Option, Some, None, ap, sym, ◌∙◌, subst}
use Rattle.mpc_values.specs.declared.calls.Call.{Call}
use Rattle.mpc_values.specs.declared.calls.Call.TheVariants as call
use Rattle.mpc_values.specs.declared.answers.Answer.{Answer}
use Rattle.mpc_values.specs.declared.answers.Answer.TheVariants.{Done, Gives, Posted, Got, Flag, Any, Entered}
use Rattle.mpc_values.specs.declared.answers.Way.{Way}
use Rattle.mpc_values.specs.declared.faults.Fault.{Fault}
use Rattle.mpc_values.specs.declared.faults.Fault.TheVariants.{Calls}
use Rattle.mpc_base.specs.declared.journals.Out.TheVariants as out
use Rattle.mpc_base.specs.declared.journals.Entry.{Entry}
use Rattle.c_tree.specs.declared.program.Construct.{Construct}
use Rattle.c_tree.specs.Asking.{AnswerKind, kind_of, is_of}
use Rattle.hls_sync.specs.Meetings.{Site}
use Rattle.hls_sync.specs.Ways.{way_of}
use Rattle.run_model.specs.Setup.{Setup}
use Rattle.run_model.specs.World.{Core, World}
use Rattle.run_model.specs.Outcomes.{Outcome, Does, Fails, Waits, requests_of}
use Rattle.run_model.specs.Sharing.{is_single, construct_of, at_construct, visiting, enter}
use Rattle.run_model.specs.Act.{act}
use Rattle.run_model.specs.Steps.{out_of, core_after, course_of, tried}
use Rattle.run_model.specs.Stepping.{IsStep}
use Rattle.run_model.specs.Separate.{NextNumbers}
use Rattle.run_model.proofs.Fitting.{Fits}
use Rattle.run_model.proofs.AnswersFit.{answers_fit}
use Rattle.run_model.proofs.Steps.{after_is}
use Rattle.run_model.proofs.Answers.{out_is}
use Rattle.run_model.proofs.LeavingMessages.{PostsNew, post_new}

-- an outcome whose answer is of another kind posts nothing
new_by : (core : Core) (task : ℕ) (kind : AnswerKind) (o : Outcome) → ((req post met words : ℕ) → T (is_of kind (Posted req post met words)) → ⊥) → Fits kind o → PostsNew core task o
unfolding PostsNew Fits
new_by core task kind (Does (Posted req post met words) after) never h = absurd (never req post met words h)
new_by core task kind (Does Done after) never h = tt
new_by core task kind (Does (Gives word) after) never h = tt
new_by core task kind (Does (Got status) after) never h = tt
new_by core task kind (Does (Flag status) after) never h = tt
new_by core task kind (Does (Any index status) after) never h = tt
new_by core task kind (Does (Entered way) after) never h = tt
new_by core task kind (Fails fault) never h = tt
new_by core task kind Waits never h = tt

new_if : (core : Core) (task : ℕ) (b : Bool) (x y : Outcome) → PostsNew core task x → PostsNew core task y → PostsNew core task (if b then x else y)
new_if core task true x y h g = h
new_if core task false x y h g = g

fails_new : (core : Core) (task : ℕ) (fault : Fault) → PostsNew core task (Fails fault)
unfolding PostsNew
fails_new core task fault = tt

enter_new : (setup : Setup) (core : Core) (task construct : ℕ) (c : Option Construct) (way : Site → Way) (after : Core) → PostsNew core task (at_construct setup core is_single construct (λ site. Does (Entered (way site)) after) c)
unfolding PostsNew
enter_new setup core task construct None way after = tt
enter_new setup core task construct (Some c) way after = new_if core task (is_single c.kind) _ _ tt tt

act_new : (setup : Setup) (core : Core) (task : ℕ) (c : Call) → PostsNew core task (act setup core task c)
unfolding act enter
act_new setup core task (call.Load at) = new_by core task (kind_of (call.Load at)) _ (λ req post met words h. h) (answers_fit setup core task (call.Load at) tt)
act_new setup core task (call.Store at word) = new_by core task (kind_of (call.Store at word)) _ (λ req post met words h. h) (answers_fit setup core task (call.Store at word) tt)
act_new setup core task (call.New len) = new_by core task (kind_of (call.New len)) _ (λ req post met words h. h) (answers_fit setup core task (call.New len) tt)
act_new setup core task (call.Drop obj) = new_by core task (kind_of (call.Drop obj)) _ (λ req post met words h. h) (answers_fit setup core task (call.Drop obj) tt)
act_new setup core task (call.Malloc n) = new_by core task (kind_of (call.Malloc n)) _ (λ req post met words h. h) (answers_fit setup core task (call.Malloc n) tt)
act_new setup core task (call.Free at) = new_by core task (kind_of (call.Free at)) _ (λ req post met words h. h) (answers_fit setup core task (call.Free at) tt)
act_new setup core task (call.Print text) = new_by core task (kind_of (call.Print text)) _ (λ req post met words h. h) (answers_fit setup core task (call.Print text) tt)
act_new setup core task (call.Broke fault) = new_by core task (kind_of (call.Broke fault)) _ (λ req post met words h. h) (answers_fit setup core task (call.Broke fault) tt)
act_new setup core task (call.Finish code) = new_by core task (kind_of (call.Finish code)) _ (λ req post met words h. h) (answers_fit setup core task (call.Finish code) tt)
act_new setup core task call.Init = new_by core task (kind_of call.Init) _ (λ req post met words h. h) (answers_fit setup core task call.Init tt)
act_new setup core task call.Finalize = new_by core task (kind_of call.Finalize) _ (λ req post met words h. h) (answers_fit setup core task call.Finalize tt)
act_new setup core task (call.Abort comm code) = new_by core task (kind_of (call.Abort comm code)) _ (λ req post met words h. h) (answers_fit setup core task (call.Abort comm code) tt)
act_new setup core task (call.Rank comm) = new_by core task (kind_of (call.Rank comm)) _ (λ req post met words h. h) (answers_fit setup core task (call.Rank comm) tt)
act_new setup core task (call.Size comm) = new_by core task (kind_of (call.Size comm)) _ (λ req post met words h. h) (answers_fit setup core task (call.Size comm) tt)
act_new setup core task (call.Send at count kind peer tag comm sync) = post_new setup core task _
act_new setup core task (call.Recv at count kind peer tag comm) = post_new setup core task _
act_new setup core task (call.Complete req) = new_by core task (kind_of (call.Complete req)) _ (λ req post met words h. h) (answers_fit setup core task (call.Complete req) tt)
act_new setup core task (call.Test req) = new_by core task (kind_of (call.Test req)) _ (λ req post met words h. h) (answers_fit setup core task (call.Test req) tt)
act_new setup core task (call.AnyOf reqs) = new_by core task (kind_of (call.AnyOf reqs)) _ (λ req post met words h. h) (answers_fit setup core task (call.AnyOf reqs) tt)
act_new setup core task (call.Probe peer tag comm) = new_by core task (kind_of (call.Probe peer tag comm)) _ (λ req post met words h. h) (answers_fit setup core task (call.Probe peer tag comm) tt)
act_new setup core task (call.Iprobe peer tag comm) = new_by core task (kind_of (call.Iprobe peer tag comm)) _ (λ req post met words h. h) (answers_fit setup core task (call.Iprobe peer tag comm) tt)
act_new setup core task (call.Arrive coll) = new_by core task (kind_of (call.Arrive coll)) _ (λ req post met words h. h) (answers_fit setup core task (call.Arrive coll) tt)
act_new setup core task (call.Leave comm) = new_by core task (kind_of (call.Leave comm)) _ (λ req post met words h. h) (answers_fit setup core task (call.Leave comm) tt)
act_new setup core task (call.HlsEnter construct) = enter_new setup core task construct (construct_of setup construct) (λ site. way_of site core.visits task) (visiting core task construct)
act_new setup core task (call.HlsWait construct) = new_by core task (kind_of (call.HlsWait construct)) _ (λ req post met words h. h) (answers_fit setup core task (call.HlsWait construct) tt)
act_new setup core task (call.HlsExit construct) = new_by core task (kind_of (call.HlsExit construct)) _ (λ req post met words h. h) (answers_fit setup core task (call.HlsExit construct) tt)
act_new setup core task (call.HlsBar construct) = new_by core task (kind_of (call.HlsBar construct)) _ (λ req post met words h. h) (answers_fit setup core task (call.HlsBar construct) tt)
act_new setup core task (call.HlsBarWait construct) = new_by core task (kind_of (call.HlsBarWait construct)) _ (λ req post met words h. h) (answers_fit setup core task (call.HlsBarWait construct) tt)

told : (core : Core) (task : ℕ) (o : Outcome) (req post met words : ℕ) → PostsNew core task o → out_of o ≡ out.Did (Posted req post met words)
    → (req ≡ length (requests_of core task) + 1) × (task < length core.requests → length (requests_of (core_after core o) task) ≡ req)
    × ((post ≡ 0) ⊎ ((post ≡ length core.postings + 1) × (length (core_after core o).postings ≡ post)))
unfolding PostsNew
told core task (Does answer after) req post met words h e = by answer (same answer e) h
  where
    same : (a : Answer) → out.Did a ≡ out.Did (Posted req post met words) → Posted req post met words ≡ a
    same a e' = cc

    by : (a : Answer) → Posted req post met words ≡ a → PostsNew core task (Does a after)
        → (req ≡ length (requests_of core task) + 1) × (task < length core.requests → length (requests_of after task) ≡ req) × ((post ≡ 0) ⊎ ((post ≡ length core.postings + 1) × (length after.postings ≡ post)))
    by a is h' = subst (λ a'. PostsNew core task (Does a' after)) (sym is) h'
told core task (Fails fault) req post met words h e = cc
told core task Waits req post met words h e = cc

module _ {setup : Setup} {w : World} {task : ℕ} {entry : Entry} {after : World} (s : IsStep setup w task entry after) where
  pub new_numbers : (req post met words : ℕ) → entry.out ≡ out.Did (Posted req post met words) → task < length w.core.requests → NextNumbers w.core after.core task req post
  new_numbers req post met words e there =
      let t = told w.core task (tried setup w task s.call) req post met words
      (new_if w.core task (nat_le setup.calls (course_of w.log task).entries) (Fails Calls) (act setup w.core task s.call) (fails_new w.core task Calls) (act_new setup w.core task s.call))
      (out_is s ∙ e) in
      let same : core_after w.core (tried setup w task s.call) ≡ after.core = ap (λ (x : World). x.core) (after_is s) in
      record {
        request = t.0;
        counted = ap (λ c. length (requests_of c task)) (sym same) ∙ t.1 there;
        posting = subst (λ (c : Core). (post ≡ 0) ⊎ ((post ≡ length w.core.postings + 1) × (length c.postings ≡ post))) same t.2;
      }
