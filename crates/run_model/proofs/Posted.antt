-- What a step posts: nothing, and the postings are as they were; or one posting, which has the next number and the first
-- fitting partner.
use Rattle.std.proofs.Common.{◌≡◌, ◌⊎◌, inl, inr, ◌+◌, ℕ, Bool, true, false, T, if◌then◌else◌, nat_le, length, Option, Some, None, refl, ap, sym, ◌∙◌, subst}
use Rattle.mpc_values.specs.declared.answers.Answer.TheVariants.{Done, Gives, Posted, Got, Flag, Any, Entered}
use Rattle.mpc_values.specs.declared.answers.Way.{Way}
use Rattle.mpc_values.specs.declared.calls.Call.{Call}
use Rattle.mpc_values.specs.declared.calls.Call.TheVariants as call
use Rattle.mpc_values.specs.declared.faults.Fault.TheVariants.{Calls}
use Rattle.mpc_base.specs.declared.journals.Out.{Out}
use Rattle.mpc_base.specs.declared.journals.Out.TheVariants as out
use Rattle.mpc_base.specs.declared.journals.Entry.{Entry}
use Rattle.c_tree.specs.declared.program.Construct.{Construct}
use Rattle.c_tree.specs.Asking.{AnswerKind, kind_of, is_of}
use Rattle.hls_sync.specs.Meetings.{Site}
use Rattle.hls_sync.specs.Ways.{way_of}
use Rattle.mpi_queue.specs.declared.postings.Posting.{Posting}
use Rattle.mpi_queue.specs.History.{partner_of, with_posting}
use Rattle.run_model.specs.declared.offers.Asked.{Asked}
use Rattle.run_model.specs.declared.offers.Asked.TheVariants.{Refused, Nobody, Posts}
use Rattle.run_model.specs.Setup.{Setup}
use Rattle.run_model.specs.World.{Core, World}
use Rattle.run_model.specs.Outcomes.{Outcome, Does, Fails, Waits}
use Rattle.run_model.specs.Posting.{offered, number_or_none, words_after, partner_carried, post}
use Rattle.run_model.specs.Sharing.{is_single, construct_of, at_construct, visiting, enter}
use Rattle.run_model.specs.Act.{act}
use Rattle.run_model.specs.Steps.{tried, course_of, out_of, core_after}
use Rattle.run_model.specs.Stepping.{IsStep}
use Rattle.run_model.specs.Matches.{Told, told_in}
use Rattle.run_model.proofs.Fitting.{Fits}
use Rattle.run_model.proofs.AnswersFit.{answers_fit}
use Rattle.run_model.proofs.Steps.{after_is}
use Rattle.run_model.proofs.Answers.{out_is}
use Rattle.run_model.proofs.SamePostings.{SamePostings, same_act}

-- what became of a call tells of no posting that has a number
unfoldable pub TellsNone : Out → Type 0
TellsNone o = (t : Told) → told_in o ≡ Some t → (t.post ≡ 0) × (t.met ≡ 0)

-- one posting more, and what is told of it
pub record TellsOne (core after : Core) (o : Out) : Type 0 where
  pub posting : Posting
  pub words : ℕ
  pub told : told_in o ≡ Some (record { post = length core.postings + 1; met = number_or_none (partner_of core.postings posting); words = words })
  pub postings : after.postings ≡ with_posting core.postings posting

abbrev pub StepPosts : Core → Core → Out → Type 0
StepPosts core after o = (TellsNone o × (after.postings ≡ core.postings)) ⊎ TellsOne core after o

unfoldable OutcomePosts : Core → Outcome → Type 0
OutcomePosts core (Does answer after) = StepPosts core after (out.Did answer)
OutcomePosts core (Fails fault) = Unit {0}
OutcomePosts core Waits = Unit {0}

pub none_told : (o : Out) → told_in o ≡ None → TellsNone o
unfolding TellsNone
none_told o e t h = absurd (never (sym e ∙ h))
  where
    never : None ≡ Some t → ⊥
    never h' = cc

-- an outcome whose answer is of another kind
other_posts : (core : Core) (kind : AnswerKind) (o : Outcome) → ((req post met words : ℕ) → T (is_of kind (Posted req post met words)) → ⊥) → Fits kind o → SamePostings core o → OutcomePosts core o
unfolding OutcomePosts Fits SamePostings
other_posts core kind (Does (Posted req post met words) after) never h same = absurd (never req post met words h)
other_posts core kind (Does Done after) never h same = inl (none_told (out.Did Done) refl, same)
other_posts core kind (Does (Gives word) after) never h same = inl (none_told (out.Did (Gives word)) refl, same)
other_posts core kind (Does (Got status) after) never h same = inl (none_told (out.Did (Got status)) refl, same)
other_posts core kind (Does (Flag status) after) never h same = inl (none_told (out.Did (Flag status)) refl, same)
other_posts core kind (Does (Any index status) after) never h same = inl (none_told (out.Did (Any index status)) refl, same)
other_posts core kind (Does (Entered way) after) never h same = inl (none_told (out.Did (Entered way)) refl, same)
other_posts core kind (Fails fault) never h same = tt
other_posts core kind Waits never h same = tt

posts_if : (core : Core) (b : Bool) (x y : Outcome) → OutcomePosts core x → OutcomePosts core y → OutcomePosts core (if b then x else y)
posts_if core true x y h g = h
posts_if core false x y h g = g

enter_posts : (setup : Setup) (core : Core) (task construct : ℕ) (c : Option Construct) (way : Site → Way) → OutcomePosts core (at_construct setup core is_single construct (λ site. Does (Entered (way site)) (visiting core task construct)) c)
unfolding OutcomePosts
enter_posts setup core task construct None way = inl (none_told (out.Did Done) refl, refl)
enter_posts setup core task construct (Some c) way =
    posts_if core (is_single c.kind) _ _ (inl (none_told (out.Did (Entered _)) refl, refl)) (inl (none_told (out.Did Done) refl, refl))

pub some_told : (a b : Told) → Some a ≡ Some b → a ≡ b
some_told a b h = cc

pub nobody_tells : (req : ℕ) → TellsNone (out.Did (Posted req 0 0 0))
unfolding TellsNone
nobody_tells req t h =
    let same : record { post = 0; met = 0; words = 0 } ≡ t = some_told _ t h in
    (ap (λ (x : Told). x.post) (sym same), ap (λ (x : Told). x.met) (sym same))

offered_posts : (core : Core) (task : ℕ) (send : Bool) (a : Asked) → OutcomePosts core (offered core task send a)
unfolding OutcomePosts
offered_posts core task send (Refused fault) = tt
offered_posts core task send Nobody = inl (nobody_tells _, refl)
offered_posts core task send (Posts p mine) = inr (record { posting = p; words = words_after p.send mine (partner_carried core.carried (partner_of core.postings p)); told = refl; postings = refl })

act_posts : (setup : Setup) (core : Core) (task : ℕ) (c : Call) → OutcomePosts core (act setup core task c)
unfolding act enter post
act_posts setup core task (call.Load at) = other_posts core (kind_of (call.Load at)) _ (λ req post met words h. h) (answers_fit setup core task (call.Load at) tt) (same_act setup core task (call.Load at) (λ h. h))
act_posts setup core task (call.Store at word) = other_posts core (kind_of (call.Store at word)) _ (λ req post met words h. h) (answers_fit setup core task (call.Store at word) tt) (same_act setup core task (call.Store at word) (λ h. h))
act_posts setup core task (call.New len) = other_posts core (kind_of (call.New len)) _ (λ req post met words h. h) (answers_fit setup core task (call.New len) tt) (same_act setup core task (call.New len) (λ h. h))
act_posts setup core task (call.Drop obj) = other_posts core (kind_of (call.Drop obj)) _ (λ req post met words h. h) (answers_fit setup core task (call.Drop obj) tt) (same_act setup core task (call.Drop obj) (λ h. h))
act_posts setup core task (call.Malloc n) = other_posts core (kind_of (call.Malloc n)) _ (λ req post met words h. h) (answers_fit setup core task (call.Malloc n) tt) (same_act setup core task (call.Malloc n) (λ h. h))
act_posts setup core task (call.Free at) = other_posts core (kind_of (call.Free at)) _ (λ req post met words h. h) (answers_fit setup core task (call.Free at) tt) (same_act setup core task (call.Free at) (λ h. h))
act_posts setup core task (call.Print text) = other_posts core (kind_of (call.Print text)) _ (λ req post met words h. h) (answers_fit setup core task (call.Print text) tt) (same_act setup core task (call.Print text) (λ h. h))
act_posts setup core task (call.Broke fault) = other_posts core (kind_of (call.Broke fault)) _ (λ req post met words h. h) (answers_fit setup core task (call.Broke fault) tt) (same_act setup core task (call.Broke fault) (λ h. h))
act_posts setup core task (call.Finish code) = other_posts core (kind_of (call.Finish code)) _ (λ req post met words h. h) (answers_fit setup core task (call.Finish code) tt) (same_act setup core task (call.Finish code) (λ h. h))
act_posts setup core task call.Init = other_posts core (kind_of call.Init) _ (λ req post met words h. h) (answers_fit setup core task call.Init tt) (same_act setup core task call.Init (λ h. h))
act_posts setup core task call.Finalize = other_posts core (kind_of call.Finalize) _ (λ req post met words h. h) (answers_fit setup core task call.Finalize tt) (same_act setup core task call.Finalize (λ h. h))
act_posts setup core task (call.Abort comm code) = other_posts core (kind_of (call.Abort comm code)) _ (λ req post met words h. h) (answers_fit setup core task (call.Abort comm code) tt) (same_act setup core task (call.Abort comm code) (λ h. h))
act_posts setup core task (call.Rank comm) = other_posts core (kind_of (call.Rank comm)) _ (λ req post met words h. h) (answers_fit setup core task (call.Rank comm) tt) (same_act setup core task (call.Rank comm) (λ h. h))
act_posts setup core task (call.Size comm) = other_posts core (kind_of (call.Size comm)) _ (λ req post met words h. h) (answers_fit setup core task (call.Size comm) tt) (same_act setup core task (call.Size comm) (λ h. h))
act_posts setup core task (call.Send at count kind peer tag comm sync) = offered_posts core task true _
act_posts setup core task (call.Recv at count kind peer tag comm) = offered_posts core task false _
act_posts setup core task (call.Complete req) = other_posts core (kind_of (call.Complete req)) _ (λ req post met words h. h) (answers_fit setup core task (call.Complete req) tt) (same_act setup core task (call.Complete req) (λ h. h))
act_posts setup core task (call.Test req) = other_posts core (kind_of (call.Test req)) _ (λ req post met words h. h) (answers_fit setup core task (call.Test req) tt) (same_act setup core task (call.Test req) (λ h. h))
act_posts setup core task (call.AnyOf reqs) = other_posts core (kind_of (call.AnyOf reqs)) _ (λ req post met words h. h) (answers_fit setup core task (call.AnyOf reqs) tt) (same_act setup core task (call.AnyOf reqs) (λ h. h))
act_posts setup core task (call.Probe peer tag comm) = other_posts core (kind_of (call.Probe peer tag comm)) _ (λ req post met words h. h) (answers_fit setup core task (call.Probe peer tag comm) tt) (same_act setup core task (call.Probe peer tag comm) (λ h. h))
act_posts setup core task (call.Iprobe peer tag comm) = other_posts core (kind_of (call.Iprobe peer tag comm)) _ (λ req post met words h. h) (answers_fit setup core task (call.Iprobe peer tag comm) tt) (same_act setup core task (call.Iprobe peer tag comm) (λ h. h))
act_posts setup core task (call.Arrive coll) = other_posts core (kind_of (call.Arrive coll)) _ (λ req post met words h. h) (answers_fit setup core task (call.Arrive coll) tt) (same_act setup core task (call.Arrive coll) (λ h. h))
act_posts setup core task (call.Leave comm) = other_posts core (kind_of (call.Leave comm)) _ (λ req post met words h. h) (answers_fit setup core task (call.Leave comm) tt) (same_act setup core task (call.Leave comm) (λ h. h))
act_posts setup core task (call.HlsEnter construct) = enter_posts setup core task construct (construct_of setup construct) (λ site. way_of site core.visits task)
act_posts setup core task (call.HlsWait construct) = other_posts core (kind_of (call.HlsWait construct)) _ (λ req post met words h. h) (answers_fit setup core task (call.HlsWait construct) tt) (same_act setup core task (call.HlsWait construct) (λ h. h))
act_posts setup core task (call.HlsExit construct) = other_posts core (kind_of (call.HlsExit construct)) _ (λ req post met words h. h) (answers_fit setup core task (call.HlsExit construct) tt) (same_act setup core task (call.HlsExit construct) (λ h. h))
act_posts setup core task (call.HlsBar construct) = other_posts core (kind_of (call.HlsBar construct)) _ (λ req post met words h. h) (answers_fit setup core task (call.HlsBar construct) tt) (same_act setup core task (call.HlsBar construct) (λ h. h))
act_posts setup core task (call.HlsBarWait construct) = other_posts core (kind_of (call.HlsBarWait construct)) _ (λ req post met words h. h) (answers_fit setup core task (call.HlsBarWait construct) tt) (same_act setup core task (call.HlsBarWait construct) (λ h. h))

outcome_posts : (core : Core) (o : Outcome) → OutcomePosts core o → StepPosts core (core_after core o) (out_of o)
unfolding OutcomePosts
outcome_posts core (Does answer after) h = h
outcome_posts core (Fails fault) h = inl (none_told (out.Broke fault) refl, refl)
outcome_posts core Waits h = inl (none_told out.Waits refl, refl)

fails_posts : (core : Core) (o : Outcome) (b : Bool) → OutcomePosts core o → OutcomePosts core (if b then Fails Calls else o)
unfolding OutcomePosts
fails_posts core o true h = tt
fails_posts core o false h = h

module _ {setup : Setup} {w : World} {task : ℕ} {entry : Entry} {after : World} (s : IsStep setup w task entry after) where
  pub step_posts : StepPosts w.core after.core entry.out
  step_posts =
      subst (λ (x : Out). StepPosts w.core after.core x) (out_is s)
      (subst (λ (x : World). StepPosts w.core x.core (out_of (tried setup w task s.call))) (after_is s)
      (outcome_posts w.core (tried setup w task s.call) (fails_posts w.core (act setup w.core task s.call) (nat_le setup.calls (course_of w.log task).entries) (act_posts setup w.core task s.call))))
