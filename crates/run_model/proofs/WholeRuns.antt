-- In every run each message arrives whole.
use Rattle.std.proofs.Common.{◌≡◌, ◌≢◌, ◌⊎◌, inl, inr, ◌<◌, ◌≤◌, ◌+◌, ◌==◌, ℕ, ℤ, suc, Bool, true, false, if◌then◌else◌, nat_abs, List, [], ◌∷◌, ◌++◌, length, slice_get, Option, Some, None, Ok, refl, ap, sym, ◌∙◌, subst, length-append, arith}
use Rattle.std.proofs.lemmas.Bool.Decides.{eqb_tells}
use Rattle.std.proofs.lemmas.List.{take-append-le, take_at, take_all}
use Rattle.std.proofs.lemmas.Option.{slice_get_within}
use Rattle.mpc_values.specs.declared.values.Word.{Word}
use Rattle.mpc_values.specs.declared.values.Datatype.{Datatype}
use Rattle.mpc_values.specs.declared.calls.Call.{Call}
use Rattle.mpc_values.specs.declared.calls.Call.TheVariants as call
use Rattle.mpc_base.specs.declared.journals.Entry.{Entry}
use Rattle.mpc_base.specs.declared.journals.Journal.{Journal}
use Rattle.c_tree.specs.Asking.{Asks}
use Rattle.c_tree.specs.Next.{next_of}
use Rattle.memory_model.specs.declared.kinds.Span.{Span}
use Rattle.memory_model.specs.Memory.{Memory}
use Rattle.mpi_queue.specs.declared.postings.Posting.{Posting}
use Rattle.mpi_queue.specs.History.{Made, partner_of, with_posting}
use Rattle.mpi_queue.proofs.Changes.{with_posting-made}
use Rattle.mpi_request.specs.declared.requests.Awaited.TheVariants as awaited
use Rattle.mpi_request.specs.declared.requests.Carried.{Carried}
use Rattle.mpi_request.specs.Messages.{carried_of, delivered, moved_words}
use Rattle.mpi_request.specs.Requests.{receive_told, send_told, posting_told, told_of}
use Rattle.run_model.specs.declared.offers.Offer.{Offer}
use Rattle.run_model.specs.Setup.{Setup}
use Rattle.run_model.specs.World.{Core, World}
use Rattle.run_model.specs.Owners.{owner_of}
use Rattle.run_model.specs.Posting.{memory_after, words_after, partner_carried, number_or_none}
use Rattle.run_model.specs.Steps.{Makes, answers_of}
use Rattle.run_model.specs.Go.{go}
use Rattle.run_model.specs.Run.{Ran, run, at_start, order_of, world_of, LegalRun}
use Rattle.run_model.specs.Stepping.{IsStep}
use Rattle.run_model.specs.Matches.{Told, told_in, IsMatch, AreOf, world_before, IsPosted}
use Rattle.run_model.specs.Orderly.{Once, Whole, Unovertaken, Orderly, words_from, message_words}
use Rattle.run_model.proofs.Lists.{get_before}
use Rattle.run_model.proofs.Steps.{step_is, task_is}
use Rattle.run_model.proofs.Runs.{runs_keep, run-push}
use Rattle.run_model.proofs.LeavingMessages.{get_last, get_there, length-with_posting, same_posting}
use Rattle.run_model.proofs.Posted.{TellsNone, some_told}
use Rattle.run_model.proofs.MatchSteps.{IsMet, met_stays, was_open, told_within, match_split}
use Rattle.run_model.proofs.SeparateRuns.{Separate, separate}
use Rattle.run_model.proofs.OrderlyRuns.{Matched, matched}
use Rattle.run_model.proofs.Lengths.{named_span}
use Rattle.run_model.proofs.UnderWay.{IsUnderWay}
use Rattle.run_model.proofs.PostedCalls.{Carries, QuietStep, PostingStep, posted_under_way, new_under_way, offer_of, step_does}
use Rattle.run_model.proofs.Delivering.{Arrived, arrived_is, delivers}

-- The posting of a number is what an offer of a task named in a memory.
pub record IsOffered (setup : Setup) (m : Memory) (core : Core) (number asker : ℕ) (o : Offer) : Type 0 where
  pub index : ℕ
  pub counted : number ≡ suc index
  pub made : Made
  pub carried : Carried
  pub at : slice_get core.postings index ≡ Some made
  pub has : slice_get core.carried index ≡ Some carried
  pub is : Carries setup m asker o made.posting carried

-- What holds of the postings of every run: each is what its call named in the world before its entry; the receives that are
-- not matched are under way; and the messages that were matched have arrived whole.
pub record Wholes (setup : Setup) (r : Ran) : Type 0 where
  pub offered : (sent number asker : ℕ) (c : Call) (o : Offer) → IsPosted setup r.entries sent number asker c → number ≢ 0 → offer_of c ≡ Some o
      → IsOffered setup (world_before setup r.entries sent).core.memory r.world.core number asker o
  pub held : (index : ℕ) (made : Made) (mine : Carried) (span : Span) → slice_get r.world.core.postings index ≡ Some made → slice_get r.world.core.carried index ≡ Some mine
      → made.met ≡ None → made.posting.send ≡ false → mine.places ≡ Some span → IsUnderWay r.world.core made.posting.task (suc index) span
  pub whole : Whole setup r.entries

some_entry : (a b : Entry) → Some a ≡ Some b → a ≡ b
some_entry a b e = cc

some_made : (a b : Made) → Some a ≡ Some b → a ≡ b
some_made a b e = cc

some_carried : (a b : Carried) → Some a ≡ Some b → a ≡ b
some_carried a b e = cc

some_offer : (a b : Offer) → Some a ≡ Some b → a ≡ b
some_offer a b e = cc

asked_once : (a b : Call) (line line' : ℕ) → Asks a line ≡ Asks b line' → a ≡ b
asked_once a b line line' e = cc

no_entry : (index : ℕ) (entry : Entry) → slice_get {X = Entry} [] index ≡ Some entry → ⊥
no_entry index entry e = cc

no_posting : (index : ℕ) (made : Made) → slice_get {X = Made} [] index ≡ Some made → ⊥
no_posting index made e = cc

wholes_start : (setup : Setup) → Wholes setup (at_start setup)
wholes_start setup = record {
  offered = λ sent number asker c o p. absurd (no_entry sent p.entry p.at);
  held = λ index made mine span at. absurd (no_posting index made at);
  whole = λ index post met words sent sender send received receiver recv at at' comm comm' count count' peer peer' tag tag' kind kind' sync m of p. absurd (no_entry sent p.entry p.at);
}

-- the same posting, by equal parts
offered_is : (setup : Setup) (core : Core) (m m' : Memory) (number number' asker asker' : ℕ) (o o' : Offer) → m' ≡ m → number' ≡ number → asker' ≡ asker → o' ≡ o → IsOffered setup m core number asker o → IsOffered setup m' core number' asker' o'
offered_is setup core m m' number number' asker asker' o o' me ne ae oe h =
    subst (λ x. IsOffered setup x core number' asker' o') (sym me)
    (subst (λ x. IsOffered setup m core x asker' o') (sym ne)
    (subst (λ x. IsOffered setup m core number x o') (sym ae)
    (subst (IsOffered setup m core number asker) (sym oe) h)))

-- a receive that is not matched is told nothing
open_told : (core : Core) (index : ℕ) (made : Made) → slice_get core.postings index ≡ Some made → made.met ≡ None → made.posting.send ≡ false → told_of core.postings core.carried (awaited.Posting (suc index)) ≡ None
open_told core index made at alone receives =
    ap (posting_told core.postings core.carried (suc index)) at
    ∙ ap (λ b. if b then send_told made.met (carried_of core.carried (suc index)) else receive_told core.postings core.carried (suc index) made.met) receives
    ∙ ap (receive_told core.postings core.carried (suc index)) alone

module _ (setup : Setup) (r : Ran) (task : ℕ) (entry : Entry) (after : World) (mt : Matched setup r) (sp : Separate setup r) (h : Wholes setup r) (went : go setup r.world task ≡ Makes entry after) where
  s : IsStep setup r.world task entry after
  s = step_is setup r.world task entry after went

  abbrev all : List Entry
  all = r.entries ++ entry ∷ []

  abbrev core : Core
  core = r.world.core

  longer : length all ≡ length r.entries + 1
  longer = length-append r.entries (entry ∷ [])

  world_last : world_before setup all (length r.entries) ≡ r.world
  world_last = ap (world_of setup) (take_at r.entries (entry ∷ []) (length r.entries) refl) ∙ ap (λ (x : Ran). x.world) mt.again

  world_early : (index : ℕ) → index ≤ length r.entries → world_before setup all index ≡ world_before setup r.entries index
  world_early index early = ap (world_of setup) (take-append-le index r.entries (entry ∷ []) early)

  world_next : world_before setup all (length r.entries + 1) ≡ after
  world_next =
      ap (world_of setup) (take_all (length r.entries + 1) all (omega (arith, longer)))
      ∙ ap (λ (x : Ran). x.world) (run-push setup r.entries r entry after mt.again (subst (λ t. go setup r.world t ≡ Makes entry after) (sym (task_is s)) went))

  -- the posting of an earlier entry
  old_posted : (sent number asker : ℕ) (c : Call) → sent < length r.entries → IsPosted setup all sent number asker c → IsPosted setup r.entries sent number asker c
  old_posted sent number asker c early p = record {
    entry = p.entry;
    at = sym (get_before r.entries (entry ∷ []) sent early) ∙ p.at;
    by = p.by;
    met = p.met;
    words = p.words;
    told = p.told;
    asked = subst (λ (w : World). next_of setup.program (answers_of w asker) ≡ Asks c p.entry.line) (world_early sent (omega (arith, early))) p.asked;
  }

  -- the posting of the new entry
  last_entry : (sent number asker : ℕ) (c : Call) (p : IsPosted setup all sent number asker c) → sent ≡ length r.entries → entry ≡ p.entry
  last_entry sent number asker c p is = some_entry entry p.entry (sym (get_last r.entries entry) ∙ ap (slice_get all) (sym is) ∙ p.at)

  last_asker : (sent number asker : ℕ) (c : Call) (p : IsPosted setup all sent number asker c) → sent ≡ length r.entries → asker ≡ task
  last_asker sent number asker c p is = sym p.by ∙ ap (λ (e : Entry). e.task) (sym (last_entry sent number asker c p is)) ∙ task_is s

  last_call : (sent number asker : ℕ) (c : Call) (p : IsPosted setup all sent number asker c) → sent ≡ length r.entries → c ≡ s.call
  last_call sent number asker c p is =
      asked_once c s.call p.entry.line s.line
      (sym p.asked
      ∙ ap (λ t. next_of setup.program (answers_of (world_before setup all sent) t)) (last_asker sent number asker c p is)
      ∙ ap (λ (w : World). next_of setup.program (answers_of w task)) (ap (world_before setup all) is ∙ world_last)
      ∙ s.asked)

  last_told : (sent number asker : ℕ) (c : Call) (p : IsPosted setup all sent number asker c) → sent ≡ length r.entries → told_in entry.out ≡ Some (record { post = number; met = p.met; words = p.words })
  last_told sent number asker c p is = ap (λ (e : Entry). told_in e.out) (last_entry sent number asker c p is) ∙ p.told

  within_all : (sent number asker : ℕ) (c : Call) (p : IsPosted setup all sent number asker c) → sent < length r.entries + 1
  within_all sent number asker c p = omega (arith, slice_get_within all sent p.entry p.at, longer)

  abbrev Where : ℕ → Type 0
  Where sent = ((sent == length r.entries) ≡ true) × (sent ≡ length r.entries) ⊎ ((sent == length r.entries) ≡ false) × (sent ≢ length r.entries)

  -- the new entry posts nothing, or the posting of the next number
  abbrev Does : Type 0
  Does = QuietStep core after.core entry.out ⊎ PostingStep setup core after.core task s.call entry.out

  step : Does
  step = step_does s (sp.names task)

  new_number : (sent number asker : ℕ) (c : Call) (p : IsPosted setup all sent number asker c) → sent ≡ length r.entries → number ≢ 0 → number ≡ length core.postings + 1
  unfolding TellsNone
  new_number sent number asker c p is nonzero = by step
    where
      by : Does → number ≡ length core.postings + 1
      by (inl quiet) = absurd (nonzero (quiet.tells _ (last_told sent number asker c p is)).0)
      by (inr one) = ap (λ (t : Told). t.post) (some_told _ _ (sym (last_told sent number asker c p is) ∙ one.posted.told))

  -- a posting that was there is one of an earlier entry
  early_posted : (sent number asker : ℕ) (c : Call) → number ≢ 0 → number ≤ length core.postings → IsPosted setup all sent number asker c → sent < length r.entries
  early_posted sent number asker c nonzero there p = by (eqb_tells sent (length r.entries))
    where
      by : Where sent → sent < length r.entries
      by (inl e) = absurd (omega (arith, there, new_number sent number asker c p e.1 nonzero))
      by (inr e) = omega (arith, within_all sent number asker c p, e.1)

  met_there : (number : ℕ) → IsMet core.postings number → (number ≢ 0) × (number ≤ length core.postings)
  met_there number m = (λ z. absurd (omega (arith, z, m.counted)), omega (arith, m.counted, slice_get_within core.postings m.index m.made m.at))

  -- the messages that were matched before
  module _ (index post met words sent sender send received receiver recv : ℕ) (at at' comm comm' : Word) (count count' peer peer' tag tag' : ℤ) (kind kind' : Datatype) (sync : Bool) where
    abbrev Moved : List Entry → Type 0
    Moved entries = (words ≡ message_words kind kind' count count')
        × (words_from setup (world_before setup entries (index + 1)) receiver at' words ≡ words_from setup (world_before setup entries sent) sender at words)

    old_whole : IsMatch r.entries index post met words → AreOf post met send recv
        → IsPosted setup all sent send sender (call.Send at count kind peer tag comm sync) → IsPosted setup all received recv receiver (call.Recv at' count' kind' peer' tag' comm') → Moved all
    old_whole m of p q = by of
      where
        both : IsMet core.postings post × IsMet core.postings met
        both = mt.pairs index post met words m

        moved : IsMet core.postings send → IsMet core.postings recv → Moved all
        moved ms mr =
            let sent_early : sent < length r.entries = early_posted sent send sender _ (met_there send ms).0 (met_there send ms).1 p in
            let received_early : received < length r.entries = early_posted received recv receiver _ (met_there recv mr).0 (met_there recv mr).1 q in
            let was = h.whole index post met words sent sender send received receiver recv at at' comm comm' count count' peer peer' tag tag' kind kind' sync m of
            (old_posted sent send sender _ sent_early p) (old_posted received recv receiver _ received_early q) in
            let early : index < length r.entries = told_within r.entries index _ m.told in (
              was.0,
              ap (λ (w : World). words_from setup w receiver at' words) (world_early (index + 1) (omega (arith, early)))
                  ∙ was.1
                  ∙ ap (λ (w : World). words_from setup w sender at words) (sym (world_early sent (omega (arith, sent_early)))),
            )

        by : AreOf post met send recv → Moved all
        by (inl e) = moved (subst (IsMet core.postings) e.0 both.0) (subst (IsMet core.postings) e.1 both.1)
        by (inr e) = moved (subst (IsMet core.postings) e.1 both.1) (subst (IsMet core.postings) e.0 both.0)

  -- nothing was posted
  module _ (q : QuietStep core after.core entry.out) where
    quiet_lift : (m : Memory) (number asker : ℕ) (o : Offer) → IsOffered setup m core number asker o → IsOffered setup m after.core number asker o
    quiet_lift m number asker o k = record {
      index = k.index;
      counted = k.counted;
      made = k.made;
      carried = k.carried;
      at = ap (λ ps. slice_get ps k.index) q.postings ∙ k.at;
      has = ap (λ cs. slice_get cs k.index) q.kept.carried ∙ k.has;
      is = k.is;
    }

    quiet_offered : (sent number asker : ℕ) (c : Call) (o : Offer) → IsPosted setup all sent number asker c → number ≢ 0 → offer_of c ≡ Some o → IsOffered setup (world_before setup all sent).core.memory after.core number asker o
    unfolding TellsNone
    quiet_offered sent number asker c o p nonzero offers = by (eqb_tells sent (length r.entries))
      where
        by : Where sent → IsOffered setup (world_before setup all sent).core.memory after.core number asker o
        by (inl e) = absurd (nonzero (q.tells _ (last_told sent number asker c p e.1)).0)
        by (inr e) =
            let early : sent < length r.entries = omega (arith, within_all sent number asker c p, e.1) in
            subst (λ (w : World). IsOffered setup w.core.memory after.core number asker o) (sym (world_early sent (omega (arith, early))))
            (quiet_lift _ number asker o (h.offered sent number asker c o (old_posted sent number asker c early p) nonzero offers))

    quiet_held : (index : ℕ) (made : Made) (mine : Carried) (span : Span) → slice_get after.core.postings index ≡ Some made → slice_get after.core.carried index ≡ Some mine
        → made.met ≡ None → made.posting.send ≡ false → mine.places ≡ Some span → IsUnderWay after.core made.posting.task (suc index) span
    quiet_held index made mine span at has alone receives places =
        let at' : slice_get core.postings index ≡ Some made = ap (λ ps. slice_get ps index) (sym q.postings) ∙ at in
        q.kept.held made.posting.task (suc index) span (open_told core index made at' alone receives)
        (h.held index made mine span at' (ap (λ cs. slice_get cs index) (sym q.kept.carried) ∙ has) alone receives places)

    only_old : (index post met words : ℕ) → IsMatch all index post met words → IsMatch r.entries index post met words
    unfolding TellsNone
    only_old index post met words m = by (match_split r.entries entry index post met words m)
      where
        by : IsMatch r.entries index post met words ⊎ ((index ≡ length r.entries) × (told_in entry.out ≡ Some (record { post = post; met = met; words = words }))) → IsMatch r.entries index post met words
        by (inl m') = m'
        by (inr new') = absurd (m.met_one (q.tells (record { post = post; met = met; words = words }) new'.1).1)

    quiet_wholes : Wholes setup (record { entries = all; world = after })
    quiet_wholes = record {
      offered = quiet_offered;
      held = quiet_held;
      whole = λ index post met words sent sender send received receiver recv at at' comm comm' count count' peer peer' tag tag' kind kind' sync m of p p'.
          old_whole index post met words sent sender send received receiver recv at at' comm comm' count count' peer peer' tag tag' kind kind' sync (only_old index post met words m) of p p';
    }

  -- one posting more
  module _ (one : PostingStep setup core after.core task s.call entry.out) where
    abbrev ps : List Made
    ps = core.postings

    abbrev p : Posting
    p = one.posted.p

    abbrev mine : Carried
    mine = one.posted.mine

    new_postings : after.core.postings ≡ with_posting ps p
    new_postings = ap (λ (c : Core). c.postings) (sym one.posted.core_is)

    new_carried : after.core.carried ≡ core.carried ++ mine ∷ []
    new_carried = ap (λ (c : Core). c.carried) (sym one.posted.core_is)

    new_memory : after.core.memory ≡ memory_after core.memory p.send mine (partner_carried core.carried (partner_of ps p))
    new_memory = ap (λ (c : Core). c.memory) (sym one.posted.core_is)

    there : task < length core.requests
    there = subst (λ n. task < n) (sp.courses ∙ sym sp.lists) (slice_get_within r.world.log.courses task s.course s.there)

    -- what was posted before is as it was
    lift : (m : Memory) (number asker : ℕ) (o : Offer) → IsOffered setup m core number asker o → IsOffered setup m after.core number asker o
    lift m number asker o k =
        let within : k.index < length ps = slice_get_within ps k.index k.made k.at in
        let (now, now_at) = get_there (with_posting ps p) k.index (omega (arith, within, length-with_posting ps p)) in
        record {
          index = k.index;
          counted = k.counted;
          made = now;
          carried = k.carried;
          at = ap (λ x. slice_get x k.index) new_postings ∙ now_at;
          has = ap (λ x. slice_get x k.index) new_carried ∙ get_before core.carried (mine ∷ []) k.index (omega (arith, within, sp.own.even)) ∙ k.has;
          is = subst (λ x. Carries setup m asker o x k.carried) (sym (same_posting ps p k.index k.made now k.at now_at)) k.is;
        }

    new_offered : IsOffered setup core.memory after.core (length ps + 1) task one.offer
    new_offered = record {
      index = length ps;
      counted = omega arith;
      made = record { posting = p; met = partner_of ps p };
      carried = mine;
      at = ap (λ x. slice_get x (length ps)) new_postings ∙ with_posting-made ps p;
      has = ap (λ x. slice_get x (length ps)) new_carried ∙ ap (slice_get (core.carried ++ mine ∷ [])) (sym sp.own.even) ∙ get_last core.carried mine;
      is = one.posted.is;
    }

    more_offered : (sent number asker : ℕ) (c : Call) (o : Offer) → IsPosted setup all sent number asker c → number ≢ 0 → offer_of c ≡ Some o → IsOffered setup (world_before setup all sent).core.memory after.core number asker o
    more_offered sent number asker c o q nonzero offers = by (eqb_tells sent (length r.entries))
      where
        by : Where sent → IsOffered setup (world_before setup all sent).core.memory after.core number asker o
        by (inl e) =
            offered_is setup after.core core.memory _ (length ps + 1) number task asker one.offer o
            (ap (λ (w : World). w.core.memory) (ap (world_before setup all) e.1 ∙ world_last))
            (new_number sent number asker c q e.1 nonzero) (last_asker sent number asker c q e.1)
            (some_offer o one.offer (sym offers ∙ ap offer_of (last_call sent number asker c q e.1) ∙ one.offered)) new_offered
        by (inr e) =
            let early : sent < length r.entries = omega (arith, within_all sent number asker c q, e.1) in
            subst (λ (w : World). IsOffered setup w.core.memory after.core number asker o) (sym (world_early sent (omega (arith, early))))
            (lift _ number asker o (h.offered sent number asker c o (old_posted sent number asker c early q) nonzero offers))

    -- a receive that is not matched is the new one, or was not matched before
    alone_before : (index : ℕ) (was now' : Made) → slice_get ps index ≡ Some was → slice_get (with_posting ps p) index ≡ Some now' → now'.met ≡ None → was.met ≡ None
    alone_before index was now' at at' alone = by was.met refl
      where
        some_none : (n : ℕ) → Some n ≡ None → ⊥
        some_none n e = cc

        by : (o : Option ℕ) → was.met ≡ o → was.met ≡ None
        by None e = e
        by (Some n) e =
            let m = met_stays ps p (suc index) (record { index = index; counted = refl; made = was; at = at; met = λ x. some_none n (sym e ∙ x) }) in
            let place : index ≡ m.index = omega (arith, m.counted) in
            absurd (m.met (ap (λ (x : Made). x.met) (some_made m.made now' (sym m.at ∙ ap (slice_get (with_posting ps p)) (sym place) ∙ at')) ∙ alone))

    more_held : (index : ℕ) (made : Made) (his : Carried) (span : Span) → slice_get after.core.postings index ≡ Some made → slice_get after.core.carried index ≡ Some his
        → made.met ≡ None → made.posting.send ≡ false → his.places ≡ Some span → IsUnderWay after.core made.posting.task (suc index) span
    more_held index made his span at has alone receives places = by (eqb_tells index (length ps))
      where
        at_with : slice_get (with_posting ps p) index ≡ Some made
        at_with = ap (λ x. slice_get x index) (sym new_postings) ∙ at

        has_with : slice_get (core.carried ++ mine ∷ []) index ≡ Some his
        has_with = ap (λ x. slice_get x index) (sym new_carried) ∙ has

        the_new : index ≡ length ps → IsUnderWay after.core made.posting.task (suc index) span
        the_new is =
            let made_is : record { posting = p; met = partner_of ps p } ≡ made = some_made _ _ (sym (with_posting-made ps p) ∙ ap (slice_get (with_posting ps p)) (sym is) ∙ at_with) in
            let mine_is : mine ≡ his = some_carried _ _ (sym (get_last core.carried mine) ∙ ap (slice_get (core.carried ++ mine ∷ [])) (sp.own.even ∙ sym is) ∙ has_with) in
            let number : length ps + 1 ≡ suc index = omega (arith, is) in
            subst (λ t. IsUnderWay after.core t (suc index) span) (sym one.posted.is.by ∙ ap (λ (m : Made). m.posting.task) made_is)
            (subst (λ n. IsUnderWay after.core task n span) number
            (subst (λ (c : Core). IsUnderWay c task (length ps + 1) span) one.posted.core_is
            (new_under_way setup core task one.offer p mine span there one.posted.is
            (ap (λ (m : Made). m.posting.send) made_is ∙ receives) (ap (λ (m : Made). m.met) made_is ∙ alone) (ap (λ (c : Carried). c.places) mine_is ∙ places))))

        the_old : index ≢ length ps → IsUnderWay after.core made.posting.task (suc index) span
        the_old other =
            let early : index < length ps = omega (arith, other, slice_get_within (with_posting ps p) index made at_with, length-with_posting ps p) in
            let (was, was_at) = get_there ps index early in
            let same : made.posting ≡ was.posting = same_posting ps p index was made was_at at_with in
            subst (λ (x : Posting). IsUnderWay after.core x.task (suc index) span) (sym same)
            (subst (λ (c : Core). IsUnderWay c was.posting.task (suc index) span) one.posted.core_is
            (posted_under_way core task p mine was.posting.task (suc index) span
            (h.held index was his span was_at (sym (get_before core.carried (mine ∷ []) index (omega (arith, early, sp.own.even))) ∙ has_with)
            (alone_before index was made was_at at_with alone) (ap (λ (x : Posting). x.send) (sym same) ∙ receives) places)))

        by : ((index == length ps) ≡ true) × (index ≡ length ps) ⊎ ((index == length ps) ≡ false) × (index ≢ length ps) → IsUnderWay after.core made.posting.task (suc index) span
        by (inl e) = the_new e.1
        by (inr e) = the_old e.1

    -- the posting that a match met
    partner_told : (met : ℕ) → met ≢ 0 → met ≡ number_or_none (partner_of ps p) → partner_of ps p ≡ Some met
    partner_told met some is = by (partner_of ps p) refl
      where
        by : (o : Option ℕ) → partner_of ps p ≡ o → partner_of ps p ≡ Some met
        by None e = absurd (some (is ∙ ap number_or_none e))
        by (Some n) e = e ∙ ap Some (sym (is ∙ ap number_or_none e))

    -- the posting of the next number is the new entry's
    new_posted : (sent number asker : ℕ) (c : Call) (o : Offer) → offer_of c ≡ Some o → number ≡ length ps + 1 → IsPosted setup all sent number asker c → sent ≡ length r.entries
    new_posted sent number asker c o offers is q = by (eqb_tells sent (length r.entries))
      where
        by : Where sent → sent ≡ length r.entries
        by (inl e) = e.1
        by (inr e) =
            let early : sent < length r.entries = omega (arith, within_all sent number asker c q, e.1) in
            let k = h.offered sent number asker c o (old_posted sent number asker c early q) (λ z. absurd (omega (arith, z, is))) offers in
            absurd (omega (arith, is, k.counted, slice_get_within ps k.index k.made k.at))

    new_is : (sent number asker : ℕ) (c : Call) (o : Offer) → offer_of c ≡ Some o → sent ≡ length r.entries → IsPosted setup all sent number asker c → Carries setup core.memory asker o p mine
    new_is sent number asker c o offers last q =
        subst (λ t. Carries setup core.memory t o p mine) (sym (last_asker sent number asker c q last))
        (subst (λ x. Carries setup core.memory task x p mine) (some_offer one.offer o (sym one.offered ∙ ap offer_of (sym (last_call sent number asker c q last)) ∙ offers)) one.posted.is)

    -- what the partner carries
    partner_has : (number : ℕ) (c : Carried) (index : ℕ) → partner_of ps p ≡ Some number → number ≡ suc index → slice_get core.carried index ≡ Some c → partner_carried core.carried (partner_of ps p) ≡ Some c
    partner_has number c index e counted has = ap (partner_carried core.carried) e ∙ ap (carried_of core.carried) counted ∙ has

    module _ (index post met words sent sender send received receiver recv : ℕ) (at at' comm comm' : Word) (count count' peer peer' tag tag' : ℤ) (kind kind' : Datatype) (sync : Bool)
        (q : IsPosted setup all sent send sender (call.Send at count kind peer tag comm sync)) (q' : IsPosted setup all received recv receiver (call.Recv at' count' kind' peer' tag' comm')) where
      abbrev sending : Offer
      sending = record { send = true; at = at; count = count; kind = kind; peer = peer; tag = tag; comm = comm; sync = sync }

      abbrev receiving : Offer
      receiving = record { send = false; at = at'; count = count'; kind = kind'; peer = peer'; tag = tag'; comm = comm'; sync = false }

      abbrev send_call : Call
      send_call = call.Send at count kind peer tag comm sync

      abbrev recv_call : Call
      recv_call = call.Recv at' count' kind' peer' tag' comm'

      -- what arrived in the memory after the posting, from that before the send's
      finished : (before : Memory) → index ≡ length r.entries → (world_before setup all sent).core.memory ≡ before → Arrived setup sender receiver sending receiving before after.core.memory words
          → Moved index post met words sent sender send received receiver recv at at' comm comm' count count' peer peer' tag tag' kind kind' sync all
      finished before is same a =
          let b = arrived_is setup sender receiver sending receiving before (world_before setup all sent).core.memory after.core.memory (world_before setup all (index + 1)).core.memory words words same
          (ap (λ (w : World). w.core.memory) (ap (λ n. world_before setup all (n + 1)) is ∙ world_next)) refl a in
          (b.many, b.same)

      -- the send is the new posting
      send_met : index ≡ length r.entries → send ≡ length ps + 1 → recv ≢ 0 → partner_of ps p ≡ Some recv → words ≡ words_after p.send mine (partner_carried core.carried (partner_of ps p))
          → Moved index post met words sent sender send received receiver recv at at' comm comm' count count' peer peer' tag tag' kind kind' sync all
      send_met is new' some partner words_is =
          let was = was_open ps p recv partner in
          let last : sent ≡ length r.entries = new_posted sent send sender send_call sending refl new' q in
          let early : received < length r.entries = early_posted received recv receiver recv_call some (omega (arith, was.counted, slice_get_within ps was.index was.made was.at)) q' in
          let mine_is : Carries setup core.memory sender sending p mine = new_is sent send sender send_call sending refl last q in
          let k = h.offered received recv receiver recv_call receiving (old_posted received recv receiver recv_call early q') some refl in
          let place : k.index ≡ was.index = omega (arith, k.counted, was.counted) in
          let alone : k.made.met ≡ None = ap (λ (m : Made). m.met) (some_made _ _ (sym k.at ∙ ap (slice_get ps) place ∙ was.at)) ∙ was.open' in
          let has : partner_carried core.carried (partner_of ps p) ≡ Some k.carried = partner_has recv k.carried k.index partner k.counted k.has in
          finished core.memory is (ap (λ (w : World). w.core.memory) (ap (world_before setup all) last ∙ world_last))
          (arrived_is setup sender receiver sending receiving core.memory core.memory (delivered core.memory mine k.carried) after.core.memory (moved_words mine k.carried) words refl
          (new_memory ∙ ap (λ b. memory_after core.memory b mine (partner_carried core.carried (partner_of ps p))) mine_is.side ∙ ap (memory_after core.memory true mine) has)
          (words_is ∙ ap (λ b. words_after b mine (partner_carried core.carried (partner_of ps p))) mine_is.side ∙ ap (words_after true mine) has)
          (delivers setup core.memory core.memory (world_before setup r.entries received).core.memory sender receiver sending receiving p k.made.posting mine k.carried refl mine_is k.is
          (λ span e. (h.held k.index k.made k.carried span k.at k.has alone k.is.side e).room)))

      -- the receive is the new posting
      recv_met : index ≡ length r.entries → recv ≡ length ps + 1 → send ≢ 0 → partner_of ps p ≡ Some send → words ≡ words_after p.send mine (partner_carried core.carried (partner_of ps p))
          → Moved index post met words sent sender send received receiver recv at at' comm comm' count count' peer peer' tag tag' kind kind' sync all
      recv_met is new' some partner words_is =
          let was = was_open ps p send partner in
          let last : received ≡ length r.entries = new_posted received recv receiver recv_call receiving refl new' q' in
          let early : sent < length r.entries = early_posted sent send sender send_call some (omega (arith, was.counted, slice_get_within ps was.index was.made was.at)) q in
          let mine_is : Carries setup core.memory receiver receiving p mine = new_is received recv receiver recv_call receiving refl last q' in
          let k = h.offered sent send sender send_call sending (old_posted sent send sender send_call early q) some refl in
          let has : partner_carried core.carried (partner_of ps p) ≡ Some k.carried = partner_has send k.carried k.index partner k.counted k.has in
          finished (world_before setup r.entries sent).core.memory is (ap (λ (w : World). w.core.memory) (world_early sent (omega (arith, early))))
          (arrived_is setup sender receiver sending receiving (world_before setup r.entries sent).core.memory (world_before setup r.entries sent).core.memory (delivered core.memory k.carried mine) after.core.memory (moved_words k.carried mine) words refl
          (new_memory ∙ ap (λ b. memory_after core.memory b mine (partner_carried core.carried (partner_of ps p))) mine_is.side ∙ ap (memory_after core.memory false mine) has)
          (words_is ∙ ap (λ b. words_after b mine (partner_carried core.carried (partner_of ps p))) mine_is.side ∙ ap (words_after false mine) has)
          (delivers setup core.memory (world_before setup r.entries sent).core.memory core.memory sender receiver sending receiving k.made.posting p k.carried mine refl k.is mine_is
          (λ span e. (named_span (owner_of setup receiver) core.memory at' (nat_abs count') span (mine_is.places ∙ ap Ok e)).room)))

      new_whole : (m : IsMatch all index post met words) → AreOf post met send recv → index ≡ length r.entries → told_in entry.out ≡ Some (record { post = post; met = met; words = words })
          → Moved index post met words sent sender send received receiver recv at at' comm comm' count count' peer peer' tag tag' kind kind' sync all
      new_whole m of is told = by of
        where
          same : ◌≡◌ {A = Told} (record { post = post; met = met; words = words }) (record {
            post = length ps + 1;
            met = number_or_none (partner_of ps p);
            words = words_after p.send mine (partner_carried core.carried (partner_of ps p));
          })
          same = some_told _ _ (sym told ∙ one.posted.told)

          partner : partner_of ps p ≡ Some met
          partner = partner_told met m.met_one (ap (λ (t : Told). t.met) same)

          by : AreOf post met send recv → Moved index post met words sent sender send received receiver recv at at' comm comm' count count' peer peer' tag tag' kind kind' sync all
          by (inl e) = send_met is (sym e.0 ∙ ap (λ (t : Told). t.post) same) (λ z. m.met_one (e.1 ∙ z)) (partner ∙ ap Some e.1) (ap (λ (t : Told). t.words) same)
          by (inr e) = recv_met is (sym e.0 ∙ ap (λ (t : Told). t.post) same) (λ z. m.met_one (e.1 ∙ z)) (partner ∙ ap Some e.1) (ap (λ (t : Told). t.words) same)

    more_wholes : Wholes setup (record { entries = all; world = after })
    more_wholes = record {
      offered = more_offered;
      held = more_held;
      whole = λ index post met words sent sender send received receiver recv at at' comm comm' count count' peer peer' tag tag' kind kind' sync m of q q'.
          by index post met words sent sender send received receiver recv at at' comm comm' count count' peer peer' tag tag' kind kind' sync m of q q' (match_split r.entries entry index post met words m);
    }
      where
        by : (index post met words sent sender send received receiver recv : ℕ) (at at' comm comm' : Word) (count count' peer peer' tag tag' : ℤ) (kind kind' : Datatype) (sync : Bool)
            → IsMatch all index post met words → AreOf post met send recv
            → IsPosted setup all sent send sender (call.Send at count kind peer tag comm sync) → IsPosted setup all received recv receiver (call.Recv at' count' kind' peer' tag' comm')
            → IsMatch r.entries index post met words ⊎ ((index ≡ length r.entries) × (told_in entry.out ≡ Some (record { post = post; met = met; words = words })))
            → Moved index post met words sent sender send received receiver recv at at' comm comm' count count' peer peer' tag tag' kind kind' sync all
        by index post met words sent sender send received receiver recv at at' comm comm' count count' peer peer' tag tag' kind kind' sync m of q q' (inl old) =
            old_whole index post met words sent sender send received receiver recv at at' comm comm' count count' peer peer' tag tag' kind kind' sync old of q q'
        by index post met words sent sender send received receiver recv at at' comm comm' count count' peer peer' tag tag' kind kind' sync m of q q' (inr new') =
            new_whole index post met words sent sender send received receiver recv at at' comm comm' count count' peer peer' tag tag' kind kind' sync q q' m of new'.0 new'.1

  wholes_step : Wholes setup (record { entries = all; world = after })
  wholes_step = by step
    where
      by : Does → Wholes setup (record { entries = all; world = after })
      by (inl quiet) = quiet_wholes quiet
      by (inr one) = more_wholes one

pub wholes : (setup : Setup) (order : List ℕ) → Wholes setup (run setup order)
wholes setup order =
    runs_keep setup (Wholes setup) (wholes_start setup)
    (λ order task entry after h went. wholes_step setup (run setup order) task entry after (matched setup order) (separate setup order) h went) order

-- every legal run is orderly
pub orderly : (setup : Setup) (journal : Journal) → LegalRun setup journal → Orderly setup journal
orderly setup journal legal = record {
  once = subst Once legal.entries (matched setup (order_of journal.entries)).once;
  whole = subst (Whole setup) legal.entries (wholes setup (order_of journal.entries)).whole;
  unovertaken = subst (Unovertaken setup) legal.entries (matched setup (order_of journal.entries)).fair;
}
