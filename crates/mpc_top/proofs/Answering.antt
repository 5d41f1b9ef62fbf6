-- What a call has done, and what follows for its status.
use Rattle.std.proofs.Common.{◌≡◌, ◌≢◌, ◌≤◌, ◌↔◌, ◌⊎◌, ℕ, false, List, [], ◌∷◌, length, Option, Some, None, IfSome, IsSome, is_some, inl, inr, refl, sym, ap, ◌∙◌, subst, arith}
use Rattle.mpc_base.specs.Causes.{Rose}
use Rattle.mpc_base.specs.Told.{Store, content_of, Took, TookPrefix}
use Rattle.c_lex.specs.Laws.{LexingLaws}
use Rattle.c_parse.specs.Laws.{ParsingLaws}
use Rattle.c_types.specs.Laws.{TypingLaws}
use Rattle.c_tree.specs.ProgramOf.{program_of}
use Rattle.serial_model.specs.declared.records.RunRecord.{RunRecord}
use Rattle.mpc_top.specs.declared.command.Mode.{Mode}
use Rattle.mpc_top.specs.declared.command.Mode.TheVariants.{Check, Serial}
use Rattle.mpc_top.specs.declared.sources.SourceRefusal.{SourceRefusal}
use Rattle.mpc_top.specs.declared.refusals.Refusal.{Refusal}
use Rattle.mpc_top.specs.declared.refusals.Refusal.TheVariants.{Usage, ReadFault, Source, Memory}
use Rattle.mpc_top.specs.Command.{NamesSource, NamesNone, mode_word}
use Rattle.mpc_top.specs.Sources.{Refuses, refusal_line}
use Rattle.mpc_top.specs.RunStatuses.{made_status, IsStatusOf}
use Rattle.mpc_top.specs.Answers.{OfSource, ToldSource, WroteLine, IsAccepted, IsGood, Text, IsDone, IsCutShort, IsMade, RunsSource}
use Rattle.mpc_top.specs.Refusals.{Holds, MadeOf, Showed, SourceAnswered, Answered, status_for, line_for}
use Rattle.mpc_top.proofs.RunStatuses.{run_small, says_status}
use Rattle.mpc_top.proofs.Reasons.{same_reason, good_content}

-- what holds of the content that was read holds of the file
of_content : (told : Option Store) (name src : List ℕ) (Like : Option (List ℕ) → Type 0) → IfSome told (λ store. content_of store name ≡ Some src) → Like (Some src) → IfSome told (λ store. Like (content_of store name))
of_content None name src Like content like = tt
of_content (Some store) name src Like content like = subst Like (sym content) like

module _ (words : List (List ℕ)) (told : Option Store) (name src : List ℕ) (content : IfSome told (λ store. content_of store name ≡ Some src)) where
  -- the text that was made of the source is that of the mode
  text_of : (mode : Mode) (text : List ℕ) (kept : Option RunRecord) → NamesSource words mode name → MadeOf mode src text kept → Text mode words told kept text
  text_of Check text None names made =
      (made.0, record { name = name; names = names; file = of_content told name src (IsAccepted made.0) content made.1 }, made.2)
  text_of Check text (Some run) names made = absurd made
  text_of Serial text None names made = absurd made
  text_of Serial text (Some run) names made =
      (made.0, record { name = name; names = names; file = of_content told name src (IsAccepted (program_of run.setup.program)) content made.1 }, made.2)

  -- what was done with the source's content is what the call has done
  pub answered_of : (mode : Mode) (faults faults' status : ℕ) (kept : Option RunRecord) (t t' : Option (List ℕ)) (w w' : ℕ) → NamesSource words mode name → (Rose faults faults' → ⊥)
      → SourceAnswered mode src status kept t t' w w' → Answered words told faults faults' status kept t t' w w'
  answered_of mode faults faults' status kept t t' w w' names calm (inl r) = inl (record {
    refusal = Source r.0;
    holds = (mode, record { name = name; names = names; file = of_content told name src (Refuses mode r.0) content r.1 }, calm);
    status_is = r.2.status_is;
    kept_none = r.2.kept_none;
    line = r.2.line;
  })
  answered_of mode faults faults' status kept t t' w w' names calm (inr (inl m)) =
      inr (inl (record { mode = mode; text = m.0; is = text_of mode m.0 kept names m.1; showed = m.2 }))
  answered_of mode faults faults' status kept t t' w w' names calm (inr (inr short)) = inr (inr (mode, name, names, short))

-- words name one source in one mode
words_mode : (m n : Mode) → mode_word m ≡ mode_word n → m ≡ n
words_mode Check Check e = refl
words_mode Serial Serial e = refl
words_mode Check Serial e = let l : 5 ≡ 6 = ap length e in absurd (omega (arith, l))
words_mode Serial Check e = let l : 6 ≡ 5 = ap length e in absurd (omega (arith, l))

front : List (List ℕ) → List ℕ
front [] = []
front (w ∷ ws) = w

second : List (List ℕ) → List ℕ
second [] = []
second (w ∷ []) = []
second (w ∷ v ∷ ws) = v

pub modes_same : (words : List (List ℕ)) (m n : Mode) (a b : List ℕ) → NamesSource words m a → NamesSource words n b → m ≡ n
modes_same words m n a b h g = let e : mode_word m ∷ a ∷ [] ≡ mode_word n ∷ b ∷ [] = sym h.words_are ∙ g.words_are in words_mode m n cc

pub names_same : (words : List (List ℕ)) (m n : Mode) (a b : List ℕ) → NamesSource words m a → NamesSource words n b → a ≡ b
names_same words m n a b h g = let e : mode_word m ∷ a ∷ [] ≡ mode_word n ∷ b ∷ [] = sym h.words_are ∙ g.words_are in cc

-- two things that are told of the source's file
same_file : (words : List (List ℕ)) (told : Option Store) (m n : Mode) (Like : Mode → Option (List ℕ) → Type 0) (Also : Option (List ℕ) → Type 0) → OfSource words m told (Like m) → ToldSource words n told Also
    → (file : Option (List ℕ)) × Like n file × Also file
same_file words told m n Like Also of told_of =
    let here = subst (λ o. IfSome o (λ store. Like m (content_of store of.name))) told_of.tells of.file in
    let there = subst (λ k. Like m (content_of told_of.store k)) (names_same words m n of.name told_of.name of.names told_of.names) here in
    (content_of told_of.store told_of.name, subst (λ k. Like k (content_of told_of.store told_of.name)) (modes_same words m n of.name told_of.name of.names told_of.names) there, told_of.like)

-- the status of a refusal is none behind a text
not_made : (q : Refusal) (status : ℕ) → status ≡ status_for q → IsMade status → ⊥
not_made Usage status is (inl h) = omega (arith, is, h)
not_made Usage status is (inr h) = omega (arith, is, h)
not_made ReadFault status is (inl h) = omega (arith, is, h)
not_made ReadFault status is (inr h) = omega (arith, is, h)
not_made (Source s) status is (inl h) = omega (arith, is, h)
not_made (Source s) status is (inr h) = omega (arith, is, h)
not_made Memory status is (inl h) = omega (arith, is, h)
not_made Memory status is (inr h) = omega (arith, is, h)

short_not_made : (status : ℕ) → status ≡ 10 → IsMade status → ⊥
short_not_made status is made = not_made Memory status is made

-- the status of what was made is at most 2
made_small : (m : Mode) (words : List (List ℕ)) (told : Option Store) (kept : Option RunRecord) (text : List ℕ) → Text m words told kept text → made_status kept ≤ 2
made_small m words told None text is = omega arith
made_small Check words told (Some run') text is = absurd is
made_small Serial words told (Some run') text is = run_small run' is.0.records

shown_made : (kept : Option RunRecord) (status : ℕ) (text : List ℕ) (t t' : Option (List ℕ)) (w w' : ℕ) → made_status kept ≤ 2 → Showed (made_status kept) status text t t' w w' → IsMade status
shown_made kept status text t t' w w' small (inl whole) = inl (subst (λ n. n ≤ 2) (sym whole.0) small)
shown_made kept status text t t' w w' small (inr part) = inr part.0

module _ (words : List (List ℕ)) (told : Option Store) (f f' status : ℕ) (kept : Option RunRecord) (t t' : Option (List ℕ)) (w w' : ℕ) where
  -- words that are no command end with status 6, and no other words
  refusal_usage : (q : Refusal) → Holds q words told f f' → status ≡ status_for q → NamesNone words → status ≡ 6
  refusal_usage Usage holds is none = is
  refusal_usage ReadFault holds is none = absurd (none holds.0 holds.1.name holds.1.names)
  refusal_usage (Source s) holds is none = absurd (none holds.0 holds.1.name holds.1.names)
  refusal_usage Memory holds is none = absurd (none holds.0 holds.1.name holds.1.names)

  usage_refusal : (q : Refusal) → Holds q words told f f' → status ≡ status_for q → status ≡ 6 → NamesNone words
  usage_refusal Usage holds is six = holds
  usage_refusal ReadFault holds is six = absurd (omega (arith, is, six))
  usage_refusal (Source s) holds is six = absurd (omega (arith, is, six))
  usage_refusal Memory holds is six = absurd (omega (arith, is, six))

  text_names : (m : Mode) (k : Option RunRecord) (text : List ℕ) → Text m words told k text → (name : List ℕ) × NamesSource words m name
  text_names Check None text is = (is.1.name, is.1.names)
  text_names Check (Some run) text is = absurd is
  text_names Serial None text is = absurd is
  text_names Serial (Some run) text is = (is.1.name, is.1.names)

  six_not_made : status ≡ 6 → IsMade status → ⊥
  six_not_made six made = not_made Usage status six made

  pub usage_of : Answered words told f f' status kept t t' w w' → (status ≡ 6) ↔ NamesNone words
  usage_of (inl r) = (usage_refusal r.refusal r.holds r.status_is, refusal_usage r.refusal r.holds r.status_is)
  usage_of (inr (inl s)) =
      let named = text_names s.mode kept s.text s.is in
      (λ six. absurd (six_not_made six (shown_made kept status s.text t t' w w' (made_small s.mode words told kept s.text s.is) s.showed)), λ none. absurd (none s.mode named.0 named.1))
  usage_of (inr (inr s)) = (λ six. absurd (omega (arith, six, s.3.status_is)), λ none. absurd (none s.0 s.1 s.2))

  -- a status up to 2 comes with the whole text
  shown_whole : (text : List ℕ) → Showed (made_status kept) status text t t' w w' → status ≤ 2 → (status ≡ made_status kept) × Took t text t'
  shown_whole text (inl whole) small = whole
  shown_whole text (inr part) small = absurd (omega (arith, part.0, small))

  pub done_of : Answered words told f f' status kept t t' w w' → status ≤ 2 → IsDone words told status kept t t'
  done_of (inl r) small = absurd (not_made r.refusal status r.status_is (inl small))
  done_of (inr (inl s)) small =
      let whole = shown_whole s.text s.showed small in
      record { mode = s.mode; text = s.text; is = s.is; status_is = whole.0; took = whole.1 }
  done_of (inr (inr s)) small = absurd (short_not_made status s.3.status_is (inl small))

  -- status 8 comes with a prefix of the text, and a count that rose
  shown_part : (text : List ℕ) → made_status kept ≤ 2 → Showed (made_status kept) status text t t' w w' → status ≡ 8 → TookPrefix t text t' × Rose w w'
  shown_part text small (inl whole) eight = absurd (omega (arith, whole.0, eight, small))
  shown_part text small (inr part) eight = (part.1, part.2)

  pub cut_of : Answered words told f f' status kept t t' w w' → status ≡ 8 → IsCutShort words told kept t t' × Rose w w'
  cut_of (inl r) eight = absurd (not_made r.refusal status r.status_is (inr eight))
  cut_of (inr (inl s)) eight =
      let part = shown_part s.text (made_small s.mode words told kept s.text s.is) s.showed eight in
      (record { mode = s.mode; text = s.text; is = s.is; took = part.0 }, part.1)
  cut_of (inr (inr s)) eight = absurd (short_not_made status s.3.status_is (inr eight))

  -- the status of a run that was kept is the run's
  text_status : (m : Mode) (k : Option RunRecord) (text : List ℕ) → Text m words told k text → status ≡ made_status k → IfSome k (λ run. IsStatusOf run status)
  text_status m None text is status_is = tt
  text_status Check (Some run) text is status_is = absurd is
  text_status Serial (Some run) text is status_is = says_status run status is.0.records status_is

  shown_status : (m : Mode) (k : Option RunRecord) (text : List ℕ) → Text m words told k text → Showed (made_status k) status text t t' w w' → status ≢ 8 → IfSome k (λ run. IsStatusOf run status)
  shown_status m k text is (inl whole) not8 = text_status m k text is whole.0
  shown_status m k text is (inr part) not8 = absurd (not8 part.0)

  none_kept : (k : Option RunRecord) (P : RunRecord → Type 0) → k ≡ None → IfSome k P
  none_kept None P is = tt
  none_kept (Some run) P is = absurd (cc)

  pub status_of_kept : Answered words told f f' status kept t t' w w' → IfSome kept (λ run. status ≢ 8 → IsStatusOf run status)
  status_of_kept (inl r) = none_kept kept (λ run. status ≢ 8 → IsStatusOf run status) r.kept_none
  status_of_kept (inr (inl s)) = later kept s.is s.showed
    where
      later : (k : Option RunRecord) → Text s.mode words told k s.text → Showed (made_status k) status s.text t t' w w' → IfSome k (λ run. status ≢ 8 → IsStatusOf run status)
      later None is showed = tt
      later (Some run) is showed = shown_status s.mode (Some run) s.text is showed
  status_of_kept (inr (inr s)) = none_kept kept (λ run. status ≢ 8 → IsStatusOf run status) s.3.kept_none

  -- a record is kept exactly with the text of a run
  text_keeps : (m : Mode) (k : Option RunRecord) (text : List ℕ) → Text m words told k text → (IsSome k → RunsSource words) × (RunsSource words → IsSome k)
  text_keeps Check None text is = (λ some. cc, λ runs. absurd (other_mode runs is.1.names))
    where
      other_mode : RunsSource words → NamesSource words Check is.1.name → ⊥
      other_mode runs names = let e : Serial ≡ Check = modes_same words Serial Check runs.0 is.1.name runs.1 names in cc
  text_keeps Check (Some run) text is = absurd is
  text_keeps Serial None text is = absurd is
  text_keeps Serial (Some run) text is = (λ some. (is.1.name, is.1.names), λ runs. refl)

  some_none : (k : Option RunRecord) → k ≡ None → IsSome k → ⊥
  some_none k is some = let e : is_some k ≡ false = ap is_some is in cc

  pub kept_of : Answered words told f f' status kept t t' w w' → IsSome kept ↔ (RunsSource words × IsMade status)
  kept_of (inl r) = (λ some. absurd (some_none kept r.kept_none some), λ made. absurd (not_made r.refusal status r.status_is made.1))
  kept_of (inr (inl s)) =
      let keeps = text_keeps s.mode kept s.text s.is in
      (λ some. (keeps.0 some, shown_made kept status s.text t t' w w' (made_small s.mode words told kept s.text s.is) s.showed), λ made. keeps.1 made.0)
  kept_of (inr (inr s)) = (λ some. absurd (some_none kept s.3.kept_none some), λ made. absurd (short_not_made status s.3.status_is made.1))

  -- a text is made of a source that is good for the mode
  good_of : (m : Mode) (k : Option RunRecord) (text : List ℕ) → Text m words told k text → OfSource words m told (IsGood m)
  good_of Check None text is = record { name = is.1.name; names = is.1.names; file = likely told is.1.name is.1.file }
    where
      likely : (o : Option Store) (n : List ℕ) → IfSome o (λ store. IsAccepted is.0 (content_of store n)) → IfSome o (λ store. IsGood Check (content_of store n))
      likely None n h = tt
      likely (Some store) n h = (is.0, h, tt)
  good_of Check (Some run) text is = absurd is
  good_of Serial None text is = absurd is
  good_of Serial (Some run) text is = record { name = is.1.name; names = is.1.names; file = likely told is.1.name is.1.file }
    where
      likely : (o : Option Store) (n : List ℕ) → IfSome o (λ store. IsAccepted (program_of run.setup.program) (content_of store n)) → IfSome o (λ store. IsGood Serial (content_of store n))
      likely None n h = tt
      likely (Some store) n h = (program_of run.setup.program, h, is.0.plain)

  -- a source that is refused for a reason ends with status 5 and that reason's line
  pub refuses_of : LexingLaws → ParsingLaws → TypingLaws → Answered words told f f' status kept t t' w w' → (mode : Mode) (refusal : SourceRefusal) → ToldSource words mode told (Refuses mode refusal) → (Rose f f' → ⊥) → status ≢ 10
      → (status ≡ 5) × WroteLine (refusal_line refusal) t t' w w'
  refuses_of lexing parsing typing (inl r) mode refusal source calm not10 = by_refusal r.refusal r.holds r.status_is r.line
    where
      by_refusal : (q : Refusal) → Holds q words told f f' → status ≡ status_for q → WroteLine (line_for q) t t' w w' → (status ≡ 5) × WroteLine (refusal_line refusal) t t' w w'
      by_refusal Usage holds is line = absurd (holds mode source.name source.names)
      by_refusal ReadFault holds is line = absurd (calm holds.2)
      by_refusal (Source s) holds is line =
          let both = same_file words told holds.0 mode (λ m. Refuses m s) (Refuses mode refusal) holds.1 source in
          (is, subst (λ q. WroteLine (refusal_line q) t t' w w') (same_reason lexing parsing typing mode s refusal both.0 both.1 both.2) line)
      by_refusal Memory holds is line = absurd (not10 is)
  refuses_of lexing parsing typing (inr (inl s)) mode refusal source calm not10 =
      let both = same_file words told s.mode mode IsGood (Refuses mode refusal) (good_of s.mode kept s.text s.is) source in
      absurd (good_content lexing parsing typing mode refusal both.0 both.2 both.1)
  refuses_of lexing parsing typing (inr (inr s)) mode refusal source calm not10 = absurd (not10 s.3.status_is)

  shown_calm : (text : List ℕ) → Showed (made_status kept) status text t t' w w' → (Rose w w' → ⊥) → status ≡ made_status kept
  shown_calm text (inl whole) calm = whole.0
  shown_calm text (inr part) calm = absurd (calm part.2)

  -- a source that is good for its mode, read and written without a fault, ends with the status of what was made
  pub complete_of : LexingLaws → ParsingLaws → TypingLaws → Answered words told f f' status kept t t' w w' → (mode : Mode) → ToldSource words mode told (IsGood mode) → (Rose f f' → ⊥) → (Rose w w' → ⊥) → status ≢ 10 → status ≡ made_status kept
  complete_of lexing parsing typing (inl r) mode source calm dry not10 = absurd (by_refusal r.refusal r.holds r.status_is)
    where
      by_refusal : (q : Refusal) → Holds q words told f f' → status ≡ status_for q → ⊥
      by_refusal Usage holds is = holds mode source.name source.names
      by_refusal ReadFault holds is = calm holds.2
      by_refusal (Source s) holds is =
          let both = same_file words told holds.0 mode (λ m. Refuses m s) (IsGood mode) holds.1 source in
          good_content lexing parsing typing mode s both.0 both.1 both.2
      by_refusal Memory holds is = not10 is
  complete_of lexing parsing typing (inr (inl s)) mode source calm dry not10 = shown_calm s.text s.showed dry
  complete_of lexing parsing typing (inr (inr s)) mode source calm dry not10 = absurd (not10 s.3.status_is)
