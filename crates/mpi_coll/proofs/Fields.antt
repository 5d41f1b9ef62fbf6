-- The fields of a communicator's tables after each change are those of the next tables.
use Rattle.std.proofs.Common.{◌≡◌, ℕ, ◌+◌, ◌-◌, ◌<◌, ◌≤◌, false, true, List, [], length, map, drop, get_or, set, not, inl, inr, refl, ap, sym, ◌∙◌, subst, arith}
use Rattle.std.specs.Prelude.{Option, Some, slice_get, nat_lt}
use Rattle.std.specs.List.{range_with_len}
use Rattle.std.proofs.lemmas.Bool.{cases_lt}
use Rattle.std.proofs.lemmas.List.{get_or_read, get_or_past}
use Rattle.std.proofs.lemmas.List.FromFn.{length-map-range_with_len}
use Rattle.std.proofs.lemmas.Option.{slice_get_read}
use Rattle.mpc_values.specs.declared.values.Word.{Word}
use Rattle.mpc_values.specs.declared.collectives.Coll.{Coll}
use Rattle.mpi_coll.specs.Rooms.{Gathered, Tables, begun, made_by, gone_by, place_of, is_due, past, put_in, come_to, differs_from, differs_in, with_place, put_at, prepared, is_last, counted_at, entered, filled, departed, IsWhole}
use Rattle.mpi_coll.proofs.Comparisons.{lt_yes, lt_no, lt_from, ge_from, both_from, not_from}
use Rattle.mpi_coll.proofs.Lists.{counts_below}
use Rattle.mpi_coll.proofs.Whole.{whole-left}
use Rattle.mpi_coll.proofs.Tables.{whole-enters, whole-fills, whole-with_place, whole-prepared}
use Rattle.mpi_coll.proofs.Beginning.{whole-begun}

same_tables : (made made' gone gone' : List ℕ) (results results' : List (List Word)) (waiting waiting' : List Gathered)
    → made ≡ made' → gone ≡ gone' → results ≡ results' → waiting ≡ waiting'
    → let t : Tables = record { made = made; gone = gone; full = 0; results = results; waiting = waiting } in
    t ≡ record { made = made'; gone = gone'; full = 0; results = results'; waiting = waiting' }
same_tables made made' gone gone' results results' waiting waiting' a b r w = cc

-- the first tables
pub new_whole : (members : ℕ) (made gone : List ℕ) (results : List (List Word)) (waiting : List Gathered)
    → made ≡ map (λ (rank : ℕ). 0) (range_with_len 0 members) → gone ≡ map (λ (rank : ℕ). 0) (range_with_len 0 members) → results ≡ [] → waiting ≡ []
    → (members ≡ length made) × IsWhole (record { made = made; gone = gone; full = 0; results = results; waiting = waiting })
new_whole members made gone results waiting a b r w =
    let t : Tables = record { made = made; gone = gone; full = 0; results = results; waiting = waiting } in
    let is : t ≡ begun members = same_tables made (map (λ (rank : ℕ). 0) (range_with_len 0 members)) gone (map (λ (rank : ℕ). 0) (range_with_len 0 members)) results [] waiting [] a b r w in
    (sym (ap length a ∙ length-map-range_with_len (λ (rank : ℕ). 0) 0 members), subst IsWhole (sym is) (whole-begun members))

-- a member that is due is one, and has a result
pub leave_there : (t : Tables) → IsWhole t → (rank : ℕ) → is_due t rank ≡ true → (rank < length t.made) × (rank < length t.results)
leave_there t whole rank due =
    let two = both_from (nat_lt (gone_by t rank) (made_by t rank)) (not (nat_lt t.full (made_by t rank))) due in
    let gone : gone_by t rank < made_by t rank = lt_from (gone_by t rank) (made_by t rank) two.0 in
    let full : made_by t rank ≤ t.full = ge_from t.full (made_by t rank) (not_from (nat_lt t.full (made_by t rank)) two.1) in
    let within : rank < length t.made = elim (cases_lt rank (length t.made)) [
      | inl lt ↦ lt
      | inr ge ↦ absurd (omega (arith, gone, get_or_past t.made rank 0 ge))
    ] in
    (within, omega (arith, within, whole.each (omega (arith, gone, full))))

module _ (t : Tables) (whole : IsWhole t) (rank m : ℕ) (within : rank < length t.made) (read : m ≡ get_or t.made rank m) where
  made_is : m ≡ get_or t.made rank 0
  made_is = get_or_read t.made rank m within read 0

  place_is : m - t.full ≡ place_of t rank
  place_is = ap (λ n. n - t.full) made_is

  pub waits_read : place_of t rank < length t.waiting → m - t.full < length t.waiting
  waits_read waits = omega (arith, waits, place_is)

  pub low_read : t.full ≤ m
  low_read = omega (arith, whole.low rank within, made_is)

  pub near_read : m - t.full ≤ length t.waiting
  near_read = omega (arith, whole.high rank, made_is)

  -- a call that differs
  pub differs_read : (coll : Coll) (o : Option Gathered) → o ≡ slice_get t.waiting (m - t.full) → differs_from o coll ≡ differs_in t rank coll
  differs_read coll o is = ap (λ p. differs_from p coll) (is ∙ ap (slice_get t.waiting) place_is)

  -- a meeting that waits, at the member's place
  there_read : (g : Gathered) → m - t.full < length t.waiting → g ≡ get_or t.waiting (m - t.full) g → slice_get t.waiting (place_of t rank) ≡ Some g
  there_read g waits is = ap (slice_get t.waiting) (sym place_is) ∙ slice_get_read t.waiting (length t.waiting) (m - t.full) g refl waits is

  -- fewer have come than there are members
  pub come_fits : (g : Gathered) → m - t.full < length t.waiting → g ≡ get_or t.waiting (m - t.full) g → g.arrived + 1 ≤ length t.made
  come_fits g waits is =
      let w = whole.gathered (place_of t rank) g (there_read g waits is) in
      let low = whole.low rank within in
      let n : g.arrived ≡ past t.made (get_or t.made rank 0) = w.counted ∙ ap (past t.made) (omega arith) in
      let below : past t.made (get_or t.made rank 0) + 1 ≤ length t.made =
      counts_below (λ k. nat_lt (get_or t.made rank 0) k) t.made rank (get_or t.made rank 0 + 1) 0 within (lt_no (get_or t.made rank 0) (get_or t.made rank 0) (omega arith)) (lt_yes (get_or t.made rank 0) (get_or t.made rank 0 + 1) (omega arith)) in
      omega (arith, n, below)

  pub enter_is : (k : ℕ) (g h : Gathered) → k ≡ get_or t.made rank k → m - t.full < length t.waiting → g ≡ get_or t.waiting (m - t.full) g → h ≡ come_to g
      → record t { made = set t.made rank (k + 1); waiting = set t.waiting (m - t.full) h } ≡ entered t rank
  enter_is k g h again waits is come =
      ap (λ n. record t { made = set t.made rank (n + 1); waiting = set t.waiting (m - t.full) h }) (get_or_read t.made rank k within again 0)
      ∙ (ap (λ n. record t { made = set t.made rank (get_or t.made rank 0 + 1); waiting = set t.waiting n h }) place_is
      ∙ (ap (λ (x : Gathered). record t { made = set t.made rank (get_or t.made rank 0 + 1); waiting = set t.waiting (place_of t rank) x }) come
      ∙ ap (λ (o : Option Gathered). record t { made = set t.made rank (get_or t.made rank 0 + 1); waiting = counted_at t.waiting (place_of t rank) o }) (sym (there_read g waits is))))

  pub enter_whole : (k : ℕ) (g h : Gathered) → k ≡ get_or t.made rank k → m - t.full < length t.waiting → g ≡ get_or t.waiting (m - t.full) g → h ≡ come_to g → is_last t rank ≡ false
      → IsWhole (record t { made = set t.made rank (k + 1); waiting = set t.waiting (m - t.full) h })
  enter_whole k g h again waits is come nay =
      subst IsWhole (sym (enter_is k g h again waits is come)) (whole-enters t whole rank within (omega (arith, waits, place_is)) nay)

  pub fill_whole : (results : List (List Word)) (waiting : List Gathered) → waiting ≡ drop 1 t.waiting → is_last t rank ≡ true → length results ≡ length t.made
      → IsWhole (record t { made = set t.made rank (m + 1); full = t.full + 1; results = results; waiting = waiting })
  fill_whole results waiting is last each =
      let same : record t { made = set t.made rank (m + 1); full = t.full + 1; results = results; waiting = waiting } ≡ filled t rank results =
      ap (λ n. record t { made = set t.made rank (n + 1); full = t.full + 1; results = results; waiting = waiting }) made_is
      ∙ ap (λ (ws : List Gathered). record t { made = set t.made rank (get_or t.made rank 0 + 1); full = t.full + 1; results = results; waiting = ws }) is in
      subst IsWhole (sym same) (whole-fills t whole rank within results last each)

  pub leave_whole : (words : List Word) → words ≡ [] → IsWhole (record t { gone = set t.gone rank m; results = set t.results rank words })
  leave_whole words none =
      let same : record t { gone = set t.gone rank m; results = set t.results rank words } ≡ departed t rank =
      ap (λ n. record t { gone = set t.gone rank n; results = set t.results rank words }) made_is
      ∙ ap (λ (ws : List Word). record t { gone = set t.gone rank (get_or t.made rank 0); results = set t.results rank ws }) none in
      subst IsWhole (sym same) (whole-left t whole rank)

  module _ (coll : Coll) (waiting : List Gathered) (g : Gathered) (opened : waiting ≡ with_place t (m - t.full) coll) (there : m - t.full < length waiting) (is : g ≡ get_or waiting (m - t.full) g) where
    got : slice_get (with_place t (place_of t rank) coll) (place_of t rank) ≡ Some g
    got =
        ap (λ n. slice_get (with_place t n coll) n) (sym place_is)
        ∙ (ap (λ ws. slice_get ws (m - t.full)) (sym opened) ∙ slice_get_read waiting (length waiting) (m - t.full) g refl there is)

    pub put_fits : (length g.asked ≡ length t.made) × (length g.given ≡ length t.made)
    put_fits = let w = (whole-with_place t whole rank within coll).gathered (place_of t rank) g got in (w.asked, w.given)

    pub prepare_is : (words : List Word) (h : Gathered) → h ≡ put_in g rank coll words → record t { waiting = set waiting (m - t.full) h } ≡ prepared t rank coll words
    prepare_is words h put =
        ap (λ (ws : List Gathered). record t { waiting = set ws (m - t.full) h }) opened
        ∙ (ap (λ n. record t { waiting = set (with_place t n coll) n h }) place_is
        ∙ (ap (λ (x : Gathered). record t { waiting = set (with_place t (place_of t rank) coll) (place_of t rank) x }) put
        ∙ ap (λ (o : Option Gathered). record t { waiting = put_at (with_place t (place_of t rank) coll) (place_of t rank) rank coll words o }) (sym got)))

    pub prepare_whole : (words : List Word) (h : Gathered) → h ≡ put_in g rank coll words → IsWhole (record t { waiting = set waiting (m - t.full) h })
    prepare_whole words h put = subst IsWhole (sym (prepare_is words h put)) (whole-prepared t whole rank within coll words)
