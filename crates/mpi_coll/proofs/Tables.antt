-- Each step of the tables keeps them whole, and gives the tables of the arrivals after it.
use Rattle.std.proofs.Common.{◌≡◌, ◌≢◌, ℕ, ◌+◌, ◌<◌, ◌≤◌, Bool, true, false, cond, ◌==◌, ◌&&◌, not, List, [], ◌∷◌, ◌++◌, length, map, get_or, set, ◌⊎◌, inl, inr, refl, ap, sym, ◌∙◌, subst, arith}
use Rattle.std.specs.Prelude.{Option, Some, None, slice_get}
use Rattle.std.specs.List.{range_with_len}
use Rattle.std.proofs.lemmas.Bool.{false≢true}
use Rattle.std.proofs.lemmas.List.{length-set}
use Rattle.std.proofs.lemmas.Option.{slice_get_within}
use Rattle.mpc_values.specs.declared.values.Word.{Word}
use Rattle.mpc_values.specs.declared.collectives.Coll.{Coll}
use Rattle.mpi_coll.specs.declared.arrivals.Arrival.{Arrival}
use Rattle.mpi_coll.specs.Meetings.{agree, next_meeting, meeting_of}
use Rattle.mpi_coll.specs.Results.{result_of}
use Rattle.mpi_coll.specs.Rooms.{Gathered, Tables, size_in, place_of, fresh, put_in, differs_from, differs_in, with_place, put_at, prepared, is_last_in, is_last, counted_at, entered, filled, IsWhole}
use Rattle.mpi_coll.specs.Shown.{next_arrival, with_next, outcome_in, Holds, Shows}
use Rattle.mpi_coll.proofs.Comparisons.{eq_yes, eq_from, ne_from, both_yes, both_from}
use Rattle.mpi_coll.proofs.Agreeing.{agree-itself}
use Rattle.mpi_coll.proofs.Lists.{there_is, slice_get-push_last, slice_get-set_same, slice_get_ranks}
use Rattle.mpi_coll.proofs.Whole.{whole-opened, whole-put, whole-entered, whole-filled}
use Rattle.mpi_coll.proofs.Showing.{shows-opened, shows-put, shows-entered, shows-filled, asked-filled}

-- What an arrival that fills its meeting finds.
pub record Last (t : Tables) (rank : ℕ) : Type 0 where
  pub first : Gathered
  pub there : slice_get t.waiting 0 ≡ Some first
  pub next : place_of t rank ≡ 0
  pub missing : first.arrived + 1 ≡ size_in t

last_in : (t : Tables) (rank : ℕ) (o : Option Gathered) → slice_get t.waiting 0 ≡ o → is_last_in o (place_of t rank) (size_in t) ≡ true → Last t rank
last_in t rank None is h = absurd (false≢true h)
last_in t rank (Some g) is h =
    let two = both_from (place_of t rank == 0) (g.arrived + 1 == size_in t) h in
    record {
      first = g;
      there = is;
      next = eq_from (place_of t rank) 0 two.0;
      missing = eq_from (g.arrived + 1) (size_in t) two.1;
    }

pub Last-from_test : (t : Tables) (rank : ℕ) → is_last t rank ≡ true → Last t rank
Last-from_test t rank h = last_in t rank (slice_get t.waiting 0) refl h

pub not_last : (t : Tables) (rank : ℕ) (g : Gathered) → is_last t rank ≡ false → slice_get t.waiting (place_of t rank) ≡ Some g → get_or t.made rank 0 ≡ t.full → g.arrived + 1 ≢ length t.made
not_last t rank g nay there same all =
    let here : place_of t rank ≡ 0 = omega (arith, same) in
    let first : slice_get t.waiting 0 ≡ Some g = ap (slice_get t.waiting) (sym here) ∙ there in
    let is : is_last t rank ≡ (place_of t rank == 0 && g.arrived + 1 == length t.made) = ap (λ o. is_last_in o (place_of t rank) (size_in t)) first in
    let aye : (place_of t rank == 0 && g.arrived + 1 == length t.made) ≡ true = both_yes (place_of t rank == 0) (g.arrived + 1 == length t.made) (eq_yes (place_of t rank) 0 here) (eq_yes (g.arrived + 1) (length t.made) all) in
    false≢true (sym nay ∙ (is ∙ aye))

module _ (t : Tables) (whole : IsWhole t) (rank : ℕ) (within : rank < length t.made) where
  -- the tables stay whole at an arrival
  pub whole-enters : place_of t rank < length t.waiting → is_last t rank ≡ false → IsWhole (entered t rank)
  whole-enters waits nay =
      let one = there_is t.waiting (place_of t rank) waits in
      subst (λ o. IsWhole (record t { made = set t.made rank (get_or t.made rank 0 + 1); waiting = counted_at t.waiting (place_of t rank) o })) (sym one.1)
      (whole-entered t whole rank within one.0 one.1 (not_last t rank one.0 nay one.1))

  pub whole-fills : (results : List (List Word)) → is_last t rank ≡ true → length results ≡ length t.made → IsWhole (filled t rank results)
  whole-fills results last each =
      let l = Last-from_test t rank last in
      whole-filled t whole rank within l.first results l.there (omega (arith, l.next, whole.low rank within)) l.missing each

  module _ (coll : Coll) where
    abbrev place : ℕ
    place = place_of t rank

    -- the meeting at the member's place is there, and waited before or is new
    pub opened_there : (g : Gathered) × (slice_get (with_place t place coll) place ≡ Some g) × ((g.arrived ≡ 0) ⊎ (slice_get t.waiting place ≡ Some g))
    opened_there = at (place == length t.waiting) refl
      where
        at : (b : Bool) → (place == length t.waiting) ≡ b → (g : Gathered) × (slice_get (cond b (t.waiting ++ fresh (size_in t) coll ∷ []) t.waiting) place ≡ Some g) × ((g.arrived ≡ 0) ⊎ (slice_get t.waiting place ≡ Some g))
        at true e =
            let last : place ≡ length t.waiting = eq_from place (length t.waiting) e in
            (fresh (size_in t) coll, ap (slice_get (t.waiting ++ fresh (size_in t) coll ∷ [])) last ∙ slice_get-push_last t.waiting (fresh (size_in t) coll), inl refl)
        at false e =
            let other : place ≢ length t.waiting = ne_from place (length t.waiting) e in
            let one = there_is t.waiting place (let high = whole.high rank in omega (arith, other)) in
            (one.0, one.1, inr one.1)

    pub whole-with_place : IsWhole (record t { waiting = with_place t place coll })
    whole-with_place = at (place == length t.waiting)
      where
        at : (b : Bool) → IsWhole (record t { waiting = cond b (t.waiting ++ fresh (size_in t) coll ∷ []) t.waiting })
        at true = whole-opened t whole coll
        at false = record { even = whole.even; low = whole.low; high = whole.high; left = whole.left; each = whole.each; behind = whole.behind; gathered = λ p g got. let w = whole.gathered p g got in record { asked = w.asked; given = w.given; counted = w.counted } }

    module _ (words : List Word) where
      pub whole-prepared : IsWhole (prepared t rank coll words)
      whole-prepared =
          let one = opened_there in
          subst (λ o. IsWhole (record t { waiting = put_at (with_place t place coll) place rank coll words o })) (sym one.1)
          (whole-put (record t { waiting = with_place t place coll }) whole-with_place place one.0 (put_in one.0 rank coll words) one.1 refl
          (length-set one.0.asked rank coll) (length-set one.0.given rank words))

      -- what is written down at the place
      pub prepared_there : (g : Gathered) × (slice_get (prepared t rank coll words).waiting place ≡ Some (put_in g rank coll words))
          × (length g.asked ≡ length t.made) × (length g.given ≡ length t.made) × ((g.arrived ≡ 0) ⊎ (slice_get t.waiting place ≡ Some g))
      prepared_there =
          let one = opened_there in
          let w = whole-with_place.gathered place one.0 one.1 in
          let put : (prepared t rank coll words).waiting ≡ set (with_place t place coll) place (put_in one.0 rank coll words) =
          ap (put_at (with_place t place coll) place rank coll words) one.1 in (
            one.0,
            ap (λ ws. slice_get ws place) put ∙ slice_get-set_same (with_place t place coll) place (put_in one.0 rank coll words) (slice_get_within (with_place t place coll) place one.0 one.1),
            w.asked,
            w.given,
            one.2,
          )

      module _ (numbers : ℕ → ℕ → ℕ) (arrivals : List Arrival) (comm : ℕ) (shows : Shows numbers t arrivals comm) where
        shows-with_place : Shows numbers (record t { waiting = with_place t place coll }) arrivals comm
        shows-with_place = at (place == length t.waiting)
          where
            at : (b : Bool) → Shows numbers (record t { waiting = cond b (t.waiting ++ fresh (size_in t) coll ∷ []) t.waiting }) arrivals comm
            at true = shows-opened numbers t whole arrivals comm shows coll
            at false = record { turns = shows.turns; made = shows.made; held = shows.held; left = shows.left; due = shows.due }

        next : t.full + place ≡ next_meeting arrivals comm rank
        next = let low = whole.low rank within in let m = shows.made rank in omega arith

        -- What is written down changes nothing that the tables show.
        pub shows-prepared : Shows numbers (prepared t rank coll words) arrivals comm
        shows-prepared =
            let one = opened_there in
            subst (λ o. Shows numbers (record t { waiting = put_at (with_place t place coll) place rank coll words o }) arrivals comm) (sym one.1)
            (shows-put numbers (record t { waiting = with_place t place coll }) whole-with_place arrivals comm shows-with_place place rank coll words one.0 one.1 next)

        -- the call agrees with that of the member that came first
        agrees_first : (g : Gathered) → differs_in t rank coll ≡ false → ((g.arrived ≡ 0) ⊎ (slice_get t.waiting place ≡ Some g)) → agree (put_in g rank coll words).coll coll ≡ true
        agrees_first g same (inl none) =
            let first : (g.arrived == 0) ≡ true = eq_yes g.arrived 0 none in
            ap (λ b. agree (cond b coll g.coll) coll) first ∙ agree-itself coll
        agrees_first g same (inr there) = at (g.arrived == 0) (agree g.coll coll) refl (sym (ap (λ o. differs_from o coll) there) ∙ same)
          where
            at : (b c : Bool) → agree g.coll coll ≡ c → (not b && not c) ≡ false → agree (cond b coll g.coll) coll ≡ true
            at true c is h = agree-itself coll
            at false true is h = is
            at false false is h = absurd (false≢true (sym h))

        -- what was written down is what the arrival asks and gives
        pub prepared_holds : (g : Gathered) → differs_in t rank coll ≡ false → length g.asked ≡ length t.made → length g.given ≡ length t.made → ((g.arrived ≡ 0) ⊎ (slice_get t.waiting place ≡ Some g))
            → Holds (put_in g rank coll words) rank (next_arrival arrivals comm rank coll words)
        prepared_holds g same asked given from = record {
          agrees = agrees_first g same from;
          asked = slice_get-set_same g.asked rank coll (omega arith);
          given = slice_get-set_same g.given rank words (omega arith);
        }

        abbrev p : Tables
        p = prepared t rank coll words

        -- an arrival that does not fill its meeting
        pub shows-enters : differs_in t rank coll ≡ false → Shows numbers (entered p rank) (with_next arrivals comm rank coll words) comm
        shows-enters same =
            let one = prepared_there in
            subst (λ o. Shows numbers (record p { made = set t.made rank (get_or t.made rank 0 + 1); waiting = counted_at p.waiting place o }) (with_next arrivals comm rank coll words) comm) (sym one.1)
            (shows-entered numbers p whole-prepared arrivals comm shows-prepared rank within coll words (put_in one.0 rank coll words) one.1 (prepared_holds one.0 same one.2 one.3 one.4))

        -- what an arrival finds that fills its meeting
        record Filling (g : Gathered) : Type 0 where
          holds : Holds g rank (next_arrival arrivals comm rank coll words)
          next : get_or t.made rank 0 ≡ t.full
          asked : length g.asked ≡ length t.made
          given : length g.given ≡ length t.made
          low : (r : ℕ) → r < length (set t.made rank (get_or t.made rank 0 + 1)) → t.full + 1 ≤ get_or (set t.made rank (get_or t.made rank 0 + 1)) r 0

        filling : (g : Gathered) → differs_in t rank coll ≡ false → is_last p rank ≡ true → slice_get p.waiting 0 ≡ Some g → Filling g
        filling g same last first =
            let l = Last-from_test p rank last in
            let one = prepared_there in
            let at : place ≡ 0 = l.next in
            let there : slice_get p.waiting 0 ≡ Some (put_in one.0 rank coll words) = ap (slice_get p.waiting) (sym at) ∙ one.1 in
            let is : put_in one.0 rank coll words ≡ g = let e = first in cc in
            let given : length g.given ≡ length t.made = ap (λ (k : Gathered). length k.given) (sym is) ∙ (length-set one.0.given rank words ∙ one.3) in
            let next : get_or t.made rank 0 ≡ t.full = omega (arith, at, whole.low rank within) in
            record {
              holds = subst (λ k. Holds k rank (next_arrival arrivals comm rank coll words)) is (prepared_holds one.0 same one.2 one.3 one.4);
              next = next;
              asked = ap (λ (k : Gathered). length k.asked) (sym is) ∙ (length-set one.0.asked rank coll ∙ one.2);
              given = given;
              low = (whole-filled p whole-prepared rank within l.first g.given l.there next l.missing given).low;
            }

        -- the arrival that fills its meeting
        pub shows-fills : (g : Gathered) (results : List (List Word)) → differs_in t rank coll ≡ false → is_last p rank ≡ true → slice_get p.waiting 0 ≡ Some g
            → results ≡ map (λ r. outcome_in coll.what (numbers t.full r) (result_of coll r g.given)) (range_with_len 0 (size_in t))
            → Shows numbers (filled p rank results) (with_next arrivals comm rank coll words) comm
        shows-fills g results same last first are =
            let f = filling g same last first in
            shows-filled numbers p whole-prepared arrivals comm shows-prepared rank within coll words g results first f.holds f.next f.given
            (λ r h. ap (λ rs. slice_get rs r) are
            ∙ slice_get_ranks (λ r. outcome_in coll.what (numbers t.full r) (result_of coll r g.given)) (size_in t) r h)
            f.low

        -- what all ask at the meeting that it fills
        pub asked-fills : (g : Gathered) → differs_in t rank coll ≡ false → is_last p rank ≡ true → slice_get p.waiting 0 ≡ Some g
            → g.asked ≡ map (λ (b : Arrival). b.coll) (meeting_of (with_next arrivals comm rank coll words) comm (size_in t) t.full)
        asked-fills g same last first =
            let f = filling g same last first in
            asked-filled numbers p whole-prepared arrivals comm shows-prepared rank within coll words g first f.holds f.next f.asked f.low

        -- the number of the meeting that it fills
        pub next-fills : (g : Gathered) → differs_in t rank coll ≡ false → is_last p rank ≡ true → slice_get p.waiting 0 ≡ Some g → next_meeting arrivals comm rank ≡ t.full
        next-fills g same last first = let f = filling g same last first in sym (shows.made rank) ∙ f.next
