-- The tables of a communicator that nobody has come to, once they are made, and tables that stay as they are for other
-- reasons.
use Rattle.std.proofs.Common.{◌≡◌, ℕ, ◌+◌, ◌<◌, Bool, true, false, cond, ◌==◌, ◌&&◌, List, length, map, refl, ap, sym, ◌∙◌, arith}
use Rattle.std.specs.Prelude.{Some, nat_lt}
use Rattle.std.proofs.lemmas.List.{get_or_past}
use Rattle.std.proofs.lemmas.List.FromFn.{length-map-range_with_len}
use Rattle.mpc_values.specs.declared.values.Word.{Word}
use Rattle.mpc_values.specs.declared.collectives.Coll.{Coll}
use Rattle.mpi_coll.specs.declared.arrivals.Arrival.{Arrival}
use Rattle.mpi_coll.specs.Rooms.{Tables, begun, size_in, made_by, differs_in, prepared, IsWhole}
use Rattle.mpi_coll.specs.Shown.{outcome_in, Shows}
use Rattle.mpi_coll.specs.Results.{result_of}
use Rattle.mpi_coll.specs.Meetings.{meeting_of}
use Rattle.mpi_coll.specs.Kept.{opened_as}
use Rattle.mpi_coll.specs.Together.{FitsSize, Remains}
use Rattle.mpi_coll.proofs.Beginning.{alike, whole-begun}
use Rattle.mpi_coll.proofs.Comparisons.{lt_yes, lt_no, eq_from, ne_from, no_left}
use Rattle.mpi_coll.proofs.Tables.{shows-prepared}

-- tables that stay as they are stand for what they stood for
pub Remains-itself : (t : Tables) → Remains t t
Remains-itself t = record { shows = λ numbers arrivals comm shows. shows; size = refl; full = refl }

-- so do tables in which an arrival is written down
pub Remains-prepared : (t : Tables) → IsWhole t → (rank : ℕ) → rank < length t.made → (coll : Coll) (words : List Word) → Remains t (prepared t rank coll words)
Remains-prepared t whole rank within coll words = record {
  shows = λ numbers arrivals comm shows. shows-prepared t whole rank within coll words numbers arrivals comm shows;
  size = refl;
  full = refl;
}

-- Tables stand for the same arrivals with other numbers of new communicators, where these are the same for the last meeting
-- that is full.
pub shows-numbers : (numbers others : ℕ → ℕ → ℕ) (t : Tables) (arrivals : List Arrival) (comm : ℕ) → ((meeting rank : ℕ) → meeting + 1 ≡ t.full → rank < size_in t → numbers meeting rank ≡ others meeting rank)
    → Shows numbers t arrivals comm → Shows others t arrivals comm
shows-numbers numbers others t arrivals comm same shows = record {
  turns = shows.turns;
  made = shows.made;
  held = shows.held;
  left = shows.left;
  due = λ rank a h got at unleft.
      shows.due rank a h got at unleft
      ∙ ap (λ n. Some (outcome_in a.coll.what n (result_of a.coll rank (map (λ (b : Arrival). b.given) (meeting_of arrivals comm (size_in t) a.meeting))))) (same a.meeting rank at h);
}

pub size-begun : (members : ℕ) → size_in (begun members) ≡ members
size-begun members = length-map-range_with_len (λ (rank : ℕ). 0) 0 members

-- tables without members stand for no arrivals, as those of so many members before their first meeting
shows-empty : (numbers : ℕ → ℕ → ℕ) (t : Tables) (arrivals : List Arrival) (comm members : ℕ) → size_in t ≡ 0 → Shows numbers t arrivals comm → Shows numbers (begun members) arrivals comm
shows-empty numbers t arrivals comm members none shows = record {
  turns = shows.turns;
  made = λ rank. alike {X = ℕ} 0 members rank ∙ (sym (get_or_past t.made rank 0 (omega (arith, none))) ∙ shows.made rank);
  held = λ place rank g a got came. let nay : ⊥ = cc in absurd nay;
  left = λ rank a got. absurd (omega (arith, shows.turns.latest rank a got, shows.made rank, get_or_past t.made rank 0 (omega (arith, none))));
  due = λ rank a h got at unleft. absurd (omega (arith, at));
}

module _ (t : Tables) (members : ℕ) where
  pub shows-opened_as : (numbers : ℕ → ℕ → ℕ) (arrivals : List Arrival) (comm : ℕ) → Shows numbers t arrivals comm → Shows numbers (opened_as t members) arrivals comm
  shows-opened_as numbers arrivals comm shows = at (size_in t == 0) refl
    where
      at : (b : Bool) → (size_in t == 0) ≡ b → Shows numbers (cond b (begun members) t) arrivals comm
      at true e = shows-empty numbers t arrivals comm members (eq_from (size_in t) 0 e) shows
      at false e = shows

  pub full-opened_as : (size_in t ≡ 0 → t.full ≡ 0) → (opened_as t members).full ≡ t.full
  full-opened_as none = at (size_in t == 0) refl
    where
      at : (b : Bool) → (size_in t == 0) ≡ b → (cond b (begun members) t).full ≡ t.full
      at true e = sym (none (eq_from (size_in t) 0 e))
      at false e = refl

  pub made-opened_as : (rank : ℕ) → made_by (opened_as t members) rank ≡ made_by t rank
  made-opened_as rank = at (size_in t == 0) refl
    where
      at : (b : Bool) → (size_in t == 0) ≡ b → made_by (cond b (begun members) t) rank ≡ made_by t rank
      at true e = alike {X = ℕ} 0 members rank ∙ sym (get_or_past t.made rank 0 (omega (arith, eq_from (size_in t) 0 e)))
      at false e = refl

  pub whole-opened_as : IsWhole t → IsWhole (opened_as t members)
  whole-opened_as whole = at (size_in t == 0)
    where
      at : (b : Bool) → IsWhole (cond b (begun members) t)
      at true = whole-begun members
      at false = whole

  module _ (fits : FitsSize t members) where
    pub size-opened_as : size_in (opened_as t members) ≡ members
    size-opened_as = at (size_in t == 0) refl
      where
        at : (b : Bool) → (size_in t == 0) ≡ b → size_in (cond b (begun members) t) ≡ members
        at true e = size-begun members
        at false e = fits (let some = ne_from (size_in t) 0 e in omega (arith, some))

    pub differs-opened_as : (rank : ℕ) (coll : Coll) → rank < members → (nat_lt rank (size_in t) && differs_in t rank coll) ≡ differs_in (opened_as t members) rank coll
    differs-opened_as rank coll within = at (size_in t == 0) refl
      where
        at : (b : Bool) → (size_in t == 0) ≡ b → (nat_lt rank (size_in t) && differs_in t rank coll) ≡ differs_in (cond b (begun members) t) rank coll
        at true e = no_left (nat_lt rank (size_in t)) (differs_in t rank coll) (lt_no rank (size_in t) (omega (arith, eq_from (size_in t) 0 e)))
        at false e =
            let size : size_in t ≡ members = fits (let some = ne_from (size_in t) 0 e in omega (arith, some)) in
            ap (λ b. b && differs_in t rank coll) (lt_yes rank (size_in t) (omega (arith, size, within)))
