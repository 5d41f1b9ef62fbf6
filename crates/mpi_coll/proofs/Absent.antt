-- A communicator without tables has no members there.
use Rattle.std.proofs.Common.{◌≡◌, ℕ, zero, suc, ◌&&◌, ◌<◌, not, true, false, inl, inr, length, List, [], ◌∷◌, ◌++◌, refl, ap, sym, ◌∙◌, subst, arith}
use Rattle.std.specs.Prelude.{Option, Some, None, slice_get, unwrap_or, nat_lt}
use Rattle.std.proofs.lemmas.Option.{unwrap_or-slice_get, get_or_from_slice_get, slice_get_past}
use Rattle.std.proofs.lemmas.Bool.{false≢true, cases_lt}
use Rattle.mpc_values.specs.declared.collectives.Coll.{Coll}
use Rattle.mpi_coll.specs.Rooms.{Tables, begun, size_in, made_by, gone_by, differs_in, is_due, IsWhole}
use Rattle.mpi_coll.specs.Kept.{room_at, differs_at, is_due_at}
use Rattle.mpi_coll.proofs.Beginning.{whole-begun}
use Rattle.mpi_coll.proofs.Comparisons.{lt_no, no_left}

none_there : (rooms : List Tables) (comm : ℕ) → None ≡ slice_get rooms comm → room_at rooms comm ≡ begun 0
none_there rooms comm h = sym (unwrap_or-slice_get rooms comm (begun 0)) ∙ ap (λ (o : Option Tables). unwrap_or o (begun 0)) (sym h)

pub absent_differs : (rooms : List Tables) (comm rank : ℕ) (coll : Coll) → None ≡ slice_get rooms comm → false ≡ differs_at rooms comm rank coll
absent_differs rooms comm rank coll h =
    sym (ap (λ (t : Tables). nat_lt rank (size_in t) && differs_in t rank coll) (none_there rooms comm h) ∙ no_left (nat_lt rank 0) (differs_in (begun 0) rank coll) (lt_no rank 0 (omega arith)))

pub absent_due : (rooms : List Tables) (comm rank : ℕ) → None ≡ slice_get rooms comm → false ≡ is_due_at rooms comm rank
absent_due rooms comm rank h =
    sym (ap (λ (t : Tables). is_due t rank) (none_there rooms comm h) ∙ no_left (nat_lt (gone_by (begun 0) rank) (made_by (begun 0) rank)) (not (nat_lt 0 (made_by (begun 0) rank))) (lt_no (gone_by (begun 0) rank) (made_by (begun 0) rank) (omega arith)))

-- the tables that are found
pub there_at : (rooms : List Tables) (comm : ℕ) (t : Tables) → Some t ≡ slice_get rooms comm → t ≡ room_at rooms comm
there_at rooms comm t h = sym (get_or_from_slice_get rooms comm t (begun 0) (sym h))

pub absent_whole : (rooms : List Tables) (comm : ℕ) → None ≡ slice_get rooms comm → IsWhole (room_at rooms comm)
absent_whole rooms comm h = subst IsWhole (sym (none_there rooms comm h)) (whole-begun 0)

-- tables without members behind the others
pub room_at-push : (rooms : List Tables) (t : Tables) → t ≡ begun 0 → (comm : ℕ) → room_at (rooms ++ t ∷ []) comm ≡ room_at rooms comm
room_at-push [] t is zero = is
room_at-push [] t is (suc comm) = refl
room_at-push (x ∷ rooms) t is zero = refl
room_at-push (x ∷ rooms) t is (suc comm) = room_at-push rooms t is comm

-- a member that can leave has tables
pub due-there : (rooms : List Tables) (comm rank : ℕ) → is_due_at rooms comm rank ≡ true → comm < length rooms
due-there rooms comm rank due = elim (cases_lt comm (length rooms)) [
  | inl lt ↦ lt
  | inr ge ↦ absurd (false≢true (absent_due rooms comm rank (sym (slice_get_past rooms comm ge)) ∙ due))
]

pub absent_members : (rooms : List Tables) (comm : ℕ) → None ≡ slice_get rooms comm → 0 ≡ size_in (room_at rooms comm)
absent_members rooms comm h = sym (ap size_in (none_there rooms comm h))

pub absent_made : (rooms : List Tables) (comm rank : ℕ) → None ≡ slice_get rooms comm → 0 ≡ made_by (room_at rooms comm) rank
absent_made rooms comm rank h = sym (ap (λ (t : Tables). made_by t rank) (none_there rooms comm h))
