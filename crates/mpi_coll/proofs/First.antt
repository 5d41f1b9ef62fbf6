-- The tables before the first arrival, of all communicators.
use Rattle.std.proofs.Common.{◌≡◌, ℕ, zero, suc, ◌<◌, ◌≤◌, ◌==◌, false, List, [], ◌∷◌, length, refl, ap, sym, ◌∙◌, subst, arith}
use Rattle.std.specs.Prelude.{◌||◌}
use Rattle.std.proofs.lemmas.List.FromFn.{length-range_with_len}
use Rattle.mpi_comm.specs.Communicators.{comm_world}
use Rattle.mpi_comm.specs.Numbers.{NoneMadeBy}
use Rattle.mpi_coll.specs.Rooms.{Tables, begun, size_in}
use Rattle.mpi_coll.specs.Shown.{Shows}
use Rattle.mpi_coll.specs.Kept.{room_at}
use Rattle.mpi_coll.specs.Together.{members_of, new_numbers, ShowsAll, FitsSize}
use Rattle.mpi_coll.proofs.Beginning.{shows-begun}
use Rattle.mpi_coll.proofs.Comparisons.{eq_no, no_left}
use Rattle.mpi_coll.proofs.Opened.{size-begun}

-- what holds of the tables of no members and of all tasks holds of each
first-each : (tasks : ℕ) (P : ℕ → Tables → Type 0) → ((comm : ℕ) → P comm (begun 0)) → P 1 (begun tasks) → (comm : ℕ) → P comm (room_at (begun 0 ∷ begun tasks ∷ []) comm)
first-each tasks P none world zero = none 0
first-each tasks P none world (suc zero) = world
first-each tasks P none world (suc (suc comm)) = none (suc (suc comm))

not_made : (tasks comm meeting : ℕ) → 0 < comm → NoneMadeBy (comm_world tasks ∷ []) comm meeting
not_made tasks comm meeting h = ap (λ b. b || false) (no_left (0 == comm) (0 == meeting) (eq_no 0 comm (λ e. omega (arith, e, h))))

first : (tasks : ℕ) → ShowsAll (begun 0 ∷ begun tasks ∷ []) (comm_world tasks ∷ []) []
first tasks = record {
  each = first-each tasks (λ comm t. Shows (new_numbers (comm_world tasks ∷ []) comm) t [] comm)
      (λ comm. shows-begun (new_numbers (comm_world tasks ∷ []) comm) 0 comm) (shows-begun (new_numbers (comm_world tasks ∷ []) 1) tasks 1);
  size = first-each tasks (λ comm t. FitsSize t (length (members_of (comm_world tasks ∷ []) comm)))
      (λ comm h. absurd (omega (arith, h))) (λ h. size-begun tasks ∙ sym (length-range_with_len 0 tasks));
  closed = first-each tasks (λ comm t. size_in t ≡ 0 → t.full ≡ 0) (λ comm h. refl) (λ h. refl);
  unmade = first-each tasks (λ comm t. (meeting : ℕ) → 0 < comm → t.full ≤ meeting → NoneMadeBy (comm_world tasks ∷ []) comm meeting)
      (λ comm meeting h g. not_made tasks comm meeting h) (λ meeting h g. not_made tasks 1 meeting h);
}

pub first-all : (tasks : ℕ) (rooms : List Tables) → rooms ≡ begun 0 ∷ begun tasks ∷ [] → ShowsAll rooms (comm_world tasks ∷ []) []
first-all tasks rooms is = subst (λ rs. ShowsAll rs (comm_world tasks ∷ []) []) (sym is) (first tasks)
