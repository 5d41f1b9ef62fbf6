-- Collective calls of three ranks, by short names, for worked cases.
use Rattle.std.specs.Prelude.{ℕ, pos, false, List, [], ◌∷◌, map}
use Rattle.std.specs.List.{range_with_len}
use Rattle.mpc_values.specs.declared.values.Word.{Word}
use Rattle.mpc_values.specs.declared.values.Word.TheVariants.{Int, Null, Comm}
use Rattle.mpc_values.specs.declared.values.Datatype.TheVariants as datatype
use Rattle.mpc_values.specs.declared.values.Op.TheVariants as op
use Rattle.mpc_values.specs.declared.collectives.Coll.{Coll}
use Rattle.mpc_values.specs.declared.collectives.CollKind.{CollKind}
use Rattle.mpi_coll.specs.declared.arrivals.Arrival.{Arrival}
use Rattle.mpi_coll.specs.Results.{result_of}

abbrev pub int : ℕ → Word
int n = Int (pos n)

-- a call with MPI_INT, MPI_SUM, the root 1 and a count of 1
abbrev pub coll : CollKind → Coll
coll what = record {
  what = what;
  comm = Comm 1;
  root = pos 1;
  op = op.Sum;
  kind = datatype.Int;
  count = pos 1;
  other = pos 1;
  from = Null;
  into = Null;
  colour = pos 0;
  key = pos 0;
}

-- what each of three ranks gets, by what they gave
abbrev pub each : CollKind → List (List Word) → List (List Word)
each what given = map (λ rank. result_of (coll what) rank given) (range_with_len 0 3)

-- one word of each rank, and three words of each
abbrev pub ones : List (List Word)
ones = (int 1 ∷ []) ∷ (int 2 ∷ []) ∷ (int 3 ∷ []) ∷ []

abbrev pub threes : List (List Word)
threes = (int 1 ∷ int 2 ∷ int 3 ∷ []) ∷ (int 4 ∷ int 5 ∷ int 6 ∷ []) ∷ (int 7 ∷ int 8 ∷ int 9 ∷ []) ∷ []

-- a member's arrival at a meeting of communicator 1
abbrev pub arrival : ℕ → ℕ → CollKind → Arrival
arrival rank meeting what = record { comm = 1; rank = rank; meeting = meeting; coll = coll what; given = []; left = false }
