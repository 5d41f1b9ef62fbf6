-- How runs end, from the first entry to the last: dead blocks, the quota, arithmetic, an abort, and a fault while others wait.
use Rattle.std.specs.Prelude.{◌≡◌, ℕ, pos, List, [], ◌∷◌, ◌++◌, codes, Some}
use Rattle.mpc_values.specs.declared.values.Word.TheVariants.{Null}
use Rattle.mpc_values.specs.declared.calls.Call.TheVariants as call
use Rattle.mpc_values.specs.declared.collectives.CollKind.TheVariants as what
use Rattle.mpc_values.specs.declared.faults.Fault.TheVariants as fault
use Rattle.mpc_base.specs.declared.journals.End.TheVariants as end
use Rattle.mpc_base.specs.declared.journals.RankState.TheVariants.{Exit, Stopped, Aborted, Fault}
use Rattle.run_model.specs.Setup.{Setup}
use Rattle.run_model.specs.Ending.{ending}
use Rattle.run_model.specs.Ranks.{rank_ends, status_of}
use Rattle.run_model.specs.Played.{Line, asks, Goes, after}
use Rattle.run_model.specs.Scenes.{int, flat, made, W, plain, any_one, done, gives, waits, broke, nothing}
use Rattle.world_cases.specs.Framed.{opens, closes_plain, rank, sets, prints}

-- Two tasks. Lines 9 to 14 are `int *p = malloc(40); p[0] = 1;`, `if (r == 0) free(p);`, `MPI_Barrier(MPI_COMM_WORLD);`,
-- `if (r == 1) { p = malloc(40); p[0] = 5; }`, `MPI_Barrier(MPI_COMM_WORLD);` and `printf("%d\n", p[0]);`.
abbrev pub two : Setup
two = flat 2 []

abbrev pub begins : ℕ → List Line
begins task = opens task ++ asks task (call.Malloc (pos 10)) 9 (gives (made 3 0)) ∷ sets task 9 (made 3 0) 1 ∷ rank task 10 ∷ []

abbrev pub arrives : ℕ → ℕ → Line
arrives task line = asks task (call.Arrive (plain what.Barrier W)) line done

abbrev pub leaves : ℕ → ℕ → Line
leaves task line = asks task (call.Leave W) line done

abbrev pub freed : List Line
freed =
    begins 0 ++ (asks 0 (call.Free (made 3 0)) 10 done ∷ arrives 0 11 ∷ asks 0 (call.Leave W) 11 waits
    ∷ (begins 1
    ++ arrives 1 11 ∷ leaves 1 11 ∷ leaves 0 11
    ∷ rank 0 12 ∷ rank 1 12 ∷ asks 1 (call.Malloc (pos 10)) 12 (gives (made 4 0)) ∷ sets 1 12 (made 4 0) 5
    ∷ arrives 0 13 ∷ arrives 1 13 ∷ leaves 0 13 ∷ leaves 1 13
    ∷ asks 0 (call.Load (made 3 0)) 14 (broke fault.Dangling)
    ∷ asks 1 (call.Load (made 4 0)) 14 nothing ∷ []))

-- One task with r and s in memory. Line 9 is `int *p = malloc(40); if (p == NULL) printf("null\n"); else printf("got\n");`
abbrev pub one : Setup
one = flat 1 []

abbrev pub without_room : List Line
without_room = opens 0 ++ asks 0 (call.Malloc (pos 10)) 9 (gives Null) ∷ prints 0 9 (codes "null\n") ∷ closes_plain 0 10

abbrev pub with_room : List Line
with_room = opens 0 ++ asks 0 (call.Malloc (pos 10)) 9 (gives (made 3 0)) ∷ prints 0 9 (codes "got\n") ∷ closes_plain 0 10

-- `int main(void) { int a = 0; int b = 0 && (1 / a); long c = 3000000000; int d = c; printf("%d %d %d\n", b, -7 / 2, d); return 3; }`,
-- all on line 1: the task keeps its locals
abbrev pub arithmetic : List Line
arithmetic = prints 0 1 (codes "0 -3 -1294967296\n") ∷ asks 0 (call.Finish (pos 3)) 1 (gives (int 3)) ∷ []

-- `int main(void) { int a = -2147483647 - 1; return a / -1; }`
abbrev pub overflow : List Line
overflow = asks 0 (call.Broke fault.Overflow) 1 (broke fault.Overflow) ∷ asks 0 (call.Finish (pos 0)) 1 nothing ∷ []

-- `MPI_Abort(MPI_COMM_WORLD, 9);` on line 9
abbrev pub aborted : List Line
aborted = opens 0 ++ asks 0 (call.Abort W (pos 9)) 9 (gives (int 9)) ∷ asks 0 call.Finalize 10 nothing ∷ []

-- rank 0 waits for a message, and rank 1 has a fault
abbrev pub while_one_waits : List Line
while_one_waits =
    opens 0 ++ (opens 1
    ++ asks 0 (call.Probe any_one any_one W) 9 waits
    ∷ asks 1 (call.Load Null) 9 (broke fault.NullAccess)
    ∷ asks 0 (call.Probe any_one any_one W) 9 nothing ∷ [])

pub record Endings : Type 0 where
  pub dead_block : Goes two freed
  pub null : Goes (record one { quota = 13 }) without_room
  pub got : Goes (record one { quota = 14 }) with_room
  pub exit : Goes one arithmetic
  pub exit_is : rank_ends (after one arithmetic) end.Finished ≡ record { state = Exit (pos 3); output = codes "0 -3 -1294967296\n" } ∷ []
  pub exit_status : status_of end.Finished (rank_ends (after one arithmetic) end.Finished) ≡ Some 1
  pub broken : Goes one overflow
  pub broken_is : ending one (after one overflow) ≡ end.Fault 0 fault.Overflow 1
  pub abort : Goes one aborted
  pub abort_is : ending one (after one aborted) ≡ end.Abort 0 (pos 9) 9
  pub abort_state : rank_ends (after one aborted) (end.Abort 0 (pos 9) 9) ≡ record { state = Aborted (pos 9) 9; output = [] } ∷ []
  pub waiting : Goes two while_one_waits
  pub waiting_is : ending two (after two while_one_waits) ≡ end.Fault 1 fault.NullAccess 9
  pub waiting_states : rank_ends (after two while_one_waits) (end.Fault 1 fault.NullAccess 9) ≡ record { state = Stopped; output = [] } ∷ record { state = Fault fault.NullAccess 9; output = [] } ∷ []
