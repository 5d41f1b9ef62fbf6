-- Two ranks send to each other and then receive, from the first entry to the last.
use Rattle.std.specs.Prelude.{◌≡◌, ℕ, pos, List, [], ◌∷◌, ◌++◌, replicate, codes}
use Rattle.mpc_values.specs.declared.values.Word.TheVariants.{Req}
use Rattle.mpc_values.specs.declared.calls.Call.TheVariants as call
use Rattle.mpc_base.specs.declared.journals.End.TheVariants as end
use Rattle.mpc_base.specs.declared.journals.RankState.TheVariants.{Blocked}
use Rattle.run_model.specs.Setup.{Setup}
use Rattle.run_model.specs.Ending.{ending}
use Rattle.run_model.specs.Ranks.{rank_ends}
use Rattle.run_model.specs.Played.{Line, asks, Goes, after}
use Rattle.run_model.specs.Scenes.{private, int, flat, at, send, recv, posted, waits, nothing}
use Rattle.world_cases.specs.Framed.{opens, closes_plain, rank, value, prints, sends, receives}

-- `int a = 7; int b;`. Line 9 is `MPI_Send(&a, 1, MPI_INT, 1 - r, 0, MPI_COMM_WORLD);`
-- `MPI_Recv(&b, 1, MPI_INT, 1 - r, 0, MPI_COMM_WORLD, &s); printf("%d\n", b);`
abbrev pub two : Setup
two = flat 2 (private (int 7 ∷ []) ∷ private (int 0 ∷ []) ∷ [])

-- the first half of a rank, whose send of so many words has this number, and its second half
abbrev pub sends_first : ℕ → ℕ → ℕ → ℕ → List Line
sends_first task other count number = rank task 9 ∷ sends task 9 (send (at 0 0) count (pos other) 0) 1 number 0 0

abbrev pub receives_then : ℕ → ℕ → ℕ → ℕ → ℕ → ℕ → List ℕ → List Line
receives_then task other count post met first text =
    rank task 9
    ∷ (receives task 9 (recv (at 1 0) count (pos other) (pos 0)) 2 post met count (pos other) (pos 0)
    ++ value task 9 (at 1 0) first ∷ prints task 9 text ∷ closes_plain task 10)

-- both send so many words, and then both receive them
abbrev pub exchange : ℕ → ℕ → List ℕ → List Line
exchange count first text =
    opens 0 ++ (opens 1 ++ (sends_first 0 1 count 1 ++ (sends_first 1 0 count 2
    ++ (receives_then 0 1 count 3 2 first text ++ receives_then 1 0 count 4 1 first text))))

-- A send that is too long to be eager waits for its receive. So both wait in complete, and the next visit of a blocked task
-- makes no entry.
abbrev pub waits_first : ℕ → ℕ → ℕ → ℕ → List Line
waits_first task other count number =
    rank task 9
    ∷ asks task (send (at 0 0) count (pos other) 0) 9 (posted 1 number 0 0)
    ∷ asks task (call.Complete (Req 1)) 9 waits
    ∷ asks task (call.Complete (Req 1)) 9 nothing
    ∷ []

abbrev pub both_wait : ℕ → List Line
both_wait count = opens 0 ++ (opens 1 ++ (waits_first 0 1 count 1 ++ waits_first 1 0 count 2))

-- no eager sends
abbrev pub none_eager : Setup
none_eager = record two { eager = 0 }

-- the same with `int a[5]; int b[5];`, and the bound 4
abbrev pub arrays : Setup
arrays = record (flat 2 (private (replicate 5 (int 0)) ∷ private (replicate 5 (int 0)) ∷ [])) { eager = 4 }

pub record Exchanges : Type 0 where
  pub both_print_seven : Goes two (exchange 1 7 (codes "7\n"))
  pub both_finish : ending two (after two (exchange 1 7 (codes "7\n"))) ≡ end.Finished
  pub both_are_blocked : Goes none_eager (both_wait 1)
  pub is_stuck : ending none_eager (after none_eager (both_wait 1)) ≡ end.Stuck
  pub ranks : rank_ends (after none_eager (both_wait 1)) end.Stuck ≡ record { state = Blocked 17 9; output = [] } ∷ record { state = Blocked 17 9; output = [] } ∷ []
  -- of 4 words both are eager, and of 5 none
  pub four_words : Goes arrays (exchange 4 0 (codes "0\n"))
  pub four_finish : ending arrays (after arrays (exchange 4 0 (codes "0\n"))) ≡ end.Finished
  pub five_words : Goes arrays (both_wait 5)
  pub five_are_stuck : ending arrays (after arrays (both_wait 5)) ≡ end.Stuck
