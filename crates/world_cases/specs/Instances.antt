-- Shared variables of two NUMA instances and of a node, from the first entry to the last.
use Rattle.std.specs.Prelude.{◌≡◌, ℕ, ◌+◌, List, [], ◌∷◌, ◌++◌, map, length, codes}
use Rattle.std.specs.List.{range_with_len}
use Rattle.mpc_values.specs.declared.owners.Level.TheVariants.{Numa, Node}
use Rattle.mpc_values.specs.declared.calls.Call.TheVariants as call
use Rattle.c_tree.specs.declared.program.HlsKind.TheVariants.{Single, Nowait, Barrier}
use Rattle.topology.specs.declared.core_numbers.CoreNumbers.{CoreNumbers}
use Rattle.topology.specs.Instances.{flat_machine}
use Rattle.run_model.specs.Setup.{Setup}
use Rattle.run_model.specs.Start.{first_memory}
use Rattle.run_model.specs.Played.{Line, asks, Goes}
use Rattle.run_model.specs.Scenes.{shared, int, setup_on, at, done, gives, runs, skips, holds, waits, nothing}
use Rattle.world_cases.specs.Framed.{opens, closes_plain, value, sets, prints}

-- eight cores, four to a NUMA instance
abbrev pub core : ℕ → ℕ → CoreNumbers
core numa own = record { numa = numa; l3 = numa; l2 = own; l1 = own }

abbrev pub eight : List CoreNumbers
eight = core 0 0 ∷ core 0 1 ∷ core 0 2 ∷ core 0 3 ∷ core 1 4 ∷ core 1 5 ∷ core 1 6 ∷ core 1 7 ∷ []

-- `int t[4];` and `#pragma hls numa(t)`. Four tasks fill t with 1 to 4 in a single on line 9, and each prints the sum of t on
-- line 12: placed compactly, on the cores 0 to 3, and scattered, on the cores 0, 4, 1 and 5.
abbrev pub filling : List ℕ → Setup
filling cores = setup_on eight cores (shared Numa (int 0 ∷ int 0 ∷ int 0 ∷ int 0 ∷ []) ∷ []) (record { kind = Single; level = Numa } ∷ [])

abbrev pub compact : Setup
compact = filling (0 ∷ 1 ∷ 2 ∷ 3 ∷ [])

abbrev pub scattered : Setup
scattered = filling (0 ∷ 4 ∷ 1 ∷ 5 ∷ [])

abbrev pub holds_back : ℕ → List Line
holds_back task = opens task ++ asks task (call.HlsEnter 0) 9 holds ∷ asks task (call.HlsWait 0) 9 waits ∷ []

abbrev pub fills : ℕ → List Line
fills task =
    opens task ++ asks task (call.HlsEnter 0) 9 runs
    ∷ (map (λ k. sets task 10 (at 0 k) (k + 1)) (range_with_len 0 4) ++ asks task (call.HlsExit 0) 9 done ∷ [])

abbrev pub sums : ℕ → List Line
sums task = map (λ k. value task 12 (at 0 k) (k + 1)) (range_with_len 0 4) ++ prints task 12 (codes "10\n") ∷ closes_plain task 13

abbrev pub goes_on : ℕ → List Line
goes_on task = asks task (call.HlsWait 0) 9 done ∷ sums task

-- the last of four to come fills the one copy
abbrev pub in_one : List Line
in_one = holds_back 0 ++ (holds_back 1 ++ (holds_back 2 ++ (fills 3 ++ (goes_on 0 ++ (goes_on 1 ++ (goes_on 2 ++ sums 3))))))

-- the last of the two of each instance fills its copy: task 2 that of tasks 0 and 2, and task 3 that of tasks 1 and 3
abbrev pub in_two : List Line
in_two =
    holds_back 0 ++ (holds_back 1 ++ (fills 2 ++ (asks 1 (call.HlsWait 0) 9 nothing ∷ (goes_on 0 ++ (sums 2 ++ (fills 3 ++ (goes_on 1 ++ sums 3)))))))

-- Two tasks share `int c[3];` by `#pragma hls node(c)`. Line 9 is `for (k = 0; k < 3; k++)`, around a single nowait on line 10 with
-- `c[k] = c[k] + 1;` on line 11; line 12 is a barrier, and line 13 prints all three.
abbrev pub rounds : Setup
rounds = setup_on (flat_machine 2) (0 ∷ 1 ∷ []) (shared Node (int 0 ∷ int 0 ∷ int 0 ∷ []) ∷ []) (record { kind = Nowait; level = Node } ∷ record { kind = Barrier; level = Node } ∷ [])

abbrev pub counts : ℕ → ℕ → List Line
counts task k = asks task (call.HlsEnter 0) 10 runs ∷ value task 11 (at 0 k) 0 ∷ sets task 11 (at 0 k) 1 ∷ asks task (call.HlsExit 0) 10 done ∷ []

abbrev pub passes : ℕ → Line
passes task = asks task (call.HlsEnter 0) 10 skips

abbrev pub shows : ℕ → List Line
shows task = asks task (call.HlsBarWait 1) 12 done ∷ (map (λ k. value task 13 (at 0 k) 1) (range_with_len 0 3) ++ prints task 13 (codes "1 1 1\n") ∷ closes_plain task 14)

abbrev pub three_rounds : List Line
three_rounds =
    opens 0 ++ (opens 1 ++ (counts 0 0 ++ (passes 1 ∷ (counts 1 1 ++ (counts 1 2
    ++ asks 1 (call.HlsBar 1) 12 done ∷ asks 1 (call.HlsBarWait 1) 12 waits
    ∷ passes 0 ∷ passes 0
    ∷ asks 0 (call.HlsBar 1) 12 done ∷ (shows 0 ++ shows 1))))))

-- a single nowait of two instances: in each the first to come runs the block
abbrev pub nowait : Setup
nowait = record scattered { program = record (scattered.program) { constructs = record { kind = Nowait; level = Numa } ∷ [] } }

pub record Instances : Type 0 where
  pub one_copy : length (first_memory compact) ≡ 1
  pub compactly : Goes compact in_one
  pub two_copies : length (first_memory scattered) ≡ 2
  pub apart : Goes scattered in_two
  pub one_runs_each_round : Goes rounds three_rounds
  pub first_of_each : Goes nowait (
      asks 3 (call.HlsEnter 0) 9 runs ∷ asks 0 (call.HlsEnter 0) 9 runs ∷ asks 1 (call.HlsEnter 0) 9 skips
      ∷ asks 0 (call.Store (at 0 0) (int 5)) 10 done ∷ asks 2 (call.HlsEnter 0) 9 skips ∷ asks 2 (call.Load (at 0 0)) 11 (gives (int 5))
      ∷ asks 1 (call.Load (at 0 0)) 11 (gives (int 0)) ∷ asks 3 (call.HlsExit 0) 9 done ∷ asks 0 (call.HlsExit 0) 9 done ∷ [])
