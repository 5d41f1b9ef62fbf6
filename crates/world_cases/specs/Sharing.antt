-- Shared variables and their directives.
use Rattle.std.specs.Prelude.{length, ◌≡◌, ℕ, List, [], ◌∷◌}
use Rattle.mpc_values.specs.declared.calls.Call.TheVariants as call
use Rattle.run_model.specs.Setup.{Setup}
use Rattle.run_model.specs.Start.{first_memory}
use Rattle.run_model.specs.Owners.{owner_of}
use Rattle.run_model.specs.Played.{asks, Goes}
use Rattle.run_model.specs.Scenes.{shared, int, setup_on, at, done, gives, runs, skips, holds, waits, nothing}
use Rattle.std.specs.Prelude.{Ok}
use Rattle.mpc_values.specs.declared.owners.Level.TheVariants.{Numa, Node}
use Rattle.mpc_values.specs.declared.owners.Owner.TheVariants.{Inst}
use Rattle.mpc_values.specs.declared.values.Obj.TheVariants.{Glob}
use Rattle.c_tree.specs.declared.program.HlsKind.TheVariants.{Single, Nowait, Barrier}
use Rattle.topology.specs.declared.core_numbers.CoreNumbers.{CoreNumbers}
use Rattle.topology.specs.declared.placements.Placement.TheVariants.{Scatter}
use Rattle.topology.specs.Places.{placed}
use Rattle.topology.specs.Instances.{flat_machine}

-- eight cores, four to a NUMA instance
abbrev pub core : ℕ → ℕ → CoreNumbers
core numa own = record { numa = numa; l3 = numa; l2 = own; l1 = own }

abbrev pub eight : List CoreNumbers
eight = core 0 0 ∷ core 0 1 ∷ core 0 2 ∷ core 0 3 ∷ core 1 4 ∷ core 1 5 ∷ core 1 6 ∷ core 1 7 ∷ []

-- `int t[2]` of each NUMA instance, and a single and a barrier over it; four tasks on the cores 0, 4, 1 and 5
abbrev pub scatter : Setup
scatter = setup_on eight (0 ∷ 4 ∷ 1 ∷ 5 ∷ []) (shared Numa (int 0 ∷ int 0 ∷ []) ∷ []) (record { kind = Single; level = Numa } ∷ record { kind = Barrier; level = Numa } ∷ [])

-- Two tasks share c by `node(c)`; a single nowait goes round twice. The second meeting begins before the first has ended.
abbrev pub rounds : Setup
rounds = setup_on (flat_machine 2) (0 ∷ 1 ∷ []) (shared Node (int 0 ∷ int 0 ∷ []) ∷ []) (record { kind = Nowait; level = Node } ∷ [])

-- A block that enters its own single again ends from the inside: the first exit is that of the second meeting.
abbrev pub alone : Setup
alone = setup_on (flat_machine 1) (0 ∷ []) (shared Node (int 0 ∷ []) ∷ []) (record { kind = Single; level = Node } ∷ [])

pub record Sharing : Type 0 where
  pub scattered : placed Scatter 5 eight ≡ Ok (0 ∷ 4 ∷ 1 ∷ 5 ∷ 2 ∷ [])
  pub owner : owner_of scatter 3 (Glob 0) ≡ Inst Numa 1
  -- one copy of t for the two instances that hold tasks, and for four tasks on the cores 0 to 3 one alone
  pub two_copies : length (first_memory scatter) ≡ 2
  pub one_copy : length (first_memory (record scatter { cores = 0 ∷ 1 ∷ 2 ∷ 3 ∷ [] })) ≡ 1
  -- Two instances: tasks 0 and 2, and tasks 1 and 3. In each the last one to arrive runs the block, alone, and each copy has
  -- what its own runner stored.
  pub two_instances : Goes scatter (
      asks 0 (call.HlsEnter 0) 9 holds
      ∷ asks 1 (call.HlsEnter 0) 9 holds
      ∷ asks 0 (call.HlsWait 0) 9 waits
      ∷ asks 3 (call.HlsEnter 0) 9 runs
      ∷ asks 1 (call.HlsWait 0) 9 waits
      ∷ asks 3 (call.Store (at 0 0) (int 31)) 10 done
      ∷ asks 3 (call.HlsExit 0) 9 done
      ∷ asks 0 (call.HlsWait 0) 9 nothing
      ∷ asks 1 (call.HlsWait 0) 9 done
      ∷ asks 1 (call.Load (at 0 0)) 11 (gives (int 31))
      ∷ asks 2 (call.HlsEnter 0) 9 runs
      ∷ asks 2 (call.Load (at 0 0)) 10 (gives (int 0))
      ∷ asks 2 (call.Store (at 0 0) (int 21)) 10 done
      ∷ asks 2 (call.HlsExit 0) 9 done
      ∷ asks 0 (call.HlsWait 0) 9 done
      ∷ asks 0 (call.Load (at 0 0)) 11 (gives (int 21))
      ∷ asks 3 (call.Load (at 0 0)) 11 (gives (int 31))
      ∷ asks 1 (call.HlsBar 1) 12 done ∷ asks 1 (call.HlsBarWait 1) 12 waits
      ∷ asks 0 (call.HlsBar 1) 12 done
      ∷ asks 3 (call.HlsBar 1) 12 done
      ∷ asks 1 (call.HlsBarWait 1) 12 done ∷ asks 0 (call.HlsBarWait 1) 12 waits
      ∷ [])
  pub one_runs_each_round : Goes rounds (
      asks 0 (call.HlsEnter 0) 9 runs
      ∷ asks 1 (call.HlsEnter 0) 9 skips
      ∷ asks 1 (call.HlsEnter 0) 9 runs
      ∷ asks 1 (call.Store (at 0 1) (int 1)) 9 done
      ∷ asks 0 (call.Store (at 0 0) (int 1)) 9 done
      ∷ asks 0 (call.HlsExit 0) 9 done
      ∷ asks 0 (call.HlsEnter 0) 9 skips
      ∷ asks 1 (call.HlsExit 0) 9 done
      ∷ asks 0 (call.HlsExit 0) 9 done
      ∷ asks 0 (call.Load (at 0 1)) 10 (gives (int 1))
      ∷ asks 0 (call.HlsWait 0) 10 done ∷ asks 0 (call.HlsBarWait 7) 10 done
      ∷ [])
  -- Task 0 comes to two meetings before task 1 comes to the first: it runs both, and task 1 skips both and runs the third.
  pub one_is_ahead : Goes rounds (
      asks 0 (call.HlsEnter 0) 9 runs
      ∷ asks 0 (call.Store (at 0 0) (int 1)) 9 done
      ∷ asks 0 (call.HlsExit 0) 9 done
      ∷ asks 0 (call.HlsEnter 0) 9 runs
      ∷ asks 0 (call.Store (at 0 1) (int 2)) 9 done
      ∷ asks 0 (call.HlsExit 0) 9 done
      ∷ asks 1 (call.HlsEnter 0) 9 skips
      ∷ asks 1 (call.Load (at 0 0)) 9 (gives (int 1))
      ∷ asks 1 (call.HlsEnter 0) 9 skips
      ∷ asks 1 (call.Load (at 0 1)) 9 (gives (int 2))
      ∷ asks 1 (call.HlsEnter 0) 9 runs
      ∷ asks 0 (call.HlsEnter 0) 9 skips
      ∷ [])
  pub from_the_inside : Goes alone (
      asks 0 (call.HlsEnter 0) 9 runs
      ∷ asks 0 (call.HlsEnter 0) 9 runs
      ∷ asks 0 (call.HlsExit 0) 9 done
      ∷ asks 0 (call.HlsWait 0) 9 done
      ∷ [])
