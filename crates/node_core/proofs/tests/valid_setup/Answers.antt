use Rattle.std.proofs.Common.{◌≡◌, ◌<◌, ◌≤◌, ◌*◌, ◌∙◌, ℕ, Bool, T, true, false, cond, List, [], ◌∷◌, length, map, sum, All, pos, refl, sym, ap, subst, arith}
use Rattle.std.proofs.lemmas.List.Elements.{All-nil, All-cons}
use Rattle.mpc_values.specs.declared.calls.Call.{Call}
use Rattle.mpc_values.specs.declared.calls.Call.TheVariants.{Finish}
use Rattle.mpc_values.specs.declared.owners.StaticVar.{StaticVar}
use Rattle.mpc_values.specs.declared.answers.Answer.{Answer}
use Rattle.topology.specs.declared.core_numbers.CoreNumbers.{CoreNumbers}
use Rattle.topology.specs.Instances.{flat_machine, numbers_fit}
use Rattle.std.specs.List.{list_all}
use Rattle.c_tree.specs.Programs.{Program}
use Rattle.c_tree.specs.Asking.{Next, Asks, Misfit, asked, fits}
use Rattle.c_tree.specs.Next.{next_of}
use Rattle.c_tree.specs.ProgramOf.{program_of}
use Rattle.c_tree.specs.Scripts.{over}
use Rattle.run_model.specs.Setup.{Setup}
use Rattle.run_model.specs.Valid.{Valid}
use Rattle.run_model.specs.Fitting.{IsKnown, AsksKnown}
use Rattle.node_core.proofs.tests.valid_setup.Goals as goal

none_else : (b : Bool) (more : List Answer) (call : Call) (line : ℕ) → cond b (over more) Misfit ≡ Asks call line → ⊥
none_else true [] call line h = cc
none_else true (a ∷ more) call line h = cc
none_else false more call line h = cc

only_finish : (answers : List Answer) (call : Call) (line : ℕ) → asked (Finish (pos 0)) 3 (λ answer more. over more) answers ≡ Asks call line → Finish (pos 0) ≡ call
only_finish [] call line h = cc
only_finish (a ∷ more) call line h = absurd (none_else (fits (Finish (pos 0)) a) more call line h)

module _ (program : Program) (asks : (answers : List Answer) → next_of program answers ≡ asked (Finish (pos 0)) 3 (λ answer more. over more) answers) (machine : List CoreNumbers) (cores : List ℕ) (calls : ℕ) where
  small : Setup
  small = record { program = program; machine = machine; cores = cores; eager = 1024; quota = 65536; calls = calls }

  known : AsksKnown small
  unfolding small
  known answers call line h = subst (IsKnown small) (only_finish answers call line (sym (asks answers) ∙ h)) tt

  pub valid : 1 ≤ calls → calls ≤ 1000 → program.variables ≡ [] → program.constructs ≡ [] → program.main < length program.functions → machine ≡ flat_machine 2 → cores ≡ 0 ∷ 1 ∷ []
      → Valid (record { program = program; machine = machine; cores = cores; eager = 1024; quota = 65536; calls = calls })
  unfolding small
  valid some few variables constructs main flat two = record {
    some_task = subst (λ l. 1 ≤ length l) (sym two) (omega arith);
    few_tasks = subst (λ l. length l ≤ 64) (sym two) (omega arith);
    few_cores = subst (λ l. length l ≤ 256) (sym flat) (omega arith);
    instances = subst (λ l. T (list_all numbers_fit l)) (sym flat) tt;
    placed = subst (λ l. All (λ core. core < length machine) l) (sym two) (subst (λ l. All (λ core. core < length l) (0 ∷ 1 ∷ [])) (sym flat) (All-cons (λ core. core < 2) 0 (1 ∷ []) (omega arith) (All-cons (λ core. core < 2) 1 [] (omega arith) (All-nil (λ core. core < 2)))));
    eager = omega arith;
    quota = omega arith;
    some_call = some;
    few_calls = omega (arith, few);
    few_entries = subst (λ l. length l * calls ≤ 16000000) (sym two) (omega (arith, few));
    few_variables = subst (λ l. length l ≤ 4096) (sym variables) (omega arith);
    few_words = subst (λ l. sum (map (λ (v : StaticVar). v.len) l) ≤ 262144) (sym variables) (omega arith);
    few_constructs = subst (λ l. length l ≤ 256) (sym constructs) (omega arith);
    first_words = subst (λ l. All (λ (v : StaticVar). length v.first ≡ v.len) l) (sym variables) (All-nil (λ (v : StaticVar). length v.first ≡ v.len));
    main = main;
    known = known;
  }

pub returns-clause-valid : goal.returns-clause-valid
returns-clause-valid c =
    valid (program_of c.in_ok-program.program) c.in_ok-program.ensures.asks c.in_ok-machine.machine c.of-cores.result c.args.calls c.requires.some c.requires.few c.in_ok-program.ensures.variables c.in_ok-program.ensures.constructs c.in_ok-program.ensures.main
    c.in_ok-machine.ensures (c.of-cores.ensures ∙ c.in_ok-list.ensures.items)

pub returns-clause-asks : goal.returns-clause-asks
returns-clause-asks c = c.in_ok-program.ensures.asks []
