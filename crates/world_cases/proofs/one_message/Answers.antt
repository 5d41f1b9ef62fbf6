use Rattle.std.specs.Prelude.{refl, T, ◌==◌, ℕ}
use mathlib.Core.Path.{subst}
use Rattle.run_model.specs.Played.{computing}
use Rattle.world_cases.specs.OneMessage.{posting}
use Rattle.world_cases.proofs.one_message.Goals as goal

pub returns : goal.returns
unfolding computing
returns c = record {
  legal = record { tasks = refl; entries = refl };
  is_match = record { told = refl; met_one = λ e. subst (λ (n : ℕ). T (n == 1)) e tt };
  sent = record { entry = posting 0 15 1 1 0 0 9; at = refl; by = refl; met = 0; words = 0; told = refl; asked = refl };
  received = record { entry = posting 1 16 2 4 1 1 9; at = refl; by = refl; met = 1; words = 1; told = refl; asked = refl };
  whole = refl;
}
