-- A whole program: `int x; int main(void){ x = 2; printf("%d\n", x); return 0; }`, all on line 1.
use Rattle.std.specs.Prelude.{◌≡◌, ℕ, pos, List, [], ◌∷◌, Some}
use Rattle.mpc_values.specs.declared.values.Word.TheVariants.{Int}
use Rattle.mpc_base.specs.declared.journals.End.TheVariants as end
use Rattle.run_model.specs.Setup.{Setup}
use Rattle.run_model.specs.Ending.{ending}
use Rattle.run_model.specs.Scenes.{private, int, flat}
use Rattle.mpc_values.specs.declared.values.Word.TheVariants.{Ptr}
use Rattle.mpc_values.specs.declared.values.Obj.TheVariants.{Glob}
use Rattle.mpc_values.specs.declared.answers.Answer.TheVariants.{Done, Gives}
use Rattle.mpc_base.specs.declared.journals.Out.{Out}
use Rattle.mpc_base.specs.declared.journals.Out.TheVariants.{Did}
use Rattle.mpc_base.specs.declared.journals.Entry.{Entry}
use Rattle.c_tree.specs.declared.program.Callee.TheVariants as callee
use Rattle.c_tree.specs.declared.program.Scalar.TheVariants as scalar
use Rattle.c_tree.specs.declared.program.Width.TheVariants as width
use Rattle.c_tree.specs.declared.program.Ending.TheVariants as ending'
use Rattle.c_tree.specs.declared.formats.Piece.TheVariants as piece
use Rattle.c_tree.specs.Programs as p
use Rattle.run_model.specs.Run.{run}
use Rattle.mpc_base.specs.declared.picks.Picks.TheVariants.{RoundRobin, Listed, Seeded}
use Rattle.run_model.specs.Choice.{choice}
use Rattle.run_model.specs.Ranks.{rank_ends, status_of}

abbrev pub x : p.Expr
x = p.Constant (Ptr (Glob 0) 0)

abbrev pub main : p.Function
main = record {
  params = [];
  slots = 0;
  body = p.Then (p.Eval 1 (p.Store x (p.Constant (Int (pos 2)))))
      (p.Then (p.Eval 1 (p.Apply (callee.Print (piece.Number ∷ piece.Text (10 ∷ []) ∷ [])) (p.More (p.Load (scalar.Number width.Int) x) p.End)))
      (p.Then (p.Return 1 (Some (p.Constant (Int (pos 0))))) p.Done));
  ending = ending'.Zero;
  end_line = 1;
}

abbrev pub program : ℕ → Setup
program tasks = record (flat tasks (private (int 0 ∷ []) ∷ [])) {
  program = record { variables = private (int 0 ∷ []) ∷ []; functions = main ∷ []; main = 0; constructs = []; lines = 1 };
}

abbrev pub entry : ℕ → ℕ → Out → Entry
entry task call out = record { task = task; line = 1; call = call; out = out }

-- `store ok`, `load i2`, `print i2`, `finish i0`
abbrev pub entries : ℕ → List Entry
entries task = entry task 2 (Did Done) ∷ entry task 1 (Did (Gives (int 2))) ∷ entry task 7 (Did (Gives (int 2))) ∷ entry task 9 (Did (Gives (int 0))) ∷ []

pub record Programs : Type 0 where
  pub journal : (run (program 1) (0 ∷ 0 ∷ 0 ∷ 0 ∷ [])).entries ≡ entries 0
  -- a fifth step makes no entry
  pub over : (run (program 1) (0 ∷ 0 ∷ 0 ∷ 0 ∷ 0 ∷ 3 ∷ [])).entries ≡ entries 0
  pub finished : ending (program 1) (run (program 1) (0 ∷ 0 ∷ 0 ∷ 0 ∷ [])).world ≡ end.Finished
  pub status : status_of end.Finished (rank_ends (run (program 1) (0 ∷ 0 ∷ 0 ∷ 0 ∷ [])).world end.Finished) ≡ Some 0
  -- two tasks one after the other, and as listed: task 1 twice, one that is not there, and on from task 0
  pub in_turn : choice (program 2) RoundRobin ≡ 0 ∷ 1 ∷ 0 ∷ 1 ∷ 0 ∷ 1 ∷ 0 ∷ 1 ∷ []
  pub as_listed : choice (program 2) (Listed (1 ∷ 1 ∷ 7 ∷ [])) ≡ 1 ∷ 1 ∷ 0 ∷ 1 ∷ 0 ∷ 1 ∷ 0 ∷ 0 ∷ []
  -- by the words of the generator of seed 1
  pub seeded : choice (program 2) (Seeded 1) ≡ 0 ∷ 0 ∷ 1 ∷ 0 ∷ 1 ∷ 0 ∷ 1 ∷ 1 ∷ []
