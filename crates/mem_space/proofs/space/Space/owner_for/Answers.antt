use Rattle.std.proofs.Common.{◌≡◌, ◌≤◌, ℕ, length, get_or, Option, sym, ap, ◌∙◌, arith}
use Rattle.std.proofs.lemmas.Option.{slice_get_past}
use Rattle.std.specs.Option.{option_and_then}
use Rattle.mpc_values.specs.declared.owners.Owner.TheVariants.{Task}
use Rattle.tls_levels.specs.declared.shapes.VarShape.{VarShape}
use Rattle.tls_levels.specs.Owners.{owner_at}
use Rattle.tls_levels.specs.Sharing.{Sharing, owner_in}
use Rattle.mem_space.specs.Spaces.{Space, owner_for}
use Rattle.mem_space.proofs.space.Space.owner_for.Goals as goal

-- a variable past the last has no level
past_last : (s : Sharing) (task variable : ℕ) → length s.shapes ≤ variable → Task task ≡ owner_in s task variable
past_last s task variable past = sym (ap (λ (o : Option VarShape). owner_at s.machine (option_and_then (λ (v : VarShape). v.level) o) task (get_or s.cores task 0)) (slice_get_past s.shapes variable past))

pub returns-then-variable-self : goal.returns-then-variable-self
unfolding owner_for
returns-then-variable-self c =
    rw c.in-Glob.is (c.resolve.ensures.value ∙ ap (λ (s : Space). owner_in s.sharing c.args.task c.in-Glob.variable) c.self.view_is)

pub returns-else-variable-self : goal.returns-else-variable-self
unfolding owner_for
returns-else-variable-self c =
    let past : length c.self.inside.levels.shapes ≤ c.in-Glob.variable = omega (arith, c.self.invariant.variables, c.if-variable-self.false) in
    rw c.in-Glob.is (past_last c.self.inside.levels c.args.task c.in-Glob.variable past ∙ ap (λ (s : Space). owner_in s.sharing c.args.task c.in-Glob.variable) c.self.view_is)

pub returns-in-Dyn : goal.returns-in-Dyn
unfolding owner_for
returns-in-Dyn c = rw c.in-Dyn.is
