use Rattle.std.proofs.Common.{subst, sym}
use Rattle.block_table.specs.Places.{Sets}
use Rattle.block_table.specs.Index.{Lines, SetsKey}
use Rattle.block_table.proofs.Names.{sets_glob, sets_dyn}
use Rattle.block_table.proofs.index.Index.set.Goals as goal

pub returns-in-Glob : goal.returns-in-Glob
returns-in-Glob c =
    subst (λ (old : Lines). SetsKey old (record { globs = c.set.new.self; dyns = c.self.inside.dyns }) c.args.owner c.args.obj c.args.key) c.self.view_is
    (subst (λ obj. SetsKey (record { globs = c.self.inside.globs; dyns = c.self.inside.dyns }) (record { globs = c.set.new.self; dyns = c.self.inside.dyns }) c.args.owner obj c.args.key) (sym c.in-Glob.is)
    (sets_glob (record { globs = c.self.inside.globs; dyns = c.self.inside.dyns }) c.set.new.self c.args.owner c.in-Glob.variable c.args.key
    (subst (λ n. Sets c.self.inside.globs c.set.new.self n c.in-Glob.variable c.args.key) c.line_of-line.ensures.value c.set.ensures)))

pub returns-in-Dyn : goal.returns-in-Dyn
returns-in-Dyn c =
    subst (λ (old : Lines). SetsKey old (record { globs = c.self.inside.globs; dyns = c.set-in-Dyn.new.self }) c.args.owner c.args.obj c.args.key) c.self.view_is
    (subst (λ obj. SetsKey (record { globs = c.self.inside.globs; dyns = c.self.inside.dyns }) (record { globs = c.self.inside.globs; dyns = c.set-in-Dyn.new.self }) c.args.owner obj c.args.key) (sym c.in-Dyn.is)
    (sets_dyn (record { globs = c.self.inside.globs; dyns = c.self.inside.dyns }) c.set-in-Dyn.new.self c.args.owner c.in-Dyn.made c.args.key
    (subst (λ n. Sets c.self.inside.dyns c.set-in-Dyn.new.self n c.in-Dyn.made c.args.key) c.line_of-line.ensures.value c.set-in-Dyn.ensures)))
