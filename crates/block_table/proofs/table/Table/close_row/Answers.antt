use Rattle.std.proofs.Common.{None, subst, refl}
use Rattle.block_table.specs.Rows.{Rows, Changes}
use Rattle.block_table.specs.Entries.{live_of}
use Rattle.block_table.specs.Kept.{rows_seen}
use Rattle.block_table.proofs.Tables.{seen_some, changes, names_here, has_place, agrees_closed, roomy_set}
use Rattle.block_table.proofs.table.Table.close_row.Goals as goal

pub set-requires : goal.set-requires
set-requires c =
    let is = seen_some c.self.inside.rows.slots c.args.key c.remove.result c.remove.ensures.value in
    has_place c.self.inside.index c.remove.result.row.owner c.remove.result.row.obj c.args.key
    (c.self.invariant.agrees.finds c.args.key c.remove.result.row.owner c.remove.result.row.obj
    (names_here (rows_seen c.self.inside.rows.slots) c.args.key (live_of c.remove.result) c.remove.result.row.owner c.remove.result.row.obj is (refl, refl)))

pub invariant_of-self : goal.invariant_of-self
invariant_of-self c =
    let is = seen_some c.self.inside.rows.slots c.args.key c.remove.result c.remove.ensures.value in
    let up = c.remove.ensures.updates in
    record {
      agrees = agrees_closed c.self.inside.rows.slots c.remove.new.self.slots c.self.inside.index c.set.new.self c.args.key c.remove.result c.self.invariant.agrees is (changes c.self.inside.rows.slots c.remove.new.self.slots c.args.key None up.changed up.others) c.set.ensures;
      roomy = roomy_set c.self.inside.rows.slots c.remove.new.self.slots c.args.key None c.self.invariant.roomy up.changed up.others (λ e no_one. absurd (cc));
    }

pub returns-clause-closed : goal.returns-clause-closed
returns-clause-closed c =
    let up = c.remove.ensures.updates in
    subst (λ (rows : Rows). Changes rows (rows_seen c.remove.new.self.slots) c.args.key None) c.self.view_is (changes c.self.inside.rows.slots c.remove.new.self.slots c.args.key None up.changed up.others)
