use Rattle.std.proofs.Common.{◌+◌, ◌≤◌, set, Some, IsSomeAnd, subst, sym}
use Rattle.block_table.specs.Rows.{Live, Rows, IsLive, Marks, without_receive}
use Rattle.block_table.specs.Entries.{live_of}
use Rattle.block_table.specs.Kept.{rows_seen}
use Rattle.block_table.proofs.Tables.{seen_some, marked, kept_marked}
use Rattle.block_table.proofs.table.Table.unmark_recv.Goals as goal

pub invariant_of-self : goal.invariant_of-self
invariant_of-self c = kept_marked c.self.inside c.args.key c.index_mut-entry.result.now c.unmark_recv.new.self c.args.at c.args.len without_receive c.self.invariant c.index_mut-entry.ensures.value c.unmark_recv.ensures

pub returns : goal.returns
returns c =
    let is = seen_some c.self.inside.rows.slots c.args.key c.index_mut-entry.result.now c.index_mut-entry.ensures.value in
    let within : IsSomeAnd (Some (live_of c.index_mut-entry.result.now)) (λ (l : Live). c.args.at + c.args.len ≤ l.row.len) =
    subst (λ o. IsSomeAnd o (λ (l : Live). c.args.at + c.args.len ≤ l.row.len)) is (subst (λ (rows : Rows). IsLive rows c.args.key (λ row. c.args.at + c.args.len ≤ row.len)) (sym c.self.view_is) c.requires.within) in
    subst (λ (rows : Rows). Marks rows (rows_seen (set c.self.inside.rows.slots c.args.key (Some c.unmark_recv.new.self))) c.args.key c.args.at c.args.len without_receive) c.self.view_is
    (marked c.self.inside.rows.slots c.args.key c.index_mut-entry.result.now c.unmark_recv.new.self c.args.at c.args.len without_receive c.index_mut-entry.ensures.value
    (c.self.invariant.roomy c.args.key c.index_mut-entry.result.now c.index_mut-entry.ensures.value) within c.unmark_recv.ensures)
