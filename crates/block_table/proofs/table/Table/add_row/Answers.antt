use Rattle.std.proofs.Common.{◌≡◌, ◌≢◌, ℕ, get_or, replicate, Some, None, subst, sym, ap, ◌∙◌, arith}
use Rattle.std.specs.Option.{option_map}
use Rattle.slab.specs.Slab.{Slab}
use Rattle.block_table.specs.declared.rows.Mark.TheVariants.{Free}
use Rattle.block_table.specs.declared.entries.Entry.{Entry}
use Rattle.block_table.specs.Rows.{Rows, live, IsNoName, Changes}
use Rattle.block_table.specs.Entries.{live_of, IsRoomy}
use Rattle.block_table.specs.Kept.{rows_seen}
use Rattle.block_table.proofs.Tables.{seen_at, changes, some_entry, agrees_index, agrees_added, roomy_new, roomy_set, shown_new}
use Rattle.block_table.proofs.table.Table.add_row.Goals as goal

pub invariant_of-self-2 : goal.invariant_of-self-2
invariant_of-self-2 c =
    let slots : c.reserve.new.self.slots ≡ c.self.inside.rows.slots = ap (λ (s : Slab Entry). s.slots) c.reserve.ensures.rest_kept in
    let up = c.insert_reserved-key.ensures.updates in
    let others : (other : ℕ) → other ≢ c.insert_reserved-key.result → get_or c.insert_reserved-key.new.self.slots other None ≡ get_or c.self.inside.rows.slots other None = λ other differs. up.others other differs ∙ ap (λ s. get_or s other None) slots in
    let changed = changes c.self.inside.rows.slots c.insert_reserved-key.new.self.slots c.insert_reserved-key.result (Some (record { row = c.args.row; marks = c.in_ok-marks.marks })) up.changed others in
    let vacant : live (rows_seen c.self.inside.rows.slots) c.insert_reserved-key.result ≡ None = seen_at c.self.inside.rows.slots c.insert_reserved-key.result ∙ ap (option_map live_of) (ap (λ s. get_or s c.insert_reserved-key.result None) (sym slots) ∙ c.insert_reserved-key.ensures.was_vacant) in
    let fresh = subst (λ (rows : Rows). IsNoName rows c.args.row.owner c.args.row.obj) (sym c.self.view_is) c.requires in
    record {
      agrees = agrees_added c.self.inside.rows.slots c.insert_reserved-key.new.self.slots c.reserve-2.new.self c.set.new.self c.insert_reserved-key.result (record { row = c.args.row; marks = c.in_ok-marks.marks })
          (agrees_index c.self.inside.rows.slots c.self.inside.index c.reserve-2.new.self c.reserve-2.ensures.keys c.self.invariant.agrees) vacant changed fresh c.set.ensures;
      roomy = roomy_set c.self.inside.rows.slots c.insert_reserved-key.new.self.slots c.insert_reserved-key.result (Some (record { row = c.args.row; marks = c.in_ok-marks.marks })) c.self.invariant.roomy up.changed others
          (λ e same. subst IsRoomy (some_entry (record { row = c.args.row; marks = c.in_ok-marks.marks }) e same) (roomy_new (record { row = c.args.row; marks = c.in_ok-marks.marks }) c.in_ok-marks.ensures.items (omega (arith, c.in_ok-marks.ensures.exact))));
    }

pub returns-clause-added : goal.returns-clause-added
returns-clause-added c =
    let slots : c.reserve.new.self.slots ≡ c.self.inside.rows.slots = ap (λ (s : Slab Entry). s.slots) c.reserve.ensures.rest_kept in
    let up = c.insert_reserved-key.ensures.updates in
    let others : (other : ℕ) → other ≢ c.insert_reserved-key.result → get_or c.insert_reserved-key.new.self.slots other None ≡ get_or c.self.inside.rows.slots other None = λ other differs. up.others other differs ∙ ap (λ s. get_or s other None) slots in
    let changed = changes c.self.inside.rows.slots c.insert_reserved-key.new.self.slots c.insert_reserved-key.result (Some (record { row = c.args.row; marks = c.in_ok-marks.marks })) up.changed others in
    subst (λ (rows : Rows). Changes rows (rows_seen c.insert_reserved-key.new.self.slots) c.insert_reserved-key.result (Some (record { row = c.args.row; marks = replicate c.args.row.len Free }))) c.self.view_is
    (subst (λ slot. Changes (rows_seen c.self.inside.rows.slots) (rows_seen c.insert_reserved-key.new.self.slots) c.insert_reserved-key.result slot) (shown_new (record { row = c.args.row; marks = c.in_ok-marks.marks }) c.in_ok-marks.ensures.items) changed)
