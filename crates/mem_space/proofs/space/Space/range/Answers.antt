use Rattle.std.proofs.Common.{◌≡◌, ◌+◌, ◌≤◌, Some, subst, sym, ◌∙◌}
use Rattle.mpc_values.specs.declared.values.Word.{Word}
use Rattle.block_table.specs.declared.rows.Row.{Row}
use Rattle.block_table.specs.Rows.{live, IsLive, IsNamed}
use Rattle.object_heap.specs.Objects.{key_named}
use Rattle.mem_space.specs.Spaces.{Space, owner_for}
use Rattle.mem_space.specs.Ranges.{IsRange, IsNoRange}
use Rattle.object_heap.proofs.Rows.{row_live}
use Rattle.mem_space.proofs.Heaps.{Found, found}
use Rattle.mem_space.proofs.Stores.{past_row, touched_row, range_there}
use Rattle.mem_space.proofs.space.Space.range.Goals as goal
use Rattle.mem_space.proofs.space.Space.range.Goals.{After-row}

found_there : (c : After-row) → Found c.args.self.now.heap (owner_for c.args.self.now.sharing c.args.task c.in-Ptr.obj) c.in-Ptr.obj c.row.result
found_there c =
    subst (λ o. Found c.args.self.now.heap o c.in-Ptr.obj c.row.result) c.owner_for.ensures
    (subst (λ (s : Space). Found s.heap c.owner_for.result c.in-Ptr.obj c.row.result) c.self.view_is
    (found c.self.inside.heap c.owner_for.result c.in-Ptr.obj c.row.result (c.row.ensures.object c.owner_for.result c.in-Ptr.obj c.in-Some.ensures.found)))

named_there : (c : After-row) → IsNamed c.args.self.now.heap.rows c.in-Some.key (owner_for c.args.self.now.sharing c.args.task c.in-Ptr.obj) c.in-Ptr.obj
named_there c =
    subst (λ o. IsNamed c.args.self.now.heap.rows c.in-Some.key o c.in-Ptr.obj) c.owner_for.ensures
    (subst (λ (s : Space). IsNamed s.heap.rows c.in-Some.key c.owner_for.result c.in-Ptr.obj) c.self.view_is c.in-Some.ensures.found)

key_there : (c : After-row) → key_named c.args.self.now.heap.rows (owner_for c.args.self.now.sharing c.args.task c.in-Ptr.obj) c.in-Ptr.obj ≡ Some c.in-Some.key
key_there c =
    subst (λ o. key_named c.args.self.now.heap.rows o c.in-Ptr.obj ≡ Some c.in-Some.key) c.owner_for.ensures
    (subst (λ (s : Space). key_named s.heap.rows c.owner_for.result c.in-Ptr.obj ≡ Some c.in-Some.key) c.self.view_is (sym c.find.ensures.key ∙ c.in-Some.is))

live_there : (c : After-row) → c.in-Ptr.place + c.args.count ≤ c.row.result.len → IsLive c.args.self.now.heap.rows c.in-Some.key (λ row. c.in-Ptr.place + c.args.count ≤ row.len)
live_there c long =
    subst (λ (s : Space). IsLive s.heap.rows c.in-Some.key (λ row. c.in-Ptr.place + c.args.count ≤ row.len)) c.self.view_is
    (row_live (λ (row : Row). c.in-Ptr.place + c.args.count ≤ row.len) (live c.self.inside.heap.rows c.in-Some.key) c.row.result (sym c.row.ensures.row) long)

pub returns-then-row-place-clause-err : goal.returns-then-row-place-clause-err
returns-then-row-place-clause-err c =
    subst (λ (w : Word). IsNoRange c.args.self.now c.args.task w c.args.count c.args.stored _) (sym c.in-Ptr.is)
    (past_row c.args.self.now c.args.task c.in-Ptr.obj c.in-Ptr.place c.args.count c.args.stored c.in-Some.key c.row.result (found_there (goal.at.returns-then-row-place-clause-err c).After-row) c.if-row-place.true)

pub returns-then-is_barred-clause-err : goal.returns-then-is_barred-clause-err
returns-then-is_barred-clause-err c =
    subst (λ (w : Word). IsNoRange c.args.self.now c.args.task w c.args.count c.args.stored _) (sym c.in-Ptr.is)
    (touched_row c.args.self.now c.args.task c.in-Ptr.obj c.in-Ptr.place c.args.count c.args.stored c.in-Some.key c.row.result (found_there (goal.at.returns-then-is_barred-clause-err c).After-row) c.if-row-place.false
    (sym (c.is_barred.ensures _ _ (named_there (goal.at.returns-then-is_barred-clause-err c).After-row)) ∙ c.if-is_barred.true))

pub returns-clause-ok : goal.returns-clause-ok
returns-clause-ok c =
    subst (λ (w : Word). IsRange c.args.self.now c.args.task w c.args.count c.args.stored (record { key = c.in-Some.key; at = c.in-Ptr.place; len = c.args.count })) (sym c.in-Ptr.is)
    (range_there c.args.self.now c.args.task c.in-Ptr.obj c.in-Ptr.place c.args.count c.args.stored c.in-Some.key c.row.result (found_there (goal.at.returns-clause-ok c).After-row) c.if-row-place.false c.requires.some
    (sym (c.is_barred.ensures _ _ (named_there (goal.at.returns-clause-ok c).After-row)) ∙ c.if-is_barred.false)
    (record { named = named_there (goal.at.returns-clause-ok c).After-row; places = record { some = c.requires.some; within = live_there (goal.at.returns-clause-ok c).After-row c.if-row-place.false } }) (key_there (goal.at.returns-clause-ok c).After-row))
