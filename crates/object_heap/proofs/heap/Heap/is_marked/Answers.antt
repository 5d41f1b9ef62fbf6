use Rattle.std.proofs.Common.{◌≡◌, ◌∙◌, false, subst, sym}
use Rattle.mpc_values.specs.declared.values.Obj.{Obj}
use Rattle.mpc_values.specs.declared.owners.Owner.{Owner}
use Rattle.memory_model.specs.Marks.{barred_to_stores, is_some_place}
use Rattle.block_table.specs.Rows.{IsNamed, AreMarked, is_free}
use Rattle.object_heap.specs.Layout.{Layout}
use Rattle.object_heap.specs.Kept.{seen_of}
use Rattle.object_heap.specs.Marks.{marks_in}
use Rattle.object_heap.proofs.Marked.{some_marked, unmarked_free}
use Rattle.object_heap.proofs.heap.Heap.is_marked.Goals as goal

pub returns-clause-some : goal.returns-clause-some
returns-clause-some c =
    subst (λ (h : Layout). (owner : Owner) (obj : Obj) → IsNamed h.rows c.args.key owner obj → c.some_marked.result ≡ is_some_place (barred_to_stores (marks_in h)) owner obj c.args.at c.args.len) c.self.view_is
    (λ owner obj named. c.some_marked.ensures ∙ some_marked (seen_of c.self.inside) c.args.key c.args.at c.args.len owner obj c.self.invariant.sound named)

pub returns-clause-none : goal.returns-clause-none
returns-clause-none c =
    subst (λ (h : Layout). c.some_marked.result ≡ false → AreMarked h.rows c.args.key c.args.at c.args.len is_free) c.self.view_is
    (λ e. unmarked_free c.self.inside.table c.args.key c.args.at c.args.len (sym c.some_marked.ensures ∙ e))
