-- What is handed back of a run tells of its world.
use Rattle.std.proofs.Common.{◌≡◌, ◌≤◌, ◌+◌, ℕ, zero, suc, List, [], ◌∷◌, ◌++◌, length, map, take, drop, slice_get, Some, IsSomeAnd, refl, sym, ap, subst, ◌∙◌, arith}
use Rattle.std.specs.List.{zip}
use Rattle.mpc_base.specs.declared.journals.End.{End}
use Rattle.mpc_base.specs.declared.journals.MapRow.{MapRow}
use Rattle.mpc_values.specs.declared.values.Word.{Word}
use Rattle.memory_model.specs.Memory.{Memory, object_of}
use Rattle.block_table.specs.declared.rows.Row.{Row}
use Rattle.object_heap.specs.Layout.{Layout}
use Rattle.object_heap.specs.Objects.{Shows}
use Rattle.object_heap.specs.Maps as heap
use Rattle.run_model.specs.World.{TaskState, World}
use Rattle.run_model.specs.Ranks.{rank_state, rank_ends_from, rank_ends}
use Rattle.run_model.specs.Maps as map
use Rattle.node_core.specs.declared.parts.TaskPart.{TaskPart}
use Rattle.node_core.specs.declared.parts.State.{State}
use Rattle.node_core.specs.Each.{Each}
use Rattle.node_core.specs.Stands.{PartStands, Stands, courses_in}
use Rattle.node_core.specs.HandedBack.{end_of, ends_from, map_row_of}

pub ends_more : (task : ℕ) (e : End) (parts : List TaskPart) (part : TaskPart) → ends_from task e (parts ++ part ∷ []) ≡ ends_from task e parts ++ end_of (task + length parts) e part ∷ []
ends_more task e [] part = let none : task ≡ task + 0 = omega arith in ap (λ n. end_of n e part ∷ []) none
ends_more task e (x ∷ parts) part =
    let one_more : task + 1 + length parts ≡ task + suc (length parts) = omega arith in
    ap (λ ends. end_of task e x ∷ ends) (ends_more (task + 1) e parts part ∙ ap (λ n. ends_from (task + 1) e parts ++ end_of n e part ∷ []) one_more)

-- the ends of the parts are those of the ranks of a world that they stand for
pub ends_are : (task : ℕ) (e : End) (states : List TaskState) (parts : List TaskPart) → Each PartStands states parts → rank_ends_from task e (zip (courses_in parts) states) ≡ ends_from task e parts
ends_are task e [] [] each = refl
ends_are task e [] (part ∷ parts) each = absurd (let long = each.same in omega arith)
ends_are task e (state ∷ states) [] each = absurd (let long = each.same in omega arith)
ends_are task e (state ∷ states) (part ∷ parts) each =
    ap (λ (out : List ℕ). record { state = rank_state task part.course part.course.exit e; output = out } ∷ rank_ends_from (task + 1) e (zip (courses_in parts) states)) (each.at 0 state part refl refl).output
    ∙ ap (λ ends. end_of task e part ∷ ends)
    (ends_are (task + 1) e states parts (record { same = let long = each.same in omega arith; at = λ i x y here there. each.at (suc i) x y here there }))

pub ranks_are : (w : World) (s : State) (e : End) → Stands w s → rank_ends w e ≡ ends_from 0 e s.tasks.items
ranks_are w s e stands =
    ap (λ cs. rank_ends_from 0 e (zip cs w.core.tasks)) stands.courses ∙ ends_are 0 e w.core.tasks s.tasks.items stands.core.tasks

row_back : (rows : List Row) (i : ℕ) (x : MapRow) → slice_get (map map_row_of rows) i ≡ Some x → (row : Row) × (slice_get rows i ≡ Some row) × (map_row_of row ≡ x)
row_back [] i x at = absurd (cc at)
row_back (row ∷ rows) zero x at = (row, refl, let e : map_row_of row ≡ x = cc in e)
row_back (row ∷ rows) (suc i) x at = row_back rows i x at

row_there : (rows : List Row) (i : ℕ) (row : Row) → slice_get rows i ≡ Some row → slice_get (map map_row_of rows) i ≡ Some (map_row_of row)
row_there [] i row at = absurd (cc at)
row_there (x ∷ rows) zero row at = let e : x ≡ row = cc in ap (λ r. Some (map_row_of r)) e
row_there (x ∷ rows) (suc i) row at = row_there rows i row at

-- a map of a heap is one of the memory that it shows
pub map_is : (rows : List Row) (words : List Word) (h : Layout) (m : Memory) → heap.MapAgrees rows words h → Shows h m → map.MapAgrees (map map_row_of rows) words m
map_is rows words h m agrees shows = record {
  each = λ owner obj object is.
      let (i, row, at, names) = agrees.each owner obj object (sym (shows owner obj) ∙ is) in
      (i, map_row_of row, row_there rows i row at, names);
  live = λ i x at.
      let (row, here, is) = row_back rows i x at in
      subst (λ (r : MapRow). IsSomeAnd (object_of m r.owner r.obj) (λ object. (length object.words ≡ r.len) × (take r.len (drop r.base words) ≡ object.words))) is
      (subst (λ o. IsSomeAnd o (λ object. (length object.words ≡ row.len) × (take row.len (drop row.base words) ≡ object.words))) (sym (shows row.owner row.obj)) (agrees.live i row here));
  within = λ i x at.
      let (row, here, is) = row_back rows i x at in
      subst (λ (r : MapRow). r.base + r.len ≤ length words) is (agrees.within i row here);
  one = λ i j x y less at there.
      let (row, here, is) = row_back rows i x at in
      let (other, second, also) = row_back rows j y there in
      let both = agrees.one i j row other less here second in
      subst (λ (a : MapRow). (map.IsRowOf y a.owner a.obj → ⊥) × map.AreApart a y) is
      (subst (λ (b : MapRow). (map.IsRowOf b row.owner row.obj → ⊥) × map.AreApart (map_row_of row) b) also both);
}
