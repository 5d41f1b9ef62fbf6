-- Objects of a heap by their rows and spans.
use Rattle.std.proofs.Common.{◌≡◌, ◌+◌, ◌≤◌, length, Option, Some, None, IsSomeAnd, refl, sym, ◌∙◌, arith}
use Rattle.mpc_values.specs.declared.values.Obj.{Obj}
use Rattle.mpc_values.specs.declared.owners.Owner.{Owner}
use Rattle.memory_model.specs.Memory.{Memory, Object}
use Rattle.block_table.specs.declared.rows.Row.{Row}
use Rattle.block_table.specs.declared.rows.Span.{Span}
use Rattle.block_table.specs.Rows.{live}
use Rattle.object_heap.specs.Layout.{Layout, IsSound, IsSpan}
use Rattle.object_heap.specs.Objects.{Shows, object_in, object_at, words_from}
use Rattle.object_heap.specs.Changes.{KeepsObjects}
use Rattle.object_heap.proofs.Rows.{live_at}
use Rattle.object_heap.proofs.Words.{length_words}
use Rattle.object_heap.proofs.Heaps.{object_named, object_of_row, named_row}

-- An object lives, of the kind and the length that its row says.
pub record Found (h : Layout) (owner : Owner) (obj : Obj) (row : Row) : Type 0 where
  pub object : Object
  pub is : object_in h owner obj ≡ Some object
  pub kind : object.kind ≡ row.kind
  pub len : length object.words ≡ row.len

-- an object of which something holds lives
found_of : (h : Layout) (owner : Owner) (obj : Obj) (row : Row) (o : Option Object) → object_in h owner obj ≡ o → IsSomeAnd o (λ object. (object.kind ≡ row.kind) × (length object.words ≡ row.len)) → Found h owner obj row
found_of h owner obj row None is says = absurd says
found_of h owner obj row (Some object) is says = record { object = object; is = is; kind = says.0; len = says.1 }

pub found : (h : Layout) (owner : Owner) (obj : Obj) (row : Row) → IsSomeAnd (object_in h owner obj) (λ object. (object.kind ≡ row.kind) × (length object.words ≡ row.len)) → Found h owner obj row
found h owner obj row says = found_of h owner obj row (object_in h owner obj) refl says

-- The object that a span is of, and the words of the span in it.
pub record Spanned (h : Layout) (span : Span) (owner : Owner) (obj : Obj) : Type 0 where
  pub object : Object
  pub is : object_in h owner obj ≡ Some object
  pub at : object_at h span.key ≡ Some object
  pub within : span.at + span.len ≤ length object.words

pub spanned : (h : Layout) (span : Span) (owner : Owner) (obj : Obj) → IsSound h → IsSpan h span owner obj → Spanned h span owner obj
spanned h span owner obj sound is =
    let row = named_row h.rows span.key owner obj is.named in
    let at = object_of_row h span.key row.0 row.1 in
    record {
      object = record { kind = row.0.kind; words = words_from h.cells row.0.base row.0.len };
      is = object_named h span.key owner obj sound.named is.named ∙ at;
      at = at;
      within = let long = length_words h.cells row.0.base row.0.len in let fits = live_at (λ (r : Row). span.at + span.len ≤ r.len) (live h.rows span.key) row.0 row.1 is.places.within in omega arith;
    }

pub shows_kept : (old new : Layout) (m : Memory) → Shows old m → KeepsObjects old new → Shows new m
shows_kept old new m shows keeps owner obj = shows owner obj ∙ sym (keeps owner obj)
