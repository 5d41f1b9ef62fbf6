use Rattle.std.proofs.Common.{◌≡◌, ℕ, Option, Some, None, MatchOption, subst, sym}
use Rattle.mpc_values.specs.declared.values.Obj.{Obj}
use Rattle.mpc_values.specs.declared.owners.Owner.{Owner}
use Rattle.block_table.specs.Rows.{Rows, IsNamed, IsNoName, IsNamedOnce}
use Rattle.object_heap.specs.Layout.{Layout}
use Rattle.object_heap.specs.Kept.{seen_of}
use Rattle.object_heap.specs.Objects.{object_in, key_named}
use Rattle.object_heap.proofs.Names.{first_key, no_key}
use Rattle.object_heap.proofs.Heaps.{no_object}
use Rattle.object_heap.proofs.heap.Heap.find.Goals as goal

found_in : (h : Layout) (owner : Owner) (obj : Obj) (o : Option ℕ) → MatchOption o (IsNoName h.rows owner obj) (λ key. IsNamed h.rows key owner obj)
    → MatchOption o (object_in h owner obj ≡ None) (λ key. IsNamed h.rows key owner obj)
found_in h owner obj None none = no_object h owner obj none
found_in h owner obj (Some key) named = named

key_in : (rows : Rows) (owner : Owner) (obj : Obj) (o : Option ℕ) → IsNamedOnce rows → MatchOption o (IsNoName rows owner obj) (λ key. IsNamed rows key owner obj) → o ≡ key_named rows owner obj
key_in rows owner obj None once none = sym (no_key rows owner obj none)
key_in rows owner obj (Some key) once named = sym (first_key rows key owner obj once named)

pub returns-clause-found : goal.returns-clause-found
returns-clause-found c =
    subst (λ (h : Layout). MatchOption c.find.result (object_in h c.args.owner c.args.obj ≡ None) (λ key. IsNamed h.rows key c.args.owner c.args.obj)) c.self.view_is
    (found_in (seen_of c.self.inside) c.args.owner c.args.obj c.find.result c.find.ensures.found)

pub returns-clause-key : goal.returns-clause-key
returns-clause-key c =
    subst (λ (h : Layout). c.find.result ≡ key_named h.rows c.args.owner c.args.obj) c.self.view_is
    (key_in c.self.inside.table c.args.owner c.args.obj c.find.result c.find.ensures.once c.find.ensures.found)
