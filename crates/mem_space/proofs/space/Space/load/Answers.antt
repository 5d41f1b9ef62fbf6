use Rattle.std.proofs.Common.{◌≡◌, false, subst, sym}
use Rattle.memory_model.specs.Memory.{Memory}
use Rattle.memory_model.specs.Access.{load}
use Rattle.object_heap.specs.Objects.{Shows}
use Rattle.object_heap.specs.Marks.{marks_in}
use Rattle.mem_space.specs.Spaces.{Space, owner_for, objects_in}
use Rattle.mem_space.specs.Ranges.{IsRange}
use Rattle.mem_space.specs.Kept.{seen_of}
use Rattle.mem_space.specs.Accesses.{loaded}
use Rattle.mem_space.proofs.Stores.{load_is}
use Rattle.mem_space.proofs.space.Space.load.Goals as goal

pub returns : goal.returns
returns c =
    let r = subst (λ (s : Space). IsRange s c.args.task c.args.at 1 false c.in_ok-span.span) (sym c.self.view_is) c.in_ok-span.ensures.ok in
    subst (λ (s : Space). (m : Memory) → Shows s.heap m → loaded c.told.result (objects_in s m c.args.task) ≡ load (owner_for s.sharing c.args.task) (marks_in s.heap) (objects_in s m c.args.task) c.args.at) c.self.view_is
    (load_is (seen_of c.self.inside) c.args.task c.args.at c.in_ok-span.span c.told.result c.read.result r (c.read.ensures (owner_for c.self.inside.levels c.args.task r.obj) r.obj r.object r.there.named r.lives) c.told.ensures)
