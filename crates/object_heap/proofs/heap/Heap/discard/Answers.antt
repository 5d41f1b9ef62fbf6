use Rattle.std.proofs.Common.{◌-◌, subst, sym}
use Rattle.object_heap.specs.Layout.{Layout}
use Rattle.object_heap.specs.Kept.{seen_of}
use Rattle.object_heap.specs.Changes.{KeepsObjects}
use Rattle.object_heap.specs.Copies.{IsOneCopy, LosesCopy}
use Rattle.object_heap.proofs.Messages.{with_region, discard_kept, discard_objects, discard_loses}
use Rattle.object_heap.proofs.heap.Heap.discard.Goals as goal

pub invariant_of-self : goal.invariant_of-self
invariant_of-self c = discard_kept c.self.inside c.discard.new.region c.self.invariant c.args.held (subst (λ (h : Layout). IsOneCopy h c.args.held) (sym c.self.view_is) c.requires) c.discard.ensures.releases c.discard.ensures.ranges

pub returns-clause-loses : goal.returns-clause-loses
returns-clause-loses c =
    subst (λ (h : Layout). LosesCopy h (seen_of (with_region c.self.inside c.discard.new.region (c.self.inside.copies - 1))) c.args.held) c.self.view_is
    (discard_loses c.self.inside c.discard.new.region c.self.invariant c.args.held (subst (λ (h : Layout). IsOneCopy h c.args.held) (sym c.self.view_is) c.requires) c.discard.ensures.releases c.discard.ensures.ranges)

pub returns-clause-objects : goal.returns-clause-objects
returns-clause-objects c =
    subst (λ (h : Layout). KeepsObjects h (seen_of (with_region c.self.inside c.discard.new.region (c.self.inside.copies - 1)))) c.self.view_is
    (discard_objects c.self.inside c.discard.new.region c.self.invariant c.args.held (subst (λ (h : Layout). IsOneCopy h c.args.held) (sym c.self.view_is) c.requires) c.discard.ensures.releases c.discard.ensures.ranges)
