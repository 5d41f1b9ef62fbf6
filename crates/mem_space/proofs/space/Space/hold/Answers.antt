use Rattle.std.proofs.Common.{subst}
use Rattle.mem_space.specs.Spaces.{Space}
use Rattle.mem_space.specs.Copies.{Holds}
use Rattle.mem_space.specs.Kept.{seen_of}
use Rattle.mem_space.proofs.Copied.{held_words}
use Rattle.mem_space.proofs.space.Space.hold.Goals as goal

pub returns-clause-ok : goal.returns-clause-ok
returns-clause-ok c =
    let after : Space = record (seen_of c.self.inside) { heap = c.hold.new.self } in
    subst (λ (s : Space). Holds s after c.args.from c.in_ok-held.held) c.self.view_is
    (held_words (seen_of c.self.inside) c.hold.new.self c.args.from c.in_ok-held.held c.is_sound.ensures c.in_ok-held.ensures.len c.in_ok-held.ensures.words c.in_ok-held.ensures.gains
    c.in_ok-held.ensures.objects c.in_ok-held.ensures.marks c.in_ok-held.ensures.spans)
