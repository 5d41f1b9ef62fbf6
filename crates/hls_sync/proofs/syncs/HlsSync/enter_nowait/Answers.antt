use Rattle.std.proofs.Common.{◌≡◌, sym, ◌∙◌, length}
use Rattle.c_tree.specs.declared.program.HlsKind.TheVariants.{Single, Nowait}
use Rattle.hls_sync.specs.Turnouts.{reached}
use Rattle.hls_sync.specs.Syncs.{seat_at, turnout_of}
use Rattle.hls_sync.proofs.Steps.{way_found, nowait_first, nowait_later, arrives_else}
use Rattle.hls_sync.proofs.syncs.HlsSync.enter_nowait.Goals as goal

pub returns-then-arrival-eq0-clause-way : goal.returns-then-arrival-eq0-clause-way
returns-then-arrival-eq0-clause-way c = λ site visits exits nowait at_site shown. sym (
    way_found c.args.self.now c.find-k.result c.args.construct c.args.inst c.args.task c.find-k.ensures.seat Nowait site visits exits nowait at_site shown
    ∙ nowait_first (reached (turnout_of c.args.self.now c.find-k.result).counts (seat_at c.args.self.now c.find-k.result).came) (length (turnout_of c.args.self.now c.find-k.result).counts) c.arrive-arrival.result.before
    c.arrive-arrival.ensures.before c.if-arrival-eq0.true
    )

pub returns-then-arrival-eq0-clause-after : goal.returns-then-arrival-eq0-clause-after
returns-then-arrival-eq0-clause-after c =
    arrives_else c.args.self.now c.arrive-arrival.new.self c.find-k.ensures.tied c.find-k.result c.args.construct c.args.inst c.args.task c.arrive-arrival.result.before c.find-k.ensures.seat
    c.arrive-arrival.ensures.after c.arrive-arrival.ensures.before c.arrive-arrival.ensures.one Nowait (λ (e : Nowait ≡ Single). cc)

pub returns-else-arrival-eq0-clause-way : goal.returns-else-arrival-eq0-clause-way
returns-else-arrival-eq0-clause-way c = λ site visits exits nowait at_site shown. sym (
    way_found c.args.self.now c.find-k.result c.args.construct c.args.inst c.args.task c.find-k.ensures.seat Nowait site visits exits nowait at_site shown
    ∙ nowait_later (reached (turnout_of c.args.self.now c.find-k.result).counts (seat_at c.args.self.now c.find-k.result).came) (length (turnout_of c.args.self.now c.find-k.result).counts) c.arrive-arrival.result.before
    c.arrive-arrival.ensures.before c.if-arrival-eq0.false
    )

pub returns-else-arrival-eq0-clause-after : goal.returns-else-arrival-eq0-clause-after
returns-else-arrival-eq0-clause-after c =
    arrives_else c.args.self.now c.arrive-arrival.new.self c.find-k.ensures.tied c.find-k.result c.args.construct c.args.inst c.args.task c.arrive-arrival.result.before c.find-k.ensures.seat
    c.arrive-arrival.ensures.after c.arrive-arrival.ensures.before c.arrive-arrival.ensures.one Nowait (λ (e : Nowait ≡ Single). cc)
