use Rattle.std.proofs.Common.{sym, ◌∙◌, length}
use Rattle.c_tree.specs.declared.program.HlsKind.TheVariants.{Single}
use Rattle.hls_sync.specs.Turnouts.{reached}
use Rattle.hls_sync.specs.Syncs.{seat_at, turnout_of}
use Rattle.hls_sync.proofs.Steps.{way_found, single_last, single_held, arrives_last, arrives_held}
use Rattle.hls_sync.proofs.syncs.HlsSync.enter.Goals as goal

pub returns-then-arrival-clause-way : goal.returns-then-arrival-clause-way
returns-then-arrival-clause-way c = λ site visits exits single at_site shown. sym (
    way_found c.args.self.now c.find-k.result c.args.construct c.args.inst c.args.task c.find-k.ensures.seat Single site visits exits single at_site shown
    ∙ single_last (reached (turnout_of c.args.self.now c.find-k.result).counts (seat_at c.args.self.now c.find-k.result).came) (length (turnout_of c.args.self.now c.find-k.result).counts) c.arrive-arrival.result.before c.arrive-arrival.result.size
    c.arrive-arrival.ensures.before c.arrive-arrival.ensures.size c.if-arrival.true
    )

pub returns-then-arrival-clause-after : goal.returns-then-arrival-clause-after
returns-then-arrival-clause-after c =
    arrives_last c.args.self.now c.arrive-arrival.new.self c.begin.new.self c.find-k.ensures.tied c.find-k.result c.args.construct c.args.inst c.args.task c.arrive-arrival.result.place c.arrive-arrival.result.before c.arrive-arrival.result.size c.find-k.ensures.seat
    c.arrive-arrival.ensures.after c.arrive-arrival.ensures.place c.arrive-arrival.ensures.before c.arrive-arrival.ensures.size c.arrive-arrival.ensures.one c.begin.ensures c.if-arrival.true

pub returns-else-arrival-clause-way : goal.returns-else-arrival-clause-way
returns-else-arrival-clause-way c = λ site visits exits single at_site shown. sym (
    way_found c.args.self.now c.find-k.result c.args.construct c.args.inst c.args.task c.find-k.ensures.seat Single site visits exits single at_site shown
    ∙ single_held (reached (turnout_of c.args.self.now c.find-k.result).counts (seat_at c.args.self.now c.find-k.result).came) (length (turnout_of c.args.self.now c.find-k.result).counts) c.arrive-arrival.result.before c.arrive-arrival.result.size
    c.arrive-arrival.ensures.before c.arrive-arrival.ensures.size c.if-arrival.false
    )

pub returns-else-arrival-clause-after : goal.returns-else-arrival-clause-after
returns-else-arrival-clause-after c =
    arrives_held c.args.self.now c.arrive-arrival.new.self c.find-k.ensures.tied c.find-k.result c.args.construct c.args.inst c.args.task c.arrive-arrival.result.before c.arrive-arrival.result.size c.find-k.ensures.seat
    c.arrive-arrival.ensures.after c.arrive-arrival.ensures.before c.arrive-arrival.ensures.size c.arrive-arrival.ensures.one c.if-arrival.false
