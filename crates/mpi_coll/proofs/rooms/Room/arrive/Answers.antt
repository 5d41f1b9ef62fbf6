use Rattle.std.proofs.Common.{◌<◌, length, ◌∙◌, sym, subst, ap}
use Rattle.mpi_coll.specs.Rooms.{Tables, place_of}
use Rattle.mpi_coll.specs.Concluding.{arrived_in, seen_arrived}
use Rattle.mpi_coll.specs.Together.{Remains}
use Rattle.mpi_coll.proofs.Opened.{Remains-prepared}
use Rattle.mpi_coll.proofs.Coming.{on_err, waits-prepared, results-each, arrived-filled, changed-filled, arrived-entered, changed-entered}
use Rattle.mpi_coll.proofs.rooms.Room.arrive.Goals as goal

pub returns-in_err-results-clause-err : goal.returns-in_err-results-clause-err
returns-in_err-results-clause-err c =
    on_err (Remains c.args.self.now c.prepare.new.self) c.from_residual-in_err-results.result
    (subst (Remains c.args.self.now) (sym c.in_ok-prepare.ensures.done) (Remains-prepared c.args.self.now c.in_ok-prepare.ensures.whole c.args.rank c.requires.member c.args.coll.now c.args.given.now))

pub fill-requires-clause-each : goal.fill-requires-clause-each
fill-requires-clause-each c =
    results-each c.prepare.new.self c.args.rank c.args.coll.now c.args.comms.now c.args.comm (sym c.is_last.ensures ∙ c.if-is_last.true) c.in_ok-results.results.items c.in_ok-results.ensures.gets

pub enter-requires-clause-waits : goal.enter-requires-clause-waits
enter-requires-clause-waits c =
    subst (λ (p : Tables). place_of p c.args.rank < length p.waiting) (sym c.in_ok-prepare.ensures.done)
    (waits-prepared c.args.self.now c.in_ok-prepare.ensures.whole c.args.rank c.requires.member c.args.coll.now c.args.given.now)

pub returns-in_ok-results-clause-done : goal.returns-in_ok-results-clause-done
returns-in_ok-results-clause-done c =
    arrived-filled c.prepare.new.self c.args.rank c.args.coll.now c.args.comms.now c.args.comm (sym c.is_last.ensures ∙ c.if-is_last.true) c.fill.new.self c.in_ok-results.results.items c.in_ok-results.ensures.gets c.fill.ensures
    ∙ ap (λ (p : Tables). arrived_in p c.args.rank c.args.coll.now c.args.comms.now c.args.comm) c.in_ok-prepare.ensures.done

pub returns-in_ok-results-clause-changes : goal.returns-in_ok-results-clause-changes
returns-in_ok-results-clause-changes c =
    changed-filled c.prepare.new.self c.args.rank c.args.coll.now c.args.comms.now c.args.comm (sym c.is_last.ensures ∙ c.if-is_last.true) c.conclude.new.comms c.in_ok-results.ensures.changes
    ∙ ap (λ (p : Tables). seen_arrived p c.args.rank c.args.coll.now c.args.comms.now c.args.comm) c.in_ok-prepare.ensures.done

pub returns-else-is_last-clause-done : goal.returns-else-is_last-clause-done
returns-else-is_last-clause-done c =
    arrived-entered c.prepare.new.self c.args.rank c.args.coll.now c.args.comms.now c.args.comm (sym c.is_last.ensures ∙ c.if-is_last.false) c.enter.new.self c.enter.ensures
    ∙ ap (λ (p : Tables). arrived_in p c.args.rank c.args.coll.now c.args.comms.now c.args.comm) c.in_ok-prepare.ensures.done

pub returns-else-is_last-clause-changes : goal.returns-else-is_last-clause-changes
returns-else-is_last-clause-changes c =
    changed-entered c.prepare.new.self c.args.rank c.args.coll.now c.args.comms.now c.args.comm (sym c.is_last.ensures ∙ c.if-is_last.false)
    ∙ ap (λ (p : Tables). seen_arrived p c.args.rank c.args.coll.now c.args.comms.now c.args.comm) c.in_ok-prepare.ensures.done
