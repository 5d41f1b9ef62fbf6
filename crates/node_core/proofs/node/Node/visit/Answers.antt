use Rattle.std.proofs.Common.{◌∙◌, refl, ap, sym, subst, List}
use Rattle.mpc_base.specs.declared.journals.Entry.{Entry}
use Rattle.run_model.specs.Setup.{setup_of}
use Rattle.run_model.specs.Run.{world_of}
use Rattle.node_core.specs.Held.{is_going}
use Rattle.node_core.specs.IsRun.{IsRun}
use Rattle.node_core.proofs.Visiting.{ended_entries, ended_reply, held_entries, held_reply, keeps_same, room_is, there_is, visit_keeps, went_entries, went_reply}
use Rattle.node_core.proofs.node.Node.visit.Goals as goal

pub returns-then-not-is_going-clause-entries : goal.returns-then-not-is_going-clause-entries
returns-then-not-is_going-clause-entries c =
    rw (← c.self.view_is) (ended_entries (setup_of c.self.inside.setup) c.self.inside.journal.entries c.self.inside.state c.self.inside.state c.self.inside.end c.self.inside.stop c.self.invariant.0 c.args.task
    (sym (c.if-not-is_going.ensures ∙ ap is_going c.how_stands.ensures)))

pub returns-then-not-is_going-clause-reply : goal.returns-then-not-is_going-clause-reply
returns-then-not-is_going-clause-reply c =
    rw (← c.self.view_is) (ended_reply (setup_of c.self.inside.setup) c.self.inside.journal.entries c.self.inside.state c.self.inside.state c.self.inside.end c.self.inside.stop c.self.invariant.0 c.args.task
    (sym (c.if-not-is_going.ensures ∙ ap is_going c.how_stands.ensures)))

pub returns-then-not-may_go-clause-entries : goal.returns-then-not-may_go-clause-entries
returns-then-not-may_go-clause-entries c =
    rw (← c.self.view_is) (held_entries (setup_of c.self.inside.setup) c.self.inside.journal.entries c.self.inside.state c.self.inside.state c.self.inside.end c.self.inside.stop c.self.invariant.0 c.args.task c.args.call.now c.args.line
    (rw (← c.self.view_is) at c.requires.asks) (sym (c.if-not-is_going.ensures ∙ ap is_going c.how_stands.ensures))
    (c.if-not-may_go.ensures.may (setup_of c.self.inside.setup) (world_of (setup_of c.self.inside.setup) c.self.inside.journal.entries) c.self.invariant.0.stands))

pub returns-then-not-may_go-clause-reply : goal.returns-then-not-may_go-clause-reply
returns-then-not-may_go-clause-reply c =
    rw (← c.self.view_is) (held_reply (setup_of c.self.inside.setup) c.self.inside.journal.entries c.self.inside.state c.self.inside.state c.self.inside.end c.self.inside.stop c.self.invariant.0 c.args.task c.args.call.now c.args.line
    (rw (← c.self.view_is) at c.requires.asks) (sym (c.if-not-is_going.ensures ∙ ap is_going c.how_stands.ensures))
    (c.if-not-may_go.ensures.may (setup_of c.self.inside.setup) (world_of (setup_of c.self.inside.setup) c.self.inside.journal.entries) c.self.invariant.0.stands))

pub visit_with-requires-clause-room : goal.visit_with-requires-clause-room
visit_with-requires-clause-room c =
    room_is (setup_of c.self.inside.setup) c.self.inside.journal.entries c.self.inside.state c.self.inside.state c.self.inside.end c.self.inside.stop c.self.invariant.0 c.args.task
    (c.if-not-may_go.ensures.may (setup_of c.self.inside.setup) (world_of (setup_of c.self.inside.setup) c.self.inside.journal.entries) c.self.invariant.0.stands)

pub visit_with-requires-clause-one : goal.visit_with-requires-clause-one
visit_with-requires-clause-one c =
    there_is (setup_of c.self.inside.setup) c.self.inside.journal.entries c.self.inside.state c.self.inside.end c.self.inside.stop c.self.invariant.0 c.args.task (c.if-not-may_go.ensures.there refl)

pub invariant_of-self : goal.invariant_of-self
invariant_of-self c = (
  subst (λ (es : List Entry). IsRun (setup_of c.self.inside.setup) es c.visit_with.new.state c.self.inside.end c.self.inside.stop) (sym c.in_err-out.ensures.err_entries)
      (keeps_same (setup_of c.self.inside.setup) c.self.inside.journal.entries c.self.inside.state c.visit_with.new.state c.self.inside.end c.self.inside.stop c.self.invariant.0 c.in_err-out.ensures.err),
  c.self.invariant.1,
)

pub invariant_of-self-2 : goal.invariant_of-self-2
invariant_of-self-2 c = (
  visit_keeps (setup_of c.self.inside.setup) c.self.inside.journal.entries c.self.inside.state c.visit_with.new.state c.self.inside.end c.self.inside.stop c.self.invariant.0 c.args.task c.args.call.now c.args.line
      (rw (← c.self.view_is) at c.requires.asks) (sym (c.if-not-is_going.ensures ∙ ap is_going c.how_stands.ensures)) c.in_ok-out.out
      (c.if-not-may_go.ensures.may (setup_of c.self.inside.setup) (world_of (setup_of c.self.inside.setup) c.self.inside.journal.entries) c.self.invariant.0.stands)
      (c.in_ok-out.ensures.ok (world_of (setup_of c.self.inside.setup) c.self.inside.journal.entries) c.self.invariant.0.stands) c.visit_with.new.entries c.in_ok-out.ensures.entry
      c.ending_after-self-inside.result c.ending_after-self-inside.ensures (c.in_ok-out.ensures.noted c.self.invariant.0.noted) c.in_ok-out.ensures.set,
  c.self.invariant.1,
)

pub returns-clause-entries : goal.returns-clause-entries
returns-clause-entries c =
    rw (← c.self.view_is) (went_entries (setup_of c.self.inside.setup) c.self.inside.journal.entries c.self.inside.state c.visit_with.new.state c.self.inside.end c.self.inside.stop c.self.invariant.0 c.args.task c.args.call.now c.args.line
    (rw (← c.self.view_is) at c.requires.asks) (sym (c.if-not-is_going.ensures ∙ ap is_going c.how_stands.ensures)) c.in_ok-out.out
    (c.if-not-may_go.ensures.may (setup_of c.self.inside.setup) (world_of (setup_of c.self.inside.setup) c.self.inside.journal.entries) c.self.invariant.0.stands)
    (c.in_ok-out.ensures.ok (world_of (setup_of c.self.inside.setup) c.self.inside.journal.entries) c.self.invariant.0.stands) c.visit_with.new.entries c.in_ok-out.ensures.entry)

pub returns-clause-reply : goal.returns-clause-reply
returns-clause-reply c =
    rw (← c.self.view_is) (c.reply_to.ensures ∙ went_reply (setup_of c.self.inside.setup) c.self.inside.journal.entries c.self.inside.state c.visit_with.new.state c.self.inside.end c.self.inside.stop c.self.invariant.0 c.args.task c.args.call.now c.args.line
    (rw (← c.self.view_is) at c.requires.asks) (sym (c.if-not-is_going.ensures ∙ ap is_going c.how_stands.ensures)) c.in_ok-out.out
    (c.if-not-may_go.ensures.may (setup_of c.self.inside.setup) (world_of (setup_of c.self.inside.setup) c.self.inside.journal.entries) c.self.invariant.0.stands)
    (c.in_ok-out.ensures.ok (world_of (setup_of c.self.inside.setup) c.self.inside.journal.entries) c.self.invariant.0.stands) c.visit_with.new.entries c.in_ok-out.ensures.entry)
