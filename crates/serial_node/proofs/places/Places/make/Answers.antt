use Rattle.std.proofs.Common.{◌≡◌, length, replicate, ap, ◌∙◌, rules, arith}
use Rattle.std.proofs.lemmas.List.{length-replicate}
use Rattle.mpc_values.specs.declared.values.Word.TheVariants.{Undef}
use Rattle.serial_memory.specs.Memory.{Object}
use Rattle.serial_node.proofs.Placed.{live_here}
use Rattle.serial_node.proofs.Changes.{one_more, words_more}
use Rattle.serial_node.proofs.places.Places.make.Goals as goal

pub overflow_add-self : goal.overflow_add-self
overflow_add-self c =
    let live = c.self.invariant in
    let here = live_here c.self.inside.variables.items c.self.inside.made.items in
    let fits = rw (← c.self.view_is) at c.requires.fits in
    omega arith

pub invariant_of-self-2 : goal.invariant_of-self-2
invariant_of-self-2 c =
    let live = c.self.invariant in
    let more = words_more c.self.inside.variables.items c.self.inside.made.items c.push.new.self.items c.of.result c.in_ok-push.ensures.items in
    let len : length c.of.result.words ≡ c.args.len = ap (λ (o : Object). length o.words) c.of.ensures ∙ ap length c.in_ok-words.ensures ∙ length-replicate c.args.len Undef in
    omega arith

pub returns-clause-ok : goal.returns-clause-ok
returns-clause-ok c =
    let object : c.of.result ≡ record { kind = c.args.kind; words = replicate c.args.len Undef } = c.of.ensures ∙ ap (λ ws. record { kind = c.args.kind; words = ws }) c.in_ok-words.ensures in
    let long : c.len.result ≡ length c.push.new.self.items = search rules in
    rw (← c.self.view_is, ← object) (one_more c.self.inside.variables.items c.self.inside.made.items c.push.new.self.items c.of.result c.len.result c.in_ok-push.ensures.items long)
