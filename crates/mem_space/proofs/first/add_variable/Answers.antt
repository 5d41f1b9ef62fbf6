use Rattle.std.proofs.Common.{List, length, Some, sym, subst, ap, ◌∙◌}
use Rattle.std.proofs.lemmas.List.{length-replicate}
use Rattle.mpc_values.specs.declared.values.Word.{Word}
use Rattle.object_heap.specs.Changes.{Puts}
use Rattle.mpc_values.specs.declared.values.Word.TheVariants.{Undef}
use Rattle.mpc_values.specs.declared.values.Obj.TheVariants.{Glob}
use Rattle.memory_model.specs.declared.kinds.Kind.TheVariants.{Static}
use Rattle.mem_space.specs.First.{first_object}
use Rattle.mem_space.proofs.Images.{puts_then}
use Rattle.mem_space.proofs.first.add_variable.Goals as goal

pub returns-clause-absent : goal.returns-clause-absent
returns-clause-absent c = λ none.
    puts_then c.args.heap.now c.add.new.self c.fill.new.heap c.args.owner (Glob c.args.number) _ (Some (first_object c.args.var.now)) c.in_ok-key.ensures.object
    (subst (λ (ws : List Word). Puts c.add.new.self c.fill.new.heap c.args.owner (Glob c.args.number) (Some (record { kind = Static; words = ws }))) c.as_slice.ensures
    (c.fill.ensures.puts c.args.owner (Glob c.args.number) _ c.in_ok-key.ensures.named c.in_ok-key.ensures.object.here
    (length-replicate c.args.var.now.len Undef ∙ (sym c.requires ∙ ap length (sym c.as_slice.ensures)))))
