use Rattle.std.proofs.Common.{◌≡◌, ◌++◌, map, true, false, refl, ap, ◌∙◌, arith}
use Rattle.std.specs.List.{filter, range_with_len}
use Rattle.mpc_values.specs.declared.owners.Owner.TheVariants.{Inst}
use Rattle.tls_levels.specs.Owners.{holds_core, instances_at}
use Rattle.tls_levels.proofs.ImageLaws.{append_push, append_skip}
use Rattle.tls_levels.proofs.owner_list.push_instances.Goals as goal
use Rattle.tls_levels.proofs.owner_list.push_instances.Goals.{then-holds_core+in_ok-push, else-holds_core}

pub loop-id-preserved : goal.loop-id-preserved
loop-id-preserved c =
    let p = holds_core c.args.machine.now c.args.cores.now c.args.level in
    elim c.if-holds_core.branch [
      | then-holds_core+in_ok-push w ↦
          let passes : p c.loop-id.id ≡ true = cc in
          append_push c.args.owners.now.items (Inst c.args.level) p c.loop-id.id _ _ c.loop-id.invariant passes (rw w.owners-is w.in_ok-push.ensures.items)
      | else-holds_core w ↦
          let fails : p c.loop-id.id ≡ false = cc in
          append_skip c.args.owners.now.items (Inst c.args.level) p c.loop-id.id _ _ c.loop-id.invariant fails (rw w.owners-is refl)
    ]

pub returns : goal.returns
unfolding instances_at
returns c =
    let all : c.loop-id.id ≡ 256 = omega arith in
    c.loop-id.invariant
    ∙ ap (λ n. c.args.owners.now.items ++ map (Inst c.args.level) (filter (holds_core c.args.machine.now c.args.cores.now c.args.level) (range_with_len 0 n))) all
