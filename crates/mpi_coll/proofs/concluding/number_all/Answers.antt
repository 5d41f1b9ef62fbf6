use Rattle.std.proofs.Common.{◌∙◌, ap, ◌∷◌, [], arith}
use Rattle.mpc_values.specs.declared.values.Word.TheVariants.{Comm}
use Rattle.mpi_coll.proofs.Numbered.{numbered-none, numbered-word, numbered-more, numbered-all}
use Rattle.mpi_coll.proofs.concluding.number_all.Goals as goal

pub loop-rank-init : goal.loop-rank-init
loop-rank-init c = numbered-none c.args.numbers.now c.args.members c.args.all.now.items c.requires

pub set_number-requires : goal.set_number-requires
set_number-requires c =
    numbered-word c.args.numbers.now c.args.members c.loop-rank.rank c.loop-rank.all.items c.loop-rank.invariant (omega (arith, c.loop-rank-test.true)) c.index_mut.result.now c.index_mut.ensures.value

pub loop-rank-preserved : goal.loop-rank-preserved
loop-rank-preserved c =
    numbered-more c.args.numbers.now c.args.members c.loop-rank.rank c.loop-rank.all.items c.loop-rank.invariant (omega (arith, c.loop-rank-test.true)) c.set_number.new.words
    (c.set_number.ensures ∙ ap (λ n. Comm n ∷ []) c.number.ensures)

pub returns : goal.returns
returns c = numbered-all c.args.numbers.now c.args.members c.loop-rank.rank c.loop-rank.all.items c.loop-rank.invariant (omega (arith, c.loop-rank-test.false))
