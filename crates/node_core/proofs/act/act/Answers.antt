use Rattle.std.proofs.Common.{refl}
use Rattle.run_model.specs.Setup.{setup_of}
use Rattle.run_model.specs.Act.{act}
use Rattle.node_core.proofs.OwnLifts.{print_lifts, finish_lifts, init_lifts, finalize_lifts}
use Rattle.node_core.proofs.MemoryLifts.{same_access, load_lifts, store_lifts, new_lifts, drop_lifts, malloc_lifts, free_lifts}
use Rattle.node_core.proofs.GroupLifts.{rank_lifts, size_lifts, abort_lifts}
use Rattle.node_core.proofs.act.act.Goals as goal

pub returns-in-Broke-clause-ok : goal.returns-in-Broke-clause-ok
unfolding act
returns-in-Broke-clause-ok c = λ core s. rw c.in-Broke.is (refl, s)

pub returns-in_ok-print-in-Print-clause-ok : goal.returns-in_ok-print-in-Print-clause-ok
returns-in_ok-print-in-Print-clause-ok c = λ core s.
    rw (c.out_of-in-Print.ensures.out, c.in-Print.is, ← c.as_slice.ensures) (print_lifts (setup_of c.args.setup.now) core c.args.task c.args.shared.now c.args.own.now s c.in_ok-print-in-Print.field-0
    (record { output = c.print.new.output; phase = c.args.own.now.phase }) c.as_slice.result.now refl c.in_ok-print-in-Print.ensures.ok c.in_ok-print-in-Print.ensures.fault)

pub returns-in-Finish-clause-ok : goal.returns-in-Finish-clause-ok
returns-in-Finish-clause-ok c = λ core s.
    rw (c.out_of-in-Finish.ensures.out, c.in-Finish.is) (finish_lifts (setup_of c.args.setup.now) core c.args.task c.args.shared.now c.args.own.now s c.finish.result c.in-Finish.code c.finish.ensures)

pub returns-in-Init-clause-ok : goal.returns-in-Init-clause-ok
returns-in-Init-clause-ok c = λ core s.
    rw (c.out_of-in-Init.ensures.out, c.in-Init.is) (init_lifts (setup_of c.args.setup.now) core c.args.task c.args.shared.now c.args.own.now s c.init.result
    (record { output = c.args.own.now.output; phase = c.init.new.phase }) refl c.init.ensures.did c.init.ensures.fault)

pub returns-in-Finalize-clause-ok : goal.returns-in-Finalize-clause-ok
returns-in-Finalize-clause-ok c = λ core s.
    rw (c.out_of-in-Finalize.ensures.out, c.in-Finalize.is) (finalize_lifts (setup_of c.args.setup.now) core c.args.task c.args.shared.now c.args.own.now s c.finalize.result
    (record { output = c.args.own.now.output; phase = c.finalize.new.phase }) refl c.finalize.ensures.did c.finalize.ensures.fault)

pub returns-in-Abort-clause-ok : goal.returns-in-Abort-clause-ok
returns-in-Abort-clause-ok c = λ core s.
    rw (c.out_of-in-Abort.ensures.out, c.in-Abort.is) (abort_lifts (setup_of c.args.setup.now) core c.args.task c.args.shared.now c.args.own.now s c.abort.result c.in-Abort.comm c.in-Abort.code c.abort.ensures)

pub returns-in-Rank-clause-ok : goal.returns-in-Rank-clause-ok
returns-in-Rank-clause-ok c = λ core s.
    rw (c.out_of-in-Rank.ensures.out, c.in-Rank.is) (rank_lifts (setup_of c.args.setup.now) core c.args.task c.args.shared.now c.args.own.now s c.rank.result c.in-Rank.comm c.rank.ensures)

pub returns-in-Size-clause-ok : goal.returns-in-Size-clause-ok
returns-in-Size-clause-ok c = λ core s.
    rw (c.out_of-in-Size.ensures.out, c.in-Size.is) (size_lifts (setup_of c.args.setup.now) core c.args.task c.args.shared.now c.args.own.now s c.size.result c.in-Size.comm c.size.ensures)

pub returns-in-Load-clause-ok : goal.returns-in-Load-clause-ok
returns-in-Load-clause-ok c = λ core s.
    rw (c.out_of.ensures.out, c.in-Load.is) (load_lifts (setup_of c.args.setup.now) core c.args.task c.args.shared.now c.args.own.now s c.requires.set c.load.result c.args.shared.now.space c.in-Load.at
    (same_access c.args.shared.now.space c.args.task) c.load.ensures)

pub returns-in-Store-clause-ok : goal.returns-in-Store-clause-ok
returns-in-Store-clause-ok c = λ core s.
    rw (c.out_of-in-Store.ensures.out, c.in-Store.is) (store_lifts (setup_of c.args.setup.now) core c.args.task c.args.shared.now c.args.own.now s c.requires.set c.store.result c.store.new.space c.in-Store.at c.in-Store.word
    c.store.ensures.keeps c.store.ensures.comes)

pub returns-in_ok-new_local-in-New-clause-ok : goal.returns-in_ok-new_local-in-New-clause-ok
returns-in_ok-new_local-in-New-clause-ok c = λ core s.
    rw (c.out_of-in-New.ensures.out, c.in-New.is) (new_lifts (setup_of c.args.setup.now) core c.args.task c.args.shared.now c.args.own.now s c.requires.set c.in_ok-new_local-in-New.field-0 c.new_local.new.space c.in-New.len
    c.in_ok-new_local-in-New.ensures.keeps c.in_ok-new_local-in-New.ensures.comes)

pub returns-in-Drop-clause-ok : goal.returns-in-Drop-clause-ok
returns-in-Drop-clause-ok c = λ core s.
    rw (c.out_of-in-Drop.ensures.out, c.in-Drop.is) (drop_lifts (setup_of c.args.setup.now) core c.args.task c.args.shared.now c.args.own.now s c.requires.set c.end_local.result c.end_local.new.space c.in-Drop.obj
    c.end_local.ensures.keeps c.end_local.ensures.comes)

pub returns-in_ok-new_block-in-Malloc-clause-ok : goal.returns-in_ok-new_block-in-Malloc-clause-ok
returns-in_ok-new_block-in-Malloc-clause-ok c = λ core s.
    rw (c.out_of-in-Malloc.ensures.out, c.in-Malloc.is) (malloc_lifts (setup_of c.args.setup.now) core c.args.task c.args.shared.now c.args.own.now s c.requires.set c.in_ok-new_block-in-Malloc.field-0 c.new_block.new.space c.in-Malloc.n
    c.in_ok-new_block-in-Malloc.ensures.keeps c.in_ok-new_block-in-Malloc.ensures.comes)

pub returns-in-Free-clause-ok : goal.returns-in-Free-clause-ok
returns-in-Free-clause-ok c = λ core s.
    rw (c.out_of-in-Free.ensures.out, c.in-Free.is) (free_lifts (setup_of c.args.setup.now) core c.args.task c.args.shared.now c.args.own.now s c.requires.set c.end_block.result c.end_block.new.space c.in-Free.at
    c.end_block.ensures.keeps c.end_block.ensures.comes)
