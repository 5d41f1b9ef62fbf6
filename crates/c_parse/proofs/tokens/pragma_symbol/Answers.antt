use Rattle.c_parse.proofs.Shown.{reads_in, scope_seen, single_seen, barrier_seen, refused_seen}
use Rattle.c_parse.proofs.tokens.pragma_symbol.Goals as goal

pub returns-in_ok-names-in-Ok-Scope : goal.returns-in_ok-names-in-Ok-Scope
returns-in_ok-names-in-Ok-Scope c =
    scope_seen c.args.src.now c.args.token.now c.part-line.result.now _ _ _ _ c.requires c.part-line.ensures
    (reads_in _ _ _ _ c.in_ok-level.ensures.reads c.in-Ok-Scope.is c.in-Ok-Scope.field-0-is) c.in_ok-names-in-Ok-Scope.ensures c.symbol.ensures

pub returns-in_ok-names-in-Ok-Single : goal.returns-in_ok-names-in-Ok-Single
returns-in_ok-names-in-Ok-Single c =
    single_seen c.args.src.now c.args.token.now c.part-line.result.now _ _ _ _ c.requires c.part-line.ensures
    (reads_in _ _ _ _ c.in_ok-level.ensures.reads c.in-Ok-Single.is c.in-Ok-Single.field-0-is) c.in_ok-names-in-Ok-Single.ensures c.symbol-in-Ok-Single.ensures

pub returns-in_ok-names-in-Ok-Barrier : goal.returns-in_ok-names-in-Ok-Barrier
returns-in_ok-names-in-Ok-Barrier c =
    barrier_seen c.args.src.now c.args.token.now c.part-line.result.now _ _ _ c.requires c.part-line.ensures
    (reads_in _ _ _ _ c.in_ok-level.ensures.reads c.in-Ok-Barrier.is c.in-Ok-Barrier.field-0-is) c.in_ok-names-in-Ok-Barrier.ensures c.symbol-in-Ok-Barrier.ensures

pub returns-in-Err : goal.returns-in-Err
returns-in-Err c =
    refused_seen c.args.src.now c.args.token.now c.part-line.result.now _ _ _ c.requires c.part-line.ensures c.in-Err.is c.in_ok-level.ensures.refused c.alone.ensures
