use Rattle.std.proofs.Common.{◌≡◌, ◌++◌, take}
use Rattle.c_tree.specs.ProgramOf.{stmts_of}
use Rattle.c_compile.specs.Standing.{with_opened, declared, closing}
use Rattle.c_compile.proofs.statement_code.put_closing.Given as goal

abbrev pub invariant-loop-item : goal.invariant-loop-item
invariant-loop-item l =
    (l.out ≡ closing l.end (declared (stmts_of (take l.item-index l.items))) ++ l.initial.out)
    × (l.around ≡ with_opened l.initial.around (declared (stmts_of (take l.item-index l.items))))
