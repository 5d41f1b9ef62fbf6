use Rattle.std.proofs.Common.{◌≡◌, ◌++◌, drop}
use Rattle.c_tree.specs.Words as of_words
use Rattle.task_vm.proofs.printing.printed.Given as goal

abbrev pub invariant-loop-piece : goal.invariant-loop-piece
invariant-loop-piece l = record {
  same : l.piece-items ≡ l.format;
  rest : l.bytes.items ++ of_words.printed (drop l.piece-index l.piece-items) (drop l.at l.numbers) ≡ of_words.printed l.format l.numbers;
}
