use Rattle.std.proofs.Common.{◌+◌, ap, ◌∙◌}
use Rattle.std.proofs.lemmas.List.{get_or_default}
use Rattle.mpc_values.specs.declared.values.Word.TheVariants.{Undef}
use Rattle.mem_space.proofs.Images.{fill_step, fill_end, marks_then, copies_then}
use Rattle.mem_space.proofs.first.fill.Goals as goal

pub loop-word-preserved : goal.loop-word-preserved
loop-word-preserved c =
    let i = c.loop-word.invariant in
    record {
      at = ap (λ n. n + 1) i.at;
      rows = c.write.ensures.edits.rows ∙ i.rows;
      puts = λ owner obj object named lives long.
          fill_step c.args.heap.now c.loop-word.heap c.write.new.self c.args.key c.loop-word.word-index c.loop-word.at c.args.words.now _ owner obj object named i.rows (i.puts owner obj object named lives long) long c.loop-word-test.true
          i.at c.write.ensures.edits (get_or_default c.args.words.now c.loop-word.word-index _ Undef c.loop-word-test.true);
      marks = marks_then c.args.heap.now c.loop-word.heap c.write.new.self i.marks c.write.ensures.marks;
      copies = copies_then c.args.heap.now c.loop-word.heap c.write.new.self i.copies c.write.ensures.copies;
    }

pub returns-clause-puts : goal.returns-clause-puts
returns-clause-puts c = λ owner obj object named lives long.
    fill_end c.args.heap.now c.loop-word.heap c.loop-word.word-index c.args.words.now owner obj object c.loop-word-test.false (c.loop-word.invariant.puts owner obj object named lives long) long
