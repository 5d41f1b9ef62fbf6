use Rattle.c_parse.proofs.sources.+stmt.Given as goal

abbrev pub decreases-stmt : goal.decreases-stmt
decreases-stmt l = l.depth
