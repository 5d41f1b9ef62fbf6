use Rattle.c_parse.proofs.OneAnswer as laws
use Rattle.c_parse.proofs.laws.parsing_laws.Goals as goal

pub returns : goal.returns
returns c = record {
  same_tree = laws.same_tree c.reading_laws.ensures;
  same_refusal = laws.same_refusal c.reading_laws.ensures;
  never_both = laws.never_both c.reading_laws.ensures;
}
