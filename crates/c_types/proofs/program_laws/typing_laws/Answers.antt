use Rattle.c_types.proofs.Laws as laws
use Rattle.c_types.proofs.program_laws.typing_laws.Goals as goal

pub returns : goal.returns
returns c = record {
  same_program = laws.same_program;
  same_refusal = laws.same_refusal;
  never_both = laws.never_both;
}
