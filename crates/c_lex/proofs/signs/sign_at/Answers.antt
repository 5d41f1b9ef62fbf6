use Rattle.c_lex.specs.Spellings.{sign_spelling}
use Rattle.c_lex.specs.Lookups.{sign_at}
use Rattle.c_lex.proofs.signs.sign_at.Goals as goal

pub returns : goal.returns
unfolding sign_at sign_spelling
returns c = c.sign_among.ensures
