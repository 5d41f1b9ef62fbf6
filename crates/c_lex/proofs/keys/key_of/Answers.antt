use Rattle.c_lex.specs.Spellings.{key_spelling}
use Rattle.c_lex.specs.Lookups.{key_of}
use Rattle.c_lex.proofs.keys.key_of.Goals as goal

pub returns : goal.returns
unfolding key_of key_spelling
returns c = c.key_among.ensures
