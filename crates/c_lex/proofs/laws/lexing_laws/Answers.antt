use Rattle.c_lex.specs.Lexed as lexed
use Rattle.c_lex.proofs.Unique as unique
use Rattle.c_lex.proofs.laws.lexing_laws.Goals as goal

pub returns : goal.returns
returns c = record {
  same_tokens = λ src ts us first second. unique.same_tokens {s = lexed.beginning} {bytes = src} first second;
  same_refusal = λ src r q first second. unique.same_refusal {s = lexed.beginning} {bytes = src} {r = r} {q = q} first second;
  never_both = λ src ts r has refused. unique.none_refused {s = lexed.beginning} {bytes = src} {r = r} refused has;
}
