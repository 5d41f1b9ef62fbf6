use Rattle.std.proofs.Common.{length, arith}
use Rattle.c_lex.specs.Lexed.{beginning, RefusedAt}
use Rattle.c_lex.proofs.Unique.{same_tokens, none_refused, same_refusal}
use Rattle.c_lex.proofs.Ordered.{in_order}
use Rattle.c_lex.proofs.scan.lex.Goals as goal

pub returns-in-Ok-clause-spans : goal.returns-in-Ok-clause-spans
returns-in-Ok-clause-spans c = in_order {s = beginning} {bytes = c.args.src.now} (length c.args.src.now) (omega arith) c.in-Ok.ensures.tokens

pub returns-in-Ok-clause-only_tokens : goal.returns-in-Ok-clause-only_tokens
returns-in-Ok-clause-only_tokens c = λ ts h. same_tokens c.in-Ok.ensures.tokens h

pub returns-in-Ok-clause-only_refusal : goal.returns-in-Ok-clause-only_refusal
returns-in-Ok-clause-only_refusal c = λ q h. none_refused {s = beginning} {bytes = c.args.src.now} {r = q} h c.in-Ok.ensures.tokens

pub returns-in-Err-Refused-clause-only_tokens : goal.returns-in-Err-Refused-clause-only_tokens
returns-in-Err-Refused-clause-only_tokens c = λ ts h. none_refused {s = beginning} {bytes = c.args.src.now} {r = c.in-Err-Refused.refusal} (rw c.in-Err-Refused.field-0-is at c.in-Err-Refused.ensures.refused) h

pub returns-in-Err-Refused-clause-only_refusal : goal.returns-in-Err-Refused-clause-only_refusal
returns-in-Err-Refused-clause-only_refusal c =
    λ q h. same_refusal {s = beginning} {bytes = c.args.src.now} {r = q} {q = c.in-Err-Refused.refusal} h (rw c.in-Err-Refused.field-0-is at c.in-Err-Refused.ensures.refused)
