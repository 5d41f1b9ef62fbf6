-- What a sink has taken of a line or a report.
use Rattle.std.proofs.Common.{ℕ, List, ◌++◌, length, Option, Some, None, Result, Ok, Err, OnOk, OnErr, refl, sym, ap, ◌∙◌}
use Rattle.std.proofs.Math.Seq.{take-length}
use Rattle.mpc_base.specs.Causes.{HasCause}
use Rattle.mpc_base.specs.Told.{Took, TookPrefix}
use Rattle.mpc_top.specs.Answers.{WroteLine}

-- a whole text is a prefix of itself
pub took_prefix : (before after : Option (List ℕ)) (text : List ℕ) → Took before text after → TookPrefix before text after
took_prefix None after text took = took
took_prefix (Some b) after text took = (length text, took ∙ ap (λ t. Some (b ++ t)) (sym (take-length text)))

pub wrote_line : {T E : Type 0} (before after : Option (List ℕ)) (text : List ℕ) (faults faults' : ℕ) (result : Result T E) → OnOk result (Took before text after) → OnErr result (TookPrefix before text after)
    → HasCause faults faults' result → WroteLine text before after faults faults'
wrote_line before after text faults faults' (Ok x) took prefix cause = record { prefix = took_prefix before after text took; whole = λ calm. took }
wrote_line before after text faults faults' (Err e) took prefix cause = record { prefix = prefix; whole = λ calm. absurd (calm cause.failed) }
