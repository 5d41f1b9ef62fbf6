use Rattle.std.proofs.Common.{◌≡◌, sym, ap, ◌∙◌, map, string_bytes, [], rules}
use Rattle.std.proofs.lemmas.Result.{IfOk-weaker}
use Rattle.clap.specs.Words.{app_of, fault_of, found_of, is_simple, is_simple_and_free, matches_of, rows_of}
use Rattle.command_words.specs.Words.{command}
use Rattle.command_words.proofs.Taken.{simple, free, lift_stands, lift_usage, refused_for_memory}
use Rattle.command_words.proofs.reading.read_words.Goals as goal

pub returns-in-Ok-clause-stands : goal.returns-in-Ok-clause-stands
returns-in-Ok-clause-stands c =
    let app = c.in_ok-command.ensures in
    let words = map string_bytes c.args.words.now in
    let rows : rows_of (found_of c.in-Ok.found) ≡ matches_of command words = (c.in-Ok.ensures.matches (ap is_simple app ∙ simple)).0 ∙ ap (λ a. matches_of a words) app in
    let taken : fault_of command words ≡ [] = sym (ap (λ a. fault_of a words) app) ∙ c.in-Ok.ensures.kinds (ap is_simple_and_free app ∙ free) in
    IfOk-weaker c.orders_in.result _ _ (λ r h. lift_stands r words (rows_of (found_of c.in-Ok.found)) taken rows h) c.orders_in.ensures.stands

pub returns-in-Ok-clause-usage : goal.returns-in-Ok-clause-usage
returns-in-Ok-clause-usage c =
    let app = c.in_ok-command.ensures in
    let words = map string_bytes c.args.words.now in
    let rows : rows_of (found_of c.in-Ok.found) ≡ matches_of command words = (c.in-Ok.ensures.matches (ap is_simple app ∙ simple)).0 ∙ ap (λ a. matches_of a words) app in
    IfOk-weaker c.orders_in.result _ _ (λ r h. lift_usage r words (rows_of (found_of c.in-Ok.found)) rows h) c.orders_in.ensures.usage

pub returns-in-Err-2-clause-usage : goal.returns-in-Err-2-clause-usage
returns-in-Err-2-clause-usage c = λ o s.
    let app = c.in_ok-command.ensures in
    let memory = refused_for_memory (app_of c.in_ok-command.field-0) (map string_bytes c.args.words.now) c.in-Err.error app s.taken (c.in-Err.ensures.kinds (ap is_simple_and_free app ∙ free)) in
    search rules
