use Rattle.std.proofs.Common.{string_bytes, ◌∙◌, rules, tests}
use Rattle.std.proofs.lemmas.Iterator.Consumers.{YieldsList-from_rest}
use Rattle.std.proofs.lemmas.Iterator.Search.{all_from_yields_List}
use Rattle.topology.specs.MachineFile.{is_core_key}
use Rattle.topology.proofs.FileLaws.{list_all-keys}
use Rattle.topology.proofs.machine_file.has_core_key_alone.Goals as goal

pub returns : goal.returns
returns c =
    all_from_yields_List (λ key. is_core_key (string_bytes key)) _ _ _ c.all.ensures.ran (YieldsList-from_rest _ c.keys.ensures.rest) (λ x b q k. search (rules, tests))
    ∙ list_all-keys is_core_key c.args.document.now.entries
