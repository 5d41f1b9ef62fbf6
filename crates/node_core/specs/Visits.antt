-- What a visit of a task makes and answers.
use Rattle.std.specs.Prelude.{Bool, List, [], ◌∷◌, ◌++◌, Option, Some, None, if◌then◌else◌}
use Rattle.mpc_base.specs.declared.journals.Out.{Out}
use Rattle.mpc_base.specs.declared.journals.Out.TheVariants as out
use Rattle.mpc_base.specs.declared.journals.Entry.{Entry}
use Rattle.mpc_base.specs.declared.journals.End.{End}
use Rattle.run_model.specs.Steps.{Step, Stays, Makes}
use Rattle.node_core.specs.declared.node.Reply.{Reply}
use Rattle.node_core.specs.declared.node.Reply.TheVariants.{Did, NotYet, Stop}

-- the entries after a step
abbrev pub made : List Entry → Step → List Entry
made entries Stays = entries
made entries (Makes entry world) = entries ++ entry ∷ []

-- the same of a node, which makes none once it was stopped
abbrev pub made_by : Option End → List Entry → Step → List Entry
made_by None entries step = made entries step
made_by (Some stop) entries step = entries

-- what a visit answers that makes an entry
abbrev pub reply_to : Out → Reply
reply_to (out.Did answer) = Did answer
reply_to (out.Broke fault) = Stop
reply_to out.Waits = NotYet

-- what a visit answers while the run goes on
abbrev pub reply_of : Step → Reply
reply_of Stays = NotYet
reply_of (Makes entry world) = reply_to entry.out

-- the same, by whether the run goes on
abbrev pub reply_in : Bool → Step → Reply
reply_in going step = if going then reply_of step else Stop
