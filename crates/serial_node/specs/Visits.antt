-- What a visit of the task does and answers.
use Rattle.std.specs.Prelude.{Bool, List, [], ◌∷◌, ◌++◌}
use Rattle.mpc_base.specs.declared.journals.Out.{Out}
use Rattle.mpc_base.specs.declared.journals.Out.TheVariants.{Waits, Did as DidOut, Broke}
use Rattle.mpc_base.specs.declared.journals.Entry.{Entry}
use Rattle.serial_model.specs.Go.{Step, Stays, Makes}
use Rattle.serial_node.specs.declared.node.Reply.{Reply}
use Rattle.serial_node.specs.declared.node.Reply.TheVariants.{Did, Stop}

-- the entries after a step
abbrev pub made : List Entry → Step → List Entry
made entries Stays = entries
made entries (Makes entry world) = entries ++ entry ∷ []

-- what an entry answers; no call waits here
abbrev pub reply_to : Out → Reply
reply_to (DidOut answer) = Did answer
reply_to (Broke fault) = Stop
reply_to Waits = Stop

-- What a visit answers, by whether the run had ended, and by the step. While no call waits, a run that has not ended makes
-- an entry.
abbrev pub reply_of : Bool → Step → Reply
reply_of ended Stays = Stop
reply_of ended (Makes entry world) = reply_to entry.out
