-- The words of the command as `clap` reads them: two required words, options that take one value each, and two flags.
-- Each stands at most once.
use Rattle.std.specs.Prelude.{◌≡◌, ℕ, Bool, true, false, List, [], Option, Some, None, codes, is_some}
use Rattle.std.specs.Str.{bytes_eq}
use Rattle.clap.specs.Words.{App, Row, Rule, Text, fault_of, first_of, matches_of, new_app, new_rule, with_rule}
use Rattle.clap.specs.declared.builder.ArgAction.TheVariants.{Set, SetTrue}

-- a required word by its place
abbrev pub word : Text → Rule
word name = record (new_rule name) { required = true; action = Some Set }

-- `--name VALUE` or `--name=VALUE`
abbrev pub option : Text → Rule
option name = record (new_rule name) { long = Some name; action = Some Set }

-- `--name`
abbrev pub flag : Text → Rule
flag name = record (new_rule name) { long = Some name; action = Some SetTrue }

-- the program, whose own name is none of its words
abbrev pub program : App
program = record (new_app (codes "mpc")) { top = record (new_app (codes "mpc")).top { no_binary_name = true } }

-- its two words: what is done, and with what
abbrev pub with_two_words : App
with_two_words = with_rule (with_rule program (word (codes "mode"))) (word (codes "subject"))

-- and how many tasks there are, and where they stand
abbrev pub with_tasks : App
with_tasks = with_rule (with_rule (with_rule with_two_words (option (codes "tasks"))) (option (codes "machine"))) (option (codes "place"))

-- and the bounds of a run
abbrev pub with_bounds : App
with_bounds = with_rule (with_rule (with_rule with_tasks (option (codes "eager"))) (option (codes "quota"))) (option (codes "calls"))

-- The whole command, with whose turn it is, the journal, and the two flags.
abbrev pub command : App
command =
    with_rule (with_rule (with_rule (with_rule with_bounds
    (option (codes "seed"))) (option (codes "journal"))) (flag (codes "matches"))) (flag (codes "emit"))

-- `clap` refuses the words for no other cause than memory
abbrev pub AreTaken : List Text → Type 0
AreTaken words = fault_of command words ≡ []

-- what `clap` finds in them, by name
abbrev pub found_in : List Text → List Row
found_in words = matches_of command words

-- the value of a word or an option, where it was given
abbrev pub value_of : List Row → Text → Option Text
value_of found name = first_of name found

-- an option was given
abbrev pub is_given : List Row → Text → Bool
is_given found name = is_some (value_of found name)

-- the text says that a flag was given
abbrev pub is_true : Option Text → Bool
is_true None = false
is_true (Some text) = bytes_eq text (codes "true")

-- a flag was given
abbrev pub is_on : List Row → Text → Bool
is_on found name = is_true (value_of found name)
