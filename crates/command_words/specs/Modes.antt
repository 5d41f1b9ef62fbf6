-- The modes of the program, by what they take.
use Rattle.std.specs.Prelude.{Bool, true, false}
use Rattle.command_words.specs.declared.orders.Mode.{Mode}
use Rattle.command_words.specs.declared.orders.Mode.TheVariants.{Check, Run, Serial, Replay, Gen}

-- the modes that run a program
abbrev pub runs : Mode → Bool
runs Check = false
runs Run = true
runs Serial = true
runs Replay = true
runs Gen = false

abbrev pub is_serial : Mode → Bool
is_serial Serial = true
is_serial other = false

abbrev pub is_replay : Mode → Bool
is_replay Replay = true
is_replay other = false

abbrev pub is_gen : Mode → Bool
is_gen Gen = true
is_gen other = false
