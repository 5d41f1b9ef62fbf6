-- Four tasks in two instances, tasks 0 and 2 in one and 1 and 3 in the other, for worked cases.
use Rattle.std.specs.Prelude.{ℕ, ◌%◌, List, [], ◌∷◌}
use Rattle.c_tree.specs.declared.program.HlsKind.{HlsKind}
use Rattle.hls_sync.specs.declared.visits.HlsRow.{HlsRow}
use Rattle.hls_sync.specs.declared.visits.Visit.{Visit}
use Rattle.hls_sync.specs.Meetings.{Site}

-- construct 7, of a kind
abbrev pub site : HlsKind → Site
site kind = record { kind = kind; construct = 7; tasks = 4; instance_of = λ task. task % 2 }

-- a task's visit to it
abbrev pub visit : ℕ → ℕ → Visit
visit task meeting = record { construct = 7; task = task; meeting = meeting }

-- their rows
abbrev pub rows : List HlsRow
rows = record { construct = 7; task = 0; inst = 0 } ∷ record { construct = 7; task = 1; inst = 1 } ∷ record { construct = 7; task = 2; inst = 0 } ∷ record { construct = 7; task = 3; inst = 1 } ∷ []
