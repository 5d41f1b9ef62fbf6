-- Where a statement stands, as code that is made from its end has it.
use Rattle.std.specs.Prelude.{ℕ, suc, ◌-◌, ◌≤◌, List, [], ◌∷◌, ◌++◌, length, drop, reverse, Bool, true, false, Option, None, Some}
use Rattle.c_code.specs.declared.instr.Instr.{Instr}
use Rattle.c_code.specs.declared.instr.Instr.TheVariants as i
use Rattle.c_tree.specs.declared.program.Ending.{Ending}
use Rattle.c_tree.specs.Programs as p
use Rattle.c_tree.specs.declared.program.Function.{Function}
use Rattle.c_tree.specs.ProgramOf.{function_of}
use Rattle.c_compile.specs.Compiled.{Place, inside, no_ending, ending_code, function_code}

-- How many instructions were made where the loop round the statement ends, and where its next turn begins; and the slots
-- of the locals in memory of the blocks round it, the outermost first, of which so many are outside of the loop.
pub record Standing : Type 0 where
  pub exit : ℕ
  pub again : ℕ
  pub opened : List ℕ
  pub outside : ℕ

-- the place of a statement behind which so many instructions are made
abbrev pub place_of : Standing → ℕ → Place
place_of s made = record { exit = made - s.exit; again = made - s.again; in_loop = reverse (drop s.outside s.opened); in_function = reverse s.opened }

-- all that is round the statement was made before it
pub record Fits (s : Standing) (made : ℕ) : Type 0 where
  pub exit : s.exit ≤ made
  pub again : s.again ≤ made
  pub outside : s.outside ≤ length s.opened

-- with these locals opened, one after the other
abbrev pub with_opened : Standing → List ℕ → Standing
with_opened s slots = record s { opened = s.opened ++ slots }

-- the locals in memory that are declared by these items of a block
abbrev pub declared : p.Stmts → List ℕ
declared p.Done = []
declared (p.Then (p.New line slot words) rest) = slot ∷ declared rest
declared (p.Then first rest) = declared rest

-- an item of a block declares a local in memory
abbrev pub is_local : p.Stmt → Bool
is_local (p.New line slot words) = true
is_local first = false

-- the drops at the end of a block, the latest local's first
abbrev pub closing : ℕ → List ℕ → List Instr
closing end [] = []
closing end (slot ∷ slots) = closing end slots ++ i.Release slot end ∷ []

-- what stands at the end of a block, before its drops
abbrev pub tail_of : Option Ending → ℕ → Place → List Instr
tail_of None end = no_ending
tail_of (Some ending) end = ending_code ending end

-- with these locals in memory opened, the place
abbrev pub opened_place : List ℕ → Place → Place
opened_place [] place = place
opened_place (slot ∷ slots) place = opened_place slots (inside slot place)

-- the slots of the parameters in memory, from a slot on
abbrev pub in_memory : ℕ → List Bool → List ℕ
in_memory slot [] = []
in_memory slot (false ∷ more) = in_memory (suc slot) more
in_memory slot (true ∷ more) = slot ∷ in_memory (suc slot) more

-- the lengths of functions' codes
abbrev pub lengths_of : List Function → List ℕ
lengths_of [] = []
lengths_of (f ∷ more) = length (function_code (function_of f)) ∷ lengths_of more
