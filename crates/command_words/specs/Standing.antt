-- What words stand for.
use Rattle.std.specs.Prelude.{◌≡◌, ◌≤◌, ℕ, ◌*◌, ◌^◌, ◌-◌, ◌&&◌, ◌||◌, not, Bool, true, false, if◌then◌else◌, List, Option, Some, None, codes, is_some, option_map}
use Rattle.std.specs.Str.{bytes_eq}
use Rattle.mpc_values.specs.declared.limits.TheConstants.{MAX_TASKS, MAX_EAGER, DEFAULT_EAGER, MAX_QUOTA, DEFAULT_QUOTA, MAX_CALLS, DEFAULT_CALLS}
use Rattle.topology.specs.declared.placements.Placement.{Placement}
use Rattle.topology.specs.declared.placements.Placement.TheVariants.{Compact, Scatter, Listed}
use Rattle.clap.specs.Words.{Row, Text}
use Rattle.command_words.specs.declared.orders.Mode.{Mode}
use Rattle.command_words.specs.declared.orders.Mode.TheVariants.{Check, Run, Serial, Replay, Gen}
use Rattle.command_words.specs.declared.orders.Orders.{Orders}
use Rattle.command_words.specs.Modes.{runs, is_serial, is_replay, is_gen}
use Rattle.command_words.specs.Numbers.{number_between}
use Rattle.command_words.specs.Lists.{listed}
use Rattle.command_words.specs.Words.{AreTaken, found_in, value_of, is_given, is_on}

-- the mode of a word
abbrev pub mode_in : Text → Option Mode
mode_in text =
    if bytes_eq text (codes "check") then Some Check
    else if bytes_eq text (codes "run") then Some Run
    else if bytes_eq text (codes "serial") then Some Serial
    else if bytes_eq text (codes "replay") then Some Replay
    else if bytes_eq text (codes "gen") then Some Gen
    else None

-- the mode, where it was given
abbrev pub mode_of : Option Text → Option Mode
mode_of None = None
mode_of (Some text) = mode_in text

-- a number, where it was given, and else its default; none where what was given is no number in its range
abbrev pub number_or : ℕ → ℕ → ℕ → Option Text → Option ℕ
number_or default low high None = Some default
number_or default low high (Some text) = number_between low high text

-- a number that has no default
abbrev pub number_if_given : ℕ → Option Text → Option (Option ℕ)
number_if_given high None = Some None
number_if_given high (Some text) = option_map (λ (n : ℕ). Some n) (number_between 0 high text)

-- the placement of a word: `compact`, `scatter`, or numbers joined by commas
abbrev pub place_in : Text → Option Placement
place_in text =
    if bytes_eq text (codes "compact") then Some Compact
    else if bytes_eq text (codes "scatter") then Some Scatter
    else option_map Listed (listed text)

-- the placement, where it was given, and else `compact`
abbrev pub place_of : Option Text → Option Placement
place_of None = Some Compact
place_of (Some text) = place_in text

-- one of the options was given that only the modes take which run a program
abbrev pub has_run_option : List Row → Bool
has_run_option found =
    is_given found (codes "machine") || (is_given found (codes "place") || (is_given found (codes "eager") || (is_given found (codes "quota")
    || (is_given found (codes "calls") || (is_given found (codes "journal") || is_on found (codes "matches"))))))

-- each option that was given is one of the mode's
abbrev pub keeps_to : Mode → List Row → Bool
keeps_to mode found =
    (runs mode || not (has_run_option found))
    && (((runs mode || is_gen mode) || not (is_given found (codes "tasks")))
    && ((is_serial mode || not (is_given found (codes "seed"))) && (is_gen mode || not (is_on found (codes "emit")))))

-- the greatest number of 64 bits
abbrev pub MAX_NUMBER : ℕ
MAX_NUMBER = 2 ^ 64 - 1

-- a replay has a journal, and `gen` a number for its subject
abbrev pub has_what_it_needs : Mode → List Row → Bool
has_what_it_needs mode found =
    (not (is_replay mode) || is_given found (codes "journal"))
    && (not (is_gen mode) || is_some (number_or 0 0 MAX_NUMBER (value_of found (codes "subject"))))

-- What was found in the words stands for these orders.
pub record AreOrders (found : List Row) (o : Orders) : Type 0 where
  pub mode : mode_of (value_of found (codes "mode")) ≡ Some o.mode
  pub subject : value_of found (codes "subject") ≡ Some o.subject
  pub tasks : number_or 1 1 MAX_TASKS (value_of found (codes "tasks")) ≡ Some o.tasks
  pub machine : value_of found (codes "machine") ≡ o.machine
  pub place : place_of (value_of found (codes "place")) ≡ Some o.place
  pub eager : number_or DEFAULT_EAGER 0 MAX_EAGER (value_of found (codes "eager")) ≡ Some o.eager
  pub quota : number_or DEFAULT_QUOTA 0 MAX_QUOTA (value_of found (codes "quota")) ≡ Some o.quota
  pub calls : number_or DEFAULT_CALLS 1 MAX_CALLS (value_of found (codes "calls")) ≡ Some o.calls
  pub seed : number_if_given MAX_NUMBER (value_of found (codes "seed")) ≡ Some o.seed
  pub journal : value_of found (codes "journal") ≡ o.journal
  pub matches : is_on found (codes "matches") ≡ o.matches
  pub emit : is_on found (codes "emit") ≡ o.emit
  pub modes : keeps_to o.mode found ≡ true
  pub needs : has_what_it_needs o.mode found ≡ true
  pub few : o.tasks * o.calls ≤ MAX_CALLS

-- Words stand for orders where `clap` takes them and no rule of the options is broken.
pub record Stands (words : List Text) (o : Orders) : Type 0 where
  pub taken : AreTaken words
  pub orders : AreOrders (found_in words) o
