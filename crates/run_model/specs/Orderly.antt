-- What holds of every message of a run: it arrives once, whole, and is not overtaken (MPI 3.1, section 3.5).
use Rattle.std.specs.Prelude.{◌≡◌, ◌≢◌, ℕ, ℤ, ◌+◌, ◌<◌, ◌&&◌, Bool, false, true, nat_abs, nat_le, if◌then◌else◌, List}
use Rattle.mpc_values.specs.declared.values.Word.{Word}
use Rattle.mpc_values.specs.declared.values.Datatype.{Datatype}
use Rattle.mpc_values.specs.declared.calls.Call.TheVariants as call
use Rattle.mpc_base.specs.declared.journals.Entry.{Entry}
use Rattle.mpc_base.specs.declared.journals.Journal.{Journal}
use Rattle.memory_model.specs.Ranges.{span_of, words_at}
use Rattle.mpi_args.specs.Datatypes.{is_same_datatype}
use Rattle.mpi_queue.specs.declared.postings.Posting.{Posting}
use Rattle.mpi_queue.specs.Fits.{Fits}
use Rattle.run_model.specs.Setup.{Setup}
use Rattle.run_model.specs.World.{World}
use Rattle.run_model.specs.Owners.{owner_of}
use Rattle.run_model.specs.Collectives.{places_found}
use Rattle.run_model.specs.Matches.{IsMatch, AreOf, IsMatchedBefore, world_before, IsPosted, IsPosting}

-- Once: no posting's number is in two matches.
abbrev pub Once : List Entry → Type 0
Once entries = (i j post met words post' met' words' : ℕ) → i < j → IsMatch entries i post met words → IsMatch entries j post' met' words'
    → (post ≢ post') × (post ≢ met') × (met ≢ post') × (met ≢ met')

-- the words of so many places from the one that a word names to a task
abbrev pub words_from : Setup → World → ℕ → Word → ℕ → List Word
words_from setup w task at count =
    words_at w.core.memory (places_found (span_of (owner_of setup task) (λ owner obj place. false) w.core.memory at count))

-- how many words a message moves: its count, or 0, where the datatypes differ or it is longer than the receive
abbrev pub message_words : Datatype → Datatype → ℤ → ℤ → ℕ
message_words kind kind' count count' =
    if is_same_datatype kind kind' && nat_le (nat_abs count) (nat_abs count') then nat_abs count else 0

-- Whole: just after a match, the receive's first places hold the words that the send's places held when it was posted.
abbrev pub Whole : Setup → List Entry → Type 0
Whole setup entries = (index post met words sent sender send received receiver recv : ℕ) (at at' comm comm' : Word) (count count' peer peer' tag tag' : ℤ) (kind kind' : Datatype) (sync : Bool)
    → IsMatch entries index post met words → AreOf post met send recv
    → IsPosted setup entries sent send sender (call.Send at count kind peer tag comm sync)
    → IsPosted setup entries received recv receiver (call.Recv at' count' kind' peer' tag' comm')
    → (words ≡ message_words kind kind' count count')
    × (words_from setup (world_before setup entries (index + 1)) receiver at' words ≡ words_from setup (world_before setup entries sent) sender at words)

-- Unovertaken: when a send and a receive match, each earlier send of the same sender that fits the receive was matched
-- before, and so was each earlier receive of the same receiver that fits the send.
pub record Unovertaken (setup : Setup) (entries : List Entry) : Type 0 where
  pub sends : (index post met words send recv earlier : ℕ) (s r e : Posting) → IsMatch entries index post met words → AreOf post met send recv
      → IsPosting (world_before setup entries (index + 1)) send true s → IsPosting (world_before setup entries (index + 1)) recv false r
      → earlier < send → IsPosting (world_before setup entries (index + 1)) earlier true e → e.task ≡ s.task → Fits r e
      → IsMatchedBefore entries index earlier
  pub receives : (index post met words send recv earlier : ℕ) (s r e : Posting) → IsMatch entries index post met words → AreOf post met send recv
      → IsPosting (world_before setup entries (index + 1)) send true s → IsPosting (world_before setup entries (index + 1)) recv false r
      → earlier < recv → IsPosting (world_before setup entries (index + 1)) earlier false e → e.task ≡ r.task → Fits e s
      → IsMatchedBefore entries index earlier

-- what holds of every message of a run
pub record Orderly (setup : Setup) (journal : Journal) : Type 0 where
  pub once : Once journal.entries
  pub whole : Whole setup journal.entries
  pub unovertaken : Unovertaken setup journal.entries
