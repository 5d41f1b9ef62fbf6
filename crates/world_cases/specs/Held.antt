-- Which sends are eager, by the words that the sender's eager messages hold already.
use Rattle.std.specs.Prelude.{◌≡◌, ℕ, pos, Bool, false, true, [], ◌∷◌, Some, None, Option}
use Rattle.mpc_values.specs.declared.values.Word.TheVariants.{Null}
use Rattle.mpc_values.specs.declared.values.Datatype.TheVariants.{Int}
use Rattle.mpi_queue.specs.History.{Made}
use Rattle.run_model.specs.Setup.{Setup}
use Rattle.mpi_request.specs.declared.requests.Carried.{Carried}
use Rattle.mpi_request.specs.Messages.{held_words}
use Rattle.run_model.specs.declared.offers.Offer.{Offer}
use Rattle.run_model.specs.Posting.{is_eager}
use Rattle.run_model.specs.Scenes.{flat, W}

-- the greatest bound of eager sends
abbrev pub two : Setup
two = record (flat 2 []) { eager = 65536 }

abbrev pub sent : ℕ → Option ℕ → Made
sent task met = record { posting = record { task = task; comm = 1; send = true; rank = task; peer = pos 1; tag = pos 0 }; met = met }

abbrev pub carried : ℕ → Bool → Carried
carried count eager = record { kind = Int; count = count; places = None; words = []; eager = eager }

-- Task 0 has an eager message of 200,000 words that waits, one of 60,000 words that was matched, one of 50,000 words that was
-- not eager, and one of 62,000 words that waits; task 1 has one of 60,000 words.
abbrev pub held : ℕ → ℕ
held task = held_words
    (sent 0 None ∷ sent 0 (Some 9) ∷ sent 0 None ∷ sent 0 None ∷ sent 1 None ∷ [])
    (carried 200000 true ∷ carried 60000 true ∷ carried 50000 false ∷ carried 62000 true ∷ carried 60000 true ∷ [])
    task

abbrev pub offer : ℕ → Bool → Offer
offer count sync = record { send = true; at = Null; count = pos count; kind = Int; peer = pos 1; tag = pos 0; comm = W; sync = sync }

pub record Held : Type 0 where
  -- 144 words more are 262,144
  pub enough : is_eager two (held 0) (offer 144 false) ≡ true
  pub too_many : is_eager two (held 0) (offer 145 false) ≡ false
  pub of_another : is_eager two (held 1) (offer 65536 false) ≡ true
  pub too_long : is_eager two (held 1) (offer 65537 false) ≡ false
  pub synchronous : is_eager two (held 0) (offer 1 true) ≡ false
