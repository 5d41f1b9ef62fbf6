-- What a match moves: the words that the send's places held when it was posted stand in the receive's first places.
use Rattle.std.proofs.Common.{◌≡◌, ◌≤◌, ◌&&◌, ℕ, zero, suc, Bool, true, false, if◌then◌else◌, nat_abs, nat_le, [], length, Option, Some, None, Ok, refl, ap, sym, ◌∙◌, subst, arith}
use Rattle.std.proofs.lemmas.Bool.{leb-true}
use Rattle.mpc_values.specs.declared.values.Datatype.{Datatype}
use Rattle.memory_model.specs.declared.kinds.Span.{Span}
use Rattle.memory_model.specs.Memory.{Memory}
use Rattle.memory_model.specs.Ranges.{words_at, with_words_at}
use Rattle.mpi_args.specs.Datatypes.{is_same_datatype}
use Rattle.mpi_queue.specs.declared.postings.Posting.{Posting}
use Rattle.mpi_request.specs.declared.requests.Carried.{Carried}
use Rattle.mpi_request.specs.Messages.{is_taken, moved_words, delivered}
use Rattle.run_model.specs.declared.offers.Offer.{Offer}
use Rattle.run_model.specs.Setup.{Setup}
use Rattle.run_model.specs.Owners.{owner_of}
use Rattle.run_model.specs.Collectives.{places_found}
use Rattle.run_model.specs.Orderly.{message_words}
use Rattle.run_model.proofs.Lengths.{Room, named_span, no_places, named_words, length_words, arrives}
use Rattle.run_model.proofs.PostedCalls.{Carries}

-- The words of a match are those of the message; and, by what the receive's word names after it and the send's named before
-- it was posted, they have arrived.
pub record Arrived (setup : Setup) (sender receiver : ℕ) (send recv : Offer) (before after : Memory) (words : ℕ) : Type 0 where
  pub many : words ≡ message_words send.kind recv.kind send.count recv.count
  pub same : named_words (owner_of setup receiver) after recv.at words ≡ named_words (owner_of setup sender) before send.at words

pub arrived_is : (setup : Setup) (sender receiver : ℕ) (send recv : Offer) (before before' after after' : Memory) (words words' : ℕ) → before' ≡ before → after' ≡ after → words' ≡ words → Arrived setup sender receiver send recv before after words → Arrived setup sender receiver send recv before' after' words'
arrived_is setup sender receiver send recv before before' after after' words words' b a w h =
    subst (λ m. Arrived setup sender receiver send recv m after' words') (sym b)
    (subst (λ m. Arrived setup sender receiver send recv before m words') (sym a)
    (subst (Arrived setup sender receiver send recv before after) (sym w) h))

both_true : (a b : Bool) → (a && b) ≡ true → (a ≡ true) × (b ≡ true)
both_true true b h = (refl, h)
both_true false b h = let no : false ≡ true = h in cc

module _ (setup : Setup) (m sent_in asked_in : Memory) (sender receiver : ℕ) (sending receiving : Offer) (ps pr : Posting) (sent recv : Carried) (sends : sending.send ≡ true)
    (s : Carries setup sent_in sender sending ps sent) (r : Carries setup asked_in receiver receiving pr recv) (room : (span : Span) → recv.places ≡ Some span → Room m span) where
  abbrev words_of : Datatype → Datatype → ℕ → ℕ → ℕ
  words_of kind kind' count count' = if is_same_datatype kind kind' && nat_le count count' then count else 0

  moved_is : moved_words sent recv ≡ message_words sending.kind receiving.kind sending.count receiving.count
  moved_is =
      ap (λ k. words_of k recv.kind sent.count recv.count) s.kind
      ∙ ap (λ k. words_of sending.kind k sent.count recv.count) r.kind
      ∙ ap (λ c. words_of sending.kind receiving.kind c recv.count) s.count
      ∙ ap (λ c. words_of sending.kind receiving.kind (nat_abs sending.count) c) r.count

  -- a message of some words has places
  sent_places : (k : ℕ) → sent.count ≡ suc k → (o : Option Span) → sent.places ≡ o → length (words_at sent_in o) ≡ suc k
  sent_places k is None e = absurd (omega (arith, is, s.count, no_places (owner_of setup sender) sent_in sending.at (nat_abs sending.count) (s.places ∙ ap Ok e)))
  sent_places k is (Some span) e =
      let n = named_span (owner_of setup sender) sent_in sending.at (nat_abs sending.count) span (s.places ∙ ap Ok e) in
      length_words sent_in span n.room ∙ ap (λ (x : Span). x.count) n.is ∙ sym s.count ∙ is

  words_are : sent.words ≡ words_at sent_in sent.places
  words_are = s.words ∙ ap (λ b. if b then words_at sent_in sent.places else []) sends

  taken : (k : ℕ) → sent.count ≡ suc k → sent.count ≤ recv.count → (o : Option Span) → recv.places ≡ o
      → named_words (owner_of setup receiver) (with_words_at m o sent.words) receiving.at (suc k) ≡ named_words (owner_of setup sender) sent_in sending.at (suc k)
  taken k is few None e = absurd (omega (arith, is, few, r.count, no_places (owner_of setup receiver) asked_in receiving.at (nat_abs receiving.count) (r.places ∙ ap Ok e)))
  taken k is few (Some span) e =
      arrives (owner_of setup receiver) asked_in m receiving.at (nat_abs receiving.count) span sent.words (suc k)
      (named_span (owner_of setup receiver) asked_in receiving.at (nat_abs receiving.count) span (r.places ∙ ap Ok e)) (room span e)
      (ap length words_are ∙ sent_places k is sent.places refl) (omega arith) (omega (arith, is, few, r.count))
      ∙ words_are
      ∙ sym (ap (λ x. words_at sent_in (places_found x)) s.places)
      ∙ ap (named_words (owner_of setup sender) sent_in sending.at) (sym s.count ∙ is)

  by_count : (n : ℕ) → sent.count ≡ n → sent.count ≤ recv.count
      → named_words (owner_of setup receiver) (with_words_at m recv.places sent.words) receiving.at n ≡ named_words (owner_of setup sender) sent_in sending.at n
  by_count zero is few = refl
  by_count (suc k) is few = taken k is few recv.places refl

  by_taken : (b : Bool) → is_taken sent recv ≡ b
      → named_words (owner_of setup receiver) (if b then with_words_at m recv.places sent.words else m) receiving.at (if b then sent.count else 0) ≡ named_words (owner_of setup sender) sent_in sending.at (if b then sent.count else 0)
  by_taken false e = refl
  by_taken true e = by_count sent.count refl (leb-true sent.count recv.count (both_true (is_same_datatype sent.kind recv.kind) (nat_le sent.count recv.count) e).1)

  pub delivers : Arrived setup sender receiver sending receiving sent_in (delivered m sent recv) (moved_words sent recv)
  delivers = record { many = moved_is; same = by_taken (is_taken sent recv) refl }
