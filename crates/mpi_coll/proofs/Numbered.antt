-- The words of the members, of which the first ranks have their new communicators; and what the members of a split ask.
use Rattle.std.proofs.Common.{◌≡◌, ℕ, ℤ, zero, suc, ◌+◌, ◌<◌, ◌≤◌, List, [], ◌∷◌, length, map, get_or, set, inl, inr, refl, ap, sym, ◌∙◌, subst, arith}
use Rattle.std.specs.Prelude.{Some, slice_get}
use Rattle.std.specs.List.{range_with_len}
use Rattle.std.proofs.lemmas.Bool.{cases_eq}
use Rattle.std.proofs.lemmas.List.{length-set}
use Rattle.std.proofs.lemmas.List.FromFn.{length-map-range_with_len}
use Rattle.std.proofs.lemmas.Option.{slice_get-get_or}
use Rattle.mpc_values.specs.declared.values.Word.{Word}
use Rattle.mpc_values.specs.declared.values.Word.TheVariants.{Comm}
use Rattle.mpc_values.specs.declared.collectives.Coll.{Coll}
use Rattle.mpc_values.specs.declared.collectives.CollKind.TheVariants.{Split}
use Rattle.mpi_comm.specs.declared.communicators.Seen.{Seen}
use Rattle.mpi_comm.specs.Splitting.{groups_of}
use Rattle.mpi_comm.specs.Numbers.{chosen_of, number_in, numbers_in}
use Rattle.mpi_comm.specs.Seen.{members_at}
use Rattle.mpi_coll.specs.declared.concluding.Numbers.{Numbers}
use Rattle.mpi_coll.specs.Concluding.{chosen_by, number_to, number_for}
use Rattle.mpi_coll.proofs.Lists.{ranks-each, ranks-same, slice_get_ranks, slice_get-set_same, slice_get-set_other}

-- the words of the ranks below one have their new communicators
pub record Numbered (numbers : Numbers) (members at : ℕ) (all : List (List Word)) : Type 0 where
  pub long : length all ≡ members
  pub done : (r : ℕ) → r < at → slice_get all r ≡ Some (Comm (number_for numbers r) ∷ [])
  pub left : (r : ℕ) → at ≤ r → r < members → slice_get all r ≡ Some (Comm 0 ∷ [])

pub numbered-none : (numbers : Numbers) (members : ℕ) (all : List (List Word)) → all ≡ map (λ (rank : ℕ). Comm 0 ∷ []) (range_with_len 0 members) → Numbered numbers members 0 all
numbered-none numbers members all is = record {
  long = ap length is ∙ length-map-range_with_len (λ (rank : ℕ). Comm 0 ∷ []) 0 members;
  done = λ r h. absurd (omega arith);
  left = λ r h g. ap (λ ws. slice_get ws r) is ∙ slice_get_ranks (λ (rank : ℕ). Comm 0 ∷ []) members r g;
}

module _ (numbers : Numbers) (members at : ℕ) (all : List (List Word)) (so : Numbered numbers members at all) (within : at < members) where
  -- the one word of the next member
  pub numbered-word : (words : List Word) → words ≡ get_or all at words → length words ≡ 1
  numbered-word words is =
      let got : slice_get all at ≡ Some (get_or all at words) = slice_get-get_or all at words (omega (arith, so.long)) in
      let one = so.left at (omega arith) within in
      let same : words ≡ Comm 0 ∷ [] = cc in
      ap length same

  pub numbered-more : (words : List Word) → words ≡ Comm (number_for numbers at) ∷ [] → Numbered numbers members (at + 1) (set all at words)
  numbered-more words is = record {
    long = length-set all at words ∙ so.long;
    done = λ r h. elim (cases_eq r at) [
      | inl same ↦ subst (λ k. slice_get (set all at words) k ≡ Some (Comm (number_for numbers k) ∷ [])) (sym same)
          (slice_get-set_same all at words (omega (arith, so.long)) ∙ ap (λ ws. Some ws) is)
      | inr nay ↦ slice_get-set_other all at words r nay ∙ so.done r (omega (arith, nay))
    ];
    left = λ r h g. slice_get-set_other all at words r (λ e. omega (arith, e)) ∙ so.left r (omega arith) g;
  }

pub numbered-all : (numbers : Numbers) (members at : ℕ) (all : List (List Word)) → Numbered numbers members at all → members ≤ at → all ≡ map (λ rank. Comm (number_for numbers rank) ∷ []) (range_with_len 0 members)
numbered-all numbers members at all so end =
    ranks-each (λ rank. Comm (number_for numbers rank) ∷ []) all 0 (λ k h. so.done k (omega (arith, so.long)) ∙ ap (λ n. Some (Comm (number_for numbers n) ∷ [])) (omega arith))
    ∙ ap (λ n. map (λ rank. Comm (number_for numbers rank) ∷ []) (range_with_len 0 n)) so.long

-- what the members of a split ask, by colours and keys
pub chosen_of-asked : (asked : List Coll) → chosen_of (map (λ (c : Coll). c.colour) asked) (map (λ (c : Coll). c.key) asked) ≡ chosen_by asked
chosen_of-asked [] = refl
chosen_of-asked (c ∷ asked) = ap (λ cs. record { colour = c.colour; key = c.key } ∷ cs) (chosen_of-asked asked)

pub get_or-map : {X Y : Type 0} (f : X → Y) (xs : List X) (k : ℕ) (d : X) (e : Y) → k < length xs → get_or (map f xs) k e ≡ f (get_or xs k d)
get_or-map f [] k d e h = absurd (omega arith)
get_or-map f (x ∷ xs) zero d e h = refl
get_or-map f (x ∷ xs) (suc k) d e h = get_or-map f xs k d e (omega arith)

pub chosen_is : (asked : List Coll) (colours keys : List ℤ) → colours ≡ map (λ (c : Coll). c.colour) asked → keys ≡ map (λ (c : Coll). c.key) asked → chosen_of colours keys ≡ chosen_by asked
chosen_is asked colours keys c k = ap (λ cs. chosen_of cs keys) c ∙ (ap (chosen_of (map (λ (c : Coll). c.colour) asked)) k ∙ chosen_of-asked asked)

-- the numbers of a split, by rank
pub divided : (seen : List Seen) (comm : ℕ) (asked : List Coll) (numbers : List ℕ) (colours keys : List ℤ) (members : ℕ)
    → colours ≡ map (λ (c : Coll). c.colour) asked → keys ≡ map (λ (c : Coll). c.key) asked
    → numbers ≡ numbers_in (length seen + 1) (groups_of (members_at seen comm) (chosen_of colours keys)) (members_at seen comm) → length (members_at seen comm) ≡ members
    → map (λ rank. Comm (get_or numbers rank 0) ∷ []) (range_with_len 0 members) ≡ map (λ rank. Comm (number_to Split seen comm asked rank) ∷ []) (range_with_len 0 members)
divided seen comm asked numbers colours keys members c k n size =
    ranks-same (λ rank. Comm (get_or numbers rank 0) ∷ []) (λ rank. Comm (number_to Split seen comm asked rank) ∷ []) 0 members (λ r h.
    ap (λ x. Comm x ∷ [])
    (ap (λ ns. get_or ns r 0) n
    ∙ (get_or-map (number_in (length seen + 1) (groups_of (members_at seen comm) (chosen_of colours keys))) (members_at seen comm) r 0 0 (omega (arith, h, size))
    ∙ ap (λ cs. number_in (length seen + 1) (groups_of (members_at seen comm) cs) (get_or (members_at seen comm) r 0)) (chosen_is asked colours keys c k))))
