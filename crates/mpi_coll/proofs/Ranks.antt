-- Lists with an item for each rank, one rank more, and joined contributions, one contribution more.
use Rattle.std.proofs.Common.{◌≡◌, ℕ, ◌+◌, ◌*◌, ◌^◌, ◌<◌, ◌≤◌, List, [], ◌∷◌, ◌++◌, length, map, take, get_or, refl, ap, sym, ◌∙◌, arith}
use Rattle.std.specs.List.{range_with_len}
use Rattle.std.proofs.Math.Nat.{mul-le-mul_left}
use Rattle.std.proofs.lemmas.List.{take_more, map_more}
use Rattle.std.proofs.lemmas.List.Concat.{flat_map-append}
use Rattle.std.proofs.lemmas.List.FromFn.{map-range_with_len_more}
use Rattle.mpc_values.specs.declared.values.Word.{Word}
use Rattle.mpi_coll.specs.declared.shares.Takers.{Takers}
use Rattle.mpi_coll.specs.Results.{part_of, joined}
use Rattle.mpi_coll.specs.Shares.{share_of, handed}

-- one rank more
pub ranks_more : {X : Type 0} (f : ℕ → X) (n : ℕ) → map f (range_with_len 0 (n + 1)) ≡ map f (range_with_len 0 n) ++ f n ∷ []
ranks_more f n = map-range_with_len_more f 0 n n (omega arith)

-- a list with one rank more, by what it was
pub ranks_push : {X : Type 0} (f : ℕ → X) (n : ℕ) (all more : List X) (x : X) → more ≡ all ++ x ∷ [] → all ≡ map f (range_with_len 0 n) → x ≡ f n → more ≡ map f (range_with_len 0 (n + 1))
ranks_push f n all more x pushed so is = pushed ∙ (ap (λ xs. xs ++ x ∷ []) so ∙ (ap (λ y. map f (range_with_len 0 n) ++ y ∷ []) is ∙ sym (ranks_more f n)))

pub handed_more : (words : List Word) (takers : Takers) (n : ℕ) → handed words takers (n + 1) ≡ handed words takers n ++ share_of words takers n ∷ []
handed_more words takers n = ranks_more (share_of words takers) n

pub scattered_more : (words : List Word) (count n : ℕ) → map (λ rank. part_of rank count words) (range_with_len 0 (n + 1)) ≡ map (λ rank. part_of rank count words) (range_with_len 0 n) ++ part_of n count words ∷ []
scattered_more words count n = ranks_more (λ rank. part_of rank count words) n

pub exchanged_more : (given : List (List Word)) (count n : ℕ)
    → map (λ rank. joined (map (part_of rank count) given)) (range_with_len 0 (n + 1)) ≡ map (λ rank. joined (map (part_of rank count) given)) (range_with_len 0 n) ++ joined (map (part_of n count) given) ∷ []
exchanged_more given count n = ranks_more (λ rank. joined (map (part_of rank count) given)) n

joined-append : (xs ys : List (List Word)) → joined (xs ++ ys) ≡ joined xs ++ joined ys
joined-append xs ys = flat_map-append (λ (words : List Word). words) xs ys

append_nil : (xs : List Word) → xs ++ [] ≡ xs
append_nil [] = refl
append_nil (x ∷ xs) = ap (λ ys. x ∷ ys) (append_nil xs)

-- contributions joined, one more
pub joined_more : (given : List (List Word)) (i : ℕ) (d : List Word) → i < length given → joined (take (i + 1) given) ≡ joined (take i given) ++ get_or given i d
joined_more given i d h =
    ap joined (take_more given i d h)
    ∙ (joined-append (take i given) (get_or given i d ∷ []) ∙ ap (λ ws. joined (take i given) ++ ws) (append_nil (get_or given i d)))

-- parts of contributions joined, one more
pub parts_more : (given : List (List Word)) (rank count i : ℕ) (d : List Word) → i < length given
    → joined (map (part_of rank count) (take (i + 1) given)) ≡ joined (map (part_of rank count) (take i given)) ++ part_of rank count (get_or given i d)
parts_more given rank count i d h =
    ap joined (map_more (part_of rank count) given i d h)
    ∙ (joined-append (map (part_of rank count) (take i given)) (part_of rank count (get_or given i d) ∷ [])
    ∙ ap (λ ws. joined (map (part_of rank count) (take i given)) ++ ws) (append_nil (part_of rank count (get_or given i d))))

-- a rank times a count fits 64 bits
pub product_fits : (a b : ℕ) → a < 2 ^ 32 → b < 2 ^ 32 → a * b < 2 ^ 64
product_fits a b h g =
    let first : a * b ≤ a * 4294967295 = mul-le-mul_left a (omega (arith, g)) in
    omega (arith, first, h)
