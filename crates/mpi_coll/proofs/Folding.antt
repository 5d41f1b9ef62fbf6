-- Contributions folded place by place, and in rank order.
use Rattle.std.proofs.Common.{◌≡◌, ◌⊎◌, inl, inr, ℕ, zero, suc, ◌+◌, ◌<◌, ◌≤◌, min, List, [], ◌∷◌, ◌++◌, length, map, take, drop, get_or, refl, ap, sym, ◌∙◌, arith, fold, add-one}
use Rattle.std.specs.List.{range_with_len}
use Rattle.std.proofs.lemmas.List.{drop_more, drop_all, take-append-le, append_assoc, append-nil, length_push}
use Rattle.std.proofs.lemmas.List.FromFn.{map-range_with_len_more}
use Rattle.std.proofs.lemmas.List.Sums.{fold_more}
use Rattle.mpc_values.specs.declared.values.Word.{Word}
use Rattle.mpc_values.specs.declared.values.Word.TheVariants.{Int, Undef}
use Rattle.mpc_values.specs.declared.values.Op.{Op}
use Rattle.mpc_values.specs.declared.values.Datatype.{Datatype}
use Rattle.mpi_args.specs.Folds.{fold_of}
use Rattle.mpi_coll.specs.Results.{number_in, folded_two, folded}

-- the next place of two contributions
pub folded_two_step : (op : Op) (kind : Datatype) (a b : List Word) (i : ℕ) → i < length a → i < length b
    → folded_two op kind (drop i a) (drop i b) ≡ Int (fold_of op kind (number_in (get_or a i Undef)) (number_in (get_or b i Undef))) ∷ folded_two op kind (drop (i + 1) a) (drop (i + 1) b)
folded_two_step op kind a b i ha hb = ap (λ ws. folded_two op kind ws (drop i b)) (drop_more a i Undef ha) ∙ ap (folded_two op kind (get_or a i Undef ∷ drop (i + 1) a)) (drop_more b i Undef hb)

-- one place more is folded
pub folded_push : (op : Op) (kind : Datatype) (a b all more : List Word) (i : ℕ) (word : Word) → i < length a → i < length b
    → word ≡ Int (fold_of op kind (number_in (get_or a i Undef)) (number_in (get_or b i Undef))) → more ≡ all ++ word ∷ []
    → all ++ folded_two op kind (drop i a) (drop i b) ≡ folded_two op kind a b → more ++ folded_two op kind (drop (i + 1) a) (drop (i + 1) b) ≡ folded_two op kind a b
folded_push op kind a b all more i word ha hb is pushed so =
    ap (λ ws. ws ++ folded_two op kind (drop (i + 1) a) (drop (i + 1) b)) pushed
    ∙ (append_assoc all (word ∷ []) (folded_two op kind (drop (i + 1) a) (drop (i + 1) b))
    ∙ (ap (λ w. all ++ (w ∷ folded_two op kind (drop (i + 1) a) (drop (i + 1) b))) is
    ∙ (ap (λ ws. all ++ ws) (sym (folded_two_step op kind a b i ha hb)) ∙ so)))

folded_two-nil : (op : Op) (kind : Datatype) (a : List Word) → folded_two op kind a [] ≡ []
folded_two-nil op kind [] = refl
folded_two-nil op kind (x ∷ xs) = refl

folded_two-past : (op : Op) (kind : Datatype) (a b : List Word) (i : ℕ) → (length a ≤ i) ⊎ (length b ≤ i) → folded_two op kind (drop i a) (drop i b) ≡ []
folded_two-past op kind a b i (inl h) = rw (drop_all i a h) refl
folded_two-past op kind a b i (inr h) = rw (drop_all i b h) (folded_two-nil op kind (drop i a))

shorter : (m n i : ℕ) → min m n ≤ i → (m ≤ i) ⊎ (n ≤ i)
shorter m n i h = grind arith

-- no place is left
pub folded_two_end : (op : Op) (kind : Datatype) (a b : List Word) (i : ℕ) → min (length a) (length b) ≤ i → folded_two op kind (drop i a) (drop i b) ≡ []
folded_two_end op kind a b i h = folded_two-past op kind a b i (shorter (length a) (length b) i h)

-- all places are folded
pub folded_done : (op : Op) (kind : Datatype) (a b all : List Word) (i : ℕ) → min (length a) (length b) ≤ i → all ++ folded_two op kind (drop i a) (drop i b) ≡ folded_two op kind a b → all ≡ folded_two op kind a b
folded_done op kind a b all i h so = sym (append-nil all) ∙ (ap (λ ws. all ++ ws) (sym (folded_two_end op kind a b i h)) ∙ so)

-- the ranks after the first
ranks_after : {X : Type 0} (f : ℕ → X) (a n : ℕ) → map f (range_with_len (a + 1) n) ≡ map (λ r. f (r + 1)) (range_with_len a n)
ranks_after f a zero = refl
ranks_after f a (suc n) = ap (λ xs. f (a + 1) ∷ xs) (ranks_after f (a + 1) n)

ranks_same : {X : Type 0} (f g : ℕ → X) (a n : ℕ) → ((r : ℕ) → r < a + n → f r ≡ g r) → map f (range_with_len a n) ≡ map g (range_with_len a n)
ranks_same f g a zero same = refl
ranks_same f g a (suc n) same =
    let here : f a ≡ g a = same a (omega arith) in
    rw (here, ranks_same f g (a + 1) n (λ r h. same r (omega arith))) refl

-- Exscan of all contributions from Scan of those before the last
pub before_from_along : (op : Op) (kind : Datatype) (before : List (List Word)) (last : List Word)
    → [] ∷ map (λ rank. folded op kind (take (rank + 1) before)) (range_with_len 0 (length before))
    ≡ map (λ rank. folded op kind (take rank (before ++ last ∷ []))) (range_with_len 0 (suc (length before)))
before_from_along op kind before last =
    let f : ℕ → List Word = λ rank. folded op kind (take rank (before ++ last ∷ [])) in
    ap (λ xs. [] ∷ xs) (ranks_same (λ rank. folded op kind (take (rank + 1) before)) (λ rank. f (rank + 1)) 0 (length before)
    (λ r h. ap (folded op kind) (sym (take-append-le (r + 1) before (last ∷ []) (omega arith))))
    ∙ sym (ranks_after f 0 (length before)))

-- Scan, one rank more
pub along_more : (op : Op) (kind : Datatype) (first : List Word) (more : List (List Word)) (i : ℕ)
    → map (λ rank. folded op kind (take (rank + 1) (first ∷ more))) (range_with_len 0 (i + 1))
    ≡ map (λ rank. folded op kind (take (rank + 1) (first ∷ more))) (range_with_len 0 i) ++ fold (folded_two op kind) first (take i more) ∷ []
along_more op kind first more i =
    map-range_with_len_more (λ rank. folded op kind (take (rank + 1) (first ∷ more))) 0 i i (omega arith)
    ∙ ap (λ ws. map (λ rank. folded op kind (take (rank + 1) (first ∷ more))) (range_with_len 0 i) ++ ws ∷ []) (ap (λ n. folded op kind (take n (first ∷ more))) (add-one i))

-- Exscan, from Scan of those before the last and nothing in front
pub before_done : (op : Op) (kind : Datatype) (given before all more : List (List Word)) (last first : List Word)
    → given ≡ before ++ last ∷ [] → all ≡ map (λ rank. folded op kind (take (rank + 1) before)) (range_with_len 0 (length before)) → first ≡ [] → more ≡ first ∷ all
    → more ≡ map (λ rank. folded op kind (take rank given)) (range_with_len 0 (length given))
before_done op kind given before all more last first is so none put =
    let long : length (before ++ last ∷ []) ≡ suc (length before) = omega (arith, length_push before last) in
    put ∙ (ap (λ ws. ws ∷ all) none ∙ (ap (λ xs. [] ∷ xs) so ∙ (before_from_along op kind before last
    ∙ (ap (λ n. map (λ rank. folded op kind (take rank (before ++ last ∷ []))) (range_with_len 0 n)) (sym long)
    ∙ ap (λ xs. map (λ rank. folded op kind (take rank xs)) (range_with_len 0 (length xs))) (sym is)))))

-- the fold of one contribution more
pub along_step : (op : Op) (kind : Datatype) (first : List Word) (more : List (List Word)) (i : ℕ) (so_far longer a b next : List Word) → i < length more
    → longer ≡ folded_two op kind a b → a ≡ so_far → b ≡ next → next ≡ get_or more i next → so_far ≡ fold (folded_two op kind) first (take i more)
    → longer ≡ fold (folded_two op kind) first (take (i + 1) more)
along_step op kind first more i so_far longer a b next h is is_a is_b item so =
    is ∙ (ap (λ ws. folded_two op kind ws b) (is_a ∙ so)
    ∙ (ap (folded_two op kind (fold (folded_two op kind) first (take i more))) (is_b ∙ item)
    ∙ sym (fold_more (folded_two op kind) first more i next h)))

-- the folds along the ranks, one more
pub along_push : (op : Op) (kind : Datatype) (first : List Word) (more : List (List Word)) (i : ℕ) (all longer : List (List Word)) (so_far : List Word)
    → longer ≡ all ++ so_far ∷ [] → all ≡ map (λ rank. folded op kind (take (rank + 1) (first ∷ more))) (range_with_len 0 i) → so_far ≡ fold (folded_two op kind) first (take i more)
    → longer ≡ map (λ rank. folded op kind (take (rank + 1) (first ∷ more))) (range_with_len 0 (i + 1))
along_push op kind first more i all longer so_far pushed so is =
    pushed ∙ (ap (λ xs. xs ++ so_far ∷ []) so
    ∙ (ap (λ ws. map (λ rank. folded op kind (take (rank + 1) (first ∷ more))) (range_with_len 0 i) ++ ws ∷ []) is ∙ sym (along_more op kind first more i)))

-- all folds along the ranks
pub along_done : (op : Op) (kind : Datatype) (given : List (List Word)) (first copied : List Word) (more : List (List Word)) (i : ℕ) (all done : List (List Word)) (so_far : List Word)
    → given ≡ first ∷ more → copied ≡ first → i ≡ length more → done ≡ all ++ so_far ∷ []
    → all ≡ map (λ rank. folded op kind (take (rank + 1) (copied ∷ more))) (range_with_len 0 i) → so_far ≡ fold (folded_two op kind) copied (take i more)
    → done ≡ map (λ rank. folded op kind (take (rank + 1) given)) (range_with_len 0 (length given))
along_done op kind given first copied more i all done so_far is same last pushed so sum =
    let whole : copied ∷ more ≡ given = ap (λ ws. ws ∷ more) same ∙ sym is in
    let long : i + 1 ≡ length given = omega (arith, last, ap length is) in
    along_push op kind copied more i all done so_far pushed so sum
    ∙ (ap (λ xs. map (λ rank. folded op kind (take (rank + 1) xs)) (range_with_len 0 (i + 1))) whole
    ∙ ap (λ n. map (λ rank. folded op kind (take (rank + 1) given)) (range_with_len 0 n)) long)
