-- The symbols behind a place, one by one.
use Rattle.std.proofs.Common.{◌≡◌, ℕ, zero, suc, ◌+◌, ◌<◌, List, [], ◌∷◌, length, drop, map, refl, arith, add-one}
use Rattle.c_parse.specs.Symbols.{Sym}
use Rattle.c_parse.specs.Reading.{behind}

behind_suc : {X : Type 0} (f : X → Sym) (at : ℕ) (xs : List X) → at < length xs → map f (drop (suc at) xs) ≡ behind (map f (drop at xs))
behind_suc f at [] lt = absurd (omega arith)
behind_suc f zero (x ∷ xs) lt = refl
behind_suc f (suc at) (x ∷ xs) lt = behind_suc f at xs (omega arith)

-- the symbols behind the next one
pub behind_next : {X : Type 0} (f : X → Sym) (at : ℕ) (xs : List X) → at < length xs → map f (drop (at + 1) xs) ≡ behind (map f (drop at xs))
behind_next f at xs lt = rw add-one (behind_suc f at xs lt)
