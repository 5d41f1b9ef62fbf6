-- Lists of holes that lie apart: how they are cut, joined and searched.
use Rattle.std.proofs.Common.{◌≡◌, ℕ, zero, suc, get_or, ◌+◌, ◌<◌, ◌≤◌, Bool, true, false, ◌||◌, List, [], ◌∷◌, ◌++◌, length, refl, ap, ◌∙◌, arith}
use Rattle.std.proofs.lemmas.Bool.Decides.{nat_tests}
use Rattle.word_region.specs.declared.holes.Hole.{Hole}
use Rattle.word_region.specs.Places.{is_in}
use Rattle.word_region.specs.Holes.{has_place, is_in_hole, Lies}

pub in_range : (base len p : ℕ) → base ≤ p → p < base + len → is_in base len p ≡ true
in_range base len p low high = grind (arith, nat_tests)

pub below_range : (base len p : ℕ) → p < base → is_in base len p ≡ false
below_range base len p low = grind (arith, nat_tests)

pub above_range : (base len p : ℕ) → base + len ≤ p → is_in base len p ≡ false
above_range base len p high = grind (arith, nat_tests)

-- two ranges that meet are one
pub joined_range : (base first second p : ℕ) → is_in base (first + second) p ≡ (is_in base first p || is_in (base + first) second p)
joined_range base first second p = grind (arith, nat_tests)

pub in_none : (p : ℕ) → is_in_hole [] p ≡ false
unfolding is_in_hole
in_none p = refl

pub in_more : (h : Hole) (hs : List Hole) (p : ℕ) → is_in_hole (h ∷ hs) p ≡ (is_in h.base h.len p || is_in_hole hs p)
unfolding is_in_hole
in_more h hs p = refl

or_assoc : (a b c : Bool) → (a || (b || c)) ≡ ((a || b) || c)
or_assoc true b c = refl
or_assoc false b c = refl

pub in_both : (xs ys : List Hole) (p : ℕ) → is_in_hole (xs ++ ys) p ≡ (is_in_hole xs p || is_in_hole ys p)
unfolding is_in_hole
in_both [] ys p = refl
in_both (x ∷ xs) ys p = ap (λ b. has_place p x || b) (in_both xs ys p) ∙ or_assoc (has_place p x) (is_in_hole xs p) (is_in_hole ys p)

-- holes that stand from a place on hold none below it
pub nothing_below : (low : ℕ) (hs : List Hole) (high p : ℕ) → Lies low hs high → p < low → is_in_hole hs p ≡ false
nothing_below low [] high p lies below = in_none p
nothing_below low (h ∷ hs) high p lies below =
    let no : is_in h.base h.len p ≡ false = below_range h.base h.len p (omega arith) in
    let rest : is_in_hole hs p ≡ false = nothing_below (h.base + h.len + 1) hs high p lies.1.1.1 (omega (arith, lies.0)) in
    in_more h hs p ∙ (ap (λ b. b || is_in_hole hs p) no ∙ rest)

-- nor at their end or past it
pub nothing_above : (low : ℕ) (hs : List Hole) (high p : ℕ) → Lies low hs high → high ≤ p + 1 → is_in_hole hs p ≡ false
nothing_above low [] high p lies above = in_none p
nothing_above low (h ∷ hs) high p lies above =
    let no : is_in h.base h.len p ≡ false = above_range h.base h.len p (omega (arith, lies.1.1.0)) in
    let rest : is_in_hole hs p ≡ false = nothing_above (h.base + h.len + 1) hs high p lies.1.1.1 above in
    in_more h hs p ∙ (ap (λ b. b || is_in_hole hs p) no ∙ rest)

-- within a larger room
pub wider : (low : ℕ) (hs : List Hole) (high less more : ℕ) → Lies low hs high → less ≤ low → high ≤ more → Lies less hs more
wider low [] high less more lies down up = tt
wider low (h ∷ hs) high less more lies down up =
    (omega (arith, lies.0), (lies.1.0, (omega (arith, lies.1.1.0), wider (h.base + h.len + 1) hs high (h.base + h.len + 1) more lies.1.1.1 (omega arith) up)))

-- holes before one hole, that hole, and those behind it
pub record Parts (low : ℕ) (front : List Hole) (h : Hole) (back : List Hole) (high : ℕ) : Type 0 where
  pub before : Lies low front h.base
  pub from : low ≤ h.base
  pub some : 0 < h.len
  pub until : h.base + h.len < high
  pub behind : Lies (h.base + h.len + 1) back high

pub cut : (low : ℕ) (front : List Hole) (h : Hole) (back : List Hole) (high : ℕ) → Lies low (front ++ h ∷ back) high → Parts low front h back high
cut low [] h back high lies = record { before = tt; from = lies.0; some = lies.1.0; until = lies.1.1.0; behind = lies.1.1.1 }
cut low (f ∷ front) h back high lies =
    let rest = cut (f.base + f.len + 1) front h back high lies.1.1.1 in
    record {
      before = (lies.0, (lies.1.0, (omega (arith, rest.from), rest.before)));
      from = omega (arith, rest.from, lies.0);
      some = rest.some;
      until = rest.until;
      behind = rest.behind;
    }

pub join : (low : ℕ) (front : List Hole) (h : Hole) (back : List Hole) (high : ℕ) → Parts low front h back high → Lies low (front ++ h ∷ back) high
join low [] h back high parts = (parts.from, (parts.some, (parts.until, parts.behind)))
join low (f ∷ front) h back high parts =
    let before = parts.before in
    let until : h.base + h.len < high = parts.until in
    let rest = join (f.base + f.len + 1) front h back high (record {
      before = before.1.1.1;
      from = omega (arith, before.1.1.0);
      some = parts.some;
      until = until;
      behind = parts.behind;
    }) in
    (before.0, (before.1.0, (omega (arith, before.1.1.0, until), rest)))

-- the bases rise
at_least : (low : ℕ) (hs : List Hole) (high j : ℕ) (d : Hole) → Lies low hs high → j < length hs → low ≤ (get_or hs j d).base
at_least low [] high j d lies there = absurd (omega arith)
at_least low (h ∷ hs) high zero d lies there = lies.0
at_least low (h ∷ hs) high (suc j) d lies there =
    let rest = at_least (h.base + h.len + 1) hs high j d lies.1.1.1 (omega arith) in omega (arith, rest, lies.0)

pub rising : (low : ℕ) (hs : List Hole) (high : ℕ) → Lies low hs high → (i j : ℕ) (d : Hole) → i ≤ j → j < length hs → (get_or hs i d).base ≤ (get_or hs j d).base
rising low [] high lies i j d le there = absurd (omega arith)
rising low (h ∷ hs) high lies zero zero d le there = omega arith
rising low (h ∷ hs) high lies zero (suc j) d le there =
    let rest = at_least (h.base + h.len + 1) hs high j d lies.1.1.1 (omega arith) in omega (arith, rest)
rising low (h ∷ hs) high lies (suc i) zero d le there = absurd (omega arith)
rising low (h ∷ hs) high lies (suc i) (suc j) d le there = rising (h.base + h.len + 1) hs high lies.1.1.1 i j d (omega arith) (omega arith)

-- holes up to a place, and holes from there on
pub append_lies : (low : ℕ) (front : List Hole) (middle from : ℕ) (back : List Hole) (high : ℕ)
    → Lies low front middle → Lies from back high → low ≤ middle → middle ≤ from → middle ≤ high → Lies low (front ++ back) high
append_lies low [] middle from back high before behind le up top = wider from back high low high behind (omega arith) (omega arith)
append_lies low (f ∷ front) middle from back high before behind le up top =
    let until : f.base + f.len < middle = before.1.1.0 in
    (before.0, (before.1.0, (omega arith, append_lies (f.base + f.len + 1) front middle from back high before.1.1.1 behind (omega arith) up top)))

-- the holes behind some others
pub append_rest : (low : ℕ) (front back : List Hole) (high : ℕ) → Lies low (front ++ back) high → Lies low back high
append_rest low [] back high lies = lies
append_rest low (f ∷ front) back high lies =
    wider (f.base + f.len + 1) back high low high (append_rest (f.base + f.len + 1) front back high lies.1.1.1) (omega (arith, lies.0)) (omega arith)
