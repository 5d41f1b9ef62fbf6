-- Keys in lines, behind a line more and behind a change.
use Rattle.std.proofs.Common.{◌≡◌, ℕ, ◌<◌, ◌≤◌, true, false, cond, ◌&&◌, ◌==◌, List, [], ◌∷◌, ◌++◌, length, get_or, set, Option, None, Vec, Global, sym, ap, subst, ◌∙◌, inl, inr, arith}
use Rattle.std.proofs.lemmas.Bool.{cases_lt, cases_eq}
use Rattle.std.proofs.lemmas.Bool.Decides.{nat_tests}
use Rattle.std.proofs.lemmas.List.{get_or-set_same, get_or-set_other, get_or_past, get_or_append_left, get_or_push, length_push, length-map, get_or-map, map-set}
use Rattle.block_table.specs.Places.{Grid, key_at, key_in, lines_seen, IsThere, Sets}

pub line_more : (grid : Grid) (a b : ℕ) → key_at (grid ++ [] ∷ []) a b ≡ key_at grid a b
line_more grid a b = elim (cases_lt a (length grid)) [
  | inl within ↦ ap (λ line. get_or line b None) (get_or_append_left grid ([] ∷ []) [] a within)
  | inr past ↦ ap (λ line. get_or line b None) (last past ∙ sym (get_or_past grid a [] past))
]
  where
    last : length grid ≤ a → get_or (grid ++ [] ∷ []) a [] ≡ []
    last past = elim (cases_eq a (length grid)) [
      | inl same ↦ get_or_push grid [] [] a (sym same)
      | inr other ↦ get_or_past (grid ++ [] ∷ []) a [] (let n = length_push grid [] in omega arith)
    ]

-- the line is there, where a place of it is
pub line_there : (grid : Grid) (line place : ℕ) → IsThere grid line place → line < length grid
line_there grid line place there = elim (cases_lt line (length grid)) [
  | inl within ↦ within
  | inr past ↦ absurd (let e : length (get_or grid line []) ≡ 0 = ap length (get_or_past grid line [] past) in omega arith)
]

pub sets : (grid : Grid) (line place : ℕ) (key : Option ℕ) → IsThere grid line place → Sets grid (set grid line (set (get_or grid line []) place key)) line place key
sets grid line place key there a b = elim (cases_eq a line) [
  | inl same ↦ subst (λ n. key_at (set grid line (set (get_or grid line []) place key)) n b ≡ cond ((n == line) && (b == place)) key (key_at grid n b)) (sym same)
      (ap (λ keys. get_or keys b None) (get_or-set_same grid line (set (get_or grid line []) place key) [] (line_there grid line place there)) ∙ in_line)
  | inr other ↦ ap (λ keys. get_or keys b None) (get_or-set_other grid line a (set (get_or grid line []) place key) [] other)
      ∙ ap (λ t. cond t key (key_at grid a b)) (let e : false ≡ ((a == line) && (b == place)) = grind (arith, nat_tests) in e)
]
  where
    in_line : get_or (set (get_or grid line []) place key) b None ≡ cond ((line == line) && (b == place)) key (key_at grid line b)
    in_line = elim (cases_eq b place) [
      | inl same ↦ subst (λ n. get_or (set (get_or grid line []) place key) n None ≡ cond ((line == line) && (n == place)) key (key_at grid line n)) (sym same)
          (get_or-set_same (get_or grid line []) place key None there ∙ ap (λ t. cond t key (key_at grid line place)) (let e : true ≡ ((line == line) && (place == place)) = grind (arith, nat_tests) in e))
      | inr other ↦ get_or-set_other (get_or grid line []) place b key None other
          ∙ ap (λ t. cond t key (key_at grid line b)) (let e : false ≡ ((line == line) && (b == place)) = grind (arith, nat_tests) in e)
    ]

-- the same of the vector of a line
pub sets_in : (lines : List (Vec (Option ℕ) Global)) (line place : ℕ) (key : Option ℕ) (now after : Vec (Option ℕ) Global) → now ≡ get_or lines line now
    → IsThere (lines_seen lines) line place → after.items ≡ set now.items place key → Sets (lines_seen lines) (lines_seen (set lines line after)) line place key
sets_in lines line place key now after is there items =
    let within : line < length lines = let n = line_there (lines_seen lines) line place there in omega (arith, length-map lines (λ (v : Vec (Option ℕ) Global). v.items)) in
    let old : now.items ≡ get_or (lines_seen lines) line [] = ap (λ (v : Vec (Option ℕ) Global). v.items) is ∙ sym (get_or-map (λ (v : Vec (Option ℕ) Global). v.items) lines line now [] within) in
    subst (λ g. Sets (lines_seen lines) g line place key)
    (sym (map-set (λ (v : Vec (Option ℕ) Global). v.items) lines line after ∙ ap (λ keys. set (lines_seen lines) line keys) (items ∙ ap (λ keys. set keys place key) old)))
    (sets (lines_seen lines) line place key there)

-- a line that changes no key
pub same_keys : (lines : List (Vec (Option ℕ) Global)) (line : ℕ) (now after : Vec (Option ℕ) Global) → line < length lines → now ≡ get_or lines line now
    → ((b : ℕ) → get_or after.items b None ≡ get_or now.items b None) → (a b : ℕ) → key_in (set lines line after) a b ≡ key_in lines a b
same_keys lines line now after within is same a b =
    let old : now.items ≡ get_or (lines_seen lines) line [] = ap (λ (v : Vec (Option ℕ) Global). v.items) is ∙ sym (get_or-map (λ (v : Vec (Option ℕ) Global). v.items) lines line now [] within) in
    ap (λ g. key_at g a b) (map-set (λ (v : Vec (Option ℕ) Global). v.items) lines line after)
    ∙ elim (cases_eq a line) [
      | inl here ↦ subst (λ n. key_at (set (lines_seen lines) line after.items) n b ≡ key_at (lines_seen lines) n b) (sym here)
          (ap (λ keys. get_or keys b None) (get_or-set_same (lines_seen lines) line after.items [] (omega (arith, length-map lines (λ (v : Vec (Option ℕ) Global). v.items))))
          ∙ (same b ∙ ap (λ keys. get_or keys b None) old))
      | inr other ↦ ap (λ keys. get_or keys b None) (get_or-set_other (lines_seen lines) line a after.items [] other)
    ]

pub now_there : (lines : List (Vec (Option ℕ) Global)) (line place : ℕ) (after : Vec (Option ℕ) Global) → line < length lines → place < length after.items
    → IsThere (lines_seen (set lines line after)) line place
now_there lines line place after within there =
    subst (λ keys. place < length keys)
    (sym (ap (λ g. get_or g line []) (map-set (λ (v : Vec (Option ℕ) Global). v.items) lines line after)
    ∙ get_or-set_same (lines_seen lines) line after.items [] (omega (arith, length-map lines (λ (v : Vec (Option ℕ) Global). v.items)))))
    there
