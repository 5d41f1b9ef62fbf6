-- The forms that productions are made of. A phrase says which lists of symbols spell which value, and which lists are its fronts.
use Rattle.std.specs.Prelude.{◌≡◌, ℕ, ◌≤◌, ◌⊎◌, List, [], ◌∷◌, ◌++◌, length, Option, Some}
use Rattle.c_tree.specs.declared.syntax.Place.{Place}
use Rattle.c_parse.specs.Symbols.{Sym}

-- which lists spell which value, and which lists are fronts
pub record Phrase (A : Type 0) : Type 1 where
  pub spells : List Sym → A → Type 0
  pub front : List Sym → Type 0

-- no list of symbols
abbrev pub nothing : {A : Type 0} → Phrase A
nothing = record { spells = λ ts a. ⊥; front = λ ts. ts ≡ [] }

-- the empty list, for a value
abbrev pub give : {A : Type 0} → A → Phrase A
give a = record { spells = λ ts b. (ts ≡ []) × (b ≡ a); front = λ ts. ts ≡ [] }

-- the list is one symbol, and is read as the value
abbrev pub IsOne : {A : Type 0} → (Sym → Option A) → List Sym → A → Type 0
IsOne read ts a = (s : Sym) × (ts ≡ s ∷ []) × (read s ≡ Some a)

-- one symbol, for what it is read as; its fronts are that symbol and the empty list
abbrev pub one : {A : Type 0} → (Sym → Option A) → Phrase A
one {A} read = record { spells = IsOne read; front = λ ts. (ts ≡ []) ⊎ ((a : A) × IsOne read ts a) }

-- a list cut in two: the first part spells a value whole, and the second is of the phrase that follows that value
pub record Cut {A : Type 0} (first : List Sym → A → Type 0) (second : A → List Sym → Type 0) (ts : List Sym) : Type 0 where
  pub before : List Sym
  pub behind : List Sym
  pub value : A
  pub is : ts ≡ before ++ behind
  pub spelt : first before value
  pub follows : second value behind

-- one phrase behind another. A front is a front of the first, or the first whole and a front of the second
infixl 10 ◌>>=◌
abbrev pub ◌>>=◌ : {A B : Type 0} → Phrase A → (A → Phrase B) → Phrase B
p >>= k = record {
  spells = λ ts b. Cut p.spells (λ a. λ us. (k a).spells us b) ts;
  front = λ ts. p.front ts ⊎ Cut p.spells (λ a. (k a).front) ts;
}

-- the same where the value of the first does not matter
infixl 10 ◌>>◌
abbrev pub ◌>>◌ : {A B : Type 0} → Phrase A → Phrase B → Phrase B
p >> q = p >>= (λ _. q)

-- the one or the other
infixl 5 ◌or◌
abbrev pub ◌or◌ : {A : Type 0} → Phrase A → Phrase A → Phrase A
p or q = record { spells = λ ts a. p.spells ts a ⊎ q.spells ts a; front = λ ts. p.front ts ⊎ q.front ts }

-- any number of steps, each of which goes on from the value of the one before
pub data Steps {S : Type 0} (spells : S → List Sym → S → Type 0) : S → List Sym → S → Type 0 where
  done : {s : S} {ts : List Sym} → ts ≡ [] → Steps spells s ts s
  step : {s t : S} {ts : List Sym} (u : S) (before behind : List Sym) → ts ≡ before ++ behind → spells s before u → Steps spells u behind t → Steps spells s ts t

-- steps that are whole, and then a front of one
pub data StepsFront {S : Type 0} (spells : S → List Sym → S → Type 0) (front : S → List Sym → Type 0) : S → List Sym → Type 0 where
  now : {s : S} {ts : List Sym} → front s ts → StepsFront spells front s ts
  later : {s : S} {ts : List Sym} (u : S) (before behind : List Sym) → ts ≡ before ++ behind → spells s before u → StepsFront spells front u behind → StepsFront spells front s ts

-- a repetition, from a value on
abbrev pub repeat : {S : Type 0} → (S → Phrase S) → S → Phrase S
repeat k s = record {
  spells = λ ts t. Steps (λ u. (k u).spells) s ts t;
  front = λ ts. StepsFront (λ u. (k u).spells) (λ u. (k u).front) s ts;
}

-- the place of the first symbol; any where there is none
abbrev pub place_of : List Sym → Place
place_of [] = record { line = 1; col = 1 }
place_of (s ∷ ts) = s.at

-- a phrase that is told where it begins
abbrev pub placed : {A : Type 0} → (Place → Phrase A) → Phrase A
placed k = record { spells = λ ts. (k (place_of ts)).spells ts; front = λ ts. (k (place_of ts)).front ts }

-- at most so many symbols, in a front too
abbrev pub at_most : {A : Type 0} → ℕ → Phrase A → Phrase A
at_most n p = record { spells = λ ts a. p.spells ts a × (length ts ≤ n); front = λ ts. p.front ts × (length ts ≤ n) }
