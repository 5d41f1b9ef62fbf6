-- What a reader with one symbol in view does, and the steps that every production is made of.
use Rattle.std.specs.Prelude.{◌≡◌, ℕ, zero, suc, ◌+◌, ◌-◌, Bool, if◌then◌else◌, nat_lt, List, [], ◌∷◌, ◌++◌, length, take, drop, Result, Ok, Err, not}
use Rattle.c_tree.specs.declared.syntax.Place.{Place}
use Rattle.c_parse.specs.declared.stops.Stop.{Stop}
use Rattle.c_parse.specs.declared.stops.Stop.TheVariants.{Memory, Refused}
use Rattle.c_parse.specs.declared.symbols.Class.{Class}
use Rattle.c_parse.specs.declared.symbols.Class.TheVariants as class
use Rattle.c_parse.specs.declared.symbols.Key.{Key}
use Rattle.c_parse.specs.declared.symbols.Mark.{Mark}
use Rattle.c_parse.specs.declared.symbols.Mark.TheVariants as mark
use Rattle.c_parse.specs.Signs.{is_mark, is_key, is_name}
use Rattle.c_parse.specs.Symbols.{Sym}

-- what was read and the symbols behind it, or the symbols from the one at which no production goes on
pub data Read (A : Type 0) : Type 0 where
  Got : (value : A) (rest : List Sym) → Read A
  Fails : (rest : List Sym) → Read A

abbrev pub Reader : Type 0 → Type 0
Reader A = List Sym → Read A

abbrev pub and_then : {A B : Type 0} → Read A → (A → Reader B) → Read B
and_then (Got a rest) f = f a rest
and_then (Fails rest) f = Fails rest

infixl 10 ◌>>=◌
abbrev pub ◌>>=◌ : {A B : Type 0} → Reader A → (A → Reader B) → Reader B
p >>= f = λ ts. and_then (p ts) f

infixl 10 ◌>>◌
abbrev pub ◌>>◌ : {A B : Type 0} → Reader A → Reader B → Reader B
p >> q = p >>= (λ _. q)

abbrev pub pure : {A : Type 0} → A → Reader A
pure a = λ ts. Got a ts

abbrev pub refuse : {A : Type 0} → Reader A
refuse = λ ts. Fails ts

-- ---- the next symbol

-- what it is; at the end, nothing that a production takes
abbrev pub class_at : List Sym → Class
class_at [] = class.Other
class_at (s ∷ ts) = s.class

-- where it stands; nothing asks that at the end
abbrev pub place_at : List Sym → Place
place_at [] = record { line = 1; col = 1 }
place_at (s ∷ ts) = s.at

abbrev pub bytes_at : List Sym → List ℕ
bytes_at [] = []
bytes_at (s ∷ ts) = s.bytes

abbrev pub names_at : List Sym → List (List ℕ)
names_at [] = []
names_at (s ∷ ts) = s.names

abbrev pub behind : List Sym → List Sym
behind [] = []
behind (s ∷ ts) = ts

abbrev pub next : Reader Class
next = λ ts. Got (class_at ts) ts

abbrev pub here : Reader Place
here = λ ts. Got (place_at ts) ts

abbrev pub advance : Reader (Unit {0})
advance = λ ts. Got tt (behind ts)

-- goes behind the next symbol, and gives its bytes
abbrev pub bytes : Reader (List ℕ)
bytes = λ ts. Got (bytes_at ts) (behind ts)

-- goes behind the next symbol, and gives the names that it lists
abbrev pub names : Reader (List (List ℕ))
names = λ ts. Got (names_at ts) (behind ts)

-- ---- marks, keys and names

unfoldable pub sees : Mark → List Sym → Bool
sees m ts = is_mark m (class_at ts)

unfoldable pub sees_key : Key → List Sym → Bool
sees_key k ts = is_key k (class_at ts)

unfoldable pub behind_if : Bool → List Sym → List Sym
behind_if b ts = if b then behind ts else ts

-- takes the mark, if it comes next
abbrev pub eat : Mark → Reader Bool
eat m = λ ts. Got (sees m ts) (behind_if (sees m ts) ts)

abbrev pub eat_key : Key → Reader Bool
eat_key k = λ ts. Got (sees_key k ts) (behind_if (sees_key k ts) ts)

unfoldable pub expect : Mark → Reader (Unit {0})
expect m = λ ts. if sees m ts then Got tt (behind ts) else Fails ts

unfoldable pub expect_key : Key → Reader (Unit {0})
expect_key k = λ ts. if sees_key k ts then Got tt (behind ts) else Fails ts

unfoldable pub name : Reader (List ℕ)
name = λ ts. if is_name (class_at ts) then Got (bytes_at ts) (behind ts) else Fails ts

-- ---- repetitions. The number bounds the turns, and each turn takes a symbol, so the count of symbols is enough.

unfoldable pub repeat_from : {S : Type 0} → (List Sym → Bool) → (S → Reader S) → ℕ → S → Reader S
repeat_from stops step zero s = pure s
repeat_from stops step (suc n) s = λ ts. if stops ts then Got s ts else and_then (step s ts) (λ t rest. repeat_from stops step n t rest)

-- steps, up to where they stop
abbrev pub repeat : {S : Type 0} → (List Sym → Bool) → (S → Reader S) → S → Reader S
repeat stops step s = λ ts. repeat_from stops step (length ts) s ts

-- no comma comes next
abbrev pub no_comma : List Sym → Bool
no_comma ts = not (sees mark.Comma ts)

abbrev pub one_more : {A : Type 0} → Reader A → List A → Reader (List A)
one_more item found = do
  advance
  x ← item
  pure (found ++ x ∷ [])

-- one or more, with commas between
unfoldable pub separated : {A : Type 0} → Reader A → Reader (List A)
separated item = do
  first ← item
  repeat no_comma (one_more item) (first ∷ [])

-- ---- the bound on the symbols of an expression

abbrev pub end_of : {A : Type 0} → Read A → List Sym
end_of (Got a rest) = rest
end_of (Fails rest) = rest

abbrev pub ending_at : {A : Type 0} → List Sym → Read A → Read A
ending_at rest (Got a end) = Got a rest
ending_at rest (Fails end) = Fails rest

-- the answer of a reader that saw only some of the symbols, and took so many
abbrev pub put_back : {A : Type 0} → ℕ → ℕ → List Sym → Read A → Read A
put_back most taken ts answer = if nat_lt most taken then Fails (drop most ts) else ending_at (drop taken ts) answer

-- reads, in a window of one symbol more than so many, and refuses that one
unfoldable pub within : {A : Type 0} → ℕ → Reader A → Reader A
within most p = λ ts. put_back most (length (take (most + 1) ts) - length (end_of (p (take (most + 1) ts)))) ts (p (take (most + 1) ts))

-- ---- what a function that reads answers, and where it leaves the cursor

abbrev pub Reads : {A B : Type 0} → (A → B) → Read B → Result A Stop → List Sym → Type 0
Reads of outcome (Ok a) new = outcome ≡ Got (of a) new
Reads of outcome (Err Refused) new = outcome ≡ Fails new
Reads of outcome (Err Memory) new = Unit {0}

-- the same of a value that is its own
abbrev pub itself : {A : Type 0} → A → A
itself a = a
