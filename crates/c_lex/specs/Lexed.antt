-- Which tokens a source has: its pieces from left to right, each as long as the rules allow.
use Rattle.std.specs.Prelude.{◌≡◌, ℕ, ◌≤◌, Bool, true, false, ◌⊎◌, List, [], ◌∷◌, ◌++◌, length, take, drop, Option, Some, None, codes}
use Rattle.c_lex.specs.declared.tokens.Token.{Token}
use Rattle.c_lex.specs.declared.tokens.Literal.{Literal}
use Rattle.c_lex.specs.declared.tokens.Kind.{Kind}
use Rattle.c_lex.specs.declared.tokens.Kind.TheVariants as kind
use Rattle.c_lex.specs.declared.tokens.LexRefusal.{LexRefusal}
use Rattle.c_lex.specs.declared.places.Place.{Place}
use Rattle.c_lex.specs.declared.pieces.Found.{Found}
use Rattle.c_lex.specs.declared.pieces.Found.TheVariants.{Feed, Blank, Comment, Include, Define, Pragma, Taken}
use Rattle.c_lex.specs.declared.signs.Sign.{Sign}
use Rattle.c_lex.specs.Bytes.{is_gap, is_letter, is_digit}
use Rattle.c_lex.specs.Comments.{IsLineComment, IsBlockComment, opens_comment}
use Rattle.c_lex.specs.Defined.{Meanings, empty, with_name}
use Rattle.c_lex.specs.Directives.{IsWord, IsMarkedLine, IsDefine}
use Rattle.c_lex.specs.Places.{behind, start}
use Rattle.c_lex.specs.Spellings.{key_spelling, sign_spelling, IsNoKey}
use Rattle.c_lex.specs.Words.{SpellsNumber, TextBody}

-- a text from quote to quote
pub record IsText (word : List ℕ) : Type 0 where
  pub body : List ℕ
  pub is : word ≡ 34 ∷ (body ++ 34 ∷ [])
  pub holds : TextBody body

-- a sign that opens no comment, and no longer sign stands here
pub record IsLongestSign (word rest : List ℕ) (sign : Sign) : Type 0 where
  pub spelt : word ≡ sign_spelling sign
  pub outside : opens_comment (word ++ rest) ≡ false
  pub longest : (other : Sign) (behind : List ℕ) → word ++ rest ≡ sign_spelling other ++ behind → length (sign_spelling other) ≤ length word

-- a name that is no key, and what it stands for where it is defined
pub record IsName (known : Meanings) (word rest : List ℕ) (meaning : Option Literal) : Type 0 where
  pub spelt : IsWord is_letter word rest
  pub no_key : IsNoKey word
  pub means : known word ≡ meaning

-- where the lexer stands: the place, whether only blanks stand before it in its line, and what names stand for
pub record State : Type 0 where
  pub place : Place
  pub fresh : Bool
  pub known : Meanings

abbrev pub beginning : State
beginning = record { place = start; fresh = true; known = empty }

-- the word is a piece of this kind where the rest stands behind it
abbrev pub Takes : State → Found → List ℕ → List ℕ → Type 0
Takes s Feed w rest = w ≡ 10 ∷ []
Takes s Blank w rest = (c : ℕ) × (w ≡ c ∷ []) × (is_gap c ≡ true)
Takes s Comment w rest = IsLineComment w rest ⊎ IsBlockComment w
Takes s Include w rest = (s.fresh ≡ true) × IsMarkedLine (codes "#include") w rest
Takes s (Define from len number) w rest = (s.fresh ≡ true) × IsDefine s.known w rest from len number
Takes s Pragma w rest = (s.fresh ≡ true) × IsMarkedLine (codes "#pragma") w rest
Takes s (Taken kind.Name) w rest = IsName s.known w rest None
Takes s (Taken (kind.Key key)) w rest = IsWord is_letter w rest × (w ≡ key_spelling key)
Takes s (Taken (kind.Number v long)) w rest =
    (IsWord is_digit w rest × SpellsNumber w (record { value = v; long = long })) ⊎ IsName s.known w rest (Some (record { value = v; long = long }))
Takes s (Taken kind.Text) w rest = IsText w
Takes s (Taken (kind.Sign sign)) w rest = IsLongestSign w rest sign
Takes s (Taken kind.Pragma) w rest = ⊥

-- no piece begins here
abbrev pub NoPiece : State → List ℕ → Type 0
NoPiece s bytes = (f : Found) (word rest : List ℕ) → bytes ≡ word ++ rest → Takes s f word rest → ⊥

-- blanks leave a line fresh, and a line feed begins a fresh one
abbrev pub fresh_behind : Bool → Found → Bool
fresh_behind fresh Feed = true
fresh_behind fresh Blank = fresh
fresh_behind fresh f = false

-- a definition holds behind it
abbrev pub known_behind : Meanings → Found → List ℕ → Meanings
known_behind known (Define from len number) word = with_name (take len (drop from word)) number known
known_behind known f word = known

-- where the lexer stands behind a piece
abbrev pub behind_piece : State → Found → List ℕ → State
behind_piece s f word = record { place = behind s.place word; fresh = fresh_behind s.fresh f; known = known_behind s.known f word }

-- the token of these bytes at a place
abbrev pub token_at : Place → Kind → List ℕ → Token
token_at p k word = record { kind = k; start = p.at; len = length word; line = p.line; col = p.col }

-- the token that a piece gives, where it gives one; that of a pragma begins behind its mark
abbrev pub given : State → Found → List ℕ → List Token
given s (Taken k) word = token_at s.place k word ∷ []
given s Pragma word = token_at (behind s.place (take 7 word)) kind.Pragma (drop 7 word) ∷ []
given s f word = []

-- the pieces of the bytes give these tokens
pub data Pieces : State → List ℕ → List Token → Type 0 where
  done : {s : State} → Pieces s [] []
  piece : {s : State} {bytes : List ℕ} {ts : List Token} (f : Found) (word rest : List ℕ) (us : List Token) → bytes ≡ word ++ rest → Takes s f word rest → ts ≡ given s f word ++ us → Pieces (behind_piece s f word) rest us → Pieces s bytes ts

-- behind some pieces, bytes are left and no piece begins
pub data Refuses : State → List ℕ → LexRefusal → Type 0 where
  here : {s : State} {bytes : List ℕ} (c : ℕ) (cs : List ℕ) → bytes ≡ c ∷ cs → NoPiece s bytes → Refuses s bytes (record { line = s.place.line; col = s.place.col })
  later : {s : State} {bytes : List ℕ} {r : LexRefusal} (f : Found) (word rest : List ℕ) → bytes ≡ word ++ rest → Takes s f word rest → Refuses (behind_piece s f word) rest r → Refuses s bytes r

-- the tokens of a source
abbrev pub Lexed : List ℕ → List Token → Type 0
Lexed src ts = Pieces beginning src ts

-- the first byte of a source that the rules refuse
abbrev pub RefusedAt : List ℕ → LexRefusal → Type 0
RefusedAt src r = Refuses beginning src r
