-- One step of the scan: from the place before a piece to the place behind it.
use Rattle.std.proofs.Common.{◌≡◌, ℕ, ◌+◌, ◌-◌, ◌≤◌, ◌<◌, false, cond, nat_eq, Result, Ok, Err, OnOk, List, [], ◌∷◌, ◌++◌, length, get_or, take, drop, refl, sym, ap, ◌∙◌, subst, arith, append_assoc, length-append, length-drop, Some, None, codes}
use Rattle.std.specs.Result.{is_err}
use Rattle.std.proofs.lemmas.List.{take_at, drop_at, drop-drop, drop_more, drop_all, take-append-le, drop-append-le, append-nil}
use Rattle.c_lex.specs.declared.tokens.Kind.TheVariants as kind
use Rattle.c_lex.specs.declared.tokens.Literal.{Literal}
use Rattle.c_lex.specs.declared.tokens.Token.{Token}
use Rattle.c_lex.specs.declared.tokens.LexRefusal.{LexRefusal}
use Rattle.c_lex.specs.declared.places.Place.{Place}
use Rattle.c_lex.specs.declared.pieces.Found.{Found}
use Rattle.c_lex.specs.declared.pieces.Found.TheVariants.{Feed, Blank, Comment, Include, Define, Pragma, Taken}
use Rattle.c_lex.specs.Defined.{with_name}
use Rattle.c_lex.specs.Places.{behind, behind_byte}
use Rattle.c_lex.specs.Lexed.{State, beginning, Takes, Pieces, Refuses, behind_piece, fresh_behind, known_behind, given, token_at}
use Rattle.c_lex.specs.Lexed as lexed
use Rattle.c_lex.specs.Front.{piece_at}
use Rattle.c_lex.specs.Stops.{kept, known_from, IsWithin}
use Rattle.c_lex.proofs.Runs.{bool_cases}
use Rattle.c_lex.proofs.Stands.{front_stands, front_none}
use Rattle.c_lex.proofs.Ordered.{at_behind, marked_long}

-- the piece that is found at a place of the source
pub record Stood (src : List ℕ) (s : State) (f : Found) (n : ℕ) : Type 0 where
  pub some : 0 < n
  pub within : s.place.at + n ≤ length src
  pub word : List ℕ
  pub rest : List ℕ
  pub is : drop s.place.at src ≡ word ++ rest
  pub takes : Takes s f word rest
  pub len : length word ≡ n
  pub front : take n (drop s.place.at src) ≡ word
  pub behind : drop (s.place.at + n) src ≡ rest

pub stood : (src : List ℕ) (s : State) (f : Found) (n : ℕ) → s.place.at ≤ length src → piece_at s.fresh s.known (drop s.place.at src) ≡ Some (f, n) → Stood src s f n
stood src s f n le found =
    let h = front_stands s (drop s.place.at src) f n found in
    let m : length (drop s.place.at src) ≡ length h.word + length h.rest = ap length h.is ∙ length-append h.word h.rest in
    record {
      some = h.some;
      within = omega (arith, m, length-drop s.place.at src, h.len);
      word = h.word;
      rest = h.rest;
      is = h.is;
      takes = h.takes;
      len = h.len;
      front = ap (take n) h.is ∙ take_at h.word h.rest n h.len;
      behind = sym (drop-drop n s.place.at src) ∙ (ap (drop n) h.is ∙ drop_at h.word h.rest n h.len);
    }

-- a defined name stands within its piece
named_within : (s : State) (from len : ℕ) (number : Literal) (w rest : List ℕ) → Takes s (Define from len number) w rest → from + len ≤ length w
named_within s from len number w rest h =
    let d = h.1 in
    let n : length w ≡ 7 + (length d.gap + (length d.name + (length d.space + length d.digits))) = ap length d.is ∙ simp length-append (omega arith) in
    omega (arith, n, d.begins, d.ends)

pub within_source : (src : List ℕ) (s : State) (f : Found) (n : ℕ) → Stood src s f n → IsWithin src s.place.at f
within_source src s (Define from len number) n h = let k = named_within s from len number h.word h.rest h.takes in omega (arith, k, h.len, h.within)
within_source src s Feed n h = tt
within_source src s Blank n h = tt
within_source src s Comment n h = tt
within_source src s Include n h = tt
within_source src s Pragma n h = tt
within_source src s (Taken k) n h = tt

pub mark_long : (src : List ℕ) (s : State) (f : Found) (n : ℕ) → Stood src s f n → f ≡ Pragma → 7 ≤ n
mark_long src s f n h e = let k = marked_long s h.word h.rest (subst (λ f. Takes s f h.word h.rest) e h.takes) in omega (arith, k, h.len)

-- what the code notes of a name is what the piece says
part_of : (from len : ℕ) (bytes word rest : List ℕ) → bytes ≡ word ++ rest → from + len ≤ length word → take len (drop from bytes) ≡ take len (drop from word)
part_of from len bytes word rest is le =
    let d : drop from bytes ≡ drop from word ++ rest = ap (drop from) is ∙ drop-append-le from word rest (omega arith) in
    ap (take len) d ∙ take-append-le len (drop from word) rest (omega (arith, length-drop from word))

pub known_is : (src : List ℕ) (s : State) (f : Found) (n : ℕ) (h : Stood src s f n) → known_from src s.place.at s.known f ≡ known_behind s.known f h.word
known_is src s (Define from len number) n h =
    let k = named_within s from len number h.word h.rest h.takes in
    let a : drop (s.place.at + from) src ≡ drop from (drop s.place.at src) = sym (drop-drop from s.place.at src) in
    ap (λ l. with_name l number s.known) (ap (take len) a ∙ part_of from len (drop s.place.at src) h.word h.rest h.is k)
known_is src s Feed n h = refl
known_is src s Blank n h = refl
known_is src s Comment n h = refl
known_is src s Include n h = refl
known_is src s Pragma n h = refl
known_is src s (Taken k) n h = refl

-- no line feed stands in a pragma's mark
mark_moves : (p : Place) → behind p (codes "#pragma") ≡ record { at = p.at + 7; line = p.line; col = p.col + 7 }
mark_moves p =
    let a : p.at + 1 + 1 + 1 + 1 + 1 + 1 + 1 ≡ p.at + 7 = omega arith in
    let c : p.col + 1 + 1 + 1 + 1 + 1 + 1 + 1 ≡ p.col + 7 = omega arith in
    λ i. record { at = a i; line = p.line; col = c i }

mark_taken : (s : State) (w rest : List ℕ) → Takes s Pragma w rest → take 7 w ≡ codes "#pragma"
mark_taken s w rest h = ap (take 7) h.1.is

-- the tokens with that of the piece
pub kept_is : (src : List ℕ) (s : State) (f : Found) (n : ℕ) (old : List Token) (h : Stood src s f n) → kept old s.place f n ≡ old ++ given s f h.word
kept_is src s (Taken k) n old h = ap (λ m. old ++ record { kind = k; start = s.place.at; len = m; line = s.place.line; col = s.place.col } ∷ []) (sym h.len)
kept_is src s Pragma n old h =
    let p : behind s.place (take 7 h.word) ≡ record { at = s.place.at + 7; line = s.place.line; col = s.place.col + 7 } = ap (behind s.place) (mark_taken s h.word h.rest h.takes) ∙ mark_moves s.place in
    let m : n - 7 ≡ length (drop 7 h.word) = ap (λ m. m - 7) (sym h.len) ∙ sym (length-drop 7 h.word) in
    ap (λ m. old ++ record { kind = kind.Pragma; start = s.place.at + 7; len = m; line = s.place.line; col = s.place.col + 7 } ∷ []) m
    ∙ ap (λ (q : Place). old ++ token_at q kind.Pragma (drop 7 h.word) ∷ []) (sym p)
kept_is src s Feed n old h = sym (append-nil old)
kept_is src s Blank n old h = sym (append-nil old)
kept_is src s Comment n old h = sym (append-nil old)
kept_is src s Include n old h = sym (append-nil old)
kept_is src s (Define from len number) n old h = sym (append-nil old)

-- the state behind the piece
pub record Moved (src : List ℕ) (s : State) (f : Found) (n : ℕ) (h : Stood src s f n) (q : State) : Type 0 where
  pub at : q.place.at ≡ s.place.at + n
  pub goes : q ≡ behind_piece s f h.word
  pub left : drop q.place.at src ≡ h.rest

pub moved : (src : List ℕ) (s : State) (f : Found) (n : ℕ) (h : Stood src s f n) (q : State) → q.place ≡ behind s.place (take n (drop s.place.at src)) → q.fresh ≡ fresh_behind s.fresh f → q.known ≡ known_from src s.place.at s.known f → Moved src s f n h q
moved src s f n h q p fresh known =
    let g : q.place ≡ behind s.place h.word = p ∙ ap (behind s.place) h.front in
    let k : q.known ≡ known_behind s.known f h.word = known ∙ known_is src s f n h in
    let a : q.place.at ≡ s.place.at + n = ap (λ (p : Place). p.at) g ∙ (at_behind s.place h.word ∙ ap (λ m. s.place.at + m) h.len) in
    record { at = a; goes = λ i. record { place = g i; fresh = fresh i; known = k i }; left = ap (λ m. drop m src) a ∙ h.behind }

pub step_tokens : (src : List ℕ) (s : State) (f : Found) (n : ℕ) (h : Stood src s f n) (q : State) (old new : List Token) → Moved src s f n h q → new ≡ kept old s.place f n → ((ts : List Token) → Pieces s (drop s.place.at src) ts → Pieces beginning src (old ++ ts)) → (ts : List Token) → Pieces q (drop q.place.at src) ts → Pieces beginning src (new ++ ts)
step_tokens src s f n h q old new m e inv ts p =
    let there : Pieces (behind_piece s f h.word) h.rest ts = subst (λ l. Pieces (behind_piece s f h.word) l ts) m.left (subst (λ q'. Pieces q' (drop q.place.at src) ts) m.goes p) in
    let whole = inv (given s f h.word ++ ts) (lexed.piece f h.word h.rest ts h.is h.takes refl there) in
    subst (Pieces beginning src) (sym (ap (λ l. l ++ ts) (e ∙ kept_is src s f n old h) ∙ append_assoc old (given s f h.word) ts)) whole

pub step_refused : (src : List ℕ) (s : State) (f : Found) (n : ℕ) (h : Stood src s f n) (q : State) → Moved src s f n h q → ((r : LexRefusal) → Refuses s (drop s.place.at src) r → Refuses beginning src r) → (r : LexRefusal) → Refuses q (drop q.place.at src) r → Refuses beginning src r
step_refused src s f n h q m inv r p =
    inv r (lexed.later f h.word h.rest h.is h.takes (subst (λ l. Refuses (behind_piece s f h.word) l r) m.left (subst (λ q'. Refuses q' (drop q.place.at src) r) m.goes p)))

-- bytes are left, and nothing is found
pub refused_here : (src : List ℕ) (s : State) → s.place.at < length src → piece_at s.fresh s.known (drop s.place.at src) ≡ None → Refuses s (drop s.place.at src) (record { line = s.place.line; col = s.place.col })
refused_here src s lt e = lexed.here (get_or src s.place.at 0) (drop (s.place.at + 1) src) (drop_more src s.place.at 0 lt) (front_none s (drop s.place.at src) e)

-- no bytes are left
pub all_taken : (src : List ℕ) (s : State) (old : List Token) → length src ≤ s.place.at → ((ts : List Token) → Pieces s (drop s.place.at src) ts → Pieces beginning src (old ++ ts)) → Pieces beginning src old
all_taken src s old le inv = subst (Pieces beginning src) (append-nil old) (inv [] (subst (λ l. Pieces s l []) (sym (drop_all s.place.at src le)) lexed.done))

-- a line and a column are no larger than the number of bytes before them, and one
small_behind : (p : Place) (bytes : List ℕ) → p.line ≤ p.at + 1 → p.col ≤ p.at + 1 → ((behind p bytes).line ≤ (behind p bytes).at + 1) × ((behind p bytes).col ≤ (behind p bytes).at + 1)
small_behind p [] l c = (l, c)
small_behind p (b ∷ bs) l c =
    small_behind (behind_byte p b) bs
    (bool_cases (λ t. cond t (p.line + 1) p.line ≤ p.at + 1 + 1) (nat_eq b 10) (λ _. omega arith) (λ _. omega arith))
    (bool_cases (λ t. cond t 1 (p.col + 1) ≤ p.at + 1 + 1) (nat_eq b 10) (λ _. omega arith) (λ _. omega arith))

pub small_place : (p q : Place) (bytes : List ℕ) → q ≡ behind p bytes → p.line ≤ p.at + 1 → p.col ≤ p.at + 1 → (q.line ≤ q.at + 1) × (q.col ≤ q.at + 1)
small_place p q bytes e l c = subst (λ (q : Place). (q.line ≤ q.at + 1) × (q.col ≤ q.at + 1)) (sym e) (small_behind p bytes l c)

-- what holds of an Ok holds where there is no error
pub on_ok : {T E P : Type 0} (r : Result T E) → OnOk r P → false ≡ is_err r → P
on_ok (Ok x) h e = h
on_ok (Err x) h e = cc
