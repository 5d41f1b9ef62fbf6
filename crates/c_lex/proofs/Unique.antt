-- A source has at most one list of tokens, and none where it is refused.
use Rattle.std.proofs.Common.{◌≡◌, ℕ, List, [], ◌∷◌, ◌++◌, length, take, drop, refl, sym, ap, ◌∙◌, subst, Option, Some, None}
use Rattle.std.proofs.lemmas.List.{take_at, drop_at}
use Rattle.c_lex.specs.declared.tokens.Token.{Token}
use Rattle.c_lex.specs.declared.tokens.LexRefusal.{LexRefusal}
use Rattle.c_lex.specs.declared.pieces.Found.{Found}
use Rattle.c_lex.specs.Lexed.{State, Takes, NoPiece, Pieces, Refuses, behind_piece, given}
use Rattle.c_lex.specs.Lexed as lexed
use Rattle.c_lex.specs.Front.{piece_at}
use Rattle.c_lex.proofs.Fronts.{front_is}
use Rattle.c_lex.proofs.Stands.{front_stands}

-- the tokens of bytes, by what is found at their front
abbrev View : State → List ℕ → Option (Found × ℕ) → List Token → Type 0
View s bytes None ts = (bytes ≡ []) × (ts ≡ [])
View s bytes (Some (f, n)) ts = (us : List Token) × (ts ≡ given s f (take n bytes) ++ us) × Pieces (behind_piece s f (take n bytes)) (drop n bytes) us

word_front : (bytes word rest : List ℕ) → bytes ≡ word ++ rest → take (length word) bytes ≡ word
word_front bytes word rest is = ap (take (length word)) is ∙ take_at word rest _ refl

word_behind : (bytes word rest : List ℕ) → bytes ≡ word ++ rest → drop (length word) bytes ≡ rest
word_behind bytes word rest is = ap (drop (length word)) is ∙ drop_at word rest _ refl

found : (s : State) (f : Found) (bytes word rest : List ℕ) → bytes ≡ word ++ rest → Takes s f word rest → piece_at s.fresh s.known bytes ≡ Some (f, length word)
found s f bytes word rest is t = ap (piece_at s.fresh s.known) is ∙ front_is s f word rest t

-- what a view of known bytes says
seen : (s : State) (f : Found) (bytes word rest : List ℕ) (ts : List Token) → bytes ≡ word ++ rest → View s bytes (Some (f, length word)) ts → (us : List Token) × (ts ≡ given s f word ++ us) × Pieces (behind_piece s f word) rest us
seen s f bytes word rest ts is v =
    let w = word_front bytes word rest is in
    let d = word_behind bytes word rest is in
    (v.0, v.1 ∙ ap (λ w. given s f w ++ v.0) w, subst (λ w. Pieces (behind_piece s f w) rest v.0) w (subst (λ l. Pieces (behind_piece s f (take (length word) bytes)) l v.0) d v.2))

view : {s : State} {bytes : List ℕ} {ts : List Token} → Pieces s bytes ts → View s bytes (piece_at s.fresh s.known bytes) ts
unfolding piece_at
view lexed.done = (refl, refl)
view (lexed.piece {s} {bytes} {ts} f word rest us is t e h) =
    let w = word_front bytes word rest is in
    let d = word_behind bytes word rest is in
    subst (λ o. View s bytes o ts) (sym (found s f bytes word rest is t))
    (us, e ∙ ap (λ w. given s f w ++ us) (sym w), subst (λ l. Pieces (behind_piece s f (take (length word) bytes)) l us) (sym d) (subst (λ w. Pieces (behind_piece s f w) rest us) (sym w) h))

-- the tokens of bytes at whose front a piece stands
begun : (s : State) (f : Found) (bytes word rest : List ℕ) (ts : List Token) → bytes ≡ word ++ rest → Takes s f word rest → Pieces s bytes ts → (us : List Token) × (ts ≡ given s f word ++ us) × Pieces (behind_piece s f word) rest us
begun s f bytes word rest ts is t h = seen s f bytes word rest ts is (subst (λ o. View s bytes o ts) (found s f bytes word rest is t) (view h))

none_left : (s : State) (us : List Token) → Pieces s [] us → us ≡ []
unfolding piece_at
none_left s us h = (view h).1

pub same_tokens : {s : State} {bytes : List ℕ} {ts us : List Token} → Pieces s bytes ts → Pieces s bytes us → us ≡ ts
same_tokens {us = us} (lexed.done {s}) g = none_left s us g
same_tokens {us = us} (lexed.piece {s} {bytes} {ts} f word rest vs is t e h) g =
    let v = begun s f bytes word rest us is t g in
    v.1 ∙ (ap (λ l. given s f word ++ l) (same_tokens h v.2) ∙ sym e)

nothing_found : (s : State) (bytes : List ℕ) (o : Option (Found × ℕ)) → piece_at s.fresh s.known bytes ≡ o → NoPiece s bytes → o ≡ None
nothing_found s bytes None e h = refl
nothing_found s bytes (Some (f, n)) e h = let t = front_stands s bytes f n e in absurd (h f t.word t.rest t.is t.takes)

pub none_refused : {s : State} {bytes : List ℕ} {r : LexRefusal} {ts : List Token} → Refuses s bytes r → Pieces s bytes ts → ⊥
none_refused {ts = ts} (lexed.here {s} {bytes} c cs is nothing) g =
    let v = subst (λ o. View s bytes o ts) (nothing_found s bytes (piece_at s.fresh s.known bytes) refl nothing) (view g) in
    let e : c ∷ cs ≡ [] = sym is ∙ v.0 in cc
none_refused {ts = ts} (lexed.later {s} {bytes} f word rest is t h) g = none_refused h (begun s f bytes word rest ts is t g).2

-- the refusal of bytes, by what is found at their front
abbrev RefusalView : State → List ℕ → Option (Found × ℕ) → LexRefusal → Type 0
RefusalView s bytes None r = r ≡ record { line = s.place.line; col = s.place.col }
RefusalView s bytes (Some (f, n)) r = Refuses (behind_piece s f (take n bytes)) (drop n bytes) r

refusal_view : {s : State} {bytes : List ℕ} {r : LexRefusal} → Refuses s bytes r → RefusalView s bytes (piece_at s.fresh s.known bytes) r
refusal_view (lexed.here {s} {bytes} c cs is nothing) =
    subst (λ o. RefusalView s bytes o (record { line = s.place.line; col = s.place.col })) (sym (nothing_found s bytes (piece_at s.fresh s.known bytes) refl nothing)) refl
refusal_view (lexed.later {s} {bytes} {r} f word rest is t h) =
    let w = word_front bytes word rest is in
    let d = word_behind bytes word rest is in
    subst (λ o. RefusalView s bytes o r) (sym (found s f bytes word rest is t))
    (subst (λ l. Refuses (behind_piece s f (take (length word) bytes)) l r) (sym d) (subst (λ w. Refuses (behind_piece s f w) rest r) (sym w) h))

-- the refusal of bytes at whose front a piece stands
refused_behind : (s : State) (f : Found) (bytes word rest : List ℕ) (r : LexRefusal) → bytes ≡ word ++ rest → Takes s f word rest → Refuses s bytes r → Refuses (behind_piece s f word) rest r
refused_behind s f bytes word rest r is t h =
    let w = word_front bytes word rest is in
    let d = word_behind bytes word rest is in
    let v = subst (λ o. RefusalView s bytes o r) (found s f bytes word rest is t) (refusal_view h) in
    subst (λ w. Refuses (behind_piece s f w) rest r) w (subst (λ l. Refuses (behind_piece s f (take (length word) bytes)) l r) d v)

-- a source is refused at one place
pub same_refusal : {s : State} {bytes : List ℕ} {r q : LexRefusal} → Refuses s bytes r → Refuses s bytes q → r ≡ q
same_refusal {q = q} (lexed.here {s} {bytes} c cs is nothing) g =
    sym (subst (λ o. RefusalView s bytes o q) (nothing_found s bytes (piece_at s.fresh s.known bytes) refl nothing) (refusal_view g))
same_refusal {q = q} (lexed.later {s} {bytes} {r} f word rest is t h) g = same_refusal h (refused_behind s f bytes word rest q is t g)
