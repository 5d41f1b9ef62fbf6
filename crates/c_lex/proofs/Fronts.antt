-- What stands at a place is found at the front.
use Rattle.std.proofs.Common.{◌≡◌, ℕ, suc, ◌+◌, Bool, true, false, cond, not, ◌&&◌, inl, inr, nat_eq, List, [], ◌∷◌, ◌++◌, length, take, drop, refl, sym, ap, ◌∙◌, arith, append_assoc, length-append, Option, Some, None, codes}
use Rattle.std.specs.Option.{option_map}
use Rattle.std.specs.Ordering.{int_eq}
use Rattle.std.proofs.lemmas.List.{take_at, drop_at}
use Rattle.std.proofs.lemmas.Bool.Decides.{nat_tests, Decides-int_eq}
use Rattle.c_lex.specs.declared.tokens.Kind.{Kind}
use Rattle.c_lex.specs.declared.tokens.Kind.TheVariants as kind
use Rattle.c_lex.specs.declared.tokens.Literal.{Literal}
use Rattle.c_lex.specs.declared.pieces.Found.{Found}
use Rattle.c_lex.specs.declared.pieces.Found.TheVariants.{Feed, Blank, Comment, Include, Define, Pragma, Taken}
use Rattle.c_lex.specs.declared.directives.Along.TheVariants.{Between}
use Rattle.c_lex.specs.declared.keys.Key.{Key}
use Rattle.c_lex.specs.declared.signs.Sign.{Sign}
use Rattle.c_lex.specs.Bytes.{is_gap, is_letter, is_digit, is_name_byte, is_line_byte, AllAre, Begins, Stops}
use Rattle.c_lex.specs.Defined.{Meanings}
use Rattle.c_lex.specs.Comments.{IsLineComment, IsBlockComment, opens_comment}
use Rattle.c_lex.specs.Directives.{IsWord, IsMarkedLine, IsDefine, Agrees}
use Rattle.c_lex.specs.Spellings.{key_spelling}
use Rattle.c_lex.specs.Lookups.{is_key, sign_at}
use Rattle.c_lex.specs.Words.{SpellsNumber}
use Rattle.c_lex.specs.Lexed.{State, Takes, IsText, IsLongestSign, IsName}
use Rattle.c_lex.specs.Front.{run, text_len, number_of, number_kind, name_kind, key_or, word_kind, is_line_over, word_at, number_found, number_at, text_found, sign_found, comment_found, slash_at, agrees, bool_eq, starts, value_found, value_at, numbered, define_agreed, define_named, define_at, directive_named, directive_at, other_from, other_at, piece_from, piece_at}
use Rattle.c_lex.proofs.Runs.{if_true, if_false, bool_cases, run_is, text_is, close_is}
use Rattle.c_lex.proofs.NumberFacts.{number_spelt}
use Rattle.c_lex.proofs.KeyFacts.{key_is, no_key_is, no_key_test}
use Rattle.c_lex.proofs.LineOver.{over_found}
use Rattle.c_lex.proofs.SignFacts.{is_clear, sign_clear, sign_some, sign_is}

-- words

word_run : (first : ℕ → Bool) (w rest : List ℕ) → IsWord first w rest → run is_name_byte (w ++ rest) ≡ length w
word_run first w rest h = run_is is_name_byte w rest h.all h.stops

word_taken : (first : ℕ → Bool) (w rest : List ℕ) → IsWord first w rest → take (run is_name_byte (w ++ rest)) (w ++ rest) ≡ w
word_taken first w rest h = take_at w rest _ (sym (word_run first w rest h))

word_found : (known : Meanings) (w rest : List ℕ) (k : Kind) → IsWord is_letter w rest → word_kind known w ≡ k → word_at known (w ++ rest) ≡ Some (Taken k, length w)
unfolding word_at
word_found known w rest k h e =
    ap (λ l. Some (Taken (word_kind known l), run is_name_byte (w ++ rest))) (word_taken is_letter w rest h)
    ∙ (ap (λ n. Some (Taken (word_kind known w), n)) (word_run is_letter w rest h) ∙ ap (λ k. Some (Taken k, length w)) e)

number_word : (w rest : List ℕ) (number : Literal) → IsWord is_digit w rest → SpellsNumber w number → number_at (w ++ rest) ≡ Some (Taken (number_kind number), length w)
unfolding number_at
number_word w rest number h s =
    ap (λ l. option_map (number_found (run is_name_byte (w ++ rest))) (number_of l)) (word_taken is_digit w rest h)
    ∙ (ap (λ m. option_map (number_found m) (number_of w)) (word_run is_digit w rest h) ∙ ap (option_map (number_found (length w))) (number_spelt w number s))

-- first bytes tell the kinds of pieces apart

module _ (fresh : Bool) (known : Meanings) where
  pub piece_feed : (cs : List ℕ) → piece_at fresh known (10 ∷ cs) ≡ Some (Feed, 1)
  unfolding piece_at piece_from
  piece_feed cs = refl

  pub piece_blank : (c : ℕ) (cs : List ℕ) → is_gap c ≡ true → piece_at fresh known (c ∷ cs) ≡ Some (Blank, 1)
  unfolding piece_at piece_from
  piece_blank c cs e = let n : nat_eq c 10 ≡ false = grind (arith, nat_tests) in if_false _ _ _ n ∙ if_true _ _ _ e

  pub piece_word : (c : ℕ) (cs : List ℕ) → is_letter c ≡ true → piece_at fresh known (c ∷ cs) ≡ word_at known (c ∷ cs)
  unfolding piece_at piece_from
  piece_word c cs e =
      let n : nat_eq c 10 ≡ false = grind (arith, nat_tests) in
      let g : is_gap c ≡ false = grind (arith, nat_tests) in
      if_false _ _ _ n ∙ (if_false _ _ _ g ∙ if_true _ _ _ e)

  pub piece_number : (c : ℕ) (cs : List ℕ) → is_digit c ≡ true → piece_at fresh known (c ∷ cs) ≡ number_at (c ∷ cs)
  unfolding piece_at piece_from
  piece_number c cs e =
      let n : nat_eq c 10 ≡ false = grind (arith, nat_tests) in
      let g : is_gap c ≡ false = grind (arith, nat_tests) in
      let l : is_letter c ≡ false = grind (arith, nat_tests) in
      if_false _ _ _ n ∙ (if_false _ _ _ g ∙ (if_false _ _ _ l ∙ if_true _ _ _ e))

  pub piece_text : (cs : List ℕ) → piece_at fresh known (34 ∷ cs) ≡ option_map text_found (text_len false cs)
  unfolding piece_at piece_from other_at other_from
  piece_text cs = refl

  pub piece_hash : (cs : List ℕ) → piece_at fresh known (35 ∷ cs) ≡ cond fresh (directive_at known cs) None
  unfolding piece_at piece_from other_at other_from
  piece_hash cs = refl

  pub piece_slash : (cs : List ℕ) → piece_at fresh known (47 ∷ cs) ≡ slash_at 47 cs
  unfolding piece_at piece_from other_at other_from
  piece_slash cs = refl

  slash_sign : (c : ℕ) (cs : List ℕ) → c ≡ 47 → opens_comment (c ∷ cs) ≡ false → slash_at c cs ≡ sign_found (sign_at (c ∷ cs))
  unfolding slash_at
  slash_sign c [] e o = refl
  slash_sign c (d ∷ ds) e o =
      let s : nat_eq d 47 ≡ false = grind (arith, nat_tests) in
      let t : nat_eq d 42 ≡ false = grind (arith, nat_tests) in
      if_false _ _ _ s ∙ if_false _ _ _ t

  pub piece_sign : (c : ℕ) (cs : List ℕ) → is_clear c ≡ true → opens_comment (c ∷ cs) ≡ false → piece_at fresh known (c ∷ cs) ≡ sign_found (sign_at (c ∷ cs))
  unfolding piece_at piece_from other_at other_from
  piece_sign c cs e o =
      let n : nat_eq c 10 ≡ false = grind (arith, nat_tests) in
      let g : is_gap c ≡ false = grind (arith, nat_tests) in
      let l : is_letter c ≡ false = grind (arith, nat_tests) in
      let d : is_digit c ≡ false = grind (arith, nat_tests) in
      let q : nat_eq c 34 ≡ false = grind (arith, nat_tests) in
      let h : nat_eq c 35 ≡ false = grind (arith, nat_tests) in
      if_false _ _ _ n ∙ (if_false _ _ _ g ∙ (if_false _ _ _ l ∙ (if_false _ _ _ d ∙ (if_false _ _ _ q ∙ (if_false _ _ _ h
      ∙ bool_cases (λ b. nat_eq c 47 ≡ b → cond b (slash_at c cs) (sign_found (sign_at (c ∷ cs))) ≡ sign_found (sign_at (c ∷ cs))) (nat_eq c 47) (λ _ s. let is : c ≡ 47 = grind (arith, nat_tests) in slash_sign c cs is o) (λ _ s. refl) refl)))))

-- directives

module _ (known : Meanings) where
  named : (mark tail : List ℕ) → AllAre is_name_byte mark → Stops is_name_byte tail → directive_at known (mark ++ tail) ≡ directive_named known mark (mark ++ tail)
  unfolding directive_at
  named mark tail all stops = ap (λ l. directive_named known l (mark ++ tail)) (take_at mark tail _ (sym (run_is is_name_byte mark tail all stops)))

  include_named : (tail : List ℕ) → directive_named known (codes "include") (codes "include" ++ tail) ≡ Some (Include, 8 + run is_line_byte tail)
  unfolding directive_named
  include_named tail = refl

  pragma_named : (tail : List ℕ) → directive_named known (codes "pragma") (codes "pragma" ++ tail) ≡ Some (Pragma, 7 + run is_line_byte tail)
  unfolding directive_named
  pragma_named tail = refl

  define_word : (tail : List ℕ) → directive_named known (codes "define") (codes "define" ++ tail) ≡ define_at known tail
  unfolding directive_named
  define_word tail = refl

  include_is : (line rest : List ℕ) → AllAre is_line_byte line → Stops is_line_byte rest → Stops is_name_byte (line ++ rest) → directive_at known (codes "include" ++ (line ++ rest)) ≡ Some (Include, 8 + length line)
  include_is line rest all stops whole =
      named (codes "include") (line ++ rest) (refl, (refl, (refl, (refl, (refl, (refl, (refl, tt))))))) whole
      ∙ (include_named (line ++ rest) ∙ ap (λ (n : ℕ). Some (Include, 8 + n)) (run_is is_line_byte line rest all stops))

  pragma_is : (line rest : List ℕ) → AllAre is_line_byte line → Stops is_line_byte rest → Stops is_name_byte (line ++ rest) → directive_at known (codes "pragma" ++ (line ++ rest)) ≡ Some (Pragma, 7 + length line)
  pragma_is line rest all stops whole =
      named (codes "pragma") (line ++ rest) (refl, (refl, (refl, (refl, (refl, (refl, tt)))))) whole
      ∙ (pragma_named (line ++ rest) ∙ ap (λ (n : ℕ). Some (Pragma, 7 + n)) (run_is is_line_byte line rest all stops))

bool_same : (b : Bool) → bool_eq b b ≡ true
bool_same true = refl
bool_same false = refl

agrees_is : (o : Option Literal) (number : Literal) → Agrees o number → agrees o number ≡ true
agrees_is None number h = refl
agrees_is (Some other) number h =
    let v : int_eq other.value number.value ≡ true = (Decides-int_eq other.value number.value).1 (ap (λ (x : Literal). x.value) h) in
    let l : bool_eq other.long number.long ≡ true = ap (λ (x : Literal). bool_eq other.long x.long) (sym h) ∙ bool_same other.long in
    ap (λ b. b && bool_eq other.long number.long) v ∙ l

begins_gap : (first : ℕ → Bool) → ((c : ℕ) → first c ≡ true → is_gap c ≡ false) → (w rest : List ℕ) → Begins first w → Stops is_gap (w ++ rest)
begins_gap first apart [] rest b = absurd b
begins_gap first apart (c ∷ w) rest b = apart c b

letter_gap : (c : ℕ) → is_letter c ≡ true → is_gap c ≡ false
letter_gap c e = grind (arith, nat_tests)

digit_gap : (c : ℕ) → is_digit c ≡ true → is_gap c ≡ false
digit_gap c e = grind (arith, nat_tests)

letter_starts : (w rest : List ℕ) → Begins is_letter w → starts is_letter (w ++ rest) ≡ true
letter_starts [] rest b = absurd b
letter_starts (c ∷ w) rest b = b

value_is : (space digits rest : List ℕ) (number : Literal) → AllAre is_gap space → IsWord is_digit digits rest → SpellsNumber digits number → is_line_over Between rest ≡ true → numbered (space ++ (digits ++ rest)) ≡ Some (number, length space + length digits)
unfolding numbered value_at
value_is space digits rest number blank h s over =
    ap (λ k. value_at k (drop k (space ++ (digits ++ rest)))) (run_is is_gap space (digits ++ rest) blank (begins_gap is_digit digit_gap digits rest h.begins))
    ∙ (ap (value_at (length space)) (drop_at space (digits ++ rest) (length space) refl)
    ∙ (ap (λ m. cond (is_line_over Between (drop m (digits ++ rest))) (option_map (value_found (length space + m)) (number_of (take m (digits ++ rest)))) None) (word_run is_digit digits rest h)
    ∙ (ap (λ l. cond (is_line_over Between l) (option_map (value_found (length space + length digits)) (number_of (take (length digits) (digits ++ rest)))) None) (drop_at digits rest (length digits) refl)
    ∙ (if_true _ _ _ over
    ∙ (ap (λ l. option_map (value_found (length space + length digits)) (number_of l)) (take_at digits rest (length digits) refl)
    ∙ ap (option_map (value_found (length space + length digits))) (number_spelt digits number s))))))

named_is : (known : Meanings) (g : ℕ) (name tail : List ℕ) (number : Literal) (k : ℕ) → IsWord is_letter name tail → is_key name ≡ false → numbered tail ≡ Some (number, k) → Agrees (known name) number → define_named known g (name ++ tail) ≡ Some (Define (7 + g) (length name) number, 7 + g + length name + k)
unfolding define_named define_agreed
named_is known g name tail number k h no_key value agrees' =
    let test : (starts is_letter (name ++ tail) && not (is_key (take (run is_name_byte (name ++ tail)) (name ++ tail)))) ≡ true = ap (λ b. b && not (is_key (take (run is_name_byte (name ++ tail)) (name ++ tail)))) (letter_starts name tail h.begins) ∙ (ap (λ l. not (is_key l)) (word_taken is_letter name tail h) ∙ ap not no_key) in
    if_true _ _ _ test
    ∙ (ap (λ m. define_agreed known g (take m (name ++ tail)) m (numbered (drop m (name ++ tail)))) (word_run is_letter name tail h)
    ∙ (ap (λ l. define_agreed known g l (length name) (numbered (drop (length name) (name ++ tail)))) (take_at name tail (length name) refl)
    ∙ (ap (λ l. define_agreed known g name (length name) (numbered l)) (drop_at name tail (length name) refl)
    ∙ (ap (define_agreed known g name (length name)) value ∙ if_true _ _ _ (agrees_is (known name) number agrees')))))

define_front : (known : Meanings) (gap tail : List ℕ) → AllAre is_gap gap → Stops is_gap tail → define_at known (gap ++ tail) ≡ define_named known (length gap) tail
unfolding define_at
define_front known gap tail blank stops =
    ap (λ k. define_named known k (drop k (gap ++ tail))) (run_is is_gap gap tail blank stops) ∙ ap (define_named known (length gap)) (drop_at gap tail (length gap) refl)

define_is : (known : Meanings) (w rest : List ℕ) (from len : ℕ) (number : Literal) → IsDefine known w rest from len number → (cs : List ℕ) → w ++ rest ≡ 35 ∷ cs → directive_at known cs ≡ Some (Define from len number, length w)
define_is known w rest from len number h cs is =
    let tail : List ℕ = h.name ++ (h.space ++ (h.digits ++ rest)) in
    let same : 35 ∷ cs ≡ 35 ∷ (codes "define" ++ (h.gap ++ tail)) = sym is ∙ (ap (λ l. l ++ rest) h.is ∙ simp append_assoc) in
    let e : cs ≡ codes "define" ++ (h.gap ++ tail) = ap (drop 1) same in
    let n : length w ≡ 7 + (length h.gap + (length h.name + (length h.space + length h.digits))) = ap length h.is ∙ simp length-append (omega arith) in
    ap (directive_at known) e
    ∙ (named known (codes "define") (h.gap ++ tail) (refl, (refl, (refl, (refl, (refl, (refl, tt)))))) h.whole
    ∙ (define_word known (h.gap ++ tail)
    ∙ (define_front known h.gap tail h.gap_blank (begins_gap is_letter letter_gap h.name (h.space ++ (h.digits ++ rest)) h.named.begins)
    ∙ (named_is known (length h.gap) h.name (h.space ++ (h.digits ++ rest)) number (length h.space + length h.digits) h.named (no_key_test h.name h.no_key) (value_is h.space h.digits rest number h.space_blank h.spelt h.spells (over_found rest h.over)) h.agrees
    ∙ (ap (λ a. Some (Define a (length h.name) number, 7 + length h.gap + length h.name + (length h.space + length h.digits))) (sym h.begins)
    ∙ (ap (λ a. Some (Define from a number, 7 + length h.gap + length h.name + (length h.space + length h.digits))) (sym h.ends)
    ∙ ap (λ a. Some (Define from len number, a)) (omega (arith, n))))))))

-- what stands at a place is found there

module _ (s : State) where
  word_front : (w rest : List ℕ) (k : Kind) → IsWord is_letter w rest → word_kind s.known w ≡ k → piece_at s.fresh s.known (w ++ rest) ≡ Some (Taken k, length w)
  word_front [] rest k h e = absurd h.begins
  word_front (c ∷ w) rest k h e = piece_word s.fresh s.known c (w ++ rest) h.begins ∙ word_found s.known (c ∷ w) rest k h e

  name_front : (w rest : List ℕ) (m : Option Literal) → IsName s.known w rest m → piece_at s.fresh s.known (w ++ rest) ≡ Some (Taken (name_kind m), length w)
  name_front w rest m h = word_front w rest (name_kind m) h.spelt (ap (key_or (name_kind (s.known w))) (no_key_is w h.no_key) ∙ ap name_kind h.means)

  number_front : (w rest : List ℕ) (number : Literal) → IsWord is_digit w rest → SpellsNumber w number → piece_at s.fresh s.known (w ++ rest) ≡ Some (Taken (number_kind number), length w)
  number_front [] rest number h n = absurd h.begins
  number_front (c ∷ w) rest number h n = piece_number s.fresh s.known c (w ++ rest) h.begins ∙ number_word (c ∷ w) rest number h n

  text_front : (w rest : List ℕ) → IsText w → piece_at s.fresh s.known (w ++ rest) ≡ Some (Taken kind.Text, length w)
  text_front w rest h =
      let e : w ++ rest ≡ 34 ∷ (h.body ++ 34 ∷ rest) = ap (λ l. l ++ rest) h.is ∙ simp append_assoc in
      let n : length w ≡ suc (suc (length h.body)) = ap length h.is ∙ simp length-append (omega arith) in
      ap (piece_at s.fresh s.known) e ∙ (piece_text s.fresh s.known (h.body ++ 34 ∷ rest) ∙ (ap (option_map text_found) (text_is rest h.holds) ∙ ap (λ n. Some (Taken kind.Text, n)) (sym n)))

  line_front : (w rest : List ℕ) → IsLineComment w rest → piece_at s.fresh s.known (w ++ rest) ≡ Some (Comment, length w)
  unfolding slash_at
  line_front w rest h =
      let n : length w ≡ suc (suc (length h.line)) = ap length h.is in
      ap (λ l. piece_at s.fresh s.known (l ++ rest)) h.is ∙ (piece_slash s.fresh s.known (47 ∷ (h.line ++ rest)) ∙ ap (λ n. Some (Comment, n)) (ap (λ (n : ℕ). 2 + n) (run_is is_line_byte h.line rest h.all h.stops) ∙ omega (arith, n)))

  block_front : (w rest : List ℕ) → IsBlockComment w → piece_at s.fresh s.known (w ++ rest) ≡ Some (Comment, length w)
  unfolding slash_at
  block_front w rest h =
      let e : w ++ rest ≡ 47 ∷ 42 ∷ (h.body ++ 42 ∷ 47 ∷ rest) = ap (λ l. l ++ rest) h.is ∙ simp append_assoc in
      let n : length w ≡ 4 + length h.body = ap length h.is ∙ simp length-append (omega arith) in
      ap (piece_at s.fresh s.known) e ∙ (piece_slash s.fresh s.known (42 ∷ (h.body ++ 42 ∷ 47 ∷ rest)) ∙ (ap (option_map comment_found) (close_is h.body rest h.next) ∙ ap (λ n. Some (Comment, n)) (omega (arith, n))))

  key_front : (w rest : List ℕ) (k : Key) → IsWord is_letter w rest → w ≡ key_spelling k → piece_at s.fresh s.known (w ++ rest) ≡ Some (Taken (kind.Key k), length w)
  key_front w rest k h e = word_front w rest (kind.Key k) h (ap (key_or (name_kind (s.known w))) (key_is w k e))

  sign_front : (w rest : List ℕ) (g : Sign) → IsLongestSign w rest g → piece_at s.fresh s.known (w ++ rest) ≡ Some (Taken (kind.Sign g), length w)
  sign_front [] rest g h = absurd (sign_some g h.spelt)
  sign_front (c ∷ w) rest g h = piece_sign s.fresh s.known c (w ++ rest) (sign_clear g c w h.spelt) h.outside ∙ ap sign_found (sign_is (c ∷ w) rest g h)

  blank_front : (w rest : List ℕ) (c : ℕ) → w ≡ c ∷ [] → is_gap c ≡ true → piece_at s.fresh s.known (w ++ rest) ≡ Some (Blank, length w)
  blank_front w rest c e g = ap (λ l. piece_at s.fresh s.known (l ++ rest)) e ∙ (piece_blank s.fresh s.known c rest g ∙ ap (λ l. Some (Blank, length l)) (sym e))

  fresh_front : (cs : List ℕ) → s.fresh ≡ true → piece_at s.fresh s.known (35 ∷ cs) ≡ directive_at s.known cs
  fresh_front cs f = piece_hash s.fresh s.known cs ∙ if_true _ _ _ f

  include_front : (w rest : List ℕ) → s.fresh ≡ true → IsMarkedLine (codes "#include") w rest → piece_at s.fresh s.known (w ++ rest) ≡ Some (Include, length w)
  include_front w rest f h =
      let e : w ++ rest ≡ 35 ∷ (codes "include" ++ (h.line ++ rest)) = ap (λ l. l ++ rest) h.is ∙ simp append_assoc in
      let n : length w ≡ 8 + length h.line = ap length h.is ∙ simp length-append (omega arith) in
      ap (piece_at s.fresh s.known) e ∙ (fresh_front (codes "include" ++ (h.line ++ rest)) f ∙ (include_is s.known h.line rest h.all h.stops h.whole ∙ ap (λ n. Some (Include, n)) (sym n)))

  pragma_front : (w rest : List ℕ) → s.fresh ≡ true → IsMarkedLine (codes "#pragma") w rest → piece_at s.fresh s.known (w ++ rest) ≡ Some (Pragma, length w)
  pragma_front w rest f h =
      let e : w ++ rest ≡ 35 ∷ (codes "pragma" ++ (h.line ++ rest)) = ap (λ l. l ++ rest) h.is ∙ simp append_assoc in
      let n : length w ≡ 7 + length h.line = ap length h.is ∙ simp length-append (omega arith) in
      ap (piece_at s.fresh s.known) e ∙ (fresh_front (codes "pragma" ++ (h.line ++ rest)) f ∙ (pragma_is s.known h.line rest h.all h.stops h.whole ∙ ap (λ n. Some (Pragma, n)) (sym n)))

  define_found : (w rest : List ℕ) (from len : ℕ) (number : Literal) → s.fresh ≡ true → IsDefine s.known w rest from len number → piece_at s.fresh s.known (w ++ rest) ≡ Some (Define from len number, length w)
  define_found w rest from len number f h =
      let e : w ++ rest ≡ 35 ∷ (codes "define" ++ ((h.gap ++ (h.name ++ (h.space ++ h.digits))) ++ rest)) = ap (λ l. l ++ rest) h.is in
      ap (piece_at s.fresh s.known) e ∙ (fresh_front (codes "define" ++ ((h.gap ++ (h.name ++ (h.space ++ h.digits))) ++ rest)) f ∙ define_is s.known w rest from len number h _ e)

pub front_is : (s : State) (f : Found) (w rest : List ℕ) → Takes s f w rest → piece_at s.fresh s.known (w ++ rest) ≡ Some (f, length w)
front_is s Feed w rest h = ap (λ l. piece_at s.fresh s.known (l ++ rest)) h ∙ (piece_feed s.fresh s.known rest ∙ ap (λ l. Some (Feed, length l)) (sym h))
front_is s Blank w rest h = blank_front s w rest h.0 h.1 h.2
front_is s Comment w rest (inl h) = line_front s w rest h
front_is s Comment w rest (inr h) = block_front s w rest h
front_is s Include w rest h = include_front s w rest h.0 h.1
front_is s (Define from len number) w rest h = define_found s w rest from len number h.0 h.1
front_is s Pragma w rest h = pragma_front s w rest h.0 h.1
front_is s (Taken kind.Name) w rest h = name_front s w rest None h
front_is s (Taken (kind.Key k)) w rest h = key_front s w rest k h.0 h.1
front_is s (Taken (kind.Number v long)) w rest (inl h) = number_front s w rest (record { value = v; long = long }) h.0 h.1
front_is s (Taken (kind.Number v long)) w rest (inr h) = name_front s w rest (Some (record { value = v; long = long })) h
front_is s (Taken kind.Text) w rest h = text_front s w rest h
front_is s (Taken (kind.Sign g)) w rest h = sign_front s w rest g h
front_is s (Taken kind.Pragma) w rest h = absurd h
