-- What is found at the front stands there.
use Rattle.std.proofs.Common.{◌≡◌, ℕ, suc, ◌+◌, ◌<◌, Bool, true, false, cond, not, ◌&&◌, ◌||◌, inl, inr, nat_eq, List, [], ◌∷◌, ◌++◌, length, take, drop, refl, sym, ap, ◌∙◌, subst, arith, append_assoc, length-append, Option, Some, None, codes}
use Rattle.std.specs.Option.{option_map}
use Rattle.std.specs.Ordering.{int_eq}
use Rattle.std.specs.Str.{bytes_eq}
use Rattle.std.proofs.lemmas.Slice.Eq.{bytes_eq-Decides}
use Rattle.std.proofs.lemmas.Bool.Decides.{nat_tests, Decides-int_eq}
use Rattle.c_lex.specs.declared.tokens.Kind.{Kind}
use Rattle.c_lex.specs.declared.tokens.Kind.TheVariants as kind
use Rattle.c_lex.specs.declared.tokens.Literal.{Literal}
use Rattle.c_lex.specs.declared.pieces.Found.{Found}
use Rattle.c_lex.specs.declared.pieces.Found.TheVariants.{Feed, Blank, Comment, Include, Define, Pragma, Taken}
use Rattle.c_lex.specs.declared.directives.Along.TheVariants.{Between}
use Rattle.c_lex.specs.declared.keys.Key.{Key}
use Rattle.c_lex.specs.declared.signs.Sign.{Sign}
use Rattle.c_lex.specs.Bytes.{is_gap, is_letter, is_digit, is_name_byte, is_line_byte, AllAre, Begins, Stops}
use Rattle.c_lex.specs.Defined.{Meanings}
use Rattle.c_lex.specs.Comments.{opens_comment, IsLineOver}
use Rattle.c_lex.specs.Directives.{IsWord, Agrees}
use Rattle.c_lex.specs.Spellings.{sign_spelling, IsNoKey}
use Rattle.c_lex.specs.Lookups.{key_of, is_key, sign_at}
use Rattle.c_lex.specs.Words.{SpellsNumber}
use Rattle.c_lex.specs.Lexed.{State, Takes, NoPiece}
use Rattle.c_lex.specs.Front.{run, text_len, close_len, number_of, number_kind, name_kind, key_or, is_line_over, word_at, number_found, number_at, text_found, sign_found, comment_found, slash_at, agrees, bool_eq, starts, value_found, value_at, numbered, define_agreed, define_named, define_at, directive_named, directive_at, other_from, other_at, piece_from, piece_at}
use Rattle.c_lex.proofs.Runs.{if_true, bool_cases, cut, text_ends, close_ends}
use Rattle.c_lex.proofs.NumberFacts.{spells, spells_begins, map_some}
use Rattle.c_lex.proofs.KeyFacts.{key_spelt, no_key_stands, test_no_key}
use Rattle.c_lex.proofs.LineOver.{over_stands}
use Rattle.c_lex.proofs.SignFacts.{sign_stands, sign_some, and_parts}
use Rattle.c_lex.proofs.Fronts.{front_is}

pub record Stands (s : State) (bytes : List ℕ) (f : Found) (n : ℕ) : Type 0 where
  pub word : List ℕ
  pub rest : List ℕ
  pub is : bytes ≡ word ++ rest
  pub len : length word ≡ n
  pub some : 0 < n
  pub takes : Takes s f word rest

move : {s : State} {bytes : List ℕ} {f g : Found} {m n : ℕ} → Stands s bytes f m → ◌≡◌ {A = Option (Found × ℕ)} (Some (f, m)) (Some (g, n)) → Stands s bytes g n
move {s} {bytes} {f} {g} {m} {n} h e =
    let q : ◌≡◌ {A = Found × ℕ} (f, m) (g, n) = cc in
    let k : f ≡ g = ap (λ (x : Found × ℕ). x.0) q in
    let l : m ≡ n = ap (λ (x : Found × ℕ). x.1) q in
    subst (λ g. Stands s bytes g n) k (subst (λ n. Stands s bytes f n) l h)

-- the word of letters, digits and underscores at the front
word_cut : (first : ℕ → Bool) → ((c : ℕ) → first c ≡ true → is_name_byte c ≡ true) → (bytes : List ℕ) → starts first bytes ≡ true → IsWord first (take (run is_name_byte bytes) bytes) (drop (run is_name_byte bytes) bytes) × (0 < run is_name_byte bytes)
word_cut first inner [] e = cc
word_cut first inner (c ∷ cs) e =
    let h = cut is_name_byte (c ∷ cs) in
    let one : run is_name_byte (c ∷ cs) ≡ suc (run is_name_byte cs) = if_true _ _ _ (inner c e) in
    (record { begins = subst (λ k. Begins first (take k (c ∷ cs))) (sym one) e; all = h.all; stops = h.stops }, omega (arith, one))

letter_name : (c : ℕ) → is_letter c ≡ true → is_name_byte c ≡ true
letter_name c e = grind (arith, nat_tests)

digit_name : (c : ℕ) → is_digit c ≡ true → is_name_byte c ≡ true
digit_name c e = grind (arith, nat_tests)

module _ (s : State) where
  stands_word : (c : ℕ) (cs : List ℕ) (f : Found) (n : ℕ) → is_letter c ≡ true → word_at s.known (c ∷ cs) ≡ Some (f, n) → Stands s (c ∷ cs) f n
  unfolding word_at
  stands_word c cs f n e g =
      let h = cut is_name_byte (c ∷ cs) in
      let w = word_cut is_letter letter_name (c ∷ cs) e in
      let word : List ℕ = take (run is_name_byte (c ∷ cs)) (c ∷ cs) in
      let rest : List ℕ = drop (run is_name_byte (c ∷ cs)) (c ∷ cs) in
      let made : (k : Kind) → Takes s (Taken k) word rest → Stands s (c ∷ cs) (Taken k) (run is_name_byte (c ∷ cs)) = λ k t. record { word = word; rest = rest; is = h.is; len = h.len; some = w.1; takes = t } in
      move (by_key word rest made w.0 (key_of word) refl) g
    where
      by_meaning : (word rest : List ℕ) → ((k : Kind) → Takes s (Taken k) word rest → Stands s (c ∷ cs) (Taken k) (run is_name_byte (c ∷ cs))) → IsNoKey word → IsWord is_letter word rest → (o : Option Literal) → s.known word ≡ o → Stands s (c ∷ cs) (Taken (name_kind o)) (run is_name_byte (c ∷ cs))
      by_meaning word rest made k w None m = made kind.Name (record { spelt = w; no_key = k; means = m })
      by_meaning word rest made k w (Some number) m = made (kind.Number number.value number.long) (inr (record { spelt = w; no_key = k; means = m }))

      by_key : (word rest : List ℕ) → ((k : Kind) → Takes s (Taken k) word rest → Stands s (c ∷ cs) (Taken k) (run is_name_byte (c ∷ cs))) → IsWord is_letter word rest → (o : Option Key) → key_of word ≡ o → Stands s (c ∷ cs) (Taken (key_or (name_kind (s.known word)) o)) (run is_name_byte (c ∷ cs))
      by_key word rest made w None e = by_meaning word rest made (no_key_stands word e) w (s.known word) refl
      by_key word rest made w (Some k) e = made (kind.Key k) (w, key_spelt word k e)

  stands_number : (c : ℕ) (cs : List ℕ) (f : Found) (n : ℕ) → is_digit c ≡ true → number_at (c ∷ cs) ≡ Some (f, n) → Stands s (c ∷ cs) f n
  unfolding number_at
  stands_number c cs f n e g =
      let h = cut is_name_byte (c ∷ cs) in
      let w = word_cut is_digit digit_name (c ∷ cs) e in
      let word : List ℕ = take (run is_name_byte (c ∷ cs)) (c ∷ cs) in
      let m = map_some (number_found (run is_name_byte (c ∷ cs))) (number_of word) (f, n) g in
      let stands : Stands s (c ∷ cs) (Taken (number_kind m.0)) (run is_name_byte (c ∷ cs)) = record { word = word; rest = drop (run is_name_byte (c ∷ cs)) (c ∷ cs); is = h.is; len = h.len; some = w.1; takes = inl (w.0, spells word m.0 m.1) } in
      move stands (ap (λ (x : Found × ℕ). Some x) m.2)

  stands_text : (c : ℕ) (cs : List ℕ) (f : Found) (n : ℕ) → c ≡ 34 → option_map text_found (text_len false cs) ≡ Some (f, n) → Stands s (c ∷ cs) f n
  stands_text c cs f n e g =
      let m = map_some text_found (text_len false cs) (f, n) g in
      let t = text_ends false cs m.0 m.1 in
      let stands : Stands s (c ∷ cs) (Taken kind.Text) (suc m.0) = record {
        word = 34 ∷ (t.body ++ 34 ∷ []);
        rest = t.rest;
        is = ap (λ x. x ∷ cs) e ∙ (ap (λ l. 34 ∷ l) t.is ∙ simp append_assoc);
        len = ap suc (simp length-append (omega (arith, t.len)));
        some = omega arith;
        takes = record { body = t.body; is = refl; holds = t.holds };
      } in
      move stands (ap (λ (x : Found × ℕ). Some x) m.2)

  stands_sign : (c : ℕ) (cs : List ℕ) (f : Found) (n : ℕ) → opens_comment (c ∷ cs) ≡ false → (o : Option (Sign × ℕ)) → sign_at (c ∷ cs) ≡ o → sign_found o ≡ Some (f, n) → Stands s (c ∷ cs) f n
  stands_sign c cs f n outside None e g = cc
  stands_sign c cs f n outside (Some (sign, m)) e g =
      let t = sign_stands (c ∷ cs) sign m e in
      move (record {
        word = sign_spelling sign;
        rest = t.rest;
        is = t.is;
        len = t.len;
        some = not_empty sign t.rest t.is t.len;
        takes = record { spelt = refl; outside = subst (λ l. opens_comment l ≡ false) t.is outside; longest = λ other behind is. t.longest other behind (t.is ∙ is) };
      }) g
    where
      not_empty : (sign : Sign) (rest : List ℕ) {m : ℕ} → c ∷ cs ≡ sign_spelling sign ++ rest → length (sign_spelling sign) ≡ m → 0 < m
      not_empty sign rest {m} is len = some_left (sign_spelling sign) refl
        where
          some_left : (w : List ℕ) → sign_spelling sign ≡ w → 0 < m
          some_left [] q = absurd (sign_some sign (sym q))
          some_left (d ∷ w) q = omega (arith, ap length q, len)

  stands_line : (c : ℕ) (ds : List ℕ) → c ≡ 47 → (d : ℕ) → d ≡ 47 → Stands s (c ∷ d ∷ ds) Comment (2 + run is_line_byte ds)
  stands_line c ds e d g =
      let h = cut is_line_byte ds in
      record {
        word = 47 ∷ 47 ∷ take (run is_line_byte ds) ds;
        rest = drop (run is_line_byte ds) ds;
        is = ap (λ c. c ∷ d ∷ ds) e ∙ (ap (λ d. 47 ∷ d ∷ ds) g ∙ ap (λ l. 47 ∷ 47 ∷ l) h.is);
        len = omega (arith, h.len);
        some = omega arith;
        takes = inl (record { line = take (run is_line_byte ds) ds; is = refl; all = h.all; stops = h.stops });
      }

  stands_block : (c : ℕ) (ds : List ℕ) → c ≡ 47 → (d : ℕ) → d ≡ 42 → (n : ℕ) → close_len false ds ≡ Some n → Stands s (c ∷ d ∷ ds) Comment (2 + n)
  stands_block c ds e d g n found =
      let h = close_ends false ds n found in
      record {
        word = 47 ∷ 42 ∷ (h.body ++ 42 ∷ 47 ∷ []);
        rest = h.rest;
        is = ap (λ c. c ∷ d ∷ ds) e ∙ (ap (λ d. 47 ∷ d ∷ ds) g ∙ (ap (λ l. 47 ∷ 42 ∷ l) h.is ∙ simp append_assoc));
        len = simp length-append (omega (arith, h.len));
        some = omega arith;
        takes = inr (record { body = h.body; is = refl; next = h.next });
      }

  stands_slash : (c : ℕ) (cs : List ℕ) (f : Found) (n : ℕ) → c ≡ 47 → slash_at c cs ≡ Some (f, n) → Stands s (c ∷ cs) f n
  unfolding slash_at
  stands_slash c [] f n e g = stands_sign c [] f n refl (sign_at (c ∷ [])) refl g
  stands_slash c (d ∷ ds) f n e g = bool_cases (λ b. nat_eq d 47 ≡ b → cond b (Some (Comment, 2 + run is_line_byte ds)) (cond (nat_eq d 42) (option_map comment_found (close_len false ds)) (sign_found (sign_at (c ∷ d ∷ ds)))) ≡ Some (f, n) → Stands s (c ∷ d ∷ ds) f n) (nat_eq d 47)
      (λ _ t h. let q : d ≡ 47 = grind (arith, nat_tests) in move (stands_line c ds e d q) h)
      (λ _ t h. bool_cases (λ b. nat_eq d 42 ≡ b → cond b (option_map comment_found (close_len false ds)) (sign_found (sign_at (c ∷ d ∷ ds))) ≡ Some (f, n) → Stands s (c ∷ d ∷ ds) f n) (nat_eq d 42)
      (λ _ u i. let q : d ≡ 42 = grind (arith, nat_tests) in let m = map_some comment_found (close_len false ds) (f, n) i in move (stands_block c ds e d q m.0 m.1) (ap (λ (x : Found × ℕ). Some x) m.2))
      (λ _ u i. let o : (nat_eq c 47 && (nat_eq d 47 || nat_eq d 42)) ≡ false = ap (λ b. nat_eq c 47 && (b || nat_eq d 42)) t ∙ (ap (λ b. nat_eq c 47 && b) u ∙ and_false (nat_eq c 47)) in stands_sign c (d ∷ ds) f n o (sign_at (c ∷ d ∷ ds)) refl i)
      refl h)
      refl g
    where
      and_false : (b : Bool) → (b && false) ≡ false
      and_false true = refl
      and_false false = refl

-- directives

bool_is : (a b : Bool) → bool_eq a b ≡ true → a ≡ b
bool_is true true e = refl
bool_is true false e = cc
bool_is false true e = cc
bool_is false false e = refl

agrees_stands : (o : Option Literal) (number : Literal) → agrees o number ≡ true → Agrees o number
agrees_stands None number e = tt
agrees_stands (Some other) number e =
    let parts = and_parts (int_eq other.value number.value) (bool_eq other.long number.long) e in
    let v : other.value ≡ number.value = (Decides-int_eq other.value number.value).0 parts.0 in
    let l : other.long ≡ number.long = bool_is other.long number.long parts.1 in
    λ i. record { value = v i; long = l i }

record Value (bytes : List ℕ) (number : Literal) (k : ℕ) : Type 0 where
  space : List ℕ
  digits : List ℕ
  rest : List ℕ
  is : bytes ≡ space ++ (digits ++ rest)
  blank : AllAre is_gap space
  spelt : IsWord is_digit digits rest
  spells : SpellsNumber digits number
  over : IsLineOver rest
  len : length space + length digits ≡ k

value_stands : (space rest : List ℕ) (n : ℕ) → length space ≡ n → AllAre is_gap space → (number : Literal) (k : ℕ) → value_at n rest ≡ Some (number, k) → Value (space ++ rest) number k
unfolding value_at
value_stands space rest n len blank number k e =
    let h = cut is_name_byte rest in
    let word : List ℕ = take (run is_name_byte rest) rest in
    bool_cases (λ b. is_line_over Between (drop (run is_name_byte rest) rest) ≡ b → cond b (option_map (value_found (n + run is_name_byte rest)) (number_of word)) None ≡ Some (number, k) → Value (space ++ rest) number k) (is_line_over Between (drop (run is_name_byte rest) rest))
    (λ _ over g.
    let m = map_some (value_found (n + run is_name_byte rest)) (number_of word) (number, k) g in
    let same : m.0 ≡ number = ap (λ (x : Literal × ℕ). x.0) m.2 in
    let size : n + run is_name_byte rest ≡ k = ap (λ (x : Literal × ℕ). x.1) m.2 in
    let sp : SpellsNumber word number = subst (SpellsNumber word) same (spells word m.0 m.1) in
    record { space = space; digits = word; rest = drop (run is_name_byte rest) rest; is = ap (λ l. space ++ l) h.is; blank = blank; spelt = record { begins = spells_begins word number sp; all = h.all; stops = h.stops }; spells = sp; over = over_stands _ over; len = omega (arith, len, h.len, size) })
    (λ _ over g. cc) refl e

numbered_stands : (bytes : List ℕ) (number : Literal) (k : ℕ) → numbered bytes ≡ Some (number, k) → Value bytes number k
unfolding numbered
numbered_stands bytes number k e =
    let h = cut is_gap bytes in
    subst (λ l. Value l number k) (sym h.is) (value_stands (take (run is_gap bytes) bytes) (drop (run is_gap bytes) bytes) (run is_gap bytes) h.len h.all number k e)

record AgreedSome (known : Meanings) (g : ℕ) (name : List ℕ) (len : ℕ) (o : Option (Literal × ℕ)) (f : Found) (n : ℕ) : Type 0 where
  number : Literal
  k : ℕ
  is : ◌≡◌ {A = Option (Literal × ℕ)} o (Some (number, k))
  agrees : Agrees (known name) number
  found : Define (7 + g) len number ≡ f
  size : 7 + g + len + k ≡ n

agreed_some : (known : Meanings) (g : ℕ) (name : List ℕ) (len : ℕ) (o : Option (Literal × ℕ)) (f : Found) (n : ℕ) → define_agreed known g name len o ≡ Some (f, n) → AgreedSome known g name len o f n
unfolding define_agreed
agreed_some known g name len None f n e = cc
agreed_some known g name len (Some (number, k)) f n e = bool_cases (λ b. agrees (known name) number ≡ b → ◌≡◌ {A = Option (Found × ℕ)} (cond {A = Option (Found × ℕ)} b (Some (Define (7 + g) len number, 7 + g + len + k)) None) (Some (f, n)) → AgreedSome known g name len (Some (number, k)) f n) (agrees (known name) number)
    (λ _ a h. let q : ◌≡◌ {A = Found × ℕ} (Define (7 + g) len number, 7 + g + len + k) (f, n) = cc in record { number = number; k = k; is = refl; agrees = agrees_stands (known name) number a; found = ap (λ (x : Found × ℕ). x.0) q; size = ap (λ (x : Found × ℕ). x.1) q })
    (λ _ a h. cc) refl e

not_is : (b : Bool) → not b ≡ true → b ≡ false
not_is true e = cc
not_is false e = refl

module _ (s : State) (fresh : s.fresh ≡ true) where
  stands_named : (gap bytes : List ℕ) (g : ℕ) (f : Found) (n : ℕ) → length gap ≡ g → AllAre is_gap gap → Stops is_name_byte (gap ++ bytes) → define_named s.known g bytes ≡ Some (f, n) → Stands s (35 ∷ (codes "define" ++ (gap ++ bytes))) f n
  unfolding define_named
  stands_named gap bytes g f n len blank whole e =
      let m : ℕ = run is_name_byte bytes in
      let h = cut is_name_byte bytes in
      let name : List ℕ = take m bytes in
      bool_cases (λ b. (starts is_letter bytes && not (is_key name)) ≡ b → cond b (define_agreed s.known g name m (numbered (drop m bytes))) None ≡ Some (f, n) → Stands s (35 ∷ (codes "define" ++ (gap ++ bytes))) f n) (starts is_letter bytes && not (is_key name))
      (λ _ t q.
      let parts = and_parts (starts is_letter bytes) (not (is_key name)) t in
      let w = word_cut is_letter letter_name bytes parts.0 in
      let a = agreed_some s.known g name m (numbered (drop m bytes)) f n q in
      let v = numbered_stands (drop m bytes) a.number a.k a.is in
      let tail : bytes ≡ name ++ (v.space ++ (v.digits ++ v.rest)) = h.is ∙ ap (λ l. name ++ l) v.is in
      subst (λ f. Stands s (35 ∷ (codes "define" ++ (gap ++ bytes))) f n) a.found (record {
        word = 35 ∷ (codes "define" ++ (gap ++ (name ++ (v.space ++ v.digits))));
        rest = v.rest;
        is = ap (λ l. 35 ∷ (codes "define" ++ (gap ++ l))) tail ∙ simp append_assoc;
        len = simp length-append (omega (arith, len, h.len, v.len, a.size));
        some = omega (arith, a.size);
        takes = (
          fresh,
          record {
            gap = gap;
            name = name;
            space = v.space;
            digits = v.digits;
            is = refl;
            gap_blank = blank;
            whole = subst (λ l. Stops is_name_byte (gap ++ l)) tail whole;
            named = subst (IsWord is_letter name) v.is w.0;
            no_key = test_no_key name (not_is (is_key name) parts.1);
            space_blank = v.blank;
            spelt = v.spelt;
            spells = v.spells;
            agrees = a.agrees;
            over = v.over;
            begins = ap (λ (x : ℕ). 7 + x) (sym len);
            ends = sym h.len;
          },
        );
      }))
      (λ _ t q. cc) refl e

  stands_define : (bytes : List ℕ) (f : Found) (n : ℕ) → Stops is_name_byte bytes → define_at s.known bytes ≡ Some (f, n) → Stands s (35 ∷ (codes "define" ++ bytes)) f n
  unfolding define_at
  stands_define bytes f n whole e =
      let h = cut is_gap bytes in
      let g : ℕ = run is_gap bytes in
      subst (λ l. Stands s (35 ∷ (codes "define" ++ l)) f n) (sym h.is) (stands_named (take g bytes) (drop g bytes) g f n h.len h.all (subst (Stops is_name_byte) h.is whole) e)

  stands_include : (tail : List ℕ) → Stops is_name_byte tail → Stands s (35 ∷ (codes "include" ++ tail)) Include (8 + run is_line_byte tail)
  stands_include tail whole =
      let h = cut is_line_byte tail in
      let line : List ℕ = take (run is_line_byte tail) tail in
      record {
        word = 35 ∷ (codes "include" ++ line);
        rest = drop (run is_line_byte tail) tail;
        is = ap (λ l. 35 ∷ (codes "include" ++ l)) h.is;
        len = omega (arith, h.len);
        some = omega arith;
        takes = (fresh, record { line = line; is = refl; all = h.all; stops = h.stops; whole = subst (Stops is_name_byte) h.is whole });
      }

  stands_pragma : (tail : List ℕ) → Stops is_name_byte tail → Stands s (35 ∷ (codes "pragma" ++ tail)) Pragma (7 + run is_line_byte tail)
  stands_pragma tail whole =
      let h = cut is_line_byte tail in
      let line : List ℕ = take (run is_line_byte tail) tail in
      record {
        word = 35 ∷ (codes "pragma" ++ line);
        rest = drop (run is_line_byte tail) tail;
        is = ap (λ l. 35 ∷ (codes "pragma" ++ l)) h.is;
        len = omega (arith, h.len);
        some = omega arith;
        takes = (fresh, record { line = line; is = refl; all = h.all; stops = h.stops; whole = subst (Stops is_name_byte) h.is whole });
      }

  word_is : (cs mark : List ℕ) → bytes_eq (take (run is_name_byte cs) cs) mark ≡ true → cs ≡ mark ++ drop (run is_name_byte cs) cs
  word_is cs mark e = (cut is_name_byte cs).is ∙ ap (λ l. l ++ drop (run is_name_byte cs) cs) ((bytes_eq-Decides (take (run is_name_byte cs) cs) mark).0 e)

  stands_directive : (cs : List ℕ) (f : Found) (n : ℕ) → directive_at s.known cs ≡ Some (f, n) → Stands s (35 ∷ cs) f n
  unfolding directive_at directive_named
  stands_directive cs f n e =
      let word : List ℕ = take (run is_name_byte cs) cs in
      let tail : List ℕ = drop (run is_name_byte cs) cs in
      let stops = (cut is_name_byte cs).stops in
      bool_cases (λ b. bytes_eq word (codes "include") ≡ b → cond b (Some (Include, 8 + run is_line_byte (drop 7 cs))) (cond (bytes_eq word (codes "pragma")) (Some (Pragma, 7 + run is_line_byte (drop 6 cs))) (cond (bytes_eq word (codes "define")) (define_at s.known (drop 6 cs)) None)) ≡ Some (f, n) → Stands s (35 ∷ cs) f n) (bytes_eq word (codes "include"))
      (λ _ t g. let is = word_is cs (codes "include") t in move (subst (λ l. Stands s (35 ∷ l) Include (8 + run is_line_byte tail)) (sym is) (stands_include tail stops)) (ap (λ l. Some (Include, 8 + run is_line_byte (drop 7 l))) (sym is) ∙ g))
      (λ _ t g. bool_cases (λ b. bytes_eq word (codes "pragma") ≡ b → cond b (Some (Pragma, 7 + run is_line_byte (drop 6 cs))) (cond (bytes_eq word (codes "define")) (define_at s.known (drop 6 cs)) None) ≡ Some (f, n) → Stands s (35 ∷ cs) f n) (bytes_eq word (codes "pragma"))
      (λ _ u h. let is = word_is cs (codes "pragma") u in move (subst (λ l. Stands s (35 ∷ l) Pragma (7 + run is_line_byte tail)) (sym is) (stands_pragma tail stops)) (ap (λ l. Some (Pragma, 7 + run is_line_byte (drop 6 l))) (sym is) ∙ h))
      (λ _ u h. bool_cases (λ b. bytes_eq word (codes "define") ≡ b → cond b (define_at s.known (drop 6 cs)) None ≡ Some (f, n) → Stands s (35 ∷ cs) f n) (bytes_eq word (codes "define"))
      (λ _ v i. let is = word_is cs (codes "define") v in subst (λ l. Stands s (35 ∷ l) f n) (sym is) (stands_define tail f n stops (ap (λ l. define_at s.known (drop 6 l)) (sym is) ∙ i)))
      (λ _ v i. cc) refl h)
      refl g)
      refl e

-- the piece

module _ (s : State) where
  stands_hash : (c : ℕ) (cs : List ℕ) (f : Found) (n : ℕ) → c ≡ 35 → cond s.fresh (directive_at s.known cs) None ≡ Some (f, n) → Stands s (c ∷ cs) f n
  stands_hash c cs f n is e = bool_cases (λ b. s.fresh ≡ b → cond b (directive_at s.known cs) None ≡ Some (f, n) → Stands s (c ∷ cs) f n) s.fresh
      (λ _ t g. subst (λ c. Stands s (c ∷ cs) f n) (sym is) (stands_directive s t cs f n g))
      (λ _ t g. cc) refl e

  stands_other : (c : ℕ) (cs : List ℕ) (f : Found) (n : ℕ) → other_at s.fresh s.known (c ∷ cs) ≡ Some (f, n) → Stands s (c ∷ cs) f n
  unfolding other_at other_from
  stands_other c cs f n e =
      bool_cases (λ b. nat_eq c 34 ≡ b → cond b (option_map text_found (text_len false cs)) (cond (nat_eq c 35) (cond s.fresh (directive_at s.known cs) None) (cond (nat_eq c 47) (slash_at c cs) (sign_found (sign_at (c ∷ cs))))) ≡ Some (f, n) → Stands s (c ∷ cs) f n) (nat_eq c 34)
      (λ _ t g. let q : c ≡ 34 = grind (arith, nat_tests) in stands_text s c cs f n q g)
      (λ _ t g. bool_cases (λ b. nat_eq c 35 ≡ b → cond b (cond s.fresh (directive_at s.known cs) None) (cond (nat_eq c 47) (slash_at c cs) (sign_found (sign_at (c ∷ cs)))) ≡ Some (f, n) → Stands s (c ∷ cs) f n) (nat_eq c 35)
      (λ _ u h. let q : c ≡ 35 = grind (arith, nat_tests) in stands_hash c cs f n q h)
      (λ _ u h. bool_cases (λ b. nat_eq c 47 ≡ b → cond b (slash_at c cs) (sign_found (sign_at (c ∷ cs))) ≡ Some (f, n) → Stands s (c ∷ cs) f n) (nat_eq c 47)
      (λ _ v i. let q : c ≡ 47 = grind (arith, nat_tests) in stands_slash s c cs f n q i)
      (λ _ v i. stands_sign s c cs f n (no_opening c cs v) (sign_at (c ∷ cs)) refl i)
      refl h)
      refl g)
      refl e
    where
      no_opening : (c : ℕ) (cs : List ℕ) → nat_eq c 47 ≡ false → opens_comment (c ∷ cs) ≡ false
      no_opening c [] e = refl
      no_opening c (d ∷ ds) e = ap (λ b. b && (nat_eq d 47 || nat_eq d 42)) e

  stands_from : (c : ℕ) (cs : List ℕ) (f : Found) (n : ℕ) → piece_at s.fresh s.known (c ∷ cs) ≡ Some (f, n) → Stands s (c ∷ cs) f n
  unfolding piece_at piece_from
  stands_from c cs f n e =
      bool_cases (λ b. nat_eq c 10 ≡ b → cond b (Some (Feed, 1)) (cond (is_gap c) (Some (Blank, 1)) (cond (is_letter c) (word_at s.known (c ∷ cs)) (cond (is_digit c) (number_at (c ∷ cs)) (other_at s.fresh s.known (c ∷ cs))))) ≡ Some (f, n) → Stands s (c ∷ cs) f n) (nat_eq c 10)
      (λ _ t g. let q : c ≡ 10 = grind (arith, nat_tests) in move (record { word = c ∷ []; rest = cs; is = refl; len = refl; some = omega arith; takes = ap (λ c. c ∷ []) q }) g)
      (λ _ t g. bool_cases (λ b. is_gap c ≡ b → cond b (Some (Blank, 1)) (cond (is_letter c) (word_at s.known (c ∷ cs)) (cond (is_digit c) (number_at (c ∷ cs)) (other_at s.fresh s.known (c ∷ cs)))) ≡ Some (f, n) → Stands s (c ∷ cs) f n) (is_gap c)
      (λ _ b h. move (record { word = c ∷ []; rest = cs; is = refl; len = refl; some = omega arith; takes = (c, refl, b) }) h)
      (λ _ b h. bool_cases (λ b. is_letter c ≡ b → cond b (word_at s.known (c ∷ cs)) (cond (is_digit c) (number_at (c ∷ cs)) (other_at s.fresh s.known (c ∷ cs))) ≡ Some (f, n) → Stands s (c ∷ cs) f n) (is_letter c)
      (λ _ l i. stands_word s c cs f n l i)
      (λ _ l i. bool_cases (λ b. is_digit c ≡ b → cond b (number_at (c ∷ cs)) (other_at s.fresh s.known (c ∷ cs)) ≡ Some (f, n) → Stands s (c ∷ cs) f n) (is_digit c)
      (λ _ d j. stands_number s c cs f n d j)
      (λ _ d j. stands_other c cs f n j)
      refl i)
      refl h)
      refl g)
      refl e

pub front_stands : (s : State) (bytes : List ℕ) (f : Found) (n : ℕ) → piece_at s.fresh s.known bytes ≡ Some (f, n) → Stands s bytes f n
unfolding piece_at
front_stands s [] f n e = cc
front_stands s (c ∷ cs) f n e = stands_from s c cs f n e

-- where nothing is found, no piece begins
pub front_none : (s : State) (bytes : List ℕ) → piece_at s.fresh s.known bytes ≡ None → NoPiece s bytes
front_none s bytes e f word rest is t = let h : piece_at s.fresh s.known bytes ≡ Some (f, length word) = ap (piece_at s.fresh s.known) is ∙ front_is s f word rest t in cc
