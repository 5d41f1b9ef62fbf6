-- A line is found to be over exactly where nothing but blanks and comments stands in it.
use Rattle.std.proofs.Common.{◌≡◌, ℕ, zero, suc, ◌+◌, ◌≤◌, Bool, true, false, cond, not, ◌&&◌, nat_eq, List, [], ◌∷◌, ◌++◌, length, take, drop, refl, sym, ap, ◌∙◌, subst, arith, append_assoc, length-append, Option, Some, None}
use Rattle.std.proofs.lemmas.Bool.Decides.{nat_tests}
use Rattle.std.proofs.lemmas.List.{drop_at}
use Rattle.c_lex.specs.declared.directives.Along.TheVariants.{Between, Slash, Inside}
use Rattle.c_lex.specs.Bytes.{is_gap, is_line_byte, AllAre, Stops}
use Rattle.c_lex.specs.Comments.{IsBlockComment, OnlyComments, IsLineOver}
use Rattle.c_lex.specs.Comments as comments
use Rattle.c_lex.specs.Front.{run, more, close_len, is_line_over}
use Rattle.c_lex.proofs.Runs.{if_true, if_false, bool_cases, cut, more_some, close_is, close_ends}

feed : (c : ℕ) → is_line_byte c ≡ false → nat_eq c 10 ≡ true
feed c e = grind (arith, nat_tests)

no_feed : (c : ℕ) → is_line_byte c ≡ true → nat_eq c 10 ≡ false
no_feed c e = grind (arith, nat_tests)

all_behind : (p : ℕ → Bool) (a b : List ℕ) → AllAre p (a ++ b) → AllAre p b
all_behind p [] b h = h
all_behind p (c ∷ a) b h = all_behind p a b h.1

more_none : (n : ℕ) (o : Option ℕ) → more n o ≡ None → o ≡ None
more_none n None e = refl
more_none n (Some m) e = cc

-- ---- in a comment

-- one that is not closed in its line
not_closed_over : (star : Bool) (inside rest : List ℕ) → AllAre is_line_byte inside → Stops is_line_byte rest → close_len star inside ≡ None → is_line_over (Inside star) (inside ++ rest) ≡ true
not_closed_over star [] [] all stops e = refl
not_closed_over star [] (c ∷ rest) all stops e = if_true _ _ _ (feed c stops)
not_closed_over star (c ∷ cs) rest all stops e = bool_cases (λ b. cond b (Some 1) (more 1 (close_len (nat_eq c 42) cs)) ≡ None → cond (nat_eq c 10) true (cond b (is_line_over Between (cs ++ rest)) (is_line_over (Inside (nat_eq c 42)) (cs ++ rest))) ≡ true) (star && nat_eq c 47)
    (λ _ g. cc)
    (λ _ g. if_false _ _ _ (no_feed c all.0) ∙ not_closed_over (nat_eq c 42) cs rest all.1 stops (more_none 1 (close_len (nat_eq c 42) cs) g))
    e

-- one that is
closed_over : (star : Bool) (inside rest : List ℕ) (n : ℕ) → AllAre is_line_byte inside → close_len star inside ≡ Some n → is_line_over (Inside star) (inside ++ rest) ≡ is_line_over Between (drop n inside ++ rest)
closed_over star [] rest n all e = cc
closed_over star (c ∷ cs) rest n all e = bool_cases (λ b. cond b (Some 1) (more 1 (close_len (nat_eq c 42) cs)) ≡ Some n → cond (nat_eq c 10) true (cond b (is_line_over Between (cs ++ rest)) (is_line_over (Inside (nat_eq c 42)) (cs ++ rest))) ≡ is_line_over Between (drop n (c ∷ cs) ++ rest)) (star && nat_eq c 47)
    (λ _ g. let one : 1 ≡ n = cc in if_false _ _ _ (no_feed c all.0) ∙ ap (λ k. is_line_over Between (drop k (c ∷ cs) ++ rest)) one)
    (λ _ g. let m = more_some (close_len (nat_eq c 42) cs) n g in if_false _ _ _ (no_feed c all.0) ∙ (closed_over (nat_eq c 42) cs rest m.0 all.1 m.1 ∙ ap (λ k. is_line_over Between (drop k (c ∷ cs) ++ rest)) (sym m.2)))
    e

-- the bytes behind a closed comment
behind_closed : (body behind : List ℕ) → drop (2 + length body) (body ++ 42 ∷ 47 ∷ behind) ≡ behind
behind_closed body behind =
    let n : length (body ++ 42 ∷ 47 ∷ []) ≡ 2 + length body = length-append body (42 ∷ 47 ∷ []) ∙ omega arith in
    ap (drop (2 + length body)) (sym (append_assoc body (42 ∷ 47 ∷ []) behind)) ∙ drop_at (body ++ 42 ∷ 47 ∷ []) behind (2 + length body) n

block_split : (line word behind : List ℕ) (h : IsBlockComment word) → line ≡ word ++ behind → line ≡ 47 ∷ 42 ∷ (h.body ++ 42 ∷ 47 ∷ behind)
block_split line word behind h e = e ∙ (ap (λ l. l ++ behind) h.is ∙ ap (λ l. 47 ∷ 42 ∷ l) (append_assoc h.body (42 ∷ 47 ∷ []) behind))

-- a comment that does not close has no end
no_end : (inside : List ℕ) → ((word behind : List ℕ) → 47 ∷ 42 ∷ inside ≡ word ++ behind → IsBlockComment word → ⊥) → (o : Option ℕ) → close_len false inside ≡ o → close_len false inside ≡ None
no_end inside never None e = e
no_end inside never (Some n) e =
    let h = close_ends false inside n e in
    absurd (never (47 ∷ 42 ∷ (h.body ++ 42 ∷ 47 ∷ [])) h.rest (ap (λ l. 47 ∷ 42 ∷ l) (h.is ∙ sym (append_assoc h.body (42 ∷ 47 ∷ []) h.rest))) (record { body = h.body; is = refl; next = h.next }))

-- ---- what stands is found

only_over : {line : List ℕ} → OnlyComments line → (rest : List ℕ) → AllAre is_line_byte line → Stops is_line_byte rest → is_line_over Between (line ++ rest) ≡ true
only_over comments.none [] all stops = refl
only_over comments.none (c ∷ rest) all stops = if_true _ _ _ (feed c stops)
only_over (comments.blank c g h) rest all stops = if_false _ _ _ (no_feed c all.0) ∙ (if_true _ _ _ g ∙ only_over h rest all.1 stops)
only_over (comments.to_the_end more e) rest all stops = ap (λ l. is_line_over Between (l ++ rest)) e
only_over (comments.over_the_end {line} more e never) rest all stops =
    let a : AllAre is_line_byte (47 ∷ 42 ∷ more) = subst (AllAre is_line_byte) e all in
    ap (λ l. is_line_over Between (l ++ rest)) e
    ∙ not_closed_over false more rest a.1.1 stops (no_end more (λ word behind q. never word behind (e ∙ q)) (close_len false more) refl)
only_over (comments.block {line} word behind is b h) rest all stops =
    let e : line ≡ 47 ∷ 42 ∷ (b.body ++ 42 ∷ 47 ∷ behind) = block_split line word behind b is in
    let a : AllAre is_line_byte (47 ∷ 42 ∷ (b.body ++ 42 ∷ 47 ∷ behind)) = subst (AllAre is_line_byte) e all in
    ap (λ l. is_line_over Between (l ++ rest)) e
    ∙ (closed_over false (b.body ++ 42 ∷ 47 ∷ behind) rest (2 + length b.body) a.1.1 (close_is b.body behind b.next)
    ∙ (ap (λ l. is_line_over Between (l ++ rest)) (behind_closed b.body behind)
    ∙ only_over h rest (all_behind is_line_byte word behind (subst (AllAre is_line_byte) is all)) stops))

pub over_found : (bytes : List ℕ) → IsLineOver bytes → is_line_over Between bytes ≡ true
over_found bytes h = ap (is_line_over Between) h.is ∙ only_over h.only h.rest h.all h.stops

-- ---- what is found stands

module _ (rest : List ℕ) (stops : Stops is_line_byte rest) where
  abbrev Again : ℕ → Type 0
  Again n = (line : List ℕ) → length line ≤ n → AllAre is_line_byte line → is_line_over Between (line ++ rest) ≡ true → OnlyComments line

  in_comment : (n : ℕ) → Again n → (inside : List ℕ) → length inside ≤ n → AllAre is_line_byte inside → is_line_over (Inside false) (inside ++ rest) ≡ true → (o : Option ℕ) → close_len false inside ≡ o → OnlyComments (47 ∷ 42 ∷ inside)
  in_comment n again inside le all e None q = comments.over_the_end inside refl (λ word behind is b. closes word behind is b)
    where
      closes : (word behind : List ℕ) → 47 ∷ 42 ∷ inside ≡ word ++ behind → IsBlockComment word → ⊥
      closes word behind is b =
          let s : 47 ∷ 42 ∷ inside ≡ 47 ∷ 42 ∷ (b.body ++ 42 ∷ 47 ∷ behind) = block_split (47 ∷ 42 ∷ inside) word behind b is in
          let t : inside ≡ b.body ++ 42 ∷ 47 ∷ behind = ap (drop 2) s in
          let z : ◌≡◌ {A = Option ℕ} None (Some (2 + length b.body)) = sym q ∙ (ap (close_len false) t ∙ close_is b.body behind b.next) in cc
  in_comment n again inside le all e (Some m) q =
      let h = close_ends false inside m q in
      let size : m ≡ 2 + length h.body = omega (arith, h.len) in
      let left : drop m inside ≡ h.rest = ap (λ k. drop k inside) size ∙ (ap (drop (2 + length h.body)) h.is ∙ behind_closed h.body h.rest) in
      comments.block (47 ∷ 42 ∷ (h.body ++ 42 ∷ 47 ∷ [])) h.rest (ap (λ l. 47 ∷ 42 ∷ l) (h.is ∙ sym (append_assoc h.body (42 ∷ 47 ∷ []) h.rest))) (record { body = h.body; is = refl; next = h.next })
      (again h.rest (omega (arith, le, ap length h.is, length-append h.body (42 ∷ 47 ∷ h.rest)))
      (all_behind is_line_byte (42 ∷ 47 ∷ []) h.rest (all_behind is_line_byte h.body (42 ∷ 47 ∷ h.rest) (subst (AllAre is_line_byte) h.is all)))
      (ap (λ l. is_line_over Between (l ++ rest)) (sym left) ∙ (sym (closed_over false inside rest m all q) ∙ e)))

  no_slash : (c : ℕ) (more : List ℕ) → is_line_byte c ≡ false → is_line_over Slash (c ∷ more) ≡ true → ⊥
  no_slash c more s e =
      let a : nat_eq c 47 ≡ false = grind (arith, nat_tests) in
      let b : nat_eq c 42 ≡ false = grind (arith, nat_tests) in
      let z : false ≡ true = sym (if_false _ _ _ a ∙ if_false _ _ _ b) ∙ e in cc

  at_slash : (n : ℕ) → Again n → (cs : List ℕ) → length cs ≤ n → AllAre is_line_byte cs → (tail : List ℕ) → tail ≡ rest → is_line_over Slash (cs ++ tail) ≡ true → OnlyComments (47 ∷ cs)
  at_slash n again [] le all [] s e = cc
  at_slash n again [] le all (c ∷ tail) s e = absurd (no_slash c tail (subst (Stops is_line_byte) (sym s) stops) e)
  at_slash n again (d ∷ ds) le all tail s e = bool_cases (λ b. nat_eq d 47 ≡ b → cond b true (cond (nat_eq d 42) (is_line_over (Inside false) (ds ++ tail)) false) ≡ true → OnlyComments (47 ∷ d ∷ ds)) (nat_eq d 47)
      (λ _ t g. let q : d ≡ 47 = grind (arith, nat_tests) in comments.to_the_end ds (ap (λ x. 47 ∷ x ∷ ds) q))
      (λ _ t g. bool_cases (λ b. nat_eq d 42 ≡ b → cond b (is_line_over (Inside false) (ds ++ tail)) false ≡ true → OnlyComments (47 ∷ d ∷ ds)) (nat_eq d 42)
      (λ _ u k. let q : d ≡ 42 = grind (arith, nat_tests) in subst (λ x. OnlyComments (47 ∷ x ∷ ds)) (sym q) (in_comment n again ds (omega (arith, le)) all.1 (ap (λ l. is_line_over (Inside false) (ds ++ l)) (sym s) ∙ k) (close_len false ds) refl))
      (λ _ u k. cc) refl g)
      refl e

  over_line : (n : ℕ) → Again n
  over_line n [] le all e = comments.none
  over_line zero (c ∷ cs) le all e = absurd (omega (arith, le))
  over_line (suc n) (c ∷ cs) le all e = bool_cases (λ b. is_gap c ≡ b → cond b (is_line_over Between (cs ++ rest)) (cond (nat_eq c 47) (is_line_over Slash (cs ++ rest)) false) ≡ true → OnlyComments (c ∷ cs)) (is_gap c)
      (λ _ g k. comments.blank c g (over_line n cs (omega (arith, le)) all.1 k))
      (λ _ g k. bool_cases (λ b. nat_eq c 47 ≡ b → cond b (is_line_over Slash (cs ++ rest)) false ≡ true → OnlyComments (c ∷ cs)) (nat_eq c 47)
      (λ _ s m. let q : c ≡ 47 = grind (arith, nat_tests) in subst (λ x. OnlyComments (x ∷ cs)) (sym q) (at_slash n (over_line n) cs (omega (arith, le)) all.1 rest refl m))
      (λ _ s m. cc) refl k)
      refl (sym (if_false _ _ _ (no_feed c all.0)) ∙ e)

pub over_stands : (bytes : List ℕ) → is_line_over Between bytes ≡ true → IsLineOver bytes
over_stands bytes e =
    let h = cut is_line_byte bytes in
    record {
      line = take (run is_line_byte bytes) bytes;
      rest = drop (run is_line_byte bytes) bytes;
      is = h.is;
      all = h.all;
      stops = h.stops;
      only = over_line (drop (run is_line_byte bytes) bytes) h.stops (length (take (run is_line_byte bytes) bytes)) (take (run is_line_byte bytes) bytes) (omega arith) h.all (ap (is_line_over Between) (sym h.is) ∙ e);
    }
