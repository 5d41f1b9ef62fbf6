-- Blocks and statements are read exactly.
use Rattle.std.proofs.Common.{◌≡◌, ℕ, zero, suc, Bool, true, false, if◌then◌else◌, inl, List, [], ◌∷◌, ◌++◌, Option, Some, None, refl, sym, ap, ◌∙◌, subst}
use Rattle.c_tree.specs.declared.syntax.Place.{Place}
use Rattle.c_tree.specs.declared.syntax.Binary.TheVariants as binary
use Rattle.c_tree.specs.Syntax as x
use Rattle.c_parse.specs.declared.symbols.Class.{Class}
use Rattle.c_parse.specs.declared.symbols.Class.TheVariants as class
use Rattle.c_parse.specs.declared.symbols.Key.TheVariants as key
use Rattle.c_parse.specs.declared.symbols.Mark.{Mark}
use Rattle.c_parse.specs.declared.symbols.Mark.TheVariants as mark
use Rattle.c_parse.specs.declared.grammar.Part.TheVariants as part
use Rattle.c_parse.specs.Symbols.{Sym}
use Rattle.c_parse.specs.Signs.{is_mark, is_key, same_mark, same_key}
use Rattle.c_parse.specs.Phrases.{Phrase, nothing, give, ◌or◌, placed}
use Rattle.c_parse.specs.Phrases as ph
use Rattle.c_parse.specs.Reading.{Read, Got, Fails, Reader, and_then, ◌>>=◌, pure, refuse, class_at, behind, sees, sees_key, eat_key, expect, expect_key, here}
use Rattle.c_parse.specs.Reading as rd
use Rattle.c_parse.specs.Expressions as ex
use Rattle.c_parse.specs.Declarations as dc
use Rattle.c_parse.specs.Statements as st
use Rattle.c_parse.specs.StatementGrammar.{items_of, block_of, is_open, single_as, single_by, is_barrier}
use Rattle.c_parse.specs.Grammar.{one_if, mark_}
use Rattle.c_parse.specs.StatementGrammar as sg
use Rattle.c_parse.specs.Grammar as gr
use Rattle.c_parse.proofs.Sets.{code, mark_code, is_in, apart, within, apart_no}
use Rattle.c_parse.proofs.ClassTests.{in_mark, in_key, BASES}
use Rattle.c_parse.proofs.Exact.{Exact, bind_exact, give_exact, nothing_exact, one_exact, take_one, taken, then_got}
use Rattle.c_parse.proofs.Choices.{widen, by_reader, or_exact, placed_exact}
use Rattle.c_parse.proofs.Repeats.{until_exact}
use Rattle.c_parse.proofs.Blocks.{token_then, seq, map_same, map_exact, one_if_exact, mark_exact, key_exact, branch_exact, eaten, when_exact, pick, pick_over, regroup_read, then_same, within_self}
use Rattle.c_parse.proofs.UnaryRead.{EXPR, after}
use Rattle.c_parse.proofs.ExpressionsRead.{expression_exact}
use Rattle.c_parse.proofs.DeclarationsRead.{declaration_exact}

-- with what a statement begins
abbrev pub STMT : List ℕ
STMT = 34 ∷ 36 ∷ 4 ∷ 5 ∷ 15 ∷ 17 ∷ 18 ∷ 19 ∷ 20 ∷ 21 ∷ 22 ∷ EXPR

abbrev open_set : Bool → List ℕ
open_set true = 16 ∷ []
open_set false = []

-- with what a statement goes on: with else, where an if at its end has none
abbrev pub else_after : x.Stmt → List ℕ
else_after t = open_set (is_open t)

open_within : (b : Bool) → within (open_set b) (16 ∷ []) ≡ true
open_within true = refl
open_within false = refl

-- a reader never stops in front of an else that belongs to what it read
abbrev pub Settled : Reader x.Stmt → Type 0
Settled r = (ts : List Sym) (t : x.Stmt) (rest : List Sym) → r ts ≡ Got t rest → is_open t ≡ true → sees_key key.Else rest ≡ false

in_declarations : (c : Class) → is_in (14 ∷ BASES) (code c) ≡ dc.begins_declaration c
unfolding same_key
in_declarations (class.Key key.Int) = refl
in_declarations (class.Mark mark.Open) = refl
in_declarations (class.Binary binary.Multiply) = refl
in_declarations (class.Assign None) = refl
in_declarations c = refl

in_barriers : (c : Class) → is_in (5 ∷ []) (code c) ≡ is_barrier c
in_barriers (class.Key key.Int) = refl
in_barriers (class.Mark mark.Open) = refl
in_barriers (class.Binary binary.Multiply) = refl
in_barriers (class.Assign None) = refl
in_barriers c = refl

in_singles : (c : Class) (names : List (List ℕ)) (a : List (List ℕ) × Bool) → single_by c names ≡ Some a → is_in (4 ∷ []) (code c) ≡ true
in_singles (class.Single nowait) names a e = refl
in_singles c names a e = cc

-- ---- an expression that may be missing, and what ends it

abbrev ended : ℕ → Mark → Reader (Option x.Expr)
ended d end = st.optional d end >>= (λ value. expect end >>= (λ _. pure value))

optional_by : (d : ℕ) (end : Mark) (b : Bool) (ts : List Sym) → expect end ts ≡ (if b then Got tt (behind ts) else Fails ts)
    → and_then ((if b then Got None ts else (ex.expression d part.Assign >>= (λ value. pure (Some value))) ts)) (λ value. expect end >>= (λ _. pure value))
    ≡ (if b then Got None (behind ts) else (ex.expression d part.Assign >>= (λ value. expect end >>= (λ _. pure (Some value)))) ts)
optional_by d end true ts e = ap (λ o. and_then o (λ _. pure None)) e
optional_by d end false ts e = regroup_read (ex.expression d part.Assign ts) (λ value. pure (Some value)) (λ value. expect end >>= (λ _. pure value))

optional_is : (d : ℕ) (end : Mark) (ts : List Sym) → ended d end ts ≡ (if is_mark end (class_at ts) then Got None (behind ts) else (ex.expression d part.Assign >>= (λ value. expect end >>= (λ _. pure (Some value)))) ts)
unfolding st.optional sees expect
optional_is d end ts = optional_by d end (is_mark end (class_at ts)) ts refl

optional_exact : (d : ℕ) (end : Mark) → is_in (mark_code end ∷ []) 6 ≡ false → is_mark end class.Other ≡ false → apart EXPR (mark_code end ∷ []) ≡ true → apart (mark_code end ∷ []) (after part.Assign) ≡ true
    → Exact ((sg.optional gr.expression) d end) (ended d end) (mark_code end ∷ EXPR) (λ _. []) true
unfolding sg.optional
optional_exact d end plain other parted follows = by_reader _ (branch_exact (is_mark end) (mark_code end ∷ []) (λ _. []) (in_mark end) plain other (give_exact None)
    (seq (expression_exact d part.Assign) (λ value. token_then (mark_exact end) (λ _. give_exact (Some value))) follows) parted (λ _. refl) (λ _. refl) (λ e. cc)) (optional_is d end)

to_semicolon : (d : ℕ) → Exact ((sg.optional gr.expression) d mark.Semicolon) (ended d mark.Semicolon) (36 ∷ EXPR) (λ _. []) true
to_semicolon d = optional_exact d mark.Semicolon refl refl refl refl

to_close : (d : ℕ) → Exact ((sg.optional gr.expression) d mark.Close) (ended d mark.Close) (31 ∷ EXPR) (λ _. []) true
to_close d = optional_exact d mark.Close refl refl refl refl

-- the end put to the expression before it
ended_is : {A : Type 0} (o : Read (Option x.Expr)) (end : Mark) (k : Option x.Expr → Reader A) → and_then o (λ value. expect end >>= (λ _. k value)) ≡ and_then (and_then o (λ value. expect end >>= (λ _. pure value))) k
ended_is (Got value rest) end k = sym (regroup_read (expect end rest) (λ _. pure value) k)
ended_is (Fails rest) end k = refl

closed_by : {A : Type 0} (o : Read A) (f : A → x.Stmt) (t : x.Stmt) (rest : List Sym) → and_then o (λ a. pure (f a)) ≡ Got t rest → ((a : A) → is_open (f a) ≡ false) → is_open t ≡ true → sees_key key.Else rest ≡ false
closed_by (Got a us) f t rest e h q = let v : f a ≡ t = cc in let k : is_open t ≡ false = subst (λ t. is_open t ≡ false) v (h a) in cc
closed_by (Fails us) f t rest e h q = cc

-- what ends with a statement is settled as that is
body_settled : (o : Read x.Stmt) (f : x.Stmt → x.Stmt) (t : x.Stmt) (rest : List Sym) → ((u : x.Stmt) (us : List Sym) → o ≡ Got u us → is_open u ≡ true → sees_key key.Else us ≡ false)
    → ((u : x.Stmt) → is_open (f u) ≡ is_open u) → and_then o (λ u. pure (f u)) ≡ Got t rest → is_open t ≡ true → sees_key key.Else rest ≡ false
body_settled (Got u us) f t rest h k e q =
    let v : f u ≡ t = cc in
    let z : us ≡ rest = cc in
    subst (λ l. sees_key key.Else l ≡ false) z (h u us refl (sym (k u) ∙ (ap is_open v ∙ q)))
body_settled (Fails us) f t rest h k e q = cc

when_settled : (deep : Bool) (r : Reader x.Stmt) (ts : List Sym) (t : x.Stmt) (rest : List Sym) → ((us : List Sym) (t : x.Stmt) (rest : List Sym) → r us ≡ Got t rest → is_open t ≡ true → sees_key key.Else rest ≡ false)
    → (if deep then (rd.advance >>= (λ _. r)) else refuse) ts ≡ Got t rest → is_open t ≡ true → sees_key key.Else rest ≡ false
when_settled true r ts t rest h e q = h (behind ts) t rest e q
when_settled false r ts t rest h e q = cc

if_at : {A : Type 0} (deep : Bool) (r q : Reader A) (ts : List Sym) → r (behind ts) ≡ q ts → (if deep then (rd.advance >>= (λ _. r)) else refuse) ts ≡ (if deep then q else refuse) ts
if_at true r q ts e = e
if_at false r q ts e = refl

module _ (sp : Phrase x.Stmt) (sr : Reader x.Stmt) (es : Exact sp sr STMT else_after true) (settled : Settled sr) (depth : ℕ) (deep : Bool) where
  abbrev p_ : sg.Inside
  p_ = record { deep = deep; depth = depth; stmt = sp }

  abbrev r_ : st.Inside
  r_ = record { deep = deep; depth = depth; stmt = sr }

  any_else : Exact sp sr STMT (λ _. 16 ∷ []) true
  any_else = widen STMT (λ _. 16 ∷ []) es (within_self STMT) (λ a. open_within (is_open a))

  -- ---- blocks

  item_exact : Exact ((sg.item gr.expression) p_) (st.item r_) (14 ∷ BASES ++ STMT) (λ _. 16 ∷ []) true
  unfolding sg.item st.item
  item_exact = or_exact _ sp (dc.declaration depth >>= (λ found. pure (x.Declare found))) sr (st.item r_) (14 ∷ BASES) STMT (λ _. []) (λ _. 16 ∷ []) (λ _. 16 ∷ []) true
      (map_same (λ found. x.Declare found) (declaration_exact depth)) any_else refl
      (λ s ts e. ap (λ b. st.item_by r_ b (s ∷ ts)) (sym (in_declarations s.class) ∙ e))
      (λ s ts e. ap (λ b. st.item_by r_ b (s ∷ ts)) (sym (in_declarations s.class) ∙ e))
      (ap (λ b. st.item_by r_ b []) (sym (in_declarations class.Other))) (λ _. refl) (λ _. refl) (λ e. cc)

  more_exact : (found : List x.Stmt) → Exact ((sg.one_more_item gr.expression) p_ found) (st.one_more_item r_ found) (14 ∷ BASES ++ STMT) (λ _. 16 ∷ []) true
  unfolding sg.one_more_item
  more_exact found = map_same (λ s. found ++ s ∷ []) item_exact

  abbrev closing_reader : Place → List x.Stmt → Reader x.Body
  closing_reader at found = here >>= (λ end. expect mark.CloseBrace >>= (λ _. pure (record { at = at; items = items_of found; end_line = end.line })))

  closing_by : (at : Place) (found : List x.Stmt) (b : Bool) (s : Sym) (ts : List Sym) → and_then {A = Unit {0}} {B = x.Body} (if b then Got tt ts else Fails (s ∷ ts)) (λ _. pure (record { at = at; items = items_of found; end_line = s.at.line }))
      ≡ and_then {A = Place} {B = x.Body} (taken (if b then Some s.at else None) s ts) (λ end. pure (record { at = at; items = items_of found; end_line = end.line }))
  closing_by at found true s ts = refl
  closing_by at found false s ts = refl

  closing_is : (at : Place) (found : List x.Stmt) (ts : List Sym) → closing_reader at found ts ≡ and_then {A = Place} {B = x.Body} (take_one (λ s. if is_mark mark.CloseBrace s.class then Some s.at else None) ts) (λ end. pure (record { at = at; items = items_of found; end_line = end.line }))
  unfolding expect sees
  closing_is at found [] = refl
  closing_is at found (s ∷ ts) = closing_by at found (is_mark mark.CloseBrace s.class) s ts

  closing_exact : (at : Place) (found : List x.Stmt) → Exact (ph.◌>>=◌ (one_if (is_mark mark.CloseBrace) (λ s. s.at)) (λ end. give (record { at = at; items = items_of found; end_line = end.line }))) (closing_reader at found) (35 ∷ []) (λ _. []) true
  closing_exact at found = by_reader _ (map_same _ (one_if_exact (is_mark mark.CloseBrace) (λ s. s.at) (35 ∷ []) (in_mark mark.CloseBrace) refl)) (closing_is at found)

  begun_item : (c : Sym) (ts : List Sym) → is_in (14 ∷ BASES ++ STMT) (code c.class) ≡ true → sees mark.CloseBrace (c ∷ ts) ≡ false
  unfolding sees
  begun_item c ts e = sym (in_mark mark.CloseBrace c.class) ∙ apart_no (14 ∷ BASES ++ STMT) (35 ∷ []) (code c.class) refl e

  begun_closing : (c : Sym) (ts : List Sym) → is_in (35 ∷ []) (code c.class) ≡ true → sees mark.CloseBrace (c ∷ ts) ≡ true
  unfolding sees
  begun_closing c ts e = sym (in_mark mark.CloseBrace c.class) ∙ e

  body_at_exact : (at : Place) → Exact (ph.◌>>◌ (mark_ mark.OpenBrace) (ph.◌>>=◌ (ph.repeat ((sg.one_more_item gr.expression) p_) []) (λ found. ph.◌>>=◌ (one_if (is_mark mark.CloseBrace) (λ s. s.at)) (λ end. give (record { at = at; items = items_of found; end_line = end.line }))))) (expect mark.OpenBrace >>= (λ _. st.body_at r_ at)) (34 ∷ []) (λ _. []) true
  unfolding st.body_at st.items
  body_at_exact at = token_then (mark_exact mark.OpenBrace) (λ _. until_exact ((sg.one_more_item gr.expression) p_) (st.one_more_item r_) (sees mark.CloseBrace) (14 ∷ BASES ++ STMT) (16 ∷ []) more_exact begun_item refl
      _ (closing_reader at) (35 ∷ []) (λ _. []) (closing_exact at) begun_closing refl [])

  body_is : (b : Bool) (ts : List Sym) → (if b then (expect mark.OpenBrace >>= (λ _. st.body_at r_ (rd.place_at ts))) else refuse) ts ≡ (if b then (here >>= (λ at. expect mark.OpenBrace >>= (λ _. st.body_at r_ at))) else refuse) ts
  body_is true ts = refl
  body_is false ts = refl

  pub body_exact : Exact ((sg.body gr.expression) p_) (st.body r_) (34 ∷ []) (λ _. []) true
  unfolding sg.body st.body
  body_exact = by_reader _ (when_exact deep (placed_exact _ _ (34 ∷ []) (λ _. []) body_at_exact)) (body_is deep)

  -- ---- statements whose parts are deeper

  condition_exact : Exact ((sg.condition gr.expression) p_) (st.condition r_) (30 ∷ []) (λ _. []) true
  unfolding sg.condition st.condition
  condition_exact = token_then (mark_exact mark.Open) (λ _. seq (expression_exact depth part.Assign) (λ test. token_then (mark_exact mark.Close) (λ _. give_exact test)) refl)

  abbrev else_reader : Place → x.Expr → x.Stmt → Reader x.Stmt
  else_reader at test body = eat_key key.Else >>= (λ has. if has then (sr >>= (λ other. pure (x.IfElse at test body other))) else pure (x.If at test body))

  abbrev tail_by : Bool → Place → x.Expr → x.Stmt → Reader x.Stmt
  tail_by true at test body = pure (x.If at test body)
  tail_by false at test body = else_reader at test body

  if_goes : (at : Place) (test : x.Expr) (body a : x.Stmt) → a ≡ x.If at test body → within (16 ∷ []) (else_after a) ≡ true
  if_goes at test body a h = subst (λ a. within (16 ∷ []) (else_after a) ≡ true) (sym h) refl

  other_exact : (at : Place) (test : x.Expr) (body : x.Stmt) (b : Bool) → Exact ((sg.other_of gr.expression) p_ at test body b) (tail_by b at test body) (16 ∷ []) else_after false
  unfolding sg.other_of sees_key
  other_exact at test body true = widen (16 ∷ []) else_after (give_exact (x.If at test body)) refl (λ _. refl)
  other_exact at test body false = by_reader _ (branch_exact (is_key key.Else) (16 ∷ []) else_after (in_key key.Else) refl refl
      (map_exact (λ other. x.IfElse at test body other) else_after es (λ a. within_self (else_after a))) (give_exact (x.If at test body)) refl (λ a. within_self (else_after a)) (λ _. refl) (λ e a h. if_goes at test body a h.1))
      (λ ts. eaten (is_key key.Else (class_at ts)) ts _ _)

  parts_else : (at : Place) (test : x.Expr) (body : x.Stmt) (b : Bool) (c : Sym) (ts : List Sym) → ((sg.other_of gr.expression) p_ at test body b).front (c ∷ ts) → is_in (open_set b) (code c.class) ≡ false
  unfolding sg.other_of
  parts_else at test body true c ts f = cc
  parts_else at test body false c ts f = refl

  ends_open : (at : Place) (test : x.Expr) (body : x.Stmt) (b : Bool) (t : x.Stmt) → ((sg.other_of gr.expression) p_ at test body b).spells [] t → within (open_set b) (else_after t) ≡ true
  unfolding sg.other_of
  ends_open at test body true t h = subst (λ t. within (16 ∷ []) (else_after t) ≡ true) (sym h.1) refl
  ends_open at test body false t h = refl

  then_exact : (at : Place) (test : x.Expr) → Exact (ph.◌>>=◌ sp (λ body. (sg.other_of gr.expression) p_ at test body (is_open body))) (sr >>= (λ body. tail_by (is_open body) at test body)) STMT else_after true
  then_exact at test = bind_exact sp (λ body. (sg.other_of gr.expression) p_ at test body (is_open body)) sr (λ body. tail_by (is_open body) at test body) STMT else_after true (16 ∷ []) (λ _. else_after) false STMT else_after true
      es (λ body. other_exact at test body (is_open body)) (within_self STMT) (λ e. cc) (λ _. inl refl)
      (λ body c ts f. parts_else at test body (is_open body) c ts f) (λ body t ts h. within_self (else_after t)) (λ body t h. ends_open at test body (is_open body) t h)

  tail_is : (at : Place) (test : x.Expr) (body : x.Stmt) (rest : List Sym) → (is_open body ≡ true → sees_key key.Else rest ≡ false) → (b : Bool) → is_open body ≡ b → else_reader at test body rest ≡ tail_by b at test body rest
  tail_is at test body rest h true e = eaten (sees_key key.Else rest) rest _ _ ∙ ap (λ b. if b then (sr >>= (λ other. pure (x.IfElse at test body other))) (behind rest) else pure (x.If at test body) rest) (h e)
  tail_is at test body rest h false e = refl

  body_then : (at : Place) (test : x.Expr) (o : Read x.Stmt) → ((t : x.Stmt) (rest : List Sym) → o ≡ Got t rest → is_open t ≡ true → sees_key key.Else rest ≡ false) → and_then o (else_reader at test) ≡ and_then o (λ body. tail_by (is_open body) at test body)
  body_then at test (Got body rest) h = tail_is at test body rest (h body rest refl) (is_open body) refl
  body_then at test (Fails rest) h = refl

  if_exact : (at : Place) → Exact ((sg.if_ gr.expression) p_ at) (if deep then (expect_key key.If >>= (λ _. st.if_from r_ at)) else refuse) (15 ∷ []) else_after true
  unfolding sg.if_ st.if_from
  if_exact at = when_exact deep (token_then (key_exact key.If) (λ _. by_reader _ (seq condition_exact (λ test. then_exact at test) refl)
      (λ ts. then_same (st.condition r_ ts) (λ test us. body_then at test (sr us) (settled us)))))

  while_exact : (at : Place) → Exact ((sg.while_ gr.expression) p_ at) (if deep then (expect_key key.While >>= (λ _. st.while_from r_ at)) else refuse) (17 ∷ []) else_after true
  unfolding sg.while_ st.while_from
  while_exact at = when_exact deep (token_then (key_exact key.While) (λ _. seq condition_exact (λ test. map_exact (λ body. x.While at test body) else_after es (λ a. within_self (else_after a))) refl))

  do_exact : (at : Place) → Exact ((sg.do_ gr.expression) p_ at) (if deep then (expect_key key.Do >>= (λ _. st.do_from r_ at)) else refuse) (18 ∷ []) (λ _. []) true
  unfolding sg.do_ st.do_from
  do_exact at = when_exact deep (token_then (key_exact key.Do) (λ _. seq any_else (λ body. token_then (key_exact key.While) (λ _. seq condition_exact (λ test. token_then (mark_exact mark.Semicolon) (λ _. give_exact (x.DoWhile at body test))) refl)) refl))

  head_rest_is : (ts : List Sym) → st.for_head_by r_ false ts ≡ (ended depth mark.Semicolon >>= (λ value. pure (sg.evaluated value))) ts
  head_rest_is ts = ended_is (st.optional depth mark.Semicolon ts) mark.Semicolon (λ value. pure (sg.evaluated value))

  head_exact : Exact ((sg.for_head gr.expression) p_) (st.for_head r_) (14 ∷ BASES ++ 36 ∷ EXPR) (λ _. []) true
  unfolding sg.for_head st.for_head
  head_exact = or_exact _ _ (dc.declaration depth >>= (λ found. pure (x.Declared found))) (st.for_head_by r_ false) (st.for_head r_) (14 ∷ BASES) (36 ∷ EXPR) (λ _. []) (λ _. []) (λ _. []) true
      (map_same (λ found. x.Declared found) (declaration_exact depth)) (by_reader _ (map_same sg.evaluated (to_semicolon depth)) head_rest_is) refl
      (λ s ts e. ap (λ b. st.for_head_by r_ b (s ∷ ts)) (sym (in_declarations s.class) ∙ e))
      (λ s ts e. ap (λ b. st.for_head_by r_ b (s ∷ ts)) (sym (in_declarations s.class) ∙ e))
      (ap (λ b. st.for_head_by r_ b []) (sym (in_declarations class.Other))) (λ _. refl) (λ _. refl) (λ e. cc)

  abbrev rest_reader : Place → x.ForHead → Reader x.Stmt
  rest_reader at head = ended depth mark.Semicolon >>= (λ test. ended depth mark.Close >>= (λ step. sr >>= (λ body. pure (x.For at head test step body))))

  for_rest_is : (at : Place) (head : x.ForHead) (ts : List Sym) → st.for_rest r_ at head ts ≡ rest_reader at head ts
  unfolding st.for_rest
  for_rest_is at head ts = ended_is (st.optional depth mark.Semicolon ts) mark.Semicolon (λ test. st.optional depth mark.Close >>= (λ step. expect mark.Close >>= (λ _. sr >>= (λ body. pure (x.For at head test step body)))))
      ∙ then_same (ended depth mark.Semicolon ts) (λ test us. ended_is (st.optional depth mark.Close us) mark.Close (λ step. sr >>= (λ body. pure (x.For at head test step body))))

  for_exact : (at : Place) → Exact ((sg.for_ gr.expression) p_ at) (if deep then (expect_key key.For >>= (λ _. st.for_from r_ at)) else refuse) (19 ∷ []) else_after true
  unfolding sg.for_ st.for_from
  for_exact at = when_exact deep (token_then (key_exact key.For) (λ _. token_then (mark_exact mark.Open) (λ _. seq head_exact (λ head. by_reader _
      (seq (to_semicolon depth) (λ test. seq (to_close depth) (λ step. map_exact (λ body. x.For at head test step body) else_after es (λ a. within_self (else_after a))) refl) refl) (for_rest_is at head)) refl)))

  -- ---- statements, with so many marked productions that may stand in one another

  else_settled : (at : Place) (test : x.Expr) (body : x.Stmt) (us : List Sym) (t : x.Stmt) (rest : List Sym) (b : Bool) → sees_key key.Else us ≡ b
      → (if b then (sr >>= (λ other. pure (x.IfElse at test body other))) (behind us) else pure (x.If at test body) us) ≡ Got t rest → is_open t ≡ true → sees_key key.Else rest ≡ false
  else_settled at test body us t rest true s e q = body_settled (sr (behind us)) (λ other. x.IfElse at test body other) t rest (settled (behind us)) (λ other. refl) e q
  else_settled at test body us t rest false s e q = let z : us ≡ rest = cc in subst (λ l. sees_key key.Else l ≡ false) z s

  module _ (d : ℕ) where
    return_is : (at : Place) (ts : List Sym) → st.return_from r_ d at ts ≡ (ended d mark.Semicolon >>= (λ value. pure (x.Return at value))) ts
    unfolding st.return_from
    return_is at ts = ended_is (st.optional d mark.Semicolon ts) mark.Semicolon (λ value. pure (x.Return at value))

    abbrev single_reader : Place → Reader x.Stmt
    single_reader at = take_one single_as >>= (λ listed. st.body r_ >>= (λ b. pure (x.Single at listed.0 listed.1 (block_of b))))

    abbrev barrier_reader : Place → Reader x.Stmt
    barrier_reader at = take_one (λ s. if is_barrier s.class then Some s.names else None) >>= (λ listed. pure (x.Barrier at listed))

    abbrev picked : Place → Reader x.Stmt
    picked at =
        pick (34 ∷ 36 ∷ 4 ∷ 5 ∷ 15 ∷ 17 ∷ 18 ∷ 19 ∷ 20 ∷ 21 ∷ 22 ∷ []) (pick (34 ∷ 36 ∷ 4 ∷ 5 ∷ 15 ∷ 17 ∷ 18 ∷ 19 ∷ 20 ∷ 21 ∷ []) (pick (34 ∷ 36 ∷ 4 ∷ 5 ∷ 15 ∷ 17 ∷ 18 ∷ 19 ∷ 20 ∷ [])
        (pick (34 ∷ 36 ∷ 4 ∷ 5 ∷ 15 ∷ 17 ∷ 18 ∷ 19 ∷ []) (pick (34 ∷ 36 ∷ 4 ∷ 5 ∷ 15 ∷ 17 ∷ 18 ∷ []) (pick (34 ∷ 36 ∷ 4 ∷ 5 ∷ 15 ∷ 17 ∷ []) (pick (34 ∷ 36 ∷ 4 ∷ 5 ∷ 15 ∷ [])
        (pick (34 ∷ 36 ∷ 4 ∷ 5 ∷ []) (pick (34 ∷ 36 ∷ 4 ∷ []) (pick (34 ∷ 36 ∷ []) (pick (34 ∷ [])
        (st.block r_ d)
        (expect mark.Semicolon >>= (λ _. pure (x.Empty at))))
        (single_reader at))
        (barrier_reader at))
        (if deep then (expect_key key.If >>= (λ _. st.if_from r_ at)) else refuse))
        (if deep then (expect_key key.While >>= (λ _. st.while_from r_ at)) else refuse))
        (if deep then (expect_key key.Do >>= (λ _. st.do_from r_ at)) else refuse))
        (if deep then (expect_key key.For >>= (λ _. st.for_from r_ at)) else refuse))
        (expect_key key.Return >>= (λ _. st.return_from r_ d at)))
        (expect_key key.Break >>= (λ _. st.ended r_ d (x.Break at))))
        (expect_key key.Continue >>= (λ _. st.ended r_ d (x.Continue at))))
        (st.eval r_ d at)

    picked_exact : (at : Place) → Exact ((sg.statement_at gr.expression) p_ d at) (picked at) STMT else_after true
    unfolding sg.statement_at st.block st.ended st.eval
    picked_exact at =
        pick_over else_after (pick_over else_after (pick_over else_after (pick_over else_after (pick_over else_after (pick_over else_after (pick_over else_after (pick_over else_after (pick_over else_after (pick_over else_after (pick_over else_after
        (map_same block_of body_exact)
        (token_then (mark_exact mark.Semicolon) (λ _. give_exact (x.Empty at))) refl (λ _. refl) (λ _. refl))
        (token_then (one_exact single_as (4 ∷ []) (λ s a e. in_singles s.class s.names a e) refl) (λ listed. map_same (λ b. x.Single at listed.0 listed.1 (block_of b)) body_exact)) refl (λ a. within_self (else_after a)) (λ _. refl))
        (map_same (λ listed. x.Barrier at listed) (one_if_exact is_barrier (λ s. s.names) (5 ∷ []) in_barriers refl)) refl (λ a. within_self (else_after a)) (λ _. refl))
        (if_exact at) refl (λ a. within_self (else_after a)) (λ a. within_self (else_after a)))
        (while_exact at) refl (λ a. within_self (else_after a)) (λ a. within_self (else_after a)))
        (do_exact at) refl (λ a. within_self (else_after a)) (λ _. refl))
        (for_exact at) refl (λ a. within_self (else_after a)) (λ a. within_self (else_after a)))
        (token_then (key_exact key.Return) (λ _. by_reader _ (map_same (λ value. x.Return at value) (to_semicolon d)) (return_is at))) refl (λ a. within_self (else_after a)) (λ _. refl))
        (token_then (key_exact key.Break) (λ _. token_then (mark_exact mark.Semicolon) (λ _. give_exact (x.Break at)))) refl (λ a. within_self (else_after a)) (λ _. refl))
        (token_then (key_exact key.Continue) (λ _. token_then (mark_exact mark.Semicolon) (λ _. give_exact (x.Continue at)))) refl (λ a. within_self (else_after a)) (λ _. refl))
        (seq (expression_exact d part.Assign) (λ value. token_then (mark_exact mark.Semicolon) (λ _. give_exact (x.Eval at value))) refl) refl (λ a. within_self (else_after a)) (λ _. refl)

    picked_is_at : (at a : Place) (c : Class) (b : List ℕ) (n : List (List ℕ)) (ts : List Sym) → (deep' : Bool) → deep ≡ deep' → st.statement_by r_ d at c (record { at = a; class = c; bytes = b; names = n } ∷ ts) ≡ picked at (record { at = a; class = c; bytes = b; names = n } ∷ ts)
    unfolding st.single st.barrier expect expect_key sees sees_key same_mark same_key
    picked_is_at at a (class.Mark mark.OpenBrace) b n ts deep' e = refl
    picked_is_at at a (class.Mark mark.Semicolon) b n ts deep' e = refl
    picked_is_at at a (class.Single nowait) b n ts deep' e = refl
    picked_is_at at a class.Barrier b n ts deep' e = refl
    picked_is_at at a (class.Key key.If) b n ts deep' e = if_at deep (st.if_from r_ at) (expect_key key.If >>= (λ _. st.if_from r_ at)) (record { at = a; class = class.Key key.If; bytes = b; names = n } ∷ ts) refl
    picked_is_at at a (class.Key key.While) b n ts deep' e = if_at deep (st.while_from r_ at) (expect_key key.While >>= (λ _. st.while_from r_ at)) (record { at = a; class = class.Key key.While; bytes = b; names = n } ∷ ts) refl
    picked_is_at at a (class.Key key.Do) b n ts deep' e = if_at deep (st.do_from r_ at) (expect_key key.Do >>= (λ _. st.do_from r_ at)) (record { at = a; class = class.Key key.Do; bytes = b; names = n } ∷ ts) refl
    picked_is_at at a (class.Key key.For) b n ts deep' e = if_at deep (st.for_from r_ at) (expect_key key.For >>= (λ _. st.for_from r_ at)) (record { at = a; class = class.Key key.For; bytes = b; names = n } ∷ ts) refl
    picked_is_at at a (class.Key key.Return) b n ts deep' e = refl
    picked_is_at at a (class.Key key.Break) b n ts deep' e = refl
    picked_is_at at a (class.Key key.Continue) b n ts deep' e = refl
    picked_is_at at a (class.Binary binary.Multiply) b n ts deep' e = refl
    picked_is_at at a (class.Assign None) b n ts deep' e = refl
    picked_is_at at a c b n ts deep' e = refl

    picked_is : (at : Place) (ts : List Sym) → st.statement_by r_ d at (class_at ts) ts ≡ picked at ts
    picked_is at [] = refl
    picked_is at (s ∷ ts) = picked_is_at at s.at s.class s.bytes s.names ts deep refl

    pub statement_exact : Exact (placed ((sg.statement_at gr.expression) p_ d)) (st.statement_at r_ d) STMT else_after true
    unfolding st.statement_at
    statement_exact = by_reader _ (placed_exact ((sg.statement_at gr.expression) p_ d) picked STMT else_after picked_exact) (λ ts. picked_is (rd.place_at ts) ts)

    -- ---- no statement stops in front of an else of its own

    if_settled : (at : Place) (ts : List Sym) (t : x.Stmt) (rest : List Sym) → st.if_from r_ at ts ≡ Got t rest → is_open t ≡ true → sees_key key.Else rest ≡ false
    unfolding st.if_from
    if_settled at ts t rest e q =
        let m = then_got (st.condition r_ ts) _ t rest e in
        let k = then_got (sr m.1) (else_reader at m.0) t rest m.3 in
        else_settled at m.0 k.0 k.1 t rest (sees_key key.Else k.1) refl (sym (eaten (sees_key key.Else k.1) k.1 (sr >>= (λ other. pure (x.IfElse at m.0 k.0 other))) (pure (x.If at m.0 k.0))) ∙ k.3) q

    while_settled : (at : Place) (ts : List Sym) (t : x.Stmt) (rest : List Sym) → st.while_from r_ at ts ≡ Got t rest → is_open t ≡ true → sees_key key.Else rest ≡ false
    unfolding st.while_from
    while_settled at ts t rest e q =
        let m = then_got (st.condition r_ ts) _ t rest e in
        body_settled (sr m.1) (λ body. x.While at m.0 body) t rest (settled m.1) (λ body. refl) m.3 q

    for_settled : (at : Place) (ts : List Sym) (t : x.Stmt) (rest : List Sym) → st.for_from r_ at ts ≡ Got t rest → is_open t ≡ true → sees_key key.Else rest ≡ false
    unfolding st.for_from st.for_rest
    for_settled at ts t rest e q =
        let a = then_got (expect mark.Open ts) _ t rest e in
        let b = then_got (st.for_head r_ a.1) _ t rest a.3 in
        let c = then_got (st.optional depth mark.Semicolon b.1) _ t rest b.3 in
        let f = then_got (expect mark.Semicolon c.1) _ t rest c.3 in
        let g = then_got (st.optional depth mark.Close f.1) _ t rest f.3 in
        let h = then_got (expect mark.Close g.1) _ t rest g.3 in
        body_settled (sr h.1) (λ body. x.For at b.0 c.0 g.0 body) t rest (settled h.1) (λ body. refl) h.3 q

    do_settled : (at : Place) (ts : List Sym) (t : x.Stmt) (rest : List Sym) → st.do_from r_ at ts ≡ Got t rest → is_open t ≡ true → sees_key key.Else rest ≡ false
    unfolding st.do_from
    do_settled at ts t rest e q =
        let a = then_got (sr ts) _ t rest e in
        let b = then_got (expect_key key.While a.1) _ t rest a.3 in
        let c = then_got (st.condition r_ b.1) _ t rest b.3 in
        closed_by (expect mark.Semicolon c.1) (λ _. x.DoWhile at a.0 c.0) t rest c.3 (λ _. refl) q

    single_settled : (at : Place) (nowait : Bool) (ts : List Sym) (t : x.Stmt) (rest : List Sym) → st.single r_ d at nowait ts ≡ Got t rest → is_open t ≡ true → sees_key key.Else rest ≡ false
    unfolding st.single
    single_settled at nowait ts t rest e q = closed_by (st.body r_ (behind ts)) (λ b. x.Single at (rd.names_at ts) nowait (block_of b)) t rest e (λ _. refl) q

    return_settled : (at : Place) (ts : List Sym) (t : x.Stmt) (rest : List Sym) → st.return_from r_ d at ts ≡ Got t rest → is_open t ≡ true → sees_key key.Else rest ≡ false
    unfolding st.return_from
    return_settled at ts t rest e q =
        let a = then_got (st.optional d mark.Semicolon ts) _ t rest e in
        closed_by (expect mark.Semicolon a.1) (λ _. x.Return at a.0) t rest a.3 (λ _. refl) q

    eval_settled : (at : Place) (ts : List Sym) (t : x.Stmt) (rest : List Sym) → st.eval r_ d at ts ≡ Got t rest → is_open t ≡ true → sees_key key.Else rest ≡ false
    unfolding st.eval
    eval_settled at ts t rest e q =
        let a = then_got (ex.expression d part.Assign ts) _ t rest e in
        closed_by (expect mark.Semicolon a.1) (λ _. x.Eval at a.0) t rest a.3 (λ _. refl) q

    settled_by : (at : Place) (c : Class) (ts : List Sym) (t : x.Stmt) (rest : List Sym) → st.statement_by r_ d at c ts ≡ Got t rest → is_open t ≡ true → sees_key key.Else rest ≡ false
    unfolding st.block st.barrier st.ended
    settled_by at (class.Mark mark.OpenBrace) ts t rest e q = closed_by (st.body r_ ts) block_of t rest e (λ _. refl) q
    settled_by at (class.Mark mark.Semicolon) ts t rest e q = closed_by {A = Unit {0}} (Got tt (behind ts)) (λ _. x.Empty at) t rest e (λ _. refl) q
    settled_by at (class.Single nowait) ts t rest e q = single_settled at nowait ts t rest e q
    settled_by at class.Barrier ts t rest e q = closed_by (Got (rd.names_at ts) (behind ts)) (λ listed. x.Barrier at listed) t rest e (λ _. refl) q
    settled_by at (class.Key key.If) ts t rest e q = when_settled deep (st.if_from r_ at) ts t rest (if_settled at) e q
    settled_by at (class.Key key.While) ts t rest e q = when_settled deep (st.while_from r_ at) ts t rest (while_settled at) e q
    settled_by at (class.Key key.Do) ts t rest e q = when_settled deep (st.do_from r_ at) ts t rest (do_settled at) e q
    settled_by at (class.Key key.For) ts t rest e q = when_settled deep (st.for_from r_ at) ts t rest (for_settled at) e q
    settled_by at (class.Key key.Return) ts t rest e q = return_settled at (behind ts) t rest e q
    settled_by at (class.Key key.Break) ts t rest e q = closed_by (expect mark.Semicolon (behind ts)) (λ _. x.Break at) t rest e (λ _. refl) q
    settled_by at (class.Key key.Continue) ts t rest e q = closed_by (expect mark.Semicolon (behind ts)) (λ _. x.Continue at) t rest e (λ _. refl) q
    settled_by at c ts t rest e q = eval_settled at ts t rest e q

    pub statement_settled : Settled (st.statement_at r_ d)
    unfolding st.statement_at
    statement_settled ts t rest e q = settled_by (rd.place_at ts) (class_at ts) ts t rest e q

-- ---- statements of every depth

never_stmt : Exact {A = x.Stmt} nothing refuse STMT else_after true
never_stmt = widen STMT else_after nothing_exact refl (λ _. refl)

pub inside_exact : (d : ℕ) → Exact ((sg.inside gr.expression) d).stmt (st.inside d).stmt STMT else_after true × Settled (st.inside d).stmt
unfolding sg.inside st.inside
inside_exact zero = (never_stmt, λ ts t rest e q. cc)
inside_exact (suc zero) = let i = inside_exact zero in (statement_exact ((sg.inside gr.expression) zero).stmt (st.inside zero).stmt i.0 i.1 0 false zero, statement_settled ((sg.inside gr.expression) zero).stmt (st.inside zero).stmt i.0 i.1 0 false zero)
inside_exact (suc (suc d)) = let i = inside_exact (suc d) in (statement_exact ((sg.inside gr.expression) (suc d)).stmt (st.inside (suc d)).stmt i.0 i.1 d true (suc d), statement_settled ((sg.inside gr.expression) (suc d)).stmt (st.inside (suc d)).stmt i.0 i.1 d true (suc d))

-- the block of a function
pub block_exact : (d : ℕ) → Exact ((sg.body gr.expression) ((sg.inside gr.expression) d)) (st.body (st.inside d)) (34 ∷ []) (λ _. []) true
unfolding sg.inside st.inside
block_exact zero = let i = inside_exact zero in body_exact ((sg.inside gr.expression) zero).stmt (st.inside zero).stmt i.0 i.1 0 false
block_exact (suc d) = let i = inside_exact (suc d) in body_exact ((sg.inside gr.expression) (suc d)).stmt (st.inside (suc d)).stmt i.0 i.1 d true
