-- Unary, postfix and primary expressions are read exactly, where what is one deeper is.
use Rattle.std.proofs.Common.{◌≡◌, ℕ, Bool, true, false, if◌then◌else◌, not, List, [], ◌∷◌, ◌++◌, length, Some, None, refl, sym, ◌∙◌}
use Rattle.c_tree.specs.declared.syntax.Place.{Place}
use Rattle.c_tree.specs.declared.syntax.Binary.TheVariants as binary
use Rattle.c_tree.specs.Syntax as x
use Rattle.c_parse.specs.declared.symbols.Class.{Class}
use Rattle.c_parse.specs.declared.symbols.Class.TheVariants as class
use Rattle.c_parse.specs.declared.symbols.Key.TheVariants as key
use Rattle.c_parse.specs.declared.symbols.Mark.TheVariants as mark
use Rattle.c_parse.specs.declared.grammar.Part.{Part}
use Rattle.c_parse.specs.declared.grammar.Part.TheVariants as part
use Rattle.c_parse.specs.Symbols.{Sym}
use Rattle.c_parse.specs.Signs.{begins_base, is_mark, prefix_of, prefixed, same_mark, same_key}
use Rattle.c_parse.specs.Phrases.{Phrase, nothing, give, ◌or◌}
use Rattle.c_parse.specs.Phrases as ph
use Rattle.c_parse.specs.Reading.{Reader, ◌>>=◌, pure, refuse, class_at, sees, expect, expect_key, name}
use Rattle.c_parse.specs.Reading as rd
use Rattle.c_parse.specs.Expressions as ex
use Rattle.c_parse.specs.Grammar.{arguments_of, one_if, one_as, mark_, name_, when, number_as, is_text, change_as}
use Rattle.c_parse.specs.Grammar as gr
use Rattle.c_parse.proofs.Sets.{code, is_in}
use Rattle.c_parse.proofs.ClassTests.{in_mark, in_bases, BASES, in_prefixes, PREFIXES, NAMES, in_numbers, NUMBERS, in_texts, TEXTS, in_changes, CHANGES, tighter_codes}
use Rattle.c_parse.proofs.Exact.{Exact, Stops, give_exact, nothing_exact, take_one}
use Rattle.c_parse.proofs.Choices.{Same, widen, by_reader, by_phrase, or_swap, or_exact, placed_exact, same_refl, same_sym, same_trans, same_bind, same_or, or_then, factor, regroup, give_then, nothing_then, nothing_twice, arrange}
use Rattle.c_parse.proofs.Repeats.{repeat_exact}
use Rattle.c_parse.proofs.Blocks.{token_then, seq, seq_maybe, map_same, one_as_exact, one_if_exact, mark_exact, key_exact, name_exact, branch_exact, eaten, when_exact, repeat_is, pick, pick_exact, if_yes_at, if_no_at}
use Rattle.c_parse.proofs.TypesRead.{type_base_exact, type_name_exact, separated_exact}

-- with what an expression begins
abbrev pub EXPR : List ℕ
EXPR = 41 ∷ 8 ∷ 50 ∷ 53 ∷ 54 ∷ 63 ∷ 30 ∷ 23 ∷ 0 ∷ 1 ∷ 2 ∷ []

-- with what a unary expression goes on
abbrev pub STEPS : List ℕ
STEPS = 8 ∷ 38 ∷ 32 ∷ 30 ∷ []

-- with what each kind of expression goes on
abbrev pub after : Part → List ℕ
after part.Unary = STEPS
after part.Cond = 39 ∷ (tighter_codes 10 ++ STEPS)
after part.Assign = 9 ∷ 42 ∷ 39 ∷ (tighter_codes 10 ++ STEPS)

abbrev pub Below : (Part → Phrase x.Expr) → (Part → Reader x.Expr) → Type 0
Below bp br = (q : Part) → Exact (bp q) (br q) EXPR (λ _. after q) true

abbrev pub phrases : Bool → (Part → Phrase x.Expr) → gr.Nest
phrases deep bp = record { deep = deep; below = bp }

abbrev pub readers : Bool → (Part → Reader x.Expr) → ex.Nest
readers deep br = record { deep = deep; below = br }

module _ (bp : Part → Phrase x.Expr) (br : Part → Reader x.Expr) (eb : Below bp br) where
  -- ---- names and calls

  arguments_exact : (deep : Bool) → Exact (gr.arguments (phrases deep bp)) (ex.arguments (readers deep br)) (31 ∷ EXPR) (λ _. []) true
  unfolding gr.arguments ex.arguments sees
  arguments_exact deep = by_reader _ (branch_exact (is_mark mark.Close) (31 ∷ []) (λ _. []) (in_mark mark.Close) refl refl (give_exact []) listed refl (λ _. refl) (λ _. refl) (λ e. cc))
      (λ ts. eaten (is_mark mark.Close (class_at ts)) ts _ _)
    where
      listed : Exact (ph.◌>>=◌ (gr.separated (bp part.Assign)) (λ es. ph.◌>>◌ (mark_ mark.Close) (give es))) (rd.separated (br part.Assign) >>= (λ es. expect mark.Close >>= (λ _. pure es))) EXPR (λ _. []) true
      listed = seq (separated_exact (eb part.Assign) refl) (λ es. token_then (mark_exact mark.Close) (λ _. give_exact es)) refl

  -- behind a name
  called_exact : (deep : Bool) (at : Place) (called : List ℕ) → Exact (give (x.Name at called) or when deep (ph.◌>>◌ (mark_ mark.Open) (ph.◌>>=◌ (gr.arguments (phrases deep bp)) (λ es. give (x.Call at called (arguments_of es)))))) (ex.named (readers deep br) at called) (30 ∷ []) (λ _. 30 ∷ []) false
  unfolding ex.named ex.calls sees
  called_exact true at called = by_phrase _ (by_reader _ (branch_exact (is_mark mark.Open) (30 ∷ []) (λ _. 30 ∷ []) (in_mark mark.Open) refl refl
      (map_same (λ es. x.Call at called (arguments_of es)) (arguments_exact true)) (give_exact (x.Name at called)) refl (λ _. refl) (λ _. refl) (λ _ _ _. refl))
      (λ ts. eaten (is_mark mark.Open (class_at ts)) ts _ _)) (or_swap _ _)
  called_exact false at called = by_phrase _ (by_reader _ (widen (30 ∷ []) (λ _. 30 ∷ [])
      (or_exact nothing (give (x.Name at called)) refuse (pure (x.Name at called)) (pure (x.Name at called)) [] [] (λ _. []) (λ _. []) (λ _. []) false nothing_exact (give_exact (x.Name at called)) refl (λ s ts e. cc) (λ s ts e. refl) refl (λ _. refl) (λ _. refl) (λ _ _ _. refl))
      refl (λ _. refl)) (λ ts. eaten false ts (ex.arguments (readers false br) >>= (λ found. pure (x.Call at called (arguments_of found)))) (pure (x.Name at called)))) (or_swap _ _)

  named_exact : (deep : Bool) (at : Place) → Exact (gr.named (phrases deep bp) at) (name >>= ex.named (readers deep br) at) NAMES (λ _. 30 ∷ []) true
  unfolding gr.named
  named_exact deep at = token_then name_exact (called_exact deep at)

  -- ---- names, numbers, texts

  abbrev number_ : Place → Phrase x.Expr
  number_ at = ph.◌>>=◌ (one_as number_as) (λ n. give (x.Number at n.0 n.1))

  abbrev text_ : Place → Phrase x.Expr
  text_ at = ph.◌>>=◌ (one_if is_text (λ s. s.bytes)) (λ text. give (x.Text at text))

  abbrev atom : Bool → Place → Phrase x.Expr
  atom deep at = gr.named (phrases deep bp) at or number_ at or text_ at

  abbrev atom_reader : Bool → Place → Reader x.Expr
  atom_reader deep at = pick (0 ∷ 1 ∷ []) (pick (0 ∷ []) (name >>= ex.named (readers deep br) at) (take_one (λ s. number_as s.class) >>= (λ n. pure (x.Number at n.0 n.1))))
      (take_one (λ s. if is_text s.class then Some s.bytes else None) >>= (λ text. pure (x.Text at text)))

  primary_is_at : (deep : Bool) (at a : Place) (c : Class) (b : List ℕ) (n : List (List ℕ)) (ts : List Sym) → ex.primary (readers deep br) at (record { at = a; class = c; bytes = b; names = n } ∷ ts) ≡ atom_reader deep at (record { at = a; class = c; bytes = b; names = n } ∷ ts)
  unfolding ex.primary name
  primary_is_at deep at a (class.Key key.Int) b n ts = refl
  primary_is_at deep at a (class.Mark mark.Open) b n ts = refl
  primary_is_at deep at a (class.Binary binary.Multiply) b n ts = refl
  primary_is_at deep at a (class.Assign None) b n ts = refl
  primary_is_at deep at a c b n ts = refl

  primary_is : (deep : Bool) (at : Place) (ts : List Sym) → ex.primary (readers deep br) at ts ≡ atom_reader deep at ts
  unfolding ex.primary
  primary_is deep at [] = refl
  primary_is deep at (s ∷ ts) = primary_is_at deep at s.at s.class s.bytes s.names ts

  atom_exact : (deep : Bool) (at : Place) → Exact (atom deep at) (ex.primary (readers deep br) at) (0 ∷ 1 ∷ 2 ∷ []) (λ _. 30 ∷ []) true
  atom_exact deep at = by_reader _ (pick_exact (30 ∷ [])
      (pick_exact (30 ∷ []) (named_exact deep at) (map_same (λ n. x.Number at n.0 n.1) (one_as_exact number_as NUMBERS in_numbers refl)) refl refl refl)
      (map_same (λ text. x.Text at text) (one_if_exact is_text (λ s. s.bytes) TEXTS in_texts refl)) refl refl refl) (primary_is deep at)

  -- ---- what stands behind a primary expression

  index_exact : (deep : Bool) (at : Place) (operand : x.Expr) → Exact (ph.◌>>◌ (mark_ mark.OpenSquare) (ph.◌>>=◌ (bp part.Assign) (λ i. ph.◌>>◌ (mark_ mark.CloseSquare) (give (x.Index at operand i))))) (expect mark.OpenSquare >>= (λ _. ex.index (readers deep br) at operand)) (32 ∷ []) (λ _. []) true
  unfolding ex.index
  index_exact deep at operand = token_then (mark_exact mark.OpenSquare) (λ _. seq (eb part.Assign) (λ i. token_then (mark_exact mark.CloseSquare) (λ _. give_exact (x.Index at operand i))) refl)

  field_exact : (deep : Bool) (at : Place) (operand : x.Expr) → Exact (ph.◌>>◌ (mark_ mark.Dot) (ph.◌>>=◌ name_ (λ field. give (x.Field at operand field)))) (expect mark.Dot >>= (λ _. ex.field (readers deep br) at operand)) (38 ∷ []) (λ _. []) true
  unfolding ex.field
  field_exact deep at operand = token_then (mark_exact mark.Dot) (λ _. map_same (λ field. x.Field at operand field) name_exact)

  abbrev step_reader : Bool → Place → x.Expr → Reader x.Expr
  step_reader deep at operand = pick (8 ∷ 38 ∷ []) (pick (8 ∷ []) (take_one (λ s. change_as s.class) >>= (λ c. pure (x.Postfix at c operand))) (expect mark.Dot >>= (λ _. ex.field (readers deep br) at operand)))
      (if deep then (expect mark.OpenSquare >>= (λ _. ex.index (readers deep br) at operand)) else refuse)

  step_exact : (deep : Bool) (at : Place) (operand : x.Expr) → Exact (gr.postfix_step (phrases deep bp) at operand) (step_reader deep at operand) (8 ∷ 38 ∷ 32 ∷ []) (λ _. []) true
  unfolding gr.postfix_step
  step_exact deep at operand = pick_exact []
      (pick_exact [] (map_same (λ c. x.Postfix at c operand) (one_as_exact change_as CHANGES in_changes refl)) (field_exact deep at operand) refl refl refl)
      (when_exact deep (index_exact deep at operand)) refl refl refl

  step_is_at : (deep : Bool) (at : Place) (operand : x.Expr) (a : Place) (c : Class) (b : List ℕ) (n : List (List ℕ)) (ts : List Sym) → not (ex.goes_on (readers deep br) c) ≡ false → ex.postfix_by (readers deep br) at operand c (record { at = a; class = c; bytes = b; names = n } ∷ ts) ≡ step_reader deep at operand (record { at = a; class = c; bytes = b; names = n } ∷ ts)
  unfolding expect sees same_mark
  step_is_at true at operand a (class.Change change) b n ts e = refl
  step_is_at true at operand a (class.Mark mark.Dot) b n ts e = refl
  step_is_at true at operand a (class.Mark mark.OpenSquare) b n ts e = refl
  step_is_at false at operand a (class.Change change) b n ts e = refl
  step_is_at false at operand a (class.Mark mark.Dot) b n ts e = refl
  step_is_at true at operand a c b n ts e = cc
  step_is_at false at operand a c b n ts e = cc

  step_is : (deep : Bool) (at : Place) (operand : x.Expr) (ts : List Sym) → ex.stops (readers deep br) ts ≡ false → ex.postfix (readers deep br) at operand ts ≡ step_reader deep at operand ts
  unfolding ex.stops ex.postfix
  step_is true at operand [] e = cc
  step_is false at operand [] e = cc
  step_is deep at operand (s ∷ ts) e = step_is_at deep at operand s.at s.class s.bytes s.names ts e

  -- the same where no index may stand
  step_exact_flat : (at : Place) (operand : x.Expr) → Exact (gr.postfix_step (phrases false bp) at operand) (step_reader false at operand) (8 ∷ 38 ∷ []) (λ _. []) true
  unfolding gr.postfix_step
  step_exact_flat at operand = pick_exact []
      (pick_exact [] (map_same (λ c. x.Postfix at c operand) (one_as_exact change_as CHANGES in_changes refl)) (field_exact false at operand) refl refl refl)
      nothing_exact refl refl refl

  goes_in : (deep : Bool) (c : Class) → is_in (8 ∷ 38 ∷ 32 ∷ []) (code c) ≡ false → not (ex.goes_on (readers deep br) c) ≡ true
  unfolding same_mark
  goes_in true (class.Key key.Int) e = refl
  goes_in true (class.Mark mark.Open) e = refl
  goes_in true (class.Mark mark.Dot) e = cc
  goes_in true (class.Mark mark.OpenSquare) e = cc
  goes_in true (class.Change change) e = cc
  goes_in true (class.Binary binary.Multiply) e = refl
  goes_in true (class.Assign None) e = refl
  goes_in false (class.Key key.Int) e = refl
  goes_in false (class.Mark mark.Open) e = refl
  goes_in false (class.Mark mark.Dot) e = cc
  goes_in false (class.Mark mark.OpenSquare) e = cc
  goes_in false (class.Change change) e = cc
  goes_in false (class.Binary binary.Multiply) e = refl
  goes_in false (class.Assign None) e = refl
  goes_in deep c e = refl

  steps_end : (deep : Bool) (rest : List Sym) → Stops (8 ∷ 38 ∷ 32 ∷ []) rest → ex.stops (readers deep br) rest ≡ true
  unfolding ex.stops
  steps_end true [] e = refl
  steps_end false [] e = refl
  steps_end deep (s ∷ rest) e = goes_in deep s.class e

  in_deep : (c : Class) → is_in (8 ∷ 38 ∷ 32 ∷ []) (code c) ≡ true → not (ex.goes_on (readers true br) c) ≡ false
  unfolding same_mark
  in_deep (class.Key key.Int) e = cc
  in_deep (class.Mark mark.Dot) e = refl
  in_deep (class.Mark mark.OpenSquare) e = refl
  in_deep (class.Change change) e = refl
  in_deep (class.Binary binary.Multiply) e = cc
  in_deep (class.Assign None) e = cc
  in_deep c e = cc

  in_flat : (c : Class) → is_in (8 ∷ 38 ∷ []) (code c) ≡ true → not (ex.goes_on (readers false br) c) ≡ false
  unfolding same_mark
  in_flat (class.Key key.Int) e = cc
  in_flat (class.Mark mark.Dot) e = refl
  in_flat (class.Change change) e = refl
  in_flat (class.Binary binary.Multiply) e = cc
  in_flat (class.Assign None) e = cc
  in_flat c e = cc

  steps_begin_deep : (c : Sym) (ts : List Sym) → is_in (8 ∷ 38 ∷ 32 ∷ []) (code c.class) ≡ true → ex.stops (readers true br) (c ∷ ts) ≡ false
  unfolding ex.stops
  steps_begin_deep c ts e = in_deep c.class e

  steps_begin_flat : (c : Sym) (ts : List Sym) → is_in (8 ∷ 38 ∷ []) (code c.class) ≡ true → ex.stops (readers false br) (c ∷ ts) ≡ false
  unfolding ex.stops
  steps_begin_flat c ts e = in_flat c.class e

  postfixes_exact : (deep : Bool) (at : Place) (operand : x.Expr) → Exact (ph.repeat (gr.postfix_step (phrases deep bp) at) operand) (ex.postfixes (readers deep br) at operand) (8 ∷ 38 ∷ 32 ∷ []) (λ _. 8 ∷ 38 ∷ 32 ∷ []) false
  unfolding ex.postfixes
  postfixes_exact true at operand = by_reader _
      (repeat_exact (gr.postfix_step (phrases true bp) at) (step_reader true at) (ex.stops (readers true br)) (8 ∷ 38 ∷ 32 ∷ []) [] (step_exact true at) steps_begin_deep refl (λ _. 8 ∷ 38 ∷ 32 ∷ []) (λ _. refl) (λ _. steps_end true) operand)
      (λ ts. repeat_is (ex.stops (readers true br)) (ex.postfix (readers true br) at) (step_reader true at) (step_is true at) (length ts) operand ts)
  postfixes_exact false at operand = by_reader _
      (widen (8 ∷ 38 ∷ 32 ∷ []) (λ _. 8 ∷ 38 ∷ 32 ∷ []) (repeat_exact (gr.postfix_step (phrases false bp) at) (step_reader false at) (ex.stops (readers false br)) (8 ∷ 38 ∷ []) [] (step_exact_flat at) steps_begin_flat refl (λ _. 8 ∷ 38 ∷ 32 ∷ []) (λ _. refl) (λ _. steps_end false) operand) refl (λ _. refl))
      (λ ts. repeat_is (ex.stops (readers false br)) (ex.postfix (readers false br) at) (step_reader false at) (step_is false at) (length ts) operand ts)

  -- ---- behind a bracket

  abbrev steps_ : Bool → Place → x.Expr → Phrase x.Expr
  steps_ deep at = ph.repeat (gr.postfix_step (phrases deep bp) at)

  plain_exact : (deep : Bool) (at : Place) → Exact (ph.◌>>=◌ (atom deep at) (steps_ deep at)) (ex.plain (readers deep br) at) (0 ∷ 1 ∷ 2 ∷ []) (λ _. STEPS) true
  unfolding ex.plain
  plain_exact deep at = seq_maybe (atom_exact deep at) (postfixes_exact deep at) refl

  abbrev cast_rest : Place → Phrase x.Expr
  cast_rest at = ph.◌>>=◌ gr.type_name (λ to. ph.◌>>◌ (mark_ mark.Close) (ph.◌>>=◌ (bp part.Unary) (λ operand. give (x.Cast at to operand))))

  cast_exact : (deep : Bool) (at : Place) → Exact (cast_rest at) (ex.cast (readers deep br) at) BASES (λ _. STEPS) true
  unfolding ex.cast
  cast_exact deep at = seq type_name_exact (λ to. token_then (mark_exact mark.Close) (λ _. map_same (λ operand. x.Cast at to operand) (eb part.Unary))) refl

  abbrev group_rest : Bool → Place → Phrase x.Expr
  group_rest deep at = ph.◌>>=◌ (bp part.Assign) (λ e. ph.◌>>◌ (mark_ mark.Close) (steps_ deep at e))

  grouped_exact : (deep : Bool) (at : Place) → Exact (group_rest deep at) (ex.grouped (readers deep br) at) EXPR (λ _. 8 ∷ 38 ∷ 32 ∷ []) true
  unfolding ex.grouped
  grouped_exact deep at = seq (eb part.Assign) (λ e. token_then (mark_exact mark.Close) (λ _. postfixes_exact deep at e)) refl

  bracketed_exact : (deep : Bool) (at : Place) → Exact (cast_rest at or group_rest deep at) (ex.bracketed (readers deep br) at) (BASES ++ EXPR) (λ _. STEPS) true
  unfolding ex.bracketed
  bracketed_exact deep at = or_exact (cast_rest at) (group_rest deep at) (ex.cast (readers deep br) at) (ex.grouped (readers deep br) at) (ex.bracketed (readers deep br) at) BASES EXPR (λ _. STEPS) (λ _. 8 ∷ 38 ∷ 32 ∷ []) (λ _. STEPS) true
      (cast_exact deep at) (grouped_exact deep at) refl
      (λ s ts e. if_yes_at (begins_base s.class) _ _ (s ∷ ts) (sym (in_bases s.class) ∙ e))
      (λ s ts e. if_no_at (begins_base s.class) _ _ (s ∷ ts) (sym (in_bases s.class) ∙ e))
      refl (λ _. refl) (λ _. refl) (λ e. cc)

  size_exact : (deep : Bool) (at : Place) → Exact (gr.size_of (phrases deep bp) at) (expect_key key.SizeOf >>= (λ _. ex.size_of (readers deep br) at)) (23 ∷ []) (λ _. []) true
  unfolding gr.size_of ex.size_of
  size_exact deep at = token_then (key_exact key.SizeOf) (λ _. token_then (mark_exact mark.Open) (λ _. seq type_base_exact (λ of. token_then (mark_exact mark.Close) (λ _. give_exact (x.SizeOf at of))) refl))

  abbrev signed_reader : Place → Reader x.Expr
  signed_reader at = take_one (λ s. prefix_of s.class) >>= (λ sign. br part.Unary >>= (λ operand. pure (prefixed at sign operand)))

  signed_exact : (deep : Bool) (at : Place) → Exact (gr.signed (phrases deep bp) at) (if deep then signed_reader at else refuse) PREFIXES (λ _. STEPS) true
  unfolding gr.signed
  signed_exact deep at = when_exact deep (token_then (one_as_exact prefix_of PREFIXES in_prefixes refl) (λ sign. map_same (λ operand. prefixed at sign operand) (eb part.Unary)))

  -- ---- unary expressions, with what stands in brackets put together

  abbrev arranged : Bool → Place → Phrase x.Expr
  arranged deep at =
      gr.signed (phrases deep bp) at
      or (when deep (ph.◌>>◌ (mark_ mark.Open) (cast_rest at or group_rest deep at))
      or (gr.size_of (phrases deep bp) at or ph.◌>>=◌ (atom deep at) (steps_ deep at)))

  abbrev arranged_reader : Bool → Place → Reader x.Expr
  arranged_reader deep at =
      pick PREFIXES (if deep then signed_reader at else refuse)
      (pick (30 ∷ []) (if deep then (expect mark.Open >>= (λ _. ex.bracketed (readers deep br) at)) else refuse)
      (pick (23 ∷ []) (expect_key key.SizeOf >>= (λ _. ex.size_of (readers deep br) at)) (ex.plain (readers deep br) at)))

  arranged_exact : (deep : Bool) (at : Place) → Exact (arranged deep at) (arranged_reader deep at) EXPR (λ _. STEPS) true
  arranged_exact deep at =
      pick_exact STEPS (signed_exact deep at)
      (pick_exact STEPS (when_exact deep (token_then (mark_exact mark.Open) (λ _. bracketed_exact deep at)))
      (pick_exact STEPS (size_exact deep at) (plain_exact deep at) refl refl refl) refl refl refl) refl refl refl

  unary_is_at : (deep : Bool) (at a : Place) (c : Class) (b : List ℕ) (n : List (List ℕ)) (ts : List Sym) → ex.unary_by (readers deep br) at (prefix_of c) c (record { at = a; class = c; bytes = b; names = n } ∷ ts) ≡ arranged_reader deep at (record { at = a; class = c; bytes = b; names = n } ∷ ts)
  unfolding ex.signed expect expect_key sees rd.sees_key same_mark same_key
  unary_is_at true at a (class.Key key.Int) b n ts = refl
  unary_is_at true at a (class.Mark mark.Open) b n ts = refl
  unary_is_at true at a (class.Binary binary.Multiply) b n ts = refl
  unary_is_at true at a (class.Assign None) b n ts = refl
  unary_is_at false at a (class.Key key.Int) b n ts = refl
  unary_is_at false at a (class.Mark mark.Open) b n ts = refl
  unary_is_at false at a (class.Binary binary.Multiply) b n ts = refl
  unary_is_at false at a (class.Assign None) b n ts = refl
  unary_is_at true at a c b n ts = refl
  unary_is_at false at a c b n ts = refl

  unary_is : (deep : Bool) (at : Place) (ts : List Sym) → ex.unary_by (readers deep br) at (prefix_of (class_at ts)) (class_at ts) ts ≡ arranged_reader deep at ts
  unfolding same_mark same_key
  unary_is true at [] = refl
  unary_is false at [] = refl
  unary_is deep at (s ∷ ts) = unary_is_at deep at s.at s.class s.bytes s.names ts

  group_same : (deep : Bool) (at : Place) → Same (ph.◌>>=◌ (gr.grouped (phrases deep bp)) (steps_ deep at)) (when deep (ph.◌>>◌ (mark_ mark.Open) (group_rest deep at)))
  unfolding gr.grouped
  group_same true at = same_trans (regroup (mark_ mark.Open) _ (steps_ true at)) (same_bind (same_refl (mark_ mark.Open)) (λ _.
      same_trans (regroup (bp part.Assign) (λ e. ph.◌>>◌ (mark_ mark.Close) (give e)) (steps_ true at)) (same_bind (same_refl (bp part.Assign)) (λ e.
      same_trans (regroup (mark_ mark.Close) (λ _. give e) (steps_ true at)) (same_bind (same_refl (mark_ mark.Close)) (λ _.
      give_then e (steps_ true at) (postfixes_exact true at e).empty))))))
  group_same false at = nothing_then (steps_ false at)

  bracket_same : (deep : Bool) (at : Place) → Same (gr.cast (phrases deep bp) at or when deep (ph.◌>>◌ (mark_ mark.Open) (group_rest deep at))) (when deep (ph.◌>>◌ (mark_ mark.Open) (cast_rest at or group_rest deep at)))
  unfolding gr.cast
  bracket_same true at = factor (mark_ mark.Open) (λ _. cast_rest at) (λ _. group_rest true at)
  bracket_same false at = nothing_twice

  arranged_same : (deep : Bool) (at : Place) → Same (arranged deep at) (gr.signed (phrases deep bp) at or gr.cast (phrases deep bp) at or gr.size_of (phrases deep bp) at or gr.postfix (phrases deep bp) at)
  unfolding gr.postfix gr.primary
  arranged_same deep at = same_sym (
      same_trans (same_or (same_refl _) (same_trans (or_then (atom deep at) (gr.grouped (phrases deep bp)) (steps_ deep at)) (same_or (same_refl _) (group_same deep at))))
      (same_trans (arrange _ _ _ _ _) (same_or (same_refl _) (same_or (bracket_same deep at) (same_refl _)))))

  pub unary_exact : (deep : Bool) → Exact (gr.unary (phrases deep bp)) (ex.unary (readers deep br)) EXPR (λ _. STEPS) true
  unfolding gr.unary ex.unary
  unary_exact deep = by_reader _ (placed_exact _ (arranged_reader deep) EXPR (λ _. STEPS) (λ at. by_phrase _ (arranged_exact deep at) (arranged_same deep at))) (λ ts. unary_is deep (rd.place_at ts) ts)
