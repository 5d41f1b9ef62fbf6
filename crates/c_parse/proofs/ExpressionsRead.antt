-- Binary, conditional and assignment expressions are read exactly, and so are expressions of every depth.
use Rattle.std.proofs.Common.{◌≡◌, ℕ, zero, suc, ◌<◌, ◌≤◌, arith, Bool, true, false, not, List, [], ◌∷◌, ◌++◌, length, Option, Some, None, refl, sym, ap, ◌∙◌}
use Rattle.c_tree.specs.declared.syntax.Place.{Place}
use Rattle.c_tree.specs.declared.syntax.Binary.{Binary}
use Rattle.c_tree.specs.declared.syntax.Binary.TheVariants as binary
use Rattle.mpc_values.specs.declared.limits.TheConstants.{MAX_EXPRESSION_TOKENS}
use Rattle.c_tree.specs.Syntax as x
use Rattle.c_parse.specs.declared.symbols.Class.{Class}
use Rattle.c_parse.specs.declared.symbols.Class.TheVariants as class
use Rattle.c_parse.specs.declared.symbols.Key.TheVariants as key
use Rattle.c_parse.specs.declared.symbols.Mark.TheVariants as mark
use Rattle.c_parse.specs.declared.grammar.Part.{Part}
use Rattle.c_parse.specs.declared.grammar.Part.TheVariants as part
use Rattle.c_parse.specs.Symbols.{Sym}
use Rattle.c_parse.specs.Signs.{is_mark, binary_of, assigns}
use Rattle.c_parse.specs.Phrases.{Phrase, nothing, give, ◌or◌, placed}
use Rattle.c_parse.specs.Phrases as ph
use Rattle.c_parse.specs.Reading.{Read, Got, Fails, Reader, and_then, ◌>>=◌, pure, refuse, class_at, sees, here}
use Rattle.c_parse.specs.Reading as rd
use Rattle.c_parse.specs.Expressions as ex
use Rattle.c_parse.specs.Grammar.{one_as}
use Rattle.c_parse.specs.Grammar as gr
use Rattle.c_parse.proofs.Sets.{code, is_in, apart, within, within_no}
use Rattle.c_parse.proofs.ClassTests.{in_mark, in_level, in_assigns, ASSIGNS, level_codes, tighter_codes}
use Rattle.c_parse.proofs.Exact.{Exact, Stops, left, give_exact, nothing_exact, take_one, taken}
use Rattle.c_parse.proofs.Choices.{Same, widen, by_reader, by_phrase, or_exact, placed_exact, same_refl, same_sym, same_trans, same_bind, same_or, factor, regroup, then_give}
use Rattle.c_parse.proofs.Repeats.{repeat_exact}
use Rattle.c_parse.proofs.Blocks.{token_then, seq, seq_maybe, maybe_both, map_same, one_as_exact, mark_exact, branch_exact, eaten, repeat_is}
use Rattle.c_parse.proofs.Windows.{at_most_exact}
use Rattle.c_parse.proofs.UnaryRead.{EXPR, STEPS, after, Below, phrases, readers, unary_exact}

-- what holds of the signs of a level, by computing
record LevelFacts (level : ℕ) : Type 0 where
  plain : is_in (level_codes level) 6 ≡ false
  parted : apart (level_codes level) (tighter_codes level ++ STEPS) ≡ true
  more : within (tighter_codes level ++ STEPS) (tighter_codes (suc level) ++ STEPS) ≡ true
  own : within (level_codes level) (tighter_codes (suc level) ++ STEPS) ≡ true
  both : within ((tighter_codes (suc level) ++ STEPS) ++ (tighter_codes level ++ STEPS)) (tighter_codes (suc level) ++ STEPS) ≡ true
  starts : within (tighter_codes level ++ level_codes level) (tighter_codes (suc level)) ≡ true

level_facts : (level : ℕ) → level < 10 → LevelFacts level
level_facts zero lt = record { plain = refl; parted = refl; more = refl; own = refl; both = refl; starts = refl }
level_facts (suc zero) lt = record { plain = refl; parted = refl; more = refl; own = refl; both = refl; starts = refl }
level_facts (suc (suc zero)) lt = record { plain = refl; parted = refl; more = refl; own = refl; both = refl; starts = refl }
level_facts (suc (suc (suc zero))) lt = record { plain = refl; parted = refl; more = refl; own = refl; both = refl; starts = refl }
level_facts (suc (suc (suc (suc zero)))) lt = record { plain = refl; parted = refl; more = refl; own = refl; both = refl; starts = refl }
level_facts (suc (suc (suc (suc (suc zero))))) lt = record { plain = refl; parted = refl; more = refl; own = refl; both = refl; starts = refl }
level_facts (suc (suc (suc (suc (suc (suc zero)))))) lt = record { plain = refl; parted = refl; more = refl; own = refl; both = refl; starts = refl }
level_facts (suc (suc (suc (suc (suc (suc (suc zero))))))) lt = record { plain = refl; parted = refl; more = refl; own = refl; both = refl; starts = refl }
level_facts (suc (suc (suc (suc (suc (suc (suc (suc zero)))))))) lt = record { plain = refl; parted = refl; more = refl; own = refl; both = refl; starts = refl }
level_facts (suc (suc (suc (suc (suc (suc (suc (suc (suc zero))))))))) lt = record { plain = refl; parted = refl; more = refl; own = refl; both = refl; starts = refl }
level_facts (suc (suc (suc (suc (suc (suc (suc (suc (suc (suc n)))))))))) lt = absurd (omega arith)

record TighterFacts (level : ℕ) : Type 0 where
  parted : apart (tighter_codes level) STEPS ≡ true
  both : within ((tighter_codes level ++ STEPS) ++ STEPS) (tighter_codes level ++ STEPS) ≡ true

tighter_facts : (level : ℕ) → level ≤ 10 → TighterFacts level
tighter_facts zero lt = record { parted = refl; both = refl }
tighter_facts (suc zero) lt = record { parted = refl; both = refl }
tighter_facts (suc (suc zero)) lt = record { parted = refl; both = refl }
tighter_facts (suc (suc (suc zero))) lt = record { parted = refl; both = refl }
tighter_facts (suc (suc (suc (suc zero)))) lt = record { parted = refl; both = refl }
tighter_facts (suc (suc (suc (suc (suc zero))))) lt = record { parted = refl; both = refl }
tighter_facts (suc (suc (suc (suc (suc (suc zero)))))) lt = record { parted = refl; both = refl }
tighter_facts (suc (suc (suc (suc (suc (suc (suc zero))))))) lt = record { parted = refl; both = refl }
tighter_facts (suc (suc (suc (suc (suc (suc (suc (suc zero)))))))) lt = record { parted = refl; both = refl }
tighter_facts (suc (suc (suc (suc (suc (suc (suc (suc (suc zero))))))))) lt = record { parted = refl; both = refl }
tighter_facts (suc (suc (suc (suc (suc (suc (suc (suc (suc (suc zero)))))))))) lt = record { parted = refl; both = refl }
tighter_facts (suc (suc (suc (suc (suc (suc (suc (suc (suc (suc (suc n))))))))))) lt = absurd (omega arith)

operation_is_at : (br : Part → Reader x.Expr) (deep : Bool) (tighter : Place → x.Expr → Reader x.Expr) (at : Place) (left : x.Expr) (s : Sym) (ts : List Sym) (o : Option Binary) → ex.operation_by (readers deep br) tighter at left o (s ∷ ts) ≡ and_then (taken o s ts) (λ sign. (here >>= (λ from. br part.Unary >>= tighter from)) >>= (λ right. pure (x.Binary' at sign left right)))
operation_is_at br deep tighter at left s ts None = refl
operation_is_at br deep tighter at left s ts (Some sign) = reassociate (br part.Unary ts) (tighter (rd.place_at ts)) (λ right rest. Got (x.Binary' at sign left right) rest)
  where
    reassociate : {A B C : Type 0} (o : Read A) (k : A → Reader B) (l : B → Reader C) → and_then o (λ a rest. and_then (k a rest) l) ≡ and_then (and_then o k) l
    reassociate (Got a rest) k l = refl
    reassociate (Fails rest) k l = refl

module _ (bp : Part → Phrase x.Expr) (br : Part → Reader x.Expr) (eb : Below bp br) (deep : Bool) where
  abbrev p_ : gr.Nest
  p_ = phrases deep bp

  abbrev r_ : ex.Nest
  r_ = readers deep br

  -- ---- binary levels, from their first operand on

  abbrev step_ : ℕ → Place → x.Expr → Phrase x.Expr
  step_ level at = gr.operation p_ level (placed (gr.binary p_ level)) at

  from : ℕ → Place → x.Expr → Phrase x.Expr
  from zero at first = give first
  from (suc level) at first = ph.◌>>=◌ (from level at first) (λ left. ph.repeat (step_ level at) left)

  binary_same : (level : ℕ) (at : Place) → Same (gr.binary p_ level at) (ph.◌>>=◌ (bp part.Unary) (from level at))
  unfolding gr.binary from
  binary_same zero at = same_sym (then_give (bp part.Unary) (eb part.Unary).whole)
  binary_same (suc level) at = same_trans (same_bind (binary_same level at) (λ left. same_refl _)) (regroup (bp part.Unary) (from level at) (λ left. ph.repeat (step_ level at) left))

  operand_reader : ℕ → Place → Reader x.Expr
  operand_reader level at = br part.Unary >>= ex.climb r_ level at

  operation_reader : ℕ → Place → x.Expr → Reader x.Expr
  operation_reader level at left = take_one (λ s. binary_of level s.class) >>= (λ sign. (here >>= operand_reader level) >>= (λ right. pure (x.Binary' at sign left right)))

  operation_is : (level : ℕ) (at : Place) (left : x.Expr) (ts : List Sym) → ex.operation r_ level (ex.climb r_ level) at left ts ≡ operation_reader level at left ts
  unfolding ex.operation operation_reader operand_reader
  operation_is level at left [] = refl
  operation_is level at left (s ∷ ts) = operation_is_at br deep (ex.climb r_ level) at left s ts (binary_of level s.class)

  ends_when : (level : ℕ) → level < 10 → (rest : List Sym) → Stops (tighter_codes (suc level) ++ STEPS) rest → ex.ends r_ level rest ≡ true
  unfolding ex.ends
  ends_when level lt [] st = refl
  ends_when level lt (s ∷ rest) st = ap not (sym (in_level level s.class lt) ∙ within_no (level_codes level) (tighter_codes (suc level) ++ STEPS) (code s.class) (level_facts level lt).own st)

  goes_when : (level : ℕ) → level < 10 → (c : Sym) (ts : List Sym) → is_in (level_codes level) (code c.class) ≡ true → ex.ends r_ level (c ∷ ts) ≡ false
  unfolding ex.ends
  goes_when level lt c ts e = ap not (sym (in_level level c.class lt) ∙ e)

  climb_exact : (level : ℕ) → level ≤ 10 → (at : Place) (first : x.Expr) → Exact (from level at first) (ex.climb r_ level at first) (tighter_codes level) (λ _. tighter_codes level ++ STEPS) false
  unfolding from ex.climb operand_reader operation_reader gr.operation
  climb_exact zero le at first = widen [] (λ _. STEPS) (give_exact first) refl (λ _. refl)
  climb_exact (suc level) le at first =
      let lt : level < 10 = omega arith in
      let facts = level_facts level lt in
      let sides = tighter_facts level (omega arith) in
      widen (tighter_codes (suc level)) (λ _. tighter_codes (suc level) ++ STEPS)
      (maybe_both (climb_exact level (omega arith) at first) (λ left. by_reader _
      (repeat_exact (step_ level at) (operation_reader level at) (ex.ends r_ level) (level_codes level) (tighter_codes level ++ STEPS)
      (λ left. token_then (one_as_exact (binary_of level) (level_codes level) (λ c. in_level level c lt) facts.plain)
      (λ sign. map_same (λ right. x.Binary' at sign left right) (placed_exact (gr.binary p_ level) (operand_reader level) EXPR (λ _. tighter_codes level ++ STEPS)
      (λ at. by_phrase _ (widen EXPR (λ _. tighter_codes level ++ STEPS) (seq_maybe (eb part.Unary) (climb_exact level (omega arith) at) sides.parted) refl (λ _. sides.both)) (same_sym (binary_same level at))))))
      (goes_when level lt) facts.parted (λ _. tighter_codes (suc level) ++ STEPS) (λ _. facts.more) (λ _. ends_when level lt) left)
      (λ ts. repeat_is (ex.ends r_ level) (ex.operation r_ level (ex.climb r_ level) at) (operation_reader level at) (λ s ts _. operation_is level at s ts) (length ts) left ts)) facts.parted)
      facts.starts (λ _. facts.both)

  -- ---- conditional expressions

  choice_exact : (at : Place) (first : x.Expr) → Exact (ph.◌>>=◌ (from 10 at first) (λ test. gr.choice p_ at test or give test)) (ex.choice r_ at first) (tighter_codes 10 ++ 39 ∷ []) (λ _. after part.Cond) false
  unfolding gr.choice ex.choice sees
  choice_exact at first = widen (tighter_codes 10 ++ 39 ∷ []) (λ _. after part.Cond)
      (maybe_both (climb_exact 10 (omega arith) at first) (λ test. by_reader _
      (branch_exact (is_mark mark.Question) (39 ∷ []) (λ _. after part.Cond) (in_mark mark.Question) refl refl
      (seq (eb part.Assign) (λ yes'. token_then (mark_exact mark.Colon) (λ _. map_same (λ no'. x.Choice at test yes' no') (eb part.Cond))) refl)
      (give_exact test) refl (λ _. refl) (λ _. refl) (λ _ _ _. refl))
      (λ ts. eaten (is_mark mark.Question (class_at ts)) ts _ _)) refl) refl (λ _. refl)

  cond_same : (at : Place) → Same (gr.cond p_ at) (ph.◌>>=◌ (bp part.Unary) (λ first. ph.◌>>=◌ (from 10 at first) (λ test. gr.choice p_ at test or give test)))
  unfolding gr.cond
  cond_same at = same_trans (same_bind (binary_same 10 at) (λ test. same_refl _)) (regroup (bp part.Unary) (from 10 at) (λ test. gr.choice p_ at test or give test))

  cond_at_exact : (at : Place) → Exact (gr.cond p_ at) (br part.Unary >>= ex.choice r_ at) EXPR (λ _. after part.Cond) true
  cond_at_exact at = by_phrase _ (widen EXPR (λ _. after part.Cond) (seq_maybe (eb part.Unary) (choice_exact at) refl) refl (λ _. refl)) (same_sym (cond_same at))

  -- ---- assignments

  abbrev value_reader : Place → x.Expr → Reader x.Expr
  value_reader at first = take_one (λ s. assigns s.class) >>= (λ sign. br part.Assign >>= (λ right. pure (x.Assign at sign first right)))

  assigned : (at : Place) (first : x.Expr) (a : Place) (c : Class) (b : List ℕ) (n : List (List ℕ)) (ts : List Sym) → is_in (9 ∷ 42 ∷ []) (code c) ≡ true → ex.assign_by r_ at first (assigns c) (record { at = a; class = c; bytes = b; names = n } ∷ ts) ≡ value_reader at first (record { at = a; class = c; bytes = b; names = n } ∷ ts)
  assigned at first a (class.Assign sign) b n ts e = refl
  assigned at first a (class.Key key.Int) b n ts e = cc
  assigned at first a (class.Mark mark.Open) b n ts e = cc
  assigned at first a (class.Binary binary.Multiply) b n ts e = cc
  assigned at first a c b n ts e = cc

  chosen : (at : Place) (first : x.Expr) (c : Class) (ts : List Sym) → is_in (9 ∷ 42 ∷ []) (code c) ≡ false → ex.assign_by r_ at first (assigns c) ts ≡ ex.choice r_ at first ts
  chosen at first (class.Assign None) ts e = cc
  chosen at first (class.Assign (Some sign)) ts e = cc
  chosen at first c ts e = refl

  behind_first : (at : Place) (first : x.Expr) → Exact (ph.◌>>=◌ (one_as assigns) (λ sign. ph.◌>>=◌ (bp part.Assign) (λ right. give (x.Assign at sign first right))) or ph.◌>>=◌ (from 10 at first) (λ test. gr.choice p_ at test or give test)) (λ ts. ex.assign_by r_ at first (assigns (class_at ts)) ts) (9 ∷ 42 ∷ (tighter_codes 10 ++ 39 ∷ [])) (λ _. after part.Assign) false
  behind_first at first = or_exact _ _ (value_reader at first) (ex.choice r_ at first) _ (9 ∷ 42 ∷ []) (tighter_codes 10 ++ 39 ∷ []) (λ _. after part.Assign) (λ _. after part.Cond) (λ _. after part.Assign) false
      (token_then (one_as_exact assigns ASSIGNS in_assigns refl) (λ sign. map_same (λ right. x.Assign at sign first right) (eb part.Assign)))
      (choice_exact at first) refl
      (λ s ts e. assigned at first s.at s.class s.bytes s.names ts e) (λ s ts e. chosen at first s.class (s ∷ ts) e) refl (λ _. refl) (λ _. refl) (λ _ _ _. refl)

  assign_same : (at : Place) → Same (gr.assignment p_ at or gr.cond p_ at) (ph.◌>>=◌ (bp part.Unary) (λ first. ph.◌>>=◌ (one_as assigns) (λ sign. ph.◌>>=◌ (bp part.Assign) (λ right. give (x.Assign at sign first right))) or ph.◌>>=◌ (from 10 at first) (λ test. gr.choice p_ at test or give test)))
  unfolding gr.assignment
  assign_same at = same_trans (same_or (same_refl _) (cond_same at)) (factor (bp part.Unary) _ _)

  assign_at_exact : (at : Place) → Exact (gr.assignment p_ at or gr.cond p_ at) (br part.Unary >>= (λ first ts. ex.assign_by r_ at first (assigns (class_at ts)) ts)) EXPR (λ _. after part.Assign) true
  assign_at_exact at = by_phrase _ (widen EXPR (λ _. after part.Assign) (seq_maybe (eb part.Unary) (behind_first at) refl) refl (λ _. refl)) (same_sym (assign_same at))

  -- ---- each production of an expression

  pub production_exact : (q : Part) → Exact (gr.production p_ q) (ex.reading r_ q) EXPR (λ _. after q) true
  unfolding gr.production ex.reading ex.cond ex.assign
  production_exact part.Unary = unary_exact bp br eb deep
  production_exact part.Cond = placed_exact _ _ EXPR (λ _. after part.Cond) cond_at_exact
  production_exact part.Assign = placed_exact _ _ EXPR (λ _. after part.Assign) assign_at_exact

-- ---- expressions of every depth

none_exact : (q : Part) → Exact {A = x.Expr} nothing refuse EXPR (λ _. after q) true
none_exact q = widen EXPR (λ _. after q) nothing_exact refl (λ _. refl)

pub expr_exact : (d : ℕ) (q : Part) → Exact (gr.expr d q) (ex.expr d q) EXPR (λ _. after q) true
unfolding gr.expr ex.expr gr.nest ex.nest
expr_exact zero q = production_exact (λ _. nothing) (λ _. refuse) none_exact false q
expr_exact (suc d) q = production_exact (gr.production (gr.nest d)) (ex.reading (ex.nest d)) (expr_exact d) true q

pub expression_exact : (d : ℕ) (q : Part) → Exact (gr.expression d q) (ex.expression d q) EXPR (λ _. after q) true
unfolding gr.expression ex.expression
expression_exact d q = at_most_exact MAX_EXPRESSION_TOKENS (gr.expr d q) (ex.expr d q) EXPR (λ _. after q) (expr_exact d q)
