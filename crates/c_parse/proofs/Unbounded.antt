-- A front in which each expression keeps the bound is a front where the bound is left aside.
use Rattle.std.proofs.Common.{ℕ, zero, suc, ◌⊎◌, inl, inr, Bool, true, false, List, [], ◌∷◌, ◌++◌}
use Rattle.c_tree.specs.declared.syntax.Place.{Place}
use Rattle.c_tree.specs.declared.syntax.Base.{Base}
use Rattle.c_tree.specs.declared.syntax.Returns.{Returns}
use Rattle.c_tree.specs.Syntax as x
use Rattle.c_parse.specs.declared.symbols.Mark.{Mark}
use Rattle.c_parse.specs.declared.symbols.Mark.TheVariants as mark
use Rattle.c_parse.specs.declared.grammar.Part.{Part}
use Rattle.c_parse.specs.declared.grammar.Part.TheVariants as part
use Rattle.c_parse.specs.Symbols.{Sym}
use Rattle.c_parse.specs.Phrases.{Phrase, give, one, ◌>>=◌, ◌or◌, repeat, placed, Cut, Steps, StepsFront, place_of}
use Rattle.c_parse.specs.Phrases as ph
use Rattle.c_parse.specs.Signs.{is_mark}
use Rattle.c_parse.specs.Grammar.{mark_, name_, one_if, star, when, separated, one_more, expr, expression}
use Rattle.c_parse.specs.DeclarationGrammar as dg
use Rattle.c_parse.specs.StatementGrammar as sg
use Rattle.c_parse.specs.SourceGrammar as sc
use Rattle.c_parse.specs.Parsed.{Viable, KeepsBound}

-- what the first phrase has, the second has too
record Wider {A : Type 0} (p q : Phrase A) : Type 0 where
  spells : (ts : List Sym) (a : A) → p.spells ts a → q.spells ts a
  front : (ts : List Sym) → p.front ts → q.front ts

same : {A : Type 0} (p : Phrase A) → Wider p p
same p = record { spells = λ ts a h. h; front = λ ts h. h }

next : {A B : Type 0} {p q : Phrase A} {k l : A → Phrase B} → Wider p q → ((a : A) → Wider (k a) (l a)) → Wider (p >>= k) (q >>= l)
next h w = record {
  spells = λ ts b c. record { before = c.before; behind = c.behind; value = c.value; is = c.is; spelt = h.spells c.before c.value c.spelt; follows = (w c.value).spells c.behind b c.follows };
  front = λ ts f. elim f [
    | inl g ↦ inl (h.front ts g)
    | inr c ↦ inr (record { before = c.before; behind = c.behind; value = c.value; is = c.is; spelt = h.spells c.before c.value c.spelt; follows = (w c.value).front c.behind c.follows })
  ];
}

-- behind a phrase that is the same
after : {A B : Type 0} (p : Phrase A) {k l : A → Phrase B} → ((a : A) → Wider (k a) (l a)) → Wider (p >>= k) (p >>= l)
after p w = next (same p) w

-- and before phrases that are the same
before : {A B : Type 0} {p q : Phrase A} (k : A → Phrase B) → Wider p q → Wider (p >>= k) (q >>= k)
before k h = next h (λ a. same (k a))

either : {A : Type 0} {p q r s : Phrase A} → Wider p q → Wider r s → Wider (p or r) (q or s)
either h g = record {
  spells = λ ts a o. elim o [ inl f ↦ inl (h.spells ts a f) | inr f ↦ inr (g.spells ts a f) ];
  front = λ ts o. elim o [ inl f ↦ inl (h.front ts f) | inr f ↦ inr (g.front ts f) ];
}

at_place : {A : Type 0} {k l : Place → Phrase A} → ((at : Place) → Wider (k at) (l at)) → Wider (placed k) (placed l)
at_place w = record { spells = λ ts a h. (w (place_of ts)).spells ts a h; front = λ ts h. (w (place_of ts)).front ts h }

module _ {S : Type 0} (k l : S → Phrase S) (w : (s : S) → Wider (k s) (l s)) where
  steps : {s t : S} {ts : List Sym} → Steps (λ u. (k u).spells) s ts t → Steps (λ u. (l u).spells) s ts t
  steps (ph.done e) = ph.done e
  steps (ph.step {s} {t} {ts} u before behind e h more) = ph.step u before behind e ((w s).spells before u h) (steps more)

  steps_front : {s : S} {ts : List Sym} → StepsFront (λ u. (k u).spells) (λ u. (k u).front) s ts → StepsFront (λ u. (l u).spells) (λ u. (l u).front) s ts
  steps_front (ph.now {s} {ts} h) = ph.now ((w s).front ts h)
  steps_front (ph.later {s} {ts} u before behind e h more) = ph.later u before behind e ((w s).spells before u h) (steps_front more)

  again : (s : S) → Wider (repeat k s) (repeat l s)
  again s = record { spells = λ ts t h. steps h; front = λ ts h. steps_front h }

where_deep : {A : Type 0} (deep : Bool) {p q : Phrase A} → Wider p q → Wider (when deep p) (when deep q)
where_deep true h = h
where_deep false h = same ph.nothing

with_commas : {A : Type 0} {p q : Phrase A} → Wider p q → Wider (separated p) (separated q)
with_commas {A} {p} {q} h = next h (λ first. again (one_more p) (one_more q) (λ found. after _ (λ _. before _ h)) (first ∷ []))

-- ---- expressions

shorter : (d : ℕ) (p : Part) → Wider (expression d p) (expr d p)
unfolding expression
shorter d p = record { spells = λ ts a h. h.0; front = λ ts h. h.0 }

-- ---- declarations

len_wider : (d : ℕ) (pointer : Bool) → Wider (dg.len_of expression d pointer) (dg.len_of expr d pointer)
unfolding dg.len_of
len_wider d true = same _
len_wider d false = either (after _ (λ _. before _ (shorter d part.Cond))) (same _)

value_wider : (d : ℕ) → Wider (dg.value expression d) (dg.value expr d)
unfolding dg.value
value_wider d = either (after _ (λ _. before _ (with_commas (shorter d part.Assign)))) (before _ (shorter d part.Assign))

initializer_wider : (d : ℕ) → Wider (dg.initializer expression d) (dg.initializer expr d)
unfolding dg.initializer
initializer_wider d = either (after _ (λ _. value_wider d)) (same _)

declared_wider : (d : ℕ) (at : Place) (pointer : Bool) (called : List ℕ) → Wider (dg.declared expression d at pointer called) (dg.declared expr d at pointer called)
unfolding dg.declared
declared_wider d at pointer called = next (len_wider d pointer) (λ len. before _ (initializer_wider d))

declarator_from : (d : ℕ) (base : Base) (at : Place) → Wider (star base >>= (λ pointer. name_ >>= (λ called. dg.declared expression d at pointer called))) (star base >>= (λ pointer. name_ >>= (λ called. dg.declared expr d at pointer called)))
declarator_from d base at = after (star base) (λ pointer. after name_ (λ called. declared_wider d at pointer called))

declarator_wider : (d : ℕ) (base : Base) → Wider (dg.declarator expression d base) (dg.declarator expr d base)
unfolding dg.declarator
declarator_wider d base = at_place (declarator_from d base)

declaration_at_wider : (d : ℕ) (at : Place) → Wider (dg.declaration_at expression d at) (dg.declaration_at expr d at)
unfolding dg.declaration_at
declaration_at_wider d at = after _ (λ is_static. after _ (λ base. before _ (with_commas (declarator_wider d base))))

declaration_wider : (d : ℕ) → Wider (dg.declaration expression d) (dg.declaration expr d)
unfolding dg.declaration
declaration_wider d = at_place (declaration_at_wider d)

-- ---- statements

optional_wider : (d : ℕ) (end : Mark) → Wider (sg.optional expression d end) (sg.optional expr d end)
unfolding sg.optional
optional_wider d end = either (same _) (before _ (shorter d part.Assign))

module _ (deep : Bool) (depth : ℕ) (p q : Phrase x.Stmt) (w : Wider p q) where
  abbrev p_ : sg.Inside
  p_ = record { deep = deep; depth = depth; stmt = p }

  abbrev q_ : sg.Inside
  q_ = record { deep = deep; depth = depth; stmt = q }

  item_wider : Wider (sg.item expression p_) (sg.item expr q_)
  unfolding sg.item
  item_wider = either (before _ (declaration_wider depth)) w

  more_wider : (found : List x.Stmt) → Wider (sg.one_more_item expression p_ found) (sg.one_more_item expr q_ found)
  unfolding sg.one_more_item
  more_wider found = before _ item_wider

  abbrev ended : Place → List x.Stmt → Phrase x.Body
  ended at found = one_if (is_mark mark.CloseBrace) (λ s. s.at) >>= (λ end. give (record { at = at; items = sg.items_of found; end_line = end.line }))

  body_from : (at : Place) → Wider (mark_ mark.OpenBrace >>= (λ _. repeat (sg.one_more_item expression p_) [] >>= ended at)) (mark_ mark.OpenBrace >>= (λ _. repeat (sg.one_more_item expr q_) [] >>= ended at))
  body_from at = after (mark_ mark.OpenBrace) (λ _. before (ended at) (again (sg.one_more_item expression p_) (sg.one_more_item expr q_) more_wider []))

  body_wider : Wider (sg.body expression p_) (sg.body expr q_)
  unfolding sg.body
  body_wider = where_deep deep (at_place body_from)

  condition_wider : Wider (sg.condition expression p_) (sg.condition expr q_)
  unfolding sg.condition
  condition_wider = after _ (λ _. before _ (shorter depth part.Assign))

  other_wider : (at : Place) (test : x.Expr) (body : x.Stmt) (b : Bool) → Wider (sg.other_of expression p_ at test body b) (sg.other_of expr q_ at test body b)
  unfolding sg.other_of
  other_wider at test body true = same _
  other_wider at test body false = either (after _ (λ _. before _ w)) (same _)

  if_wider : (at : Place) → Wider (sg.if_ expression p_ at) (sg.if_ expr q_ at)
  unfolding sg.if_
  if_wider at = where_deep deep (after _ (λ _. next condition_wider (λ test. next w (λ body. other_wider at test body (sg.is_open body)))))

  while_wider : (at : Place) → Wider (sg.while_ expression p_ at) (sg.while_ expr q_ at)
  unfolding sg.while_
  while_wider at = where_deep deep (after _ (λ _. next condition_wider (λ test. before _ w)))

  do_wider : (at : Place) → Wider (sg.do_ expression p_ at) (sg.do_ expr q_ at)
  unfolding sg.do_
  do_wider at = where_deep deep (after _ (λ _. next w (λ body. after _ (λ _. before _ condition_wider))))

  head_wider : Wider (sg.for_head expression p_) (sg.for_head expr q_)
  unfolding sg.for_head
  head_wider = either (before _ (declaration_wider depth)) (before _ (optional_wider depth mark.Semicolon))

  for_wider : (at : Place) → Wider (sg.for_ expression p_ at) (sg.for_ expr q_ at)
  unfolding sg.for_
  for_wider at = where_deep deep (after _ (λ _. after _ (λ _. next head_wider (λ head. next (optional_wider depth mark.Semicolon) (λ test. next (optional_wider depth mark.Close) (λ step. before _ w))))))

  statement_wider : (d : ℕ) (at : Place) → Wider (sg.statement_at expression p_ d at) (sg.statement_at expr q_ d at)
  unfolding sg.statement_at
  statement_wider d at =
      either (either (either (either (either (either (either (either (either (either (either
      (before _ body_wider)
      (same _))
      (after _ (λ listed. before _ body_wider)))
      (same _))
      (if_wider at))
      (while_wider at))
      (do_wider at))
      (for_wider at))
      (after _ (λ _. before _ (optional_wider d mark.Semicolon))))
      (same _))
      (same _))
      (before _ (shorter d part.Assign))

inner_wider : (d : ℕ) → Wider (sg.inside expression d).stmt (sg.inside expr d).stmt
unfolding sg.inside
inner_wider zero = same _
inner_wider (suc zero) = at_place (statement_wider false zero (sg.inside expression zero).stmt (sg.inside expr zero).stmt (inner_wider zero) zero)
inner_wider (suc (suc d)) = at_place (statement_wider true d (sg.inside expression (suc d)).stmt (sg.inside expr (suc d)).stmt (inner_wider (suc d)) (suc d))

block_wider : (d : ℕ) → Wider (sg.body expression (sg.inside expression d)) (sg.body expr (sg.inside expr d))
unfolding sg.inside
block_wider zero = body_wider false zero (sg.inside expression zero).stmt (sg.inside expr zero).stmt (inner_wider zero)
block_wider (suc d) = body_wider true d (sg.inside expression (suc d)).stmt (sg.inside expr (suc d)).stmt (inner_wider (suc d))

-- ---- sources

definition_wider : Wider (sc.definition expression) (sc.definition expr)
unfolding sc.definition
definition_wider = either (same _) (before _ (block_wider sc.most_deep))

function_of_wider : (at : Place) (is_static : Bool) (returns : Returns) (called : List ℕ) → Wider (sc.function_of expression at is_static returns called) (sc.function_of expr at is_static returns called)
unfolding sc.function_of
function_of_wider at is_static returns called = after _ (λ _. after _ (λ listed. before _ definition_wider))

function_wider : (at : Place) → Wider (sc.function expression at) (sc.function expr at)
unfolding sc.function
function_wider at = after _ (λ is_static. after _ (λ returns. after _ (λ called. function_of_wider at is_static returns called)))

abbrev scope_item : Place → Phrase x.Item
scope_item at = one sc.scope_as >>= (λ scope. give (x.Scope at scope.0 scope.1))

item_from : (at : Place) → Wider (scope_item at or dg.declaration_at expression sc.most_deep at >>= (λ found. give (x.Variables found)) or sc.function expression at) (scope_item at or dg.declaration_at expr sc.most_deep at >>= (λ found. give (x.Variables found)) or sc.function expr at)
item_from at = either (either (same (scope_item at)) (before (λ found. give (x.Variables found)) (declaration_at_wider sc.most_deep at))) (function_wider at)

item_of_source : Wider (sc.item expression) (sc.item expr)
unfolding sc.item
item_of_source = at_place item_from

more_of_source : (found : List x.Item) → Wider (sc.one_more_item expression found) (sc.one_more_item expr found)
unfolding sc.one_more_item
more_of_source found = before _ item_of_source

unit_wider : Wider (sc.unit expression) (sc.unit expr)
unfolding sc.unit
unit_wider = again (sc.one_more_item expression) (sc.one_more_item expr) more_of_source []

pub keeps_viable : (ss : List Sym) → KeepsBound ss → Viable ss
unfolding Viable KeepsBound
keeps_viable ss h = unit_wider.front ss h
