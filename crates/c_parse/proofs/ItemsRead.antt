-- The items of a source are read exactly.
use Rattle.std.proofs.Common.{◌≡◌, ℕ, inl, Bool, true, false, if◌then◌else◌, List, [], ◌∷◌, ◌++◌, Some, None, refl, sym, ◌∙◌}
use Rattle.mpc_values.specs.declared.owners.Level.{Level}
use Rattle.c_tree.specs.declared.syntax.Place.{Place}
use Rattle.c_tree.specs.declared.syntax.Base.{Base}
use Rattle.c_tree.specs.declared.syntax.Returns.{Returns}
use Rattle.c_tree.specs.declared.syntax.Returns.TheVariants.{Void, Value}
use Rattle.c_tree.specs.declared.syntax.Binary.TheVariants as binary
use Rattle.c_tree.specs.Syntax as x
use Rattle.c_parse.specs.declared.symbols.Class.{Class}
use Rattle.c_parse.specs.declared.symbols.Class.TheVariants as class
use Rattle.c_parse.specs.declared.symbols.Key.TheVariants as key
use Rattle.c_parse.specs.declared.symbols.Mark.TheVariants as mark
use Rattle.c_parse.specs.declared.grammar.Part.TheVariants as part
use Rattle.c_parse.specs.Symbols.{Sym}
use Rattle.c_parse.specs.Signs.{is_mark, is_key}
use Rattle.c_parse.specs.Phrases.{Phrase, give, one, ◌or◌, placed}
use Rattle.c_parse.specs.Phrases as ph
use Rattle.c_parse.specs.Reading.{Reader, ◌>>=◌, pure, class_at, sees, sees_key, expect, name, no_comma}
use Rattle.c_parse.specs.Reading as rd
use Rattle.c_parse.specs.Expressions as ex
use Rattle.c_parse.specs.Declarations as dc
use Rattle.c_parse.specs.Sources as so
use Rattle.c_parse.specs.SourceGrammar.{most_deep, scope_as, scope_by}
use Rattle.c_parse.specs.Grammar.{mark_, key_, name_, flag}
use Rattle.c_parse.specs.Grammar as gr
use Rattle.c_parse.specs.DeclarationGrammar as dg
use Rattle.c_parse.specs.SourceGrammar as sc
use Rattle.c_parse.proofs.Sets.{code, is_in}
use Rattle.c_parse.proofs.ClassTests.{in_mark, in_key, BASES, NAMES}
use Rattle.c_parse.proofs.Exact.{Exact, give_exact, one_exact, take_one}
use Rattle.c_parse.proofs.Choices.{Same, by_reader, by_phrase, or_exact, placed_exact, same_refl, same_sym, same_trans, same_bind, same_or, same_placed, or_then, or_group, factor, regroup, give_then, placed_then, turn_round}
use Rattle.c_parse.proofs.Blocks.{token_then, seq, maybe_seq, map_same, mark_exact, name_exact, flag_key_exact, branch_exact, eaten, regroup_read, then_same, if_yes_at, if_no_at}
use Rattle.c_parse.proofs.TypesRead.{type_base_exact, star_exact, commas_exact}
use Rattle.c_parse.proofs.UnaryRead.{after}
use Rattle.c_parse.proofs.DeclarationsRead.{declared_exact, declarator_exact, params_exact}
use Rattle.c_parse.proofs.StatementsRead.{block_exact}

-- ---- functions

definition_exact : Exact (sc.definition gr.expression) so.definition (36 ∷ 34 ∷ []) (λ _. []) true
unfolding sc.definition so.definition sees
definition_exact = by_reader _ (branch_exact (is_mark mark.Semicolon) (36 ∷ []) (λ _. []) (in_mark mark.Semicolon) refl refl (give_exact None) (map_same (λ found. Some found) (block_exact most_deep)) refl (λ _. refl) (λ _. refl) (λ e. cc))
    (λ ts. eaten (is_mark mark.Semicolon (class_at ts)) ts _ _)

function_exact : (at : Place) (is_static : Bool) (returns : Returns) (called : List ℕ) → Exact ((sc.function_of gr.expression) at is_static returns called) (so.function at is_static returns called) (30 ∷ []) (λ _. []) true
unfolding sc.function_of so.function
function_exact at is_static returns called = token_then (mark_exact mark.Open) (λ _. seq params_exact (λ listed. map_same (λ found. x.Defined (record { at = at; is_static = is_static; returns = returns; name = called; params = listed; body = found })) definition_exact) refl)

-- ---- variables, behind the name of the first

abbrev variables_of : Place → Bool → Base → List x.Declarator → x.Item
variables_of at is_static base found = x.Variables (record { at = at; is_static = is_static; base = base; declarators = found })

abbrev more_ : Place → Bool → Base → x.Declarator → Phrase x.Item
more_ at is_static base first = ph.◌>>=◌ (ph.repeat (gr.one_more ((dg.declarator gr.expression) most_deep base)) (first ∷ [])) (λ found. ph.◌>>◌ (mark_ mark.Semicolon) (give (variables_of at is_static base found)))

abbrev variables_ : Place → Bool → Base → Place → Bool → List ℕ → Phrase x.Item
variables_ at is_static base from pointer called = ph.◌>>=◌ ((dg.declared gr.expression) most_deep from pointer called) (more_ at is_static base)

abbrev more_read : Place → Bool → Base → x.Declarator → Reader x.Item
more_read at is_static base first = rd.repeat no_comma (rd.one_more (dc.declarator most_deep base)) (first ∷ []) >>= (λ found. expect mark.Semicolon >>= (λ _. pure (variables_of at is_static base found)))

variables_is : (at : Place) (is_static : Bool) (base : Base) (from : Place) (pointer : Bool) (called : List ℕ) (ts : List Sym) → so.variables at is_static base from pointer called ts ≡ (dc.declared most_deep from pointer called >>= more_read at is_static base) ts
unfolding so.variables dc.declaration_from
variables_is at is_static base from pointer called ts = then_same (dc.declared most_deep from pointer called ts) (λ first us.
    regroup_read (rd.repeat no_comma (rd.one_more (dc.declarator most_deep base)) (first ∷ []) us) (λ found. expect mark.Semicolon >>= (λ _. pure (record { at = at; is_static = is_static; base = base; declarators = found }))) (λ found. pure (x.Variables found))
    ∙ then_same (rd.repeat no_comma (rd.one_more (dc.declarator most_deep base)) (first ∷ []) us) (λ found vs. regroup_read (expect mark.Semicolon vs) (λ _. pure (record { at = at; is_static = is_static; base = base; declarators = found })) (λ found. pure (x.Variables found))))

variables_exact : (at : Place) (is_static : Bool) (base : Base) (from : Place) (pointer : Bool) (called : List ℕ) → Exact (variables_ at is_static base from pointer called) (so.variables at is_static base from pointer called) (32 ∷ 9 ∷ 37 ∷ 36 ∷ []) (λ _. []) true
variables_exact at is_static base from pointer called = by_reader _
    (maybe_seq (declared_exact most_deep from pointer called) (λ first. maybe_seq (commas_exact (declarator_exact most_deep base) refl (first ∷ [])) (λ found. token_then (mark_exact mark.Semicolon) (λ _. give_exact (variables_of at is_static base found))) refl) refl)
    (variables_is at is_static base from pointer called)

-- ---- functions with a type and variables, told behind their name

abbrev typed_ : Place → Bool → Phrase x.Item
typed_ at is_static = ph.◌>>=◌ gr.type_base (λ base. placed (λ from. ph.◌>>=◌ (gr.star base) (λ pointer. ph.◌>>=◌ name_ (λ called.
    (sc.function_of gr.expression) at is_static (Value (record { base = base; pointer = pointer })) called or variables_ at is_static base from pointer called))))

typed_exact : (at : Place) (is_static : Bool) → Exact (typed_ at is_static) (so.typed at is_static) BASES (λ _. []) true
unfolding so.typed sees
typed_exact at is_static = seq type_base_exact (λ base. placed_exact _ _ (50 ∷ 0 ∷ []) (λ _. []) (λ from. maybe_seq (star_exact base) (λ pointer. token_then name_exact (λ called.
    or_exact _ _ (so.function at is_static (Value (record { base = base; pointer = pointer })) called) (so.variables at is_static base from pointer called) (λ ts. (if sees mark.Open ts then so.function at is_static (Value (record { base = base; pointer = pointer })) called else so.variables at is_static base from pointer called) ts) (30 ∷ []) (32 ∷ 9 ∷ 37 ∷ 36 ∷ []) (λ _. []) (λ _. []) (λ _. []) true
    (function_exact at is_static (Value (record { base = base; pointer = pointer })) called) (variables_exact at is_static base from pointer called) refl
    (λ s ts e. if_yes_at (is_mark mark.Open s.class) (so.function at is_static (Value (record { base = base; pointer = pointer })) called) (so.variables at is_static base from pointer called) (s ∷ ts) (sym (in_mark mark.Open s.class) ∙ e))
    (λ s ts e. if_no_at (is_mark mark.Open s.class) (so.function at is_static (Value (record { base = base; pointer = pointer })) called) (so.variables at is_static base from pointer called) (s ∷ ts) (sym (in_mark mark.Open s.class) ∙ e))
    refl (λ _. refl) (λ _. refl) (λ e. cc))) refl)) refl

abbrev external_ : Place → Phrase x.Item
external_ at = ph.◌>>=◌ (flag (key_ key.Static)) (λ is_static. ph.◌>>◌ (key_ key.Void) (ph.◌>>=◌ name_ (λ called. (sc.function_of gr.expression) at is_static Void called)) or typed_ at is_static)

external_exact : (at : Place) → Exact (external_ at) (so.external at) (14 ∷ 12 ∷ BASES) (λ _. []) true
unfolding so.external sees_key
external_exact at = maybe_seq (flag_key_exact key.Static refl) (λ is_static. by_reader _
    (branch_exact (is_key key.Void) (12 ∷ []) (λ _. []) (in_key key.Void) refl refl (token_then name_exact (λ called. function_exact at is_static Void called)) (typed_exact at is_static) refl (λ _. refl) (λ _. refl) (λ e. cc))
    (λ ts. eaten (is_key key.Void (class_at ts)) ts (name >>= (λ called. so.function at is_static Void called)) (so.typed at is_static))) refl

-- ---- the two productions that begin alike, put together

function_same : (at : Place) → Same ((sc.function gr.expression) at) (ph.◌>>=◌ (flag (key_ key.Static)) (λ is_static. ph.◌>>◌ (key_ key.Void) (ph.◌>>=◌ name_ (λ called. (sc.function_of gr.expression) at is_static Void called))
    or ph.◌>>=◌ gr.type_base (λ base. ph.◌>>=◌ (gr.star base) (λ pointer. ph.◌>>=◌ name_ (λ called. (sc.function_of gr.expression) at is_static (Value (record { base = base; pointer = pointer })) called)))))
unfolding sc.function gr.type_name
function_same at = same_bind (same_refl _) (λ is_static. same_trans (or_then _ _ _) (same_or
    (same_trans (regroup (key_ key.Void) _ _) (same_bind (same_refl _) (λ _. give_then Void (λ returns. ph.◌>>=◌ name_ (λ called. (sc.function_of gr.expression) at is_static returns called)) (inl (inl refl)))))
    (same_trans (regroup gr.type_name _ _) (same_trans (regroup gr.type_base _ _) (same_bind (same_refl _) (λ base.
    same_trans (regroup (gr.star base) _ _) (same_bind (same_refl _) (λ pointer.
    same_trans (give_then (record { base = base; pointer = pointer }) (λ to. ph.◌>>=◌ (give (Value to)) (λ returns. ph.◌>>=◌ name_ (λ called. (sc.function_of gr.expression) at is_static returns called))) (inl refl))
    (give_then (Value (record { base = base; pointer = pointer })) (λ returns. ph.◌>>=◌ name_ (λ called. (sc.function_of gr.expression) at is_static returns called)) (inl (inl refl)))))))))))

abbrev declarator_at : Base → Place → Phrase x.Declarator
declarator_at base at = ph.◌>>=◌ (gr.star base) (λ pointer. ph.◌>>=◌ name_ (λ called. (dg.declared gr.expression) most_deep at pointer called))

declarator_fills : (base : Base) (at : Place) (a : x.Declarator) → (ph.◌>>=◌ (gr.star base) (λ pointer. ph.◌>>=◌ name_ (λ called. (dg.declared gr.expression) most_deep at pointer called))).spells [] a → ⊥
declarator_fills base at a h =
    (maybe_seq {r = ex.star base} {l = λ pointer. name >>= (λ called. dc.declared most_deep at pointer called)} (star_exact base) (λ pointer. seq_of pointer) refl).fills refl a h
  where
    seq_of : (pointer : Bool) → Exact (ph.◌>>=◌ name_ (λ called. (dg.declared gr.expression) most_deep at pointer called)) (name >>= (λ called. dc.declared most_deep at pointer called)) NAMES (λ _. after part.Assign) true
    seq_of pointer = token_then name_exact (λ called. declared_exact most_deep at pointer called)

variables_same : (at : Place) → Same (ph.◌>>=◌ ((dg.declaration_at gr.expression) most_deep at) (λ found. give (x.Variables found))) (ph.◌>>=◌ (flag (key_ key.Static)) (λ is_static. ph.◌>>=◌ gr.type_base (λ base. placed (λ from. ph.◌>>=◌ (gr.star base) (λ pointer. ph.◌>>=◌ name_ (λ called. variables_ at is_static base from pointer called))))))
unfolding dg.declaration_at dg.declarator
variables_same at = same_trans (regroup (flag (key_ key.Static)) _ _) (same_bind (same_refl _) (λ is_static.
    same_trans (regroup gr.type_base _ _) (same_bind (same_refl _) (λ base.
    same_trans (regroup (gr.separated ((dg.declarator gr.expression) most_deep base)) _ _)
    (same_trans (same_bind (same_refl _) (λ found. same_trans (regroup (mark_ mark.Semicolon) _ _) (same_bind (same_refl _) (λ _. give_then (record { at = at; is_static = is_static; base = base; declarators = found }) (λ found. give (x.Variables found)) refl))))
    (same_trans (regroup ((dg.declarator gr.expression) most_deep base) _ _)
    (same_trans (placed_then (declarator_at base) (more_ at is_static base) (declarator_fills base)) (same_placed (λ from.
    same_trans (regroup (gr.star base) (λ pointer. ph.◌>>=◌ name_ (λ called. (dg.declared gr.expression) most_deep from pointer called)) (more_ at is_static base)) (same_bind (same_refl (gr.star base)) (λ pointer. regroup name_ (λ called. (dg.declared gr.expression) most_deep from pointer called) (more_ at is_static base))))))))))))

abbrev function_ : Place → Bool → Base → Bool → List ℕ → Phrase x.Item
function_ at is_static base pointer called = (sc.function_of gr.expression) at is_static (Value (record { base = base; pointer = pointer })) called

typed_same : (at : Place) (is_static : Bool) → Same (ph.◌>>=◌ gr.type_base (λ base. ph.◌>>=◌ (gr.star base) (λ pointer. ph.◌>>=◌ name_ (λ called. (sc.function_of gr.expression) at is_static (Value (record { base = base; pointer = pointer })) called)))
    or ph.◌>>=◌ gr.type_base (λ base. placed (λ from. ph.◌>>=◌ (gr.star base) (λ pointer. ph.◌>>=◌ name_ (λ called. variables_ at is_static base from pointer called))))) (typed_ at is_static)
typed_same at is_static = same_trans (factor gr.type_base _ _) (same_bind (same_refl _) (λ base. same_placed (λ from. same_trans (factor (gr.star base) (λ pointer. ph.◌>>=◌ name_ (function_ at is_static base pointer)) (λ pointer. ph.◌>>=◌ name_ (variables_ at is_static base from pointer))) (same_bind (same_refl (gr.star base)) (λ pointer. factor name_ (function_ at is_static base pointer) (variables_ at is_static base from pointer))))))

external_same : (at : Place) → Same (ph.◌>>=◌ ((dg.declaration_at gr.expression) most_deep at) (λ found. give (x.Variables found)) or (sc.function gr.expression) at) (external_ at)
external_same at = same_trans (same_or (variables_same at) (function_same at)) (same_trans (factor (flag (key_ key.Static)) _ _) (same_bind (same_refl _) (λ is_static. same_trans (turn_round _ _ _) (same_or (same_refl _) (typed_same at is_static)))))

-- ---- items

abbrev scope_reader : Place → Reader x.Item
scope_reader at = take_one scope_as >>= (λ scope. pure (x.Scope at scope.0 scope.1))

in_scopes : (c : Class) (names : List (List ℕ)) (a : Level × List (List ℕ)) → scope_by c names ≡ Some a → is_in (3 ∷ []) (code c) ≡ true
in_scopes (class.Scope level) names a e = refl
in_scopes c names a e = cc

scope_read : (at a : Place) (c : Class) (b : List ℕ) (n : List (List ℕ)) (ts : List Sym) → is_in (3 ∷ []) (code c) ≡ true → so.item_by at c (record { at = a; class = c; bytes = b; names = n } ∷ ts) ≡ scope_reader at (record { at = a; class = c; bytes = b; names = n } ∷ ts)
scope_read at a (class.Scope level) b n ts e = refl
scope_read at a (class.Key key.Int) b n ts e = cc
scope_read at a (class.Mark mark.Open) b n ts e = cc
scope_read at a (class.Binary binary.Multiply) b n ts e = cc
scope_read at a (class.Assign None) b n ts e = cc
scope_read at a c b n ts e = cc

not_scope : (at : Place) (c : Class) (ts : List Sym) → is_in (3 ∷ []) (code c) ≡ false → so.item_by at c ts ≡ so.external at ts
not_scope at (class.Scope level) ts e = cc
not_scope at c ts e = refl

-- with what an item begins
abbrev pub ITEM : List ℕ
ITEM = 3 ∷ 14 ∷ 12 ∷ BASES

item_at_exact : (at : Place) → Exact (ph.◌>>=◌ (one scope_as) (λ scope. give (x.Scope at scope.0 scope.1)) or ph.◌>>=◌ ((dg.declaration_at gr.expression) most_deep at) (λ found. give (x.Variables found)) or (sc.function gr.expression) at) (λ ts. so.item_by at (class_at ts) ts) ITEM (λ _. []) true
item_at_exact at = by_phrase _ (or_exact _ _ (scope_reader at) (so.external at) _ (3 ∷ []) (14 ∷ 12 ∷ BASES) (λ _. []) (λ _. []) (λ _. []) true
    (map_same (λ scope. x.Scope at scope.0 scope.1) (one_exact scope_as (3 ∷ []) (λ s a e. in_scopes s.class s.names a e) refl))
    (by_phrase _ (external_exact at) (same_sym (external_same at))) refl
    (λ s ts e. scope_read at s.at s.class s.bytes s.names ts e) (λ s ts e. not_scope at s.class (s ∷ ts) e) refl (λ _. refl) (λ _. refl) (λ e. cc))
    (same_sym (or_group _ _ _))

pub item_exact : Exact (sc.item gr.expression) so.item ITEM (λ _. []) true
unfolding sc.item so.item
item_exact = placed_exact _ _ ITEM (λ _. []) item_at_exact

pub more_items_exact : (found : List x.Item) → Exact ((sc.one_more_item gr.expression) found) (so.one_more_item found) ITEM (λ _. []) true
unfolding sc.one_more_item
more_items_exact found = map_same (λ i. found ++ i ∷ []) item_exact
