-- Declarations and parameters are read exactly.
use Rattle.std.proofs.Common.{◌≡◌, ℕ, Bool, true, false, if◌then◌else◌, List, [], ◌∷◌, Option, Some, None, refl, sym, ap, ◌∙◌}
use Rattle.c_tree.specs.declared.syntax.Place.{Place}
use Rattle.c_tree.specs.declared.syntax.Base.{Base}
use Rattle.c_tree.specs.declared.syntax.Param.{Param}
use Rattle.c_tree.specs.declared.syntax.ParamType.TheVariants.{Arguments}
use Rattle.c_tree.specs.Syntax as x
use Rattle.c_parse.specs.declared.symbols.Class.TheVariants as class
use Rattle.c_parse.specs.declared.symbols.Key.TheVariants as key
use Rattle.c_parse.specs.declared.symbols.Mark.TheVariants as mark
use Rattle.c_parse.specs.declared.grammar.Part.TheVariants as part
use Rattle.c_parse.specs.Symbols.{Sym}
use Rattle.c_parse.specs.Signs.{is_mark, is_key, is_star, is_equals}
use Rattle.c_parse.specs.Phrases.{give, ◌or◌}
use Rattle.c_parse.specs.Phrases as ph
use Rattle.c_parse.specs.Reading.{Read, Got, Reader, and_then, ◌>>=◌, pure, class_at, behind, sees, sees_key, behind_if, eat_key, expect, name, no_comma}
use Rattle.c_parse.specs.Reading as rd
use Rattle.c_parse.specs.Expressions as ex
use Rattle.c_parse.specs.Declarations as dc
use Rattle.c_parse.specs.Grammar.{mark_, name_}
use Rattle.c_parse.specs.DeclarationGrammar as dg
use Rattle.c_parse.specs.Grammar as gr
use Rattle.c_parse.proofs.ClassTests.{in_mark, in_key, in_equals, EQUALS, in_stars, STARS, BASES}
use Rattle.c_parse.proofs.Exact.{Exact, give_exact, take_one}
use Rattle.c_parse.proofs.Choices.{widen, by_reader, by_phrase, placed_exact, same_sym, or_group}
use Rattle.c_parse.proofs.Blocks.{token_then, seq, maybe_seq, maybe_both, map_same, one_if_exact, mark_exact, name_exact, flag_key_exact, branch_exact, eaten, regroup_read, then_same, took}
use Rattle.c_parse.proofs.TypesRead.{type_base_exact, star_exact, separated_exact}
use Rattle.c_parse.proofs.UnaryRead.{EXPR, after}
use Rattle.c_parse.proofs.ExpressionsRead.{expression_exact}

-- ---- declarators

abbrev len_read : ℕ → Reader (Option x.Expr)
len_read d = ex.expression d part.Cond >>= (λ len. expect mark.CloseSquare >>= (λ _. pure (Some len)))

len_in_is : (d : ℕ) (ts : List Sym) → and_then (dc.len_in d ts) (λ value. pure (Some value)) ≡ len_read d ts
unfolding dc.len_in
len_in_is d ts = regroup_read (ex.expression d part.Cond ts) (λ value. expect mark.CloseSquare >>= (λ _. pure value)) (λ value. pure (Some value))
    ∙ then_same (ex.expression d part.Cond ts) (λ len rest. regroup_read (expect mark.CloseSquare rest) (λ _. pure len) (λ value. pure (Some value)))

if_same : {A : Type 0} (b : Bool) (o o' q : Read A) → o ≡ o' → (if b then o else q) ≡ (if b then o' else q)
if_same true o o' q e = e
if_same false o o' q e = refl

len_exact : (d : ℕ) (pointer : Bool) → Exact ((dg.len_of gr.expression) d pointer) (dc.len_of d pointer) (32 ∷ []) (λ _. 32 ∷ []) false
unfolding dg.len_of dc.len_of dc.begins_length sees
len_exact d true = widen (32 ∷ []) (λ _. 32 ∷ []) (by_reader _ (give_exact None) (λ ts. eaten false ts (dc.len_in d >>= (λ value. pure (Some value))) (pure None))) refl (λ _. refl)
len_exact d false = by_reader _ (branch_exact (is_mark mark.OpenSquare) (32 ∷ []) (λ _. 32 ∷ []) (in_mark mark.OpenSquare) refl refl
    (seq (expression_exact d part.Cond) (λ len. token_then (mark_exact mark.CloseSquare) (λ _. give_exact (Some len))) refl) (give_exact None) refl (λ _. refl) (λ _. refl) (λ _ _ _. refl))
    (λ ts. eaten (is_mark mark.OpenSquare (class_at ts)) ts (dc.len_in d >>= (λ value. pure (Some value))) (pure None) ∙ if_same (is_mark mark.OpenSquare (class_at ts)) _ _ _ (len_in_is d (behind ts)))

value_exact : (d : ℕ) → Exact ((dg.value gr.expression) d) (dc.value d) (34 ∷ EXPR) (λ _. after part.Assign) true
unfolding dg.value dc.value dc.values sees
value_exact d = by_reader _ (branch_exact (is_mark mark.OpenBrace) (34 ∷ []) (λ _. after part.Assign) (in_mark mark.OpenBrace) refl refl
    (seq (separated_exact (expression_exact d part.Assign) refl) (λ found. token_then (mark_exact mark.CloseBrace) (λ _. give_exact (x.Values found))) refl)
    (map_same (λ found. x.Value found) (expression_exact d part.Assign)) refl (λ _. refl) (λ _. refl) (λ e. cc))
    (λ ts. eaten (is_mark mark.OpenBrace (class_at ts)) ts _ _)

initializer_exact : (d : ℕ) → Exact ((dg.initializer gr.expression) d) (dc.initializer d) (9 ∷ []) (λ _. after part.Assign) false
unfolding dg.initializer dc.initializer dc.sees_equals
initializer_exact d = by_reader _ (branch_exact is_equals EQUALS (λ _. after part.Assign) in_equals refl refl (value_exact d) (give_exact x.Nothing) refl (λ _. refl) (λ _. refl) (λ _ _ _. refl))
    (λ ts. eaten (is_equals (class_at ts)) ts (dc.value d) (pure x.Nothing))

pub declared_exact : (d : ℕ) (at : Place) (pointer : Bool) (called : List ℕ) → Exact ((dg.declared gr.expression) d at pointer called) (dc.declared d at pointer called) (32 ∷ 9 ∷ []) (λ _. after part.Assign) false
unfolding dg.declared dc.declared
declared_exact d at pointer called = widen (32 ∷ 9 ∷ []) (λ _. after part.Assign)
    (maybe_both (len_exact d pointer) (λ len. map_same (λ start. record { at = at; pointer = pointer; name = called; len = len; initializer = start }) (initializer_exact d)) refl) refl (λ _. refl)

pub declarator_exact : (d : ℕ) (base : Base) → Exact ((dg.declarator gr.expression) d base) (dc.declarator d base) (50 ∷ 0 ∷ []) (λ _. after part.Assign) true
unfolding dg.declarator dc.declarator
declarator_exact d base = placed_exact _ _ (50 ∷ 0 ∷ []) (λ _. after part.Assign) (λ at.
    maybe_seq (star_exact base) (λ pointer. token_then name_exact (λ called. declared_exact d at pointer called)) refl)

-- ---- declarations

abbrev whole_read : ℕ → Place → Reader x.Declaration
whole_read d at = eat_key key.Static >>= (λ is_static. ex.type_base >>= (λ base. rd.separated (dc.declarator d base) >>= (λ found. expect mark.Semicolon >>= (λ _. pure (record { at = at; is_static = is_static; base = base; declarators = found })))))

abbrev parted_read : ℕ → Place → Reader x.Declaration
parted_read d at = eat_key key.Static >>= (λ is_static. ex.type_base >>= (λ base. dc.declarator d base >>= dc.declaration_from d at is_static base))

declaration_is : (d : ℕ) (at : Place) (ts : List Sym) → parted_read d at ts ≡ whole_read d at ts
unfolding dc.declaration_from rd.separated
declaration_is d at ts = then_same (eat_key key.Static ts) (λ is_static us. then_same (ex.type_base us) (λ base vs.
    sym (regroup_read (dc.declarator d base vs) (λ first. rd.repeat no_comma (rd.one_more (dc.declarator d base)) (first ∷ [])) (λ found. expect mark.Semicolon >>= (λ _. pure (record { at = at; is_static = is_static; base = base; declarators = found }))))))

pub declaration_at_exact : (d : ℕ) (at : Place) → Exact ((dg.declaration_at gr.expression) d at) (parted_read d at) (14 ∷ BASES) (λ _. []) true
unfolding dg.declaration_at
declaration_at_exact d at = by_reader _ (maybe_seq (flag_key_exact key.Static refl) (λ is_static. seq type_base_exact (λ base. seq (separated_exact (declarator_exact d base) refl) (λ found. token_then (mark_exact mark.Semicolon) (λ _. give_exact _)) refl) refl) refl) (declaration_is d at)

pub declaration_exact : (d : ℕ) → Exact ((dg.declaration gr.expression) d) (dc.declaration d) (14 ∷ BASES) (λ _. []) true
unfolding dg.declaration dc.declaration
declaration_exact d = placed_exact _ (parted_read d) (14 ∷ BASES) (λ _. []) (declaration_at_exact d)

-- ---- parameters

is_array_exact : (pointer : Bool) → Exact (dg.is_array pointer) (dc.eat_brackets pointer) (32 ∷ []) (λ _. 32 ∷ []) false
unfolding dg.is_array dc.eat_brackets dc.begins_length sees
is_array_exact true = widen (32 ∷ []) (λ _. 32 ∷ []) (by_reader _ (give_exact false) (λ ts. eaten false ts (expect mark.CloseSquare >>= (λ _. pure true)) (pure false))) refl (λ _. refl)
is_array_exact false = by_reader _ (branch_exact (is_mark mark.OpenSquare) (32 ∷ []) (λ _. 32 ∷ []) (in_mark mark.OpenSquare) refl refl
    (token_then (mark_exact mark.CloseSquare) (λ _. give_exact true)) (give_exact false) refl (λ _. refl) (λ _. refl) (λ _ _ _. refl))
    (λ ts. eaten (is_mark mark.OpenSquare (class_at ts)) ts (expect mark.CloseSquare >>= (λ _. pure true)) (pure false))

typed_exact : (at : Place) → Exact (dg.typed_param at) (dc.typed_param at) BASES (λ _. 32 ∷ []) true
unfolding dg.typed_param dc.typed_param
typed_exact at = by_reader _ (seq type_base_exact (λ base. maybe_seq (star_exact base) (λ pointer. token_then name_exact (λ called. map_same (λ array. record { at = at; param_type = dg.param_type base pointer array; name = called }) (is_array_exact pointer))) refl) refl)
    (λ ts. refl)

star_is : (ts : List Sym) → dc.expect_star ts ≡ take_one (λ s. if is_star s.class then Some tt else None) ts
unfolding dc.expect_star dc.sees_any_star
star_is [] = refl
star_is (s ∷ ts) = took (is_star s.class) tt s ts

any_star_exact : Exact dg.star_ dc.expect_star STARS (λ _. []) true
any_star_exact = by_reader _ (one_if_exact is_star (λ _. tt) STARS in_stars refl) star_is

abbrev listed_of : Place → List ℕ → Param
listed_of at called = record { at = at; param_type = Arguments; name = called }

abbrev squares : Reader (Unit {0})
squares = expect mark.OpenSquare >>= (λ _. expect mark.CloseSquare)

double_is : (at : Place) (b : Bool) (ts : List Sym) → and_then (Got b (behind_if b ts)) (λ double. name >>= (λ called. (if double then pure tt else squares) >>= (λ _. pure (listed_of at called))))
    ≡ (if b then (name >>= (λ called. pure (listed_of at called))) (behind ts) else (name >>= (λ called. expect mark.OpenSquare >>= (λ _. expect mark.CloseSquare >>= (λ _. pure (listed_of at called))))) ts)
unfolding behind_if
double_is at true ts = refl
double_is at false ts = then_same (name ts) (λ called us. regroup_read (expect mark.OpenSquare us) (λ _. expect mark.CloseSquare) (λ _. pure (listed_of at called)))

-- behind the char
behind_char : (at : Place) → Exact (ph.◌>>◌ dg.star_ (ph.◌>>◌ dg.star_ (ph.◌>>=◌ name_ (λ called. give (listed_of at called))) or ph.◌>>=◌ name_ (λ called. ph.◌>>◌ (mark_ mark.OpenSquare) (ph.◌>>◌ (mark_ mark.CloseSquare) (give (listed_of at called)))))) (dc.arguments_param at) STARS (λ _. []) true
unfolding dc.arguments_param dc.sees_any_star
behind_char at = token_then any_star_exact (λ _. by_reader _
    (branch_exact is_star STARS (λ _. []) in_stars refl refl (map_same (listed_of at) name_exact)
    (token_then name_exact (λ called. token_then (mark_exact mark.OpenSquare) (λ _. token_then (mark_exact mark.CloseSquare) (λ _. give_exact (listed_of at called))))) refl (λ _. refl) (λ _. refl) (λ e. cc))
    (λ ts. double_is at (is_star (class_at ts)) ts))

pub param_exact : Exact dg.param dc.param (13 ∷ BASES) (λ _. 32 ∷ []) true
unfolding dg.param dc.param sees_key dg.arguments_param
param_exact = placed_exact _ _ (13 ∷ BASES) (λ _. 32 ∷ []) (λ at. by_reader _
    (branch_exact (is_key key.Char) (13 ∷ []) (λ _. 32 ∷ []) (in_key key.Char) refl refl (behind_char at) (typed_exact at) refl (λ _. refl) (λ _. refl) (λ e. cc))
    (λ ts. eaten (is_key key.Char (class_at ts)) ts (dc.arguments_param at) (dc.typed_param at)))

pub params_exact : Exact dg.params dc.params (31 ∷ 12 ∷ 13 ∷ BASES) (λ _. []) true
unfolding dg.params dc.params dc.some_params dc.listed_params sees sees_key
params_exact = by_phrase _ (by_reader _
    (branch_exact (is_mark mark.Close) (31 ∷ []) (λ _. []) (in_mark mark.Close) refl refl (give_exact [])
    (by_reader _ (branch_exact (is_key key.Void) (12 ∷ []) (λ _. []) (in_key key.Void) refl refl (token_then (mark_exact mark.Close) (λ _. give_exact []))
    (seq (separated_exact param_exact refl) (λ found. token_then (mark_exact mark.Close) (λ _. give_exact found)) refl) refl (λ _. refl) (λ _. refl) (λ e. cc))
    (λ ts. eaten (is_key key.Void (class_at ts)) ts _ _))
    refl (λ _. refl) (λ _. refl) (λ e. cc))
    (λ ts. eaten (is_mark mark.Close (class_at ts)) ts _ _)) (same_sym (or_group _ _ _))
