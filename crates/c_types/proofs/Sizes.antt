-- A typed program is sized: each declaration and each statement that shares keeps the limits, where it breaks no rule.
use Rattle.std.proofs.Common.{◌≡◌, ℕ, zero, suc, ◌+◌, ◌-◌, ◌*◌, ◌≤◌, ◌<◌, Bool, true, false, cond, not, nat_le, List, [], ◌∷◌, ◌++◌, length, replicate, Option, Some, None, refl, sym, ap, ◌∙◌, subst, arith, slice_get}
use Rattle.std.specs.Prelude.{is_some, unwrap_or, ◌&&◌, option_map, set}
use Rattle.std.specs.List.{All, sum_by}
use Rattle.std.proofs.lemmas.List.{length-append, length-set, length-replicate}
use Rattle.std.proofs.lemmas.List.Elements.{All-append, All-push, All-set, All-nil}
use Rattle.std.proofs.lemmas.List.Sums.{sum_by-append, sum_by_push, sum_by-set}
use Rattle.std.proofs.lemmas.Option.{slice_get_within, get_or_from_slice_get}
use Rattle.std.proofs.lemmas.Bool.{leb-true, leb-false}
use Rattle.mpc_values.specs.declared.limits.TheConstants.{MAX_STATIC_VARIABLES, MAX_STATIC_WORDS, MAX_CONSTRUCTS}
use Rattle.mpc_values.specs.declared.owners.Level.{Level}
use Rattle.mpc_values.specs.declared.owners.Level.TheVariants.{Core}
use Rattle.mpc_values.specs.declared.owners.StaticVar.{StaticVar}
use Rattle.mpc_values.specs.declared.values.Word.{Word}
use Rattle.c_tree.specs.declared.program.Construct.{Construct}
use Rattle.c_tree.specs.declared.program.HlsKind.{HlsKind}
use Rattle.c_tree.specs.declared.syntax.Base.{Base}
use Rattle.c_tree.specs.declared.syntax.Param.{Param}
use Rattle.c_tree.specs.Programs as p
use Rattle.c_tree.specs.Syntax as x
use Rattle.c_tree.specs.Syntax.{Tree, Item, Scope, Variables, Defined, Function, Body, Declarator, Declaration, ForHead, Bare, Declared, Evaluated, Stmt, Stmts, Empty, Eval, Declare, Block, If, IfElse, While, DoWhile, For, Return, Break, Continue, Single, Barrier, Done, Then}
use Rattle.c_types.specs.declared.kinds.Decl.{Decl}
use Rattle.c_types.specs.declared.kinds.Decl.TheVariants as decl
use Rattle.c_types.specs.declared.kinds.Kind.{Kind}
use Rattle.c_types.specs.declared.shapes.Shape.{Shape}
use Rattle.c_types.specs.Constants.{initial_words, filled, start_word, start_words, zero_word, constant_of}
use Rattle.c_types.specs.Declarations.{is_array, element_kind, object_words, fits_static, static_words_in, static_words, first_words, static_of, static_variable, with_global, with_static, with_local, with_inner, static_shape, inner_outline, global_outlines, with_globals, with_inners, inner_outlines, declared, declaration_outline}
use Rattle.c_types.specs.Env as env
use Rattle.c_types.specs.Env.{Env, find, enter_scope, leave_scope}
use Rattle.c_types.specs.Expressions.{kind_of, outline}
use Rattle.c_types.specs.Nodes as nodes
use Rattle.c_types.specs.Nodes.{Node, Outline, At, nodes_of, Tells, NoneBreaks}
use Rattle.c_types.specs.Rules.{Rule, Rule5, Rule6, Rule33}
use Rattle.c_types.specs.Statements.{levels_of, with_construct, with_single, with_barrier, single_shape, barrier_shape, after, after_all, after_head, stmt_outline, stmts_outline, head_outline, maybe_outline, maybe_kind, maybe_tested}
use Rattle.c_types.specs.Typing.{Typed}
use Rattle.c_types.specs.Units.{with_signature, with_function, with_param, with_params, params_outline, is_main_with_arguments, in_function, behind_params, after_body, after_function, body_outline, function_outline, levelled_at, levelled, target, with_level, after_item, after_items, item_outline, items_outline, start, tree_outline, program_made, agrees_with, signature, defined_at}
use Rattle.c_types.specs.Sizes.{Sized}

-- ---- what holds while a unit is read

IsWhole : StaticVar → Type 0
IsWhole variable = length variable.first ≡ variable.len

-- The file-scope variables, the static locals, their words and the sharing statements so far keep the limits.
record Kept (globals statics : List StaticVar) (words : ℕ) (constructs : List Construct) : Type 0 where
  few : length globals + length statics ≤ MAX_STATIC_VARIABLES
  total : sum_by (λ v. v.len) globals + sum_by (λ v. v.len) statics ≡ words
  small : words ≤ MAX_STATIC_WORDS
  whole_globals : All IsWhole globals
  whole_statics : All IsWhole statics
  shares : length constructs ≤ MAX_CONSTRUCTS

Keeps : Env → Type 0
Keeps e = Kept e.globals e.statics e.words e.constructs

-- ---- nodes that break no rule

none_first : (a b : List Node) → NoneBreaks (a ++ b) → NoneBreaks a
none_first [] b h = tt
none_first (n ∷ a) b h = (h.0, none_first a b h.1)

none_last : (a b : List Node) → NoneBreaks (a ++ b) → NoneBreaks b
none_last [] b h = h
none_last (n ∷ a) b h = none_last a b h.1

-- ---- a static variable whose declarator breaks no rule

record Stood (e : Env) (base : Base) (d : Declarator) : Type 0 where
  n : ℕ
  ws : List Word
  words_are : static_words e base d ≡ Some n
  first_are : first_words e base d ≡ Some ws
  fits : fits_static e n ≡ true
  long : length ws ≡ n

filled_long : (n : ℕ) (zero' : Word) (o : Option (List Word)) (ws : List Word) → filled n zero' o ≡ Some ws → length ws ≡ n
filled_long n zero' None ws e = absurd (cc e)
filled_long n zero' (Some given) ws e = by_test (nat_le (length given) n) refl e
  where
    by_test : (b : Bool) → nat_le (length given) n ≡ b → cond b (Some (given ++ replicate (n - length given) zero')) None ≡ Some ws → length ws ≡ n
    by_test false is e = absurd (cc e)
    by_test true is e =
        let same : given ++ replicate (n - length given) zero' ≡ ws = cc e in
        let le = leb-true (length given) n is in
        let long = length-append given (replicate (n - length given) zero') in
        let rest = length-replicate (n - length given) zero' in
        sym (ap length same) ∙ omega (arith, le, long, rest)

initial_long : (element : Kind) (array : Bool) (n : ℕ) (given : x.Initializer) (ws : List Word) → initial_words element array n given ≡ Some ws → length ws ≡ n
initial_long element array n x.Nothing ws e =
    let same : replicate n (zero_word element) ≡ ws = cc e in
    sym (ap length same) ∙ length-replicate n (zero_word element)
initial_long element true n (x.Value value) ws e = absurd (cc e)
initial_long element false n (x.Value value) ws e = filled_long n (zero_word element) _ ws e
initial_long element true n (x.Values values) ws e = filled_long n (zero_word element) _ ws e
initial_long element false n (x.Values values) ws e = absurd (cc e)

fitting : (e : Env) (o : Option ℕ) (n : ℕ) → static_words_in e o ≡ Some n → fits_static e n ≡ true
fitting e None n is = absurd (cc is)
fitting e (Some m) n is = by_test (fits_static e m) refl is
  where
    by_test : (b : Bool) → fits_static e m ≡ b → cond b (Some m) None ≡ Some n → fits_static e n ≡ true
    by_test false fits is = absurd (cc is)
    by_test true fits is = let same : m ≡ n = cc is in sym (ap (fits_static e) same) ∙ fits

stood : (e : Env) (base : Base) (d : Declarator) → Tells (static_shape e base d) None → Stood e base d
stood e base d none = by_words (static_words e base d) refl
  where
    by_first : (n : ℕ) → static_words e base d ≡ Some n → (f : Option (List Word)) → first_words e base d ≡ f → Stood e base d
    by_first n is None first = absurd (none Rule6 (ap (λ o. not (is_some o)) first))
    by_first n is (Some ws) first =
        let given : initial_words (element_kind base d) (is_array d) n d.initializer ≡ Some ws = sym (ap (λ o. initial_words (element_kind base d) (is_array d) (unwrap_or o 0) d.initializer) is) ∙ first in
        record { n = n; ws = ws; words_are = is; first_are = first; fits = fitting e (object_words base d) n is; long = initial_long (element_kind base d) (is_array d) n d.initializer ws given }

    by_words : (o : Option ℕ) → static_words e base d ≡ o → Stood e base d
    by_words None is = absurd (none Rule5 (ap (λ o. not (is_some o)) is))
    by_words (Some n) is = by_first n is (first_words e base d) refl

both : (a b : Bool) → (a && b) ≡ true → (a ≡ true) × (b ≡ true)
both true b e = (refl, e)
both false b e = absurd (cc e)

-- the variable that it adds, and what then holds of numbers
module _ (e : Env) (base : Base) (d : Declarator) (s : Stood e base d) where
  added : StaticVar
  added = record { len = s.n; level = None; first = s.ws }

  is_added : static_variable e base d ≡ added
  unfolding added
  is_added = ap (λ o. static_of o (first_words e base d)) s.words_are ∙ ap (λ f. static_of (Some s.n) f) s.first_are

  more : unwrap_or (static_words e base d) 0 ≡ s.n
  more = ap (λ o. unwrap_or o 0) s.words_are

  fit : (nat_le (length e.globals + length e.statics + 1) MAX_STATIC_VARIABLES ≡ true) × (nat_le (e.words + s.n) MAX_STATIC_WORDS ≡ true)
  fit = both _ _ s.fits

  kept_global : Keeps e → Keeps (with_global base e d)
  unfolding Keeps added IsWhole
  kept_global k =
      subst (λ v. Kept (e.globals ++ v ∷ []) e.statics (e.words + unwrap_or (static_words e base d) 0) e.constructs) (sym is_added)
      (subst (λ m. Kept (e.globals ++ added ∷ []) e.statics (e.words + m) e.constructs) (sym more)
      (record {
        few = omega (arith, leb-true _ _ fit.0, length-append e.globals (added ∷ []));
        total = omega (arith, k.total, sum_by_push (λ v. v.len) e.globals added);
        small = leb-true _ _ fit.1;
        whole_globals = All-push IsWhole e.globals added k.whole_globals s.long;
        whole_statics = k.whole_statics;
        shares = k.shares;
      }))

  kept_static : Keeps e → Keeps (with_static base e d)
  unfolding Keeps added IsWhole
  kept_static k =
      subst (λ v. Kept e.globals (e.statics ++ v ∷ []) (e.words + unwrap_or (static_words e base d) 0) e.constructs) (sym is_added)
      (subst (λ m. Kept e.globals (e.statics ++ added ∷ []) (e.words + m) e.constructs) (sym more)
      (record {
        few = omega (arith, leb-true _ _ fit.0, length-append e.statics (added ∷ []));
        total = omega (arith, k.total, sum_by_push (λ v. v.len) e.statics added);
        small = leb-true _ _ fit.1;
        whole_globals = k.whole_globals;
        whole_statics = All-push IsWhole e.statics added k.whole_statics s.long;
        shares = k.shares;
      }))

globals_kept : (base : Base) (e : Env) (ds : List Declarator) → Keeps e → NoneBreaks (nodes_of (global_outlines base e ds)) → Keeps (with_globals base e ds)
globals_kept base e [] k none = k
globals_kept base e (d ∷ ds) k none = globals_kept base (with_global base e d) ds (kept_global e base d (stood e base d none.0) k) none.1

inner_kept : (static : Bool) (base : Base) (e : Env) (d : Declarator) → Keeps e → NoneBreaks (nodes_of (inner_outline static base e d)) → Keeps (with_inner static base e d)
unfolding Keeps
inner_kept true base e d k none = kept_static e base d (stood e base d none.0) k
inner_kept false base e d k none = k

inners_kept : (static : Bool) (base : Base) (e : Env) (ds : List Declarator) → Keeps e → NoneBreaks (nodes_of (inner_outlines static base e ds)) → Keeps (with_inners static base e ds)
inners_kept static base e [] k none = k
inners_kept static base e (d ∷ ds) k none =
    let first = nodes_of (inner_outline static base e d) in
    let rest = nodes_of (inner_outlines static base (with_inner static base e d) ds) in
    inners_kept static base (with_inner static base e d) ds (inner_kept static base e d k (none_first first rest none)) (none_last first rest none)

declared_kept : (e : Env) (d : Declaration) → Keeps e → NoneBreaks (nodes_of (declaration_outline e d)) → Keeps (declared e d)
declared_kept e d k none = inners_kept d.is_static d.base e d.declarators k none

-- ---- statements

construct_kept : (kind : HlsKind) (found : Option Level) (e : Env) → Keeps e → (nat_le MAX_CONSTRUCTS (length e.constructs) ≡ true → ⊥) → Keeps (with_construct kind found e)
unfolding Keeps
construct_kept kind found e k none = by_test (nat_le MAX_CONSTRUCTS (length e.constructs)) refl
  where
    by_test : (b : Bool) → nat_le MAX_CONSTRUCTS (length e.constructs) ≡ b → Kept e.globals e.statics e.words (with_construct kind found e).constructs
    by_test true is = absurd (none is)
    by_test false is = record {
      few = k.few;
      total = k.total;
      small = k.small;
      whole_globals = k.whole_globals;
      whole_statics = k.whole_statics;
      shares = let more = length-append e.constructs (record { kind = kind; level = unwrap_or found Core } ∷ []) in omega (arith, leb-false _ _ is, more);
    }

head_kept : (e : Env) (head : ForHead) → Keeps e → NoneBreaks (nodes_of (head_outline e head)) → Keeps (after_head e head)
head_kept e Bare k none = k
head_kept e (Declared d) k none = declared_kept e d k none
head_kept e (Evaluated value) k none = k

-- the nodes inside of a condition's
tested_inside : (line : ℕ) (test : Option (Option Kind)) (inside : Outline) → NoneBreaks (nodes_of (maybe_tested line test inside)) → NoneBreaks (nodes_of inside)
tested_inside line None inside none = none
tested_inside line (Some test) inside none = none.1

entered_kept : (e : Env) → Keeps e → Keeps (enter_scope e)
unfolding Keeps
entered_kept e k = k

left_kept : (e : Env) → Keeps e → Keeps (leave_scope e)
unfolding Keeps
left_kept e k = k

mutual
  stmt_kept : (e : Env) (in_loop : Bool) (s : Stmt) → Keeps e → NoneBreaks (nodes_of (stmt_outline e in_loop s)) → Keeps (after e s)
  stmt_kept e in_loop (Empty at) k none = k
  stmt_kept e in_loop (Eval at value) k none = k
  stmt_kept e in_loop (Declare d) k none = declared_kept e d k none
  stmt_kept e in_loop (Block at items end_line) k none = left_kept (after_all (enter_scope e) items) (stmts_kept (enter_scope e) in_loop items (entered_kept e k) none)
  stmt_kept e in_loop (If at test body) k none = stmt_kept e in_loop body k (none_last (nodes_of (outline e None test)) (nodes_of (stmt_outline e in_loop body)) none.1)
  stmt_kept e in_loop (IfElse at test body other) k none =
      let bodies = none_last (nodes_of (outline e None test)) (nodes_of (stmt_outline e in_loop body) ++ nodes_of (stmt_outline (after e body) in_loop other)) none.1 in
      stmt_kept (after e body) in_loop other (stmt_kept e in_loop body k (none_first (nodes_of (stmt_outline e in_loop body)) (nodes_of (stmt_outline (after e body) in_loop other)) bodies)) (none_last (nodes_of (stmt_outline e in_loop body)) (nodes_of (stmt_outline (after e body) in_loop other)) bodies)
  stmt_kept e in_loop (While at test body) k none = stmt_kept e true body k (none_last (nodes_of (outline e None test)) (nodes_of (stmt_outline e true body)) none.1)
  stmt_kept e in_loop (DoWhile at body test) k none = stmt_kept e true body k (none_first (nodes_of (stmt_outline e true body)) (nodes_of (outline (after e body) None test)) none.1)
  stmt_kept e in_loop (For at head test step body) k none =
      let inner = after_head (enter_scope e) head in
      let all = tested_inside at.line (maybe_kind inner test) _ none in
      let first = nodes_of (head_outline (enter_scope e) head) in
      let second = nodes_of (maybe_outline inner test) in
      let third = nodes_of (maybe_outline inner step) in
      let last = nodes_of (stmt_outline inner true body) in
      let behind = none_last first (second ++ (third ++ last)) all in
      let body_none = none_last third last (none_last second (third ++ last) behind) in
      left_kept (after inner body) (stmt_kept inner true body (head_kept (enter_scope e) head (entered_kept e k) (none_first first (second ++ (third ++ last)) all)) body_none)
  stmt_kept e in_loop (Return at value) k none = k
  stmt_kept e in_loop (Break at) k none = k
  stmt_kept e in_loop (Continue at) k none = k
  stmt_kept e in_loop (Single at names nowait body) k none = stmt_kept (with_single names nowait e) in_loop body (construct_kept _ (levels_of false e names) e k (λ full. none.0 Rule33 full)) none.1
  stmt_kept e in_loop (Barrier at names) k none = construct_kept _ (levels_of true e names) e k (λ full. none.0 Rule33 full)

  stmts_kept : (e : Env) (in_loop : Bool) (s : Stmts) → Keeps e → NoneBreaks (nodes_of (stmts_outline e in_loop s)) → Keeps (after_all e s)
  stmts_kept e in_loop Done k none = k
  stmts_kept e in_loop (Then first rest) k none =
      let here = nodes_of (stmt_outline e in_loop first) in
      let behind = nodes_of (stmts_outline (after e first) in_loop rest) in
      stmts_kept (after e first) in_loop rest (stmt_kept e in_loop first k (none_first here behind none)) (none_last here behind none)

-- ---- functions, directives and units

signed_kept : (e : Env) (f : Function) (found : Option Decl) → Keeps e → Keeps (with_signature e f found)
unfolding Keeps
signed_kept e f None k = k
signed_kept e f (Some (decl.Function place)) k = k
signed_kept e f (Some other) k = k

function_known : (e : Env) (f : Function) → Keeps e → Keeps (with_function e f)
unfolding Keeps
function_known e f k = signed_kept e f (find f.name e.scopes) k

params_kept : (is_main : Bool) (e : Env) (params : List Param) → Keeps e → Keeps (with_params is_main e params)
unfolding Keeps
params_kept is_main e [] k = k
params_kept is_main e (param ∷ rest) k = params_kept is_main (with_param is_main e param) rest k

body_kept : (e : Env) (body : Option Body) → Keeps e → NoneBreaks (nodes_of (body_outline e body)) → Keeps (after_body e body)
body_kept e None k none = k
body_kept e (Some body) k none = stmts_kept e false body.items k none

function_kept : (e : Env) (f : Function) → Keeps e → NoneBreaks (nodes_of (function_outline e f)) → Keeps (after_function e f)
unfolding Keeps
function_kept e f k none =
    let inside = in_function (with_function e f) f in
    let params = nodes_of (params_outline (is_main_with_arguments f) inside f.params) in
    let body = nodes_of (body_outline (behind_params e f) f.body) in
    body_kept (behind_params e f) f.body (params_kept (is_main_with_arguments f) inside f.params (function_known e f k)) (none_last params body none.1)

-- a variable with a level has the words that it had
same_sum : (globals : List StaticVar) (number : ℕ) (v : StaticVar) (level : Level) → slice_get globals number ≡ Some v
    → sum_by (λ v. v.len) (set globals number (record v { level = Some level })) ≡ sum_by (λ v. v.len) globals
same_sum globals number v level there =
    let put = sum_by-set (λ v. v.len) globals number (record v { level = Some level }) v (slice_get_within globals number v there) in
    let old = ap (λ (v : StaticVar). v.len) (get_or_from_slice_get globals number v v there) in
    omega (arith, put, old)

whole_at : (globals : List StaticVar) (number : ℕ) (v : StaticVar) → All IsWhole globals → slice_get globals number ≡ Some v → IsWhole v
unfolding IsWhole
whole_at globals number v all there =
    subst IsWhole (get_or_from_slice_get globals number v v there) (all number v (slice_get_within globals number v there))

levelled_kept : (level : Level) (e : Env) (o : Option ℕ) → Keeps e → Keeps (levelled level e o)
unfolding Keeps IsWhole
levelled_kept level e None k = k
levelled_kept level e (Some number) k = by_there (slice_get e.globals number) refl
  where
    by_there : (o : Option StaticVar) → slice_get e.globals number ≡ o → Kept (levelled_at level e.globals number o) e.statics e.words e.constructs
    by_there None there = k
    by_there (Some v) there = record {
      few = let same = length-set e.globals number (record v { level = Some level }) in omega (arith, same, k.few);
      total = let same = same_sum e.globals number v level there in omega (arith, same, k.total);
      small = k.small;
      whole_globals = All-set IsWhole e.globals number (record v { level = Some level }) (whole_at e.globals number v k.whole_globals there) k.whole_globals;
      whole_statics = k.whole_statics;
      shares = k.shares;
    }

level_kept : (level : Level) (e : Env) (names : List env.Name) → Keeps e → Keeps (with_level level e names)
level_kept level e [] k = k
level_kept level e (name ∷ names) k = level_kept level (levelled level e (target e name)) names (levelled_kept level e (target e name) k)

item_kept : (e : Env) (item : Item) → Keeps e → NoneBreaks (nodes_of (item_outline e item)) → Keeps (after_item e item)
item_kept e (Scope at level names) k none = level_kept level e names k
item_kept e (Variables d) k none = globals_kept d.base e d.declarators k none
item_kept e (Defined f) k none = function_kept e f k none

items_kept : (e : Env) (items : List Item) → Keeps e → NoneBreaks (nodes_of (items_outline e items)) → Keeps (after_items e items)
items_kept e [] k none = k
items_kept e (item ∷ rest) k none =
    let here = nodes_of (item_outline e item) in
    let behind = nodes_of (items_outline (after_item e item) rest) in
    items_kept (after_item e item) rest (item_kept e item k (none_first here behind none)) (none_last here behind none)

start_kept : (items : List Item) → Keeps (start items)
unfolding Keeps
start_kept items = record {
  few = omega arith;
  total = refl;
  small = omega arith;
  whole_globals = All-nil IsWhole;
  whole_statics = All-nil IsWhole;
  shares = omega arith;
}

made_sized : (tree : Tree) → Keeps (after_items (start tree.items) tree.items) → Sized (program_made tree)
unfolding Keeps IsWhole
made_sized tree k =
    let end = after_items (start tree.items) tree.items in
    record {
      variables = let long = length-append end.globals end.statics in omega (arith, long, k.few);
      words = let sum = sum_by-append (λ v. v.len) end.globals end.statics in omega (arith, sum, k.total, k.small);
      first = All-append IsWhole end.globals end.statics k.whole_globals k.whole_statics;
      constructs = k.shares;
    }

-- a typed program is sized
pub typed_is_sized : (tree : Tree) (program : p.Program) → Typed tree program → Sized program
typed_is_sized tree program typed =
    subst Sized (sym typed.made) (made_sized tree (items_kept (start tree.items) tree.items (start_kept tree.items) typed.sound.1))
