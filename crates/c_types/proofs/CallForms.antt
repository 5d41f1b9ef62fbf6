-- What is found of a call, by what it is a call of.
use Rattle.std.proofs.Common.{◌≡◌, ℕ, List, [], ◌∷◌, refl, sym, ap, ◌∙◌, subst, Vec, Global, Option, None, Some, Result, drop, slice_get}
use Rattle.c_tree.specs.declared.syntax.Base.{Base}
use Rattle.c_tree.specs.declared.syntax.Place.{Place}
use Rattle.c_tree.specs.declared.syntax.Expr as x
use Rattle.c_tree.specs.declared.syntax.Expr.TheVariants.{Call}
use Rattle.c_tree.specs.declared.mpi.Argument.{Argument}
use Rattle.c_tree.specs.declared.mpi.MpiFunction.{MpiFunction}
use Rattle.c_tree.specs.declared.mpi.MpiFunction.TheVariants as function
use Rattle.c_tree.specs.declared.program.Callee.TheVariants as callee
use Rattle.c_tree.specs.declared.program.Expr.{Expr}
use Rattle.c_tree.specs.MpiTable.{arguments_of}
use Rattle.c_tree.specs.Programs as p
use Rattle.c_tree.specs.Syntax as s
use Rattle.c_tree.specs.SyntaxOf.{expr_of, exprs_of}
use Rattle.c_tree.proofs.SyntaxRows.{call_is}
use Rattle.c_types.specs.declared.calls.Callable.{Callable}
use Rattle.c_types.specs.declared.calls.Callable.TheVariants as called
use Rattle.c_types.specs.declared.kinds.Decl.{Decl}
use Rattle.c_types.specs.declared.kinds.Decl.TheVariants as decl
use Rattle.c_types.specs.declared.kinds.Given.{Given}
use Rattle.c_types.specs.declared.kinds.Kind.{Kind}
use Rattle.c_types.specs.declared.kinds.Known.TheVariants as a_known
use Rattle.c_types.specs.declared.refusals.TypeRefusal.{TypeRefusal}
use Rattle.c_types.specs.declared.shapes.CallShape.TheVariants as call
use Rattle.c_types.specs.declared.shapes.Shape.TheVariants as shape
use Rattle.c_types.specs.Answers.{Makes, MakesAll, called_by, row_fault, row_made}
use Rattle.c_types.specs.Calls.{meaning, call_shape, own_shape, mpi_shape, sized, prints_all, is_one_number, is_one_pointer, looked_at, Every, Expressions}
use Rattle.c_types.specs.Env.{Env}
use Rattle.c_types.specs.Expressions.{kind_of, kinds, givens, outline, argument_outline}
use Rattle.c_types.specs.Nodes.{first_of, blame}
use Rattle.c_types.specs.Rules.{rule, kind}
use Rattle.c_types.specs.Typed.{typed, passed, passing, call_made, mpi_call, own_params, own_number, format_of, element_size, first_of_all, undefined, row_of, Own, Row, Format, Nothing}

own_is : (d : Option Decl) (place : ℕ) → called_by d ≡ called.Own place → d ≡ Some (decl.Function place)
own_is None place h = cc
own_is (Some (decl.Function q)) place h = cc
own_is (Some (decl.Known (a_known.Mpi f))) place h = cc
own_is (Some (decl.Known a_known.Printf)) place h = cc
own_is (Some (decl.Known a_known.Malloc)) place h = cc
own_is (Some (decl.Known a_known.Free)) place h = cc
own_is d place h = cc

mpi_is : (d : Option Decl) (f : MpiFunction) → called_by d ≡ called.Mpi f → d ≡ Some (decl.Known (a_known.Mpi f))
mpi_is None f h = cc
mpi_is (Some (decl.Function q)) f h = cc
mpi_is (Some (decl.Known (a_known.Mpi g))) f h = cc
mpi_is (Some (decl.Known a_known.Printf)) f h = cc
mpi_is (Some (decl.Known a_known.Malloc)) f h = cc
mpi_is (Some (decl.Known a_known.Free)) f h = cc
mpi_is d f h = cc

printf_is : (d : Option Decl) → called_by d ≡ called.Printf → d ≡ Some (decl.Known a_known.Printf)
printf_is None h = cc
printf_is (Some (decl.Function q)) h = cc
printf_is (Some (decl.Known (a_known.Mpi g))) h = cc
printf_is (Some (decl.Known a_known.Printf)) h = refl
printf_is (Some (decl.Known a_known.Malloc)) h = cc
printf_is (Some (decl.Known a_known.Free)) h = cc
printf_is d h = cc

malloc_is : (d : Option Decl) → called_by d ≡ called.Malloc → d ≡ Some (decl.Known a_known.Malloc)
malloc_is None h = cc
malloc_is (Some (decl.Function q)) h = cc
malloc_is (Some (decl.Known (a_known.Mpi g))) h = cc
malloc_is (Some (decl.Known a_known.Printf)) h = cc
malloc_is (Some (decl.Known a_known.Malloc)) h = refl
malloc_is (Some (decl.Known a_known.Free)) h = cc
malloc_is d h = cc

free_is : (d : Option Decl) → called_by d ≡ called.Free → d ≡ Some (decl.Known a_known.Free)
free_is None h = cc
free_is (Some (decl.Function q)) h = cc
free_is (Some (decl.Known (a_known.Mpi g))) h = cc
free_is (Some (decl.Known a_known.Printf)) h = cc
free_is (Some (decl.Known a_known.Malloc)) h = cc
free_is (Some (decl.Known a_known.Free)) h = refl
free_is d h = cc

first_kind_free : (first : s.Expr) (rest : s.Exprs) (k l : Option Kind) (ks : List (Option Kind)) → prints_all (s.More first rest) (k ∷ ks) ≡ prints_all (s.More first rest) (l ∷ ks)
first_kind_free (s.Text at text) rest k l ks = refl
first_kind_free first rest k l ks = refl

module _ (env : Env) (want : Option Base) where
  nothing_shape : (d : Option Decl) (es : s.Exprs) (ks : List (Option Kind)) (gs : List Given) → called_by d ≡ called.Nothing → call_shape env want d es ks gs ≡ shape.Call call.Nothing
  nothing_shape None es ks gs h = refl
  nothing_shape (Some (decl.Function q)) es ks gs h = cc
  nothing_shape (Some (decl.Known (a_known.Mpi g))) es ks gs h = cc
  nothing_shape (Some (decl.Known a_known.Printf)) es ks gs h = cc
  nothing_shape (Some (decl.Known a_known.Malloc)) es ks gs h = cc
  nothing_shape (Some (decl.Known a_known.Free)) es ks gs h = cc
  nothing_shape d es ks gs h = refl

  nothing_looked : (d : Option Decl) → called_by d ≡ called.Nothing → looked_at d ≡ Every
  nothing_looked None h = refl
  nothing_looked (Some (decl.Function q)) h = refl
  nothing_looked (Some (decl.Known (a_known.Mpi g))) h = cc
  nothing_looked (Some (decl.Known a_known.Printf)) h = cc
  nothing_looked (Some (decl.Known a_known.Malloc)) h = refl
  nothing_looked (Some (decl.Known a_known.Free)) h = refl
  nothing_looked d h = refl

  nothing_made : (d : Option Decl) (es : s.Exprs) (gs : List Given) (made : p.Exprs) → called_by d ≡ called.Nothing → call_made env want d es gs made ≡ undefined
  nothing_made None es gs made h = refl
  nothing_made (Some (decl.Function q)) es gs made h = cc
  nothing_made (Some (decl.Known (a_known.Mpi g))) es gs made h = cc
  nothing_made (Some (decl.Known a_known.Printf)) es gs made h = cc
  nothing_made (Some (decl.Known a_known.Malloc)) es gs made h = cc
  nothing_made (Some (decl.Known a_known.Free)) es gs made h = cc
  nothing_made d es gs made h = refl

  format_kinds : (items : List x.Expr) → prints_all (exprs_of items) (None ∷ kinds env (exprs_of (drop 1 items))) ≡ prints_all (exprs_of items) (kinds env (exprs_of items))
  format_kinds [] = refl
  format_kinds (a ∷ items) = first_kind_free (expr_of a) (exprs_of items) None (kind_of env None (expr_of a)) (kinds env (exprs_of items))

  format_outline : (items : List x.Expr) → first_of (argument_outline Every env (exprs_of (drop 1 items))) ≡ first_of (argument_outline (looked_at (Some (decl.Known a_known.Printf))) env (exprs_of items))
  format_outline [] = refl
  format_outline (a ∷ items) = refl

  format_passed : (items : List x.Expr) → passed env (Own []) (exprs_of (drop 1 items)) ≡ passed env Format (exprs_of items)
  format_passed [] = refl
  format_passed (a ∷ items) = refl

  row_outline : (f : MpiFunction) (es : s.Exprs) → row_fault f (first_of (argument_outline Expressions env es)) ≡ first_of (argument_outline (looked_at (Some (decl.Known (a_known.Mpi f)))) env es)
  row_outline function.Init es = refl
  row_outline f es = refl

  none_passed : (es : s.Exprs) → p.End ≡ passed env Nothing es
  none_passed s.End = refl
  none_passed (s.More first rest) = refl

  row_passed : (f : MpiFunction) (es : s.Exprs) → row_made f (passed env (Row (arguments_of f)) es) ≡ passed env (row_of f) es
  row_passed function.Init es = none_passed es
  row_passed f es = refl

  -- a call as the tree has it: its arguments, and what its name stands for
  module _ (e : x.Expr) (at : Place) (name slice : List ℕ) (arguments : Vec x.Expr Global) (items : List x.Expr) (d : Option Decl) (f : Callable)
      (is : e ≡ Call at name arguments) (en : slice ≡ name) (ed : d ≡ meaning slice env.scopes) (ef : f ≡ called_by d) (ei : items ≡ arguments.items) where
    tree_is : expr_of e ≡ s.Call at name (exprs_of items)
    tree_is = ap expr_of is ∙ call_is at name arguments ∙ ap (λ l. s.Call at name (exprs_of l)) (sym ei)

    decl_is : meaning name env.scopes ≡ d
    decl_is = sym (ed ∙ ap (λ n. meaning n env.scopes) en)

    any_kind : (goal : Option Kind) → goal ≡ kind (call_shape env want d (exprs_of items) (kinds env (exprs_of items)) (givens env (exprs_of items))) → goal ≡ kind_of env want (expr_of e)
    any_kind goal h =
        h ∙ ap (λ o. kind (call_shape env want o (exprs_of items) (kinds env (exprs_of items)) (givens env (exprs_of items)))) (sym decl_is) ∙ sym (ap (kind_of env want) tree_is)

    any_first : (goal : Option TypeRefusal) → goal ≡ blame (rule (call_shape env want d (exprs_of items) (kinds env (exprs_of items)) (givens env (exprs_of items)))) at.line (first_of (argument_outline (looked_at d) env (exprs_of items)))
        → goal ≡ first_of (outline env want (expr_of e))
    any_first goal h =
        h
        ∙ ap (λ o. blame (rule (call_shape env want o (exprs_of items) (kinds env (exprs_of items)) (givens env (exprs_of items)))) at.line (first_of (argument_outline (looked_at o) env (exprs_of items)))) (sym decl_is)
        ∙ sym (ap (λ v. first_of (outline env want v)) tree_is)

    any_made : (made : Result Expr TypeRefusal) → Makes made (call_made env want d (exprs_of items) (givens env (exprs_of items)) (passed env (passing env d) (exprs_of items))) → Makes made (typed env want (expr_of e))
    any_made made h =
        let same : call_made env want d (exprs_of items) (givens env (exprs_of items)) (passed env (passing env d) (exprs_of items)) ≡ typed env want (expr_of e) =
        ap (λ o. call_made env want o (exprs_of items) (givens env (exprs_of items)) (passed env (passing env o) (exprs_of items))) (sym decl_is) ∙ sym (ap (typed env want) tree_is) in
        subst (Makes made) same h

    -- what is called is this
    one_kind : (one : Option Decl) (goal : Option Kind) → d ≡ one → goal ≡ kind (call_shape env want one (exprs_of items) (kinds env (exprs_of items)) (givens env (exprs_of items))) → goal ≡ kind_of env want (expr_of e)
    one_kind one goal same h = any_kind goal (h ∙ ap (λ o. kind (call_shape env want o (exprs_of items) (kinds env (exprs_of items)) (givens env (exprs_of items)))) (sym same))

    one_first : (one : Option Decl) (goal : Option TypeRefusal) → d ≡ one
        → goal ≡ blame (rule (call_shape env want one (exprs_of items) (kinds env (exprs_of items)) (givens env (exprs_of items)))) at.line (first_of (argument_outline (looked_at one) env (exprs_of items)))
        → goal ≡ first_of (outline env want (expr_of e))
    one_first one goal same h =
        any_first goal
        (h ∙ ap (λ o. blame (rule (call_shape env want o (exprs_of items) (kinds env (exprs_of items)) (givens env (exprs_of items)))) at.line (first_of (argument_outline (looked_at o) env (exprs_of items)))) (sym same))

    one_made : (one : Option Decl) (made : Result Expr TypeRefusal) → d ≡ one
        → Makes made (call_made env want one (exprs_of items) (givens env (exprs_of items)) (passed env (passing env one) (exprs_of items))) → Makes made (typed env want (expr_of e))
    one_made one made same h =
        let P : Option Decl → Type 0 = λ o. Makes made (call_made env want o (exprs_of items) (givens env (exprs_of items)) (passed env (passing env o) (exprs_of items))) in
        any_made made (subst P (sym same) h)

    pub own_kind : (place : ℕ) (ks : List (Option Kind)) (goal : Option Kind) → f ≡ called.Own place → ks ≡ kinds env (exprs_of items)
        → goal ≡ kind (own_shape (slice_get env.functions place) ks) → goal ≡ kind_of env want (expr_of e)
    own_kind place ks goal fo ek h =
        one_kind (Some (decl.Function place)) goal (own_is d place (sym ef ∙ fo)) (h ∙ ap (λ l. kind (own_shape (slice_get env.functions place) l)) ek)

    pub own_first : (place : ℕ) (ks : List (Option Kind)) (inner goal : Option TypeRefusal) → f ≡ called.Own place → ks ≡ kinds env (exprs_of items)
        → inner ≡ first_of (argument_outline Every env (exprs_of items)) → goal ≡ blame (rule (own_shape (slice_get env.functions place) ks)) at.line inner → goal ≡ first_of (outline env want (expr_of e))
    own_first place ks inner goal fo ek eo h =
        one_first (Some (decl.Function place)) goal (own_is d place (sym ef ∙ fo))
        (h ∙ ap (λ l. blame (rule (own_shape (slice_get env.functions place) l)) at.line inner) ek ∙ ap (blame (rule (own_shape (slice_get env.functions place) (kinds env (exprs_of items)))) at.line) eo)

    pub own_made : (place : ℕ) (params : List Kind) (all : Result (Vec Expr Global) TypeRefusal) (made : Result Expr TypeRefusal) → f ≡ called.Own place → params ≡ own_params (slice_get env.functions place)
        → MakesAll all (passed env (Own params) (exprs_of items)) → ((es : p.Exprs) → MakesAll all es → Makes made (p.Apply (callee.Function (own_number (slice_get env.functions place))) es))
        → Makes made (typed env want (expr_of e))
    own_made place params all made fo ep ha h =
        let P : List Kind → Type 0 = λ l. MakesAll all (passed env (Own l) (exprs_of items)) in
        one_made (Some (decl.Function place)) made (own_is d place (sym ef ∙ fo)) (h (passed env (Own (own_params (slice_get env.functions place))) (exprs_of items)) (subst P ep ha))

    pub mpi_kind : (g : MpiFunction) (others : List x.Expr) (gs : List Given) (goal : Option Kind) → f ≡ called.Mpi g → others ≡ arguments.items → gs ≡ givens env (exprs_of items)
        → goal ≡ kind (mpi_shape g env.scopes (exprs_of others) gs) → goal ≡ kind_of env want (expr_of e)
    mpi_kind g others gs goal fo eo eg h =
        one_kind (Some (decl.Known (a_known.Mpi g))) goal (mpi_is d g (sym ef ∙ fo))
        (h ∙ ap (λ l. kind (mpi_shape g env.scopes (exprs_of l) gs)) (eo ∙ sym ei) ∙ ap (λ l. kind (mpi_shape g env.scopes (exprs_of items) l)) eg)

    pub mpi_first : (g : MpiFunction) (others : List x.Expr) (gs : List Given) (inner goal : Option TypeRefusal) → f ≡ called.Mpi g → others ≡ arguments.items → gs ≡ givens env (exprs_of items)
        → inner ≡ first_of (argument_outline Expressions env (exprs_of items)) → goal ≡ blame (rule (mpi_shape g env.scopes (exprs_of others) gs)) at.line (row_fault g inner) → goal ≡ first_of (outline env want (expr_of e))
    mpi_first g others gs inner goal fo eo eg ein h =
        one_first (Some (decl.Known (a_known.Mpi g))) goal (mpi_is d g (sym ef ∙ fo))
        (h
        ∙ ap (λ l. blame (rule (mpi_shape g env.scopes (exprs_of l) gs)) at.line (row_fault g inner)) (eo ∙ sym ei)
        ∙ ap (λ l. blame (rule (mpi_shape g env.scopes (exprs_of items) l)) at.line (row_fault g inner)) eg
        ∙ ap (blame (rule (mpi_shape g env.scopes (exprs_of items) (givens env (exprs_of items)))) at.line) (ap (row_fault g) ein ∙ row_outline g (exprs_of items)))

    pub mpi_made : (g : MpiFunction) (rows : List Argument) (gs : List Given) (all : Result (Vec Expr Global) TypeRefusal) (made : Result Expr TypeRefusal) → f ≡ called.Mpi g → rows ≡ arguments_of g → gs ≡ givens env (exprs_of items)
        → MakesAll all (passed env (Row rows) (exprs_of items)) → ((es : p.Exprs) → MakesAll all es → Makes made (p.Apply (callee.Mpi (mpi_call g gs)) (row_made g es)))
        → Makes made (typed env want (expr_of e))
    mpi_made g rows gs all made fo er eg ha h =
        let P : List Argument → Type 0 = λ l. MakesAll all (passed env (Row l) (exprs_of items)) in
        let same : p.Apply (callee.Mpi (mpi_call g gs)) (row_made g (passed env (Row (arguments_of g)) (exprs_of items))) ≡ p.Apply (callee.Mpi (mpi_call g (givens env (exprs_of items)))) (passed env (row_of g) (exprs_of items)) =
        ap (λ l. p.Apply (callee.Mpi (mpi_call g l)) (row_made g (passed env (Row (arguments_of g)) (exprs_of items)))) eg
        ∙ ap (p.Apply (callee.Mpi (mpi_call g (givens env (exprs_of items))))) (row_passed g (exprs_of items)) in
        one_made (Some (decl.Known (a_known.Mpi g))) made (mpi_is d g (sym ef ∙ fo)) (subst (Makes made) same (h (passed env (Row (arguments_of g)) (exprs_of items)) (subst P er ha)))

    pub printf_kind : (others : List x.Expr) (ks : List (Option Kind)) (goal : Option Kind) → f ≡ called.Printf → others ≡ arguments.items → ks ≡ kinds env (exprs_of (drop 1 items))
        → goal ≡ kind (shape.Call (call.Printf (prints_all (exprs_of others) (None ∷ ks)))) → goal ≡ kind_of env want (expr_of e)
    printf_kind others ks goal fo eo ek h =
        one_kind (Some (decl.Known a_known.Printf)) goal (printf_is d (sym ef ∙ fo))
        (h ∙ ap (λ b. kind (shape.Call (call.Printf b))) (ap (λ l. prints_all (exprs_of l) (None ∷ ks)) (eo ∙ sym ei) ∙ ap (λ l. prints_all (exprs_of items) (None ∷ l)) ek ∙ format_kinds items))

    pub printf_first : (others : List x.Expr) (ks : List (Option Kind)) (inner goal : Option TypeRefusal) → f ≡ called.Printf → others ≡ arguments.items → ks ≡ kinds env (exprs_of (drop 1 items))
        → inner ≡ first_of (argument_outline Every env (exprs_of (drop 1 items))) → goal ≡ blame (rule (shape.Call (call.Printf (prints_all (exprs_of others) (None ∷ ks))))) at.line inner
        → goal ≡ first_of (outline env want (expr_of e))
    printf_first others ks inner goal fo eo ek ein h =
        one_first (Some (decl.Known a_known.Printf)) goal (printf_is d (sym ef ∙ fo))
        (h
        ∙ ap (λ b. blame (rule (shape.Call (call.Printf b))) at.line inner) (ap (λ l. prints_all (exprs_of l) (None ∷ ks)) (eo ∙ sym ei) ∙ ap (λ l. prints_all (exprs_of items) (None ∷ l)) ek ∙ format_kinds items)
        ∙ ap (blame (rule (shape.Call (call.Printf (prints_all (exprs_of items) (kinds env (exprs_of items)))))) at.line) (ein ∙ format_outline items))

    pub printf_made : (others : List x.Expr) (all : Result (Vec Expr Global) TypeRefusal) (made : Result Expr TypeRefusal) → f ≡ called.Printf → others ≡ arguments.items
        → MakesAll all (passed env (Own []) (exprs_of (drop 1 items))) → ((es : p.Exprs) → MakesAll all es → Makes made (p.Apply (callee.Print (format_of (exprs_of others))) es))
        → Makes made (typed env want (expr_of e))
    printf_made others all made fo eo ha h =
        let same : p.Apply (callee.Print (format_of (exprs_of others))) (passed env (Own []) (exprs_of (drop 1 items))) ≡ p.Apply (callee.Print (format_of (exprs_of items))) (passed env Format (exprs_of items)) =
        ap (λ l. p.Apply (callee.Print (format_of (exprs_of l))) (passed env (Own []) (exprs_of (drop 1 items)))) (eo ∙ sym ei)
        ∙ ap (p.Apply (callee.Print (format_of (exprs_of items)))) (format_passed items) in
        one_made (Some (decl.Known a_known.Printf)) made (printf_is d (sym ef ∙ fo)) (subst (Makes made) same (h (passed env (Own []) (exprs_of (drop 1 items))) ha))

    pub malloc_kind : (ks : List (Option Kind)) (goal : Option Kind) → f ≡ called.Malloc → ks ≡ kinds env (exprs_of items)
        → goal ≡ kind (shape.Call (call.Malloc (sized want) (is_one_number ks))) → goal ≡ kind_of env want (expr_of e)
    malloc_kind ks goal fo ek h =
        one_kind (Some (decl.Known a_known.Malloc)) goal (malloc_is d (sym ef ∙ fo)) (h ∙ ap (λ l. kind (shape.Call (call.Malloc (sized want) (is_one_number l)))) ek)

    pub malloc_first : (ks : List (Option Kind)) (inner goal : Option TypeRefusal) → f ≡ called.Malloc → ks ≡ kinds env (exprs_of items) → inner ≡ first_of (argument_outline Every env (exprs_of items))
        → goal ≡ blame (rule (shape.Call (call.Malloc (sized want) (is_one_number ks)))) at.line inner → goal ≡ first_of (outline env want (expr_of e))
    malloc_first ks inner goal fo ek ein h =
        one_first (Some (decl.Known a_known.Malloc)) goal (malloc_is d (sym ef ∙ fo))
        (h ∙ ap (λ l. blame (rule (shape.Call (call.Malloc (sized want) (is_one_number l)))) at.line inner) ek ∙ ap (blame (rule (shape.Call (call.Malloc (sized want) (is_one_number (kinds env (exprs_of items)))))) at.line) ein)

    pub malloc_made : (all : Result (Vec Expr Global) TypeRefusal) (made : Result Expr TypeRefusal) → f ≡ called.Malloc → MakesAll all (passed env (Own []) (exprs_of items))
        → ((es : p.Exprs) → MakesAll all es → Makes made (p.Malloc (element_size want) (first_of_all es))) → Makes made (typed env want (expr_of e))
    malloc_made all made fo ha h = one_made (Some (decl.Known a_known.Malloc)) made (malloc_is d (sym ef ∙ fo)) (h (passed env (Own []) (exprs_of items)) ha)

    pub free_kind : (ks : List (Option Kind)) (goal : Option Kind) → f ≡ called.Free → ks ≡ kinds env (exprs_of items)
        → goal ≡ kind (shape.Call (call.Free (is_one_pointer ks))) → goal ≡ kind_of env want (expr_of e)
    free_kind ks goal fo ek h =
        one_kind (Some (decl.Known a_known.Free)) goal (free_is d (sym ef ∙ fo)) (h ∙ ap (λ l. kind (shape.Call (call.Free (is_one_pointer l)))) ek)

    pub free_first : (ks : List (Option Kind)) (inner goal : Option TypeRefusal) → f ≡ called.Free → ks ≡ kinds env (exprs_of items) → inner ≡ first_of (argument_outline Every env (exprs_of items))
        → goal ≡ blame (rule (shape.Call (call.Free (is_one_pointer ks)))) at.line inner → goal ≡ first_of (outline env want (expr_of e))
    free_first ks inner goal fo ek ein h =
        one_first (Some (decl.Known a_known.Free)) goal (free_is d (sym ef ∙ fo))
        (h ∙ ap (λ l. blame (rule (shape.Call (call.Free (is_one_pointer l)))) at.line inner) ek ∙ ap (blame (rule (shape.Call (call.Free (is_one_pointer (kinds env (exprs_of items)))))) at.line) ein)

    pub free_made : (all : Result (Vec Expr Global) TypeRefusal) (made : Result Expr TypeRefusal) → f ≡ called.Free → MakesAll all (passed env (Own []) (exprs_of items))
        → ((es : p.Exprs) → MakesAll all es → Makes made (p.Free (first_of_all es))) → Makes made (typed env want (expr_of e))
    free_made all made fo ha h = one_made (Some (decl.Known a_known.Free)) made (free_is d (sym ef ∙ fo)) (h (passed env (Own []) (exprs_of items)) ha)

    pub nothing_kind : (goal : Option Kind) → f ≡ called.Nothing → goal ≡ kind (shape.Call call.Nothing) → goal ≡ kind_of env want (expr_of e)
    nothing_kind goal fo h = any_kind goal (h ∙ ap kind (sym (nothing_shape d (exprs_of items) (kinds env (exprs_of items)) (givens env (exprs_of items)) (sym ef ∙ fo))))

    pub nothing_first : (inner goal : Option TypeRefusal) → f ≡ called.Nothing → inner ≡ first_of (argument_outline Every env (exprs_of items))
        → goal ≡ blame (rule (shape.Call call.Nothing)) at.line inner → goal ≡ first_of (outline env want (expr_of e))
    nothing_first inner goal fo ein h =
        any_first goal
        (h
        ∙ ap (λ v. blame (rule v) at.line inner) (sym (nothing_shape d (exprs_of items) (kinds env (exprs_of items)) (givens env (exprs_of items)) (sym ef ∙ fo)))
        ∙ ap (blame (rule (call_shape env want d (exprs_of items) (kinds env (exprs_of items)) (givens env (exprs_of items)))) at.line) (ein ∙ ap (λ l. first_of (argument_outline l env (exprs_of items))) (sym (nothing_looked d (sym ef ∙ fo)))))

    pub nothing_is_made : (made : Result Expr TypeRefusal) → f ≡ called.Nothing → Makes made undefined → Makes made (typed env want (expr_of e))
    nothing_is_made made fo h =
        any_made made (subst (Makes made) (sym (nothing_made d (exprs_of items) (givens env (exprs_of items)) (passed env (passing env d) (exprs_of items)) (sym ef ∙ fo))) h)
