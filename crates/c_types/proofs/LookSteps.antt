-- Steps of the pass over the arguments of calls.
use Rattle.std.proofs.Common.{◌≡◌, ℕ, ◌+◌, ◌-◌, ◌<◌, ◌≤◌, List, [], ◌∷◌, ◌++◌, refl, sym, ap, ◌∙◌, subst, Vec, Global, cond, Option, None, Some, is_some, Result, Ok, Err, length, drop, get_or, slice_get, append_assoc, arith, ◌⊎◌, inl, inr}
use Rattle.std.proofs.lemmas.List.{drop_more, drop_all}
use Rattle.std.proofs.lemmas.Option.{slice_get_cases, slice_get-get_or}
use Rattle.c_tree.specs.declared.mpi.Argument.{Argument}
use Rattle.c_tree.specs.declared.program.Expr.{Expr}
use Rattle.c_tree.specs.ProgramOf as program
use Rattle.c_tree.specs.Programs as p
use Rattle.c_tree.specs.declared.syntax.Expr as x
use Rattle.c_tree.specs.SyntaxOf.{expr_of, exprs_of}
use Rattle.c_tree.specs.Syntax as s
use Rattle.c_types.specs.declared.kinds.Given.{Given}
use Rattle.c_types.specs.declared.kinds.Kind.{Kind}
use Rattle.c_types.specs.declared.refusals.TypeRefusal.{TypeRefusal}
use Rattle.c_types.specs.Answers.{Makes, MakesAll, MakesOnto, onto, due_by}
use Rattle.c_types.specs.Calls.{special, or_typed, Every, Expressions}
use Rattle.c_types.specs.Env.{Env, Scope, first_some}
use Rattle.c_types.specs.Expressions.{kind_of, kinds, givens, outline, argument_outline}
use Rattle.c_types.specs.Nodes.{first_of, Empty, Outline}
use Rattle.c_types.specs.Typed.{typed, passed, converted, unless_special, Passing, Own, Row}

onto_more : (all : List Expr) (value : Expr) (rest : p.Exprs) → onto (all ++ value ∷ []) rest ≡ onto all (p.More (program.expr_of value) rest)
onto_more [] value rest = refl
onto_more (first ∷ all) value rest = ap (p.More (program.expr_of first)) (onto_more all value rest)

onto_end : (all : List Expr) → program.exprs_of all ≡ onto all p.End
onto_end [] = refl
onto_end (first ∷ all) = ap (p.More (program.expr_of first)) (onto_end all)

-- an argument at the end
pub argument_pushed : (all : Result (Vec Expr Global) TypeRefusal) (one : Result Expr TypeRefusal) (old : Vec Expr Global) (made value : Expr) (due k : Option Kind) (new : List Expr)
    → all ≡ Ok old → one ≡ Ok made → program.expr_of value ≡ converted due k (program.expr_of made) → new ≡ old.items ++ value ∷ []
    → (a : p.Expr) (rest goal : p.Exprs) → Makes one a → MakesOnto all (p.More (converted due k a) rest) goal → onto new rest ≡ goal
argument_pushed all one old made value due k new ea eo ev en a rest goal h g =
    let P : Result Expr TypeRefusal → Type 0 = λ r. Makes r a in
    let Q : Result (Vec Expr Global) TypeRefusal → Type 0 = λ r. MakesOnto r (p.More (converted due k a) rest) goal in
    ap (λ l. onto l rest) en
    ∙ onto_more old.items value rest
    ∙ ap (λ e. onto old.items (p.More e rest)) (ev ∙ ap (converted due k) (subst P eo h))
    ∙ subst Q ea g

here : (es : List x.Expr) (i : ℕ) (e : x.Expr) → i < length es → e ≡ get_or es i e → drop i es ≡ e ∷ drop (i + 1) es
here es i e h is = drop_more es i e h ∙ ap (λ v. v ∷ drop (i + 1) es) (sym is)

some_assoc : {A : Type 0} (a b c : Option A) → first_some (first_some a b) c ≡ first_some a (first_some b c)
some_assoc None b c = refl
some_assoc (Some v) b c = refl

left_out : (special : Option Given) (inside : Outline) → cond (is_some special) None (first_of inside) ≡ first_of (cond (is_some special) Empty inside)
left_out None inside = refl
left_out (Some given) inside = refl

-- an element that is read twice
pub same_element : (es : List x.Expr) (i : ℕ) (a b : x.Expr) → i < length es → a ≡ get_or es i a → b ≡ get_or es i b → b ≡ a
same_element es i a b h ea eb =
    let one : slice_get es i ≡ Some (get_or es i a) = slice_get-get_or es i a h in
    let two : slice_get es i ≡ Some (get_or es i b) = slice_get-get_or es i b h in
    cc

pub special_of : (scopes : List Scope) (a b : x.Expr) (s : Option Given) → b ≡ a → s ≡ special scopes (expr_of b) → s ≡ special scopes (expr_of a)
special_of scopes a b s same is = is ∙ ap (λ v. special scopes (expr_of v)) same

module _ (env : Env) where
  pub kinds_on : (es : List x.Expr) (i : ℕ) (e : x.Expr) (ks new : List (Option Kind)) (k : Option Kind) (goal : List (Option Kind)) → i < length es → e ≡ get_or es i e
      → new ≡ ks ++ k ∷ [] → k ≡ kind_of env None (expr_of e) → ks ++ kinds env (exprs_of (drop i es)) ≡ goal → new ++ kinds env (exprs_of (drop (i + 1) es)) ≡ goal
  kinds_on es i e ks new k goal h is en ek inv =
      ap (λ l. l ++ kinds env (exprs_of (drop (i + 1) es))) (en ∙ ap (λ v. ks ++ v ∷ []) ek)
      ∙ append_assoc ks (kind_of env None (expr_of e) ∷ []) (kinds env (exprs_of (drop (i + 1) es)))
      ∙ sym (ap (λ l. ks ++ kinds env (exprs_of l)) (here es i e h is))
      ∙ inv

  pub givens_on : (es : List x.Expr) (i : ℕ) (e : x.Expr) (gs new : List Given) (s : Option Given) (k : Option Kind) (g : Given) (goal : List Given) → i < length es → e ≡ get_or es i e
      → new ≡ gs ++ g ∷ [] → g ≡ or_typed s k → s ≡ special env.scopes (expr_of e) → k ≡ kind_of env None (expr_of e)
      → gs ++ givens env (exprs_of (drop i es)) ≡ goal → new ++ givens env (exprs_of (drop (i + 1) es)) ≡ goal
  givens_on es i e gs new s k g goal h is en eg es' ek inv =
      ap (λ l. l ++ givens env (exprs_of (drop (i + 1) es))) (en ∙ ap (λ v. gs ++ v ∷ []) (eg ∙ ap (λ o. or_typed o k) es' ∙ ap (or_typed (special env.scopes (expr_of e))) ek))
      ∙ append_assoc gs (or_typed (special env.scopes (expr_of e)) (kind_of env None (expr_of e)) ∷ []) (givens env (exprs_of (drop (i + 1) es)))
      ∙ sym (ap (λ l. gs ++ givens env (exprs_of l)) (here es i e h is))
      ∙ inv

  pub first_on : (es : List x.Expr) (i : ℕ) (e : x.Expr) (old one new goal : Option TypeRefusal) → i < length es → e ≡ get_or es i e
      → new ≡ first_some old one → one ≡ first_of (outline env None (expr_of e))
      → first_some old (first_of (argument_outline Every env (exprs_of (drop i es)))) ≡ goal → first_some new (first_of (argument_outline Every env (exprs_of (drop (i + 1) es)))) ≡ goal
  first_on es i e old one new goal h is en eo inv =
      ap (λ o. first_some o (first_of (argument_outline Every env (exprs_of (drop (i + 1) es))))) (en ∙ ap (first_some old) eo)
      ∙ some_assoc old (first_of (outline env None (expr_of e))) (first_of (argument_outline Every env (exprs_of (drop (i + 1) es))))
      ∙ sym (ap (λ l. first_some old (first_of (argument_outline Every env (exprs_of l)))) (here es i e h is))
      ∙ inv

  pub row_first_on : (es : List x.Expr) (i : ℕ) (e : x.Expr) (s : Option Given) (old one new goal : Option TypeRefusal) → i < length es → e ≡ get_or es i e
      → new ≡ first_some old (cond (is_some s) None one) → s ≡ special env.scopes (expr_of e) → one ≡ first_of (outline env None (expr_of e))
      → first_some old (first_of (argument_outline Expressions env (exprs_of (drop i es)))) ≡ goal → first_some new (first_of (argument_outline Expressions env (exprs_of (drop (i + 1) es)))) ≡ goal
  row_first_on es i e s old one new goal h is en es' eo inv =
      let rest : Option TypeRefusal = first_of (argument_outline Expressions env (exprs_of (drop (i + 1) es))) in
      ap (λ o. first_some o rest) (en ∙ ap (first_some old) (ap (λ o. cond (is_some o) None one) es' ∙ ap (cond (is_some (special env.scopes (expr_of e))) None) eo ∙ left_out (special env.scopes (expr_of e)) (outline env None (expr_of e))))
      ∙ some_assoc old (first_of (cond (is_some (special env.scopes (expr_of e))) Empty (outline env None (expr_of e)))) rest
      ∙ sym (ap (λ l. first_some old (first_of (argument_outline Expressions env (exprs_of l)))) (here es i e h is))
      ∙ inv

  own_next : (params : List Kind) (k : ℕ) (e : s.Expr) (rest : s.Exprs) → ((v : Kind) × (k < length params) × (slice_get params k ≡ Some v) × (get_or params k v ≡ v)) ⊎ ((length params ≤ k) × (slice_get params k ≡ None))
      → passed env (Own (drop k params)) (s.More e rest) ≡ p.More (converted (slice_get params k) (kind_of env None e) (typed env None e)) (passed env (Own (drop (k + 1) params)) rest)
  own_next params k e rest (inl w) =
      ap (λ l. passed env (Own l) (s.More e rest)) (drop_more params k w.0 w.1 ∙ ap (λ v. v ∷ drop (k + 1) params) w.3)
      ∙ ap (λ o. p.More (converted o (kind_of env None e) (typed env None e)) (passed env (Own (drop (k + 1) params)) rest)) (sym w.2)
  own_next params k e rest (inr w) =
      ap (λ l. passed env (Own l) (s.More e rest)) (drop_all k params w.0)
      ∙ ap (λ l. p.More (typed env None e) (passed env (Own l) rest)) (sym (drop_all (k + 1) params (omega (arith, w.0))))
      ∙ ap (λ o. p.More (converted o (kind_of env None e) (typed env None e)) (passed env (Own (drop (k + 1) params)) rest)) (sym w.1)

  row_next : (row : List Argument) (k : ℕ) (e : s.Expr) (rest : s.Exprs) → ((v : Argument) × (k < length row) × (slice_get row k ≡ Some v) × (get_or row k v ≡ v)) ⊎ ((length row ≤ k) × (slice_get row k ≡ None))
      → passed env (Row (drop k row)) (s.More e rest)
      ≡ unless_special (special env.scopes e) (converted (due_by (slice_get row k)) (kind_of env None e) (typed env None e)) (passed env (Row (drop (k + 1) row)) rest)
  row_next row k e rest (inl w) =
      ap (λ l. passed env (Row l) (s.More e rest)) (drop_more row k w.0 w.1 ∙ ap (λ v. v ∷ drop (k + 1) row) w.3)
      ∙ ap (λ o. unless_special (special env.scopes e) (converted (due_by o) (kind_of env None e) (typed env None e)) (passed env (Row (drop (k + 1) row)) rest)) (sym w.2)
  row_next row k e rest (inr w) =
      ap (λ l. passed env (Row l) (s.More e rest)) (drop_all k row w.0)
      ∙ ap (λ l. unless_special (special env.scopes e) (typed env None e) (passed env (Row l) rest)) (sym (drop_all (k + 1) row (omega (arith, w.0))))
      ∙ ap (λ o. unless_special (special env.scopes e) (converted (due_by o) (kind_of env None e) (typed env None e)) (passed env (Row (drop (k + 1) row)) rest)) (sym w.1)

  pub made_on : (es : List x.Expr) (i from : ℕ) (e : x.Expr) (params : List Kind) (old new : Result (Vec Expr Global) TypeRefusal) (one : Result Expr TypeRefusal) (due k : Option Kind) (goal : p.Exprs)
      → i < length es → e ≡ get_or es i e → from ≤ i → due ≡ slice_get params (i - from) → k ≡ kind_of env None (expr_of e) → Makes one (typed env None (expr_of e))
      → ((a : p.Expr) (rest goal : p.Exprs) → Makes one a → MakesOnto old (p.More (converted due k a) rest) goal → MakesOnto new rest goal)
      → MakesOnto old (passed env (Own (drop (i - from) params)) (exprs_of (drop i es))) goal
      → MakesOnto new (passed env (Own (drop (i + 1 - from) params)) (exprs_of (drop (i + 1) es))) goal
  made_on es i from e params old new one due k goal h is low ed ek makes step inv =
      let rest : p.Exprs = passed env (Own (drop (i - from + 1) params)) (exprs_of (drop (i + 1) es)) in
      let next : passed env (Own (drop (i - from) params)) (exprs_of (drop i es)) ≡ p.More (converted due k (typed env None (expr_of e))) rest =
      ap (λ l. passed env (Own (drop (i - from) params)) (exprs_of l)) (here es i e h is)
      ∙ own_next params (i - from) (expr_of e) (exprs_of (drop (i + 1) es)) (slice_get_cases params (i - from)).1
      ∙ ap (λ o. p.More (converted o (kind_of env None (expr_of e)) (typed env None (expr_of e))) rest) (sym ed)
      ∙ ap (λ o. p.More (converted due o (typed env None (expr_of e))) rest) (sym ek) in
      let same : i - from + 1 ≡ i + 1 - from = omega arith in
      let P : p.Exprs → Type 0 = λ l. MakesOnto old l goal in
      let Q : ℕ → Type 0 = λ n. MakesOnto new (passed env (Own (drop n params)) (exprs_of (drop (i + 1) es))) goal in
      subst Q same (step (typed env None (expr_of e)) rest goal makes (subst P next inv))

  pub row_made_on : (es : List x.Expr) (i : ℕ) (e : x.Expr) (row : List Argument) (old new : Result (Vec Expr Global) TypeRefusal) (one : Result Expr TypeRefusal) (s : Option Given) (due k : Option Kind) (goal : p.Exprs)
      → i < length es → e ≡ get_or es i e → s ≡ special env.scopes (expr_of e) → due ≡ due_by (slice_get row i) → k ≡ kind_of env None (expr_of e) → Makes one (typed env None (expr_of e))
      → ((a : p.Expr) (rest goal : p.Exprs) → Makes one a → MakesOnto old (unless_special s (converted due k a) rest) goal → MakesOnto new rest goal)
      → MakesOnto old (passed env (Row (drop i row)) (exprs_of (drop i es))) goal
      → MakesOnto new (passed env (Row (drop (i + 1) row)) (exprs_of (drop (i + 1) es))) goal
  row_made_on es i e row old new one s due k goal h is es' ed ek makes step inv =
      let rest : p.Exprs = passed env (Row (drop (i + 1) row)) (exprs_of (drop (i + 1) es)) in
      let next : passed env (Row (drop i row)) (exprs_of (drop i es)) ≡ unless_special s (converted due k (typed env None (expr_of e))) rest =
      ap (λ l. passed env (Row (drop i row)) (exprs_of l)) (here es i e h is)
      ∙ row_next row i (expr_of e) (exprs_of (drop (i + 1) es)) (slice_get_cases row i).1
      ∙ ap (λ o. unless_special (special env.scopes (expr_of e)) (converted o (kind_of env None (expr_of e)) (typed env None (expr_of e))) rest) (sym ed)
      ∙ ap (λ o. unless_special (special env.scopes (expr_of e)) (converted due o (typed env None (expr_of e))) rest) (sym ek)
      ∙ ap (λ o. unless_special o (converted due k (typed env None (expr_of e))) rest) (sym es') in
      let P : p.Exprs → Type 0 = λ l. MakesOnto old l goal in
      step (typed env None (expr_of e)) rest goal makes (subst P next inv)

  pub made_end : (how : Passing) (es : List x.Expr) (all : Result (Vec Expr Global) TypeRefusal) (goal : p.Exprs) → es ≡ [] → MakesOnto all (passed env how (exprs_of es)) goal → MakesAll all goal
  made_end how es (Err refusal) goal none inv = tt
  made_end how es (Ok v) goal none inv = onto_end v.items ∙ sym (ap (λ l. onto v.items (passed env how (exprs_of l))) none) ∙ inv
