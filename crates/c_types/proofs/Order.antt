-- What is answered of an outline is the least rule of its first broken node, and nothing else is.
use Rattle.std.proofs.Common.{◌≡◌, ℕ, List, [], ◌∷◌, ◌++◌, refl, sym, ap, ◌∙◌, subst, Option, None, Some}
use Rattle.c_types.specs.declared.refusals.TypeRefusal.{TypeRefusal}
use Rattle.c_types.specs.declared.shapes.Shape.{Shape}
use Rattle.c_types.specs.Env.{first_some}
use Rattle.c_types.specs.Nodes.{Node, Outline, Empty, At, Then, nodes_of, Tells, NoneBreaks, IsFirst, Says, blame, first_of}
use Rattle.c_types.specs.Rules.{rule}
use Rattle.c_types.proofs.Least.{least, told_once}

-- the first refusal among nodes in order
abbrev pub first_in : List Node → Option TypeRefusal
first_in [] = None
first_in (node ∷ rest) = blame (rule node.shape) node.line (first_in rest)

blame_some : (r : Option ℕ) (line : ℕ) (a b : Option TypeRefusal) → blame r line (first_some a b) ≡ first_some (blame r line a) b
blame_some None line a b = refl
blame_some (Some r) line a b = refl

in_both : (xs ys : List Node) → first_in (xs ++ ys) ≡ first_some (first_in xs) (first_in ys)
in_both [] ys = refl
in_both (node ∷ xs) ys = ap (blame (rule node.shape) node.line) (in_both xs ys) ∙ blame_some (rule node.shape) node.line (first_in xs) (first_in ys)

-- an outline's first refusal is that of its nodes in order
in_order : (o : Outline) → first_of o ≡ first_in (nodes_of o)
in_order Empty = refl
in_order (At line shape inside) = ap (blame (rule shape) line) (in_order inside)
in_order (Then before behind) =
    ap (λ a. first_some a (first_of behind)) (in_order before)
    ∙ ap (first_some (first_in (nodes_of before))) (in_order behind)
    ∙ sym (in_both (nodes_of before) (nodes_of behind))

abbrev pub or : TypeRefusal → Option TypeRefusal → TypeRefusal
or d (Some r) = r
or d None = d

abbrev pub IsThere : Option TypeRefusal → Type 0
IsThere (Some r) = Unit {0}
IsThere None = ⊥

pub not_there : (r : TypeRefusal) → None ≡ Some r → ⊥
not_there r e = let P : Option TypeRefusal → Type 0 = λ o. IsThere o in subst P (sym e) tt

told : (shape : Shape) (o : Option ℕ) → rule shape ≡ o → Tells shape o
told shape o e = let P : Option ℕ → Type 0 = λ x. Tells shape x in subst P e (least shape)

is_first : (ns : List Node) (r : TypeRefusal) → first_in ns ≡ Some r → IsFirst ns r
is_first [] r e = absurd (not_there r e)
is_first (n ∷ ns) r is =
    elim (rule n.shape) as (λ o. rule n.shape ≡ o → blame o n.line (first_in ns) ≡ Some r → IsFirst (n ∷ ns) r) [
      | None ↦ λ p q. let rest = is_first ns r q in
          record { before = n ∷ rest.before; node = rest.node; behind = rest.behind; cut = ap (λ l. n ∷ l) rest.cut; none_before = (told n.shape None p, rest.none_before); breaks = rest.breaks; stands = rest.stands }
      | Some k ↦ λ p q.
          record { before = []; node = n; behind = ns; cut = refl; none_before = tt; breaks = told n.shape (Some r.rule) (p ∙ ap Some (ap (λ o. (or r o).rule) q)); stands = ap (λ o. (or r o).line) q }
    ] refl is

none_breaks : (ns : List Node) → first_in ns ≡ None → NoneBreaks ns
none_breaks [] e = tt
none_breaks (n ∷ ns) is =
    elim (rule n.shape) as (λ o. rule n.shape ≡ o → blame o n.line (first_in ns) ≡ None → NoneBreaks (n ∷ ns)) [
      | None ↦ λ p q. (told n.shape None p, none_breaks ns q)
      | Some k ↦ λ p q. absurd (not_there (record { rule = k; line = n.line }) (sym q))
    ] refl is

-- what a pass over an outline answers says which node is the first to break a rule
pub says : (outline : Outline) (o : Option TypeRefusal) → o ≡ first_of outline → Says (nodes_of outline) o
says outline None e = none_breaks (nodes_of outline) (sym (e ∙ in_order outline))
says outline (Some r) e = is_first (nodes_of outline) r (sym (e ∙ in_order outline))

pub none_found : (ns : List Node) → NoneBreaks ns → first_in ns ≡ None
none_found [] none = refl
none_found (n ∷ ns) none = ap (λ o. blame o n.line (first_in ns)) (told_once n.shape (rule n.shape) None (least n.shape) none.0) ∙ none_found ns none.1

found_behind : (before behind : List Node) (n : Node) (r : TypeRefusal) → NoneBreaks before → Tells n.shape (Some r.rule) → n.line ≡ r.line → first_in (before ++ n ∷ behind) ≡ Some r
found_behind [] behind n r none tells stands =
    ap (λ o. blame o n.line (first_in behind)) (told_once n.shape (rule n.shape) (Some r.rule) (least n.shape) tells)
    ∙ ap (λ line. Some (record { rule = r.rule; line = line })) stands
found_behind (m ∷ before) behind n r none tells stands =
    ap (λ o. blame o m.line (first_in (before ++ n ∷ behind))) (told_once m.shape (rule m.shape) None (least m.shape) none.0) ∙ found_behind before behind n r none.1 tells stands

pub found : (ns : List Node) (r : TypeRefusal) → IsFirst ns r → first_in ns ≡ Some r
found ns r first = ap first_in first.cut ∙ found_behind first.before first.behind first.node r first.none_before first.breaks first.stands
