-- The number that `rule` gives is that of the least rule which a node breaks.
use Rattle.std.proofs.Common.{◌≡◌, ℕ, ◌≤◌, ◌<◌, Bool, true, false, cond, ◌&&◌, ◌⊎◌, inl, inr, List, [], ◌∷◌, refl, sym, ap, ◌∙◌, subst, Option, None, Some, nat_lt, arith}
use Rattle.std.proofs.lemmas.Bool.{ltb-true}
use Rattle.c_types.specs.declared.shapes.Shape.{Shape}
use Rattle.c_types.specs.Nodes.{Breaks, Tells}
use Rattle.c_types.specs.Rules.{Rule, Rule1, Rule2, Rule3, Rule4, Rule5, Rule6, Rule7, Rule8, Rule9, Rule10, Rule11, Rule12, Rule13, Rule14, Rule15, Rule16, Rule17, Rule18, Rule19, Rule20, Rule21, Rule22, Rule23, Rule24, Rule25, Rule26, Rule27, Rule28, Rule29, Rule30, Rule31, Rule32, Rule33, number, breaks, all_rules, first_of_rules, rule}

and_left : (a b : Bool) → (a && b) ≡ true → a ≡ true
and_left true b h = refl
and_left false b h = h

and_right : (a b : Bool) → (a && b) ≡ true → b ≡ true
and_right true b h = h
and_right false b h = absurd (let f : false ≡ true = h in cc)

-- the list begins above a number
abbrev begins_above : ℕ → List Rule → Bool
begins_above n [] = true
begins_above n (r ∷ rs) = nat_lt n (number r)

-- the numbers rise
abbrev rises : List Rule → Bool
rises [] = true
rises (r ∷ rs) = begins_above (number r) rs && rises rs

abbrev In : Rule → List Rule → Type 0
In q [] = ⊥
In q (r ∷ rs) = (q ≡ r) ⊎ In q rs

-- in a list that rises and begins above a number, all are above it
all_above : (n : ℕ) (rs : List Rule) → begins_above n rs ≡ true → rises rs ≡ true → (q : Rule) → In q rs → n < number q
all_above n [] begins up q is = absurd is
all_above n (r ∷ rs) begins up q (inl same) = let P : ℕ → Type 0 = λ m. n < m in subst P (sym (ap number same)) (ltb-true n (number r) begins)
all_above n (r ∷ rs) begins up q (inr is) =
    let first : n < number r = ltb-true n (number r) begins in
    let later : number r < number q = all_above (number r) rs (and_left (begins_above (number r) rs) (rises rs) up) (and_right (begins_above (number r) rs) (rises rs) up) q is in
    omega (arith, first, later)

-- the same as Tells, of the rules of a list
abbrev TellsIn : List Rule → Shape → Option ℕ → Type 0
TellsIn rs shape None = (q : Rule) → In q rs → Breaks q shape → ⊥
TellsIn rs shape (Some least) = (r : Rule) × (number r ≡ least) × Breaks r shape × ((q : Rule) → In q rs → Breaks q shape → least ≤ number q)

-- the first rule of a list breaks nothing
not_first : (r : Rule) (rs : List Rule) (shape : Shape) → breaks r shape ≡ false → (q : Rule) → In q (r ∷ rs) → Breaks q shape → In q rs
not_first r rs shape e q (inl same) h = absurd (let f : true ≡ false = sym h ∙ (ap (λ x. breaks x shape) same ∙ e) in cc)
not_first r rs shape e q (inr is) h = is

past_first : (r : Rule) (rs : List Rule) (shape : Shape) (o : Option ℕ) → breaks r shape ≡ false → TellsIn rs shape o → TellsIn (r ∷ rs) shape o
past_first r rs shape None e tells = λ q is h. tells q (not_first r rs shape e q is h) h
past_first r rs shape (Some least) e tells = (tells.0, tells.1, tells.2, λ q is h. tells.3 q (not_first r rs shape e q is h) h)

from_first : (r : Rule) (rs : List Rule) → rises (r ∷ rs) ≡ true → (q : Rule) → In q (r ∷ rs) → number r ≤ number q
from_first r rs up q (inl same) = let e : number q ≡ number r = ap number same in omega (arith, e)
from_first r rs up q (inr is) = let above : number r < number q = all_above (number r) rs (and_left (begins_above (number r) rs) (rises rs) up) (and_right (begins_above (number r) rs) (rises rs) up) q is in omega (arith, above)

tells_in : (rs : List Rule) (shape : Shape) → rises rs ≡ true → TellsIn rs shape (first_of_rules rs shape)
tells_in [] shape up = λ q is h. is
tells_in (r ∷ rs) shape up =
    elim (breaks r shape) as (λ b. breaks r shape ≡ b → TellsIn (r ∷ rs) shape (cond b (Some (number r)) (first_of_rules rs shape))) [
      | true ↦ λ e. (r, refl, e, λ q is h. from_first r rs up q is)
      | false ↦ λ e. past_first r rs shape (first_of_rules rs shape) e (tells_in rs shape (and_right _ _ up))
    ] refl

is_listed : (q : Rule) → In q all_rules
is_listed Rule1 = inl refl
is_listed Rule2 = inr (inl refl)
is_listed Rule3 = inr (inr (inl refl))
is_listed Rule4 = inr (inr (inr (inl refl)))
is_listed Rule5 = inr (inr (inr (inr (inl refl))))
is_listed Rule6 = inr (inr (inr (inr (inr (inl refl)))))
is_listed Rule7 = inr (inr (inr (inr (inr (inr (inl refl))))))
is_listed Rule8 = inr (inr (inr (inr (inr (inr (inr (inl refl)))))))
is_listed Rule9 = inr (inr (inr (inr (inr (inr (inr (inr (inl refl))))))))
is_listed Rule10 = inr (inr (inr (inr (inr (inr (inr (inr (inr (inl refl)))))))))
is_listed Rule11 = inr (inr (inr (inr (inr (inr (inr (inr (inr (inr (inl refl))))))))))
is_listed Rule12 = inr (inr (inr (inr (inr (inr (inr (inr (inr (inr (inr (inl refl)))))))))))
is_listed Rule13 = inr (inr (inr (inr (inr (inr (inr (inr (inr (inr (inr (inr (inl refl))))))))))))
is_listed Rule14 = inr (inr (inr (inr (inr (inr (inr (inr (inr (inr (inr (inr (inr (inl refl)))))))))))))
is_listed Rule15 = inr (inr (inr (inr (inr (inr (inr (inr (inr (inr (inr (inr (inr (inr (inl refl))))))))))))))
is_listed Rule16 = inr (inr (inr (inr (inr (inr (inr (inr (inr (inr (inr (inr (inr (inr (inr (inl refl)))))))))))))))
is_listed Rule17 = inr (inr (inr (inr (inr (inr (inr (inr (inr (inr (inr (inr (inr (inr (inr (inr (inl refl))))))))))))))))
is_listed Rule18 = inr (inr (inr (inr (inr (inr (inr (inr (inr (inr (inr (inr (inr (inr (inr (inr (inr (inl refl)))))))))))))))))
is_listed Rule19 = inr (inr (inr (inr (inr (inr (inr (inr (inr (inr (inr (inr (inr (inr (inr (inr (inr (inr (inl refl))))))))))))))))))
is_listed Rule20 = inr (inr (inr (inr (inr (inr (inr (inr (inr (inr (inr (inr (inr (inr (inr (inr (inr (inr (inr (inl refl)))))))))))))))))))
is_listed Rule21 = inr (inr (inr (inr (inr (inr (inr (inr (inr (inr (inr (inr (inr (inr (inr (inr (inr (inr (inr (inr (inl refl))))))))))))))))))))
is_listed Rule22 = inr (inr (inr (inr (inr (inr (inr (inr (inr (inr (inr (inr (inr (inr (inr (inr (inr (inr (inr (inr (inr (inl refl)))))))))))))))))))))
is_listed Rule23 = inr (inr (inr (inr (inr (inr (inr (inr (inr (inr (inr (inr (inr (inr (inr (inr (inr (inr (inr (inr (inr (inr (inl refl))))))))))))))))))))))
is_listed Rule24 = inr (inr (inr (inr (inr (inr (inr (inr (inr (inr (inr (inr (inr (inr (inr (inr (inr (inr (inr (inr (inr (inr (inr (inl refl)))))))))))))))))))))))
is_listed Rule25 = inr (inr (inr (inr (inr (inr (inr (inr (inr (inr (inr (inr (inr (inr (inr (inr (inr (inr (inr (inr (inr (inr (inr (inr (inl refl))))))))))))))))))))))))
is_listed Rule26 = inr (inr (inr (inr (inr (inr (inr (inr (inr (inr (inr (inr (inr (inr (inr (inr (inr (inr (inr (inr (inr (inr (inr (inr (inr (inl refl)))))))))))))))))))))))))
is_listed Rule27 = inr (inr (inr (inr (inr (inr (inr (inr (inr (inr (inr (inr (inr (inr (inr (inr (inr (inr (inr (inr (inr (inr (inr (inr (inr (inr (inl refl))))))))))))))))))))))))))
is_listed Rule28 = inr (inr (inr (inr (inr (inr (inr (inr (inr (inr (inr (inr (inr (inr (inr (inr (inr (inr (inr (inr (inr (inr (inr (inr (inr (inr (inr (inl refl)))))))))))))))))))))))))))
is_listed Rule29 = inr (inr (inr (inr (inr (inr (inr (inr (inr (inr (inr (inr (inr (inr (inr (inr (inr (inr (inr (inr (inr (inr (inr (inr (inr (inr (inr (inr (inl refl))))))))))))))))))))))))))))
is_listed Rule30 = inr (inr (inr (inr (inr (inr (inr (inr (inr (inr (inr (inr (inr (inr (inr (inr (inr (inr (inr (inr (inr (inr (inr (inr (inr (inr (inr (inr (inr (inl refl)))))))))))))))))))))))))))))
is_listed Rule31 = inr (inr (inr (inr (inr (inr (inr (inr (inr (inr (inr (inr (inr (inr (inr (inr (inr (inr (inr (inr (inr (inr (inr (inr (inr (inr (inr (inr (inr (inr (inl refl))))))))))))))))))))))))))))))
is_listed Rule32 = inr (inr (inr (inr (inr (inr (inr (inr (inr (inr (inr (inr (inr (inr (inr (inr (inr (inr (inr (inr (inr (inr (inr (inr (inr (inr (inr (inr (inr (inr (inr (inl refl)))))))))))))))))))))))))))))))
is_listed Rule33 = inr (inr (inr (inr (inr (inr (inr (inr (inr (inr (inr (inr (inr (inr (inr (inr (inr (inr (inr (inr (inr (inr (inr (inr (inr (inr (inr (inr (inr (inr (inr (inr (inl refl))))))))))))))))))))))))))))))))

of_all : (shape : Shape) (o : Option ℕ) → TellsIn all_rules shape o → Tells shape o
of_all shape None tells = λ q h. tells q (is_listed q) h
of_all shape (Some least) tells = (tells.0, tells.1, tells.2, λ q h. tells.3 q (is_listed q) h)

-- each node is refused by the least rule that it breaks, and by none where it breaks none
pub least : (shape : Shape) → Tells shape (rule shape)
unfolding rule
least shape = of_all shape (first_of_rules all_rules shape) (tells_in all_rules shape refl)

-- and that is told of one number alone
pub told_once : (shape : Shape) (a b : Option ℕ) → Tells shape a → Tells shape b → a ≡ b
told_once shape None None p q = refl
told_once shape None (Some n) p q = absurd (p q.0 q.2)
told_once shape (Some m) None p q = absurd (q p.0 p.2)
told_once shape (Some m) (Some n) p q =
    let up : m ≤ number q.0 = p.3 q.0 q.2 in
    let down : n ≤ number p.0 = q.3 p.0 p.2 in
    let same : m ≡ n = omega (arith, up, down, p.1, q.1) in
    ap Some same
