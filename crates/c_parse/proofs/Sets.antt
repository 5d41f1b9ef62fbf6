-- Sets of classes, as lists of numbers, so that what may begin a phrase and what may follow it are compared by computing.
use Rattle.std.proofs.Common.{◌≡◌, ℕ, ◌⊎◌, inl, inr, Bool, true, false, ◌&&◌, ◌||◌, not, nat_eq, List, [], ◌∷◌, ◌++◌, Some, None, refl, sym, ap, ◌∙◌, subst, arith}
use Rattle.std.proofs.lemmas.Bool.Decides.{nat_tests}
use Rattle.c_parse.specs.declared.symbols.Class.{Class}
use Rattle.c_parse.specs.declared.symbols.Class.TheVariants as class
use Rattle.c_parse.specs.declared.symbols.Key.{Key}
use Rattle.c_parse.specs.declared.symbols.Key.TheVariants as key
use Rattle.c_parse.specs.declared.symbols.Mark.{Mark}
use Rattle.c_parse.specs.declared.symbols.Mark.TheVariants as mark
use Rattle.c_tree.specs.declared.syntax.Binary.{Binary}
use Rattle.c_tree.specs.declared.syntax.Binary.TheVariants as binary

-- each key's number
abbrev pub key_code : Key → ℕ
key_code key.Int = 10
key_code key.Long = 11
key_code key.Void = 12
key_code key.Char = 13
key_code key.Static = 14
key_code key.If = 15
key_code key.Else = 16
key_code key.While = 17
key_code key.Do = 18
key_code key.For = 19
key_code key.Return = 20
key_code key.Break = 21
key_code key.Continue = 22
key_code key.SizeOf = 23
key_code key.Comm = 24
key_code key.Request = 25
key_code key.Status = 26

abbrev pub mark_code : Mark → ℕ
mark_code mark.Open = 30
mark_code mark.Close = 31
mark_code mark.OpenSquare = 32
mark_code mark.CloseSquare = 33
mark_code mark.OpenBrace = 34
mark_code mark.CloseBrace = 35
mark_code mark.Semicolon = 36
mark_code mark.Comma = 37
mark_code mark.Dot = 38
mark_code mark.Question = 39
mark_code mark.Colon = 40

-- a sign between operands has a number for itself
abbrev pub binary_code : Binary → ℕ
binary_code binary.Multiply = 50
binary_code binary.Divide = 51
binary_code binary.Remainder = 52
binary_code binary.Add = 53
binary_code binary.Subtract = 54
binary_code binary.ShiftLeft = 55
binary_code binary.ShiftRight = 56
binary_code binary.Less = 57
binary_code binary.Greater = 58
binary_code binary.LessEqual = 59
binary_code binary.GreaterEqual = 60
binary_code binary.Equal = 61
binary_code binary.NotEqual = 62
binary_code binary.BitAnd = 63
binary_code binary.BitXor = 64
binary_code binary.BitOr = 65
binary_code binary.And = 66
binary_code binary.Or = 67

abbrev pub code : Class → ℕ
code class.Name = 0
code (class.Number value long) = 1
code class.Text = 2
code (class.Scope level) = 3
code (class.Single nowait) = 4
code class.Barrier = 5
code class.Refused = 6
code class.Other = 7
code (class.Change change) = 8
code (class.Assign None) = 9
code (class.Assign (Some sign)) = 42
code (class.Unary sign) = 41
code (class.Key k) = key_code k
code (class.Mark m) = mark_code m
code (class.Binary sign) = binary_code sign

abbrev pub is_in : List ℕ → ℕ → Bool
is_in [] n = false
is_in (x ∷ xs) n = nat_eq x n || is_in xs n

-- no number is in both
abbrev pub apart : List ℕ → List ℕ → Bool
apart [] ys = true
apart (x ∷ xs) ys = not (is_in ys x) && apart xs ys

-- each number of the first is in the second
abbrev pub within : List ℕ → List ℕ → Bool
within [] ys = true
within (x ∷ xs) ys = is_in ys x && within xs ys

pub both_of : (a b : Bool) → (a && b) ≡ true → (a ≡ true) × (b ≡ true)
both_of true b e = (refl, e)
both_of false b e = cc

pub not_of : (a : Bool) → not a ≡ true → a ≡ false
not_of true e = cc
not_of false e = refl

pub bool_is : (b : Bool) → (b ≡ true) ⊎ (b ≡ false)
bool_is true = inl refl
bool_is false = inr refl

same_of : (x n : ℕ) → nat_eq x n ≡ true → x ≡ n
same_of x n e = grind (arith, nat_tests)

pub apart_no : (xs ys : List ℕ) (n : ℕ) → apart xs ys ≡ true → is_in xs n ≡ true → is_in ys n ≡ false
apart_no [] ys n e h = cc
apart_no (x ∷ xs) ys n e h =
    let b = both_of (not (is_in ys x)) (apart xs ys) e in
    elim (bool_is (nat_eq x n)) [
      | inl q ↦ subst (λ m. is_in ys m ≡ false) (same_of x n q) (not_of (is_in ys x) b.0)
      | inr q ↦ apart_no xs ys n b.1 (sym (ap (λ v. v || is_in xs n) q) ∙ h)
    ]

pub within_in : (xs ys : List ℕ) (n : ℕ) → within xs ys ≡ true → is_in xs n ≡ true → is_in ys n ≡ true
within_in [] ys n e h = cc
within_in (x ∷ xs) ys n e h =
    let b = both_of (is_in ys x) (within xs ys) e in
    elim (bool_is (nat_eq x n)) [
      | inl q ↦ subst (λ m. is_in ys m ≡ true) (same_of x n q) b.0
      | inr q ↦ within_in xs ys n b.1 (sym (ap (λ v. v || is_in xs n) q) ∙ h)
    ]

pub within_no : (xs ys : List ℕ) (n : ℕ) → within xs ys ≡ true → is_in ys n ≡ false → is_in xs n ≡ false
within_no xs ys n e h = elim (bool_is (is_in xs n)) [ inl q ↦ (let k = within_in xs ys n e q in cc) | inr q ↦ q ]

pub in_left : (xs ys : List ℕ) (n : ℕ) → is_in xs n ≡ true → is_in (xs ++ ys) n ≡ true
in_left [] ys n h = cc
in_left (x ∷ xs) ys n h = elim (bool_is (nat_eq x n)) [
  | inl q ↦ ap (λ v. v || is_in (xs ++ ys) n) q
  | inr q ↦ ap (λ v. v || is_in (xs ++ ys) n) q ∙ in_left xs ys n (sym (ap (λ v. v || is_in xs n) q) ∙ h)
]

pub in_right : (xs ys : List ℕ) (n : ℕ) → is_in ys n ≡ true → is_in (xs ++ ys) n ≡ true
in_right [] ys n h = h
in_right (x ∷ xs) ys n h = elim (bool_is (nat_eq x n)) [
  | inl q ↦ ap (λ v. v || is_in (xs ++ ys) n) q
  | inr q ↦ ap (λ v. v || is_in (xs ++ ys) n) q ∙ in_right xs ys n h
]

pub no_left : (xs ys : List ℕ) (n : ℕ) → is_in (xs ++ ys) n ≡ false → is_in xs n ≡ false
no_left xs ys n h = elim (bool_is (is_in xs n)) [ inl q ↦ (let k = in_left xs ys n q in cc) | inr q ↦ q ]

pub no_right : (xs ys : List ℕ) (n : ℕ) → is_in (xs ++ ys) n ≡ false → is_in ys n ≡ false
no_right xs ys n h = elim (bool_is (is_in ys n)) [ inl q ↦ (let k = in_right xs ys n q in cc) | inr q ↦ q ]

pub left_no : (a b : Bool) → (a || b) ≡ false → (a || false) ≡ false
left_no true b e = cc
left_no false b e = refl

pub in_either : (xs ys : List ℕ) (n : ℕ) → is_in (xs ++ ys) n ≡ true → (is_in xs n ≡ true) ⊎ (is_in ys n ≡ true)
in_either [] ys n h = inr h
in_either (x ∷ xs) ys n h = elim (bool_is (nat_eq x n)) [
  | inl q ↦ inl (ap (λ v. v || is_in xs n) q)
  | inr q ↦ (elim (in_either xs ys n (sym (ap (λ v. v || is_in (xs ++ ys) n) q) ∙ h)) [ inl k ↦ inl (ap (λ v. v || is_in xs n) q ∙ k) | inr k ↦ inr k ])
]
