-- The refusal of the symbols at which reading fails.
use Rattle.std.proofs.Common.{◌≡◌, ℕ, Bool, true, false, List, [], ◌∷◌, refl, cond, subst}
use Rattle.c_lex.specs.declared.tokens.Token.{Token}
use Rattle.c_parse.specs.declared.symbols.Class.{Class}
use Rattle.c_parse.specs.declared.symbols.Class.TheVariants as class
use Rattle.c_parse.specs.declared.refusals.ParseRefusal.TheVariants.{Syntax, Pragma}
use Rattle.c_parse.specs.Symbols.{Sym, Symbols}
use Rattle.c_parse.specs.Reading.{Fails}
use Rattle.c_parse.specs.Sources.{source}
use Rattle.c_parse.specs.Parsed.{RefusedAt}
use Rattle.c_parse.specs.Places.{is_refused, refusal_at}
use Rattle.c_parse.proofs.OneAnswer.{refused_by, pragma_refused_by, refused_at_end}

no_refused : (c : Class) → is_refused c ≡ false → c ≡ class.Refused → ⊥
no_refused c e f = let g : is_refused class.Refused ≡ false = subst (λ d. is_refused d ≡ false) f e in cc

is_it : (c : Class) → is_refused c ≡ true → c ≡ class.Refused
is_it class.Refused e = refl
is_it class.Name e = cc
is_it (class.Number value long) e = cc
is_it class.Text e = cc
is_it (class.Key key) e = cc
is_it (class.Mark mark) e = cc
is_it (class.Binary sign) e = cc
is_it (class.Unary sign) e = cc
is_it (class.Change change) e = cc
is_it (class.Assign sign) e = cc
is_it (class.Scope level) e = cc
is_it (class.Single nowait) e = cc
is_it class.Barrier e = cc
is_it class.Other e = cc

by_class : (src : List ℕ) (ts : List Token) (ss : List Sym) (c : Sym) (x : List Sym) (b : Bool) → Symbols src ts ss → source ss ≡ Fails (c ∷ x) → is_refused c.class ≡ b
    → RefusedAt src ts (cond b (Pragma c.at.line) (Syntax c.at.line c.at.col))
by_class src ts ss c x true h e f = pragma_refused_by src ts ss c x h e (is_it c.class f)
by_class src ts ss c x false h e f = refused_by src ts ss c x h e (no_refused c.class f)

pub refused_there : (src : List ℕ) (ts : List Token) (ss : List Sym) (x : List Sym) → Symbols src ts ss → source ss ≡ Fails x → RefusedAt src ts (refusal_at src x)
refused_there src ts ss [] h e = refused_at_end src ts ss h e
refused_there src ts ss (c ∷ x) h e = by_class src ts ss c x (is_refused c.class) h e refl
