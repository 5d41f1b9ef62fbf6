-- The names that are defined at a place, with their numbers.
use Rattle.std.specs.Prelude.{ℕ, cond, List, Option, Some, None}
use Rattle.std.specs.Str.{bytes_eq}
use Rattle.std.specs.Cmp.Lexicographic.{slice_cmp}
use Rattle.std.specs.Ordering.{nat_cmp}
use Rattle.std.specs.BTreeMap.{BTreeMap, get_by}
use denote.Ref.{Bor}
use Rattle.c_lex.specs.declared.tokens.Literal.{Literal}

-- what a name stands for, where it is defined
abbrev pub Meanings : Type 0
Meanings = List ℕ → Option Literal

abbrev pub empty : Meanings
empty name = None

-- one name more, or another number for it
abbrev pub with_name : List ℕ → Literal → Meanings → Meanings
with_name word number known name = cond (bytes_eq word name) (Some number) (known name)

-- what a map from names to numbers says
abbrev pub meanings : BTreeMap (Bor (List ℕ)) Literal → Meanings
meanings m name = get_by (λ k. slice_cmp nat_cmp name k.now) m
