-- What is said of every tree: its typed program, its refusal, and never both.
use Rattle.std.specs.Prelude.{◌≡◌}
use Rattle.c_tree.specs.Programs.{Program}
use Rattle.c_tree.specs.Syntax.{Tree}
use Rattle.c_types.specs.declared.refusals.TypeRefusal.{TypeRefusal}
use Rattle.c_types.specs.Typing.{Typed, Refused}

pub record TypingLaws : Type 0 where
  pub same_program : (tree : Tree) (p q : Program) → Typed tree p → Typed tree q → p ≡ q
  pub same_refusal : (tree : Tree) (r s : TypeRefusal) → Refused tree r → Refused tree s → r ≡ s
  pub never_both : (tree : Tree) (program : Program) (r : TypeRefusal) → Typed tree program → Refused tree r → ⊥
