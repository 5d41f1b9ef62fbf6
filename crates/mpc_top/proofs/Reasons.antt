-- A file is refused for one reason, and a file that is refused is not accepted.
use Rattle.std.proofs.Common.{◌≡◌, ◌≤◌, ◌<◌, ℕ, Bool, true, false, List, length, Option, Some, None, refl, sym, ap, ◌∙◌, subst, arith}
use Rattle.mpc_values.specs.declared.limits.TheConstants.{MAX_SOURCE_BYTES}
use Rattle.c_lex.specs.declared.tokens.Token.{Token}
use Rattle.c_lex.specs.declared.tokens.LexRefusal.{LexRefusal}
use Rattle.c_lex.specs.Lexed as lexed
use Rattle.c_lex.specs.Laws.{LexingLaws}
use Rattle.c_parse.specs.declared.refusals.ParseRefusal.{ParseRefusal}
use Rattle.c_parse.specs.Parsed as parsed
use Rattle.c_parse.specs.Laws.{ParsingLaws}
use Rattle.c_tree.specs.Syntax.{Tree}
use Rattle.c_tree.specs.Programs.{Program}
use Rattle.c_types.specs.declared.refusals.TypeRefusal.{TypeRefusal}
use Rattle.c_types.specs.Typing as typing
use Rattle.c_types.specs.Laws.{TypingLaws}
use Rattle.c_compile.specs.Plain.{is_plain}
use Rattle.mpc_top.specs.declared.command.Mode.{Mode}
use Rattle.mpc_top.specs.declared.command.Mode.TheVariants.{Check, Serial}
use Rattle.mpc_top.specs.declared.sources.SourceRefusal.{SourceRefusal}
use Rattle.mpc_top.specs.declared.sources.SourceRefusal.TheVariants as refusal
use Rattle.mpc_top.specs.Sources.{HasTokens, HasTree, Accepted, RefusesContent, Refuses}
use Rattle.mpc_top.specs.Answers.{IsBuilt, IsGood}

long_or_short : (src : List ℕ) → MAX_SOURCE_BYTES < length src → length src ≤ MAX_SOURCE_BYTES → ⊥
long_or_short src long short = omega (arith, long, short)

module _ (lexing : LexingLaws) (parsing : ParsingLaws) (typing_laws : TypingLaws) where
  -- a source with tokens is not refused by the lexical rules
  lexed_once : (src : List ℕ) (at : LexRefusal) (tokens : List Token) → lexed.RefusedAt src at → HasTokens src tokens → ⊥
  lexed_once src at tokens refused has = lexing.never_both src tokens at has.lexed refused

  tokens_same : (src : List ℕ) (ts us : List Token) → HasTokens src ts → HasTokens src us → us ≡ ts
  tokens_same src ts us first second = lexing.same_tokens src ts us first.lexed second.lexed

  tree_same : (src : List ℕ) (t u : Tree) → HasTree src t → HasTree src u → t ≡ u
  tree_same src t u first second =
      parsing.same_tree src first.tokens t u first.spelt
      (subst (λ ts. parsed.Spelt src ts u) (tokens_same src first.tokens second.tokens first.has second.has) second.spelt)

  -- a source with a tree is not refused by the grammar
  spelt_once : (src : List ℕ) (tokens : List Token) (at : ParseRefusal) (t : Tree) → HasTokens src tokens → parsed.RefusedAt src tokens at → HasTree src t → ⊥
  spelt_once src tokens at t has refused tree =
      parsing.never_both src tokens t at (subst (λ ts. parsed.Spelt src ts t) (tokens_same src tokens tree.tokens has tree.has) tree.spelt) refused

  -- an accepted source breaks no rule
  typed_once : (src : List ℕ) (t : Tree) (broken : TypeRefusal) (program : Program) → HasTree src t → typing.Refused t broken → Accepted src program → ⊥
  typed_once src t broken program has refused accepted =
      typing_laws.never_both t program broken (subst (λ u. typing.Typed u program) (tree_same src accepted.tree t accepted.has has) accepted.typed) refused

  -- a source that is not built is accepted
  built_of : (m : Mode) (src : List ℕ) → RefusesContent m refusal.NotBuilt src → (program : Program) × Accepted src program
  built_of Check src h = absurd h
  built_of Serial src h = (h.0, h.1)

  same_place : (src : List ℕ) (ts us : List Token) (r s : ParseRefusal) → HasTokens src ts → parsed.RefusedAt src ts r → HasTokens src us → parsed.RefusedAt src us s → r ≡ s
  same_place src ts us r s has first has' second =
      parsing.same_refusal src ts r s first (subst (λ vs. parsed.RefusedAt src vs s) (tokens_same src ts us has has') second)

  same_rule : (src : List ℕ) (t u : Tree) (r s : TypeRefusal) → HasTree src t → typing.Refused t r → HasTree src u → typing.Refused u s → r ≡ s
  same_rule src t u r s has first has' second =
      typing_laws.same_refusal t r s first (subst (λ v. typing.Refused v s) (tree_same src u t has' has) second)

  content_same : (m : Mode) (r s : SourceRefusal) (src : List ℕ) → RefusesContent m r src → RefusesContent m s src → r ≡ s
  content_same m refusal.Missing s src h g = absurd h
  content_same m refusal.TooLong refusal.Missing src h g = absurd g
  content_same m refusal.TooLong refusal.TooLong src h g = refl
  content_same m refusal.TooLong (refusal.Lex at) src h g = absurd (long_or_short src h g.0)
  content_same m refusal.TooLong (refusal.Parse at) src h g = absurd (long_or_short src h g.1.short)
  content_same m refusal.TooLong (refusal.Type b) src h g = absurd (long_or_short src h g.1.has.short)
  content_same m refusal.TooLong refusal.NotBuilt src h g = absurd (long_or_short src h (built_of m src g).1.has.has.short)
  content_same m (refusal.Lex a) refusal.Missing src h g = absurd g
  content_same m (refusal.Lex a) refusal.TooLong src h g = absurd (long_or_short src g h.0)
  content_same m (refusal.Lex a) (refusal.Lex at) src h g = ap refusal.Lex (lexing.same_refusal src a at h.1 g.1)
  content_same m (refusal.Lex a) (refusal.Parse at) src h g = absurd (lexed_once src a g.0 h.1 g.1)
  content_same m (refusal.Lex a) (refusal.Type b) src h g = absurd (lexed_once src a g.1.tokens h.1 g.1.has)
  content_same m (refusal.Lex a) refusal.NotBuilt src h g = let p = built_of m src g in absurd (lexed_once src a p.1.has.tokens h.1 p.1.has.has)
  content_same m (refusal.Parse a) refusal.Missing src h g = absurd g
  content_same m (refusal.Parse a) refusal.TooLong src h g = absurd (long_or_short src g h.1.short)
  content_same m (refusal.Parse a) (refusal.Lex at) src h g = absurd (lexed_once src at h.0 g.1 h.1)
  content_same m (refusal.Parse a) (refusal.Parse at) src h g = ap refusal.Parse (same_place src h.0 g.0 a at h.1 h.2 g.1 g.2)
  content_same m (refusal.Parse a) (refusal.Type b) src h g = absurd (spelt_once src h.0 a g.0 h.1 h.2 g.1)
  content_same m (refusal.Parse a) refusal.NotBuilt src h g = let p = built_of m src g in absurd (spelt_once src h.0 a p.1.tree h.1 h.2 p.1.has)
  content_same m (refusal.Type a) refusal.Missing src h g = absurd g
  content_same m (refusal.Type a) refusal.TooLong src h g = absurd (long_or_short src g h.1.has.short)
  content_same m (refusal.Type a) (refusal.Lex at) src h g = absurd (lexed_once src at h.1.tokens g.1 h.1.has)
  content_same m (refusal.Type a) (refusal.Parse at) src h g = absurd (spelt_once src g.0 at h.0 g.1 g.2 h.1)
  content_same m (refusal.Type a) (refusal.Type b) src h g = ap refusal.Type (same_rule src h.0 g.0 a b h.1 h.2 g.1 g.2)
  content_same m (refusal.Type a) refusal.NotBuilt src h g = let p = built_of m src g in absurd (typed_once src h.0 a p.0 h.1 h.2 p.1)
  content_same m refusal.NotBuilt refusal.Missing src h g = absurd g
  content_same m refusal.NotBuilt refusal.TooLong src h g = absurd (long_or_short src g (built_of m src h).1.has.has.short)
  content_same m refusal.NotBuilt (refusal.Lex at) src h g = let p = built_of m src h in absurd (lexed_once src at p.1.has.tokens g.1 p.1.has.has)
  content_same m refusal.NotBuilt (refusal.Parse at) src h g = let p = built_of m src h in absurd (spelt_once src g.0 at p.1.tree g.1 g.2 p.1.has)
  content_same m refusal.NotBuilt (refusal.Type b) src h g = let p = built_of m src h in absurd (typed_once src g.0 b p.0 g.1 g.2 p.1)
  content_same m refusal.NotBuilt refusal.NotBuilt src h g = refl

  -- a file is refused for one reason
  pub same_reason : (m : Mode) (r s : SourceRefusal) (file : Option (List ℕ)) → Refuses m r file → Refuses m s file → r ≡ s
  same_reason m r s None h g = h ∙ sym g
  same_reason m r s (Some src) h g = content_same m r s src h g

  -- an accepted source is refused at most for not being built
  accepted_content : (m : Mode) (r : SourceRefusal) (src : List ℕ) (program : Program) → RefusesContent m r src → Accepted src program → r ≡ refusal.NotBuilt
  accepted_content m refusal.Missing src program h accepted = absurd h
  accepted_content m refusal.TooLong src program h accepted = absurd (long_or_short src h accepted.has.has.short)
  accepted_content m (refusal.Lex at) src program h accepted = absurd (lexed_once src at accepted.has.tokens h.1 accepted.has.has)
  accepted_content m (refusal.Parse at) src program h accepted = absurd (spelt_once src h.0 at accepted.tree h.1 h.2 accepted.has)
  accepted_content m (refusal.Type b) src program h accepted = absurd (typed_once src h.0 b program h.1 h.2 accepted)
  accepted_content m refusal.NotBuilt src program h accepted = refl

  -- a source has one typed program
  pub same_program : (src : List ℕ) (p q : Program) → Accepted src p → Accepted src q → p ≡ q
  same_program src p q first second =
      typing_laws.same_program first.tree p q first.typed (subst (λ t. typing.Typed t q) (tree_same src second.tree first.tree second.has first.has) second.typed)

  true_or_false : (b : Bool) → b ≡ true → b ≡ false → ⊥
  true_or_false b is fails = cc

  -- a program that a mode is built for is not refused for not being built
  built_once : (m : Mode) (src : List ℕ) (program : Program) → RefusesContent m refusal.NotBuilt src → Accepted src program → IsBuilt m program → ⊥
  built_once Check src program h accepted built = h
  built_once Serial src program h accepted built =
      true_or_false (is_plain program) built (ap is_plain (same_program src program h.0 accepted h.1) ∙ h.2)

  -- a file that is good for a mode is not refused
  pub good_content : (m : Mode) (r : SourceRefusal) (file : Option (List ℕ)) → Refuses m r file → IsGood m file → ⊥
  good_content m r None h good = good.1
  good_content m r (Some src) h good =
      built_once m src good.0 (subst (λ q. RefusesContent m q src) (accepted_content m r src good.0 h good.1) h) good.1 good.2
