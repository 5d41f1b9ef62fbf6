-- `clap` says exactly what it makes of the command's words.
use Rattle.std.proofs.Common.{◌≡◌, List, [], ◌∷◌, Result, Ok, Err, IfOk, IfErr, true, refl, sym, subst, inl, inr}
use Rattle.clap.specs.Words.{App, HasKind, Kinds, Row, Text, fault_of, is_simple, is_simple_and_free, kind_of}
use Rattle.clap.specs.declared.error.Error.{Error}
use Rattle.clap.specs.declared.error.kind.ErrorKind.TheVariants as kind
use Rattle.clap.proofs.OnLiterals.{clap_on_literals}
use Rattle.command_words.specs.declared.orders.Orders.{Orders}
use Rattle.command_words.specs.Words.{command, AreTaken, found_in}
use Rattle.command_words.specs.Standing.{AreOrders, Stands}

pub simple : is_simple command ≡ true
unfolding clap_on_literals
simple = refl

pub free : is_simple_and_free command ≡ true
unfolding clap_on_literals
free = refl

-- what was found stands for orders, and so do the words
pub lift_stands : {U : Type 0} (r : Result Orders U) (words : List Text) (found : List Row) → AreTaken words → found ≡ found_in words → IfOk r (AreOrders found) → IfOk r (Stands words)
lift_stands (Ok o) words found taken is a = record { taken = taken; orders = subst (λ x. AreOrders x o) is a }
lift_stands (Err u) words found taken is a = tt

pub lift_usage : {U : Type 0} (r : Result Orders U) (words : List Text) (found : List Row) → found ≡ found_in words
    → IfErr r (λ u. (o : Orders) → AreOrders found o → ⊥) → IfErr r (λ u. (o : Orders) → Stands words o → ⊥)
lift_usage (Ok o) words found is never = tt
lift_usage (Err u) words found is never = λ o s. never o (subst (λ x. AreOrders x o) (sym is) s.orders)

only_memory : (kinds : Kinds) (e : Error) → kinds ≡ [] → HasKind kinds e → kind_of e ≡ kind.OutOfMemory
only_memory [] e is (inl memory) = memory
only_memory [] e is (inr among) = absurd among
only_memory (k ∷ kinds) e is h = cc

-- an error of words that are taken is want of memory
pub refused_for_memory : (a : App) (words : List Text) (e : Error) → a ≡ command → AreTaken words → HasKind (fault_of a words) e → kind_of e ≡ kind.OutOfMemory
refused_for_memory a words e is taken h = only_memory (fault_of command words) e taken (subst (λ (x : App). HasKind (fault_of x words) e) is h)
