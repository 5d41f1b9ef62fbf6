use Rattle.std.proofs.Common.{◌≡◌, ◌-◌, ◌∙◌, length, take, drop, subst, sym}
use Rattle.std.specs.Option.{option_map}
use Rattle.hls_pragma.specs.declared.items.Item.TheVariants.{Word}
use Rattle.hls_pragma.specs.Front.{names_at}
use Rattle.hls_pragma.proofs.NameSteps.{prepend, goes_on}
use Rattle.hls_pragma.proofs.reader.names.Goals as goal

pub loop-rest-preserved : goal.loop-rest-preserved
loop-rest-preserved c =
    let line = c.args.line.now in
    let rest = c.loop-rest.rest.now in
    subst (λ ns. names_at line c.args.items.now ≡ option_map (prepend ns) (names_at line (take (length rest - 2) (drop 2 rest)))) (sym c.in_ok-push-in-Some.ensures.items)
    (c.loop-rest.invariant ∙ goes_on line c.loop-rest.list.items rest (Word (record { start = 0; len = 0 })) c.in-Some.name c.in-len2-up.len_at_least (sym c.in-Some.ensures) c.in-Comma.is)
