use Rattle.std.proofs.Common.{◌≡◌, ◌<◌, ◌∙◌, ℕ, Bool, false, eqb, length, ap, sym, arith}
use Rattle.std.proofs.lemmas.Bool.Decides.{nat_tests}
use Rattle.toml.specs.View.{items_view}
use Rattle.topology.specs.MachineFile.{values_of, nested_machine}
use Rattle.topology.proofs.FileLaws.{too_many, some_cores, together_fits, length-values}
use Rattle.topology.proofs.machine_file.machine_of_tables.Goals as goal

there : (n : ℕ) (b : Bool) → b ≡ eqb n 0 → b ≡ false → 0 < n
there n b is fails = grind (arith, nat_tests)

pub returns-then-tables-gt-MAX_CORES : goal.returns-then-tables-gt-MAX_CORES
returns-then-tables-gt-MAX_CORES c = sym (too_many c.args.tables.now (omega arith))

pub nested_machine-requires-clause-some : goal.nested_machine-requires-clause-some
nested_machine-requires-clause-some c =
    let fit = together_fits (values_of (items_view c.args.tables.now)) c.in-Some.cores.items (sym (rw c.in-Some.is at c.in_ok-cores.ensures)) in
    let some = there (length c.args.tables.now) c.is_empty.result c.is_empty.ensures c.if-is_empty.false in
    omega (arith, fit.0, length-values c.args.tables.now)

pub nested_machine-requires-clause-most : goal.nested_machine-requires-clause-most
nested_machine-requires-clause-most c =
    let fit = together_fits (values_of (items_view c.args.tables.now)) c.in-Some.cores.items (sym (rw c.in-Some.is at c.in_ok-cores.ensures)) in
    omega (arith, fit.0, length-values c.args.tables.now)

pub nested_machine-requires-clause-fits : goal.nested_machine-requires-clause-fits
nested_machine-requires-clause-fits c =
    (together_fits (values_of (items_view c.args.tables.now)) c.in-Some.cores.items (sym (rw c.in-Some.is at c.in_ok-cores.ensures))).1

pub returns-in-Some : goal.returns-in-Some
returns-in-Some c =
    let some = there (length c.args.tables.now) c.is_empty.result c.is_empty.ensures c.if-is_empty.false in
    c.nested_machine.ensures ∙ ap nested_machine (rw c.in-Some.is at c.in_ok-cores.ensures) ∙ sym (some_cores c.args.tables.now some (omega arith))

pub returns-in-None : goal.returns-in-None
returns-in-None c =
    let some = there (length c.args.tables.now) c.is_empty.result c.is_empty.ensures c.if-is_empty.false in
    ap nested_machine (rw c.in-None.is at c.in_ok-cores.ensures) ∙ sym (some_cores c.args.tables.now some (omega arith))
