use Rattle.std.proofs.Common.{◌≡◌, List, ℕ, ℤ, length, map, nat_eq, subst, sym, ap, ◌∙◌, arith}
use Rattle.std.specs.List.{dedup}
use Rattle.mpi_comm.specs.declared.splitting.Asked.{Asked}
use Rattle.mpi_comm.specs.Splitting.{colour_in}
use Rattle.mpi_comm.specs.Numbers.{chosen_of}
use Rattle.mpi_comm.specs.Seen.{made_of, AreGroups}
use Rattle.mpi_comm.specs.Asked.{tasks_at, number_at}
use Rattle.mpi_comm.proofs.Groups.{few_asked}
use Rattle.mpi_comm.proofs.Numbering.{numbers_are, made_are, made_groups}
use Rattle.mpi_comm.proofs.splitting.grouped.Goals as goal

pub numbers-requires-clause-fits : goal.numbers-requires-clause-fits
numbers-requires-clause-fits c =
    omega (
      arith,
      ap (λ (xs : List ℕ). length xs) c.as_slice-2.ensures.value,
      c.in_ok-groups.ensures.few,
      ap (λ (xs : List Asked). length xs) c.as_slice.ensures.value,
      few_asked c.args.members.now (chosen_of c.args.colours.now c.args.keys.now) c.in_ok-asked.asked.items c.in_ok-asked.ensures.moved,
      c.requires.group.few,
      c.requires.fits,
    )

pub made-requires-clause-few : goal.made-requires-clause-few
made-requires-clause-few c =
    omega (
      arith,
      ap (λ (xs : List Asked). length xs) c.as_slice-3.ensures.value,
      few_asked c.args.members.now (chosen_of c.args.colours.now c.args.keys.now) c.in_ok-asked.asked.items c.in_ok-asked.ensures.moved,
      c.requires.group.few,
    )

pub returns-clause-numbers : goal.returns-clause-numbers
returns-clause-numbers c =
    let asked = c.in_ok-asked.asked.items in
    let groups : c.as_slice-2.result.now ≡ dedup nat_eq (map (λ (a : Asked). a.colour) asked) =
    c.as_slice-2.ensures.value ∙ (c.in_ok-groups.ensures.colours ∙ ap (λ (xs : List Asked). dedup nat_eq (map (λ (a : Asked). a.colour) xs)) c.as_slice.ensures.value) in
    c.in_ok-numbers.ensures
    ∙ (ap (λ (gs : List ℕ). map (λ (colour : ℤ). number_at c.args.first gs (colour_in colour)) c.args.colours.now) groups
    ∙ numbers_are c.args.members.now c.args.colours.now c.args.keys.now asked c.requires.colours c.requires.keys c.in_ok-asked.ensures c.args.first c.requires.group)

pub returns-clause-made : goal.returns-clause-made
returns-clause-made c =
    let asked = c.in_ok-asked.asked.items in
    let groups : c.as_slice-4.result.now ≡ dedup nat_eq (map (λ (a : Asked). a.colour) asked) =
    c.as_slice-4.ensures.value ∙ (c.in_ok-groups.ensures.colours ∙ ap (λ (xs : List Asked). dedup nat_eq (map (λ (a : Asked). a.colour) xs)) c.as_slice.ensures.value) in
    c.in_ok-made.ensures
    ∙ (ap (λ (xs : List Asked). map (λ (colour : ℕ). made_of (tasks_at xs colour)) c.as_slice-4.result.now) c.as_slice-3.ensures.value
    ∙ (ap (λ (gs : List ℕ). map (λ (colour : ℕ). made_of (tasks_at asked colour)) gs) groups
    ∙ made_are c.args.members.now c.args.colours.now c.args.keys.now asked c.requires.colours c.requires.keys c.in_ok-asked.ensures))

pub returns-clause-groups : goal.returns-clause-groups
returns-clause-groups c =
    let asked = c.in_ok-asked.asked.items in
    let made : c.in_ok-made.made.items ≡ map (λ (colour : ℕ). made_of (tasks_at asked colour)) c.as_slice-4.result.now =
    c.in_ok-made.ensures ∙ ap (λ (xs : List Asked). map (λ (colour : ℕ). made_of (tasks_at xs colour)) c.as_slice-4.result.now) c.as_slice-3.ensures.value in
    subst AreGroups (sym made)
    (made_groups c.args.members.now c.args.colours.now c.args.keys.now asked c.requires.colours c.requires.keys c.in_ok-asked.ensures c.as_slice-4.result.now c.requires.group)
