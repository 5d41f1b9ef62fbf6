use Rattle.std.proofs.Common.{◌≡◌, ◌-◌, ◌^◌, ◌≤◌, arith}
use Rattle.mpc_base.specs.FailLists.{FailsAt, fails_now}
use Rattle.mpc_base.proofs.FailCounts.{risen_on, still_on}
use Rattle.mpc_base.proofs.fail_list.FailList.next.Goals as goal

pub returns-clause-risen : goal.returns-clause-risen
returns-clause-risen c =
    let f : FailsAt = record { listed = c.self.inside.numbers.items; calls = c.self.inside.past } in
    let told : c.is_listed-fails.result ≡ fails_now f = rw c.as_slice.ensures.value at c.is_listed-fails.ensures in
    rw (← c.self.view_is) (risen_on c.is_listed-fails.result f c.saturating_add-self-inside.result c.saturating_add-self-inside.ensures told)

pub returns-clause-still : goal.returns-clause-still
returns-clause-still c =
    let f : FailsAt = record { listed = c.self.inside.numbers.items; calls = c.self.inside.past } in
    let told : c.is_listed-fails.result ≡ fails_now f = rw c.as_slice.ensures.value at c.is_listed-fails.ensures in
    let small : c.self.inside.past ≤ 2 ^ 64 - 1 = omega arith in
    rw (← c.self.view_is) (still_on c.is_listed-fails.result f c.saturating_add-self-inside.result c.saturating_add-self-inside.ensures small told)
