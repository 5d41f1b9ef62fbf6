use Rattle.std.proofs.Common.{◌≡◌, ℕ, ◌↔◌, true, IsTrue, subst, sym, ap, ◌∙◌}
use Rattle.block_table.specs.Rows.{Rows, mark_in, mark_at, is_free}
use Rattle.block_table.proofs.Tables.{seen_some}
use Rattle.block_table.proofs.table.Table.clear.Goals as goal

pub returns : goal.returns
returns c =
    let is = seen_some c.self.inside.rows.slots c.args.key c.index.result.now c.index.ensures in
    subst (λ (rows : Rows). IsTrue c.is_clear.result ↔ ((p : ℕ) → is_free (mark_at rows c.args.key p) ≡ true)) c.self.view_is (
      (λ yes p. ap (λ o. is_free (mark_in o p)) is ∙ c.is_clear.ensures.0 yes p),
      (λ all. c.is_clear.ensures.1 (λ p. sym (ap (λ o. is_free (mark_in o p)) is) ∙ all p)),
    )
