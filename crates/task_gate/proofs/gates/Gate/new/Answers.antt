use Rattle.std.proofs.Common.{◌≡◌, ℕ, [], ◌∷◌, ◌<◌, ◌-◌, length, vec_len, slice_get, Some, arith, refl, sym, ap, ◌∙◌, subst, rules, ⊎_elim}
use Rattle.task_gate.specs.Rule.{maker, one_less, next_pass, all_parts}
use Rattle.task_gate.specs.Passes.{IsNew}
use Rattle.task_gate.specs.declared.views.View.{View}
use Rattle.task_gate.specs.declared.passes.Pass.{Pass}
use Rattle.task_gate.proofs.Kept.{splits}
use Rattle.task_gate.proofs.Claims.{get_end, maker_next, new_pass}
use Rattle.task_gate.proofs.gates.Gate.new.Goals as goal

pub split_seat-requires : goal.split_seat-requires
split_seat-requires g c =
    let i = c.loop.invariant in
    let n = c.loop.counter in
    let b = g.S.Traced.base c.args.first in
    let at : c.loop.seat.me.0 ≡ maker b n = ap (λ m. m.0) i.maker in
    let more : n < c.args.passes = c.loop-test.true in
    let few : c.args.passes < 4294967296 = c.ranges.passes.fits in
    let enough : 1 < all_parts - n = omega arith in (
      i.table,
      omega (arith, c.in_ok-gate.gate.three_words),
      splits g.S.Traced.base g.S.Traced.history _ _ (ap (λ w. w.stage) at) (ap (λ w. w.makes) at) (ap (λ w. w.claims) at) (subst (λ k. 1 < k) (sym (ap (λ w. w.parts) at)) enough),
    )

pub loop-preserved : goal.loop-preserved
loop-preserved g c =
    let i = c.loop.invariant in
    let n = c.loop.counter in
    let b = g.S.Traced.base c.args.first in
    let s = c.split_seat.ensures in
    let at : c.loop.seat.me.0 ≡ maker b n = ap (λ m. m.0) i.maker in
    let items = c.in_ok-push.ensures.items in
    let pushed = c.into_badge-badge.ensures in
    let z = c.in_ok-gate.gate.table.shared.table_id in
    let q : Pass = record { badge = c.into_badge-badge.result; got = 0 } in
    let length_is : length c.loop.made.items ≡ vec_len c.loop.made = search rules in
    let views = pushed.2 ∙ ap (λ m. m.0 ∷ []) s.4 ∙ ap (λ (v : View). next_pass v ∷ []) at in
    record {
      table = s.0 ∙ i.table;
      gate = refl;
      maker = s.2 ∙ ap (λ m. (one_less m.0, m.1)) i.maker ∙ ap (λ (v : View). (v, [])) (maker_next b n);
      count = search rules;
      enough = let more : n < c.args.passes = c.loop-test.true in omega arith;
      each = λ k p e. ⊎_elim
          (λ (h : slice_get c.loop.made.items k ≡ Some p). i.each k p h)
          (λ (h : (k ≡ length c.loop.made.items) × (q ≡ p)).
          let number : k ≡ n = h.0 ∙ length_is ∙ i.count in
          subst (λ (y : ℕ × Pass). IsNew z b y.0 y.1) (λ j. (sym number j, h.1 j)) (new_pass z b n q (pushed.0 ∙ s.3 ∙ i.table) views))
          (get_end c.loop.made.items q p k (subst (λ l. slice_get l k ≡ Some p) items e));
    }
