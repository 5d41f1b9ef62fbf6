use Rattle.std.proofs.Common.{◌≡◌, suc, ◌-◌, refl, sym, arith}
use Rattle.c_compile.proofs.Blocks.{made_none, made_fits, made_more, made_all, block_put}
use Rattle.c_compile.proofs.statement_code.+statement.Goals as goal

pub put_items-loop-left-init : goal.put_items-loop-left-init
put_items-loop-left-init t c =
    let m = made_none _ _ _ _ _ _ _ _ _ refl c.requires.fits c.in_ok-put_closing.ensures.code c.in_ok-put_closing.ensures.opened c.in_ok-put_ending.ensures in
    (m, made_fits _ _ _ _ _ _ _ _ c.requires.fits m)

pub put_items-loop-left-preserved : goal.put_items-loop-left-preserved
put_items-loop-left-preserved t c =
    let is : c.loop-left.left ≡ suc (c.loop-left.left - 1) = omega (arith, c.loop-left-test.true) in
    let m = made_more _ _ _ _ _ _ _ _ _ _ _ _ is (sym c.index-items-left.is) c.requires.fits c.loop-left.invariant.0 c.in_ok-put_item.ensures in
    (m, made_fits _ _ _ _ _ _ _ _ c.requires.fits m)

pub put_items-returns-clause-code : goal.put_items-returns-clause-code
put_items-returns-clause-code t c = (made_all _ _ _ _ _ _ _ _ (let none : c.loop-left.left ≡ 0 = omega (arith, c.loop-left-test.false) in none) c.loop-left.invariant.0).0

pub put_items-returns-clause-around : goal.put_items-returns-clause-around
put_items-returns-clause-around t c = (made_all _ _ _ _ _ _ _ _ (let none : c.loop-left.left ≡ 0 = omega (arith, c.loop-left-test.false) in none) c.loop-left.invariant.0).1

pub put_statement-returns-in_ok-put_items-in-Block-clause-code : goal.put_statement-returns-in_ok-put_items-in-Block-clause-code
put_statement-returns-in_ok-put_items-in-Block-clause-code t c = block_put _ _ _ _ _ _ _ c.in-Block.is c.as_slice-items.ensures.value c.in_ok-put_items-in-Block.ensures.code
