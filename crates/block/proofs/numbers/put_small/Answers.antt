-- `numbers::put_small` meets its contract: one digit or two are the number, or any number is put.
-- Assumes nothing.
use native.Mathlib.Omega.{arith}
use Rattle.block.proofs.Straight.{one_digit, two_digits, as_put}
use Rattle.block.proofs.numbers.put_small.Goals as goal

pub returns-then-n-lt10 : goal.returns-then-n-lt10
returns-then-n-lt10 c =
    let a = c.args in
    as_put a.out.now _ a.at 1 a.n (omega (arith, c.requires)) (one_digit a.n (omega arith)) c.last.ensures

pub returns : goal.returns
returns c =
    let a = c.args in
    as_put a.out.now _ a.at 2 a.n c.requires (two_digits a.n (omega arith) (omega arith)) c.last-2.ensures
