-- `numbers::put_four` meets its contract: the digits are the number.
-- Assumes nothing.
use native.Mathlib.Omega.{arith}
use Rattle.block.proofs.Straight.{one_digit, two_digits, three_digits, four_digits, as_put}
use Rattle.block.proofs.numbers.put_four.Goals as goal

pub returns-then-n-lt10 : goal.returns-then-n-lt10
returns-then-n-lt10 c =
    let a = c.args in
    as_put a.out.now _ a.at 1 a.n (omega (arith, c.requires.at_in_bounds)) (one_digit a.n (omega arith)) c.last.ensures

pub returns-then-n-lt100 : goal.returns-then-n-lt100
returns-then-n-lt100 c =
    let a = c.args in
    as_put a.out.now _ a.at 2 a.n (omega (arith, c.requires.at_in_bounds)) (two_digits a.n (omega arith) (omega arith)) c.last-then-n-lt100.ensures

pub returns-then-n-lt1000 : goal.returns-then-n-lt1000
returns-then-n-lt1000 c =
    let a = c.args in
    as_put a.out.now _ a.at 3 a.n (omega (arith, c.requires.at_in_bounds)) (three_digits a.n (omega arith) (omega arith)) c.last-then-n-lt1000.ensures

pub returns : goal.returns
returns c =
    let a = c.args in
    as_put a.out.now _ a.at 4 a.n (omega (arith, c.requires.at_in_bounds)) (four_digits a.n (omega arith) c.requires.n_bound) c.last-2.ensures
