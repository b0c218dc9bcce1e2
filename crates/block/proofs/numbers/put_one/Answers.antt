-- `numbers::put_one` meets its contract: the digit is the number, where there is room for it.
-- Assumes nothing.
use mathlib.Core.Path.{sym}
use native.Mathlib.Omega.{arith}
use Rattle.block.specs.Decimal.{decimal}
use Rattle.block.proofs.Decimals.{decimal_some}
use Rattle.block.proofs.Laws.{misfits}
use Rattle.block.proofs.Straight.{one_digit, as_put}
use Rattle.block.proofs.numbers.put_one.Goals as goal

pub returns-then-out-at : goal.returns-then-out-at
returns-then-out-at c =
    let a = c.args in
    sym (misfits a.out.now a.at (decimal a.n) (omega (arith, decimal_some a.n)))

pub returns : goal.returns
returns c =
    let a = c.args in
    as_put a.out.now _ a.at 1 a.n (omega arith) (one_digit a.n c.requires) c.last.ensures
