-- `wire::mended` meets its contract: a header is whole if both its words are.
-- Assumes nothing.
use native.Mathlib.Omega.{arith}
use Rattle.wire.proofs.Answers.{first-beyond, second-beyond, both-whole, few}
use Rattle.wire.proofs.mended.Goals as goal

pub returns-in_err-x : goal.returns-in_err-x
returns-in_err-x c = rw c.from_residual.ensures (first-beyond _ _ c.in_err-x.ensures)

pub returns-in_err-y : goal.returns-in_err-y
returns-in_err-y c = rw c.from_residual-in_err-y.ensures (second-beyond _ _ c.in_ok-x.x c.in_ok-x.ensures c.in_err-y.ensures)

pub overflow_add-x : goal.overflow_add-x
overflow_add-x c =
    let six = few _ _ c.in_ok-x.x c.in_ok-y.y c.in_ok-x.ensures c.in_ok-y.ensures in
    omega arith

pub returns : goal.returns
returns c = rw c.header_from.ensures (both-whole _ _ c.in_ok-x.x c.in_ok-y.y c.in_ok-x.ensures c.in_ok-y.ensures)
