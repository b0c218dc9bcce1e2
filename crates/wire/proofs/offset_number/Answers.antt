-- `wire::offset_number` meets its contract.
-- Assumes nothing.
use Rattle.wire.specs.Wire.{offset_number}
use native.Mathlib.Omega.{arith}
use Rattle.wire.proofs.offset_number.Goals as goal

pub returns-then-low : goal.returns-then-low
unfolding offset_number
returns-then-low c = rw c.if-low.true

pub returns : goal.returns
unfolding offset_number
returns c = rw c.if-low.false (omega arith)
