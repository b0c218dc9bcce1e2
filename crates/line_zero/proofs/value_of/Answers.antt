-- `line_zero::value_of` meets its contract: digits are read from the first one on.
-- Assumes nothing.
use native.Mathlib.Omega.{arith}
use Rattle.line_zero.proofs.Laws.{valued_none, valued_small, valued_one, valued_all}
use Rattle.line_zero.proofs.value_of.Goals as goal

pub loop-b-init : goal.loop-b-init
loop-b-init c = valued_none _

pub overflow_mul-n : goal.overflow_mul-n
overflow_mul-n c = omega (arith, valued_small _ _ _ c.requires c.loop-b-test.true c.loop-b.invariant)

pub overflow_add-n : goal.overflow_add-n
overflow_add-n c = omega (arith, valued_small _ _ _ c.requires c.loop-b-test.true c.loop-b.invariant, c.digit_of.ensures)

pub loop-b-preserved : goal.loop-b-preserved
loop-b-preserved c = valued_one _ _ _ _ c.loop-b-test.true c.digit_of.ensures c.loop-b.invariant

pub returns : goal.returns
returns c = valued_all _ _ _ c.loop-b-test.false c.loop-b.invariant
