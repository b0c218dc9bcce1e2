-- `line_zero::twenty` meets its contract: digits are written from the last one on.
-- Assumes nothing.
use mathlib.Core.Path.{refl}
use Rattle.line_zero.proofs.Laws.{wrote_none, wrote_one, wrote_all}
use Rattle.line_zero.proofs.twenty.Goals as goal

pub loop-i-init : goal.loop-i-init
loop-i-init c = wrote_none c.args.n _ refl

pub loop-i-preserved : goal.loop-i-preserved
loop-i-preserved c = wrote_one _ _ _ _ c.loop-i-test.true c.loop-i.invariant

pub returns : goal.returns
returns c = wrote_all _ _ _ _ c.loop-i-test.false c.loop-i.invariant
