-- `golay::end_flips` meets its contract: the nearer end byte is that of the fewer bits.
-- Assumes nothing.
use native.Mathlib.Omega.{arith}
use Rattle.golay.proofs.Ends.{flips_few, flips_many, most}
use Rattle.golay.proofs.end_flips.Goals as goal

pub returns-then-ones-le4 : goal.returns-then-ones-le4
returns-then-ones-le4 c = flips_few c.args.b (omega arith) c.if-ones-le4.true

pub overflow_sub-result : goal.overflow_sub-result
overflow_sub-result c = most c.args.b (omega arith)

pub returns : goal.returns
returns c = flips_many c.args.b (omega arith) (omega arith)
