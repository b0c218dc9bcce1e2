-- `golay::end_of` meets its contract: the count of ones decides.
-- Assumes nothing.
use native.Mathlib.Omega.{arith}
use Rattle.golay.proofs.Ends.{at_most_three, at_least_five, just_four}
use Rattle.golay.proofs.end_of.Goals as goal

pub returns-then-ones-le3 : goal.returns-then-ones-le3
returns-then-ones-le3 c = at_most_three c.args.b (omega arith) c.if-ones-le3.true

pub returns-then-ones-ge5 : goal.returns-then-ones-ge5
returns-then-ones-ge5 c = at_least_five c.args.b (omega arith) c.if-ones-ge5.true

pub returns : goal.returns
returns c = just_four c.args.b (omega arith) (omega arith) (omega arith)
