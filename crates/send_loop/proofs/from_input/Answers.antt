-- `send_loop::from_input`: the loop begins with what `open` gives.
-- Assumes nothing.
use Rattle.send_loop.specs.Whole.{begins}
use Rattle.send_loop.proofs.from_input.Goals as goal

pub run_lent-requires-clause-before : goal.run_lent-requires-clause-before
run_lent-requires-clause-before c = let o = c.in-Ok.ensures in (o.0, begins _ o.1)
