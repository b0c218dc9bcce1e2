-- `receiver::fresh` meets its contract: out of step, with nothing begun.
-- Assumes nothing.
use native.Mathlib.Omega.{arith}
use Rattle.receiver.proofs.fresh.Goals as goal

pub returns : goal.returns
returns c = (rw (c.start.ensures, c.own.ensures), record { size = c.requires; walk = record { at = omega arith; phase = omega arith }; stage = omega arith })
