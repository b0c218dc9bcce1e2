-- `golay::syndrome_of` meets its contract.
-- Assumes nothing.
use Rattle.golay.specs.Golay.{syndrome}
use Rattle.golay.proofs.syndrome_of.Goals as goal

pub returns : goal.returns
unfolding syndrome
returns c = rw c.number.ensures
