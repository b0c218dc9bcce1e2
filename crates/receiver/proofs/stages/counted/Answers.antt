-- `receiver::stages::counted` meets its contract: a TP is counted at its first call.
-- Assumes nothing.
use Rattle.receiver.proofs.stages.counted.Goals as goal

pub returns : goal.returns
returns c = rw c.raised.ensures
