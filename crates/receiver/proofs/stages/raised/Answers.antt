-- `receiver::stages::raised` meets its contract: a TP is counted at its first call.
-- Assumes nothing.
use Rattle.receiver.proofs.stages.raised.Goals as goal

pub returns-in-Fresh : goal.returns-in-Fresh
returns-in-Fresh c = simp (c.in-Fresh.is, c.counted.ensures)
