-- `receiver::stages::own_stamps` meets its contract: by the receiver's own count.
-- Assumes nothing.
use Rattle.receiver.proofs.stages.own_stamps.Goals as goal

pub returns : goal.returns
returns c = rw (c.own-2.ensures, c.own.ensures, c.counted-c.ensures)
