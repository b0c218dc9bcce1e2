-- `receiver::entry::drop_all` meets its contract: out of step, the TP dropped.
-- Assumes nothing.
use Rattle.receiver.proofs.entry.drop_all.Goals as goal

pub returns : goal.returns
returns c = rw (c.step_to.ensures, c.start.ensures, c.emptied-none.ensures)
