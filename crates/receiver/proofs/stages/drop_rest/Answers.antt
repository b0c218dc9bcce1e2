-- `receiver::stages::drop_rest` meets its contract: out of step, the rest dropped.
-- Assumes nothing.
use Rattle.receiver.proofs.stages.drop_rest.Goals as goal

pub returns : goal.returns
returns c = rw (c.step_to.ensures, c.emptied-none.ensures)
