-- `receiver::pending` meets its contract: what is kept first.
-- Assumes nothing.
use Rattle.receiver.proofs.pending.Goals as goal

pub returns-in-None : goal.returns-in-None
returns-in-None c = simp (c.in-None.is, c.under_way.ensures)

pub returns-in-Some : goal.returns-in-Some
returns-in-Some c = simp c.in-Some.is
