-- `receiver::judge::handed` meets its contract: the two cases of what is kept.
-- Assumes nothing.
use Rattle.receiver.proofs.judge.handed.Goals as goal

pub returns-in-None : goal.returns-in-None
returns-in-None c = simp (c.in-None.is, c.more.ensures)

pub returns-in-Some : goal.returns-in-Some
returns-in-Some c = simp (c.in-Some.is, c.stop.ensures, c.emptied.ensures)
