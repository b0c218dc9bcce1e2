-- `receiver::found` meets its contract: each find names its stretch.
-- Assumes nothing.
use Rattle.receiver.proofs.found.Goals as goal

pub returns-in-Low : goal.returns-in-Low
returns-in-Low c = simp (c.in-Low.is, c.part-in-Low.ensures)

pub returns-in-Ordinary : goal.returns-in-Ordinary
returns-in-Ordinary c = simp (c.in-Ordinary.is, c.part-in-Ordinary.ensures)
