-- `receiver::judge::meets` meets its contract: each kind is one of the definition's cases.
-- Assumes nothing.
use Rattle.receiver.proofs.judge.meets.Goals as goal

pub returns-in-Middle : goal.returns-in-Middle
returns-in-Middle c = simp (c.in-Middle.is, c.holds.ensures)

pub returns-in-Last : goal.returns-in-Last
returns-in-Last c = simp (c.in-Last.is, c.holds-in-Last.ensures)
