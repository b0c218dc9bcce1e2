-- `receiver::judge::holds` meets its contract: the two cases of what is kept.
-- Assumes nothing.
use Rattle.receiver.proofs.judge.holds.Goals as goal

pub returns-in-Some : goal.returns-in-Some
returns-in-Some c = simp c.in-Some.is
