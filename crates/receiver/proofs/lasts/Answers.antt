-- `receiver::lasts` meets its contract: the find's case decides.
-- Assumes nothing.
use Rattle.receiver.proofs.lasts.Goals as goal

pub returns-in-Notice : goal.returns-in-Notice
returns-in-Notice c = rw c.in-Notice.is
