-- `receiver::over::behind` meets its contract. Assumes nothing.
use Rattle.receiver.proofs.over.behind.Goals as goal

pub returns : goal.returns
returns c = rw c.counted.ensures
